-- `soft::Leaf::loses_few` meets its contract. Assumes nothing.
use Rattle.soft.proofs.Judged.{lost_fits, holds_few, short_many, never_refused}
use Rattle.soft.proofs.Leaf.loses_few.Goals as goal

pub overflow_sub-kept : goal.overflow_sub-kept
overflow_sub-kept c = search lost_fits

pub returns-in-Ok-Holds : goal.returns-in-Ok-Holds
returns-in-Ok-Holds c = search holds_few

pub returns-in_default : goal.returns-in_default
returns-in_default c = search short_many

pub returns-in_default-2 : goal.returns-in_default-2
returns-in_default-2 c = search never_refused
