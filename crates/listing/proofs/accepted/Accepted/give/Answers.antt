-- `Accepted::give` meets its contract: a fresh start and the run are done. Assumes nothing.
use Rattle.std.proofs.Common.{rules}
use Rattle.listing.proofs.SlotLines.{fresh_done, ran_done, slots_given}
use Rattle.listing.proofs.accepted.Accepted.give.Goals as goal

pub unwrap-state-requires : goal.unwrap-state-requires
unwrap-state-requires c = search (rules, fresh_done)

pub unwrap-requires : goal.unwrap-requires
unwrap-requires c = search (rules, ran_done)

pub returns : goal.returns
returns c = search (rules, slots_given)
