-- `names::is_new` compares name i with each before it.
use Rattle.std.proofs.Common.{rules, tests}
use Rattle.names.specs.Names.{differs, is_new}
use Rattle.plans.proofs.All.{all_of_range}
use Rattle.names.proofs.is_new.Goals as goal

pub returns : goal.returns
unfolding is_new differs
returns c = all_of_range (differs c.args.s.now c.args.i) _ c.all.ensures.ran (search rules) (λ j r q k. search (rules, tests))
