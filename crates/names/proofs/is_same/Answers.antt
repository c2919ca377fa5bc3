-- `names::is_same` compares the length bytes and the bytes after them.
use Rattle.std.proofs.Common.{rules, tests}
use Rattle.names.specs.Names.{agrees_at, same_name}
use Rattle.plans.proofs.All.{all_of_range}
use Rattle.names.proofs.is_same.Goals as goal

pub returns : goal.returns
unfolding same_name agrees_at
returns c = all_of_range (agrees_at c.args.s.now c.args.a c.args.b) _ c.all.ensures.ran (search rules) (λ j r q k. search (rules, tests))
