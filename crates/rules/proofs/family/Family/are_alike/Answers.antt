use Rattle.std.proofs.Common.{rules, refl}
use Rattle.plans.proofs.All.{all_of_range}
use Rattle.rules.specs.Check.{alike}
use Rattle.rules.proofs.family.Family.are_alike.Goals as goal

pub returns : goal.returns
returns c = all_of_range (alike c.args.self.now.plan c.args.self.now.parent c.args.i) c.args.i c.all.ensures.ran refl (λ x b q k. search rules)
