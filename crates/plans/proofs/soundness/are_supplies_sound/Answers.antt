-- `plans::soundness::are_supplies_sound` meets its contract. Assumes nothing.
use Rattle.std.proofs.Common.{rules, tests, refl}
use Rattle.plans.specs.Sound.{sound_supply}
use Rattle.plans.proofs.All.{all_of_range}
use Rattle.plans.proofs.soundness.are_supplies_sound.Goals as goal

pub returns : goal.returns
unfolding sound_supply
returns c = all_of_range (sound_supply c.args.plan.now) c.args.plan.now.cores c.all.ensures.ran refl (λ x b q k. search (rules, tests))
