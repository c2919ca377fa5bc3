-- `plans::soundness::are_nodes_sound` meets its contract. Assumes nothing.
use Rattle.std.proofs.Common.{rules, tests, refl}
use Rattle.plans.specs.Sound.{sound_node}
use Rattle.plans.proofs.All.{all_of_range}
use Rattle.plans.proofs.soundness.are_nodes_sound.Goals as goal

pub returns : goal.returns
returns c = all_of_range (sound_node c.args.plan.now) c.args.plan.now.size c.all.ensures.ran refl (λ x b q k. search (rules, tests))
