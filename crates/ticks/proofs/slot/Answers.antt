-- `ticks::slot` meets its contract: the closed form says what the sentence does. Assumes nothing.
use Rattle.std.proofs.Common.{arith}
use Rattle.std.proofs.lemmas.Grind.{common_steps}
use Rattle.ticks.specs.Times.{timed, limited}
use Rattle.ticks.proofs.Kept.{closed_form_said}
use Rattle.ticks.proofs.slot.Goals as goal

pub returns-in_err-t : goal.returns-in_err-t
unfolding timed limited
returns-in_err-t c = (closed_form_said _ _ _).1 (grind (arith, common_steps))

pub returns : goal.returns
unfolding timed limited
returns c = (closed_form_said _ _ _).1 (grind (arith, common_steps))
