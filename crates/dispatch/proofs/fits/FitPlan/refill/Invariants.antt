-- The nodes passed are refilled. Assumes nothing.
use mathlib.Core.Path.{◌≡◌}
use Rattle.dispatch.specs.View.{view_of}
use Rattle.dispatch.specs.Slot.{refill_to}
use Rattle.dispatch.proofs.fits.FitPlan.refill.Given as goal

abbrev pub invariant-loop-i : goal.invariant-loop-i
invariant-loop-i l = l.left ≡ refill_to (view_of l.self.plan) l.n l.initial.left l.i
