-- The nodes passed have their served C. Assumes nothing.
use mathlib.Core.Path.{◌≡◌}
use Rattle.dispatch.specs.View.{view_of}
use Rattle.dispatch.specs.Run.{fresh_to}
use Rattle.dispatch.proofs.fits.FitPlan.fresh_left.Given as goal

abbrev pub invariant-loop-i : goal.invariant-loop-i
invariant-loop-i l = l.full ≡ fresh_to (view_of l.self.plan) l.i
