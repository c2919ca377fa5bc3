-- It is the choice among the nodes passed, and one of them. Assumes nothing.
use Prim.Native.Nat.{◌<◌}
use mathlib.Core.Path.{◌≡◌}
use Rattle.std.proofs.Common.{IfSome}
use Rattle.dispatch.specs.View.{view_of}
use Rattle.dispatch.specs.Choice.{picked, choose_to}
use Rattle.dispatch.specs.Words.{passed_by}
use Rattle.dispatch.proofs.picks.Round.choice.Given as goal

abbrev pub invariant-loop-i : goal.invariant-loop-i
invariant-loop-i l =
    IfSome l.best (λ i. i < l.i) × (picked l.best ≡ choose_to (view_of l.self.plan.plan) l.left (passed_by l.self) l.x l.i)
