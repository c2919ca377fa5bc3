-- The counts and the buffer after the slots passed, and the clock moved on by them. Assumes nothing.
use Prim.Native.Nat.{◌+◌}
use mathlib.Core.Path.{◌≡◌}
use lib.ListN.{length, replicate}
use Rattle.dispatch.proofs.Running.{Given}
use Rattle.dispatch.specs.View.{view_of}
use Rattle.dispatch.proofs.runs.give.Given as goal

abbrev pub invariant-loop-i : goal.invariant-loop-i
invariant-loop-i l =
    record {
      clock : l.state.clock ≡ l.initial.state.clock + l.i;
      given : Given (view_of l.plan.plan) l.plan.plan.cores l.initial.state.clock (replicate (length l.supplies) l.setting) l.supplies l.declines
          l.initial.state.left l.initial.out l.state.left l.out l.i;
    }
