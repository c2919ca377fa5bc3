-- The cores passed are served, and the clock stands. Assumes nothing.
use mathlib.Core.Path.{◌≡◌}
use Rattle.dispatch.specs.View.{view_of}
use Rattle.dispatch.specs.Words.{passed_by}
use Rattle.dispatch.specs.Slot.{slot_end, slot_start, serve_to}
use Rattle.dispatch.proofs.walks.serve.Given as goal

abbrev pub invariant-loop-s : goal.invariant-loop-s
invariant-loop-s l =
    record {
      clock : l.state.clock ≡ l.initial.state.clock;
      served : slot_end l.grants l.state.left ≡
          serve_to (view_of l.round.plan.plan) l.supplied (passed_by l.round) (slot_start l.initial.state.left) l.s;
    }
