-- What specs/Promises.antt says of the switch holds. Assumes nothing.
use mathlib.Core.List.{[], ◌∷◌}
use native.Mathlib.Omega.{arith}
use Rattle.plans.proofs.Parents.{node_depth}
use Rattle.plans.specs.declared.Parent.TheVariants.{Supply}
use Rattle.dispatch.proofs.SlotsDepth.{at_top, at_depth}
use Rattle.dispatch.specs.View.{view_of}
use Rattle.dispatch.specs.Passed.{passed_over}
use Rattle.dispatch.specs.Slot.{refilled, serve_to, slot_start, slot}
use Rattle.dispatch.specs.declared.Setting.TheVariants.{On}
use Rattle.dispatch.specs.Run.{ran, out_after, stepped}
use Rattle.siblings.proofs.Off.{off_course}
use Rattle.siblings.proofs.Leaves.{over_nobody, nobody_over, nobody_none_can, none_can_nobody}
use Rattle.siblings.proofs.Idle.{answer_nobody, nobody_answer, passed_untouched, idle_untouched}
use Rattle.siblings.proofs.Turns.{turn_untouched}
use Rattle.siblings.proofs.Wasted.{Whole}
use Rattle.siblings.proofs.Skipping.{none_vain}
use Rattle.siblings.proofs.Back.{back_ahead, ahead_back}
use Rattle.siblings.specs.Before as before
use Rattle.siblings.specs.Promises.{OffRuns, OffWrites, OffSteps, VainExactly, NothingWasted, PassedUncharged, IdleUncharged, GoesBack}

-- with the switch off runs end,
pub off_runs : OffRuns
unfolding ran before.ran
off_runs plan state supplies declines room = rw (off_course plan state supplies declines)

-- write,
pub off_writes : OffWrites
unfolding out_after before.out_after
off_writes plan state supplies declines out = rw (off_course plan state supplies declines)

-- and step as before
pub off_steps : OffSteps
unfolding stepped before.stepped
off_steps plan state supplied declines =
    rw (off_runs plan state (supplied ∷ []) (declines ∷ []) 8, off_writes plan state (supplied ∷ []) (declines ∷ []) _)

-- with it on a host is passed over exactly where no leaf beneath it can take the slot
pub vain_exactly : VainExactly
vain_exactly plan sound full declines h l host = (
  λ over. nobody_none_can plan sound full declines (over_nobody plan sound full declines h l host over),
  λ none. nobody_over plan sound full declines h l host (none_can_nobody plan sound full declines (at_depth (node_depth plan sound h l).is) none),
)

-- so a supplied core is idle exactly when no leaf on it can take the slot
pub nothing_wasted : NothingWasted
unfolding slot
nothing_wasted plan sound n supplied declines left s l on =
    let full = refilled (view_of plan) n left in (
      λ e. nobody_none_can plan sound full declines (answer_nobody plan sound full supplied declines s l on e),
      λ none. nobody_answer plan sound full supplied declines s l on (none_can_nobody plan sound full declines at_top none),
    )

-- nobody passed over is charged,
pub passed_uncharged : PassedUncharged
unfolding slot
passed_uncharged setting plan sound n supplied declines left i l over =
    let full = refilled (view_of plan) n left in
    passed_untouched plan sound full supplied (passed_over setting (view_of plan) full declines) i over

-- and with the switch on nobody on an idle core
pub idle_uncharged : IdleUncharged
unfolding slot
idle_uncharged plan sound n supplied declines left s l e i there on =
    idle_untouched plan sound (refilled (view_of plan) n left) supplied declines s l e i on

-- and each core's walk ends as going back literally does
pub goes_back : GoesBack
goes_back plan sound full supplied declines s l w =
    let passed = passed_over On (view_of plan) full declines in
    let whole : Whole plan full (Supply s) (serve_to (view_of plan) supplied passed (slot_start full) s).left =
    λ i there below. turn_untouched plan sound supplied passed full s (omega (arith, sound.eight_cores)) i below in (
      λ ends. back_ahead plan sound full declines ends at_top whole (none_vain passed),
      λ is. rw is (ahead_back plan sound full declines 8 at_top (omega arith) _ whole),
    )
