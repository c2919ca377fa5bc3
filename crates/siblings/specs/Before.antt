-- Giving out slots as document 01 alone has it, with no setting: the definitions of `dispatch` that request 12 moved, as they stood. They are kept for the
-- statement that with the switch off nothing changed. Assumes nothing.
use Rattle.std.specs.Prelude.{ℕ, zero, suc, ◌+◌, ◌*◌, Bool, not, cond, ◌&&◌, List, [], ◌∷◌, ◌++◌, ltb, length, get_or, take, replicate}
use Rattle.plans.specs.Plan.{same}
use Rattle.plans.specs.declared.Parent.{Parent}
use Rattle.plans.specs.declared.Parent.TheVariants.{Supply}
use Rattle.plans.specs.declared.Plan.{Plan}
use Rattle.dispatch.specs.View.{View, view_of, bit_of}
use Rattle.dispatch.specs.Choice.{Pick, nobody, prefer}
use Rattle.dispatch.specs.Slot.{WalkEnd, SlotEnd, refilled, idle, unsupplied, follow, granting}
use Rattle.dispatch.specs.Run.{Standing, RunEnd, StepEnd, Course, outcome, state_by, out_by}

-- 01: "among its children with slots left, leaves that decline passed over": whether node i may be taken under x
unfoldable pub eligible : View → List ℕ → ℕ → Parent → ℕ → Bool
eligible v left declines x i = same (v.parent i) x && (ltb 0 (get_or left i 0) && not (v.leaf i && bit_of declines i))

-- 01: "take the smallest served T, then the lowest number"
unfoldable pub consider : View → List ℕ → ℕ → Parent → Pick → ℕ → Pick
consider v left declines x best i = cond (eligible v left declines x i) (prefer v best i) best

unfoldable pub choose_to : View → List ℕ → ℕ → Parent → ℕ → Pick
choose_to v left declines x zero = nobody
choose_to v left declines x (suc k) = consider v left declines x (choose_to v left declines x k) k

unfoldable pub choose : View → List ℕ → ℕ → Parent → Pick
choose v left declines x = choose_to v left declines x v.size

-- 01: "so the walk goes down at most eight levels"
unfoldable pub walk : View → ℕ → ℕ → Parent → List ℕ → WalkEnd
walk v declines zero x left = record { grant = idle; left = left }
walk v declines (suc levels) x left = follow v (walk v declines levels) left (choose v left declines x)

-- 01: "For a supplied core"
unfoldable pub serve_core : View → ℕ → ℕ → SlotEnd → ℕ → SlotEnd
serve_core v supplied declines so s = cond (bit_of supplied s) (granting so s (walk v declines 8 (Supply s) so.left)) so

unfoldable pub serve_to : View → ℕ → ℕ → SlotEnd → ℕ → SlotEnd
serve_to v supplied declines so zero = so
serve_to v supplied declines so (suc k) = serve_core v supplied declines (serve_to v supplied declines so k) k

unfoldable pub slot : View → ℕ → ℕ → ℕ → ℕ → List ℕ → SlotEnd
slot v cores n supplied declines left =
    serve_to v supplied declines (record { grants = replicate 8 unsupplied; left = refilled v n left }) cores

-- 01: "slot by slot, supplies in order"
unfoldable pub course_to : View → ℕ → ℕ → List ℕ → List ℕ → List ℕ → ℕ → Course
course_to v cores n supplies declines left zero = record { left = left; answers = [] }
course_to v cores n supplies declines left (suc i) =
    let so = course_to v cores n supplies declines left i in
    let next = slot v cores (n + i) (get_or supplies i 0) (get_or declines i 0) so.left in
    record { left = next.left; answers = so.answers ++ take cores next.grants }

unfoldable pub course : Plan → Standing → List ℕ → List ℕ → Course
course plan state supplies declines =
    course_to (view_of plan) plan.cores state.clock supplies declines state.left (length supplies)

-- a run: its outcome, the state that it hands back, and the buffer afterwards
unfoldable pub ran : Plan → Standing → List ℕ → List ℕ → ℕ → RunEnd
ran plan state supplies declines room =
    let o = outcome plan state (length supplies) (length declines) room in
    record { outcome = o; state = state_by o state (length supplies) (course plan state supplies declines) }

unfoldable pub out_after : Plan → Standing → List ℕ → List ℕ → List ℕ → List ℕ
out_after plan state supplies declines out =
    out_by (outcome plan state (length supplies) (length declines) (length out)) (length supplies * plan.cores)
    (course plan state supplies declines) out

-- a step
unfoldable pub stepped : Plan → Standing → ℕ → ℕ → StepEnd
stepped plan state supplied declines =
    let run = ran plan state (supplied ∷ []) (declines ∷ []) 8 in
    record {
      outcome = run.outcome;
      state = run.state;
      grants = out_after plan state (supplied ∷ []) (declines ∷ []) (replicate 8 unsupplied);
    }
