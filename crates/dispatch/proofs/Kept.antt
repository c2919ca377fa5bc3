-- What specs/Promises.antt says of the choice, of counts, of steps and of runs holds. Assumes nothing.
use Prim.Native.Nat.{ℕ, zero, suc, ◌+◌, ◌<◌}
use mathlib.Core.Bool.{Bool, true, false}
use mathlib.Core.List.{List, ◌++◌, append-nil, append_assoc}
use mathlib.Core.Path.{◌≡◌, refl, sym, ap, ◌∙◌}
use lib.ListN.{length, get_or, get_or-append}
use lib.Seq.{get_or-append-add}
use native.Mathlib.Nat.{add-zero, add-suc, add_assoc, le_refl}
use native.Mathlib.Omega.{arith}
use Rattle.std.proofs.Common.{Ok, Err}
use Rattle.rules.proofs.Kept.{fits_exactly}
use Rattle.rules.specs.Check.{is_fit}
use Rattle.rules.specs.Fit.{Fit}
use Rattle.dispatch.proofs.Choices.{eligible_under, eligible_left, eligible_child, eligible_willing, choice_chosen, choice_none, chosen_choice, none_choice}
use Rattle.dispatch.proofs.Slots.{length_refilled, refilled_due, refilled_kept}
use Rattle.dispatch.proofs.SlotsFresh.{length_fresh, fresh_count, fresh_past}
use Rattle.dispatch.proofs.SlotsDepth.{at_top, walk_enough}
use Rattle.dispatch.proofs.Running.{course_one, grants_whole}
use Rattle.dispatch.proofs.Passing.{is_nobody_lem, nobody_is, leaf_passed, host_kept, host_fixed}
use Rattle.dispatch.specs.View.{View, view_of}
use Rattle.dispatch.specs.Passed.{passed_over, levels_down}
use Rattle.dispatch.specs.Run.{refused, number, said, standing, Standing, RunEnd, StepEnd, zero_state, started, Course, course_to, ran, out_after, stepped}
use Rattle.dispatch.specs.Promises.{MayExactly, PassedExactly, ChoiceExactly, RefillExactly, FreshEnd, FreshExactly, EightLevels, RunsJoin, StepIsSlot, OneOutcome, OneFreshEnd, OneRunEnd, OneStepEnd}
use Rattle.dispatch.specs.declared.Setting.{Setting}
use Rattle.dispatch.specs.declared.Setting.TheVariants.{Off}
use Rattle.dispatch.specs.declared.Refusal.{Refusal}
use Rattle.dispatch.specs.declared.State.{State}
use Rattle.dispatch.specs.declared.Refusal.TheVariants.{Beyond, Unfit, Misfit}

-- children with slots left may be taken, but for those passed over, and nobody else
pub may_exactly : MayExactly
may_exactly v left passed x i = (
  λ may.
      record {
        child = eligible_under v left passed x i may;
        some = eligible_left v left passed x i may;
        willing = eligible_willing v left passed x i may;
      },
  λ may. eligible_child v left passed x i may.child may.some may.willing,
)

-- who is passed over, with no word of levels
pub passed_exactly : PassedExactly
unfolding passed_over
passed_exactly setting plan sound left declines i l =
    record {
      leaf = λ leaf.
          let is = leaf_passed (view_of plan) left declines (levels_down setting) i leaf in
          (λ h. sym is ∙ h, λ h. is ∙ h);
      off = λ host e. rw e (host_kept (view_of plan) left declines i host);
      on = λ host e.
          let is = host_fixed plan sound left declines i l host in
          rw e (λ h. is_nobody_lem _ (sym is ∙ h), λ h. is ∙ nobody_is _ h);
    }

-- the choice is the one that the sentence names, and nobody exactly when nobody may be taken
pub choice_exactly : ChoiceExactly
choice_exactly v left passed x =
    (λ i. (choice_chosen v left passed x i, chosen_choice v left passed x i), (choice_none v left passed x, none_choice v left passed x))

-- a refill is what document 01 says, entry by entry
pub refill_exactly : RefillExactly
refill_exactly v n left =
    record {
      many = length_refilled v n left;
      due = refilled_due v n left;
      kept = λ i l no. refilled_kept v n left i (λ m. no);
      past = λ i l. refilled_kept v n left i (λ m. absurd (omega arith));
    }

-- and so is a fresh start
pub fresh_exactly : FreshExactly
unfolding started
fresh_exactly plan = (given, λ unfit. refused_start (is_fit plan) refl unfit)
  where
    given : Fit plan → FreshEnd plan (started plan)
    given fit =
        let is : is_fit plan ≡ true = (fits_exactly plan).1 fit in
        rw is
        (record {
          outcome = refl;
          clock = refl;
          many = length_fresh (view_of plan);
          counts = λ i l. fresh_count (view_of plan) i (omega (arith, fit.sound.sixty_four_nodes)) l;
          past = fresh_past (view_of plan);
        })

    refused_start : (b : Bool) → is_fit plan ≡ b → (Fit plan → ⊥) → started plan ≡ record { outcome = refused 16; state = zero_state }
    refused_start true e unfit = absurd (unfit ((fits_exactly plan).0 e))
    refused_start false e unfit = rw e

-- eight levels are enough from a supply
pub eight_levels : EightLevels
eight_levels plan sound passed more s left = walk_enough plan sound passed 8 more at_top (omega arith) left

module _ (v : View) (cores n : ℕ) where
  -- the first k slots of a run are told by the first k inputs
  pub course_local : (settings settings' : List Setting) (supplies declines supplies' declines' left : List ℕ) (k : ℕ) →
      ((i : ℕ) → i < k → get_or settings i Off ≡ get_or settings' i Off) →
      ((i : ℕ) → i < k → get_or supplies i 0 ≡ get_or supplies' i 0) → ((i : ℕ) → i < k → get_or declines i 0 ≡ get_or declines' i 0) →
      course_to v cores n settings supplies declines left k ≡ course_to v cores n settings' supplies' declines' left k
  unfolding course_to
  course_local settings settings' supplies declines supplies' declines' left zero a s d = refl
  course_local settings settings' supplies declines supplies' declines' left (suc k) a s d =
      let before =
      course_local settings settings' supplies declines supplies' declines' left k (λ i l. a i (omega arith)) (λ i l. s i (omega arith))
      (λ i l. d i (omega arith)) in
      rw (before, a k (le_refl (suc k)), s k (le_refl (suc k)), d k (le_refl (suc k)))

-- one course after another: the counts of the second, and the answers of both
unfoldable after : Course → Course → Course
after one two = record { left = two.left; answers = one.answers ++ two.answers }

-- what stands behind a list that is m long
behind : {A : Type 0} (a b : List A) (m k : ℕ) (d : A) → length a ≡ m → get_or (a ++ b) (m + k) d ≡ get_or b k d
behind a b m k d e = ap (λ x. get_or (a ++ b) (x + k) d) (sym e) ∙ get_or-append-add a b k d

module _ (v : View) (cores n : ℕ) (settings settings' : List Setting) (supplies declines supplies' declines' left : List ℕ)
    (set : length settings ≡ length supplies) (alike : length supplies ≡ length declines) where
  -- so many slots and k more are the two courses, one after the other
  joined : (k : ℕ) →
      course_to v cores n (settings ++ settings') (supplies ++ supplies') (declines ++ declines') left (length supplies + k) ≡
      after (course_to v cores n settings supplies declines left (length supplies))
      (course_to v cores (n + length supplies) settings' supplies' declines' (course_to v cores n settings supplies declines left (length supplies)).left k)
  unfolding course_to after
  joined zero =
      rw (add-zero (length supplies), append-nil (course_to v cores n settings supplies declines left (length supplies)).answers)
      (course_local v cores n (settings ++ settings') settings (supplies ++ supplies') (declines ++ declines') supplies declines left (length supplies)
      (λ i l. get_or-append settings settings' Off i (omega (arith, set)))
      (λ i l. get_or-append supplies supplies' 0 i l) (λ i l. get_or-append declines declines' 0 i (omega (arith, alike))))
  joined (suc k) =
      let has = behind settings settings' (length supplies) k Off set in
      let declined = behind declines declines' (length supplies) k 0 (sym alike) in
      rw (add-suc (length supplies) k, joined k, has, get_or-append-add supplies supplies' k 0, declined, ← (add_assoc n (length supplies) k), append_assoc)

-- slots a + b in number are a of them followed by b
pub runs_join : RunsJoin
unfolding after
runs_join v cores n settings settings' supplies declines supplies' declines' left set alike =
    joined v cores n settings settings' supplies declines supplies' declines' left set alike (length supplies')

-- a step that is done is one slot
pub step_is_slot : StepIsSlot
unfolding stepped ran out_after
step_is_slot setting plan state supplied declined ends =
    let one = course_one setting plan state supplied declined in
    rw (ends, one, grants_whole setting plan state supplied declined)

-- two refusals with one number are the same
one_number : (r q : Refusal) → number r ≡ number q → r ≡ q
one_number Beyond Beyond h = refl
one_number Beyond Unfit h = absurd (omega arith)
one_number Beyond Misfit h = absurd (omega arith)
one_number Unfit Beyond h = absurd (omega arith)
one_number Unfit Unfit h = refl
one_number Unfit Misfit h = absurd (omega arith)
one_number Misfit Beyond h = absurd (omega arith)
one_number Misfit Unfit h = absurd (omega arith)
one_number Misfit Misfit h = refl

-- so two results that say the same are the same
pub one_outcome : OneOutcome
one_outcome (Ok x) (Ok y) e = refl
one_outcome (Ok x) (Err r) e = cc
one_outcome (Err r) (Ok x) e = cc
one_outcome (Err r) (Err q) e = ap Err (one_number r q cc)

-- so are two states that stand alike,
the_state : Standing → State
the_state s = record { clock = s.clock; left = s.left }

one_standing : (s t : State) → standing s ≡ standing t → s ≡ t
unfolding the_state
one_standing s t e = ap the_state e

-- two starts that end alike,
pub one_fresh_end : OneFreshEnd
one_fresh_end (Ok s) (Ok t) e = ap Ok (one_standing s t (ap (λ (r : RunEnd). r.state) e))
one_fresh_end (Ok s) (Err r) e = let words = ap (λ (r : RunEnd). r.outcome) e in cc
one_fresh_end (Err r) (Ok s) e = let words = ap (λ (r : RunEnd). r.outcome) e in cc
one_fresh_end (Err r) (Err q) e =
    let words : refused (number r) ≡ refused (number q) = ap (λ (r : RunEnd). r.outcome) e in
    let numbers : number r ≡ number q = cc in
    ap Err (one_number r q numbers)

-- two runs,
pub one_run_end : OneRunEnd
one_run_end a b s t e = (one_outcome a b (ap (λ (r : RunEnd). r.outcome) e), one_standing s t (ap (λ (r : RunEnd). r.state) e))

-- and two steps
pub one_step_end : OneStepEnd
one_step_end (Ok g) (Ok h) s t e = (ap Ok (ap (λ (r : StepEnd). r.grants) e), one_standing s t (ap (λ (r : StepEnd). r.state) e))
one_step_end (Ok g) (Err r) s t e = let words = ap (λ (r : StepEnd). r.outcome) e in cc
one_step_end (Err r) (Ok g) s t e = let words = ap (λ (r : StepEnd). r.outcome) e in cc
one_step_end (Err r) (Err q) s t e =
    let words : refused (number r) ≡ refused (number q) = ap (λ (r : StepEnd). r.outcome) e in
    let numbers : number r ≡ number q = cc in
    (ap Err (one_number r q numbers), one_standing s t (ap (λ (r : StepEnd). r.state) e))
