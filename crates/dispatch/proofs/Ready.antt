-- What holds of a node's count at its served C, and of one less, holds of it after any slots: so no node has more left than its served C, and a state that
-- is handed back is ready again. Assumes nothing.
use Prim.Native.Nat.{ℕ, zero, suc, ◌+◌, ◌-◌, ◌%◌, ◌^◌, ◌≤◌, ◌<◌}
use mathlib.Core.Bool.{Bool, true, false, cond}
use mathlib.Core.List.{List}
use mathlib.Core.Path.{◌≡◌, refl}
use lib.Dec.{leb}
use lib.ListN.{length, get_or}
use borrow.Author.Tests.{le-leb, leb-true}
use native.Mathlib.Decide.{ℕ_discrete, dec_lt}
use native.Mathlib.Omega.{arith}
use Rattle.plans.proofs.All.{left_true, right_true, all_true, all_true_at}
use Rattle.plans.proofs.Kept.{sound_kept}
use Rattle.plans.specs.declared.Parent.{Parent}
use Rattle.plans.specs.declared.Parent.TheVariants.{Supply, Node as Under}
use Rattle.plans.specs.declared.Plan.{Plan}
use Rattle.rules.specs.Check.{is_fit}
use Rattle.dispatch.proofs.Choices.{choice_below}
use Rattle.dispatch.proofs.Refusals.{fits_sound, done_tests}
use Rattle.dispatch.proofs.Slots.{refilled_due, refilled_kept, refilled_past, charge_same, charge_other}
use Rattle.dispatch.proofs.SlotsFresh.{fresh_count}
use Rattle.dispatch.specs.View.{View, view_of, bit_of}
use Rattle.dispatch.specs.Choice.{Pick, nobody, just, choose}
use Rattle.dispatch.specs.Passed.{passed_over}
use Rattle.dispatch.specs.Slot.{WalkEnd, SlotEnd, refilled, charge, follow, walk, granting, serve_core, serve_to, slot}
use Rattle.dispatch.specs.Run.{
  done,
  refused,
  Standing,
  RunEnd,
  fresh_state,
  zero_state,
  left_within,
  ready,
  roomy,
  in_time,
  outcome,
  course_to,
  course_by,
  course,
  started,
  ran,
  stepped,
}
use Rattle.dispatch.specs.Ready.{FreshReady, RunReady, StepReady}
use Rattle.dispatch.specs.declared.Setting.{Setting}
use Rattle.dispatch.specs.declared.Setting.TheVariants.{Off}

-- what holds of every node's count
abbrev pub Each : (ℕ → ℕ → Type 0) → List ℕ → Type 0
Each P left = (i : ℕ) → P i (get_or left i 0)

-- P holds of the served C of each node that is there, and where it holds of a count, of one less
module _ (v : View) (P : ℕ → ℕ → Type 0) (full : (i : ℕ) → i < v.size → P i (v.c i)) (less : (i x : ℕ) → i < v.size → P i x → P i (x - 1)) where
  -- so where it holds of every count, it does after a refill,
  each_refilled : (n : ℕ) (left : List ℕ) → Each P left → Each P (refilled v n left)
  each_refilled n left h i = go (dec_lt i v.size) (ℕ_discrete (n % v.t i) 0) (dec_lt i (length left))
    where
      go : Dec (i < v.size) → Dec (n % v.t i ≡ 0) → Dec (i < length left) → P i (get_or (refilled v n left) i 0)
      go (yes l) (yes due) (yes here) = rw (refilled_due v n left i l here due) (full i l)
      go (yes l) (yes due) (no past) = rw (refilled_past v n left i (omega arith)) (h i)
      go (yes l) (no kept) here = rw (refilled_kept v n left i (λ m. kept)) (h i)
      go (no past) due here = rw (refilled_kept v n left i (λ m. absurd (past m))) (h i)

  -- after the charge of a node that is there,
  each_charge : (left : List ℕ) (k : ℕ) → k < v.size → Each P left → Each P (charge left k)
  each_charge left k l h i = go (ℕ_discrete i k)
    where
      go : Dec (i ≡ k) → P i (get_or (charge left k) i 0)
      go (yes e) = rw (e, charge_same left k) (less k (get_or left k 0) l (h k))
      go (no other) = rw (charge_other left k i other) (h i)

  module _ (passed : ℕ → Bool) where
    -- after what follows a choice, where it does after the walk below a host,
    each_follow : (onward : Parent → List ℕ → WalkEnd) → ((x : Parent) (left : List ℕ) → Each P left → Each P (onward x left).left) →
        (left : List ℕ) → Each P left → (w : Pick) → ((i : ℕ) → w ≡ just i → i < v.size) → Each P (follow v onward left w).left
    unfolding follow
    each_follow onward keeps left h nobody there = h
    each_follow onward keeps left h (just k) there = go (v.leaf k)
      where
        go : (b : Bool) → Each P (cond b (record { grant = k; left = charge left k }) (onward (Under k) (charge left k))).left
        go true = each_charge left k (there k refl) h
        go false = keeps (Under k) (charge left k) (each_charge left k (there k refl) h)

    -- after a walk,
    each_walk : (levels : ℕ) (x : Parent) (left : List ℕ) → Each P left → Each P (walk v passed levels x left).left
    unfolding walk
    each_walk zero x left h = h
    each_walk (suc levels) x left h =
        each_follow (walk v passed levels) (each_walk levels) left h (choose v left passed x) (λ i e. choice_below v left passed x i e)

    module _ (supplied : ℕ) where
      -- after a core,
      each_core : (so : SlotEnd) (s : ℕ) → Each P so.left → Each P (serve_core v supplied passed so s).left
      unfolding serve_core granting
      each_core so s h = go (bit_of supplied s)
        where
          go : (b : Bool) → Each P (cond b (granting so s (walk v passed 8 (Supply s) so.left)) so).left
          go true = each_walk 8 (Supply s) so.left h
          go false = h

      -- after the first k cores,
      each_serve : (so : SlotEnd) (k : ℕ) → Each P so.left → Each P (serve_to v supplied passed so k).left
      unfolding serve_to
      each_serve so zero h = h
      each_serve so (suc k) h = each_core (serve_to v supplied passed so k) k (each_serve so k h)

  -- after a slot,
  pub each_slot : (setting : Setting) (cores n supplied declines : ℕ) (left : List ℕ) → Each P left →
      Each P (slot setting v cores n supplied declines left).left
  unfolding slot
  each_slot setting cores n supplied declines left h =
      each_serve (passed_over setting v (refilled v n left) declines) supplied _ cores (each_refilled n left h)

  -- and after the first k slots of a run
  pub each_course : (cores n : ℕ) (settings : List Setting) (supplies declines left : List ℕ) → Each P left → (k : ℕ) →
      Each P (course_to v cores n settings supplies declines left k).left
  unfolding course_to
  each_course cores n settings supplies declines left h zero = h
  each_course cores n settings supplies declines left h (suc k) =
      each_slot (get_or settings k Off) cores (n + k) (get_or supplies k 0) (get_or declines k 0) _ (each_course cores n settings supplies declines left h k)

-- node i, where it is there, has so many left at most
abbrev Within : View → ℕ → ℕ → Type 0
Within v i x = i < v.size → x ≤ v.c i

-- no node has more left than its served C after the first k slots of a run, where none has before it
within_course : (v : View) (cores n : ℕ) (settings : List Setting) (supplies declines left : List ℕ) → Each (Within v) left → (k : ℕ) →
    Each (Within v) (course_to v cores n settings supplies declines left k).left
within_course v = each_course v (Within v) (λ i l m. omega arith) (λ i x l h m. omega (arith, h m))

module _ (plan : Plan) (state : Standing) where
  -- a plan and a state are ready where the plan is fit, the clock is in its range and no node has too many left
  within_ready : is_fit plan ≡ true → state.clock ≤ 2 ^ 40 → Each (Within (view_of plan)) state.left → ready plan state ≡ true
  unfolding ready left_within
  within_ready fit early h =
      rw (fit, le-leb state.clock (2 ^ 40) early, all_true (left_within plan state.left) plan.size (λ i l. le-leb _ _ (h i l)))

  module _ (e : ready plan state ≡ true) where
    -- and only there: the plan is fit,
    pub ready_fit : is_fit plan ≡ true
    unfolding ready
    ready_fit = left_true (is_fit plan) _ e

    -- and no node has too many left
    ready_within : Each (Within (view_of plan)) state.left
    unfolding ready left_within
    ready_within i l =
        leb-true _ _ (all_true_at (left_within plan state.left) plan.size (right_true (leb state.clock (2 ^ 40)) _ (right_true (is_fit plan) _ e)) i l)

  -- where they are, no run and no step is refused by 16
  pub ready_taken : ready plan state ≡ true → (k declines room : ℕ) → outcome plan state k declines room ≡ refused 16 → ⊥
  unfolding outcome
  ready_taken is k declines room = go (ready plan state) (roomy plan k declines room) (in_time state.clock k) is
    where
      go : (a b c : Bool) → a ≡ true → cond a (cond b (cond c done (refused 15)) (refused 17)) (refused 16) ≡ refused 16 → ⊥
      go true true true e h = let z : ◌≡◌ {A = ℕ} 0 1 = cc in omega arith
      go true true false e h = let z : ◌≡◌ {A = ℕ} 15 16 = cc in omega arith
      go true false c e h = let z : ◌≡◌ {A = ℕ} 17 16 = cc in omega arith
      go false b c e h = let z : ◌≡◌ {A = ℕ} 0 1 = cc in omega arith

-- a fresh state is ready
pub fresh_ready : FreshReady
unfolding started
fresh_ready plan = go (is_fit plan) refl
  where
    go : (b : Bool) → is_fit plan ≡ b →
        let r : RunEnd = cond b (record { outcome = done; state = fresh_state plan }) (record { outcome = refused 16; state = zero_state }) in
        r.outcome ≡ done → ready plan r.state ≡ true
    go true fit e =
        let few : plan.size ≤ 64 = (sound_kept plan (fits_sound plan fit)).sixty_four_nodes in
        within_ready plan (fresh_state plan) fit (omega arith) (λ i l. omega (arith, fresh_count (view_of plan) i (omega arith) l))
    go false fit e = absurd (let z : ◌≡◌ {A = ℕ} 0 1 = cc in omega arith)

-- what is ready before a run that is done is so after it
pub run_ready : RunReady
unfolding ran course course_by in_time
run_ready setting plan state supplies declines room e =
    rw e
    (within_ready plan _ (ready_fit plan state is) (leb-true (state.clock + length supplies) (2 ^ 40) tests.2)
    (within_course (view_of plan) _ _ _ supplies declines state.left (ready_within plan state is) (length supplies)))
  where
    tests : (ready plan state ≡ true) × (roomy plan (length supplies) (length declines) room ≡ true) × (in_time state.clock (length supplies) ≡ true)
    tests = done_tests plan state (length supplies) (length declines) room e

    is : ready plan state ≡ true
    is = tests.0

-- and so it is after a step that is done
pub step_ready : StepReady
unfolding stepped
step_ready setting plan state supplied declines e = run_ready setting plan state _ _ 8 e
