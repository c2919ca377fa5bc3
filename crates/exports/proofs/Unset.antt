-- A setting that is neither 0 nor 1 is refused by 5, and nothing else is: what specs/Promises.antt says of steps and runs. Assumes nothing.
use Prim.Native.Nat.{ℕ, ◌≤◌, ◌<◌}
use mathlib.Core.Bool.{Bool, true, false, cond, ◌&&◌}
use mathlib.Core.List.{List}
use mathlib.Core.Path.{◌≡◌, refl}
use native.Mathlib.Decide.{dec_le}
use native.Mathlib.Omega.{arith}
use lib.Dec.{eqb}
use lib.ListN.{length}
use borrow.Author.Tests.{eq-eqb, eqb-true}
use Rattle.plans.specs.declared.Plan.{Plan}
use Rattle.plans.proofs.All.{left_true, right_true}
use Rattle.dispatch.specs.Run.{done, refused, Standing, ready, roomy, in_time, outcome, ran, stepped}
use Rattle.numbers.specs.Numbers.{is_state}
use Rattle.exports.specs.Exports.{
  placeless,
  refusal,
  misfit,
  is_setting,
  by_numbers,
  refused_ran,
  refused_stepped,
  stepped_by,
  ran_by,
  keeping,
  are_whole,
  stepping,
  running,
}
use Rattle.exports.proofs.Refusing.{over_unset, within_set}
use Rattle.exports.specs.Promises.{UnsetStep, UnsetRun}

-- another number than 5 is never told as 5, whatever the place
other_told : (r place : ℕ) → 5 < r → r < 0x1_0000_0000 → refusal r placeless ≡ refusal 5 place → ⊥
unfolding refusal
other_told r place h l e = omega arith

-- nor is 0
done_told : (place : ℕ) → 0 ≡ refusal 5 place → ⊥
unfolding refusal
done_told place e = omega arith

-- so no outcome of dispatch is
outcome_told : (plan : Plan) (state after : Standing) (lent : List ℕ) (k declines room place : ℕ) →
    (keeping (outcome plan state k declines room) after lent).0 ≡ refusal 5 place → ⊥
unfolding outcome
outcome_told plan state after lent k declines room place = go (ready plan state) (roomy plan k declines room) (in_time state.clock k)
  where
    go : (a b c : Bool) → (keeping (cond a (cond b (cond c done (refused 15)) (refused 17)) (refused 16)) after lent).0 ≡ refusal 5 place → ⊥
    go true true true = done_told place
    go true true false = other_told 15 place (omega arith) (omega arith)
    go true false c = other_told 17 place (omega arith) (omega arith)
    go false b c = other_told 16 place (omega arith) (omega arith)

-- so what is answered by 5, where no value is answered so, has a number over 1 for its setting
five_by : {A : Type 0} (answer : A → ℕ) (setting : ℕ) (state : List ℕ) (given : A) (by : ℕ → A) (place : ℕ) → (answer given ≡ refusal 5 place → ⊥) →
    (answer (by 16) ≡ refusal 5 place → ⊥) → answer (by_numbers setting state given by) ≡ refusal 5 place → 1 < setting
unfolding by_numbers
five_by answer setting state given by place other unfit = go (is_state state) (dec_le setting 1)
  where
    go : (f : Bool) → Dec (setting ≤ 1) → answer (cond (is_setting setting) (cond f given (by 16)) (by 5)) ≡ refusal 5 place → 1 < setting
    go true (yes l) h = absurd (other (rw (within_set setting l) at h))
    go false (yes l) h = absurd (unfit (rw (within_set setting l) at h))
    go f (no over) h = omega arith

-- and whole slices
five_whole : (a : Bool) (setting answer place : ℕ) (x y lent lent' : List ℕ) → (answer ≡ refusal 5 place → 1 < setting) →
    let w : ℕ × List ℕ × List ℕ = cond a (answer, x, y) (misfit, lent, lent') in w.0 ≡ refusal 5 place → (a ≡ true) × (1 < setting)
five_whole true setting answer place x y lent lent' over h = (refl, over h)
five_whole false setting answer place x y lent lent' over h = absurd (other_told 17 place (omega arith) (omega arith) h)

-- a step is refused by 5 exactly where its setting is none
pub unset_step : UnsetStep
unfolding stepping stepped_by by_numbers stepped ran
unset_step setting plan state supplied declines grants = (
  λ h. rw (h.0, eq-eqb (length grants) 8 h.1, over_unset setting h.2),
  λ place h.
      let over = five_by (λ r. (keeping r.outcome r.state state).0) setting state _ refused_stepped place (outcome_told _ _ _ state 1 1 8 place)
      (other_told 16 place (omega arith) (omega arith)) in
      let both = five_whole (are_whole plan state && eqb (length grants) 8) setting _ place _ _ _ _ over h in
      (left_true (are_whole plan state) _ both.0, eqb-true (length grants) 8 (right_true (are_whole plan state) _ both.0), both.1),
)

-- and so is a run
pub unset_run : UnsetRun
unfolding running ran_by by_numbers ran
unset_run setting plan state supplies declines out = (
  λ h. rw (h.0, over_unset setting h.1),
  λ place h.
      let over = five_by (λ r. (keeping r.outcome r.state state).0) setting state _ refused_ran place (outcome_told _ _ _ state _ _ _ place)
      (other_told 16 place (omega arith) (omega arith)) in
      five_whole (are_whole plan state) setting _ place _ _ _ _ over h,
)
