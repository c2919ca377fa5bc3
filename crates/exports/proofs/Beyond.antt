-- Numbers beyond their field, and values that document 02 has be unfit, are refused by 16: what specs/Promises.antt says of fresh starts, steps and runs.
-- Assumes nothing.
use Prim.Native.Nat.{ℕ, ◌≤◌}
use mathlib.Core.Bool.{Bool, true, false, cond, ◌&&◌, true≢false}
use mathlib.Core.List.{List}
use mathlib.Core.Logic.{◌⊎◌, inl, inr}
use mathlib.Core.Path.{◌≡◌, refl, sym, ◌∙◌}
use native.Mathlib.Omega.{arith}
use lib.ListN.{length}
use borrow.Author.Tests.{eq-eqb}
use Rattle.answers.specs.Answers.{accepts}
use Rattle.plans.specs.Plan.{zero_plan}
use Rattle.plans.specs.Sound.{is_edition, sound}
use Rattle.plans.specs.declared.Plan.{Plan}
use Rattle.rules.specs.Check.{checked, is_fit}
use Rattle.rules.specs.Fit.{Fit}
use Rattle.rules.proofs.Kept.{fits_exactly}
use Rattle.dispatch.specs.Run.{Said, refused, Standing, started, ready, outcome, ran, stepped}
use Rattle.numbers.specs.Numbers.{plan_of_numbers, is_plan, is_state}
use Rattle.exports.specs.Exports.{placeless, refusal, are_whole, by_numbers, refused_ran, refused_stepped, stepped_by, ran_by, freshening, stepping, running}
use Rattle.exports.proofs.Refusing.{within_set}
use Rattle.exports.specs.Promises.{BeyondFresh, BeyondStep, BeyondRun, BadMisses, neither, range, host, first_edition, twenty, SixteenCovers}

-- the plan value of zeros is not fit
zero_unfit : is_fit zero_plan ≡ false
unfolding is_fit checked sound is_edition accepts zero_plan
zero_unfit = refl

-- nor is that of numbers that are no plan value's,
beyond_unfit : (plan : List ℕ) → is_plan plan ≡ false → is_fit (plan_of_numbers plan) ≡ false
unfolding plan_of_numbers
beyond_unfit plan h = rw h zero_unfit

-- so that of a plan's and a state's numbers that are not both a value's the plan is unfit, or the state is none
beyond_either : (plan state : List ℕ) → (is_plan plan && is_state state) ≡ false → (is_fit (plan_of_numbers plan) && is_state state) ≡ false
beyond_either plan state = go (is_plan plan) (is_fit (plan_of_numbers plan)) (is_state state) (beyond_unfit plan)
  where
    go : (a f b : Bool) → (a ≡ false → f ≡ false) → (a && b) ≡ false → (f && b) ≡ false
    go false f b e h = rw (e refl)
    go true false b e h = refl
    go true true b e h = h

-- nor one of bad misses
module _ (plan : Plan) where
  bad_breaks : BadMisses plan → Fit plan → ⊥
  bad_breaks (neither one two) fit = go fit.sound.edition
    where
      go : (plan.edition ≡ 1) ⊎ (plan.edition ≡ 2) → ⊥
      go (inl e) = one e
      go (inr e) = two e
  bad_breaks (range i l e) fit = true≢false (sym (fit.sound.misses i l) ∙ e)
  bad_breaks (host i l e d) fit = let hard = fit.sound.hosts_hard i l e in omega arith
  bad_breaks (first_edition i l e other) fit = other (fit.sound.first_edition e i l)
  bad_breaks (twenty i l broken) fit = broken (fit.rule20 i l)

  bad_unfit : BadMisses plan → is_fit plan ≡ false
  bad_unfit bad = go (is_fit plan) refl
    where
      go : (b : Bool) → is_fit plan ≡ b → b ≡ false
      go true e = absurd (bad_breaks bad ((fits_exactly plan).0 e))
      go false e = refl

  -- with an unfit value the outcome is 16, whatever the state
  unfit_outcome : is_fit plan ≡ false → (s : Standing) (k declines room : ℕ) → outcome plan s k declines room ≡ refused 16
  unfolding outcome ready
  unfit_outcome h s k declines room = rw h

-- A fresh start from numbers that say an unfit value is refused by 16,
unfit_fresh : (plan lent : List ℕ) → are_whole plan lent ≡ true → is_fit (plan_of_numbers plan) ≡ false → (freshening plan lent).0 ≡ refusal 16 placeless
unfolding freshening started
unfit_fresh plan lent whole h = rw (whole, h)

-- what is unfit wherever the plan is unfit is so where the plan is unfit or the state is none, under either setting;
unfit_by : {A : Type 0} (said : A → Said) (setting : ℕ) (fit : Bool) (state : List ℕ) (given : A) (by : ℕ → A) → said (by 16) ≡ refused 16 →
    (fit ≡ false → said given ≡ refused 16) → setting ≤ 1 → (fit && is_state state) ≡ false → said (by_numbers setting state given by) ≡ refused 16
unfolding by_numbers
unfit_by said setting fit state given by always unfit set = rw (within_set setting set) (go fit (is_state state) unfit)
  where
    go : (a b : Bool) → (a ≡ false → said given ≡ refused 16) → (a && b) ≡ false → said (cond b given (by 16)) ≡ refused 16
    go a false e h = always
    go false true e h = e refl
    go true true e h = cc

module _ (setting : ℕ) (plan state : List ℕ) (whole : are_whole plan state ≡ true) (set : setting ≤ 1) (h : (is_fit (plan_of_numbers plan) && is_state state) ≡ false) where
  -- a step of such values,
  step_outcome : (supplied declines : ℕ) → (stepped_by setting plan state supplied declines).outcome ≡ refused 16
  unfolding stepped_by stepped ran
  step_outcome supplied declines = unfit_by (λ r. r.outcome) setting _ state _ refused_stepped refl (λ e. unfit_outcome _ e _ _ _ _) set h

  unfit_step : (supplied declines : ℕ) (grants : List ℕ) → length grants ≡ 8 → (stepping setting plan state supplied declines grants).0 ≡ refusal 16 placeless
  unfolding stepping
  unfit_step supplied declines grants eight = rw (whole, eq-eqb (length grants) 8 eight, step_outcome supplied declines)

  -- and a run
  run_outcome : (supplies declines : List ℕ) (room : ℕ) → (ran_by setting plan state supplies declines room).outcome ≡ refused 16
  unfolding ran_by ran
  run_outcome supplies declines room = unfit_by (λ r. r.outcome) setting _ state _ refused_ran refl (λ e. unfit_outcome _ e _ _ _ _) set h

  unfit_run : (supplies declines out : List ℕ) → (running setting plan state supplies declines out).0 ≡ refusal 16 placeless
  unfolding running
  unfit_run supplies declines out = rw (whole, run_outcome supplies declines (length out))

-- So it is of numbers beyond their field,
pub beyond_fresh : BeyondFresh
beyond_fresh plan lent whole h = unfit_fresh plan lent whole (beyond_unfit plan h)

pub beyond_step : BeyondStep
beyond_step setting plan state supplied declines grants whole eight set h =
    unfit_step setting plan state whole set (beyond_either plan state h) supplied declines grants eight

pub beyond_run : BeyondRun
beyond_run setting plan state supplies declines out whole set h = unfit_run setting plan state whole set (beyond_either plan state h) supplies declines out

-- and of bad misses
pub sixteen_covers : SixteenCovers
sixteen_covers plan bad =
    let unfit = bad_unfit (plan_of_numbers plan) bad in
    record {
      fresh = λ lent whole. unfit_fresh plan lent whole unfit;
      step = λ setting state supplied declines grants whole eight set. unfit_step setting plan state whole set (rw unfit) supplied declines grants eight;
      run = λ setting state supplies declines out whole set. unfit_run setting plan state whole set (rw unfit) supplies declines out;
    }
