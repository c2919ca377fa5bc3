-- A sound plan value fits exactly when it has no breach. Assumes nothing.
use Prim.Native.Nat.{ℕ, zero, suc, ◌*◌, ◌/◌, ◌%◌, ◌≤◌, ◌<◌}
use mathlib.Core.Bool.{Bool, true, false, cond}
use mathlib.Core.Logic.{◌⊎◌, inl, inr, ⊎_swap}
use mathlib.Core.Path.{◌≡◌, refl, subst}
use native.Mathlib.Nat.{mod_self}
use native.Mathlib.Decide.{dec_lt}
use native.Mathlib.Omega.{arith}
use Rattle.plans.specs.Plan.{parent_of, served_of, is_child}
use Rattle.plans.specs.Sound.{Sound}
use Rattle.plans.specs.declared.Parent.{Parent}
use Rattle.plans.specs.declared.Plan.{Plan}
use Rattle.plans.proofs.Entries.{parent_of_child}
use Rattle.rules.specs.Fit.{sum_to, longest, load, load_to, side, Child, Rule13, Fit}
use Rattle.rules.specs.Broken.{Breach, twenty, eleven, twelve, thirteen, fourteen, place, Broken}
use Rattle.rules.proofs.Totals.{sum_grows}
use Rattle.rules.proofs.KeptTests.{Kept, kept_unbroken, unbroken_kept}

module _ (plan : Plan) where
  -- a value that fits keeps every rule everywhere
  fit_kept : Fit plan → (b : Breach) → place b < plan.size → Kept plan b
  unfolding load_to
  fit_kept fit (twenty i) l = fit.rule20 i l
  fit_kept fit (eleven i) l = λ made. fit.rule11 i l
  fit_kept fit (twelve x i) l = fit.rule12 x i
  fit_kept fit (thirteen x i) l = λ c j h d. fit.rule13 x i j c d
  fit_kept fit (fourteen x i) l = λ c. omega (arith, fit.rule14 x, sum_grows (load plan x (longest plan x)) (suc i) plan.size l)

  -- so it has no breach
  pub fit_unbroken : Fit plan → (b : Breach) → Broken plan b → ⊥
  fit_unbroken fit b = kept_unbroken plan fit.sound b (fit_kept fit b)

  -- a node is a child of x, or asks nothing of it
  child_or_none : (x : Parent) (m i : ℕ) → (parent_of plan i ≡ x) ⊎ (load plan x m i ≡ 0)
  unfolding load
  child_or_none x m i = go (is_child plan x i) (parent_of_child plan x i)
    where
      go : (b : Bool) → (b ≡ true → parent_of plan i ≡ x) → (parent_of plan i ≡ x) ⊎ (cond b ((served_of plan i).c * (m / (served_of plan i).t)) 0 ≡ 0)
      go true is = inl (is refl)
      go false is = inr refl

  -- the sum is within a bound that it passes at no child
  pub loads_by_child : (x : Parent) (bound n : ℕ) → n ≤ plan.size → ((i : ℕ) → Child plan x i → load_to plan x (suc i) ≤ bound) → load_to plan x n ≤ bound
  unfolding load_to sum_to
  loads_by_child x bound zero l at_child = omega arith
  loads_by_child x bound (suc n) l at_child = go (child_or_none x (longest plan x) n) (loads_by_child x bound n (omega arith) at_child)
    where
      go : (parent_of plan n ≡ x) ⊎ (load plan x (longest plan x) n ≡ 0) → load_to plan x n ≤ bound → load_to plan x (suc n) ≤ bound
      go (inl is) before = at_child n (record { there = l; under = is })
      go (inr e) before = omega arith

  module _ (sound : Sound plan) (none : (b : Breach) → Broken plan b → ⊥) where
    -- every rule is kept everywhere
    kept : (b : Breach) → place b < plan.size → Kept plan b
    kept b l = unbroken_kept plan sound b l (none b)

    -- of two children the later is not at odds with the earlier, so neither is at odds with the other
    kept_alike : (x : Parent) (i j : ℕ) → Child plan x i → Child plan x j → Rule13 plan i j
    kept_alike x i j c d = go (dec_lt j i) (dec_lt i j)
      where
        go : Dec (j < i) → Dec (i < j) → Rule13 plan i j
        go (yes l) a = kept (thirteen x i) c.there c j l d
        go (no l) (yes h) = ⊎_swap (kept (thirteen x j) d.there d i h c)
        go (no l) (no h) = inl (subst (λ z. (served_of plan i).t % (served_of plan z).t ≡ 0) (omega arith) (mod_self (served_of plan i).t))

    -- a sound value with no breach fits
    pub unbroken_fit : Fit plan
    unbroken_fit =
        record {
          sound = sound;
          rule20 = λ i l. kept (twenty i) l;
          rule11 = λ i l. kept (eleven i) l (kept (twenty i) l);
          rule12 = λ x i c. kept (twelve x i) c.there c;
          rule13 = kept_alike;
          rule14 = λ x. loads_by_child x (side plan x) plan.size (omega arith) (λ i c. kept (fourteen x i) c.there c);
        }
