-- Plans that kept rules 11, 12 and 14 as document 01 has them keep them as they are now, and in edition 1 only whole parents made a difference. Assumes nothing.
use Prim.Native.Nat.{ℕ, suc, ◌*◌, ◌/◌, ◌≤◌}
use mathlib.Core.Bool.{Bool, true, false, cond, false≢true}
use mathlib.Core.Path.{◌≡◌, refl, sym, ◌∙◌}
use native.Mathlib.Nat.{le_refl, le_trans, one-mul, div-one, mod-one, mul-div-le}
use native.Mathlib.Omega.{arith}
use borrow.Author.Tests.{eqb-true}
use Rattle.meaning.specs.declared.SlotType.{SlotType}
use Rattle.plans.specs.Plan.{served_of, own_type}
use Rattle.plans.specs.declared.Parent.{Parent}
use Rattle.rules.specs.Fit.{longest, load, load_to, is_whole, owes, side, Child}
use Rattle.rules.specs.Before.{Rule12Before}
use Rattle.rules.specs.Promises.{HardAsBefore, StaysFit, OnlyWholeMoved}
use Rattle.rules.proofs.KeptSoft.{hard_eleven, first_hard}
use Rattle.rules.proofs.Totals.{sum_grows}
use Rattle.rules.proofs.KeptFit.{loads_by_child}

-- a parent owes no less than C·(m/T)
owes_more : (own : SlotType) (m : ℕ) → own.c * (m / own.t) ≤ owes own m
unfolding is_whole owes
owes_more own m = go (is_whole own) refl
  where
    go : (b : Bool) → is_whole own ≡ b → own.c * (m / own.t) ≤ cond b m (own.c * (m / own.t))
    go true e = rw (eqb-true own.c own.t e) (mul-div-le m own.t)
    go false e = le_refl (own.c * (m / own.t))

-- a hard node keeps rule 11 as document 01 has it
pub hard_as_before : HardAsBefore
hard_as_before plan fit i l hard = (hard_eleven plan fit.sound i l hard).0 (fit.rule11 i l)

-- plans accepted before stay accepted
pub stays_fit : StaysFit
unfolding side
stays_fit plan before =
    record {
      sound = before.sound;
      rule20 = λ i l soft. absurd (false≢true (sym (first_hard plan before.sound before.edition i l) ∙ soft));
      rule11 = λ i l. (hard_eleven plan before.sound i l (first_hard plan before.sound before.edition i l)).1 (before.rule11 i l);
      rule12 = λ x i c part. before.rule12 x i c;
      rule13 = before.rule13;
      rule14 = λ x. le_trans (before.rule14 x) (owes_more (own_type plan x) (longest plan x));
    }

-- a parent owes just C·(m/T) where it is not whole, or where it is every slot of 1
owes_same : (own : SlotType) (m : ℕ) → (is_whole own ≡ true → own.t ≡ 1) → owes own m ≡ own.c * (m / own.t)
unfolding is_whole owes
owes_same own m one = go (is_whole own) refl
  where
    go : (b : Bool) → is_whole own ≡ b → cond b m (own.c * (m / own.t)) ≡ own.c * (m / own.t)
    go true e = sym (rw (eqb-true own.c own.t e, one e, div-one m) (one-mul m))
    go false e = refl

-- a plan that fits kept the rules of document 01 too, unless a parent is whole by a longer period
pub only_whole_moved : OnlyWholeMoved
unfolding load_to side
only_whole_moved plan edition one fit =
    record {
      edition = edition;
      sound = fit.sound;
      rule11 = λ i l. hard_as_before plan fit i l (first_hard plan fit.sound edition i l);
      rule12 = λ x i c. multiple x i c (is_whole (own_type plan x)) refl;
      rule13 = fit.rule13;
      rule14 = λ x. loads_by_child plan x _ plan.size (le_refl plan.size) (λ n c. at_child x n c);
    }
  where
    multiple : (x : Parent) (i : ℕ) → Child plan x i → (b : Bool) → is_whole (own_type plan x) ≡ b → Rule12Before plan x i
    multiple x i c true e = rw (one x i c e) (mod-one (served_of plan i).t)
    multiple x i c false e = fit.rule12 x i c e

    at_child : (x : Parent) (n : ℕ) → Child plan x n → load_to plan x (suc n) ≤ (own_type plan x).c * (longest plan x / (own_type plan x).t)
    at_child x n c =
        omega (
          arith,
          fit.rule14 x,
          sum_grows (load plan x (longest plan x)) (suc n) plan.size c.there,
          owes_same (own_type plan x) (longest plan x) (one x n c),
        )
