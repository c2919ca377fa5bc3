-- Laws of the counts in a slot, by elements: after a refill and after a charge. Assumes nothing.
use Prim.Native.Nat.{ℕ, zero, suc, ◌-◌, ◌%◌, ◌≤◌, ◌<◌}
use mathlib.Core.Bool.{Bool, true, false, cond}
use mathlib.Core.List.{List}
use mathlib.Core.Path.{◌≡◌, refl, sym, ◌∙◌}
use lib.ListN.{length, get_or, set, length-set, get_or-eq_default}
use lib.Seq.{get_or-set_same, get_or-set_other, set_out}
use borrow.Author.Tests.{eq-eqb, ne_eqb}
use native.Mathlib.Decide.{ℕ_discrete, dec_lt}
use native.Mathlib.Omega.{arith}
use Rattle.dispatch.specs.View.{View}
use Rattle.dispatch.specs.Slot.{due, refill_one, refill_to, refilled, charge}

module _ (v : View) (n : ℕ) where
  -- a refill of node k gives it its served C where the slot is a multiple of its period,
  refill_one_due : (left : List ℕ) (k : ℕ) → k < length left → n % v.t k ≡ 0 → get_or (refill_one v n left k) k 0 ≡ v.c k
  unfolding refill_one due
  refill_one_due left k here now = rw (eq-eqb (n % v.t k) 0 now) (get_or-set_same left k (v.c k) 0 here)

  -- changes nothing where it is none,
  refill_one_kept : (left : List ℕ) (k : ℕ) → (n % v.t k ≡ 0 → ⊥) → refill_one v n left k ≡ left
  unfolding refill_one due
  refill_one_kept left k kept = rw (ne_eqb (n % v.t k) 0 kept)

  -- leaves the others as they are,
  refill_one_other : (left : List ℕ) (k i : ℕ) → (i ≡ k → ⊥) → get_or (refill_one v n left k) i 0 ≡ get_or left i 0
  unfolding refill_one
  refill_one_other left k i other = go (due v n k)
    where
      go : (b : Bool) → get_or (cond b (set left k (v.c k)) left) i 0 ≡ get_or left i 0
      go true = get_or-set_other left k i (v.c k) 0 other
      go false = refl

  -- and keeps the number of counts
  length_refill_one : (left : List ℕ) (k : ℕ) → length (refill_one v n left k) ≡ length left
  unfolding refill_one
  length_refill_one left k = go (due v n k)
    where
      go : (b : Bool) → length (cond b (set left k (v.c k)) left) ≡ length left
      go true = length-set left k (v.c k)
      go false = refl

  -- a refill of the first k nodes keeps the number of counts,
  length_refill_to : (left : List ℕ) (k : ℕ) → length (refill_to v n left k) ≡ length left
  unfolding refill_to
  length_refill_to left zero = refl
  length_refill_to left (suc k) = length_refill_one (refill_to v n left k) k ∙ length_refill_to left k

  -- keeps what is not due,
  refill_to_else : (left : List ℕ) (i k : ℕ) → (i < k → n % v.t i ≡ 0 → ⊥) → get_or (refill_to v n left k) i 0 ≡ get_or left i 0
  unfolding refill_to
  refill_to_else left i zero kept = refl
  refill_to_else left i (suc k) kept = go (ℕ_discrete i k) ∙ refill_to_else left i k (λ l. kept (omega arith))
    where
      go : Dec (i ≡ k) → get_or (refill_one v n (refill_to v n left k) k) i 0 ≡ get_or (refill_to v n left k) i 0
      go (yes e) = rw (refill_one_kept (refill_to v n left k) k (λ h. kept (omega arith) (rw e h)))
      go (no other) = refill_one_other (refill_to v n left k) k i other

  -- and gives what is due its served C
  refill_to_due : (left : List ℕ) (i k : ℕ) → i < length left → n % v.t i ≡ 0 → i < k → get_or (refill_to v n left k) i 0 ≡ v.c i
  unfolding refill_to
  refill_to_due left i zero here now l = absurd (omega arith)
  refill_to_due left i (suc k) here now l = go (ℕ_discrete i k) (refill_to_due left i k here now)
    where
      go : Dec (i ≡ k) → (i < k → get_or (refill_to v n left k) i 0 ≡ v.c i) → get_or (refill_one v n (refill_to v n left k) k) i 0 ≡ v.c i
      go (yes e) before = rw (← e) (refill_one_due (refill_to v n left i) i (omega (arith, length_refill_to left i)) now)
      go (no other) before = refill_one_other (refill_to v n left k) k i other ∙ before (omega arith)

  module _ (left : List ℕ) where
    -- a refill keeps the number of counts
    pub length_refilled : length (refilled v n left) ≡ length left
    unfolding refilled
    length_refilled = length_refill_to left _

    -- what is no node, or not due, is kept
    pub refilled_kept : (i : ℕ) → (i < v.size → n % v.t i ≡ 0 → ⊥) → get_or (refilled v n left) i 0 ≡ get_or left i 0
    unfolding refilled
    refilled_kept i kept = refill_to_else left i v.size kept

    -- and a node whose period begins at this slot has its served C
    pub refilled_due : (i : ℕ) → i < v.size → i < length left → n % v.t i ≡ 0 → get_or (refilled v n left) i 0 ≡ v.c i
    unfolding refilled
    refilled_due i l here now = refill_to_due left i v.size here now l

    -- and past the counts there is nothing to refill
    pub refilled_past : (i : ℕ) → length left ≤ i → get_or (refilled v n left) i 0 ≡ get_or left i 0
    refilled_past i past =
        get_or-eq_default (refilled v n left) 0 {n = i} (omega (arith, length_refilled)) ∙ sym (get_or-eq_default left 0 {n = i} past)

module _ (left : List ℕ) (i : ℕ) where
  -- a charge keeps the number of counts,
  pub length_charge : length (charge left i) ≡ length left
  unfolding charge
  length_charge = length-set left i (get_or left i 0 - 1)

  -- takes one from the node that is charged,
  pub charge_same : get_or (charge left i) i 0 ≡ get_or left i 0 - 1
  unfolding charge
  charge_same = go (dec_lt i (length left))
    where
      go : Dec (i < length left) → get_or (set left i (get_or left i 0 - 1)) i 0 ≡ get_or left i 0 - 1
      go (yes here) = get_or-set_same left i (get_or left i 0 - 1) 0 here
      go (no past) =
          let none : get_or left i 0 ≡ 0 = get_or-eq_default left 0 (omega arith) in
          rw (set_out left i (get_or left i 0 - 1) (omega arith), none)

  -- and nothing from any other
  pub charge_other : (j : ℕ) → (j ≡ i → ⊥) → get_or (charge left i) j 0 ≡ get_or left j 0
  unfolding charge
  charge_other j other = get_or-set_other left i j (get_or left i 0 - 1) 0 other
