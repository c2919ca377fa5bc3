-- What holds of the ones in each aligned period holds of those in several. Assumes nothing.
use Prim.Native.Nat.{ℕ, zero, suc, ◌+◌, ◌*◌, ◌/◌, ◌%◌, ◌≤◌}
use mathlib.Core.Path.{◌≡◌, subst}
use native.Mathlib.Nat.{zero-mul, suc-mul, mul_assoc, mul_comm, add-le-add, add-mul, le_refl}
use Rattle.meaning.specs.Allocation.{Allocation, ones}
use Rattle.owed.proofs.Ones.{ones_split}
use Rattle.owed.proofs.Parts.{Additive}
use Rattle.rules.proofs.Siblings.{whole_periods}

module _ (R : ℕ → ℕ → Type 0) (additive : Additive R) (C T : ℕ) (α : Allocation) (each : (b : ℕ) → R C (ones α (b * T) T)) where
  -- q periods from period b on
  in_periods : (b q : ℕ) → R (q * C) (ones α (b * T) (q * T))
  unfolding ones
  in_periods b zero = rw (zero-mul C, zero-mul T) additive.none
  in_periods b (suc q) =
      rw (suc-mul q C, suc-mul q T, ones_split α (b * T) (q * T) T, ← add-mul b q T)
      (additive.sum (in_periods b q) (each (b + q)))

  -- what holds of C and the ones in each period of T slots holds of C * (t / T) and the ones in each period of t slots, where T divides t
  pub in_multiple : (t : ℕ) → t % T ≡ 0 → (b : ℕ) → R (C * (t / T)) (ones α (b * t) t)
  in_multiple t e b =
      subst (λ (k : ℕ). R (C * (t / T)) (ones α (b * k) k)) (whole_periods t T e)
      (rw (mul_comm C (t / T), ← mul_assoc b (t / T) T) (in_periods (b * (t / T)) (t / T)))

-- an allocation with at least C ones in each period of T slots has at least C * (t / T) in each period of t slots, where T divides t
pub at_least : (C T : ℕ) (α : Allocation) → ((b : ℕ) → C ≤ ones α (b * T) T) → (t : ℕ) → t % T ≡ 0 → (b : ℕ) →
    C * (t / T) ≤ ones α (b * t) t
at_least = in_multiple ◌≤◌ (record { none = le_refl 0; sum = add-le-add })

-- and one with at most C has at most so many
pub at_most : (C T : ℕ) (α : Allocation) → ((b : ℕ) → ones α (b * T) T ≤ C) → (t : ℕ) → t % T ≡ 0 → (b : ℕ) →
    ones α (b * t) t ≤ C * (t / T)
at_most = in_multiple (λ a c. c ≤ a) (record { none = le_refl 0; sum = add-le-add })
