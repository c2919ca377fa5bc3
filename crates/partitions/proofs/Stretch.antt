-- A stretch of wanted windows: allocations that agree on its slots meet the same windows of it. Assumes nothing.
use Prim.Native.Nat.{ℕ, suc, ◌+◌, ◌-◌, ◌*◌, ◌≤◌, ◌<◌}
use mathlib.Core.Path.{◌≡◌, ap}
use native.Mathlib.Nat.{suc-mul, add-mul, mul-le-mul_right}
use native.Mathlib.Omega.{arith}
use lib.Dec.{leb}
use Rattle.meaning.specs.Allocation.{Allocation, ones}
use Rattle.meaning.specs.Soft.{met, missed}
use Rattle.meaning.specs.declared.SlotType.{SlotType}
use Rattle.meaning.specs.declared.Kind.TheVariants.{Aligned}
use Rattle.owed.proofs.Ones.{ones_ext}
use Rattle.windows.proofs.Missed.{met_or_missed}

module _ (wanted : SlotType) (α β : Allocation) (v n : ℕ) (agree : (m : ℕ) → v * wanted.t ≤ m → m < v * wanted.t + n * wanted.t → α m ≡ β m) where
  -- allocations that agree on the slots of n windows from window v on meet the same of them
  met_alike : ones (met Aligned wanted α) v n ≡ ones (met Aligned wanted β) v n
  unfolding met
  met_alike = ones_ext (met Aligned wanted α) (met Aligned wanted β) v n (λ u a b. ap (leb wanted.c) (inside u a b))
    where
      T : ℕ
      T = wanted.t

      inside : (u : ℕ) → v ≤ u → u < v + n → ones α (u * T) T ≡ ones β (u * T) T
      inside u a b =
          let first : v * T ≤ u * T = mul-le-mul_right T a in
          let last : suc u * T ≤ (v + n) * T = mul-le-mul_right T b in
          ones_ext α β (u * T) T (λ m p q. agree m (omega arith) (omega (arith, suc-mul u T, add-mul v n T)))

  -- so where one of them meets all but d of the windows, the other has at most d short
  pub short_alike : (d : ℕ) → n - d ≤ ones (met Aligned wanted α) v n → missed Aligned wanted β v n ≤ d
  short_alike d enough = omega (arith, met_alike, met_or_missed Aligned wanted β v n)
