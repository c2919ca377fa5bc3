-- Blocks of T slots that hold all their T slots where they are chosen, and else P of them: the ones of several blocks, and an allocation that is so made.
-- Assumes nothing.
use Prim.Native.Nat.{ℕ, zero, suc, ◌+◌, ◌*◌, ◌/◌, ◌%◌, ◌≤◌, ◌<◌}
use mathlib.Core.Bool.{Bool, true, false, not}
use mathlib.Core.Path.{◌≡◌, subst}
use native.Mathlib.Nat.{zero-mul, suc-mul, add-mul, add-zero, div-eq_of_lt-le, div-add-mod'}
use native.Mathlib.Decide.{dec_le}
use native.Mathlib.Numerals.{add-one}
use native.Mathlib.Omega.{arith}
use lib.Dec.{ltb}
use borrow.Author.Tests.{le-leb, lt-leb, lt-ltb, le-ltb}
use Rattle.meaning.specs.Allocation.{Allocation, bit, ones}
use Rattle.owed.proofs.Ones.{ones_split, ones_ext}
use Rattle.owed.proofs.Parts.{Additive}
use Rattle.owed.proofs.Gap.{gap, gap_ones}

-- what a block holds: all its slots where it is chosen, and else P
abbrev pub held : ℕ → ℕ → Bool → ℕ
held T P true = T
held T P false = P

one_chosen : (T P m d : ℕ) → m * T + d * P + T ≡ (m + 1) * T + (d + 0) * P
one_chosen T P m d = rw (add-one m, suc-mul m T, add-zero d) (omega arith)

one_other : (T P m d : ℕ) → m * T + d * P + P ≡ (m + 0) * T + (d + 1) * P
one_other T P m d = rw (add-one d, suc-mul d P, add-zero m) (omega arith)

module _ (R : ℕ → ℕ → Type 0) (additive : Additive R) (T P : ℕ) where
  one_more : (a b m d : ℕ) (c : Bool) → R a (m * T + d * P) → R b (held T P c) → R (a + b) ((m + bit c) * T + (d + bit (not c)) * P)
  one_more a b m d true h k = subst (R (a + b)) (one_chosen T P m d) (additive.sum h k)
  one_more a b m d false h k = subst (R (a + b)) (one_other T P m d) (additive.sum h k)

  -- what holds of the ones of each block and what it holds, holds of n blocks from block v on: T for each that β has, and P for each other
  pub in_blocks : (α β : Allocation) → ((v : ℕ) → R (ones α (v * T) T) (held T P (β v)))
      → (v n : ℕ) → R (ones α (v * T) (n * T)) (ones β v n * T + ones (λ m. not (β m)) v n * P)
  unfolding ones
  in_blocks α β each v zero = rw (zero-mul T, zero-mul P) additive.none
  in_blocks α β each v (suc n) =
      rw (suc-mul n T, ones_split α (v * T) (n * T) T, ← add-mul v n T)
      (one_more (ones α (v * T) (n * T)) (ones α ((v + n) * T) T) (ones β v n) (ones (λ m. not (β m)) v n) (β (v + n))
      (in_blocks α β each v n) (each (v + n)))

-- the allocation that has the blocks of β, and the first P slots of each other block
unfoldable pub filled : ℕ → ℕ → Allocation → Allocation
filled T P β m = ltb (m % T) (held T P (β (m / T)))

held_le : (T P : ℕ) → P ≤ T → (c : Bool) → held T P c ≤ T
held_le T P h true = omega arith
held_le T P h false = h

-- in block v its zeros are a gap
filled_gap : (T P : ℕ) (β : Allocation) (v m : ℕ) → v * T ≤ m → m < v * T + T
    → filled T P β m ≡ gap (v * T + held T P (β v)) (v * T + T) m
unfolding filled
filled_gap T P β v m low high = rw same (elim (dec_le (v * T + held T P (β v)) m) [
  | yes h ↦ rw (le-leb (v * T + held T P (β v)) m h, lt-ltb m (v * T + T) high, le-ltb (m % T) (held T P (β v)) (omega (arith, apart)))
  | no h ↦ rw (lt-leb (v * T + held T P (β v)) m (omega arith), lt-ltb (m % T) (held T P (β v)) (omega (arith, apart)))
])
  where
    same : m / T ≡ v
    same = div-eq_of_lt-le T low (rw (add-one v, suc-mul v T) high)

    apart : v * T + m % T ≡ m
    apart = rw same at (div-add-mod' m T)

-- each of its blocks holds what it is to hold
pub filled_block : (T P : ℕ) → P ≤ T → (β : Allocation) (v : ℕ) → ones (filled T P β) (v * T) T ≡ held T P (β v)
filled_block T P most β v =
    rw (ones_ext (filled T P β) (gap (v * T + held T P (β v)) (v * T + T)) (v * T) T (filled_gap T P β v))
    (omega (arith, gap_ones (v * T + held T P (β v)) (v * T + T) (v * T) T, held_le T P most (β v)))
