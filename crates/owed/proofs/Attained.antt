-- The written allocation has exactly what is owed in its window, and honours the giver. Assumes nothing.
use Prim.Native.Nat.{ℕ, suc, ◌+◌, ◌-◌, ◌*◌, ◌/◌, ◌%◌, ◌≤◌, ◌<◌, min, max}
use mathlib.Core.Bool.{not, ◌&&◌}
use mathlib.Core.Path.{◌≡◌, refl, ap, ap₂}
use native.Mathlib.Nat.{suc-mul, div-add-mod', div-mul-le_self, mod-lt, div-eq_of_lt-le, sub-add_cancel}
use native.Mathlib.Decide.{dec_le}
use native.Mathlib.Numerals.{add-one}
use native.Mathlib.Omega.{arith}
use lib.Dec.{ltb}
use borrow.Author.Tests.{le-leb, lt-leb, lt-ltb, le-ltb}
use Rattle.meaning.specs.Allocation.{ones}
use Rattle.meaning.specs.Written.{written}
use Rattle.owed.proofs.Owed.{owed}
use Rattle.owed.proofs.Ones.{ones_split, ones_ext}
use Rattle.owed.proofs.Gap.{gap, gap_ones}
use Rattle.owed.proofs.Parts.{owed_by_parts}

-- before e and fewer than z slots past lo: before the lesser of two slots
before_both : (m e lo z : ℕ) → lo ≤ m → (ltb m e && ltb (m - lo) z) ≡ ltb m (min e (lo + z))
before_both m e lo z h = elim (dec_le (suc m) e) [
  | yes a ↦ elim (dec_le (suc (m - lo)) z) [
    | yes b ↦ rw (lt-ltb m e a, lt-ltb (m - lo) z b, lt-ltb m (min e (lo + z)) (omega arith))
    | no b ↦ rw (lt-ltb m e a, le-ltb (m - lo) z (omega arith), le-ltb m (min e (lo + z)) (omega arith))
  ]
  | no a ↦ rw (le-ltb m e (omega arith), le-ltb m (min e (lo + z)) (omega arith))
]

-- the written zeros of block b: from the block's first slot inside the window on
abbrev pub zeros_from : ℕ → ℕ → ℕ → ℕ
zeros_from T s b = max s (b * T)

-- and as far as the window goes, at most T − C of them
abbrev pub zeros_to : ℕ → ℕ → ℕ → ℕ → ℕ → ℕ
zeros_to C T s L b = min (s + L) (zeros_from T s b + (T - C))

-- in each block the written allocation is a gap
written_gap : (C T s L b m : ℕ) → b * T ≤ m → m < b * T + T → written C T s L m ≡ gap (zeros_from T s b) (zeros_to C T s L b) m
unfolding written
written_gap C T s L b m low high = rw same (elim (dec_le s m) [
  | yes h ↦ rw (le-leb s m h, le-leb (zeros_from T s b) m (omega arith)) (ap not (before_both m (s + L) (zeros_from T s b) (T - C) (omega arith)))
  | no h ↦ rw (lt-leb s m (omega arith), lt-leb (zeros_from T s b) m (omega arith))
])
  where
    same : m / T ≡ b
    same = div-eq_of_lt-le T low (rw (add-one b, suc-mul b T) high)

-- n slots of block b, from p on, are their ones and their written zeros
pub ones_and_zeros : (C T s L b p n : ℕ) → b * T ≤ p → p + n ≤ b * T + T
    → ones (written C T s L) p n + (min (p + n) (zeros_to C T s L b) - max p (zeros_from T s b)) ≡ n
ones_and_zeros C T s L b p n low high =
    rw (ones_ext (written C T s L) (gap (zeros_from T s b) (zeros_to C T s L b)) p n (λ m a z. written_gap C T s L b m (omega arith) (omega arith)))
    (gap_ones (zeros_from T s b) (zeros_to C T s L b) p n)

-- the written allocation has exactly what is owed in its window
pub written_ones : (C T : ℕ) → 0 < T → C ≤ T → (s L : ℕ) → ones (written C T s L) s L ≡ owed C T s L
written_ones C T some fits s L =
    owed_by_parts (λ a b. b ≡ a) (record { none = refl; sum = λ p q. ap₂ ◌+◌ p q }) C T some fits (written C T s L) s L
    (λ p n part.
    let e = rw part.first at (ones_and_zeros C T s L (p / T) p n (div-mul-le_self p T) (omega (arith, div-add-mod' p T, part.one))) in
    omega (arith, part.to))

few_in_gap : (o n x e lo z p : ℕ) → o + (min x (min e (lo + z)) - max p lo) ≡ n → (n ≤ o + z) × (n ≤ o + (lo + z - p))
few_in_gap o n x e lo z p h = omega arith

-- of n slots of block b, from p on, at most T − C are written zeros, and at most as many as there may be from p on
few_zeros : (C T s L b p n : ℕ) → b * T ≤ p → p + n ≤ b * T + T
    → (n ≤ ones (written C T s L) p n + (T - C)) × (n ≤ ones (written C T s L) p n + (zeros_from T s b + (T - C) - p))
few_zeros C T s L b p n low high =
    few_in_gap (ones (written C T s L) p n) n (p + n) (s + L) (zeros_from T s b) (T - C) p (ones_and_zeros C T s L b p n low high)

-- it honours (C, T) aligned
pub written_aligned : (C T : ℕ) → 0 < T → C ≤ T → (s L b : ℕ) → C ≤ ones (written C T s L) (b * T) T
written_aligned C T some fits s L b = omega (arith, (few_zeros C T s L b (b * T) T (omega arith) (omega arith)).0)

-- and sliding too, where the window starts at slot 0
pub written_sliding : (C T : ℕ) → 0 < T → C ≤ T → (L s : ℕ) → C ≤ ones (written C T 0 L) s T
written_sliding C T some fits L s =
    let b : ℕ = s / T in
    let r : ℕ = s % T in
    let at : b * T + r ≡ s = div-add-mod' s T in
    let short : r < T = mod-lt s some in
    let next : suc b * T ≡ b * T + T = suc-mul b T in
    let sum : (T - r) + r ≡ T = sub-add_cancel (omega arith) in
    let ends : s + (T - r) ≡ suc b * T = omega arith in
    let split = rw (sum, ends) at (ones_split (written C T 0 L) s (T - r) r) in
    let here = (few_zeros C T 0 L b s (T - r) (omega arith) (omega arith)).1 in
    let there = (few_zeros C T 0 L (suc b) (suc b * T) r (omega arith) (omega arith)).0 in
    omega arith
