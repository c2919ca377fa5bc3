-- What a stretch loses is what (K − u, K) does not owe it, so the worst stretch loses all but the least that it owes any. Assumes nothing.
use Prim.Native.Nat.{ℕ, zero, suc, ◌+◌, ◌-◌, ◌*◌, ◌/◌, ◌≤◌, ◌<◌, min, max}
use mathlib.Core.Bool.{true}
use mathlib.Core.Path.{◌≡◌, refl, ap, ◌∙◌}
use native.Mathlib.Nat.{suc-mul, zero-add, zero-mul, lt-div-mul-add, max-eq_right}
use native.Mathlib.Numerals.{add-one}
use native.Mathlib.Omega.{arith}
use lib.Arith.{sub-sub_self}
use borrow.Author.Tests.{le-leb, lt-leb, le-ltb}
use Rattle.meaning.specs.Allocation.{Allocation, ones}
use Rattle.meaning.specs.Least.{lowest}
use Rattle.meaning.specs.Written.{written}
use Rattle.owed.proofs.Owed.{owed}
use Rattle.owed.proofs.Ones.{ones_split, ones_ext, ones_all}
use Rattle.owed.proofs.Attained.{ones_and_zeros, written_ones}
use Rattle.soft.specs.Formula.{sum_to, most_to, covered, loses}

-- a window whose slots are all set has as many ones as slots
ones_set : (α : Allocation) (s n : ℕ) → ((m : ℕ) → s ≤ m → m < s + n → α m ≡ true) → ones α s n ≡ n
ones_set α s n set = ones_ext α (λ m. true) s n set ∙ ones_all (λ m. true) (λ m. refl) s n

-- u slots from lo on, cut off at two ends
cut : (x e lo u : ℕ) → min x (min e (lo + u)) - lo ≡ min u (min e x - lo)
cut x e lo u = omega arith

module _ (K u s L : ℕ) (some : 0 < K) (most : u ≤ K) where
  α : Allocation
  α = written (K - u) K s L

  -- the windows of period p that lie in the stretch, at most u of them
  part : ℕ → ℕ
  part p = min u (min (s + L) (p * K + K) - max s (p * K))

  -- are the zeros of the worst choice of windows in that period
  zeros_in : (p : ℕ) → ones α (p * K) K + part p ≡ K
  unfolding α part
  zeros_in p =
      let later : p * K ≤ max s (p * K) = omega arith in
      rw (← (cut (p * K + K) (s + L) (max s (p * K)) u))
      (rw (sub-sub_self most, max-eq_right later) at (ones_and_zeros (K - u) K s L p (p * K) K (omega arith) (omega arith)))

  -- so of n periods
  zeros_to_lem : (n : ℕ) → ones α 0 (n * K) + sum_to part n ≡ n * K
  unfolding sum_to ones
  zeros_to_lem zero = rw (zero-mul K)
  zeros_to_lem (suc n) = omega (
    arith,
    suc-mul n K,
    ap (ones α 0) (suc-mul n K),
    ones_split α 0 (n * K) K,
    ap (λ (x : ℕ). ones α x K) (zero-add (n * K)),
    zeros_to_lem n,
    zeros_in n,
  )

  -- outside the stretch that choice has every window
  before : ones α 0 s ≡ s
  unfolding α written
  before = ones_set α 0 s (λ m h l. rw (lt-leb s m (omega arith)))

  behind : (r : ℕ) → ones α (s + L) r ≡ r
  unfolding α written
  behind r = ones_set α (s + L) r (λ m h l. rw (le-leb s m (omega arith), le-ltb m (s + L) h))

  -- what n periods lose, where they reach to the end of the stretch, is what it is not owed
  lost_and_owed : (n : ℕ) → s + L ≤ n * K → sum_to part n + owed (K - u) K s L ≡ L
  unfolding α
  lost_and_owed n reaches =
      let r : ℕ = n * K - (s + L) in
      let apart : n * K ≡ s + L + r = omega arith in
      omega (
        arith,
        zeros_to_lem n,
        ap (ones α 0) apart,
        ones_split α 0 (s + L) r,
        ones_split α 0 s L,
        ap (λ (x : ℕ). ones α x L) (zero-add s),
        ap (λ (x : ℕ). ones α x r) (zero-add (s + L)),
        before,
        behind r,
        written_ones (K - u) K some (omega arith) s L,
      )

-- what stretch b loses and what it is owed are its W windows
pub loses_and_owed : (K u W b : ℕ) → 0 < K → u ≤ K → loses K u W b + owed (K - u) K (b * W) W ≡ W
unfolding loses covered part
loses_and_owed K u W b some most =
    lost_and_owed K u (b * W) W some most ((b * W + W) / K + 1)
    (rw (add-one ((b * W + W) / K), suc-mul) (omega (arith, lt-div-mul-add {a = b * W + W} some)))

-- where two numbers always make W, the largest of the one and the least of the other do
pub most_and_least : (f g : ℕ → ℕ) (W : ℕ) → ((j : ℕ) → f j + g j ≡ W) → (n : ℕ) → most_to f n + lowest g W n ≡ W
unfolding most_to lowest
most_and_least f g W both zero = zero-add W
most_and_least f g W both (suc n) = omega (arith, both n, most_and_least f g W both n)
