-- Laws of `lowest`, the least of a start value and of a function's first values. Assumes nothing.
use Prim.Native.Nat.{ℕ, zero, suc, ◌≤◌, ◌<◌}
use mathlib.Core.Path.{◌≡◌, refl, ap}
use mathlib.Core.Logic.{◌⊎◌, inl, inr}
use native.Mathlib.Nat.{eq-or-lt_of_le, le-min, le_of_suc-le-suc}
use native.Mathlib.Decide.{dec_le}
use native.Mathlib.Omega.{arith}
use Rattle.meaning.specs.Least.{lowest}

-- of two numbers either the first is at most the second, or the second is less
pub le_or_lt : (m n : ℕ) → (m ≤ n) ⊎ (n < m)
le_or_lt m n = go (dec_le m n)
  where
    go : Dec (m ≤ n) → (m ≤ n) ⊎ (n < m)
    go (yes h) = inl h
    go (no h) = inr (omega arith)

-- the least is at most the start value
pub lowest_low : (f : ℕ → ℕ) (low n : ℕ) → lowest f low n ≤ low
unfolding lowest
lowest_low f low zero = omega arith
lowest_low f low (suc n) = omega (arith, lowest_low f low n)

-- the least is at most each value
pub lowest_le : (f : ℕ → ℕ) (low n j : ℕ) → j < n → lowest f low n ≤ f j
unfolding lowest
lowest_le f low zero j h = absurd (omega arith)
lowest_le f low (suc n) j h = go (lowest_le f low n j) (eq-or-lt_of_le (le_of_suc-le-suc h))
  where
    go : (j < n → lowest f low n ≤ f j) → (j ≡ n) ⊎ (j < n) → lowest f low (suc n) ≤ f j
    go r (inl e) = omega (arith, ap f e)
    go r (inr l) = omega (arith, r l)

-- what is at most the start value and each value is at most the least
pub ge_lowest : (f : ℕ → ℕ) (low n m : ℕ) → m ≤ low → ((j : ℕ) → j < n → m ≤ f j) → m ≤ lowest f low n
unfolding lowest
ge_lowest f low zero m h all = h
ge_lowest f low (suc n) m h all = le-min (ge_lowest f low n m h (λ j l. all j (omega arith))) (all n (omega arith))

-- the least is the start value or one of the values
pub lowest_from : (f : ℕ → ℕ) (low n : ℕ) → (lowest f low n ≡ low) ⊎ ((j : ℕ) × (j < n) × (lowest f low n ≡ f j))
unfolding lowest
lowest_from f low zero = inl refl
lowest_from f low (suc n) = go (lowest_from f low n) (le_or_lt (lowest f low n) (f n))
  where
    Reached : ℕ → Type 0
    Reached k = (lowest f low k ≡ low) ⊎ ((j : ℕ) × (j < k) × (lowest f low k ≡ f j))

    go : Reached n → (lowest f low n ≤ f n) ⊎ (f n < lowest f low n) → Reached (suc n)
    go r (inr l) = inr (n, omega arith, omega arith)
    go (inl e) (inl h) = inl (omega arith)
    go (inr (j, l, e)) (inl h) = inr (j, omega arith, omega arith)

-- the least reads only the first n values
pub lowest_ext : (f g : ℕ → ℕ) (low n : ℕ) → ((j : ℕ) → j < n → f j ≡ g j) → lowest f low n ≡ lowest g low n
unfolding lowest
lowest_ext f g low zero same = refl
lowest_ext f g low (suc n) same = omega (arith, lowest_ext f g low n (λ j l. same j (omega arith)), same n (omega arith))
