-- Laws of sums of numbers and of the largest of some numbers. Assumes nothing.
use Prim.Native.Nat.{ℕ, zero, suc, ◌+◌, ◌*◌, ◌≤◌, ◌<◌, max}
use mathlib.Core.Logic.{◌⊎◌, inl, inr}
use mathlib.Core.Path.{◌≡◌, refl, sym, ap}
use native.Mathlib.Nat.{suc-mul, mul-zero, mul-add, le_refl, max-le, eq-or-lt_of_le}
use native.Mathlib.Decide.{dec_le}
use native.Mathlib.Omega.{arith}
use Rattle.rules.specs.Fit.{sum_to, most_to}

module _ (f : ℕ → ℕ) (bound : ℕ) where
  -- the largest of values that are each at most some bound is so too
  pub most_bounded : (n : ℕ) → ((i : ℕ) → i < n → f i ≤ bound) → most_to f n ≤ bound
  unfolding most_to
  most_bounded zero h = omega arith
  most_bounded (suc n) h = max-le (most_bounded n (λ i l. h i (omega arith))) (h n (omega arith))

  -- and their sum is at most as many times the bound
  pub sum_bounded : (n : ℕ) → ((i : ℕ) → i < n → f i ≤ bound) → sum_to f n ≤ n * bound
  unfolding sum_to
  sum_bounded zero h = omega arith
  sum_bounded (suc n) h = omega (arith, suc-mul n bound, sum_bounded n (λ i l. h i (omega arith)), h n (omega arith))

-- a longer sum is no less
pub sum_grows : (f : ℕ → ℕ) (m n : ℕ) → m ≤ n → sum_to f m ≤ sum_to f n
unfolding sum_to
sum_grows f zero n l = omega arith
sum_grows f (suc m) zero l = absurd (omega arith)
sum_grows f (suc m) (suc n) l = go (eq-or-lt_of_le l) (sum_grows f (suc m) n)
  where
    go : (suc m ≡ suc n) ⊎ (suc m < suc n) → (suc m ≤ n → sum_to f (suc m) ≤ sum_to f n) → sum_to f (suc m) ≤ sum_to f n + f n
    go (inl e) before = omega (arith, ap (sum_to f) e)
    go (inr h) before = omega (arith, before (omega arith))

-- a sum whose terms are sums of two is the sum of both sums
pub sum_add : (f g h : ℕ → ℕ) (n : ℕ) → ((i : ℕ) → i < n → h i ≡ f i + g i) → sum_to h n ≡ sum_to f n + sum_to g n
unfolding sum_to
sum_add f g h zero e = refl
sum_add f g h (suc n) e = omega (arith, sum_add f g h n (λ i l. e i (omega arith)), e n (le_refl (suc n)))

-- a sum whose terms are multiples is that multiple of the sum
pub sum_multiple : (m : ℕ) (f : ℕ → ℕ) (n : ℕ) → sum_to (λ i. m * f i) n ≡ m * sum_to f n
unfolding sum_to
sum_multiple m f zero = sym (mul-zero m)
sum_multiple m f (suc n) = rw (mul-add, sum_multiple m f n)

-- a sum of smaller terms is smaller
pub sum_le : (f g : ℕ → ℕ) (n : ℕ) → ((i : ℕ) → i < n → f i ≤ g i) → sum_to f n ≤ sum_to g n
unfolding sum_to
sum_le f g zero h = le_refl 0
sum_le f g (suc n) h = omega (arith, sum_le f g n (λ i l. h i (omega arith)), h n (le_refl (suc n)))

-- and where it leaves one term out, that term fits in besides
pub sum_without : (f g : ℕ → ℕ) (n k : ℕ) → k < n → f k ≡ 0 → ((i : ℕ) → i < n → f i ≤ g i) → sum_to f n + g k ≤ sum_to g n
unfolding sum_to
sum_without f g zero k l e h = absurd (omega arith)
sum_without f g (suc n) k l e h = go (eq-or-lt_of_le (omega arith)) (λ m. sum_without f g n k m e below) (h n (le_refl (suc n)))
  where
    below : (i : ℕ) → i < n → f i ≤ g i
    below i m = h i (omega arith)

    go : (k ≡ n) ⊎ (k < n) → (k < n → sum_to f n + g k ≤ sum_to g n) → f n ≤ g n → sum_to f n + f n + g k ≤ sum_to g n + g n
    go (inl at) before last = omega (arith, sum_le f g n below, ap f at, ap g at)
    go (inr m) before last = omega (arith, before m)

-- a term is at most the sum
pub term_le : (f : ℕ → ℕ) (n k : ℕ) → k < n → f k ≤ sum_to f n
unfolding sum_to
term_le f zero k l = absurd (omega arith)
term_le f (suc n) k l = go (eq-or-lt_of_le (omega arith)) (term_le f n k)
  where
    go : (k ≡ n) ⊎ (k < n) → (k < n → f k ≤ sum_to f n) → f k ≤ sum_to f n + f n
    go (inl at) before = omega (arith, ap f at)
    go (inr m) before = omega (arith, before m)

-- none of some numbers is over the largest
pub most_ge : (f : ℕ → ℕ) (n k : ℕ) → k < n → f k ≤ most_to f n
unfolding most_to
most_ge f zero k l = absurd (omega arith)
most_ge f (suc n) k l = go (eq-or-lt_of_le (omega arith)) (most_ge f n k)
  where
    go : (k ≡ n) ⊎ (k < n) → (k < n → f k ≤ most_to f n) → f k ≤ max (most_to f n) (f n)
    go (inl at) before = omega (arith, ap f at)
    go (inr m) before = omega (arith, before m)

-- and the largest, where it is not 0, is one of them
pub record Largest (f : ℕ → ℕ) (n : ℕ) : Type 0 where
  pub at : ℕ
  pub below : at < n
  pub is : f at ≡ most_to f n

pub most_one : (f : ℕ → ℕ) (n : ℕ) → 0 < most_to f n → Largest f n
unfolding most_to
most_one f zero l = absurd (omega arith)
most_one f (suc n) l = go (dec_le (most_to f n) (f n)) (most_one f n)
  where
    go : Dec (most_to f n ≤ f n) → (0 < most_to f n → Largest f n) → Largest f (suc n)
    go (yes h) before = record { at = n; below = le_refl (suc n); is = omega arith }
    go (no h) before =
        let so = before (omega arith) in
        record { at = so.at; below = omega (arith, so.below); is = omega (arith, so.is) }
