-- Laws of `first_below`, the first of some numbers at which a function is below c. Assumes nothing.
use Prim.Native.Nat.{ℕ, zero, suc, ◌+◌, ◌≤◌, ◌<◌}
use mathlib.Core.Path.{◌≡◌, ap}
use mathlib.Core.Logic.{◌⊎◌, inl, inr}
use native.Mathlib.Nat.{eq-or-lt_of_le}
use native.Mathlib.Omega.{arith}
use borrow.Author.Tests.{lt-ltb, le-ltb}
use Rattle.owed.proofs.Lowest.{le_or_lt}
use Rattle.types.specs.Least.{first_below}

-- before the first the function is at least c
first_below_earlier : (f : ℕ → ℕ) (c j n m : ℕ) → j ≤ m → m < first_below f c j n → c ≤ f m
unfolding first_below
first_below_earlier f c j zero m from l = absurd (omega arith)
first_below_earlier f c j (suc n) m from l = go (first_below_earlier f c (j + 1) n m) (le_or_lt c (f j)) (eq-or-lt_of_le from)
  where
    go : (j + 1 ≤ m → m < first_below f c (j + 1) n → c ≤ f m) → (c ≤ f j) ⊎ (f j < c) → (j ≡ m) ⊎ (j < m) → c ≤ f m
    go r (inl h) (inl e) = omega (arith, ap f e)
    go r (inl h) (inr b) = r (omega arith) (rw (le-ltb (f j) c h) at l)
    go r (inr h) b = absurd (omega (arith, rw (lt-ltb (f j) c h) at l))

-- at the first, where there is one, the function is below c
first_below_value : (f : ℕ → ℕ) (c j n : ℕ) → first_below f c j n < j + n → f (first_below f c j n) < c
unfolding first_below
first_below_value f c j zero l = absurd (omega arith)
first_below_value f c j (suc n) l = go (first_below_value f c (j + 1) n) (le_or_lt c (f j))
  where
    go : (first_below f c (j + 1) n < j + 1 + n → f (first_below f c (j + 1) n) < c) → (c ≤ f j) ⊎ (f j < c) → f (first_below f c j (suc n)) < c
    go r (inl h) = rw (le-ltb (f j) c h) (r (omega (arith, rw (le-ltb (f j) c h) at l)))
    go r (inr h) = rw (lt-ltb (f j) c h) h

-- where the function is below c at one of n numbers from 0 on, the first is one of them, the function is below c there, and at least c before
pub record First (f : ℕ → ℕ) (c n i : ℕ) : Type 0 where
  pub within : i < n
  pub below : f i < c
  pub earlier : (m : ℕ) → m < i → c ≤ f m

pub first_below_lem : (f : ℕ → ℕ) (c n k : ℕ) → k < n → f k < c → First f c n (first_below f c 0 n)
first_below_lem f c n k l h = go (le_or_lt (first_below f c 0 n) k)
  where
    before : (m : ℕ) → m < first_below f c 0 n → c ≤ f m
    before m = first_below_earlier f c 0 n m (omega arith)

    go : (first_below f c 0 n ≤ k) ⊎ (k < first_below f c 0 n) → First f c n (first_below f c 0 n)
    go (inl b) = record { within = omega arith; below = first_below_value f c 0 n (omega arith); earlier = before }
    go (inr b) = absurd (omega (arith, before k b))
