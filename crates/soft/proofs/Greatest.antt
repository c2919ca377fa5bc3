-- The greatest number up to n of which a test holds, and divisors as a test. Assumes nothing.
use Prim.Native.Nat.{ℕ, zero, suc, ◌%◌, ◌≤◌, ◌<◌, ◌∣◌}
use mathlib.Core.Bool.{Bool, true, false, cond, and-eq-true_iff}
use mathlib.Core.Path.{◌≡◌, refl}
use mathlib.Core.Logic.{◌⊎◌, inl, inr}
use native.Mathlib.Nat.{dvd_of_mod-eq-zero, mod-eq-zero_of_dvd, le_refl, eq-or-lt_of_le}
use native.Mathlib.Omega.{arith}
use lib.Dec.{eqb, ltb}
use borrow.Author.Tests.{lt-ltb, ltb-true, eqb-true}
use Rattle.soft.specs.Formula.{divides, greatest}

-- it is no more than n
pub greatest_le : (f : ℕ → Bool) (n : ℕ) → greatest f n ≤ n
unfolding greatest
greatest_le f zero = le_refl 0
greatest_le f (suc n) = go (f (suc n)) (greatest_le f n)
  where
    go : (t : Bool) → greatest f n ≤ n → cond t (suc n) (greatest f n) ≤ suc n
    go true h = le_refl (suc n)
    go false h = omega arith

-- a test that holds of 0 holds of it
pub greatest_holds : (f : ℕ → Bool) → f 0 ≡ true → (n : ℕ) → f (greatest f n) ≡ true
unfolding greatest
greatest_holds f first zero = first
greatest_holds f first (suc n) = go (f (suc n)) refl (greatest_holds f first n)
  where
    go : (t : Bool) → f (suc n) ≡ t → f (greatest f n) ≡ true → f (cond t (suc n) (greatest f n)) ≡ true
    go true e h = e
    go false e h = h

-- and of no number above it up to n
pub greatest_above : (f : ℕ → Bool) (n x : ℕ) → x ≤ n → greatest f n < x → f x ≡ false
unfolding greatest
greatest_above f zero x h l = absurd (omega arith)
greatest_above f (suc n) x h l = go (f (suc n)) refl (greatest_above f n x) (eq-or-lt_of_le h) l
  where
    go : (t : Bool) → f (suc n) ≡ t → (x ≤ n → greatest f n < x → f x ≡ false) → (x ≡ suc n) ⊎ (x < suc n) → cond t (suc n) (greatest f n) < x
        → f x ≡ false
    go true e r i k = absurd (omega arith)
    go false e r (inl i) k = rw i e
    go false e r (inr i) k = r (omega arith) k

-- a test for a divisor, and what it means
pub divides_true : (a b : ℕ) → divides a b ≡ true → (0 < a) × (a ∣ b)
unfolding divides
divides_true a b e =
    let both = (and-eq-true_iff (ltb 0 a) (eqb (b % a) 0)).0 e in
    (ltb-true 0 a both.0, dvd_of_mod-eq-zero a (eqb-true (b % a) 0 both.1))

pub true_divides : (a b : ℕ) → 0 < a → a ∣ b → divides a b ≡ true
unfolding divides
true_divides a b some h = rw (lt-ltb 0 a some, mod-eq-zero_of_dvd a h)
