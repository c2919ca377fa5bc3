-- The fractions behind slot times, over plain numbers: slot n begins at n·P/Q. Assumes nothing.
use Prim.Native.Nat.{ℕ, ◌+◌, ◌-◌, ◌*◌, ◌/◌, ◌^◌, ◌≤◌, ◌<◌}
use mathlib.Core.Path.{◌≡◌}
use native.Mathlib.Nat.{le-div_iff_mul-le, div-lt_iff_lt-mul, div-mul-le_self, mul-le-mul, mul-le-mul_right, suc-mul, le_trans}
use native.Mathlib.Numerals.{add-one}
use native.Mathlib.Omega.{arith}

-- one more factor
pub add_one_mul : (n m : ℕ) → (n + 1) * m ≡ n * m + m
add_one_mul n m = rw add-one (suc-mul n m)

-- slot n begins at or before t exactly when n is at most the closed form, x / P
pub at_most_closed : (P Q t x n : ℕ) → 0 < P → 0 < Q → n * P / Q ≤ t → x ≡ (t + 1) * Q - 1 → n ≤ x / P
at_most_closed P Q t x n p q h e =
    let under : n * P < (t + 1) * Q = (div-lt_iff_lt-mul q).0 (omega arith) in
    (le-div_iff_mul-le p).1 (omega arith)

pub closed_begins : (P Q t x n : ℕ) → 0 < P → 0 < Q → n ≤ x / P → x ≡ (t + 1) * Q - 1 → n * P / Q ≤ t
closed_begins P Q t x n p q h e =
    let room : 0 < (t + 1) * Q = omega (arith, add_one_mul t Q) in
    let under : n * P ≤ x = (le-div_iff_mul-le p).0 h in
    let below : n * P / Q < t + 1 = (div-lt_iff_lt-mul q).1 (omega arith) in
    omega arith

-- starts never fall
pub never_falls : (P Q n m : ℕ) → 0 < Q → n ≤ m → n * P / Q ≤ m * P / Q
never_falls P Q n m q h =
    (le-div_iff_mul-le q).1 (le_trans (div-mul-le_self (n * P) Q) (mul-le-mul_right P h))

-- where slots are no shorter than a microsecond, starts rise
pub rises : (P Q n m : ℕ) → 0 < Q → Q ≤ P → n < m → n * P / Q < m * P / Q
rises P Q n m q long h =
    (le-div_iff_mul-le q).1
    (omega (arith, suc-mul (n * P / Q) Q, div-mul-le_self (n * P) Q, suc-mul n P, mul-le-mul_right P h))

-- a slot or a time up to one past 2^40, times a number of a tick, fits 64 bits with room to spare
pub product_small : (a b : ℕ) → a ≤ 2 ^ 40 + 1 → b ≤ 1_000_000 → a * b < 2 ^ 64
product_small a b h l = omega (arith, mul-le-mul h l)
