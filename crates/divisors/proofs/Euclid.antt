-- Euclid's steps keep the greatest common divisor, of which there is one, and end at it. Assumes nothing.
use Prim.Native.Nat.{ℕ, ◌%◌, ◌<◌}
use native.Mathlib.Nat.{dvd_antisymm, le_of_dvd, pos_of_dvd_of_pos}
use native.Mathlib.Decide.{dec_lt}
use native.Mathlib.Omega.{arith}
use mathlib.Core.Path.{◌≡◌}
use Rattle.std.specs.Int.{IsGcd}
use Rattle.std.proofs.lemmas.Nat.Gcd.{IsGcd-from_zero, IsGcd-from_mod}
use Rattle.divisors.specs.Common.{Common, OneCommon, NoneGreater}

-- two numbers that are each the greatest common divisor of a and b are equal
pub one_common : OneCommon
one_common a b c d m n = dvd_antisymm (n.greatest c m.left m.right) (m.greatest d n.left n.right)

-- what divides a number that is not 0 is not 0, and no greater than it
pub none_greater : NoneGreater
none_greater a b d m some e l r = le_of_dvd (go (dec_lt 0 a)) (m.greatest e l r)
  where
    go : Dec (0 < a) → 0 < d
    go (yes h) = pos_of_dvd_of_pos m.left h
    go (no h) = pos_of_dvd_of_pos m.right (omega arith)

-- std's word for it says the same
pub common_of : (a b d : ℕ) → IsGcd a b d → Common a b d
common_of a b d h = record { left = h.0; right = h.1; greatest = h.2 }

-- what Euclid's loop keeps: the greatest common divisor of x and y is that of a and b
pub record Kept (a b x y : ℕ) : Type 0 where
  pub same : (d : ℕ) → IsGcd x y d → IsGcd a b d

pub kept_start : (a b : ℕ) → Kept a b a b
kept_start a b = record { same = λ d h. h }

-- one of Euclid's steps keeps it
pub kept_step : {a b x y : ℕ} → Kept a b x y → Kept a b y (x % y)
kept_step {x = x} {y} k = record { same = λ d h. k.same d (IsGcd-from_mod x y d h) }

-- where y has fallen to 0, x is the greatest common divisor
pub common_kept : {a b x y : ℕ} → Kept a b x y → y ≡ 0 → Common a b x
common_kept {a} {b} {x} {y} k none = common_of a b x (k.same x (IsGcd-from_zero x y none))
