-- The first wanted window that falls short, as the code looks for it. Assumes nothing.
use Rattle.std.proofs.Common.{ℕ, zero, suc, ◌+◌, ◌*◌, ◌≤◌, ◌≡◌, ◌∙◌, Bool, true, false, cond, Option, Some, None, refl, ap, add-zero, arith}
use Rattle.std.specs.List.{find, range_with_len}
use Rattle.std.specs.Option.{unwrap_or, option_map}
use lib.Dec.{ltb}
use Rattle.std.proofs.Math.Nat.{le_trans, mul-le-mul}
use Rattle.types.specs.Bounds.{last_start}
use Rattle.types.specs.Least.{first_below}

-- the first of n numbers from j on that is below c, or the number past them
found_from : (f : ℕ → ℕ) (c j n : ℕ) → unwrap_or (find (λ k. ltb (f k) c) (range_with_len j n)) (j + n) ≡ first_below f c j n
unfolding first_below
found_from f c j zero = add-zero j
found_from f c j (suc n) = go (ltb (f j) c) (found_from f c (j + 1) n)
  where
    rest : Option ℕ
    rest = find (λ k. ltb (f k) c) (range_with_len (j + 1) n)

    go : (b : Bool) → unwrap_or rest (j + 1 + n) ≡ first_below f c (j + 1) n
        → unwrap_or (cond b (Some j) rest) (j + suc n) ≡ cond b j (first_below f c (j + 1) n)
    go true e = refl
    go false e = ap (unwrap_or rest) (omega arith) ∙ e

-- `find` gives it, or nothing
pub first_found
    : (f : ℕ → ℕ) (c n : ℕ) (r : Option ℕ) → option_map (λ k. k) r ≡ find (λ k. ltb (f k) c) (range_with_len 0 n)
    → unwrap_or r n ≡ first_below f c 0 n
first_found f c n r e = ap (λ o. unwrap_or o n) (same r ∙ e) ∙ ap (unwrap_or (find (λ k. ltb (f k) c) (range_with_len 0 n))) (omega arith) ∙ found_from f c 0 n
  where
    same : (o : Option ℕ) → o ≡ option_map (λ k. k) o
    same None = refl
    same (Some k) = refl

-- it is no more than the number past them
pub first_below_le : (f : ℕ → ℕ) (c j n : ℕ) → first_below f c j n ≤ j + n
unfolding first_below
first_below_le f c j zero = omega arith
first_below_le f c j (suc n) = go (ltb (f j) c) (first_below_le f c (j + 1) n)
  where
    go : (b : Bool) → first_below f c (j + 1) n ≤ j + 1 + n → cond b j (first_below f c (j + 1) n) ≤ j + suc n
    go true l = omega arith
    go false l = omega arith

-- so it starts no window far out
pub start_small : (n j step : ℕ) → n ≤ 4096 → j ≤ n → step ≤ 4096 → j * step ≤ last_start
start_small n j step few within short = mul-le-mul (le_trans within few) short
