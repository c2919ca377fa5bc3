-- The sum and the largest of some numbers. Assumes nothing.
use Rattle.std.specs.Prelude.{ℕ, zero, suc, ◌+◌, max}

-- f 0 + .. + f (n − 1)
unfoldable pub sum_to : (ℕ → ℕ) → ℕ → ℕ
sum_to f zero = 0
sum_to f (suc n) = sum_to f n + f n

-- the largest of f 0, .., f (n − 1), or 0 where there is none
unfoldable pub most_to : (ℕ → ℕ) → ℕ → ℕ
most_to f zero = 0
most_to f (suc n) = max (most_to f n) (f n)
