-- The least of some numbers. Assumes nothing.
use Rattle.std.specs.Prelude.{ℕ, zero, suc, min}

-- the least of low, f 0, .., f (n − 1)
unfoldable pub lowest : (ℕ → ℕ) → ℕ → ℕ → ℕ
lowest f low zero = low
lowest f low (suc n) = min (lowest f low n) (f n)
