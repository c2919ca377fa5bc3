-- The failing allocation, as document 01 writes it: "Types and what they mean", last paragraph. Assumes nothing.
use Rattle.std.specs.Prelude.{ℕ, ◌+◌, ◌-◌, ◌*◌, ◌/◌, max, Bool, not, ◌&&◌, leb, ltb}
use Rattle.meaning.specs.Allocation.{Allocation}

-- slot n lies inside the window of L slots that starts at s
abbrev pub inside : ℕ → ℕ → ℕ → Bool
inside s L n = leb s n && ltb n (s + L)

-- how many slots of n's own T-block stand inside the window before n, a slot inside the window that starts at s
abbrev pub earlier : ℕ → ℕ → ℕ → ℕ
earlier T s n = n - max s (n / T * T)

-- 01: "In each T-block of that stretch the earliest slots inside the window are 0, at most T − C of them, and the rest are 1. Every slot
-- outside the stretch counts as 1."
unfoldable pub written : ℕ → ℕ → ℕ → ℕ → Allocation
written C T s L n = not (inside s L n && ltb (earlier T s n) (T - C))

-- 01: "from the multiple of T at or below s to the first multiple of T at or above s + T'"
unfoldable pub stretch_from : ℕ → ℕ → ℕ
stretch_from T s = s / T * T

unfoldable pub stretch_to : ℕ → ℕ → ℕ → ℕ
stretch_to T s L = (s + L + (T - 1)) / T * T
