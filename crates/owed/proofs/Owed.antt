-- What an aligned giver (C, T) owes a window, in closed form. It serves proofs alone: that it is the least number of ones is a theorem about
-- the meaning. Assumes nothing.
use Prim.Native.Nat.{ℕ, ◌+◌, ◌-◌, ◌*◌, ◌/◌, ◌%◌, min}

-- of n slots from the start of a block on: C for each whole block, and what of the last part exceeds T − C
unfoldable pub whole : ℕ → ℕ → ℕ → ℕ
whole C T n = n / T * C + (n % T - (T - C))

-- how much of a window of L slots from s lies in s's own block
unfoldable pub head : ℕ → ℕ → ℕ → ℕ
head T s L = min L (T - s % T)

-- of the window of L slots that starts at s: what of its first part exceeds T − C, and then what follows from a block's start on
unfoldable pub owed : ℕ → ℕ → ℕ → ℕ → ℕ
owed C T s L = (head T s L - (T - C)) + whole C T (L - head T s L)
