-- Allocations and their ones: document 01, "Types and what they mean"; document 003, section III.B. Assumes nothing.
use Rattle.std.specs.Prelude.{ℕ, zero, suc, ◌+◌, Bool, true, false}

-- 01: "An allocation is an unending sequence of 0 and 1, from slot 0"
abbrev pub Allocation : Type 0
Allocation = ℕ → Bool

-- what a slot counts
abbrev pub bit : Bool → ℕ
bit false = 0
bit true = 1

-- the ones in the window of n slots that starts at slot s
unfoldable pub ones : Allocation → ℕ → ℕ → ℕ
ones α s zero = 0
ones α s (suc n) = ones α s n + bit (α (s + n))
