-- Misses allowed: document 02, request 6, which takes the aligned soft meaning of document 003, section III.C. The wanted windows are numbered from 0 on,
-- and which of them have their C' is itself a sequence of 0 and 1. Assumes nothing.
use Rattle.std.specs.Prelude.{ℕ, ◌-◌, ◌*◌, ◌≤◌, Bool, not, leb}
use Rattle.meaning.specs.Allocation.{Allocation, ones}
use Rattle.meaning.specs.Types.{ranged, Honours}
use Rattle.meaning.specs.declared.SlotType.{SlotType}
use Rattle.meaning.specs.declared.Kind.{Kind}
use Rattle.meaning.specs.declared.Kind.TheVariants.{Aligned, Sliding}
use Rattle.meaning.specs.declared.Misses.{Misses}

-- 02: "1 ≤ W ≤ 1,024, D ≤ W"
unfoldable pub within_range : Misses → Bool
within_range m = ranged m.d m.w 1024

-- where the wanted window of number v starts
abbrev pub window_start : Kind → ℕ → ℕ → ℕ
window_start Aligned T v = v * T
window_start Sliding T v = v

-- a window is met where it has its C'
unfoldable pub met : Kind → SlotType → Allocation → Allocation
met k wanted α v = leb wanted.c (ones α (window_start k wanted.t v) wanted.t)

-- how many of the n windows from window v on are short of their C'
abbrev pub missed : Kind → SlotType → Allocation → ℕ → ℕ → ℕ
missed k wanted α v n = ones (λ u. not (met k wanted α u)) v n

-- 02: "in every W wanted windows starting at a multiple of W·T', at least W − D have their C'"
abbrev pub HonoursSoft : Kind → SlotType → Misses → Allocation → Type 0
HonoursSoft k wanted misses α = (b : ℕ) → misses.w - misses.d ≤ ones (met k wanted α) (b * misses.w) misses.w

-- a giving type stands in for a soft one when every allocation that honours the giver honours the soft type
abbrev pub StandsInSoft : Kind → SlotType → Kind → SlotType → Misses → Type 0
StandsInSoft k giver k' wanted misses = (α : Allocation) → Honours k giver α → HonoursSoft k' wanted misses α
