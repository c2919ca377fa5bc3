-- The least ones of a wanted window and the first window that falls short, over the starts that say all there is to say. That they are
-- the least and the first of all, by the meaning, is promised in Promises. Assumes nothing.
use Rattle.std.specs.Prelude.{ℕ, zero, suc, ◌+◌, ◌*◌, cond, ltb}
use Rattle.meaning.specs.Allocation.{ones}
use Rattle.meaning.specs.Least.{lowest}
use Rattle.meaning.specs.Written.{written}
use Rattle.meaning.specs.declared.SlotType.{SlotType}
use Rattle.meaning.specs.declared.Kind.{Kind}
use Rattle.meaning.specs.declared.Kind.TheVariants.{Aligned, Sliding}

-- from the start of one wanted window to the next
unfoldable pub step : Kind → SlotType → ℕ
step Aligned wanted = wanted.t
step Sliding wanted = 1

-- How many starts are looked at. An aligned giver's blocks stand to a start as to the one T starts later; a sliding giver has no blocks.
unfoldable pub turns : Kind → SlotType → ℕ
turns Aligned giver = giver.t
turns Sliding giver = 1

-- the ones of the written allocation in its window, the wanted one that starts at s
unfoldable pub ones_from : SlotType → SlotType → ℕ → ℕ
ones_from giver wanted s = ones (written giver.c giver.t s wanted.t) s wanted.t

-- the same, for the wanted window of number j
unfoldable pub ones_at : SlotType → Kind → SlotType → ℕ → ℕ
ones_at giver wants wanted j = ones_from giver wanted (j * step wants wanted)

-- 01: "the least number of ones any wanted window can have"
unfoldable pub least_ones : Kind → SlotType → Kind → SlotType → ℕ
least_ones gives giver wants wanted = lowest (ones_at giver wants wanted) wanted.t (turns gives giver)

-- the first of the n numbers from j on at which f is below c, or the number past them
unfoldable pub first_below : (ℕ → ℕ) → ℕ → ℕ → ℕ → ℕ
first_below f c j zero = j
first_below f c j (suc n) = cond (ltb (f j) c) j (first_below f c (j + 1) n)

-- 01: "The start s is the least at which some allocation honouring the giver has fewer than C' ones in the wanted window"
unfoldable pub first_short : Kind → SlotType → Kind → SlotType → ℕ
first_short gives giver wants wanted =
    first_below (ones_at giver wants wanted) wanted.c 0 (turns gives giver) * step wants wanted
