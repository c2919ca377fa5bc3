-- The starred decisions and times of document 01, "Decisions to check against", as one table under one claim, `Starred`. Assumes nothing.
use Rattle.std.specs.Prelude.{ℕ, ◌+◌, List, [], ◌∷◌, ◌++◌, ◌≡◌, length, drop, replicate}
use Rattle.meaning.specs.Types.{◌of◌}
use Rattle.meaning.specs.Written.{stretch_from, stretch_to}
use Rattle.meaning.specs.declared.Kind.{Kind}
use Rattle.meaning.specs.declared.Kind.TheVariants.{Aligned, Sliding}
use Rattle.meaning.specs.declared.SlotType.{SlotType}
use Rattle.ticks.specs.Times.{begins, Latest}
use Rattle.ticks.specs.declared.Tick.{Tick}
use Rattle.types.specs.Decision.{holds, fails, decided, out_after}

-- a slot lasts P/Q microseconds
abbrev pub tick : ℕ → ℕ → Tick
tick P Q = record { p = P; q = Q }

-- One starred line: at the tick P, Q slot n begins at v; at the tick P, Q time t lies in slot n; a giver, decided for a wanted type, holds with m ones;
-- or it fails, with a window start, the ones there, the first and the last slot of the stretch, and the allocation.
pub data Row : Type 0 where
  begins_at : (P Q n v : ℕ) → Row
  lies_in : (P Q t n : ℕ) → Row
  holds_with : Kind → SlotType → Kind → SlotType → (m : ℕ) → Row
  fails_at : Kind → SlotType → Kind → SlotType → (s o from to : ℕ) → List ℕ → Row

-- what the document lists, line by line
abbrev pub rows : List Row
rows =
    -- "fails, s 5, ones 0, stretch 4 to 11"
    fails_at Aligned (1 of 4) Aligned (1 of 5) 5 0 4 11 (1 ∷ 0 ∷ 0 ∷ 0 ∷ 0 ∷ 0 ∷ 1 ∷ 1 ∷ []) ∷
    holds_with Aligned (1 of 4) Aligned (2 of 8) 2 ∷
    holds_with Aligned (2 of 4) Sliding (2 of 8) 2 ∷
    -- "fails, s 2, ones 2"
    fails_at Aligned (2 of 4) Sliding (3 of 8) 2 2 0 11 (1 ∷ 1 ∷ 0 ∷ 0 ∷ 0 ∷ 0 ∷ 1 ∷ 1 ∷ 0 ∷ 0 ∷ 1 ∷ 1 ∷ []) ∷
    holds_with Sliding (2 of 3) Sliding (3 of 5) 3 ∷
    -- "For (4,5): fails, s 0, ones 3"
    fails_at Sliding (2 of 3) Sliding (4 of 5) 0 3 0 5 (0 ∷ 1 ∷ 1 ∷ 0 ∷ 1 ∷ 1 ∷ []) ∷
    -- "for itself"
    holds_with Aligned (2 of 3) Aligned (2 of 3) 2 ∷
    -- "fails, s 3, ones 0"
    fails_at Aligned (2 of 4) Aligned (1 of 3) 3 0 0 7 (1 ∷ 1 ∷ 1 ∷ 0 ∷ 0 ∷ 0 ∷ 1 ∷ 1 ∷ []) ∷
    -- "Sliding (2,4) for the same"
    holds_with Sliding (2 of 4) Aligned (1 of 3) 1 ∷
    holds_with Sliding (3 of 4) Sliding (2 of 3) 2 ∷
    -- "(0,4) for (0,3), any kinds: holds, 0"
    holds_with Aligned (0 of 4) Aligned (0 of 3) 0 ∷
    holds_with Aligned (0 of 4) Sliding (0 of 3) 0 ∷
    holds_with Sliding (0 of 4) Aligned (0 of 3) 0 ∷
    holds_with Sliding (0 of 4) Sliding (0 of 3) 0 ∷
    -- "P 1,000, Q 3: slot 3 begins at 1,000; time 999 lies in slot 2"
    begins_at 1_000 3 3 1_000 ∷
    lies_in 1_000 3 999 2 ∷
    []

-- The buffer that each pair is decided with: room for the longest stretch of the table, and no byte in it that an allocation has.
abbrev pub buffer : List ℕ
buffer = replicate 12 7

-- What a row claims of the definitions. Of a pair that holds: the answer, and that the buffer stays. Of one that fails: the answer, with as many slots as
-- the allocation has; where the stretch begins and ends; and that the buffer then starts with the allocation and goes on as it was.
abbrev pub Right : Row → Type 0
Right (begins_at P Q n v) = begins (tick P Q) n ≡ v
Right (lies_in P Q t n) = Latest (tick P Q) t n
Right (holds_with gives giver wants wanted m) =
    (decided gives giver wants wanted (length buffer) ≡ holds m) × (out_after gives giver wants wanted buffer ≡ buffer)
Right (fails_at gives giver wants wanted s o from to allocation) =
    (decided gives giver wants wanted (length buffer) ≡ fails s o (length allocation)) ×
    (stretch_from giver.t s ≡ from) × (stretch_to giver.t s wanted.t ≡ to + 1) ×
    (out_after gives giver wants wanted buffer ≡ allocation ++ drop (length allocation) buffer)

-- all that is listed is right
abbrev pub EachRight : List Row → Type 0
EachRight [] = Unit {0}
EachRight (row ∷ others) = Right row × EachRight others

abbrev pub Starred : Type 0
Starred = EachRight rows
