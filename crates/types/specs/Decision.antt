-- The decision on a pair of types, with its allocation: document 01, "Types and what they mean", and the order of its refusals. Assumes nothing.
use Rattle.std.specs.Prelude.{ℕ, zero, suc, ◌+◌, ◌-◌, cond, List, [], ◌∷◌, ◌++◌, leb, length, drop, Option, Some, None}
use Rattle.meaning.specs.Allocation.{Allocation, bit}
use Rattle.meaning.specs.Written.{written, stretch_from, stretch_to}
use Rattle.meaning.specs.declared.SlotType.{SlotType}
use Rattle.meaning.specs.declared.Kind.{Kind}
use Rattle.answers.specs.Answers.{Place, none, at}
use Rattle.types.specs.Least.{ones_from, first_short}
use Rattle.types.specs.Verdict.{judged}
use Rattle.types.specs.Verdict as verdict
use Rattle.types.specs.declared.Decision.{Decision}
use Rattle.types.specs.declared.Decision.TheVariants.{Holds, Fails, Refused}

-- What a decision says in document 01's own terms, "one of three things": the pair holds, with the least ones of any wanted window; it fails, with a
-- window start, the ones there and the length of the stretch; or it is refused, with number and place.
pub data Said : Type 0 where
  holds : ℕ → Said
  fails : ℕ → ℕ → ℕ → Said
  refused : ℕ → Place → Said

-- the place of a refusal, where it has one
abbrev pub place_of : Option ℕ → Place
place_of (Some k) = at k
place_of None = none

-- the call's answer in these terms
abbrev pub said_of : Decision → Said
said_of (Holds m) = holds m
said_of (Fails s o n) = fails s o n
said_of (Refused r p) = refused r (place_of p)

-- the length of the stretch around the window that starts at s
unfoldable pub stretch : SlotType → SlotType → ℕ → ℕ
stretch giver wanted s = stretch_to giver.t s wanted.t - stretch_from giver.t s

-- 01: "it gives 17 only where it fails and the stretch exceeds the buffer"
unfoldable pub failing : SlotType → SlotType → ℕ → ℕ → Said
failing giver wanted room s =
    cond (leb (stretch giver wanted s) room)
    (fails s (ones_from giver wanted s) (stretch giver wanted s))
    (refused 17 none)

-- by the verdict: where it holds or is refused the decision says the same, and where it falls short, what is found of the first window that does
abbrev pub showing : verdict.Said → Said → Said
showing (verdict.holds m) found = holds m
showing (verdict.short m) found = found
showing (verdict.refused r p) found = refused r p

unfoldable pub decided : Kind → SlotType → Kind → SlotType → ℕ → Said
decided gives giver wants wanted room =
    showing (judged gives giver wants wanted) (failing giver wanted room (first_short gives giver wants wanted))

-- 01: "The allocation is written as bytes 0 or 1": those of the n slots from slot `from` on
unfoldable pub bytes : Allocation → ℕ → ℕ → List ℕ
bytes α from zero = []
bytes α from (suc n) = bytes α from n ++ (bit (α (from + n)) ∷ [])

-- 01: "Bytes beyond the stretch stay. A pair that holds writes nothing", and "Every refusal .. writes nowhere"
abbrev pub writing : SlotType → SlotType → List ℕ → Said → List ℕ
writing giver wanted out (holds m) = out
writing giver wanted out (fails s o n) =
    bytes (written giver.c giver.t s wanted.t) (stretch_from giver.t s) n ++ drop n out
writing giver wanted out (refused r p) = out

-- the buffer after the decision
unfoldable pub out_after : Kind → SlotType → Kind → SlotType → List ℕ → List ℕ
out_after gives giver wants wanted out = writing giver wanted out (decided gives giver wants wanted (length out))
