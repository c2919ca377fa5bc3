-- What document 01, "Types and what they mean", promises of the decision, by the meaning alone. Why each holds is in proofs/. Assumes nothing.
use Rattle.std.specs.Prelude.{ℕ, ◌+◌, ◌-◌, ◌≤◌, ◌<◌, true, false, List, ◌↔◌, ◌≡◌, length, get_or, Result}
use Rattle.meaning.specs.Allocation.{Allocation, bit, ones}
use Rattle.meaning.specs.Types.{well_formed, Starts, Honours, StandsIn}
use Rattle.meaning.specs.Written.{written, stretch_from, stretch_to}
use Rattle.meaning.specs.declared.SlotType.{SlotType}
use Rattle.meaning.specs.declared.Kind.{Kind}
use Rattle.meaning.specs.declared.Kind.TheVariants.{Sliding}
use Rattle.answers.specs.Answers.{none, at}
use Rattle.types.specs.Verdict as verdict
use Rattle.types.specs.Verdict.{said, judged}
use Rattle.types.specs.Decision as decision
use Rattle.types.specs.Decision.{said_of, decided, out_after}
use Rattle.types.specs.declared.Verdict.{Verdict}
use Rattle.types.specs.declared.Decision.{Decision}
use Rattle.types.specs.declared.Refusal.{Refusal}

module _ (gives : Kind) (giver : SlotType) (wants : Kind) (wanted : SlotType) where
  -- m is the least number of ones that an allocation honouring the giver can have in a wanted window: none has fewer, and one has just that
  pub record LeastOf (m : ℕ) : Type 0 where
    pub none_fewer : (α : Allocation) → Honours gives giver α → (s : ℕ) → Starts wants wanted.t s → m ≤ ones α s wanted.t
    pub allocation : Allocation
    pub honours : Honours gives giver allocation
    pub start : ℕ
    pub starts : Starts wants wanted.t start
    pub just : ones allocation start wanted.t ≡ m

  -- s is the least wanted start at which some allocation honouring the giver has fewer than C' ones, o the least possible there, and the
  -- written allocation one that has just those
  pub record FirstFailing (s o : ℕ) : Type 0 where
    pub starts : Starts wants wanted.t s
    pub honours : Honours gives giver (written giver.c giver.t s wanted.t)
    pub just : ones (written giver.c giver.t s wanted.t) s wanted.t ≡ o
    pub falls_short : o < wanted.c
    pub none_fewer : (α : Allocation) → Honours gives giver α → o ≤ ones α s wanted.t
    pub first : (z : ℕ) → z < s → Starts wants wanted.t z → (α : Allocation) → Honours gives giver α → wanted.c ≤ ones α z wanted.t

  -- a buffer with room: the decision is that failure, the buffer's first n bytes become those of the written allocation from the stretch's first slot
  -- on, and its bytes from n on are as they were
  pub record Shown (s o n : ℕ) (out : List ℕ) : Type 0 where
    pub answer : decided gives giver wants wanted (length out) ≡ decision.fails s o n
    pub long : length (out_after gives giver wants wanted out) ≡ length out
    pub front
        : (i : ℕ) → i < n
        → get_or (out_after gives giver wants wanted out) i 0 ≡ bit (written giver.c giver.t s wanted.t (stretch_from giver.t s + i))
    pub beyond : (i : ℕ) → n ≤ i → get_or (out_after gives giver wants wanted out) i 0 ≡ get_or out i 0

  -- a buffer without: it is refused by 17 with no place, and stays as it was
  pub record NoRoom (out : List ℕ) : Type 0 where
    pub answer : decided gives giver wants wanted (length out) ≡ decision.refused 17 none
    pub kept : out_after gives giver wants wanted out ≡ out

  -- the witness of a no: the first failing start, the ones there, and the length of the stretch, which is shown in every buffer that has room for it
  pub record Witness (s o n : ℕ) : Type 0 where
    pub first : FirstFailing s o
    pub stretch : n ≡ stretch_to giver.t s wanted.t - stretch_from giver.t s
    pub shown : (out : List ℕ) → n ≤ length out → Shown s o n out
    pub no_room : (out : List ℕ) → length out < n → NoRoom out

  -- with an allocation and without, the pair is refused by 4 at this place
  pub record Malformed (place : ℕ) : Type 0 where
    pub judges : judged gives giver wants wanted ≡ verdict.refused 4 (at place)
    pub decides : (room : ℕ) → decided gives giver wants wanted room ≡ decision.refused 4 (at place)

-- A pair that holds stands in, by the meaning, and its count is the least of any wanted window.
abbrev pub Holding : Type 0
Holding =
    (gives : Kind) (giver : SlotType) (wants : Kind) (wanted : SlotType) (m : ℕ) →
    judged gives giver wants wanted ≡ verdict.holds m → StandsIn gives giver wants wanted × LeastOf gives giver wants wanted m

-- With an allocation, in any room, a pair holds exactly where it does without, and with the same count.
abbrev pub HoldingAlike : Type 0
HoldingAlike =
    (gives : Kind) (giver : SlotType) (wants : Kind) (wanted : SlotType) (room m : ℕ) →
    (decided gives giver wants wanted room ≡ decision.holds m) ↔ (judged gives giver wants wanted ≡ verdict.holds m)

-- A pair that falls short does not stand in, and its count is the least of any wanted window.
abbrev pub FallingShort : Type 0
FallingShort =
    (gives : Kind) (giver : SlotType) (wants : Kind) (wanted : SlotType) (m : ℕ) →
    judged gives giver wants wanted ≡ verdict.short m → (StandsIn gives giver wants wanted → ⊥) × LeastOf gives giver wants wanted m

-- Two well-formed types hold exactly when one stands in for the other, and fall short exactly when not.
abbrev pub Exact : Type 0
Exact =
    (gives : Kind) (giver : SlotType) (wants : Kind) (wanted : SlotType) → well_formed giver ≡ true → well_formed wanted ≡ true →
    (StandsIn gives giver wants wanted → (m : ℕ) × (judged gives giver wants wanted ≡ verdict.holds m)) ×
    ((StandsIn gives giver wants wanted → ⊥) → (m : ℕ) × (judged gives giver wants wanted ≡ verdict.short m))

-- A pair that fails shows the first failing window, whatever the room.
abbrev pub Failing : Type 0
Failing =
    (gives : Kind) (giver : SlotType) (wants : Kind) (wanted : SlotType) (room s o n : ℕ) →
    decided gives giver wants wanted room ≡ decision.fails s o n → FirstFailing gives giver wants wanted s o

-- A no always has its witness.
abbrev pub NoHasWitness : Type 0
NoHasWitness =
    (gives : Kind) (giver : SlotType) (wants : Kind) (wanted : SlotType) → well_formed giver ≡ true → well_formed wanted ≡ true →
    (StandsIn gives giver wants wanted → ⊥) → (s : ℕ) × (o : ℕ) × (n : ℕ) × Witness gives giver wants wanted s o n

-- 01: "sliding too, where s is always 0"
abbrev pub SlidingFromZero : Type 0
SlidingFromZero =
    (giver : SlotType) (wants : Kind) (wanted : SlotType) (room s o n : ℕ) →
    decided Sliding giver wants wanted room ≡ decision.fails s o n → s ≡ 0

-- 01: "A pair decision tests giver, then wanted (4, place 0 or 1)"
abbrev pub GiverThenWanted : Type 0
GiverThenWanted =
    (gives : Kind) (giver : SlotType) (wants : Kind) (wanted : SlotType) →
    (well_formed giver ≡ false → Malformed gives giver wants wanted 0) ×
    (well_formed giver ≡ true → well_formed wanted ≡ false → Malformed gives giver wants wanted 1)

-- 01: "A pair that holds writes nothing", and "Every refusal .. writes nowhere": what does not fail leaves the buffer as it was
abbrev pub NothingWritten : Type 0
NothingWritten =
    (gives : Kind) (giver : SlotType) (wants : Kind) (wanted : SlotType) (out : List ℕ) →
    ((s o n : ℕ) → decided gives giver wants wanted (length out) ≡ decision.fails s o n → ⊥) → out_after gives giver wants wanted out ≡ out

-- Two answers that say the same are the same, so each call's equation allows one answer; the buffer's equation allows one list.
abbrev pub OneVerdict : Type 0
OneVerdict = (a b : Result Verdict Refusal) → said a ≡ said b → a ≡ b

abbrev pub OneDecision : Type 0
OneDecision = (a b : Decision) → said_of a ≡ said_of b → a ≡ b
