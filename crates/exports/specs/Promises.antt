-- What is promised of what one call hands to the next, and of refusals. Why each holds is in proofs/: Kept, Places, Writes, Unset and Beyond.
-- Assumes nothing.
use Rattle.answers.specs.Answers.{Accepted, Refused}
use Rattle.std.specs.Prelude.{ℕ, ◌/◌, ◌%◌, ◌≤◌, ◌<◌, min, true, false, ◌&&◌, List, ◌⊎◌, ◌≡◌, length, get_or, take, drop, replicate}
use Rattle.ticks.specs.Times.{Said}
use Rattle.meaning.specs.Soft.{within_range}
use Rattle.meaning.specs.declared.SlotType.{SlotType}
use Rattle.plans.specs.Plan.{There, misses_of, is_host, no_misses}
use Rattle.plans.specs.declared.Plan.{Plan}
use Rattle.rules.specs.Fit.{Rule20}
use Rattle.reader.specs.Read.{read_plan, name_of}
use Rattle.layout.specs.Promises.{Bytes, ByBytes, ByRules}
use Rattle.dispatch.specs.Slot.{unsupplied}
use Rattle.numbers.specs.Numbers.{plan_of_numbers, is_plan, is_state}
use Rattle.numbers.specs.Promises.{LaidOut}
use Rattle.exports.specs.Exports.{placeless, refusal, telling, deciding, reading, span, are_whole, freshening, stepping, running}

-- The value of an accepted plan is handed from the read to every call after it as it was read.
abbrev pub HandedOn : Type 0
HandedOn = (bytes : List ℕ) → (read_plan bytes).answer ≡ Accepted → LaidOut (read_plan bytes).plan

-- The part of the bytes at the place and of the length that are told is the name that the reader hands out.
abbrev pub NameThere : Type 0
NameThere = (bytes : List ℕ) (i : ℕ) → take (get_or (span bytes i) 1 0) (drop (get_or (span bytes i) 0 0) bytes) ≡ name_of bytes i

-- Number and place are read back from a refusal, its low half and its high half.
abbrev pub Halves : Type 0
Halves =
    (number place : ℕ) → number < 0x1_0000_0000 →
    (refusal number place % 0x1_0000_0000 ≡ number) × (refusal number place / 0x1_0000_0000 ≡ min place placeless)

-- A refused read has a number from 1 to 14, or 19 or 20, so that its answer is not 0, and a place that its half holds.
pub record Told (number place : ℕ) : Type 0 where
  pub known : ByBytes number ⊎ ByRules number
  pub held : place < placeless

abbrev pub ReadsTold : Type 0
ReadsTold = (bytes : List ℕ) → Bytes bytes → (number place : ℕ) → (read_plan bytes).answer ≡ Refused number place → Told number place

-- include/mettulos.h: a refusal writes nothing, but for zeros and answers of 255. What is left of each call w, when its answer is not 0: of a time and of
-- a pair, everything as it was
abbrev pub RefusedTime : Type 0
RefusedTime = (s : Said) (lent : List ℕ) → let w = telling s lent in (w.0 ≡ 0 → ⊥) → w.1 ≡ lent

abbrev pub RefusedPair : Type 0
RefusedPair =
    (gives : ℕ) (giver : SlotType) (wants : ℕ) (wanted : SlotType) (out lent : List ℕ) →
    let w = deciding gives giver wants wanted out lent in (w.0 ≡ 0 → ⊥) → (w.1 ≡ out) × (w.2 ≡ lent)

-- of a run, state and room as they were
abbrev pub RefusedRun : Type 0
RefusedRun =
    (setting : ℕ) (plan state supplies declines out : List ℕ) →
    let w = running setting plan state supplies declines out in (w.0 ≡ 0 → ⊥) → (w.1 ≡ state) × (w.2 ≡ out)

-- of a step, the state as it was, and answers of 255 where there is a place for each
abbrev pub RefusedStep : Type 0
RefusedStep =
    (setting : ℕ) (plan state : List ℕ) (supplied declines : ℕ) (grants : List ℕ) → are_whole plan state ≡ true → length grants ≡ 8 →
    let w = stepping setting plan state supplied declines grants in (w.0 ≡ 0 → ⊥) → (w.1 ≡ state) × (w.2 ≡ replicate 8 unsupplied)

-- of a read, zeros
abbrev pub RefusedRead : Type 0
RefusedRead = (bytes lent : List ℕ) → length lent ≡ 533 → let w = reading bytes lent in (w.0 ≡ 0 → ⊥) → w.1 ≡ replicate 533 0

-- of a fresh start, zeros
abbrev pub RefusedFresh : Type 0
RefusedFresh = (plan lent : List ℕ) → are_whole plan lent ≡ true → let w = freshening plan lent in (w.0 ≡ 0 → ⊥) → w.1 ≡ replicate 65 0

-- an answer is 5 with no place where this is so, and else it is never 5, with a place or with none
abbrev pub FiveExactly : ℕ → Type 0 → Type 0
FiveExactly answer unset = (unset → answer ≡ refusal 5 placeless) × ((place : ℕ) → answer ≡ refusal 5 place → unset)

-- include/mettulos.h: a setting that is neither 0 nor 1 is refused by 5, once the lengths are right and before anything else is looked at, and nothing else is.
-- Of a step:
abbrev pub UnsetStep : Type 0
UnsetStep =
    (setting : ℕ) (plan state : List ℕ) (supplied declines : ℕ) (grants : List ℕ) →
    FiveExactly (stepping setting plan state supplied declines grants).0 ((are_whole plan state ≡ true) × (length grants ≡ 8) × (1 < setting))

-- of a run, before its other lengths are looked at:
abbrev pub UnsetRun : Type 0
UnsetRun =
    (setting : ℕ) (plan state supplies declines out : List ℕ) →
    FiveExactly (running setting plan state supplies declines out).0 ((are_whole plan state ≡ true) × (1 < setting))

-- include/mettulos.h: numbers beyond their field, in unused entries too, "make the value unfit: 16", once the lengths are right. Of a fresh start:
abbrev pub BeyondFresh : Type 0
BeyondFresh = (plan lent : List ℕ) → are_whole plan lent ≡ true → is_plan plan ≡ false → (freshening plan lent).0 ≡ refusal 16 placeless

-- of a step under either setting:
abbrev pub BeyondStep : Type 0
BeyondStep =
    (setting : ℕ) (plan state : List ℕ) (supplied declines : ℕ) (grants : List ℕ) → are_whole plan state ≡ true → length grants ≡ 8 → setting ≤ 1 →
    (is_plan plan && is_state state) ≡ false → (stepping setting plan state supplied declines grants).0 ≡ refusal 16 placeless

-- of a run, before its other lengths are looked at:
abbrev pub BeyondRun : Type 0
BeyondRun =
    (setting : ℕ) (plan state supplies declines out : List ℕ) → are_whole plan state ≡ true → setting ≤ 1 → (is_plan plan && is_state state) ≡ false →
    (running setting plan state supplies declines out).0 ≡ refusal 16 placeless

-- What document 02, request 6, has a plan value be unfit for: an edition that is neither 1 nor 2; 19, "bad D, W or a host with D above 0", and misses in
-- edition 1 other than D 0 and W 1; 20, a soft leaf "not so made"
pub data BadMisses (plan : Plan) : Type 0 where
  neither : (plan.edition ≡ 1 → ⊥) → (plan.edition ≡ 2 → ⊥) → BadMisses plan
  range : (i : ℕ) → There plan i → within_range (misses_of plan i) ≡ false → BadMisses plan
  host : (i : ℕ) → There plan i → is_host plan i ≡ true → 0 < (misses_of plan i).d → BadMisses plan
  first_edition : (i : ℕ) → There plan i → plan.edition ≡ 1 → (misses_of plan i ≡ no_misses → ⊥) → BadMisses plan
  twenty : (i : ℕ) → There plan i → (Rule20 plan i → ⊥) → BadMisses plan

-- every call with the plan of these numbers is refused by 16, once the lengths are right, under either setting
pub record Sixteen (plan : List ℕ) : Type 0 where
  pub fresh : (lent : List ℕ) → are_whole plan lent ≡ true → (freshening plan lent).0 ≡ refusal 16 placeless
  pub step : (setting : ℕ) (state : List ℕ) (supplied declines : ℕ) (grants : List ℕ) → are_whole plan state ≡ true → length grants ≡ 8 → setting ≤ 1 →
      (stepping setting plan state supplied declines grants).0 ≡ refusal 16 placeless
  pub run : (setting : ℕ) (state supplies declines out : List ℕ) → are_whole plan state ≡ true → setting ≤ 1 →
      (running setting plan state supplies declines out).0 ≡ refusal 16 placeless

-- 02: "16 covers 19 and 20"
abbrev pub SixteenCovers : Type 0
SixteenCovers = (plan : List ℕ) → BadMisses (plan_of_numbers plan) → Sixteen plan
