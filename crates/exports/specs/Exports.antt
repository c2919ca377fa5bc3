-- What each function of include/mettulos.h answers and what the slices that it is lent hold afterwards, as a pair or a triple in the order of its
-- arguments. Built from what the crates below say of their calls. Assumes nothing.
use Rattle.std.specs.Prelude.{ℕ, ◌+◌, ◌*◌, min, Bool, cond, ◌&&◌, List, [], ◌∷◌, Option, Some, None, Result, Ok, Err, leb, eqb, length, replicate}
use Rattle.ticks.specs.Times.{begins, latest, timed, per_minute}
use Rattle.ticks.specs.Times as times
use Rattle.ticks.specs.declared.Tick.{Tick}
use Rattle.meaning.specs.declared.SlotType.{SlotType}
use Rattle.meaning.specs.declared.Kind.{Kind}
use Rattle.meaning.specs.declared.Kind.TheVariants.{Aligned, Sliding}
use Rattle.types.specs.Decision.{decided}
use Rattle.types.specs.Decision as pairs
use Rattle.answers.specs.Answers.{Place, none, at, Answer, Accepted, Refused}
use Rattle.decode.specs.Positions.{name_start}
use Rattle.reader.specs.Read.{read_plan, name_of}
use Rattle.dispatch.specs.Slot.{unsupplied}
use Rattle.dispatch.specs.Run.{Standing, RunEnd, StepEnd, zero_state, started, ran, stepped}
use Rattle.dispatch.specs.Run as runs
use Rattle.dispatch.specs.declared.Setting.{Setting}
use Rattle.dispatch.specs.declared.Setting.TheVariants.{Off, On}
use Rattle.exports.specs.declared.refusals.Refusal.{Refusal}
use Rattle.numbers.specs.Numbers.{plan_numbers, plan_of_numbers, state_numbers, state_of_numbers, is_state}

-- A refusal: its number in the low half, its place in the high half. A place that the half does not hold, or none, is `placeless`; no read has one that
-- is cut (Promises).
abbrev pub placeless : ℕ
placeless = 0xffff_ffff

unfoldable pub refusal : ℕ → ℕ → ℕ
refusal number place = number + 0x1_0000_0000 * min place placeless

abbrev pub place_of : Place → ℕ
place_of none = placeless
place_of (at k) = k

-- the place that the code's refusal has, and what C is told of a result: 0, or its refusal
abbrev pub place_in : Option ℕ → Place
place_in None = none
place_in (Some k) = at k

abbrev pub told : {A : Type 0} → Result A Refusal → ℕ
told (Ok a) = 0
told (Err r) = refusal r.number (place_of (place_in r.place))

-- 01, refusal 17: "buffer lengths don't fit"
abbrev pub misfit : ℕ
misfit = refusal 17 placeless

-- Slot times. What is asked about is laid down in one number; a refusal leaves the slice as it was.
abbrev pub telling_by : times.Said → List ℕ → ℕ × List ℕ
telling_by (times.number v) lent = (0, v ∷ [])
telling_by (times.refused r) lent = (refusal r placeless, lent)

unfoldable pub telling : times.Said → List ℕ → ℕ × List ℕ
telling s lent = cond (eqb (length lent) 1) (telling_by s lent) (misfit, lent)

-- mettulos_start
unfoldable pub starting : Tick → ℕ → List ℕ → ℕ × List ℕ
starting tick n = telling (timed tick n (begins tick n))

-- mettulos_minute
unfoldable pub minuting : Tick → ℕ → List ℕ → ℕ × List ℕ
minuting tick n = telling (per_minute (timed tick n (begins tick n)))

-- mettulos_slot
unfoldable pub slotting : Tick → ℕ → List ℕ → ℕ × List ℕ
slotting tick t = telling (timed tick t (latest tick t))

-- Pairs of types. A pair that holds: 1, the least ones, 0, 0; one that fails: 0, the window's start, the ones there, the stretch's length.
abbrev pub deciding_by : pairs.Said → List ℕ → ℕ × List ℕ
deciding_by (pairs.holds m) lent = (0, 1 ∷ m ∷ 0 ∷ 0 ∷ [])
deciding_by (pairs.fails s o n) lent = (0, 0 ∷ s ∷ o ∷ n ∷ [])
deciding_by (pairs.refused r p) lent = (refusal r (place_of p), lent)

-- 0 aligned, 1 sliding
unfoldable pub kind_numbered : ℕ → Kind
kind_numbered b = cond (eqb b 0) Aligned Sliding

-- mettulos_decide: the answer, then the allocation's buffer, then the four numbers. The kinds are tested before the types.
unfoldable pub deciding : ℕ → SlotType → ℕ → SlotType → List ℕ → List ℕ → ℕ × List ℕ × List ℕ
deciding gives giver wants wanted out lent =
    let by = deciding_by (decided (kind_numbered gives) giver (kind_numbered wants) wanted (length out)) lent in
    cond (eqb (length lent) 4)
    (cond (leb gives 1)
    (cond (leb wants 1) (by.0, pairs.out_after (kind_numbered gives) giver (kind_numbered wants) wanted out, by.1) (refusal 5 1, out, lent))
    (refusal 5 0, out, lent))
    (misfit, out, lent)

-- mettulos_read: the value's numbers, which are zeros where the bytes are refused
unfoldable pub answer_of : Answer → ℕ
answer_of Accepted = 0
answer_of (Refused r k) = refusal r k

unfoldable pub reading : List ℕ → List ℕ → ℕ × List ℕ
reading bytes lent =
    cond (eqb (length lent) 533) (answer_of (read_plan bytes).answer, plan_numbers (read_plan bytes).plan) (misfit, lent)

-- mettulos_name: the first byte and the length of the part that holds the name, or 0 and 0 where it is empty
unfoldable pub span : List ℕ → ℕ → List ℕ
span bytes i =
    cond (eqb (length (name_of bytes i)) 0) (0 ∷ 0 ∷ []) ((name_start bytes i + 1) ∷ length (name_of bytes i) ∷ [])

unfoldable pub naming : List ℕ → ℕ → List ℕ → ℕ × List ℕ
naming bytes i lent = cond (eqb (length lent) 2) (0, span bytes i) (misfit, lent)

-- Giving out slots. What a call answers by its outcome:
abbrev pub outcome_of : runs.Said → ℕ
outcome_of runs.done = 0
outcome_of (runs.refused r) = refusal r placeless

-- 0 off, 1 on; no other number is that of a setting
unfoldable pub is_setting : ℕ → Bool
is_setting b = leb b 1

unfoldable pub setting_numbered : ℕ → Setting
setting_numbered b = cond (eqb b 0) Off On

-- A number that is no setting's is refused by 5, as that of a kind is, before any value is looked at; a call has one setting, so there is no place to tell.
-- Numbers out of their fields are answered as an unfit value is, by 16 (Promises). A plan's say the plan value of zeros, which is not fit. A state's say one
-- of zeros, which may be, so they are told apart here.
unfoldable pub by_numbers : {A : Type 0} → ℕ → List ℕ → A → (ℕ → A) → A
by_numbers setting state given refused_by = cond (is_setting setting) (cond (is_state state) given (refused_by 16)) (refused_by 5)

-- How a run and a step end that are so refused. They are no outcomes of dispatch, which is given a setting and a state. What state they have does not matter:
-- it is not laid down.
abbrev pub refused_ran : ℕ → RunEnd
refused_ran r = record { outcome = runs.refused r; state = zero_state }

abbrev pub refused_stepped : ℕ → StepEnd
refused_stepped r = record { outcome = runs.refused r; state = zero_state; grants = replicate 8 unsupplied }

-- a step, a run and its room, of the values that the numbers say
unfoldable pub stepped_by : ℕ → List ℕ → List ℕ → ℕ → ℕ → StepEnd
stepped_by setting plan state supplied declines =
    by_numbers setting state (stepped (setting_numbered setting) (plan_of_numbers plan) (state_of_numbers state) supplied declines) refused_stepped

unfoldable pub ran_by : ℕ → List ℕ → List ℕ → List ℕ → List ℕ → ℕ → RunEnd
ran_by setting plan state supplies declines room =
    by_numbers setting state (ran (setting_numbered setting) (plan_of_numbers plan) (state_of_numbers state) supplies declines room) refused_ran

unfoldable pub out_by : ℕ → List ℕ → List ℕ → List ℕ → List ℕ → List ℕ → List ℕ
out_by setting plan state supplies declines out =
    by_numbers setting state (runs.out_after (setting_numbered setting) (plan_of_numbers plan) (state_of_numbers state) supplies declines out) (λ r. out)

-- the eight answers of the code's step, 255 where it is refused
abbrev pub answers_of : Result (List ℕ) Refusal → List ℕ
answers_of (Ok grants) = grants
answers_of (Err r) = replicate 8 unsupplied

-- 01: a refusal "hands back the given state": it is written only where the call was done
abbrev pub keeping : runs.Said → Standing → List ℕ → ℕ × List ℕ
keeping runs.done after lent = (0, state_numbers after)
keeping (runs.refused r) after lent = (refusal r placeless, lent)

-- whether a plan and a state have the lengths that they are to have
unfoldable pub are_whole : List ℕ → List ℕ → Bool
are_whole plan state = eqb (length plan) 533 && eqb (length state) 65

-- mettulos_fresh: the state's numbers, which are zeros where the value is refused
unfoldable pub freshening : List ℕ → List ℕ → ℕ × List ℕ
freshening plan lent =
    let s = started (plan_of_numbers plan) in
    cond (are_whole plan lent) (outcome_of s.outcome, state_numbers s.state) (misfit, lent)

-- mettulos_step: the state, and the eight answers, which are 255 where it is refused
unfoldable pub stepping : ℕ → List ℕ → List ℕ → ℕ → ℕ → List ℕ → ℕ × List ℕ × List ℕ
stepping setting plan state supplied declines grants =
    let s = stepped_by setting plan state supplied declines in
    let kept = keeping s.outcome s.state state in
    cond (are_whole plan state && eqb (length grants) 8) (kept.0, kept.1, s.grants) (misfit, state, grants)

-- mettulos_run: the state, and the room with the answers at its front
unfoldable pub running : ℕ → List ℕ → List ℕ → List ℕ → List ℕ → List ℕ → ℕ × List ℕ × List ℕ
running setting plan state supplies declines out =
    let s = ran_by setting plan state supplies declines (length out) in
    let kept = keeping s.outcome s.state state in
    cond (are_whole plan state) (kept.0, kept.1, out_by setting plan state supplies declines out) (misfit, state, out)
