-- Why the claim of specs/Table.antt holds: the checker computes what the definitions give for every row and compares it with what the row
-- lists, in one test. Assumes nothing.
use Prim.Native.Nat.{ℕ, ◌+◌, ◌-◌, ◌*◌, ◌/◌}
use mathlib.Core.Bool.{Bool, true}
use mathlib.Core.List.{List, [], ◌∷◌, ◌++◌, map}
use mathlib.Core.Path.{◌≡◌, refl, subst}
use lib.ListN.{length, drop}
use Rattle.meaning.specs.Allocation.{ones}
use Rattle.meaning.specs.Least.{lowest}
use Rattle.meaning.specs.Types.{well_formed}
use Rattle.meaning.specs.Written.{written, stretch_from, stretch_to}
use Rattle.ticks.specs.Times.{in_range, is_fit, begins, Latest}
use Rattle.ticks.proofs.Kept.{closed_form}
use Rattle.types.specs.Decision.{Said, holds, fails, stretch, failing, decided, bytes, out_after}
use Rattle.types.specs.Verdict.{judged}
use Rattle.types.specs.Least.{step, turns, ones_from, ones_at, least_ones, first_below, first_short}
use Rattle.starred.specs.Table.{tick, Row, begins_at, lies_in, holds_with, fails_at, rows, buffer, Right, EachRight, Starred}

-- what stands on either side of the test: a slot's start; a time's slot, and whether the tick is in its range; an answer, the ends of the stretch of one
-- that fails, and the buffer after it
data Outcome : Type 0 where
  start : ℕ → Outcome
  slot : Bool → ℕ → Outcome
  held : Said → List ℕ → Outcome
  failed : Said → ℕ → ℕ → List ℕ → Outcome

-- what the definitions give for a row; for the slot of a time, its closed form
abbrev found : Row → Outcome
found (begins_at P Q n v) = start (begins (tick P Q) n)
found (lies_in P Q t n) = slot (is_fit (tick P Q)) (((t + 1) * Q - 1) / P)
found (holds_with gives giver wants wanted m) = held (decided gives giver wants wanted (length buffer)) (out_after gives giver wants wanted buffer)
found (fails_at gives giver wants wanted s o from to allocation) =
    failed (decided gives giver wants wanted (length buffer)) (stretch_from giver.t s) (stretch_to giver.t s wanted.t)
    (out_after gives giver wants wanted buffer)

-- what the row lists
abbrev listed : Row → Outcome
listed (begins_at P Q n v) = start v
listed (lies_in P Q t n) = slot true n
listed (holds_with gives giver wants wanted m) = held (holds m) buffer
listed (fails_at gives giver wants wanted s o from to allocation) =
    failed (fails s o (length allocation)) from (to + 1) (allocation ++ drop (length allocation) buffer)

-- the test of the whole table
agree : map found rows ≡ map listed rows
unfolding in_range is_fit begins ones lowest well_formed written stretch_from stretch_to step turns ones_from ones_at least_ones first_below first_short
    judged stretch failing decided bytes out_after
agree = refl

-- a row that passes the test is right
right : (row : Row) → found row ≡ listed row → Right row
right (begins_at P Q n v) e = cc
right (lies_in P Q t n) e =
    let fit : is_fit (tick P Q) ≡ true = cc in
    let closed : ((t + 1) * Q - 1) / P ≡ n = cc in
    subst (Latest (tick P Q) t) closed (closed_form (tick P Q) t fit)
right (holds_with gives giver wants wanted m) e = (cc, cc)
right (fails_at gives giver wants wanted s o from to allocation) e = (cc, cc, cc, cc)

each_right : (some : List Row) → map found some ≡ map listed some → EachRight some
each_right [] e = tt
each_right (row ∷ others) e = (right row (cc), each_right others (cc))

-- every starred line is right
pub starred : Starred
starred = each_right rows agree
