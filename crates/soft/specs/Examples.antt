-- The document's example of a soft type, with an allocation that shows it, and rows worked out by hand from the document. Assumes nothing.
use Rattle.std.specs.Prelude.{ℕ, ◌%◌, Bool, true, false, List, [], ◌∷◌, map, ◌≡◌, eqb, get_or}
use Rattle.meaning.specs.Allocation.{Allocation}
use Rattle.meaning.specs.Types.{◌of◌, Honours}
use Rattle.meaning.specs.Soft.{missed}
use Rattle.meaning.specs.declared.SlotType.{SlotType}
use Rattle.meaning.specs.declared.Misses.{Misses}
use Rattle.meaning.specs.declared.Kind.TheVariants.{Aligned}
use Rattle.soft.specs.Formula.{windows_in, lost, loses, worst, allowed}

infix 60 ◌out_of◌
-- D misses in W windows
abbrev pub ◌out_of◌ : ℕ → ℕ → Misses
D out_of W = record { d = D; w = W }

-- seven slots of every twelve, two in each of the first two windows of four and three in the third
unfoldable pub seven : Allocation
seven n = eqb (get_or (1 ∷ 1 ∷ 0 ∷ 0 ∷ 1 ∷ 1 ∷ 0 ∷ 0 ∷ 1 ∷ 1 ∷ 1 ∷ 0 ∷ []) (n % 12) 0) 1

-- 02: "So (7,12) for (3,4) allows two misses in three and not one": an allocation that honours (7,12) misses two of the first three windows
pub record Example : Type 0 where
  pub two : allowed (7 of 12) (3 of 4) (2 out_of 3) ≡ true
  pub not_one : allowed (7 of 12) (3 of 4) (1 out_of 3) ≡ false
  pub honours : Honours Aligned (7 of 12) seven
  pub misses : missed Aligned (3 of 4) seven 0 3 ≡ 2

-- One row: a served type, a wanted one, and misses; K; u; what the first stretch loses, and the worst; and whether the misses are allowed.
pub data Row : Type 0 where
  row : (served wanted : SlotType) (misses : Misses) (K u first most : ℕ) (answer : Bool) → Row

abbrev pub rows : List Row
rows =
    row (7 of 12) (3 of 4) (2 out_of 3) 3 2 2 2 true ∷
    row (7 of 12) (3 of 4) (1 out_of 3) 3 2 2 2 false ∷
    -- W is no multiple of K: windows 0 to 4 lose two in the first period and both in the second
    row (7 of 12) (3 of 4) (4 out_of 5) 3 2 4 4 true ∷
    row (7 of 12) (3 of 4) (3 out_of 5) 3 2 4 4 false ∷
    -- the worst stretch is not the first: windows 4 to 7 touch two served periods
    row (9 of 12) (1 of 2) (2 out_of 4) 6 1 1 2 true ∷
    row (9 of 12) (1 of 2) (1 out_of 4) 6 1 1 2 false ∷
    -- a stretch loses no more of a period than it covers: 3 and 2, not 3 and 3
    row (2 of 8) (1 of 2) (5 out_of 6) 4 3 5 5 true ∷
    row (2 of 8) (1 of 2) (4 out_of 6) 4 3 5 5 false ∷
    -- C' = 0
    row (2 of 8) (0 of 2) (0 out_of 6) 4 0 0 0 true ∷
    -- u = K
    row (0 of 8) (1 of 2) (6 out_of 6) 4 4 6 6 true ∷
    row (0 of 8) (1 of 2) (5 out_of 6) 4 4 6 6 false ∷
    -- T = T'
    row (3 of 5) (3 of 5) (0 out_of 1) 1 0 0 0 true ∷
    row (2 of 5) (3 of 5) (3 out_of 4) 1 1 4 4 false ∷
    -- T divides T'
    row (2 of 3) (4 of 6) (0 out_of 4) 1 0 0 0 true ∷
    row (2 of 3) (5 of 6) (3 out_of 4) 1 1 4 4 false ∷
    []

-- what the formula gives for a row's types and misses
abbrev pub worked : Row → Row
worked (row served wanted misses K u first most answer) =
    let k = windows_in served wanted in
    let x = lost served wanted in
    row served wanted misses k x (loses k x misses.w 0) (worst k x misses.w) (allowed served wanted misses)

abbrev pub Table : Type 0
Table = map worked rows ≡ rows

-- neither 4 nor 6 divides the other, so nothing is allowed, not even to miss every window of a type that asks for none
abbrev pub NotDivided : Type 0
NotDivided = allowed (3 of 4) (0 of 6) (1 out_of 1) ≡ false
