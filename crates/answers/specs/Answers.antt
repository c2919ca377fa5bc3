-- The answer of a check on a plan, and how answers join: document 01, "Refusal numbers". Assumes nothing.
use Rattle.std.specs.Prelude.{ℕ, zero, suc, Bool, true, false, cond, eqb, Option, Some, None, Result, Ok, Err}
use Rattle.answers.specs.declared.Refusal.{Refusal}
use Rattle.answers.specs.declared.Rule.{Rule}
use Rattle.answers.specs.declared.Rule.TheVariants.{There, Count, Tick, WellFormed, Kind, Parent, Depth, Name, NewName, End, StandsIn, Multiple, Alike, Load, Misses, Soft}
use Rattle.answers.specs.declared.Refusal.TheVariants.{Unfit, Broken}

-- 01: "Every refusal returns number and place (none for later numbers, unless said)"
pub data Place : Type 0 where
  none : Place
  at : ℕ → Place

-- A call gives a place as a number; the largest of the number's machine type stands for none.
unfoldable pub placed : ℕ → ℕ → Place
placed largest k = cond (eqb k largest) none (at k)

-- the place of a plan's refusal that has none
abbrev pub nowhere : ℕ
nowhere = 0xffff_ffff_ffff_ffff

-- The answer of a check: accepted, or a refusal with its number and the number that stands for its place.
pub data Answer : Type 0 where
  Accepted : Answer
  Refused : ℕ → ℕ → Answer

-- 01, "Refusal numbers", and 02, request 6: the number of each rule
abbrev pub numbered : Rule → ℕ
numbered There = 1
numbered Count = 2
numbered Tick = 3
numbered WellFormed = 4
numbered Kind = 5
numbered Parent = 6
numbered Depth = 7
numbered Name = 8
numbered NewName = 9
numbered End = 10
numbered StandsIn = 11
numbered Multiple = 12
numbered Alike = 13
numbered Load = 14
numbered Misses = 19
numbered Soft = 20

-- and of each refusal: 01, refusal 16, "plan value not fit", has no place
abbrev pub number_of : Refusal → ℕ
number_of Unfit = 16
number_of (Broken r k) = numbered r

abbrev pub place_in : Refusal → Option ℕ
place_in Unfit = None
place_in (Broken r k) = Some k

-- the number that stands for a place, where there is one and where there is none
abbrev pub spot : Option ℕ → ℕ
spot (Some k) = k
spot None = nowhere

-- the answer that a result of the code is
abbrev pub answered : Result Unit Refusal → Answer
answered (Ok u) = Accepted
answered (Err e) = Refused (number_of e) (spot (place_in e))

-- What an answer says in document 01's own terms: nothing is refused, or the refusal of this number at this place.
pub data Said : Type 0 where
  accepted : Said
  refused : ℕ → Place → Said

abbrev pub said : Answer → Said
said Accepted = accepted
said (Refused r k) = refused r (placed nowhere k)

unfoldable pub accepts : Answer → Bool
accepts Accepted = true
accepts (Refused r k) = false

-- the refusal of a, or else b
unfoldable pub first : Answer → Answer → Answer
first Accepted b = b
first (Refused r k) b = Refused r k

-- refusal r at place k, unless the test goes well
unfoldable pub test : Bool → ℕ → ℕ → Answer
test ok r k = cond ok Accepted (Refused r k)

-- the first refusal among f 0, f 1, .., f (n − 1)
unfoldable pub each : (ℕ → Answer) → ℕ → Answer
each f zero = Accepted
each f (suc n) = first (each f n) (f n)
