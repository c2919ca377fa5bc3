-- What ties the bytes of a plan file to plan values, both ways: document 01, "The plan file" and demand 2, and document 02, request 6. Both
-- editions alike, unless said. Why each holds is in proofs/. Assumes nothing.
use Rattle.std.specs.Prelude.{ℕ, ◌≤◌, ◌<◌, List, [], ◌⊎◌, ◌↔◌, ◌≡◌, length, get_or, take}
use Rattle.answers.specs.Answers.{Place, at, accepted, refused, said}
use Rattle.plans.specs.Plan.{There, Tidy}
use Rattle.plans.specs.Sound.{Sound}
use Rattle.plans.specs.declared.Plan.{Plan}
use Rattle.rules.specs.Before.{FitBefore}
use Rattle.rules.specs.Fit.{Fit}
use Rattle.rules.specs.Broken.{FirstBrokenAt}
use Rattle.reader.specs.Read.{read_plan, name_of}
use Rattle.layout.specs.Layout.{plan_bytes, SoundNames}

-- a list of bytes
abbrev pub Bytes : List ℕ → Type 0
Bytes s = (k : ℕ) → k < length s → get_or s k 0 < 256

-- s is the file of a plan value with these names, and of no other: the value's unused entries are zeros, and the names are sound
pub record FileOf (s : List ℕ) (plan : Plan) (names : List (List ℕ)) : Type 0 where
  pub tidy : Tidy plan
  pub named : SoundNames plan names
  pub laid : s ≡ plan_bytes plan names

-- s is the file of some sound value, with sound names
abbrev pub SoundFile : List ℕ → Type 0
SoundFile s = (plan : Plan) × (names : List (List ℕ)) × FileOf s plan names × Sound plan

-- The reader accepts bytes with value p exactly when they are the file of p with some names, and p fits.
abbrev pub AcceptsExactly : Type 0
AcceptsExactly =
    (s : List ℕ) → Bytes s → (plan : Plan) →
    ((said (read_plan s).answer ≡ accepted) × ((read_plan s).plan ≡ plan)) ↔ ((names : List (List ℕ)) × FileOf s plan names × Fit plan)

-- 02, request 2: "Plans accepted before stay accepted": the file of a value of edition 1 that kept the rules as document 01 has them is accepted, with that
-- value. That such a file is laid out as document 01 has it is FirstEditionLaid of Before.
abbrev pub StaysAccepted : Type 0
StaysAccepted =
    (s : List ℕ) (plan : Plan) (names : List (List ℕ)) → FileOf s plan names → FitBefore plan →
    (said (read_plan s).answer ≡ accepted) × ((read_plan s).plan ≡ plan)

-- the refusals of the bytes, and those of the rules
abbrev pub ByBytes : ℕ → Type 0
ByBytes r = ((1 ≤ r) × (r ≤ 10)) ⊎ (r ≡ 19)

abbrev pub ByRules : ℕ → Type 0
ByRules r = ((11 ≤ r) × (r ≤ 14)) ⊎ (r ≡ 20)

-- Refusals 1 to 10 and 19 are given exactly when the bytes are the file of no sound value with sound names.
abbrev pub RefusesByBytes : Type 0
RefusesByBytes =
    (s : List ℕ) → Bytes s →
    ((r : ℕ) × (k : ℕ) × ByBytes r × (said (read_plan s).answer ≡ refused r (at k))) ↔ (SoundFile s → ⊥)

-- 01, refusal 10: "bytes left over: first of them": given at k exactly when the first k bytes are such a file, and there are more.
abbrev pub LeftOverExactly : Type 0
LeftOverExactly =
    (s : List ℕ) → Bytes s → (k : ℕ) → (said (read_plan s).answer ≡ refused 10 (at k)) ↔ (SoundFile (take k s) × (k < length s))

-- Refusals 11 to 14 and 20 are given exactly when the bytes are the file of a sound value, and that rule is the first broken one, at that place.
abbrev pub RefusesByRules : Type 0
RefusesByRules =
    (s : List ℕ) → Bytes s → (r k : ℕ) → ByRules r →
    (said (read_plan s).answer ≡ refused r (at k)) ↔
    ((plan : Plan) × (names : List (List ℕ)) × FileOf s plan names × Sound plan × FirstBrokenAt plan r k)

-- Every refusal of a read is one of these, and has a place.
abbrev pub RefusesAtPlace : Type 0
RefusesAtPlace =
    (s : List ℕ) → Bytes s → (r : ℕ) (p : Place) → said (read_plan s).answer ≡ refused r p →
    (ByBytes r ⊎ ByRules r) × ((k : ℕ) × (p ≡ at k))

-- A file has one reading.
abbrev pub OneReading : Type 0
OneReading =
    (s : List ℕ) (a b : Plan) (m n : List (List ℕ)) → FileOf s a m → Sound a → FileOf s b n → Sound b →
    (a ≡ b) × (m ≡ n)

-- The file of a sound value is a list of bytes.
abbrev pub FilesAreBytes : Type 0
FilesAreBytes = (s : List ℕ) (plan : Plan) (names : List (List ℕ)) → FileOf s plan names → Sound plan → Bytes s

-- A name that is handed out is the one that plan_bytes placed.
abbrev pub NamesPlaced : Type 0
NamesPlaced =
    (s : List ℕ) (plan : Plan) (names : List (List ℕ)) → FileOf s plan names → Fit plan → (i : ℕ) → There plan i →
    name_of s i ≡ get_or names i []

-- 01: "The longest plan has 2,796 bytes", which is so of edition 1: no accepted one of it has more, and none of edition 2 has more than 3,060. Longest has
-- one of so many in each.
abbrev pub LongestPlan : Type 0
LongestPlan =
    (s : List ℕ) → said (read_plan s).answer ≡ accepted → (length s ≤ 3060) × ((read_plan s).plan.edition ≡ 1 → length s ≤ 2796)

-- A longer file is answered by its first part: what stands beyond byte 3,061 changes nothing.
abbrev pub LongerAlike : Type 0
LongerAlike = (s : List ℕ) (n : ℕ) → 3061 ≤ n → read_plan (take n s) ≡ read_plan s
