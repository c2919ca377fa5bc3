-- What documents 01 and 02 promise of a read, beyond what the table says field by field. Why each holds is in proofs/. Assumes nothing.
use Rattle.std.specs.Prelude.{ℕ, List, ◌≡◌, Result}
use Rattle.answers.specs.Answers.{Refused, Place, accepted, refused, said, answered}
use Rattle.answers.specs.declared.Refusal.{Refusal}
use Rattle.plans.specs.declared.Plan.{Plan}
use Rattle.plans.specs.Plan.{zero_plan}
use Rattle.rules.specs.Fit.{Fit}
use Rattle.fields.specs.Fields.{byte_at}
use Rattle.reader.specs.Read.{reading_of, read_plan, name_of}
use Rattle.reader.specs.Before.{answer_before, read_before, name_before}

-- a value that the reader hands out fits
abbrev pub HandsOutFit : Type 0
HandsOutFit = (s : List ℕ) → said (read_plan s).answer ≡ accepted → Fit (read_plan s).plan

-- 01: "A refused read gives a plan value of zeros"
abbrev pub RefusedGivesZeros : Type 0
RefusedGivesZeros = (s : List ℕ) (r : ℕ) (p : Place) → said (read_plan s).answer ≡ refused r p → (read_plan s).plan ≡ zero_plan

-- two results of a check that say the same in document 01's terms are the same result,
abbrev pub OneAnswer : Type 0
OneAnswer = (a b : Result Unit Refusal) → said (answered a) ≡ said (answered b) → a ≡ b

-- and so are two of a read: no equation allows more than one
abbrev pub OneReading : Type 0
OneReading = (a b : Result Plan Refusal) → reading_of a ≡ reading_of b → a ≡ b

-- bytes are read as document 01's reader read them, answer, value and names
pub record ReadAlike (s : List ℕ) : Type 0 where
  pub reading : read_plan s ≡ read_before s
  pub names : (i : ℕ) → name_of s i ≡ name_before s i

-- 02, "In edition 2 the tick count is 2": whatever the bytes, where the first is not 2 they are read as they were before there was an edition 2
abbrev pub FirstEditionAlike : Type 0
FirstEditionAlike = (s : List ℕ) → (byte_at s 0 ≡ 2 → ⊥) → ReadAlike s

-- 02: "An old reader refuses such a file by 2"
abbrev pub OldReaderRefuses : Type 0
OldReaderRefuses = (s : List ℕ) → byte_at s 0 ≡ 2 → answer_before s ≡ Refused 2 0
