-- An accepted plan is handed on as it was read, and its names stand where they are told: specs/Promises.antt. Assumes nothing.
use Prim.Native.Nat.{ℕ, zero, suc, ◌+◌}
use mathlib.Core.Bool.{Bool, true, false, cond, ◌&&◌}
use mathlib.Core.List.{List, [], ◌∷◌}
use mathlib.Core.Path.{◌≡◌, refl, ap}
use native.Mathlib.Omega.{arith}
use lib.Dec.{ltb, eqb}
use lib.ListN.{length, get_or, take, drop}
use borrow.Author.Tests.{eqb-true}
use Rattle.answers.specs.Answers.{accepts}
use Rattle.plans.specs.Plan.{Tidy}
use Rattle.fields.specs.Fields.{byte_at}
use Rattle.decode.specs.Positions.{size_of, name_start}
use Rattle.decode.proofs.Entries.{plan_tidy}
use Rattle.reader.specs.Read.{read_answer, read_plan, has_name, name_of}
use Rattle.reader.proofs.Kept.{accepted_fit}
use Rattle.reader.proofs.Spelled.{accepted_plan}
use Rattle.numbers.proofs.Kept.{plan_laid_out, sound_held}
use Rattle.exports.specs.Exports.{span}
use Rattle.exports.specs.Promises.{HandedOn, NameThere}

-- an accepted plan is handed on as it was read
pub handed_on : HandedOn
unfolding read_plan
handed_on bytes e =
    let tidy : Tidy (read_plan bytes).plan = rw (accepted_plan bytes e) (plan_tidy _) in
    plan_laid_out (read_plan bytes).plan (sound_held (read_plan bytes).plan tidy (accepted_fit bytes e).sound)

-- as many of the front of a list as its front has are its front
take_own : (n : ℕ) (x : List ℕ) → take (length (take n x)) x ≡ take n x
take_own zero x = refl
take_own (suc n) [] = refl
take_own (suc n) (a ∷ x) = ap (λ y. a ∷ y) (take_own n x)

none : (x : List ℕ) → length x ≡ 0 → [] ≡ x
none [] e = refl
none (a ∷ x) e = absurd (omega arith)

-- a name stands where it is told
pub name_there : NameThere
unfolding span name_of has_name
name_there bytes i = told (eqb (length (name_of bytes i)) 0) refl
  where
    part : (c : Bool) (n : ℕ) (x : List ℕ) → take (length (cond c (take n x) [])) x ≡ cond c (take n x) []
    part true n x = take_own n x
    part false n x = refl

    told : (b : Bool) → eqb (length (name_of bytes i)) 0 ≡ b →
        take (get_or (cond b (0 ∷ 0 ∷ []) ((name_start bytes i + 1) ∷ length (name_of bytes i) ∷ [])) 1 0)
        (drop (get_or (cond b (0 ∷ 0 ∷ []) ((name_start bytes i + 1) ∷ length (name_of bytes i) ∷ [])) 0 0) bytes) ≡ name_of bytes i
    told true e = none (name_of bytes i) (eqb-true _ 0 e)
    told false e = part (accepts (read_answer bytes) && ltb i (size_of bytes)) (byte_at bytes (name_start bytes i)) (drop (name_start bytes i + 1) bytes)
