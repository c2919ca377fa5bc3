-- The verdict on a pair of types, without an allocation: document 01, "Types and what they mean", and the order of its refusals. Assumes nothing.
use Rattle.std.specs.Prelude.{ℕ, cond, leb, Result, Ok, Err}
use Rattle.meaning.specs.Types.{well_formed}
use Rattle.meaning.specs.declared.SlotType.{SlotType}
use Rattle.meaning.specs.declared.Kind.{Kind}
use Rattle.answers.specs.Answers.{Place, at}
use Rattle.types.specs.Least.{least_ones}
use Rattle.types.specs.declared.Verdict.{Verdict}
use Rattle.types.specs.declared.Verdict.TheVariants.{Holds, Short}
use Rattle.types.specs.declared.Refusal.{Refusal}
use Rattle.types.specs.declared.Refusal.TheVariants.{Giver, Wanted}

-- What a verdict says in document 01's own terms: the pair holds, with the least ones of any wanted window; it falls short, with that same number;
-- or it is refused, with number and place.
pub data Said : Type 0 where
  holds : ℕ → Said
  short : ℕ → Said
  refused : ℕ → Place → Said

-- the call's answer in these terms: a malformed type is refused by 4, at place 0 or 1
abbrev pub said : Result Verdict Refusal → Said
said (Ok (Holds m)) = holds m
said (Ok (Short m)) = short m
said (Err Giver) = refused 4 (at 0)
said (Err Wanted) = refused 4 (at 1)

-- 01: "A pair decision tests giver, then wanted (4, place 0 or 1)"; without an allocation, it then holds or falls short
unfoldable pub judged : Kind → SlotType → Kind → SlotType → Said
judged gives giver wants wanted =
    let least = least_ones gives giver wants wanted in
    cond (well_formed giver)
    (cond (well_formed wanted) (cond (leb wanted.c least) (holds least) (short least)) (refused 4 (at 1)))
    (refused 4 (at 0))
