-- What specs/Promises.antt says of a read holds. Assumes nothing.
use Prim.Native.Nat.{ℕ}
use mathlib.Core.List.{List}
use mathlib.Core.Path.{◌≡◌, ap}
use Rattle.std.specs.Prelude.{Result, Ok, Err}
use Rattle.answers.specs.declared.Refusal.{Refusal}
use Rattle.answers.specs.Answers.{Accepted, Refused, answered}
use Rattle.answers.proofs.Laws.{answered_injective, said_injective, said_accepted, said_refused}
use Rattle.plans.specs.Plan.{zero_plan}
use Rattle.rules.specs.Fit.{Fit}
use Rattle.rules.proofs.Kept.{fits_exactly}
use Rattle.decode.specs.Decode.{plan_of}
use Rattle.reader.specs.Read.{Reading, read_plan}
use Rattle.reader.specs.Promises.{HandsOutFit, RefusedGivesZeros, OneAnswer, OneReading}
use Rattle.reader.proofs.Spelled.{accepted_fits, accepted_plan, refused_plan}

module _ (s : List ℕ) where
  -- an accepted read hands out a value that fits,
  pub accepted_fit : (read_plan s).answer ≡ Accepted → Fit (read_plan s).plan
  unfolding read_plan
  accepted_fit e = rw (accepted_plan s e) ((fits_exactly (plan_of s)).0 (accepted_fits s e))

  -- and a refused one zeros
  pub refused_zeros : (r k : ℕ) → (read_plan s).answer ≡ Refused r k → (read_plan s).plan ≡ zero_plan
  unfolding read_plan
  refused_zeros r k e = refused_plan s r k e

-- a value that is handed out fits
pub hands_out_fit : HandsOutFit
hands_out_fit s e = accepted_fit s (said_accepted (read_plan s).answer e)

-- a refused read hands out zeros
pub refused_gives_zeros : RefusedGivesZeros
refused_gives_zeros s r p e = refused_zeros s r _ (said_refused (read_plan s).answer r p e)

-- two answers that say the same are the same
pub one_answer : OneAnswer
one_answer a b e = answered_injective a b (said_injective (answered a) (answered b) e)

-- and two results of a read that read alike are the same
pub one_reading : OneReading
one_reading (Ok plan) (Ok other) e = ap Ok (ap (λ (r : Reading). r.plan) e)
one_reading (Ok plan) (Err r) e = let answers = ap (λ (r : Reading). r.answer) e in cc
one_reading (Err r) (Ok plan) e = let answers = ap (λ (r : Reading). r.answer) e in cc
one_reading (Err r) (Err q) e =
    let answers : answered (Err r) ≡ answered (Err q) = ap (λ (r : Reading). r.answer) e in
    let same : ◌≡◌ {A = Result Unit Refusal} (Err r) (Err q) = answered_injective (Err r) (Err q) answers in
    let refusals : r ≡ q = cc in
    ap Err refusals
