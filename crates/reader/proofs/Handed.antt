-- What a read hands out, and what is handed out as a name: one law a return. Assumes nothing.
use Prim.Native.Nat.{ℕ, ◌+◌, ◌-◌, ◌≤◌, min}
use mathlib.Core.Bool.{Bool, true, false, ◌&&◌}
use mathlib.Core.List.{List, []}
use mathlib.Core.Path.{◌≡◌, refl, sym, ap, ◌∙◌}
use native.Mathlib.Nat.{add-zero}
use native.Mathlib.Omega.{arith}
use lib.Dec.{ltb}
use lib.ListN.{length, take, drop}
use borrow.Author.Tests.{ltb-true}
use Rattle.std.specs.Prelude.{Result, Ok, Err, is_ok}
use Rattle.answers.specs.declared.Refusal.{Refusal}
use Rattle.answers.specs.Answers.{Accepted, answered, accepts, first}
use Rattle.answers.proofs.Laws.{accepts_accepted, first_accepted_left}
use Rattle.plans.proofs.All.{left_true, right_true}
use Rattle.plans.specs.declared.Plan.{Plan}
use Rattle.rules.specs.Check.{rules, checked}
use Rattle.fields.specs.Fields.{byte_at}
use Rattle.decode.specs.Positions.{size_of, name_start}
use Rattle.decode.specs.Decode.{plan_of}
use Rattle.names.proofs.Starts.{start_is}
use Rattle.reader.specs.Read.{check_bytes, read_answer, read_plan, reading_of, has_name, name_of, name_place}
use Rattle.reader.proofs.Accepts.{bytes_kept}
use Rattle.reader.proofs.Spelled.{spelled_sound}

module _ (s : List ℕ) where
  -- bytes that are accepted spell a sound value, so that the rules decide
  pub spelled_checked : check_bytes s ≡ Accepted → checked (plan_of s) ≡ rules (plan_of s)
  unfolding checked
  spelled_checked e = rw (spelled_sound s ((bytes_kept s).0 e).fields)

  -- a refusal of the bytes is the read's,
  pub bytes_refused : (r : Result Plan Refusal) (e : Refusal) → r ≡ Err e → answered (Err e) ≡ check_bytes s → reading_of r ≡ read_plan s
  unfolding read_plan read_answer first accepts
  bytes_refused r e is h = rw (is, ← h) refl

  -- so is one of the rules, after accepted bytes,
  pub rules_refused : (r : Result Plan Refusal) (e : Refusal) → r ≡ Err e → check_bytes s ≡ Accepted → answered (Err e) ≡ checked (plan_of s) →
      reading_of r ≡ read_plan s
  unfolding read_plan read_answer first accepts
  rules_refused r e is a h = rw (is, a, ← (h ∙ spelled_checked a)) refl

  -- and else the value is handed out that the bytes spell
  pub plan_read : (plan : Plan) → plan ≡ plan_of s → check_bytes s ≡ Accepted → Accepted ≡ checked plan → reading_of (Ok plan) ≡ read_plan s
  unfolding read_plan read_answer first accepts
  plan_read plan is a h = rw (is, a, ← (h ∙ ap checked is ∙ spelled_checked a)) refl

-- a read is accepted where it hands out a value
pub read_accepts : (s : List ℕ) (r : Result Plan Refusal) → reading_of r ≡ read_plan s → is_ok r ≡ accepts (read_answer s)
unfolding read_plan accepts
read_accepts s (Ok plan) e = ap (λ x. accepts x.answer) e
read_accepts s (Err x) e = ap (λ x. accepts x.answer) e

-- whether node i has a name is told by w
module _ (s : List ℕ) (i : ℕ) (w : Bool) (e : w ≡ has_name s i) where
  -- a refused plan and a node that is not there have none, and their empty part stands at the front
  module _ (h : w ≡ false) where
    pub name_none : [] ≡ name_of s i
    unfolding name_of
    name_none = rw (← e, h) refl

    pub place_none : (o : ℕ) → o ≡ o + name_place s i
    unfolding name_place
    place_none o = rw (← e, h) (sym (add-zero o))

  -- of a node that is there, in an accepted plan, the name's length byte b stands at k
  module _ (h : w ≡ true) (k : ℕ) (at : k ≡ name_start s (min i (size_of s))) (b : ℕ) (is : b ≡ byte_at s k) where
    accepted : (accepts (read_answer s) && ltb i (size_of s)) ≡ true
    unfolding has_name
    accepted = sym e ∙ h

    start : k ≡ name_start s i
    start = start_is s i k at (let l = ltb-true i (size_of s) (right_true (accepts (read_answer s)) _ accepted) in omega arith)

    long : b ≡ byte_at s (name_start s i)
    long = is ∙ ap (byte_at s) start

    -- the name ends within the bytes
    pub name_ends : k + 1 + b ≤ length s
    unfolding read_answer
    name_ends =
        let a = accepts_accepted (read_answer s) (left_true (accepts (read_answer s)) _ accepted) in
        let kept = (bytes_kept s).0 (first_accepted_left (check_bytes s) (rules (plan_of s)) a) in
        omega (arith, (kept.fields.names i (ltb-true i (size_of s) (right_true (accepts (read_answer s)) _ accepted))).whole, start, long)

    -- and is the part of them after its length byte
    pub name_part_lem : take (k + 1 + b - (k + 1)) (drop (k + 1) s) ≡ name_of s i
    unfolding name_of
    name_part_lem =
        let rest : k + 1 + b - (k + 1) ≡ b = omega arith in
        rw (← e, h, rest, ← long, ← start)

    -- which begins there,
    place_is : name_place s i ≡ k + 1
    unfolding name_place
    place_is = rw (← e, h, ← start)

    -- so many bytes on from o, where the bytes themselves begin
    pub place_part : (o : ℕ) → (k + 1) + o ≡ o + name_place s i
    place_part o = omega (arith, place_is)
