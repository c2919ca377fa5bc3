-- An answer is read back from what it says, so that two answers which say the same are the same. Assumes nothing.
use Rattle.std.proofs.Common.{zero, suc, ◌≡◌, ◌∙◌, ℕ, Result, Ok, Err, Option, Some, None, refl, ap, sym}
use Rattle.answers.specs.Answers.{Place, none, at}
use Rattle.types.specs.Verdict as verdict
use Rattle.types.specs.Verdict.{said}
use Rattle.types.specs.Decision as decision
use Rattle.types.specs.Decision.{said_of}
use Rattle.types.specs.Promises.{OneVerdict, OneDecision}
use Rattle.types.specs.declared.Verdict.{Verdict}
use Rattle.types.specs.declared.Verdict.TheVariants as verdicts
use Rattle.types.specs.declared.Decision.{Decision}
use Rattle.types.specs.declared.Decision.TheVariants as decisions
use Rattle.types.specs.declared.Refusal.{Refusal}
use Rattle.types.specs.declared.Refusal.TheVariants.{Giver, Wanted}

-- the refusal at a place
refusal_at : Place → Refusal
refusal_at none = Giver
refusal_at (at zero) = Giver
refusal_at (at (suc k)) = Wanted

-- the verdict that says so
verdict_of : verdict.Said → Result Verdict Refusal
verdict_of (verdict.holds m) = Ok (verdicts.Holds m)
verdict_of (verdict.short m) = Ok (verdicts.Short m)
verdict_of (verdict.refused r p) = Err (refusal_at p)

verdict_said : (a : Result Verdict Refusal) → verdict_of (said a) ≡ a
unfolding verdict_of refusal_at
verdict_said (Ok (verdicts.Holds m)) = refl
verdict_said (Ok (verdicts.Short m)) = refl
verdict_said (Err Giver) = refl
verdict_said (Err Wanted) = refl

-- two verdicts that say the same are the same
pub one_verdict : OneVerdict
one_verdict a b e = sym (verdict_said a) ∙ ap verdict_of e ∙ verdict_said b

-- the place as the code gives it
placing : Place → Option ℕ
placing none = None
placing (at k) = Some k

placing_of : (p : Option ℕ) → placing (decision.place_of p) ≡ p
unfolding placing
placing_of None = refl
placing_of (Some k) = refl

-- the decision that says so
decision_of : decision.Said → Decision
decision_of (decision.holds m) = decisions.Holds m
decision_of (decision.fails s o n) = decisions.Fails s o n
decision_of (decision.refused r p) = decisions.Refused r (placing p)

decision_said : (a : Decision) → decision_of (said_of a) ≡ a
unfolding decision_of
decision_said (decisions.Holds m) = refl
decision_said (decisions.Fails s o n) = refl
decision_said (decisions.Refused r p) = rw (placing_of p) refl

-- two decisions that say the same are the same
pub one_decision : OneDecision
one_decision a b e = sym (decision_said a) ∙ ap decision_of e ∙ decision_said b
