-- What documents 01 and 02 promise of the rules: a value fits exactly when it keeps them, and otherwise the first broken one is named with its place; what
-- requests 2 and 6 changed, what a hard node keeps, and what whole parents are. Why each holds is in proofs/. Assumes nothing.
use Rattle.std.specs.Prelude.{ℕ, true, false, ◌↔◌, ◌≡◌}
use Rattle.answers.specs.Answers.{none, at, accepted, refused, said}
use Rattle.plans.specs.Plan.{There, wanted_of, served_of, is_soft, own_type}
use Rattle.plans.specs.Promises.{Agree}
use Rattle.plans.specs.Sound.{Sound}
use Rattle.plans.specs.declared.Parent.{Parent}
use Rattle.plans.specs.declared.Plan.{Plan}
use Rattle.rules.specs.Fit.{is_whole, Child, Fit}
use Rattle.rules.specs.Before.{Rule11Before, FitBefore}
use Rattle.rules.specs.Broken.{FirstBrokenAt}
use Rattle.rules.specs.Check.{checked, is_fit}

-- 01: "A plan is accepted exactly when it keeps our written rules": on values
abbrev pub FitsExactly : Type 0
FitsExactly = (plan : Plan) → (is_fit plan ≡ true) ↔ Fit plan

-- and so the check accepts
abbrev pub AcceptsFit : Type 0
AcceptsFit = (plan : Plan) → (said (checked plan) ≡ accepted) ↔ Fit plan

-- A refusal with a place is given exactly when the value is sound, and the rule of that number is the first broken one, at that node.
abbrev pub FirstExactly : Type 0
FirstExactly = (plan : Plan) (r k : ℕ) → (said (checked plan) ≡ refused r (at k)) ↔ (Sound plan × FirstBrokenAt plan r k)

-- 01, refusal 16: "plan value not fit", with no place: given exactly when the value breaks one of 2 to 7 or 19
abbrev pub SixteenExactly : Type 0
SixteenExactly = (plan : Plan) → (said (checked plan) ≡ refused 16 none) ↔ (Sound plan → ⊥)

-- 01: "unused entries of a plan value are zeros and ignored": values that agree in all but those get the same answer
abbrev pub UnusedIgnored : Type 0
UnusedIgnored = (a b : Plan) → Agree a b → checked a ≡ checked b

-- 02: "Leaves with D = 0 and all hosts are treated as hard": they keep rule 11 as document 01 has it
abbrev pub HardAsBefore : Type 0
HardAsBefore = (plan : Plan) → Fit plan → (i : ℕ) → There plan i → is_soft plan i ≡ false → Rule11Before plan i

-- 02: "Plans accepted before stay accepted"
abbrev pub StaysFit : Type 0
StaysFit = (plan : Plan) → FitBefore plan → Fit plan

-- and in edition 1 only whole parents made a difference: where each with a child has the period 1, in which the two readings agree, nothing else came to fit
abbrev pub OnlyWholeMoved : Type 0
OnlyWholeMoved =
    (plan : Plan) → plan.edition ≡ 1 → ((x : Parent) (i : ℕ) → Child plan x i → is_whole (own_type plan x) ≡ true → (own_type plan x).t ≡ 1) → Fit plan → FitBefore plan

-- A hard node that wants every slot is served every slot: a host is whole by its wanted type, and its served type is whole then too.
abbrev pub WholeIsServedWhole : Type 0
WholeIsServedWhole =
    (plan : Plan) → Fit plan → (i : ℕ) → There plan i → is_soft plan i ≡ false → is_whole (wanted_of plan i) ≡ true → is_whole (served_of plan i) ≡ true

-- A child that is served every slot has a whole parent, so that a whole host stands under whole hosts from a whole core on,
abbrev pub WholeUnderWhole : Type 0
WholeUnderWhole =
    (plan : Plan) → Fit plan → (x : Parent) (i : ℕ) → Child plan x i → is_whole (served_of plan i) ≡ true → is_whole (own_type plan x) ≡ true

-- and its siblings are served none.
abbrev pub AloneUnderWhole : Type 0
AloneUnderWhole =
    (plan : Plan) → Fit plan → (x : Parent) (i j : ℕ) → Child plan x i → Child plan x j → is_whole (served_of plan i) ≡ true → (i ≡ j → ⊥) →
    (served_of plan j).c ≡ 0
