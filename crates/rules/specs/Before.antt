-- Rules 11, 12 and 14 as document 01 has them, for every node and every parent alike: the rules before document 02, requests 2 and 6. They serve to say that
-- plans accepted before, which are of edition 1, stay accepted, and which came to be, and nothing else. Assumes nothing.
use Rattle.std.specs.Prelude.{ℕ, ◌*◌, ◌/◌, ◌%◌, ◌≤◌, ◌≡◌}
use Rattle.meaning.specs.Types.{StandsIn}
use Rattle.meaning.specs.declared.Kind.TheVariants.{Aligned}
use Rattle.plans.specs.Plan.{There, kind_of, wanted_of, served_of, wanted_as, own_type}
use Rattle.plans.specs.Sound.{Sound}
use Rattle.plans.specs.declared.Parent.{Parent}
use Rattle.plans.specs.declared.Plan.{Plan}
use Rattle.rules.specs.Fit.{longest, load_to, Child, Rule13}

-- 01, rule 11: "a node's served type, aligned, stands in for its wanted type"
abbrev pub Rule11Before : Plan → ℕ → Type 0
Rule11Before plan i = StandsIn Aligned (served_of plan i) (wanted_as (kind_of plan i)) (wanted_of plan i)

-- 01, rule 12: "a child's served T is a multiple of the parent's T"
abbrev pub Rule12Before : Plan → Parent → ℕ → Type 0
Rule12Before plan x i = (served_of plan i).t % (own_type plan x).t ≡ 0

-- 01, rule 14: "at most the parent's C·(M/T)"
abbrev pub Rule14Before : Plan → Parent → Type 0
Rule14Before plan x = load_to plan x plan.size ≤ (own_type plan x).c * (longest plan x / (own_type plan x).t)

-- a plan value of edition 1, all of whose nodes have D 0 and W 1, that kept 2 to 7 and 11 to 14 as document 01 has them
pub record FitBefore (plan : Plan) : Type 0 where
  pub edition : plan.edition ≡ 1
  pub sound : Sound plan
  pub rule11 : (i : ℕ) → There plan i → Rule11Before plan i
  pub rule12 : (x : Parent) (i : ℕ) → Child plan x i → Rule12Before plan x i
  pub rule13 : (x : Parent) (i j : ℕ) → Child plan x i → Child plan x j → Rule13 plan i j
  pub rule14 : (x : Parent) → Rule14Before plan x
