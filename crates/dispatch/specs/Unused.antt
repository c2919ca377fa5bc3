-- What giving out slots ignores: document 01, "Giving out slots" and "Refusal numbers". Two calls that differ in unused entries of the plan value, in entries
-- past the last node, and in bits that name no supply or no leaf, end alike, under either setting. Why each holds is in proofs/. Assumes nothing.
use Rattle.std.specs.Prelude.{ℕ, ◌≤◌, ◌<◌, true, List, ◌≡◌, length, get_or}
use Rattle.plans.specs.Plan.{There}
use Rattle.plans.specs.Promises.{Agree}
use Rattle.plans.specs.declared.Plan.{Plan}
use Rattle.dispatch.specs.View.{is_leaf, bit_of}
use Rattle.dispatch.specs.Run.{Standing, RunEnd, StepEnd, started, ran, out_after, stepped}
use Rattle.dispatch.specs.declared.Setting.{Setting}

-- two lists that are equally long and the same below k
pub record SameBelow (k : ℕ) (a b : List ℕ) : Type 0 where
  pub long : length a ≡ length b
  pub same : (i : ℕ) → i < k → get_or a i 0 ≡ get_or b i 0

-- two states that differ in entries past the last node alone
pub record SameState (plan : Plan) (s t : Standing) : Type 0 where
  pub clock : s.clock ≡ t.clock
  pub counts : SameBelow plan.size s.left t.left

-- two supply bytes that agree in each bit that names a supply
abbrev pub SameSupply : Plan → ℕ → ℕ → Type 0
SameSupply plan b c = (s : ℕ) → s < plan.cores → bit_of b s ≡ bit_of c s

-- two decline words that agree in each bit that names a leaf; a host's own bit names none
abbrev pub SameDeclines : Plan → ℕ → ℕ → Type 0
SameDeclines plan d e = (i : ℕ) → There plan i → is_leaf plan i ≡ true → bit_of d i ≡ bit_of e i

-- what a run is given besides its buffer
pub record Asked : Type 0 where
  pub plan : Plan
  pub state : Standing
  pub supplies : List ℕ
  pub declines : List ℕ

-- two runs that differ in what is ignored alone
pub record SameAsked (a b : Asked) : Type 0 where
  pub plans : Agree a.plan b.plan
  pub states : SameState a.plan a.state b.state
  pub slots : length a.supplies ≡ length b.supplies
  pub words : length a.declines ≡ length b.declines
  pub supplied : (k : ℕ) → k < length a.supplies → SameSupply a.plan (get_or a.supplies k 0) (get_or b.supplies k 0)
  pub declined : (k : ℕ) → k < length a.supplies → SameDeclines a.plan (get_or a.declines k 0) (get_or b.declines k 0)

-- two runs that end alike: the same outcome, and states that differ in entries past the last node alone
pub record SameRunEnd (plan : Plan) (r q : RunEnd) : Type 0 where
  pub outcome : r.outcome ≡ q.outcome
  pub state : SameState plan r.state q.state

-- two steps that end alike: the same, and the same eight answers
pub record SameStepEnd (plan : Plan) (r q : StepEnd) : Type 0 where
  pub outcome : r.outcome ≡ q.outcome
  pub state : SameState plan r.state q.state
  pub grants : r.grants ≡ q.grants

-- 01: "unused entries of a plan value are zeros and ignored": a fresh start ignores them
abbrev pub FreshIgnores : Type 0
FreshIgnores = (a b : Plan) → Agree a b → started a ≡ started b

-- 01: "Entries past the last node are 0 in a fresh state, and otherwise ignored .. Bits naming no supply or no leaf are ignored": what a run ignores changes
-- neither its end nor its buffer
abbrev pub RunIgnores : Type 0
RunIgnores =
    (setting : Setting) (a b : Asked) → SameAsked a b → (out : List ℕ) →
    SameRunEnd a.plan (ran setting a.plan a.state a.supplies a.declines (length out))
    (ran setting b.plan b.state b.supplies b.declines (length out)) ×
    (out_after setting a.plan a.state a.supplies a.declines out ≡ out_after setting b.plan b.state b.supplies b.declines out)

-- and so with a step
abbrev pub StepIgnores : Type 0
StepIgnores =
    (setting : Setting) (a b : Plan) → Agree a b → (s t : Standing) → SameState a s t →
    (supplied supplied' declines declines' : ℕ) → SameSupply a supplied supplied' → SameDeclines a declines declines' →
    SameStepEnd a (stepped setting a s supplied declines) (stepped setting b t supplied' declines')

-- 01: "Entries past the last node are .. otherwise ignored and handed back": by a run, done or refused
abbrev pub RunKeepsPast : Type 0
RunKeepsPast =
    (setting : Setting) (plan : Plan) (state : Standing) (supplies declines : List ℕ) (room i : ℕ) → plan.size ≤ i →
    get_or (ran setting plan state supplies declines room).state.left i 0 ≡ get_or state.left i 0

-- and by a step
abbrev pub StepKeepsPast : Type 0
StepKeepsPast =
    (setting : Setting) (plan : Plan) (state : Standing) (supplied declines i : ℕ) → plan.size ≤ i →
    get_or (stepped setting plan state supplied declines).state.left i 0 ≡ get_or state.left i 0
