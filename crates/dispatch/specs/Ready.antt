-- What is promised of a state that a call hands back: the next call with the same plan takes it. Why it holds is in proofs/Ready.antt. Assumes nothing.
use Rattle.std.specs.Prelude.{ℕ, true, List, ◌≡◌}
use Rattle.plans.specs.declared.Plan.{Plan}
use Rattle.dispatch.specs.Run.{done, Standing, started, ready, ran, stepped}
use Rattle.dispatch.specs.declared.Setting.{Setting}

-- 01: "16 (a left over the node's served C, a clock over 2^40, or a plan value that breaks any of 2 to 7 and 11 to 14)": none of these is so of the state
-- that a fresh start gives,
abbrev pub FreshReady : Type 0
FreshReady = (plan : Plan) → (started plan).outcome ≡ done → ready plan (started plan).state ≡ true

-- that a run hands back,
abbrev pub RunReady : Type 0
RunReady =
    (setting : Setting) (plan : Plan) (state : Standing) (supplies declines : List ℕ) (room : ℕ) →
    let r = ran setting plan state supplies declines room in r.outcome ≡ done → ready plan r.state ≡ true

-- or that a step hands back
abbrev pub StepReady : Type 0
StepReady =
    (setting : Setting) (plan : Plan) (state : Standing) (supplied declines : ℕ) →
    let s = stepped setting plan state supplied declines in s.outcome ≡ done → ready plan s.state ≡ true
