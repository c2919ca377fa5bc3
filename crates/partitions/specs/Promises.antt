-- Demand 3 for a plan value that fits, whatever the setting of each call. Why each holds is in proofs/. Assumes nothing.
use Rattle.std.specs.Prelude.{ℕ, suc, ◌+◌, ◌*◌, ◌≤◌, ◌<◌, true, ◌≡◌, length, get_or}
use Rattle.meaning.specs.Allocation.{ones}
use Rattle.plans.specs.Plan.{There, served_of, own_type}
use Rattle.plans.specs.declared.Parent.{Parent}
use Rattle.plans.specs.declared.Plan.{Plan}
use Rattle.rules.specs.Fit.{is_whole, Child, Fit}
use Rattle.dispatch.specs.declared.Setting.{Setting}
use Rattle.dispatch.specs.declared.Setting.TheVariants.{Off}
use Rattle.unending.specs.Unending.{charged, may}
use Rattle.partitions.specs.Case.{
  Case,
  KeepsTypes,
  OverFirstPart,
  FromFresh,
  ByOneRun,
  IsPartition,
  IsHard,
  IsSoft,
  ItsWindow,
  ItsStretch,
  InsideRun,
  DeclinesNowhere,
  asked,
  period,
  misses,
  stretch,
  receives,
  received,
  short,
  charges,
  offers,
}

-- a partition that is hard receives what it asked for in each of its windows inside the run
abbrev pub Served : Type 0
Served =
    (c : Case) → Fit c.plan → KeepsTypes c → OverFirstPart c → FromFresh c → IsPartition c → IsHard c → ItsWindow c → InsideRun c (period c) →
    DeclinesNowhere c (period c) → asked c ≤ received c

-- 02, request 6: "demand 3 speaks for soft leaves of whole stretches inside the run, at most D windows short in each, provided the leaf declines in no slot of its
-- served periods that touch the stretch"
abbrev pub SoftServed : Type 0
SoftServed =
    (c : Case) → Fit c.plan → KeepsTypes c → OverFirstPart c → FromFresh c → IsPartition c → IsSoft c → ItsStretch c → InsideRun c (stretch c) →
    DeclinesNowhere c (stretch c) → short c ≤ (misses c).d

-- 02, request 2: "A parent with C = T, supply or host, gives all slots": under a supply that keeps the types, whoever declines, a whole parent has every slot
-- for its children, and with the switch off it may give it
abbrev pub WholeGivesAll : Type 0
WholeGivesAll =
    (c : Case) → Fit c.plan → KeepsTypes c → (settings : ℕ → Setting) (declines : ℕ → ℕ) (x : Parent) (i : ℕ) → Child c.plan x i →
    is_whole (own_type c.plan x) ≡ true → (n : ℕ) →
    (offers c.plan settings c.supply declines x n ≡ true) × (settings n ≡ Off → may c.plan settings c.supply declines x n ≡ true)

-- no partition is granted more than its served number in a served period, or in so much of one as lies inside the run, under any supply
abbrev pub NeverServedMore : Type 0
NeverServedMore =
    (c : Case) → Fit c.plan → FromFresh c → IsPartition c →
    let T : ℕ = (served_of c.plan c.partition).t in
    (b n : ℕ) → n ≤ T → b * T + n ≤ length c.supplies →
    ones (receives c.plan c.buffer c.partition) (b * T) n ≤ (served_of c.plan c.partition).c

-- and no node, partition or host, is charged more than that in a served period or in so much of one, whatever the settings, under any supply and whoever declines
abbrev pub NeverChargedMore : Type 0
NeverChargedMore =
    (plan : Plan) → Fit plan → (settings : ℕ → Setting) (supply declines : ℕ → ℕ) (i b n : ℕ) → There plan i → n ≤ (served_of plan i).t →
    ones (charged plan settings supply declines i) (b * (served_of plan i).t) n ≤ (served_of plan i).c

-- What a node is charged is told by the state that is reached: after slot b·T + a of the run, the run's last, its left and what it was charged since slot b·T
-- are together its served C.
abbrev pub CountsTell : Type 0
CountsTell =
    (c : Case) → Fit c.plan → (fresh : FromFresh c) → (i : ℕ) → There c.plan i →
    let T : ℕ = (served_of c.plan i).t in
    (b a : ℕ) → a < T → length c.supplies ≡ suc (b * T + a) →
    get_or fresh.state.left i 0 + ones (charges c i) (b * T) (suc a) ≡ (served_of c.plan i).c

-- one run from a fresh start is a case of runs and steps one after the other
abbrev pub OneRunToo : Type 0
OneRunToo = (c : Case) → ByOneRun c → FromFresh c
