-- Demand 3. "Take an accepted plan, started fresh, and any unending supply that gives each core its stated slots in every aligned period, whoever declines.
-- In any run over its first part, a partition receives at least the slots it asked for in every one of its windows that lies inside the run, provided it
-- declines in no slot of its served periods that touch that window. No partition or virtual host is ever granted more than its served number in one
-- aligned served period, even where the supply falls short." By document 02, request 6, that is said of hard partitions; "demand 3 speaks for soft leaves of whole
-- stretches inside the run, at most D windows short in each, provided the leaf declines in no slot of its served periods that touch the stretch." It holds for both
-- settings of document 02, request 12, each call with one of its own: a case has a setting for each slot. Why each holds is in proofs/. Assumes nothing.
use Rattle.std.specs.Prelude.{ℕ, ◌+◌, ◌*◌, ◌≤◌, ◌≡◌, length}
use Rattle.meaning.specs.Allocation.{ones}
use Rattle.answers.specs.Answers.{accepted, said}
use Rattle.plans.specs.Plan.{There, served_of}
use Rattle.reader.specs.Read.{read_plan}
use Rattle.partitions.specs.Case.{
  Case,
  KeepsTypes,
  OverFirstPart,
  FromFresh,
  IsPartition,
  IsHard,
  IsSoft,
  ItsWindow,
  ItsStretch,
  InsideRun,
  DeclinesNowhere,
  asked,
  period,
  misses,
  stretch,
  receives,
  received,
  short,
  charges,
}

-- "Take an accepted plan": its bytes are accepted, and read as this value
pub record Accepted (c : Case) : Type 0 where
  pub answer : said (read_plan c.bytes).answer ≡ accepted
  pub value : (read_plan c.bytes).plan ≡ c.plan

-- a hard partition receives what it asked for in each of its windows inside the run
abbrev pub Guarantee : Type 0
Guarantee =
    (c : Case) → Accepted c → KeepsTypes c → OverFirstPart c → FromFresh c → IsPartition c → IsHard c → ItsWindow c → InsideRun c (period c) →
    DeclinesNowhere c (period c) → asked c ≤ received c

-- and a soft one has at most D windows short in each of its stretches inside the run
abbrev pub SoftGuarantee : Type 0
SoftGuarantee =
    (c : Case) → Accepted c → KeepsTypes c → OverFirstPart c → FromFresh c → IsPartition c → IsSoft c → ItsStretch c → InsideRun c (stretch c) →
    DeclinesNowhere c (stretch c) → short c ≤ (misses c).d

-- no partition is granted more than its served number in a served period, or in so much of one as lies inside the run, under any supply
abbrev pub NeverMore : Type 0
NeverMore =
    (c : Case) → Accepted c → FromFresh c → IsPartition c →
    let T : ℕ = (served_of c.plan c.partition).t in
    (b n : ℕ) → n ≤ T → b * T + n ≤ length c.supplies →
    ones (receives c.plan c.buffer c.partition) (b * T) n ≤ (served_of c.plan c.partition).c

-- and no node, partition or virtual host, is charged more than that
abbrev pub NeverCharged : Type 0
NeverCharged =
    (c : Case) → Accepted c → FromFresh c → (i : ℕ) → There c.plan i →
    let T : ℕ = (served_of c.plan i).t in
    (b n : ℕ) → n ≤ T → b * T + n ≤ length c.supplies → ones (charges c i) (b * T) n ≤ (served_of c.plan i).c
