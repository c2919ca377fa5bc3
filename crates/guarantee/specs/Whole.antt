-- Document 02, request 2, at work: plans with whole parents, each run for twelve slots with every core supplied, nobody declining and the switch off, and what demand 3
-- comes to in them; and the same plans with one number changed, refused. Why each statement holds is in proofs/. Assumes nothing.
use Rattle.std.specs.Prelude.{ℕ, List, [], ◌∷◌, ◌++◌, ◌≡◌, replicate}
use Rattle.meaning.specs.Types.{◌of◌}
use Rattle.meaning.specs.declared.SlotType.{SlotType}
use Rattle.answers.specs.Answers.{at, refused, said}
use Rattle.plans.specs.Plan.{zero_type, zero_node, no_misses}
use Rattle.plans.specs.declared.Node.{Node}
use Rattle.plans.specs.declared.NodeKind.TheVariants.{AlignedLeaf, Host}
use Rattle.plans.specs.declared.Parent.{Parent}
use Rattle.plans.specs.declared.Parent.TheVariants.{Supply, Node as Under}
use Rattle.plans.specs.declared.Plan.{Plan}
use Rattle.rules.specs.Before.{FitBefore}
use Rattle.reader.specs.Read.{read_plan}
use Rattle.dispatch.specs.declared.Setting.TheVariants.{Off}
use Rattle.partitions.specs.Case.{Case}
use Rattle.guarantee.specs.Needed.{Meets, always}

-- the bytes of a type whose numbers are below 256, of a node, and of a tick with one core
abbrev pub type_bytes : SlotType → List ℕ
type_bytes a = a.c ∷ 0x00 ∷ a.t ∷ 0x00 ∷ []

abbrev pub node_bytes : ℕ → ℕ → SlotType → SlotType → List ℕ
node_bytes kind parent wanted served = kind ∷ parent ∷ (type_bytes wanted ++ type_bytes served)

abbrev pub core_bytes : SlotType → List ℕ
core_bytes core = 0x01 ∷ 0xE8 ∷ 0x03 ∷ 0x00 ∷ 0x00 ∷ 0x03 ∷ 0x00 ∷ 0x00 ∷ 0x00 ∷ 0x01 ∷ type_bytes core

-- a leaf that is served what it wants
abbrev pub leaf_of : Parent → SlotType → Node
leaf_of parent a = record { kind = AlignedLeaf; parent = parent; wanted = a; misses = no_misses; served = a }

-- twelve slots of a plan
abbrev pub twelve : List ℕ → Plan → List ℕ → ℕ → ℕ → Case
twelve bytes plan buffer leaf window =
    record {
      bytes = bytes;
      plan = plan;
      supply = always;
      settings = replicate 12 Off;
      supplies = replicate 12 255;
      declines = replicate 12 0;
      buffer = buffer;
      partition = leaf;
      window = window;
    }

-- A core and two leaves under it, `a` (node 0) and `b` (node 1), each served what it wants.
abbrev pub frame_bytes : SlotType → SlotType → SlotType → List ℕ
frame_bytes core a b =
    core_bytes core ++ (0x02 ∷ (node_bytes 0x00 0x00 a a ++ (node_bytes 0x00 0x00 b b ++ (0x02 ∷ 0x01 ∷ 0x61 ∷ 0x01 ∷ 0x62 ∷ []))))

abbrev pub frame : SlotType → SlotType → SlotType → Plan
frame core a b =
    record {
      edition = 1;
      tick = record { p = 1_000; q = 3 };
      cores = 1;
      supplies = core ∷ replicate 7 zero_type;
      size = 2;
      nodes = leaf_of (Supply 0) a ∷ leaf_of (Supply 0) b ∷ replicate 62 zero_node;
    }

-- The customer's core, (4,4), shared out in periods of 6. In its window from slot 6 on `b` asked for 4 slots and receives slots 8 to 11.
abbrev pub customer : Case
customer =
    twelve (frame_bytes (4 of 4) (2 of 6) (4 of 6)) (frame (4 of 4) (2 of 6) (4 of 6)) (0 ∷ 0 ∷ 1 ∷ 1 ∷ 1 ∷ 1 ∷ 0 ∷ 0 ∷ 1 ∷ 1 ∷ 1 ∷ 1 ∷ []) 1 6

-- A child of period 2, which divides the core's own. In its window from slot 10 on `a` asked for 1 slot and receives slot 10.
abbrev pub shorter : Case
shorter =
    twelve (frame_bytes (4 of 4) (1 of 2) (3 of 6)) (frame (4 of 4) (1 of 2) (3 of 6)) (0 ∷ 1 ∷ 0 ∷ 1 ∷ 0 ∷ 1 ∷ 0 ∷ 1 ∷ 0 ∷ 1 ∷ 0 ∷ 1 ∷ []) 0 10

-- A host (node 0) that has the core to itself, and under it the leaves `a` (node 1) of period 3 and `b` (node 2) of period 6.
abbrev pub host_bytes : SlotType → SlotType → SlotType → List ℕ
host_bytes core wanted served =
    core_bytes core ++ (0x03 ∷ (node_bytes 0x02 0x00 wanted served ++
    (node_bytes 0x00 0x80 (1 of 3) (1 of 3) ++ (node_bytes 0x00 0x80 (4 of 6) (4 of 6) ++
    (0x03 ∷ 0x01 ∷ 0x68 ∷ 0x01 ∷ 0x61 ∷ 0x01 ∷ 0x62 ∷ [])))))

abbrev pub host_plan : Plan
host_plan =
    record {
      edition = 1;
      tick = record { p = 1_000; q = 3 };
      cores = 1;
      supplies = (4 of 4) ∷ replicate 7 zero_type;
      size = 3;
      nodes =
          record { kind = Host; parent = Supply 0; wanted = 4 of 4; misses = no_misses; served = 4 of 4 } ∷
          leaf_of (Under 0) (1 of 3) ∷
          leaf_of (Under 0) (4 of 6) ∷
          replicate 61 zero_node;
    }

-- In its window from slot 6 on `b` asked for 4 slots and receives slots 7, 8, 10 and 11.
abbrev pub hosted : Case
hosted = twelve (host_bytes (4 of 4) (4 of 4) (4 of 4)) host_plan (1 ∷ 2 ∷ 2 ∷ 1 ∷ 2 ∷ 2 ∷ 1 ∷ 2 ∷ 2 ∷ 1 ∷ 2 ∷ 2 ∷ []) 2 6

-- All three meet every hypothesis of demand 3, and receive just what they asked for: nothing of the core is left over.
abbrev pub WholeServed : Type 0
WholeServed = Meets customer 4 4 × Meets shorter 1 1 × Meets hosted 4 4

-- none of them kept the rules as document 01 has them
abbrev pub NewlyAccepted : Type 0
NewlyAccepted = (FitBefore customer.plan → ⊥) × (FitBefore shorter.plan → ⊥) × (FitBefore hosted.plan → ⊥)

-- bytes are refused by a rule at a node
abbrev pub RefusedBy : List ℕ → ℕ → ℕ → Type 0
RefusedBy bytes rule node = said (read_plan bytes).answer ≡ refused rule (at node)

-- With (3,4) for (4,4) rule 12 refuses the same children: under the core, and under the host, whether the core still gives every slot or not. The host is served
-- all of (4,4) in the first of the two, and is not whole for that. Nor is a core that gives nothing, (0,4), though nobody asks for a slot of it.
abbrev pub NotQuiteWhole : Type 0
NotQuiteWhole =
    RefusedBy (frame_bytes (3 of 4) (2 of 6) (4 of 6)) 12 0 ×
    RefusedBy (frame_bytes (3 of 4) (1 of 2) (3 of 6)) 12 0 ×
    RefusedBy (host_bytes (4 of 4) (3 of 4) (4 of 4)) 12 1 ×
    RefusedBy (host_bytes (3 of 4) (3 of 4) (3 of 4)) 12 1 ×
    RefusedBy (frame_bytes (0 of 4) (0 of 6) (0 of 6)) 12 0

-- A whole core owes M slots in M and not one more: rule 14 at the child that passes it.
abbrev pub OverfullByOne : Type 0
OverfullByOne = RefusedBy (frame_bytes (4 of 4) (2 of 6) (5 of 6)) 14 1
