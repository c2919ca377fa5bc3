-- Demand 3 is not empty, its bounds are reached, and each of its hypotheses is needed: short runs of three small plans with the switch off, and the numbers that
-- they give. Why each statement holds is in proofs/. Assumes nothing.
use Rattle.std.specs.Prelude.{ℕ, ◌%◌, ◌*◌, cond, List, [], ◌∷◌, ◌≡◌, eqb, length, replicate}
use Rattle.meaning.specs.Allocation.{ones}
use Rattle.meaning.specs.Types.{◌of◌}
use Rattle.plans.specs.Plan.{zero_type, zero_node, no_misses, served_of}
use Rattle.plans.specs.declared.Node.{Node}
use Rattle.plans.specs.declared.NodeKind.TheVariants.{AlignedLeaf, SlidingLeaf, Host}
use Rattle.plans.specs.declared.Parent.TheVariants.{Supply, Node as Under}
use Rattle.plans.specs.declared.Plan.{Plan}
use Rattle.dispatch.specs.declared.Setting.{Setting}
use Rattle.dispatch.specs.declared.Setting.TheVariants.{Off}
use Rattle.partitions.specs.Case.{
  Case,
  KeepsTypes,
  OverFirstPart,
  FromFresh,
  IsPartition,
  IsHard,
  ItsWindow,
  InsideRun,
  DeclinesNowhere,
  asked,
  period,
  receives,
  received,
  charges,
}
use Rattle.guarantee.specs.Promises.{Accepted}

-- What every case below has: an accepted plan, runs from a fresh start over the first part of the supply, and a partition of the plan; and the numbers that
-- the case comes to, how many slots the partition asked for and how many it received in the window.
pub record Basis (c : Case) (asks gets : ℕ) : Type 0 where
  pub accepts : Accepted c
  pub first : OverFirstPart c
  pub fresh : FromFresh c
  pub partition : IsPartition c
  pub asking : asked c ≡ asks
  pub getting : received c ≡ gets

-- a case that meets every hypothesis of `Guarantee`
pub record Meets (c : Case) (asks gets : ℕ) : Type 0 where
  pub basis : Basis c asks gets
  pub supplied : KeepsTypes c
  pub hard : IsHard c
  pub window : ItsWindow c
  pub inside : InsideRun c (period c)
  pub nowhere : DeclinesNowhere c (period c)

-- every core is supplied in every slot
abbrev pub always : ℕ → ℕ
always n = 255

-- The plan of document 01, "The program `busplan` reads a plan": the whole of one core, for the host `body` (node 0) with the leaf `log` (node 1) under it,
-- and for the sliding leaf `door` (node 2).
abbrev pub bus_bytes : List ℕ
bus_bytes =
    -- the tick and the supply
    0x01 ∷ 0xE8 ∷ 0x03 ∷ 0x00 ∷ 0x00 ∷ 0x03 ∷ 0x00 ∷ 0x00 ∷ 0x00 ∷
    0x01 ∷ 0x01 ∷ 0x00 ∷ 0x01 ∷ 0x00 ∷
    -- the nodes
    0x03 ∷
    0x02 ∷ 0x00 ∷ 0x02 ∷ 0x00 ∷ 0x04 ∷ 0x00 ∷ 0x02 ∷ 0x00 ∷ 0x04 ∷ 0x00 ∷
    0x00 ∷ 0x80 ∷ 0x01 ∷ 0x00 ∷ 0x09 ∷ 0x00 ∷ 0x01 ∷ 0x00 ∷ 0x04 ∷ 0x00 ∷
    0x01 ∷ 0x00 ∷ 0x04 ∷ 0x00 ∷ 0x0A ∷ 0x00 ∷ 0x02 ∷ 0x00 ∷ 0x04 ∷ 0x00 ∷
    -- the names
    0x03 ∷
    0x04 ∷ 0x62 ∷ 0x6F ∷ 0x64 ∷ 0x79 ∷
    0x03 ∷ 0x6C ∷ 0x6F ∷ 0x67 ∷
    0x04 ∷ 0x64 ∷ 0x6F ∷ 0x6F ∷ 0x72 ∷
    []

abbrev pub bus : Plan
bus =
    record {
      edition = 1;
      tick = record { p = 1_000; q = 3 };
      cores = 1;
      supplies = (1 of 1) ∷ replicate 7 zero_type;
      size = 3;
      nodes =
          record { kind = Host; parent = Supply 0; wanted = 2 of 4; misses = no_misses; served = 2 of 4 } ∷
          record { kind = AlignedLeaf; parent = Under 0; wanted = 1 of 9; misses = no_misses; served = 1 of 4 } ∷
          record { kind = SlidingLeaf; parent = Supply 0; wanted = 4 of 10; misses = no_misses; served = 2 of 4 } ∷
          replicate 61 zero_node;
    }

-- Ten slots of that plan with one setting, and the first window of one of its leaves.
abbrev pub on_bus : Setting → (ℕ → ℕ) → List ℕ → List ℕ → List ℕ → ℕ → Case
on_bus setting supply supplies declines buffer leaf =
    record {
      bytes = bus_bytes;
      plan = bus;
      supply = supply;
      settings = replicate (length supplies) setting;
      supplies = supplies;
      declines = declines;
      buffer = buffer;
      partition = leaf;
      window = 0;
    }

-- Nobody declines for ten slots: `log` asked for 1 slot in 9 and receives slots 0, 4 and 8.
abbrev pub log_served : Case
log_served = on_bus Off always (replicate 10 255) (replicate 10 0) (1 ∷ 254 ∷ 2 ∷ 2 ∷ 1 ∷ 254 ∷ 2 ∷ 2 ∷ 1 ∷ 254 ∷ []) 1

-- `log` declines in every slot: `door` asked for 4 in 10 and receives slots 2, 3, 6 and 7.
abbrev pub door_served : Case
door_served = on_bus Off always (replicate 10 255) (replicate 10 2) (254 ∷ 254 ∷ 2 ∷ 2 ∷ 254 ∷ 254 ∷ 2 ∷ 2 ∷ 254 ∷ 254 ∷ []) 2

-- Two cores, of which the second is stated as every other slot only, and a leaf with every other slot of each: `a` (node 0) on core 0, `b` (node 1) on core 1.
abbrev pub duo_bytes : List ℕ
duo_bytes =
    0x01 ∷ 0xE8 ∷ 0x03 ∷ 0x00 ∷ 0x00 ∷ 0x03 ∷ 0x00 ∷ 0x00 ∷ 0x00 ∷
    0x02 ∷ 0x01 ∷ 0x00 ∷ 0x01 ∷ 0x00 ∷ 0x01 ∷ 0x00 ∷ 0x02 ∷ 0x00 ∷
    0x02 ∷
    0x00 ∷ 0x00 ∷ 0x01 ∷ 0x00 ∷ 0x02 ∷ 0x00 ∷ 0x01 ∷ 0x00 ∷ 0x02 ∷ 0x00 ∷
    0x00 ∷ 0x01 ∷ 0x01 ∷ 0x00 ∷ 0x02 ∷ 0x00 ∷ 0x01 ∷ 0x00 ∷ 0x02 ∷ 0x00 ∷
    0x02 ∷
    0x01 ∷ 0x61 ∷
    0x01 ∷ 0x62 ∷
    []

abbrev pub duo : Plan
duo =
    record {
      edition = 1;
      tick = record { p = 1_000; q = 3 };
      cores = 2;
      supplies = (1 of 1) ∷ (1 of 2) ∷ replicate 6 zero_type;
      size = 2;
      nodes =
          record { kind = AlignedLeaf; parent = Supply 0; wanted = 1 of 2; misses = no_misses; served = 1 of 2 } ∷
          record { kind = AlignedLeaf; parent = Supply 1; wanted = 1 of 2; misses = no_misses; served = 1 of 2 } ∷
          replicate 62 zero_node;
    }

-- core 0 in every slot, core 1 in the odd ones
abbrev pub odd_too : ℕ → ℕ
odd_too n = cond (eqb (n % 2) 0) 1 3

-- Four slots, in three calls: a run of one, a step, and a run of two. In its window from slot 2 on `b` asked for 1 slot and receives slot 3, and no more.
abbrev pub duo_served : Case
duo_served =
    record {
      bytes = duo_bytes;
      plan = duo;
      supply = odd_too;
      settings = replicate 4 Off;
      supplies = 1 ∷ 3 ∷ 1 ∷ 3 ∷ [];
      declines = replicate 4 0;
      buffer = 0 ∷ 255 ∷ 254 ∷ 1 ∷ 0 ∷ 255 ∷ 254 ∷ 1 ∷ [];
      partition = 1;
      window = 2;
    }

-- Demand 3 is not empty: all three meet every hypothesis, and two receive no more than they asked for.
abbrev pub NotEmpty : Type 0
NotEmpty = Meets log_served 1 3 × Meets door_served 4 4 × Meets duo_served 1 1

-- The bounds from above are reached too: `door` is granted its served 2 in the first four slots, and its neighbour, the host `body`, is charged its own 2 there.
abbrev pub BoundsReached : Type 0
BoundsReached =
    (ones (receives bus log_served.buffer 2) (0 * (served_of bus 2).t) (served_of bus 2).t ≡ (served_of bus 2).c) ×
    (ones (charges log_served 0) (0 * (served_of bus 0).t) (served_of bus 0).t ≡ (served_of bus 0).c)

-- The core, of which every slot is stated, is not supplied in slot 2: `door` receives slots 3, 6 and 7, one fewer than it asked for.
abbrev pub all_but_slot_two : ℕ → ℕ
all_but_slot_two n = cond (eqb n 2) 0 255

abbrev pub supply_short : Case
supply_short =
    on_bus Off all_but_slot_two (255 ∷ 255 ∷ 0 ∷ replicate 7 255) (replicate 10 0) (1 ∷ 254 ∷ 255 ∷ 2 ∷ 1 ∷ 254 ∷ 2 ∷ 2 ∷ 1 ∷ 254 ∷ []) 2

abbrev pub ShortSupply : Type 0
ShortSupply =
    Basis supply_short 4 3 × (KeepsTypes supply_short → ⊥) × IsHard supply_short × ItsWindow supply_short ×
    InsideRun supply_short (period supply_short) × DeclinesNowhere supply_short (period supply_short)

-- `door` declines in slot 2, and its served period has only slot 3 left for it.
abbrev pub door_declines : Case
door_declines =
    on_bus Off always (replicate 10 255) (0 ∷ 0 ∷ 4 ∷ replicate 7 0) (1 ∷ 254 ∷ 254 ∷ 2 ∷ 1 ∷ 254 ∷ 2 ∷ 2 ∷ 1 ∷ 254 ∷ []) 2

abbrev pub DeclinedOnce : Type 0
DeclinedOnce =
    Basis door_declines 4 3 × KeepsTypes door_declines × IsHard door_declines × ItsWindow door_declines ×
    InsideRun door_declines (period door_declines) × (DeclinesNowhere door_declines (period door_declines) → ⊥)

-- The run ends after seven slots, and the rest of the buffer is as it was: 9 is neither a node nor 254 or 255.
abbrev pub run_ends : Case
run_ends = on_bus Off always (replicate 7 255) (replicate 7 0) (1 ∷ 254 ∷ 2 ∷ 2 ∷ 1 ∷ 254 ∷ 2 ∷ 9 ∷ 9 ∷ 9 ∷ []) 2

abbrev pub OutsideRun : Type 0
OutsideRun =
    Basis run_ends 4 3 × KeepsTypes run_ends × IsHard run_ends × ItsWindow run_ends ×
    (InsideRun run_ends (period run_ends) → ⊥) × DeclinesNowhere run_ends (period run_ends)

-- A plan with two aligned leaves, `a` (node 0) and `b` (node 1), each with every other slot of one core.
abbrev pub pair_bytes : List ℕ
pair_bytes =
    0x01 ∷ 0xE8 ∷ 0x03 ∷ 0x00 ∷ 0x00 ∷ 0x03 ∷ 0x00 ∷ 0x00 ∷ 0x00 ∷
    0x01 ∷ 0x01 ∷ 0x00 ∷ 0x01 ∷ 0x00 ∷
    0x02 ∷
    0x00 ∷ 0x00 ∷ 0x01 ∷ 0x00 ∷ 0x02 ∷ 0x00 ∷ 0x01 ∷ 0x00 ∷ 0x02 ∷ 0x00 ∷
    0x00 ∷ 0x00 ∷ 0x01 ∷ 0x00 ∷ 0x02 ∷ 0x00 ∷ 0x01 ∷ 0x00 ∷ 0x02 ∷ 0x00 ∷
    0x02 ∷
    0x01 ∷ 0x61 ∷
    0x01 ∷ 0x62 ∷
    []

abbrev pub half : Node
half = record { kind = AlignedLeaf; parent = Supply 0; wanted = 1 of 2; misses = no_misses; served = 1 of 2 }

abbrev pub pair : Plan
pair =
    record {
      edition = 1;
      tick = record { p = 1_000; q = 3 };
      cores = 1;
      supplies = (1 of 1) ∷ replicate 7 zero_type;
      size = 2;
      nodes = half ∷ half ∷ replicate 62 zero_node;
    }

-- `a` declines in slot 0, so `b` has slots 0 and 3: one in each of its windows, from 0 and from 2 on, and none in the two slots from 1 on.
abbrev pub between_windows : Case
between_windows =
    record {
      bytes = pair_bytes;
      plan = pair;
      supply = always;
      settings = replicate 4 Off;
      supplies = replicate 4 255;
      declines = 1 ∷ 0 ∷ 0 ∷ 0 ∷ [];
      buffer = 1 ∷ 0 ∷ 0 ∷ 1 ∷ [];
      partition = 1;
      window = 1;
    }

abbrev pub OffMultiple : Type 0
OffMultiple =
    Basis between_windows 1 0 × KeepsTypes between_windows × IsHard between_windows × (ItsWindow between_windows → ⊥) ×
    InsideRun between_windows (period between_windows) × DeclinesNowhere between_windows (period between_windows)
