-- Document 02, request 12, at work: the same inputs under both settings and under a mixture of them, and what demand 3 comes to. Why each statement holds is in
-- proofs/. Assumes nothing.
use Rattle.std.specs.Prelude.{ℕ, List, [], ◌∷◌, ◌++◌, ◌≡◌, replicate}
use Rattle.meaning.specs.Allocation.{ones}
use Rattle.meaning.specs.Types.{◌of◌}
use Rattle.plans.specs.Plan.{zero_type, zero_node, no_misses}
use Rattle.plans.specs.declared.NodeKind.TheVariants.{Host}
use Rattle.plans.specs.declared.Parent.TheVariants.{Supply, Node as Under}
use Rattle.plans.specs.declared.Plan.{Plan}
use Rattle.dispatch.specs.declared.Setting.{Setting}
use Rattle.dispatch.specs.declared.Setting.TheVariants.{Off, On}
use Rattle.partitions.specs.Case.{Case, receives, charges}
use Rattle.guarantee.specs.Needed.{Meets, always, bus_bytes, bus, on_bus, door_served}
use Rattle.guarantee.specs.Whole.{node_bytes, core_bytes, leaf_of}

-- `log` declines in every slot, as in `door_served`, but the switch is on: the slots of the host `body` go to `door`, as far as it has some left. It asked for 4 in
-- 10 and receives slots 0, 1, 4, 5, 8 and 9.
abbrev pub door_gains : Case
door_gains = on_bus On always (replicate 10 255) (replicate 10 2) (2 ∷ 2 ∷ 254 ∷ 254 ∷ 2 ∷ 2 ∷ 254 ∷ 254 ∷ 2 ∷ 2 ∷ []) 2

-- A sibling gains: with the switch off `door` receives 4 slots, and with it on 6.
abbrev pub SiblingGains : Type 0
SiblingGains = Meets door_served 4 4 × Meets door_gains 4 6

-- The same in ten steps, the switch off in the even slots and on in the odd ones: `body` is charged for a slot and passed over in the next, and `door` receives
-- slots 1, 3, 5, 7 and 9, which it does under neither setting alone.
abbrev pub door_mixed : Case
door_mixed =
    record {
      bytes = bus_bytes;
      plan = bus;
      supply = always;
      settings = Off ∷ On ∷ Off ∷ On ∷ Off ∷ On ∷ Off ∷ On ∷ Off ∷ On ∷ [];
      supplies = replicate 10 255;
      declines = replicate 10 2;
      buffer = 254 ∷ 2 ∷ 254 ∷ 2 ∷ 254 ∷ 2 ∷ 254 ∷ 2 ∷ 254 ∷ 2 ∷ [];
      partition = 2;
      window = 0;
    }

abbrev pub MixedServed : Type 0
MixedServed = Meets door_mixed 4 5

-- In the first four slots `body`, passed in vain, is charged twice with the switch off, and not with it on.
abbrev pub VainUncharged : Type 0
VainUncharged = (ones (charges door_served 0) 0 4 ≡ 2) × (ones (charges door_gains 0) 0 4 ≡ 0)

-- One core, all of it, for four nodes of (1,4): the host `h` (node 0) with the leaf `a` (node 1) under it, and the leaves `b` (node 2) and `c` (node 3).
abbrev pub four_bytes : List ℕ
four_bytes =
    core_bytes (1 of 1) ++
    (0x04 ∷
    (node_bytes 0x02 0x00 (1 of 4) (1 of 4) ++
    (node_bytes 0x00 0x80 (1 of 4) (1 of 4) ++
    (node_bytes 0x00 0x00 (1 of 4) (1 of 4) ++
    (node_bytes 0x00 0x00 (1 of 4) (1 of 4) ++ (0x04 ∷ 0x01 ∷ 0x68 ∷ 0x01 ∷ 0x61 ∷ 0x01 ∷ 0x62 ∷ 0x01 ∷ 0x63 ∷ []))))))

abbrev pub four : Plan
four =
    record {
      edition = 1;
      tick = record { p = 1_000; q = 3 };
      cores = 1;
      supplies = (1 of 1) ∷ replicate 7 zero_type;
      size = 4;
      nodes =
          record { kind = Host; parent = Supply 0; wanted = 1 of 4; misses = no_misses; served = 1 of 4 } ∷
          leaf_of (Under 0) (1 of 4) ∷
          leaf_of (Supply 0) (1 of 4) ∷
          leaf_of (Supply 0) (1 of 4) ∷
          replicate 60 zero_node;
    }

-- Four slots of it: `a` declines in slot 0, and `b` in slot 1. The window is the only one of `c`.
abbrev pub on_four : List Setting → List ℕ → Case
on_four settings buffer =
    record {
      bytes = four_bytes;
      plan = four;
      supply = always;
      settings = settings;
      supplies = replicate 4 255;
      declines = 2 ∷ 4 ∷ 0 ∷ 0 ∷ [];
      buffer = buffer;
      partition = 3;
      window = 0;
    }

-- off: slot 0 is wasted on `h`; on: it goes to `b`, and `h` has its slot left for slot 1
abbrev pub four_off : Case
four_off = on_four (replicate 4 Off) (254 ∷ 3 ∷ 2 ∷ 254 ∷ [])

abbrev pub four_on : Case
four_on = on_four (replicate 4 On) (2 ∷ 1 ∷ 3 ∷ 254 ∷ [])

-- `c` receives what it asked for under both settings.
abbrev pub BothServed : Type 0
BothServed = Meets four_off 1 1 × Meets four_on 1 1

-- But not every grant stays when the switch is turned on: in the first two slots `c` receives one with it off, and none with it on.
abbrev pub NotEveryGrant : Type 0
NotEveryGrant = (ones (receives four four_off.buffer 3) 0 2 ≡ 1) × (ones (receives four four_on.buffer 3) 0 2 ≡ 0)
