-- Document 01's reader, with its own numbers for where things stand: what a file of edition 1 was read by before there was another edition. What does not
-- depend on where things stand is taken as it is from the definitions that are in force; a value has edition 1, and its nodes D 0 and W 1. That such a
-- file is read as it was is a promise of specs/Promises.antt. Assumes nothing.
use Rattle.std.specs.Prelude.{ℕ, zero, suc, ◌+◌, ◌*◌, min, Bool, cond, not, ◌&&◌, List, [], leb, ltb, eqb, length, take, drop, replicate}
use Rattle.meaning.specs.declared.SlotType.{SlotType}
use Rattle.answers.specs.Answers.{Answer, accepts, first, test, each}
use Rattle.plans.specs.Plan.{zero_type, zero_node, zero_plan, no_misses}
use Rattle.plans.specs.Sound.{all, parent_allowed, within}
use Rattle.plans.specs.declared.Node.{Node}
use Rattle.plans.specs.declared.Plan.{Plan}
use Rattle.rules.specs.Check.{rules}
use Rattle.fields.specs.Fields.{byte_at, four_at, type_at, there, check_type}
use Rattle.decode.specs.Decode.{kind_named, parent_named, is_named, parent_or, filled}
use Rattle.names.specs.Names.{is_length, check_letter, same_name}
use Rattle.reader.specs.Read.{Reading, check_part, check_count, check_kind}

-- where the parts stand: the supplies' count at byte 9, four bytes a supply, ten a node
unfoldable pub cores_before : List ℕ → ℕ
cores_before s = byte_at s 9

unfoldable pub supply_start_before : ℕ → ℕ
supply_start_before i = 10 + 4 * i

unfoldable pub nodes_at_before : List ℕ → ℕ
nodes_at_before s = supply_start_before (cores_before s)

unfoldable pub size_before : List ℕ → ℕ
size_before s = byte_at s (nodes_at_before s)

unfoldable pub node_start_before : List ℕ → ℕ → ℕ
node_start_before s i = nodes_at_before s + 1 + 10 * i

unfoldable pub names_at_before : List ℕ → ℕ
names_at_before s = node_start_before s (size_before s)

unfoldable pub name_start_before : List ℕ → ℕ → ℕ
name_start_before s zero = names_at_before s + 1
name_start_before s (suc i) = name_start_before s i + 1 + byte_at s (name_start_before s i)

unfoldable pub end_before : List ℕ → ℕ
end_before s = name_start_before s (size_before s)

-- the value that the bytes spell
unfoldable pub supply_before : List ℕ → ℕ → SlotType
supply_before s i = type_at s (supply_start_before i)

unfoldable pub node_before : List ℕ → ℕ → Node
node_before s i =
    let k = node_start_before s i in
    record {
      kind = kind_named (byte_at s k);
      parent = parent_or (parent_named (byte_at s (k + 1)));
      wanted = type_at s (k + 2);
      misses = no_misses;
      served = type_at s (k + 6);
    }

unfoldable pub plan_before : List ℕ → Plan
plan_before s =
    record {
      edition = 1;
      tick = record { p = four_at s 1; q = four_at s 5 };
      cores = cores_before s;
      supplies = filled (supply_before s) (replicate 8 zero_type) (min (cores_before s) 8);
      size = size_before s;
      nodes = filled (node_before s) (replicate 64 zero_node) (min (size_before s) 64);
    }

-- 01: "Tick, count 1: P and Q"
unfoldable pub check_tick_before : List ℕ → Answer
check_tick_before s = first (there s 0 1) (first (test (eqb (byte_at s 0) 1) 2 0) (first (check_part s 1) (check_part s 5)))

unfoldable pub check_supply_before : List ℕ → ℕ → Answer
check_supply_before s i = check_type s (supply_start_before i)

unfoldable pub check_supplies_before : List ℕ → Answer
check_supplies_before s = first (check_count s 9 8) (each (check_supply_before s) (cores_before s))

unfoldable pub check_parent_before : List ℕ → ℕ → ℕ → Answer
check_parent_before s i k =
    first (there s k 1)
    (first (test (is_named (parent_named (byte_at s k)) && parent_allowed (plan_before s) i) 6 k) (test (within (plan_before s) 8 i) 7 k))

-- 01: "kind .., parent, wanted C and T, served C and T; ten bytes"
unfoldable pub check_node_before : List ℕ → ℕ → Answer
check_node_before s i =
    let k = node_start_before s i in
    first (check_kind s k) (first (check_parent_before s i (k + 1)) (first (check_type s (k + 2)) (check_type s (k + 6))))

unfoldable pub check_nodes_before : List ℕ → Answer
check_nodes_before s = first (check_count s (nodes_at_before s) 64) (each (check_node_before s) (size_before s))

-- 01: "No name occurs twice"
unfoldable pub differs_before : List ℕ → ℕ → ℕ → Bool
differs_before s i j = not (same_name s (name_start_before s j) (name_start_before s i))

unfoldable pub check_name_before : List ℕ → ℕ → Answer
check_name_before s i =
    let k = name_start_before s i in
    first (there s k 1)
    (first (test (is_length (byte_at s k)) 8 k) (first (each (check_letter s k) (byte_at s k)) (test (all (differs_before s i) i) 9 k)))

unfoldable pub check_names_before : List ℕ → Answer
check_names_before s =
    let k = names_at_before s in
    first (there s k 1) (first (test (eqb (byte_at s k) (size_before s)) 2 k) (each (check_name_before s) (size_before s)))

unfoldable pub check_end_before : List ℕ → Answer
check_end_before s = test (leb (length s) (end_before s)) 10 (end_before s)

unfoldable pub answer_before : List ℕ → Answer
answer_before s =
    first
    (first (check_tick_before s)
    (first (check_supplies_before s) (first (check_nodes_before s) (first (check_names_before s) (check_end_before s)))))
    (rules (plan_before s))

-- the read, and the name of node i
unfoldable pub read_before : List ℕ → Reading
read_before s = record { answer = answer_before s; plan = cond (accepts (answer_before s)) (plan_before s) zero_plan }

unfoldable pub name_before : List ℕ → ℕ → List ℕ
name_before s i =
    let k = name_start_before s i in
    cond (accepts (answer_before s) && ltb i (size_before s)) (take (byte_at s k) (drop (k + 1) s)) []
