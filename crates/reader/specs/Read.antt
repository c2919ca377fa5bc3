-- Reading a plan file field by field, with every refusal and its place: document 01, "The plan file", "Refusal numbers" and the order below them, and
-- document 02, request 6. Written from the table; that it accepts just the files of the plans that fit is the theorem of the crate `layout`. Assumes nothing.
use Rattle.std.specs.Prelude.{ℕ, ◌+◌, Bool, cond, ◌&&◌, List, [], leb, ltb, eqb, length, take, drop, Result, Ok, Err}
use Rattle.ticks.specs.Times.{in_range}
use Rattle.answers.specs.declared.Refusal.{Refusal}
use Rattle.answers.specs.Answers.{Answer, Accepted, answered, accepts, first, test, each}
use Rattle.plans.specs.declared.Plan.{Plan}
use Rattle.plans.specs.Plan.{zero_plan, kind_of}
use Rattle.plans.specs.Sound.{counts, is_edition, parent_allowed, within, borne}
use Rattle.rules.specs.Check.{rules}
use Rattle.fields.specs.Fields.{byte_at, four_at, misses_at, there, check_type}
use Rattle.decode.specs.Positions.{edition_of, further, cores_at, cores_of, supply_start, nodes_at, size_of, node_start, served_at, name_start, end_at}
use Rattle.decode.specs.Decode.{parent_named, is_named, plan_of}
use Rattle.names.specs.Names.{check_names}

-- 01: "Tick, count 1: P and Q, four bytes each, both 1 to 1,000,000"
unfoldable pub check_part : List ℕ → ℕ → Answer
check_part s k = first (there s k 4) (test (in_range (four_at s k)) 3 k)

-- 02, of edition 2: "its second record is eight zero bytes"; "3 at a non-zero spare byte, each a field"
unfoldable pub spare_at : List ℕ → ℕ → Answer
spare_at s k = first (there s k 1) (test (eqb (byte_at s k) 0) 3 k)

-- spare byte j of those that follow P and Q
unfoldable pub check_spare : List ℕ → ℕ → Answer
check_spare s j = spare_at s (9 + j)

unfoldable pub check_tick : List ℕ → Answer
check_tick s =
    first (there s 0 1)
    (first (test (is_edition (edition_of s)) 2 0) (first (check_part s 1) (first (check_part s 5) (each (check_spare s) (further s 8)))))

-- a one-byte count at k, from 1 to `most`
unfoldable pub check_count : List ℕ → ℕ → ℕ → Answer
check_count s k most = first (there s k 1) (test (counts (byte_at s k) most) 2 k)

-- 01: "Supplies, count 1 to 8: C and T, two bytes each"
unfoldable pub check_supply : List ℕ → ℕ → Answer
check_supply s i = check_type s (supply_start s i)

unfoldable pub check_supplies : List ℕ → Answer
check_supplies s = first (check_count s (cores_at s) 8) (each (check_supply s) (cores_of s))

-- 01: "kind (0 aligned leaf, 1 sliding leaf, 2 virtual host)"
unfoldable pub check_kind : List ℕ → ℕ → Answer
check_kind s k = first (there s k 1) (test (leb (byte_at s k) 2) 5 k)

-- 01, refusals 6 and 7, of the parent byte of node i, which stands at k: "parent names nothing allowed", "depth would be 9"
unfoldable pub check_parent : List ℕ → ℕ → ℕ → Answer
check_parent s i k =
    first (there s k 1)
    (first (test (is_named (parent_named (byte_at s k)) && parent_allowed (plan_of s) i) 6 k) (test (within (plan_of s) 8 i) 7 k))

-- 02, of D and W of node i, where D begins at k: "19 for bad D, W or a host with D above 0, at D's first byte, when they are read". A node of edition 1
-- has no such fields.
unfoldable pub check_misses : List ℕ → ℕ → ℕ → Answer
check_misses s i k =
    cond (eqb (edition_of s) 2)
    (first (there s k 2) (first (there s (k + 2) 2) (test (borne (kind_of (plan_of s) i) (misses_at s k)) 19 k)))
    Accepted

-- 01: "kind .., parent, wanted C and T, served C and T; ten bytes", and 02: D and W "after its wanted type"
unfoldable pub check_node : List ℕ → ℕ → Answer
check_node s i =
    let k = node_start s i in
    first (check_kind s k)
    (first (check_parent s i (k + 1))
    (first (check_type s (k + 2)) (first (check_misses s i (k + 6)) (check_type s (served_at s i)))))

-- 01: "Nodes, count 1 to 64"
unfoldable pub check_nodes : List ℕ → Answer
check_nodes s = first (check_count s (nodes_at s) 64) (each (check_node s) (size_of s))

-- 01: "Nothing follows": refusal 10, "bytes left over: first of them"
unfoldable pub check_end : List ℕ → Answer
check_end s = test (leb (length s) (end_at s)) 10 (end_at s)

-- 01: "the bytes from the front, each field tested when it has been read"
unfoldable pub check_bytes : List ℕ → Answer
check_bytes s = first (check_tick s) (first (check_supplies s) (first (check_nodes s) (first (check_names s) (check_end s))))

-- 01: then the rules
unfoldable pub read_answer : List ℕ → Answer
read_answer s = first (check_bytes s) (rules (plan_of s))

-- what a read hands out
pub record Reading : Type 0 where
  pub answer : Answer
  pub plan : Plan

-- and what the code hands out, as such a reading: a refusal is one of the value of zeros
abbrev pub reading_of : Result Plan Refusal → Reading
reading_of (Ok plan) = record { answer = Accepted; plan = plan }
reading_of (Err e) = record { answer = answered (Err e); plan = zero_plan }

-- 01: "A refused read gives a plan value of zeros"
unfoldable pub read_plan : List ℕ → Reading
read_plan s = record { answer = read_answer s; plan = cond (accepts (read_answer s)) (plan_of s) zero_plan }

-- 01: "A name is handed out as the very part of the plan bytes that holds it; for a refused plan or a node not there, an empty part."
unfoldable pub has_name : List ℕ → ℕ → Bool
has_name s i = accepts (read_answer s) && ltb i (size_of s)

unfoldable pub name_of : List ℕ → ℕ → List ℕ
name_of s i = cond (has_name s i) (take (byte_at s (name_start s i)) (drop (name_start s i + 1) s)) []

-- where that part begins: after the name's length byte, and an empty part at the front
unfoldable pub name_place : List ℕ → ℕ → ℕ
name_place s i = cond (has_name s i) (name_start s i + 1) 0
