-- The plan value that bytes spell, whether or not they are to be accepted: document 01, "The plan file", and document 02, request 6.
-- Assumes nothing.
use Rattle.std.specs.Prelude.{ℕ, zero, suc, ◌+◌, min, Bool, cond, List, eqb, ltb, set, replicate, Option, Some, None, is_some, unwrap_or}
use Rattle.fields.specs.Fields.{byte_at, four_at, type_at, misses_at}
use Rattle.meaning.specs.declared.Misses.{Misses}
use Rattle.meaning.specs.declared.SlotType.{SlotType}
use Rattle.plans.specs.Plan.{zero_type, zero_node, no_misses}
unfoldable pub use Rattle.plans.specs.Bytes.{kind_named, parent_of_byte}
use Rattle.plans.specs.declared.Parent.{Parent}
use Rattle.plans.specs.declared.Parent.TheVariants.{Supply, Node as Under}
use Rattle.plans.specs.declared.Node.{Node}
use Rattle.plans.specs.declared.Plan.{Plan}
use Rattle.decode.specs.Positions.{edition_of, cores_of, supply_start, size_of, node_start, served_at}

-- There are at most 8 supplies and 64 nodes, so that a byte of a plan file that would name another names nothing.
unfoldable pub can_be : Parent → Bool
can_be (Supply s) = ltb s 8
can_be (Under h) = ltb h 64

unfoldable pub parent_named : ℕ → Option Parent
parent_named b = cond (can_be (parent_of_byte b)) (Some (parent_of_byte b)) None

-- whether a parent byte names anything, and what: supply 0, the zero of a parent, where it names nothing
unfoldable pub is_named : Option Parent → Bool
is_named = is_some

unfoldable pub parent_or : Option Parent → Parent
parent_or x = unwrap_or x (Supply 0)

-- the misses whose D begins at k in edition 2, and 02: "An edition 1 node has D 0 and W 1"
unfoldable pub misses_or : List ℕ → ℕ → Misses
misses_or s k = cond (eqb (edition_of s) 2) (misses_at s k) no_misses

-- supply i and node i as the bytes have them
unfoldable pub supply_of : List ℕ → ℕ → SlotType
supply_of s i = type_at s (supply_start s i)

unfoldable pub node_of : List ℕ → ℕ → Node
node_of s i =
    let k = node_start s i in
    record {
      kind = kind_named (byte_at s k);
      parent = parent_or (parent_named (byte_at s (k + 1)));
      wanted = type_at s (k + 2);
      misses = misses_or s (k + 6);
      served = type_at s (served_at s i);
    }

-- xs with f 0, .., f (n − 1) in its first n places
unfoldable pub filled : {A : Type 0} → (ℕ → A) → List A → ℕ → List A
filled f xs zero = xs
filled f xs (suc n) = set (filled f xs n) n (f n)

-- the plan value; entries past the counts, and past the arrays, are left at zero
unfoldable pub plan_of : List ℕ → Plan
plan_of s =
    record {
      edition = edition_of s;
      tick = record { p = four_at s 1; q = four_at s 5 };
      cores = cores_of s;
      supplies = filled (supply_of s) (replicate 8 zero_type) (min (cores_of s) 8);
      size = size_of s;
      nodes = filled (node_of s) (replicate 64 zero_node) (min (size_of s) 64);
    }
