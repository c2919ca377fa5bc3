-- The plan value and how its entries are read: document 01, "The plan file", and document 02, request 6. What stands above reads a plan by these names alone. Assumes nothing.
use Rattle.std.specs.Prelude.{ℕ, ◌≤◌, ◌<◌, Bool, true, false, not, cond, ◌&&◌, ◌≡◌, ltb, eqb, length, get_or, replicate}
use Rattle.meaning.specs.declared.SlotType.{SlotType}
use Rattle.meaning.specs.declared.Misses.{Misses}
use Rattle.meaning.specs.declared.Kind.{Kind}
use Rattle.meaning.specs.declared.Kind.TheVariants.{Aligned, Sliding}
use Rattle.plans.specs.declared.NodeKind.{NodeKind}
use Rattle.plans.specs.declared.NodeKind.TheVariants.{AlignedLeaf, SlidingLeaf, Host}
use Rattle.plans.specs.declared.Parent.{Parent}
use Rattle.plans.specs.declared.Parent.TheVariants.{Supply, Node as Under}
use Rattle.plans.specs.declared.Node.{Node}
use Rattle.plans.specs.declared.Plan.{Plan}

-- 01: "unused entries of a plan value are zeros"; the zero of the kind is aligned leaf, that of the parent is supply 0
abbrev pub zero_type : SlotType
zero_type = record { c = 0; t = 0 }

abbrev pub zero_misses : Misses
zero_misses = record { d = 0; w = 0 }

abbrev pub zero_node : Node
zero_node = record { kind = AlignedLeaf; parent = Supply 0; wanted = zero_type; misses = zero_misses; served = zero_type }

unfoldable pub zero_plan : Plan
zero_plan =
    record {
      edition = 0;
      tick = record { p = 0; q = 0 };
      cores = 0;
      supplies = replicate 8 zero_type;
      size = 0;
      nodes = replicate 64 zero_node;
    }

-- node i and the type of supply i; zeros past the end
unfoldable pub node_at : Plan → ℕ → Node
node_at plan i = cond (ltb i 64) (get_or plan.nodes i zero_node) zero_node

unfoldable pub supply_at : Plan → ℕ → SlotType
supply_at plan i = cond (ltb i 8) (get_or plan.supplies i zero_type) zero_type

-- node i is there
abbrev pub There : Plan → ℕ → Type 0
There plan i = i < plan.size

-- what a node's entry says
abbrev pub parent_of : Plan → ℕ → Parent
parent_of plan i = (node_at plan i).parent

abbrev pub kind_of : Plan → ℕ → NodeKind
kind_of plan i = (node_at plan i).kind

abbrev pub wanted_of : Plan → ℕ → SlotType
wanted_of plan i = (node_at plan i).wanted

abbrev pub misses_of : Plan → ℕ → Misses
misses_of plan i = (node_at plan i).misses

abbrev pub served_of : Plan → ℕ → SlotType
served_of plan i = (node_at plan i).served

unfoldable pub hosting : NodeKind → Bool
hosting AlignedLeaf = false
hosting SlidingLeaf = false
hosting Host = true

unfoldable pub is_host : Plan → ℕ → Bool
is_host plan i = hosting (kind_of plan i)

-- 02: "Leaves with D = 0 and all hosts are treated as hard": a soft node is a leaf with D above 0
unfoldable pub is_soft : Plan → ℕ → Bool
is_soft plan i = not (is_host plan i) && ltb 0 (misses_of plan i).d

-- 02: "An edition 1 node has D 0 and W 1"
abbrev pub no_misses : Misses
no_misses = record { d = 0; w = 1 }

-- 01: "kind (0 aligned leaf, 1 sliding leaf, 2 virtual host)"; "A host's wanted type is aligned"
unfoldable pub wanted_as : NodeKind → Kind
wanted_as AlignedLeaf = Aligned
wanted_as SlidingLeaf = Sliding
wanted_as Host = Aligned

-- 01: "A parent's own type is the supply's type, or a host's wanted type"
unfoldable pub own_type : Plan → Parent → SlotType
own_type plan (Supply s) = supply_at plan s
own_type plan (Under h) = wanted_of plan h

-- whether two parents are the same one
unfoldable pub same : Parent → Parent → Bool
same (Supply a) (Supply b) = eqb a b
same (Supply a) (Under b) = false
same (Under a) (Supply b) = false
same (Under a) (Under b) = eqb a b

-- whether node i is a child of parent x
unfoldable pub is_child : Plan → Parent → ℕ → Bool
is_child plan x i = same (parent_of plan i) x

-- 01: "unused entries of a plan value are zeros": the arrays are whole, and past the counts they hold zeros
pub record Tidy (plan : Plan) : Type 0 where
  pub supplies_whole : length plan.supplies ≡ 8
  pub nodes_whole : length plan.nodes ≡ 64
  pub supplies_zero : (i : ℕ) → plan.cores ≤ i → i < 8 → supply_at plan i ≡ zero_type
  pub nodes_zero : (i : ℕ) → plan.size ≤ i → i < 64 → node_at plan i ≡ zero_node
