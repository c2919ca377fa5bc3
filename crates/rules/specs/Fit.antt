-- What it is for a plan value to fit: document 01, "Rules beyond the bytes", with document 02, requests 2 and 6, on top of soundness (2 to 7 and 19). Assumes
-- nothing.
use Rattle.std.specs.Prelude.{ℕ, ◌*◌, ◌/◌, ◌%◌, ◌≤◌, Bool, true, false, cond, ◌⊎◌, ◌≡◌, eqb}
use Rattle.meaning.specs.Soft.{StandsInSoft}
unfoldable pub use Rattle.meaning.specs.Sums.{sum_to, most_to}
use Rattle.meaning.specs.declared.SlotType.{SlotType}
use Rattle.meaning.specs.declared.Kind.TheVariants.{Aligned}
use Rattle.plans.specs.Plan.{There, node_at, parent_of, kind_of, wanted_of, misses_of, served_of, is_soft, wanted_as, own_type, is_child}
use Rattle.plans.specs.Sound.{Sound}
use Rattle.plans.specs.declared.NodeKind.TheVariants.{AlignedLeaf}
use Rattle.plans.specs.declared.Node.{Node}
use Rattle.plans.specs.declared.Parent.{Parent}
use Rattle.plans.specs.declared.Plan.{Plan}

-- a node's served period where it is a child of x, and 0 elsewhere
unfoldable pub child_period : Plan → Parent → ℕ → ℕ
child_period plan x i = cond (is_child plan x i) (served_of plan i).t 0

-- 01: "For each parent, M is the largest served period among its children"
unfoldable pub longest : Plan → Parent → ℕ
longest plan x = most_to (child_period plan x) plan.size

-- what a child asks for in M slots, C·(M/T), and 0 elsewhere
unfoldable pub load : Plan → Parent → ℕ → ℕ → ℕ
load plan x m i = cond (is_child plan x i) ((served_of plan i).c * (m / (served_of plan i).t)) 0

-- the sum over the children among the first k nodes
unfoldable pub load_to : Plan → Parent → ℕ → ℕ
load_to plan x k = sum_to (load plan x (longest plan x)) k

-- 02: "A parent with C = T, supply or host, gives all slots". It is whole by its own type.
unfoldable pub is_whole : SlotType → Bool
is_whole own = eqb own.c own.t

-- what a parent of type (C, T) owes in m slots: all of them where it is whole, and C·(m/T) otherwise
unfoldable pub owes : SlotType → ℕ → ℕ
owes own m = cond (is_whole own) m (own.c * (m / own.t))

-- the parent's side, what it owes in M slots; 02: "its side of rule 14 is M" where it is whole
unfoldable pub side : Plan → Parent → ℕ
side plan x = owes (own_type plan x) (longest plan x)

-- node i is there, and a child of x
pub record Child (plan : Plan) (x : Parent) (i : ℕ) : Type 0 where
  pub there : There plan i
  pub under : parent_of plan i ≡ x

-- 02: "a soft leaf must be aligned, and one of its served T and T' must divide the other": refusal 20
pub record SoftMade (node : Node) : Type 0 where
  pub aligned : node.kind ≡ AlignedLeaf
  pub divided : (node.served.t % node.wanted.t ≡ 0) ⊎ (node.wanted.t % node.served.t ≡ 0)

abbrev pub Rule20 : Plan → ℕ → Type 0
Rule20 plan i = is_soft plan i ≡ true → SoftMade (node_at plan i)

-- 01, rule 11: "a node's served type, aligned, stands in for its wanted type"; 02: with the misses that it allows. A node that allows none, with D = 0, is
-- hard: the crate `soft` promises (HardIsSoft) that this is then document 01's rule, whatever W is.
abbrev pub Rule11 : Plan → ℕ → Type 0
Rule11 plan i = StandsInSoft Aligned (served_of plan i) (wanted_as (kind_of plan i)) (wanted_of plan i) (misses_of plan i)

-- 01, rules 12 to 14; 02: "rule 12 does not apply to its children", where the parent is whole
abbrev pub Rule12 : Plan → Parent → ℕ → Type 0
Rule12 plan x i = is_whole (own_type plan x) ≡ false → (served_of plan i).t % (own_type plan x).t ≡ 0

abbrev pub Rule13 : Plan → ℕ → ℕ → Type 0
Rule13 plan i j = ((served_of plan i).t % (served_of plan j).t ≡ 0) ⊎ ((served_of plan j).t % (served_of plan i).t ≡ 0)

abbrev pub Rule14 : Plan → Parent → Type 0
Rule14 plan x = load_to plan x plan.size ≤ side plan x

-- a plan value that keeps 2 to 7, 11 to 14, 19 and 20
pub record Fit (plan : Plan) : Type 0 where
  pub sound : Sound plan
  pub rule20 : (i : ℕ) → There plan i → Rule20 plan i
  pub rule11 : (i : ℕ) → There plan i → Rule11 plan i
  pub rule12 : (x : Parent) (i : ℕ) → Child plan x i → Rule12 plan x i
  pub rule13 : (x : Parent) (i j : ℕ) → Child plan x i → Child plan x j → Rule13 plan i j
  pub rule14 : (x : Parent) → Rule14 plan x
