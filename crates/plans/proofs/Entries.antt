-- How the entries of a plan value are read by the arrays' elements; hosts, and when two parents are the same. Assumes nothing.
use Prim.Native.Nat.{ℕ, ◌<◌}
use mathlib.Core.Bool.{true}
use mathlib.Core.Path.{◌≡◌, refl, ap}
use lib.ListN.{get_or}
use borrow.Author.Tests.{lt-ltb, eq-eqb, eqb-true}
use Rattle.plans.specs.Plan.{zero_type, zero_node, node_at, supply_at, parent_of, hosting, same, is_child}
use Rattle.plans.specs.declared.NodeKind.{NodeKind}
use Rattle.plans.specs.declared.NodeKind.TheVariants.{AlignedLeaf, SlidingLeaf, Host}
use Rattle.plans.specs.declared.Parent.{Parent}
use Rattle.plans.specs.declared.Parent.TheVariants.{Supply, Node as Under}
use Rattle.plans.specs.declared.Plan.{Plan}

module _ (plan : Plan) (i : ℕ) where
  -- node i is the array's element
  pub node_at_element : i < 64 → get_or plan.nodes i zero_node ≡ node_at plan i
  unfolding node_at
  node_at_element h = rw (lt-ltb i 64 h)

  -- the type of supply i is the array's element
  pub supply_at_element : i < 8 → get_or plan.supplies i zero_type ≡ supply_at plan i
  unfolding supply_at
  supply_at_element h = rw (lt-ltb i 8 h)

-- only a host hosts
pub host_hosting : (k : NodeKind) → hosting k ≡ true → k ≡ Host
unfolding hosting
host_hosting AlignedLeaf e = cc
host_hosting SlidingLeaf e = cc
host_hosting Host e = refl

-- a parent is the same as itself
pub same_self : (a b : Parent) → a ≡ b → same a b ≡ true
unfolding same
same_self a (Supply s) e = rw (e, eq-eqb s s refl)
same_self a (Under h) e = rw (e, eq-eqb h h refl)

-- and as no other
pub same_equal : (a b : Parent) → same a b ≡ true → a ≡ b
unfolding same
same_equal (Supply s) (Supply z) e = ap Supply (eqb-true s z e)
same_equal (Supply s) (Under z) e = cc
same_equal (Under s) (Supply z) e = cc
same_equal (Under h) (Under z) e = ap Under (eqb-true h z e)

-- a node is a child of its parent
pub child_of_parent : (plan : Plan) (x : Parent) (i : ℕ) → parent_of plan i ≡ x → is_child plan x i ≡ true
unfolding is_child
child_of_parent plan x i e = same_self (parent_of plan i) x e

-- and of no other
pub parent_of_child : (plan : Plan) (x : Parent) (i : ℕ) → is_child plan x i ≡ true → parent_of plan i ≡ x
unfolding is_child
parent_of_child plan x i e = same_equal (parent_of plan i) x e
