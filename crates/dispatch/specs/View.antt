-- What giving out slots needs to know of a plan, as functions of a node's number, and the two kinds of input bits. Assumes nothing.
use Rattle.std.specs.Prelude.{ℕ, ◌/◌, ◌%◌, ◌^◌, Bool, not, eqb}
use Rattle.plans.specs.Plan.{parent_of, served_of, is_host}
use Rattle.plans.specs.declared.Parent.{Parent}
use Rattle.plans.specs.declared.Plan.{Plan}

-- the nodes' number, and each node's parent, whether it is a leaf, and its served C and T
pub record View : Type 0 where
  pub size : ℕ
  pub parent : ℕ → Parent
  pub leaf : ℕ → Bool
  pub c : ℕ → ℕ
  pub t : ℕ → ℕ

unfoldable pub is_leaf : Plan → ℕ → Bool
is_leaf plan i = not (is_host plan i)

unfoldable pub served_c : Plan → ℕ → ℕ
served_c plan i = (served_of plan i).c

unfoldable pub served_t : Plan → ℕ → ℕ
served_t plan i = (served_of plan i).t

abbrev pub view_of : Plan → View
view_of plan =
    record { size = plan.size; parent = λ i. parent_of plan i; leaf = is_leaf plan; c = served_c plan; t = served_t plan }

-- 01: "a byte of supplied cores (bit i for supply i) and a 64-bit word in which bit i set means that leaf i declines this slot"
unfoldable pub bit_of : ℕ → ℕ → Bool
bit_of w i = eqb (w / 2 ^ i % 2) 1
