-- The core that a node is on: document 01, "Giving out slots", "At a host the same choice is made among its children". Assumes nothing.
use Rattle.std.specs.Prelude.{ℕ, zero, suc, ◌≡◌}
use Rattle.plans.specs.Plan.{parent_of}
use Rattle.plans.specs.declared.Parent.{Parent}
use Rattle.plans.specs.declared.Parent.TheVariants.{Supply, Node as Under}
use Rattle.plans.specs.declared.Plan.{Plan}

-- node i stands beneath parent x: it is its child, or its host stands beneath x
pub data Beneath (plan : Plan) (x : Parent) : ℕ → Type 0 where
  child : {i : ℕ} → parent_of plan i ≡ x → Beneath plan x i
  deeper : {i h : ℕ} → parent_of plan i ≡ Under h → Beneath plan x h → Beneath plan x i

-- node i is on core s: it stands beneath supply s
abbrev pub OnCore : Plan → ℕ → ℕ → Type 0
OnCore plan i s = Beneath plan (Supply s) i

-- the supply that is met going up from a parent, where `further` goes on from a host
unfoldable pub upward : (ℕ → ℕ) → Parent → ℕ
upward further (Supply s) = s
upward further (Under h) = further h

-- the supply that is met within so many steps up from node i, or 0
unfoldable pub core_to : Plan → ℕ → ℕ → ℕ
core_to plan zero i = 0
core_to plan (suc k) i = upward (core_to plan k) (parent_of plan i)

-- node i's own core
unfoldable pub core_of : Plan → ℕ → ℕ
core_of plan i = core_to plan 8 i
