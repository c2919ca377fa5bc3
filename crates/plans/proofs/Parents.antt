-- Allowed parents: the test and the sentence agree, and what holds of a node of a sound plan, by its parent. Assumes nothing.
use Prim.Native.Nat.{ℕ, ◌<◌}
use mathlib.Core.Bool.{true}
use mathlib.Core.Path.{◌≡◌}
use lib.Dec.{ltb}
use borrow.Author.Tests.{lt-ltb, ltb-true}
use native.Mathlib.Omega.{arith}
use Rattle.plans.proofs.All.{left_true, right_true}
use Rattle.plans.proofs.Depth.{DepthUpTo, has_depth}
use Rattle.plans.specs.Plan.{parent_of, is_host}
use Rattle.plans.specs.Sound.{Allowed, supply, host, Sound, allows}
use Rattle.plans.specs.declared.Parent.{Parent}
use Rattle.plans.specs.declared.Parent.TheVariants.{Supply, Node as Under}
use Rattle.plans.specs.declared.Plan.{Plan}

module _ (plan : Plan) (i : ℕ) where
  -- a parent that the test allows is allowed
  pub allows_allowed : (p : Parent) → allows plan i p ≡ true → Allowed plan i p
  unfolding allows
  allows_allowed (Supply s) e = supply (ltb-true s plan.cores e)
  allows_allowed (Under h) e = host (ltb-true h i (left_true (ltb h i) (is_host plan h) e)) (right_true (ltb h i) (is_host plan h) e)

  -- and the test allows what is allowed
  pub allowed_allows : {p : Parent} → Allowed plan i p → allows plan i p ≡ true
  unfolding allows
  allowed_allows (supply {s = s} l) = lt-ltb s plan.cores l
  allowed_allows (host {h = h} l e) = rw (lt-ltb h i l, e)

  -- an allowed supply is there
  pub allowed_supply : {s : ℕ} → Allowed plan i (Supply s) → s < plan.cores
  allowed_supply (supply l) = l

  -- an allowed host is an earlier node
  pub allowed_earlier : {h : ℕ} → Allowed plan i (Under h) → h < i
  allowed_earlier (host l e) = l

  -- and a virtual host
  pub allowed_host : {h : ℕ} → Allowed plan i (Under h) → is_host plan h ≡ true
  allowed_host (host l e) = e

module _ (plan : Plan) (sound : Sound plan) (i : ℕ) (below : i < plan.size) where
  -- node i has a place in the array
  pub node_below : i < 64
  node_below = omega (arith, sound.sixty_four_nodes)

  -- a node of a sound plan has a depth, of at most eight
  pub node_depth : DepthUpTo plan 8 i
  node_depth =
      let (d, h) = has_depth plan plan.size sound.parents i below in
      record { depth = d; most = sound.depths i d below h; is = h }

  -- the supply that a node of a sound plan stands under is there
  pub supply_there : (s : ℕ) → parent_of plan i ≡ Supply s → s < plan.cores
  supply_there s e = allowed_supply plan i (rw e at (sound.parents i below))

  -- the host that a node of a sound plan stands under is an earlier node
  pub host_earlier : (h : ℕ) → parent_of plan i ≡ Under h → h < i
  host_earlier h e = allowed_earlier plan i (rw e at (sound.parents i below))

  -- so one of the plan's nodes
  pub host_there : (h : ℕ) → parent_of plan i ≡ Under h → h < plan.size
  host_there h e = omega (arith, host_earlier h e)

  -- and a virtual host
  pub host_hosts : (h : ℕ) → parent_of plan i ≡ Under h → is_host plan h ≡ true
  host_hosts h e = allowed_host plan i (rw e at (sound.parents i below))
