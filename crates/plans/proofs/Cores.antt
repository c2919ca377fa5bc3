-- A node of a sound plan is on one core, the one that is met going up. Assumes nothing.
use Prim.Native.Nat.{ℕ, zero, suc, ◌≤◌, ◌<◌}
use mathlib.Core.Path.{◌≡◌, subst}
use native.Mathlib.Omega.{arith}
use Rattle.plans.proofs.Depth.{depth_positive}
use Rattle.plans.proofs.Parents.{node_depth, supply_there, host_there}
use Rattle.plans.specs.Plan.{parent_of}
use Rattle.plans.specs.Sound.{Depth, top, under, Sound}
use Rattle.plans.specs.Cores.{Beneath, child, deeper, OnCore, upward, core_to, core_of}
use Rattle.plans.specs.Promises.{CoreExactly}
use Rattle.plans.specs.declared.Parent.{Parent}
use Rattle.plans.specs.declared.Parent.TheVariants.{Node as Under}
use Rattle.plans.specs.declared.Plan.{Plan}

module _ (plan : Plan) where
  -- what stands beneath a host stands beneath the host's parent
  pub beneath_host : {x : Parent} {h i : ℕ} → parent_of plan h ≡ x → Beneath plan (Under h) i → Beneath plan x i
  beneath_host up (child is) = deeper is (child up)
  beneath_host up (deeper is b) = deeper is (beneath_host up b)

  -- the supply that is met in as many steps as the node is deep is one that it is on
  core_met : (k : ℕ) {i d : ℕ} → Depth plan i d → d ≤ k → OnCore plan i (core_to plan k i)
  unfolding core_to upward
  core_met zero a l = absurd (omega (arith, depth_positive plan a))
  core_met (suc k) (top up) l = rw up (child up)
  core_met (suc k) (under up a) l = rw up (deeper up (core_met k a (omega arith)))

  -- a node is on one core only
  pub one_core : {s i z : ℕ} → OnCore plan i s → OnCore plan i z → s ≡ z
  one_core (child p) (child q) = cc
  one_core (child p) (deeper q b) = cc
  one_core (deeper p a) (child q) = cc
  one_core {z = z} (deeper {h = h} p a) (deeper {h = h'} q b) =
      let here : h' ≡ h = cc in
      one_core a (subst (λ x. OnCore plan x z) here b)

  -- and in a sound plan that core is there
  core_there : Sound plan → {s i : ℕ} → i < plan.size → OnCore plan i s → s < plan.cores
  core_there sound {i = i} l (child up) = supply_there plan sound i l _ up
  core_there sound {i = i} l (deeper up b) = core_there sound (host_there plan sound i l _ up) b

-- a node of a sound plan is on its own core, and on no other
pub core_exactly : CoreExactly
unfolding core_of
core_exactly plan sound i l =
    let found = node_depth plan sound i l in
    let on = core_met plan 8 found.is found.most in
    record { on = on; there = core_there plan sound l on; no_other = λ s a. one_core plan a on }
