-- The types of a sound plan are well formed: their periods are no 0, and in m slots they come to at most m. Assumes nothing.
use Prim.Native.Nat.{ℕ, ◌*◌, ◌/◌, ◌≤◌, ◌<◌}
use mathlib.Core.Bool.{true}
use mathlib.Core.Path.{◌≡◌}
use mir.Facts.{Fits-le, Fits-widen}
use mir.Syntax.{w16, w64}
use mir.Val.{Fits}
use native.Mathlib.Nat.{le_trans, mul-div-le, mul-le-mul_right}
use native.Mathlib.Omega.{arith}
use Rattle.meaning.specs.Types.{well_formed}
use Rattle.meaning.specs.declared.SlotType.{SlotType}
use Rattle.meaning.proofs.WellFormed.{bounds}
use Rattle.plans.specs.Plan.{node_at, served_of, own_type}
use Rattle.plans.specs.Sound.{Sound, sound}
use Rattle.plans.specs.declared.Node.{Node}
use Rattle.plans.specs.declared.Parent.{Parent}
use Rattle.plans.specs.declared.Parent.TheVariants.{Supply, Node as Under}
use Rattle.plans.specs.declared.Plan.{Plan}
use Rattle.plans.proofs.Kept.{sound_kept}
use Rattle.plans.proofs.Parents.{supply_there, host_there}
use Rattle.rules.specs.Fit.{Child}

module _ (a : SlotType) (formed : well_formed a ≡ true) where
  -- a well-formed type's period is no 0
  pub formed_positive : 0 < a.t
  formed_positive = omega (arith, (bounds a formed).some)

  module _ (m : ℕ) where
    -- C·(m/T) is at most m
    pub in_slots_most : a.c * (m / a.t) ≤ m
    in_slots_most = le_trans (mul-le-mul_right (m / a.t) (bounds a formed).fits) (mul-div-le m a.t)

    -- so it does not wrap
    pub in_slots_fits : Fits w16 m → Fits w64 (a.c * (m / a.t))
    in_slots_fits h = Fits-le in_slots_most (Fits-widen tt h)

-- a node of a sound plan is served by a well-formed type
pub served_formed : (plan : Plan) (i : ℕ) (n : Node) → n ≡ node_at plan i → sound plan ≡ true → i < plan.size → well_formed n.served ≡ true
served_formed plan i n e kept l = rw e ((sound_kept plan kept).served i l)

-- so its period is no 0
pub served_positive : (plan : Plan) (i : ℕ) → sound plan ≡ true → i < plan.size → 0 < (served_of plan i).t
served_positive plan i kept l = formed_positive (served_of plan i) ((sound_kept plan kept).served i l)

-- and the own type of a parent that a node of a sound plan stands under is well formed
pub parent_formed : (plan : Plan) → Sound plan → (x : Parent) (i : ℕ) → Child plan x i → well_formed (own_type plan x) ≡ true
unfolding own_type
parent_formed plan sound (Supply s) i c = sound.supplies s (supply_there plan sound i c.there s c.under)
parent_formed plan sound (Under h) i c = sound.wanted h (host_there plan sound i c.there h c.under)
