-- Whoever is chosen is charged, whatever comes below: a walk from a host changes the counts of later nodes only. Assumes nothing.
use Prim.Native.Nat.{ℕ, zero, suc, ◌≤◌, ◌<◌}
use mathlib.Core.Bool.{Bool, true, false, cond}
use mathlib.Core.List.{List}
use mathlib.Core.Path.{◌≡◌, refl, ◌∙◌}
use lib.ListN.{get_or}
use native.Mathlib.Nat.{le_refl}
use native.Mathlib.Omega.{arith}
use Rattle.plans.proofs.Parents.{host_earlier}
use Rattle.plans.specs.Sound.{Sound}
use Rattle.plans.specs.declared.Parent.{Parent}
use Rattle.plans.specs.declared.Parent.TheVariants.{Node as Under}
use Rattle.plans.specs.declared.Plan.{Plan}
use Rattle.dispatch.proofs.Choices.{choice_below, choice_under}
use Rattle.dispatch.proofs.Slots.{charge_same, charge_other}
use Rattle.dispatch.specs.View.{View, view_of}
use Rattle.dispatch.specs.Choice.{Pick, nobody, just, choose}
use Rattle.dispatch.specs.Slot.{WalkEnd, charge, follow, walk}
use Rattle.dispatch.specs.Promises.{TakenIsCharged}

module _ (v : View) (onward : Parent → List ℕ → WalkEnd) (left : List ℕ) (i : ℕ) where
  -- after a choice node j's count is as the choice's charge left it, where the walk below the chosen node keeps it
  pub follow_count : (j : ℕ) → get_or (onward (Under i) (charge left i)).left j 0 ≡ get_or (charge left i) j 0 →
      get_or (follow v onward left (just i)).left j 0 ≡ get_or (charge left i) j 0
  unfolding follow
  follow_count j keeps = go (v.leaf i)
    where
      go : (b : Bool) → get_or (cond b (record { grant = i; left = charge left i }) (onward (Under i) (charge left i))).left j 0 ≡ get_or (charge left i) j 0
      go true = refl
      go false = keeps

module _ (plan : Plan) (sound : Sound plan) (passed : ℕ → Bool) where
  -- a walk from a host keeps the host's own count and those of the nodes before it
  pub walk_later : (levels h j : ℕ) (left : List ℕ) → j ≤ h → get_or (walk (view_of plan) passed levels (Under h) left).left j 0 ≡ get_or left j 0
  unfolding walk follow
  walk_later zero h j left l = refl
  walk_later (suc levels) h j left l = go (choose (view_of plan) left passed (Under h)) refl (walk_later levels)
    where
      go : (w : Pick) → choose (view_of plan) left passed (Under h) ≡ w →
          ((k j : ℕ) (counts : List ℕ) → j ≤ k → get_or (walk (view_of plan) passed levels (Under k) counts).left j 0 ≡ get_or counts j 0) →
          get_or (follow (view_of plan) (walk (view_of plan) passed levels) left w).left j 0 ≡ get_or left j 0
      go nobody c below = refl
      go (just i) c below =
          let later : h < i =
          host_earlier plan sound i (choice_below (view_of plan) left passed (Under h) i c) h (choice_under (view_of plan) left passed (Under h) i c) in
          follow_count (view_of plan) (walk (view_of plan) passed levels) left i j (below i j (charge left i) (omega arith)) ∙
          charge_other left i j (λ e. omega arith)

-- whoever is chosen has one slot less after the walk, leaf or host, whether the slot ends in a grant or idle
pub taken_is_charged : TakenIsCharged
unfolding walk
taken_is_charged plan sound passed levels x left i e =
    rw e
    (follow_count (view_of plan) (walk (view_of plan) passed levels) left i i (walk_later plan sound passed levels i i (charge left i) (le_refl i)) ∙
    charge_same left i)
