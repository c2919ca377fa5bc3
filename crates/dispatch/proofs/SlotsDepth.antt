-- How deep the walk goes on a sound plan: a child stands one deeper than its parent, nobody is chosen under a host of depth 8, and so eight levels
-- are enough. Assumes nothing.
use Prim.Native.Nat.{ℕ, zero, suc, ◌+◌, ◌≤◌}
use mathlib.Core.Bool.{Bool}
use mathlib.Core.List.{List}
use mathlib.Core.Path.{◌≡◌, refl}
use native.Mathlib.Nat.{zero-add, suc-add, add-suc}
use native.Mathlib.Omega.{arith}
use Rattle.plans.specs.Plan.{parent_of}
use Rattle.plans.specs.Sound.{Depth, top, under, Sound}
use Rattle.plans.specs.declared.Parent.{Parent}
use Rattle.plans.specs.declared.Parent.TheVariants.{Supply, Node as Under}
use Rattle.plans.specs.declared.Plan.{Plan}
use Rattle.dispatch.proofs.Choices.{choice_below, choice_under}
use Rattle.dispatch.specs.View.{View, view_of}
use Rattle.dispatch.specs.Choice.{Pick, nobody, just, choose}
use Rattle.dispatch.specs.Slot.{WalkEnd, charge, follow, walk}

-- how deep a parent stands: a supply at 0, a host at its depth
pub data Stands (plan : Plan) : Parent → ℕ → Type 0 where
  at_top : {s : ℕ} → Stands plan (Supply s) 0
  at_depth : {h d : ℕ} → Depth plan h d → Stands plan (Under h) d

-- what follows a choice is alike where the walks below the chosen host are
pub follow_alike : (v : View) (f g : Parent → List ℕ → WalkEnd) (left : List ℕ) (w : Pick) →
    ((i : ℕ) → w ≡ just i → f (Under i) (charge left i) ≡ g (Under i) (charge left i)) → follow v f left w ≡ follow v g left w
unfolding follow
follow_alike v f g left nobody alike = refl
follow_alike v f g left (just i) alike = rw (alike i refl)

module _ (plan : Plan) where
  -- a child of a parent has a depth, one more than where the parent stands
  pub child_depth : {x : Parent} {e : ℕ} → Stands plan x e → (i : ℕ) → parent_of plan i ≡ x → Depth plan i (suc e)
  child_depth at_top i is = top is
  child_depth (at_depth h) i is = under is h

module _ (plan : Plan) (sound : Sound plan) (passed : ℕ → Bool) where
  -- a chosen host stands one deeper than its parent
  pub choice_stands : {x : Parent} {e : ℕ} → Stands plan x e → (left : List ℕ) (i : ℕ) → choose (view_of plan) left passed x ≡ just i →
      Stands plan (Under i) (suc e)
  choice_stands {x = x} s left i c = at_depth (child_depth plan s i (choice_under (view_of plan) left passed x i c))

  -- and at 8 at most, so under a parent that stands there nobody is chosen
  pub deepest_nobody : {x : Parent} {e : ℕ} → Stands plan x e → 8 ≤ e → (left : List ℕ) → choose (view_of plan) left passed x ≡ nobody
  deepest_nobody {x = x} {e = e} s l left = go (choose (view_of plan) left passed x) refl
    where
      go : (w : Pick) → choose (view_of plan) left passed x ≡ w → w ≡ nobody
      go nobody c = refl
      go (just i) c =
          let deep = child_depth plan s i (choice_under (view_of plan) left passed x i c) in
          absurd (omega (arith, sound.depths i (suc e) (choice_below (view_of plan) left passed x i c) deep))

  -- a walk with no level left ends as one that finds nobody
  walk_deepest : {x : Parent} {e : ℕ} → Stands plan x e → 8 ≤ e → (more : ℕ) (left : List ℕ) →
      walk (view_of plan) passed more x left ≡ walk (view_of plan) passed 0 x left
  unfolding walk follow
  walk_deepest s l zero left = refl
  walk_deepest s l (suc more) left = rw (deepest_nobody s l left)

  -- a walk that has a level for each depth below its parent gains nothing from more
  pub walk_enough : (levels more : ℕ) {x : Parent} {e : ℕ} → Stands plan x e → 8 ≤ e + levels → (left : List ℕ) →
      walk (view_of plan) passed (levels + more) x left ≡ walk (view_of plan) passed levels x left
  unfolding walk
  walk_enough zero more s l left = rw (zero-add more) (walk_deepest s (omega arith) more left)
  walk_enough (suc levels) more {x = x} {e = e} s l left =
      rw (suc-add levels more)
      (follow_alike (view_of plan) (walk (view_of plan) passed (levels + more)) (walk (view_of plan) passed levels) left (choose (view_of plan) left passed x)
      (λ i c. walk_enough levels more (choice_stands s left i c) (omega (arith, suc-add e levels, add-suc e levels)) (charge left i)))
