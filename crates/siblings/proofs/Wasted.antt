-- With the switch on a walk ends idle exactly where nobody is chosen under its parent by the counts at the slot's start: whoever is chosen is not passed over, so
-- somebody takes the slot below. Assumes nothing.
use Prim.Native.Nat.{ℕ, zero, suc, ◌+◌, ◌≤◌}
use mathlib.Core.Bool.{Bool, true, false, cond}
use mathlib.Core.List.{List}
use mathlib.Core.Path.{◌≡◌, refl, sym, ◌∙◌}
use lib.ListN.{get_or}
use native.Mathlib.Nat.{suc-add, add-suc}
use native.Mathlib.Omega.{arith}
use Rattle.plans.proofs.Cores.{beneath_host}
use Rattle.plans.specs.Cores.{Beneath, child}
use Rattle.plans.specs.Plan.{There, parent_of}
use Rattle.plans.specs.Sound.{Sound}
use Rattle.plans.specs.declared.Parent.{Parent}
use Rattle.plans.specs.declared.Parent.TheVariants.{Node as Under}
use Rattle.plans.specs.declared.Plan.{Plan}
use Rattle.dispatch.proofs.Choices.{choice_below, choice_under, choice_willing, choice_local}
use Rattle.dispatch.proofs.Slots.{charge_other}
use Rattle.dispatch.proofs.SlotsDepth.{Stands, choice_stands, deepest_nobody, walk_enough}
use Rattle.dispatch.specs.View.{view_of, is_leaf}
use Rattle.dispatch.specs.Choice.{Pick, nobody, just, choose}
use Rattle.dispatch.specs.Passed.{passed_over}
use Rattle.dispatch.specs.Slot.{idle, charge, follow, walk}
use Rattle.dispatch.specs.declared.Setting.TheVariants.{On}
use Rattle.siblings.proofs.Leaves.{beneath_later, some_under}

-- the counts in hand are those at the slot's start for all that stands beneath x
abbrev pub Whole : Plan → List ℕ → Parent → List ℕ → Type 0
Whole plan full x now = (i : ℕ) → There plan i → Beneath plan x i → get_or now i 0 ≡ get_or full i 0

module _ (plan : Plan) (sound : Sound plan) where
  -- a walk of eight levels goes on below a host by eight levels
  pub walk_on : (passed : ℕ → Bool) {x : Parent} {e : ℕ} → Stands plan x e → (now : List ℕ) →
      walk (view_of plan) passed 8 x now ≡ follow (view_of plan) (walk (view_of plan) passed 8) now (choose (view_of plan) now passed x)
  unfolding walk
  walk_on passed s now = sym (walk_enough plan sound passed 8 1 s (omega arith) now)

  module _ (full : List ℕ) where
    -- a charged child leaves all beneath it as it was
    pub whole_below : {x : Parent} (now : List ℕ) → Whole plan full x now → (h : ℕ) → parent_of plan h ≡ x → Whole plan full (Under h) (charge now h)
    whole_below now whole h up i l b =
        charge_other now h i (λ e. omega (arith, beneath_later plan sound b l)) ∙ whole i l (beneath_host plan up b)

    -- so choices under x are those at the slot's start
    pub whole_choice : (passed : ℕ → Bool) {x : Parent} (now : List ℕ) → Whole plan full x now → choose (view_of plan) now passed x ≡ choose (view_of plan) full passed x
    whole_choice passed {x = x} now whole = choice_local (view_of plan) now full passed x (λ i l up. whole i l (child up))

  module _ (full : List ℕ) (declines : ℕ) where
    abbrev passed : ℕ → Bool
    passed = passed_over On (view_of plan) full declines

    -- a walk that finds nobody is idle
    pub nobody_idle : {x : Parent} {e : ℕ} → Stands plan x e → (now : List ℕ) → Whole plan full x now → choose (view_of plan) full passed x ≡ nobody →
        (walk (view_of plan) passed 8 x now).grant ≡ idle
    unfolding follow
    nobody_idle s now whole none = rw (walk_on passed s now, whole_choice full passed now whole, none)

    -- and one that finds somebody is not
    somebody_granted : (levels : ℕ) {x : Parent} {e : ℕ} → Stands plan x e → 8 ≤ e + levels → (now : List ℕ) → Whole plan full x now → (i : ℕ) →
        choose (view_of plan) full passed x ≡ just i → (walk (view_of plan) passed 8 x now).grant ≡ idle → ⊥
    unfolding follow
    somebody_granted zero s l now whole i c =
        let z : ◌≡◌ {A = ℕ} 0 1 = cc (deepest_nobody plan sound passed s (omega arith) full) in
        absurd (omega arith)
    somebody_granted (suc levels) {x = x} {e = d} s l now whole i c =
        rw (walk_on passed s now, whole_choice full passed now whole, c)
        (go (is_leaf plan i) refl
        (somebody_granted levels (choice_stands plan sound passed s full i c) (omega (arith, suc-add d levels, add-suc d levels)) (charge now i)
        (whole_below full now whole i (choice_under (view_of plan) full passed x i c))))
      where
        there : There plan i
        there = choice_below (view_of plan) full passed x i c

        go : (b : Bool) → is_leaf plan i ≡ b →
            ((j : ℕ) → choose (view_of plan) full passed (Under i) ≡ just j → (walk (view_of plan) passed 8 (Under i) (charge now i)).grant ≡ idle → ⊥) →
            (cond b (record { grant = i; left = charge now i }) (walk (view_of plan) passed 8 (Under i) (charge now i))).grant ≡ idle → ⊥
        go true leaf below e = omega (arith, there, sound.sixty_four_nodes)
        go false host below e =
            let (j, d) = some_under plan sound full declines i there host (choice_willing (view_of plan) full passed x i c) in
            below j d e

    pub idle_nobody : {x : Parent} {e : ℕ} → Stands plan x e → (now : List ℕ) → Whole plan full x now → (walk (view_of plan) passed 8 x now).grant ≡ idle →
        choose (view_of plan) full passed x ≡ nobody
    idle_nobody {x = x} s now whole e = go (choose (view_of plan) full passed x) refl
      where
        go : (w : Pick) → choose (view_of plan) full passed x ≡ w → w ≡ nobody
        go nobody c = refl
        go (just i) c = absurd (somebody_granted 8 s (omega arith) now whole i c e)
