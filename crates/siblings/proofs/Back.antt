-- Going back literally, from counts that are whole beneath a parent, ends as the walk does that looks ahead: all that it tries in vain is passed over, and whom
-- it takes is the choice. Assumes nothing.
use Prim.Native.Nat.{ℕ, zero, suc, ◌+◌, ◌≤◌, ◌<◌}
use mathlib.Core.Bool.{Bool, true, false, true≢false}
use mathlib.Core.List.{List}
use mathlib.Core.Path.{◌≡◌, refl, sym, ap, ◌∙◌}
use native.Mathlib.Nat.{suc-add, add-suc}
use native.Mathlib.Omega.{arith}
use Rattle.plans.specs.Plan.{There, parent_of}
use Rattle.plans.specs.Sound.{Sound}
use Rattle.plans.specs.declared.Parent.{Parent}
use Rattle.plans.specs.declared.Parent.TheVariants.{Node as Under}
use Rattle.plans.specs.declared.Plan.{Plan}
use Rattle.dispatch.proofs.Choices.{choice_below, choice_under, choice_willing}
use Rattle.dispatch.proofs.SlotsDepth.{Stands, at_depth, child_depth, deepest_nobody}
use Rattle.dispatch.specs.View.{view_of, is_leaf}
use Rattle.dispatch.specs.Choice.{Pick, nobody, just, choose}
use Rattle.dispatch.specs.Passed.{passed_over}
use Rattle.dispatch.specs.Slot.{WalkEnd, idle, charge, follow, walk}
use Rattle.dispatch.specs.declared.Setting.TheVariants.{On}
use Rattle.siblings.proofs.Leaves.{leaf_over, over_nobody, nobody_over}
use Rattle.siblings.proofs.Wasted.{Whole, walk_on, whole_below, nobody_idle, idle_nobody}
use Rattle.siblings.proofs.Skipping.{Vain, none_vain, also_vain, untried, untried_less, kept_fresh, kept_leaf, skipped_nobody, skipped_choice}
use Rattle.siblings.specs.Back.{none, also, skipped, Ends, nobody_left, leaf_takes, host_takes, in_vain}

module _ (plan : Plan) (sound : Sound plan) (full : List ℕ) (declines : ℕ) where
  abbrev passed : ℕ → Bool
  passed = passed_over On (view_of plan) full declines

  -- how the walk from parent x ends
  abbrev ahead : Parent → List ℕ → WalkEnd
  ahead x left = walk (view_of plan) passed 8 x left

  module _ (tried : ℕ → Bool) (vain : Vain passed tried) {x : Parent} {e : ℕ} (s : Stands plan x e) (left : List ℕ) where
    abbrev skip : ℕ → Bool
    skip = skipped (view_of plan) declines tried

    -- where nobody is left to choose the walk is idle,
    ahead_nobody : choose (view_of plan) left skip x ≡ nobody → ahead x left ≡ record { grant = idle; left = left }
    unfolding follow
    ahead_nobody c =
        rw (walk_on plan sound passed s left, skipped_nobody (view_of plan) declines passed (leaf_over plan sound full declines) tried vain left x c)

    module _ (i : ℕ) (c : choose (view_of plan) left skip x ≡ just i) where
      -- where a leaf is chosen it ends there,
      ahead_leaf : is_leaf plan i ≡ true → ahead x left ≡ record { grant = i; left = charge left i }
      unfolding follow
      ahead_leaf leaf =
          let kept =
          kept_leaf (view_of plan) declines passed (leaf_over plan sound full declines) tried i leaf (choice_willing (view_of plan) left skip x i c) in
          rw (
            walk_on plan sound passed s left,
            skipped_choice (view_of plan) declines passed (leaf_over plan sound full declines) tried vain left x i c kept,
            leaf,
          )

      -- and where a host is chosen that is not passed over it goes on below
      ahead_host : is_leaf plan i ≡ false → passed i ≡ false → ahead x left ≡ ahead (Under i) (charge left i)
      unfolding follow
      ahead_host host kept =
          rw (
            walk_on plan sound passed s left,
            skipped_choice (view_of plan) declines passed (leaf_over plan sound full declines) tried vain left x i c kept,
            host,
          )

  module _ {x : Parent} {e : ℕ} (s : Stands plan x e) (left : List ℕ) (whole : Whole plan full x left) (h : ℕ) (l : There plan h) (up : parent_of plan h ≡ x)
      (host : is_leaf plan h ≡ false) where
    stands : Stands plan (Under h) (suc e)
    stands = at_depth (child_depth plan s h up)

    -- the walk below a host is idle exactly where the host is passed over
    over_idle : passed h ≡ true → (ahead (Under h) (charge left h)).grant ≡ idle
    over_idle over =
        nobody_idle plan sound full declines stands (charge left h) (whole_below plan sound full left whole h up) (over_nobody plan sound full declines h l host over)

    idle_over : (ahead (Under h) (charge left h)).grant ≡ idle → passed h ≡ true
    idle_over e =
        nobody_over plan sound full declines h l host
        (idle_nobody plan sound full declines stands (charge left h) (whole_below plan sound full left whole h up) e)

  -- going back ends as the walk does
  pub back_ahead : {tried : ℕ → Bool} {x : Parent} {left : List ℕ} {w : WalkEnd} → Ends (view_of plan) declines tried x left w → {e : ℕ} → Stands plan x e →
      Whole plan full x left → Vain passed tried → w ≡ ahead x left
  back_ahead {tried = tried} {left = left} (nobody_left c) s whole vain = sym (ahead_nobody tried vain s left c)
  back_ahead {tried = tried} {left = left} (leaf_takes {i = i} c leaf) s whole vain = sym (ahead_leaf tried vain s left i c leaf)
  back_ahead {tried = tried} {x = x} {left = left} (host_takes {h = h} {w = w} c host below granted) s whole vain =
      let l = choice_below (view_of plan) left (skipped (view_of plan) declines tried) x h c in
      let up = choice_under (view_of plan) left (skipped (view_of plan) declines tried) x h c in
      let is = back_ahead below (stands s left whole h l up host) (whole_below plan sound full left whole h up) (none_vain passed) in
      is ∙ sym (ahead_host tried vain s left h c host (go l up is (passed h) refl))
    where
      go : There plan h → parent_of plan h ≡ x → w ≡ ahead (Under h) (charge left h) → (b : Bool) → passed h ≡ b → b ≡ false
      go l up is true over = absurd (granted (ap (λ z. z.grant) is ∙ over_idle s left whole h l up host over))
      go l up is false kept = refl
  back_ahead {tried = tried} {x = x} {left = left} (in_vain {h = h} {w = w} c host below e rest) s whole vain =
      let l = choice_below (view_of plan) left (skipped (view_of plan) declines tried) x h c in
      let up = choice_under (view_of plan) left (skipped (view_of plan) declines tried) x h c in
      let is = back_ahead below (stands s left whole h l up host) (whole_below plan sound full left whole h up) (none_vain passed) in
      let over = idle_over s left whole h l up host (ap (λ z. z.grant) (sym is) ∙ e) in
      back_ahead rest s whole (also_vain passed tried h vain over)

  module _ {x : Parent} {e : ℕ} (s : Stands plan x e) (left : List ℕ) (whole : Whole plan full x left)
      (below : (h : ℕ) → parent_of plan h ≡ x → Ends (view_of plan) declines none (Under h) (charge left h) (ahead (Under h) (charge left h))) where
    -- it can go as the walk does, if it can below each host and with one host more tried
    one_tried : (tried : ℕ → Bool) → Vain passed tried →
        ((h : ℕ) → h < plan.size → tried h ≡ false → passed h ≡ true → Ends (view_of plan) declines (also tried h) x left (ahead x left)) →
        Ends (view_of plan) declines tried x left (ahead x left)
    one_tried tried vain rest = go (choose (view_of plan) left skip x) refl
      where
        skip : ℕ → Bool
        skip = skipped (view_of plan) declines tried

        at : (h : ℕ) → choose (view_of plan) left skip x ≡ just h → is_leaf plan h ≡ false → (b : Bool) → passed h ≡ b →
            Ends (view_of plan) declines tried x left (ahead x left)
        at h c host true over =
            let l = choice_below (view_of plan) left skip x h c in
            let up = choice_under (view_of plan) left skip x h c in
            let fresh = kept_fresh (view_of plan) declines passed (leaf_over plan sound full declines) tried h (choice_willing (view_of plan) left skip x h c) in
            in_vain c host (below h up) (over_idle s left whole h l up host over) (rest h l fresh over)
        at h c host false kept =
            let l = choice_below (view_of plan) left skip x h c in
            let up = choice_under (view_of plan) left skip x h c in
            rw (ahead_host tried vain s left h c host kept)
            (host_takes c host (below h up) (λ e. true≢false (sym (idle_over s left whole h l up host e) ∙ kept)))

        chosen : (i : ℕ) → choose (view_of plan) left skip x ≡ just i → (b : Bool) → is_leaf plan i ≡ b → Ends (view_of plan) declines tried x left (ahead x left)
        chosen i c true leaf = rw (ahead_leaf tried vain s left i c leaf) (leaf_takes c leaf)
        chosen i c false host = at i c host (passed i) refl

        go : (w : Pick) → choose (view_of plan) left skip x ≡ w → Ends (view_of plan) declines tried x left (ahead x left)
        go nobody c = rw (ahead_nobody tried vain s left c) (nobody_left c)
        go (just i) c = chosen i c (is_leaf plan i) refl

    -- so with any number of them
    some_tried : (m : ℕ) (tried : ℕ → Bool) → Vain passed tried → untried tried plan.size ≤ m → Ends (view_of plan) declines tried x left (ahead x left)
    some_tried zero tried vain few =
        one_tried tried vain (λ h l fresh over. absurd (omega (arith, untried_less tried h plan.size l fresh)))
    some_tried (suc m) tried vain few =
        one_tried tried vain
        (λ h l fresh over. some_tried m (also tried h) (also_vain passed tried h vain over) (omega (arith, untried_less tried h plan.size l fresh)))

  -- and it can end so
  pub ahead_back : (levels : ℕ) {x : Parent} {e : ℕ} → Stands plan x e → 8 ≤ e + levels → (left : List ℕ) → Whole plan full x left →
      Ends (view_of plan) declines none x left (ahead x left)
  ahead_back zero {x = x} s l left whole =
      let c = deepest_nobody plan sound (skipped (view_of plan) declines none) s (omega arith) left in
      rw (ahead_nobody none (none_vain passed) s left c) (nobody_left c)
  ahead_back (suc levels) {x = x} {e = e} s l left whole =
      some_tried s left whole
      (λ h up.
      ahead_back levels (at_depth (child_depth plan s h up)) (omega (arith, suc-add e levels, add-suc e levels)) (charge left h)
      (whole_below plan sound full left whole h up))
      (untried none plan.size) none (none_vain passed) (omega arith)
