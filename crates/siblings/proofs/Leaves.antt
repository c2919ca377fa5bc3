-- With the switch on nobody is chosen under a parent exactly where no leaf beneath it can take the slot. Assumes nothing.
use Prim.Native.Nat.{ℕ, zero, suc, ◌+◌, ◌≤◌, ◌<◌}
use mathlib.Core.Bool.{Bool, true, false, true≢false}
use mathlib.Core.List.{List}
use mathlib.Core.Logic.{◌⊎◌, inl, inr}
use mathlib.Core.Path.{◌≡◌, refl, sym, subst, ◌∙◌}
use lib.ListN.{get_or}
use native.Mathlib.Nat.{suc-add, add-suc}
use native.Mathlib.Omega.{arith}
use Rattle.plans.proofs.Cores.{beneath_host}
use Rattle.plans.proofs.Parents.{host_earlier, host_there, host_hosts}
use Rattle.plans.specs.Cores.{Beneath, child, deeper}
use Rattle.plans.specs.Plan.{There, parent_of}
use Rattle.plans.specs.Sound.{Sound}
use Rattle.plans.specs.declared.Parent.{Parent}
use Rattle.plans.specs.declared.Parent.TheVariants.{Node as Under}
use Rattle.plans.specs.declared.Plan.{Plan}
use Rattle.dispatch.proofs.Choices.{eligible_child, choice_none, choice_below, choice_under, choice_left, choice_willing}
use Rattle.dispatch.proofs.Passing.{is_nobody_lem, nobody_is, leaf_passed, host_fixed}
use Rattle.dispatch.proofs.SlotsDepth.{Stands, choice_stands, deepest_nobody}
use Rattle.dispatch.specs.View.{view_of, bit_of, is_leaf}
use Rattle.dispatch.specs.Choice.{Pick, nobody, just, choose}
use Rattle.dispatch.specs.Passed.{passed_over, levels_down}
use Rattle.dispatch.specs.declared.Setting.TheVariants.{On}
use Rattle.siblings.specs.Promises.{Cannot, declining, spent, under_spent, NoneCan}

module _ (plan : Plan) (sound : Sound plan) where
  -- what stands beneath a host is a later node
  pub beneath_later : {h i : ℕ} → Beneath plan (Under h) i → There plan i → h < i
  beneath_later {h = h} {i = i} (child is) l = host_earlier plan sound i l h is
  beneath_later {i = i} (deeper {h = g} is b) l =
      omega (arith, host_earlier plan sound i l g is, beneath_later b (host_there plan sound i l g is))

  -- between a parent and its child stands no host
  nothing_between : {x : Parent} {h j : ℕ} → There plan j → parent_of plan j ≡ x → Beneath plan x h → Beneath plan (Under h) j → ⊥
  nothing_between {h = h} {j = j} l up below (child is) =
      let self : Beneath plan (Under h) h = subst (λ y. Beneath plan y h) (sym up ∙ is) below in
      omega (arith, beneath_later self (host_there plan sound j l h is))
  nothing_between {h = h} {j = j} l up below (deeper {h = g} is b) =
      let there = host_there plan sound j l g is in
      let later = beneath_later b there in
      omega (arith, beneath_later (subst (λ y. Beneath plan y h) (sym up ∙ is) below) (omega arith))

  -- so a host beneath x with node i beneath it is the child of x above i, or stands beneath that child
  above_one : {x : Parent} {h j i : ℕ} → There plan j → parent_of plan j ≡ x → Beneath plan x h → Beneath plan (Under j) i → Beneath plan (Under h) i →
      (h ≡ j) ⊎ Beneath plan (Under j) h
  above_one l up below (child p) (child q) = inl cc
  above_one {h = h} {j = j} l up below (child p) (deeper {h = g} q b) =
      let here : g ≡ j = cc in
      absurd (nothing_between l up below (subst (Beneath plan (Under h)) here b))
  above_one {h = h} {j = j} l up below (deeper {h = g} p a) (child q) =
      let here : g ≡ h = cc in
      inr (subst (Beneath plan (Under j)) here a)
  above_one {h = h} l up below (deeper {h = g} p a) (deeper {h = f} q b) =
      let here : f ≡ g = cc in
      above_one l up below a (subst (Beneath plan (Under h)) here b)

  -- the host that a node stands under is no leaf
  pub host_no_leaf : (i h : ℕ) → There plan i → parent_of plan i ≡ Under h → is_leaf plan h ≡ false
  unfolding is_leaf
  host_no_leaf i h l up = rw (host_hosts plan sound i l h up)

module _ (plan : Plan) (sound : Sound plan) (full : List ℕ) (declines : ℕ) where
  abbrev passed : ℕ → Bool
  passed = passed_over On (view_of plan) full declines

  -- with the switch on a leaf is passed over where it declines,
  pub leaf_over : (i : ℕ) → is_leaf plan i ≡ true → passed i ≡ bit_of declines i
  unfolding passed_over
  leaf_over i leaf = leaf_passed (view_of plan) full declines (levels_down On) i leaf

  -- a host where nobody is chosen under it,
  pub over_nobody : (h : ℕ) → There plan h → is_leaf plan h ≡ false → passed h ≡ true → choose (view_of plan) full passed (Under h) ≡ nobody
  over_nobody h l host over = is_nobody_lem _ (sym (host_fixed plan sound full declines h l host) ∙ over)

  pub nobody_over : (h : ℕ) → There plan h → is_leaf plan h ≡ false → choose (view_of plan) full passed (Under h) ≡ nobody → passed h ≡ true
  nobody_over h l host none = host_fixed plan sound full declines h l host ∙ nobody_is _ none

  -- and not where somebody is
  pub some_under : (h : ℕ) → There plan h → is_leaf plan h ≡ false → passed h ≡ false → (j : ℕ) × (choose (view_of plan) full passed (Under h) ≡ just j)
  some_under h l host kept = go (choose (view_of plan) full passed (Under h)) refl
    where
      go : (w : Pick) → choose (view_of plan) full passed (Under h) ≡ w → (j : ℕ) × (choose (view_of plan) full passed (Under h) ≡ just j)
      go nobody e = absurd (true≢false (sym (nobody_over h l host e) ∙ kept))
      go (just j) e = (j, e)

  module _ {x : Parent} (none : choose (view_of plan) full passed x ≡ nobody) (i : ℕ) where
    -- Where nobody is chosen under x, going up from a node that would take the slot one meets a host with nothing left.
    climb : {j : ℕ} → Beneath plan x j → There plan j → passed j ≡ false → 0 < get_or full j 0 →
        ((h : ℕ) → parent_of plan j ≡ Under h → Beneath plan (Under h) i) → Cannot plan full declines x i
    climb {j = j} (child up) l kept some above =
        absurd (true≢false (sym (eligible_child (view_of plan) full passed x j up some kept) ∙ choice_none (view_of plan) full passed x none j l))
    climb {j = j} (deeper {h = h} up b) l kept some above = go (get_or full h 0) refl (climb b)
      where
        there : There plan h
        there = host_there plan sound j l h up

        willing : (p : Bool) → passed h ≡ p → p ≡ false
        willing false e = refl
        willing true e =
            absurd (true≢false
            (sym (eligible_child (view_of plan) full passed (Under h) j up some kept) ∙
            choice_none (view_of plan) full passed (Under h) (over_nobody h there (host_no_leaf plan sound j h l up) e) j l))

        go : (n : ℕ) → get_or full h 0 ≡ n →
            (There plan h → passed h ≡ false → 0 < get_or full h 0 → ((g : ℕ) → parent_of plan h ≡ Under g → Beneath plan (Under g) i) →
            Cannot plan full declines x i) → Cannot plan full declines x i
        go zero e further = under_spent h b (above h up) e
        go (suc n) e further = further there (willing (passed h) refl) (omega arith) (λ g is. beneath_host plan is (above h up))

    nobody_can : There plan i → is_leaf plan i ≡ true → Beneath plan x i → Cannot plan full declines x i
    nobody_can l leaf below = go (bit_of declines i) refl (get_or full i 0) refl
      where
        go : (b : Bool) → bit_of declines i ≡ b → (n : ℕ) → get_or full i 0 ≡ n → Cannot plan full declines x i
        go true d n e = declining d
        go false d zero e = spent e
        go false d (suc n) e = climb below l (leaf_over i leaf ∙ d) (omega arith) (λ h up. child up)

  -- a leaf beneath x that can take a slot of x
  record Can (x : Parent) (i : ℕ) : Type 0 where
    there : There plan i
    leaf : is_leaf plan i ≡ true
    below : Beneath plan x i
    willing : bit_of declines i ≡ false
    some : 0 < get_or full i 0
    above : (h : ℕ) → Beneath plan x h → Beneath plan (Under h) i → 0 < get_or full h 0

  can_not : {x : Parent} {i : ℕ} → Can x i → Cannot plan full declines x i → ⊥
  can_not c (declining d) = true≢false (sym d ∙ c.willing)
  can_not c (spent e) = omega (arith, c.some)
  can_not c (under_spent h b a e) = omega (arith, c.above h b a)

  -- where somebody is chosen under x, going down one meets a leaf that can take the slot
  descend : (levels : ℕ) {x : Parent} {e : ℕ} → Stands plan x e → 8 ≤ e + levels → (j : ℕ) → choose (view_of plan) full passed x ≡ just j → (i : ℕ) × Can x i
  descend zero {x = x} s l j c =
      absurd (let z : ◌≡◌ {A = ℕ} 0 1 = cc (deepest_nobody plan sound passed s (omega arith) full) in omega arith)
  descend (suc levels) {x = x} {e = e} s l j c =
      go (is_leaf plan j) refl (descend levels (choice_stands plan sound passed s full j c) (omega (arith, suc-add e levels, add-suc e levels)))
    where
      there : There plan j
      there = choice_below (view_of plan) full passed x j c

      up : parent_of plan j ≡ x
      up = choice_under (view_of plan) full passed x j c

      through : {i : ℕ} → Can (Under j) i → (h : ℕ) → (h ≡ j) ⊎ Beneath plan (Under j) h → Beneath plan (Under h) i → 0 < get_or full h 0
      through can h (inl is) a = rw is (choice_left (view_of plan) full passed x j c)
      through can h (inr b) a = can.above h b a

      go : (b : Bool) → is_leaf plan j ≡ b → ((k : ℕ) → choose (view_of plan) full passed (Under j) ≡ just k → (i : ℕ) × Can (Under j) i) → (i : ℕ) × Can x i
      go true leaf below = (
        j,
        record {
          there = there;
          leaf = leaf;
          below = child up;
          willing = sym (leaf_over j leaf) ∙ choice_willing (view_of plan) full passed x j c;
          some = choice_left (view_of plan) full passed x j c;
          above = λ h b a. absurd (nothing_between plan sound there up b a);
        },
      )
      go false host below =
          let (k, d) = some_under j there host (choice_willing (view_of plan) full passed x j c) in
          let (i, can) = below k d in (
            i,
            record {
              there = can.there;
              leaf = can.leaf;
              below = beneath_host plan up can.below;
              willing = can.willing;
              some = can.some;
              above = λ h b a. through can h (above_one plan sound there up b can.below a) a;
            },
          )

  -- nobody is chosen under x exactly where no leaf beneath it can take the slot
  pub nobody_none_can : {x : Parent} → choose (view_of plan) full passed x ≡ nobody → NoneCan plan full declines x
  nobody_none_can none i l leaf below = nobody_can none i l leaf below

  pub none_can_nobody : {x : Parent} {e : ℕ} → Stands plan x e → NoneCan plan full declines x → choose (view_of plan) full passed x ≡ nobody
  none_can_nobody {x = x} {e = e} s none = go (choose (view_of plan) full passed x) refl
    where
      go : (w : Pick) → choose (view_of plan) full passed x ≡ w → w ≡ nobody
      go nobody c = refl
      go (just j) c =
          let (i, can) = descend 8 s (omega arith) j c in
          absurd (can_not can (none i can.there can.leaf can.below))
