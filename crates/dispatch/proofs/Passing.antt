-- Laws of who is passed over: what so many levels say of leaves and of hosts, that one level more passes over no fewer, that nobody takes the slot under a host
-- which is passed over, and that eight levels are enough on a sound plan. Assumes nothing.
use Prim.Native.Nat.{ℕ, zero, suc, ◌+◌, ◌≤◌, ◌<◌}
use mathlib.Core.Bool.{Bool, true, false, true≢false}
use mathlib.Core.List.{List}
use mathlib.Core.Path.{◌≡◌, refl, sym, ap, ◌∙◌}
use lib.ListN.{get_or}
use native.Mathlib.Omega.{arith}
use Rattle.plans.proofs.Depth.{depth_positive}
use Rattle.plans.proofs.Parents.{node_depth}
use Rattle.plans.specs.Sound.{Depth, under, Sound}
use Rattle.plans.specs.declared.Parent.{Parent}
use Rattle.plans.specs.declared.Parent.TheVariants.{Node as Under}
use Rattle.plans.specs.declared.Plan.{Plan}
use Rattle.dispatch.proofs.Choices.{eligible_child, eligible_under, eligible_left, eligible_willing, choice_none, none_choice, choice_same}
use Rattle.dispatch.specs.View.{View, view_of, bit_of, is_leaf}
use Rattle.dispatch.specs.Choice.{Pick, nobody, just, eligible, choose}
use Rattle.dispatch.specs.Passed.{is_nobody, passed_to, passed_over}
use Rattle.dispatch.specs.declared.Setting.TheVariants.{On}

-- a test that holds exactly of nobody
pub is_nobody_lem : (w : Pick) → is_nobody w ≡ true → w ≡ nobody
unfolding is_nobody
is_nobody_lem nobody e = refl
is_nobody_lem (just i) e = absurd (true≢false (sym e))

pub nobody_is : (w : Pick) → w ≡ nobody → is_nobody w ≡ true
unfolding is_nobody
nobody_is w e = rw e

-- where nobody may be taken, nobody may where more are passed over
pub fewer_nobody : (v : View) (left : List ℕ) (passed more : ℕ → Bool) (x : Parent) → ((j : ℕ) → passed j ≡ true → more j ≡ true) →
    choose v left passed x ≡ nobody → choose v left more x ≡ nobody
fewer_nobody v left passed more x over none = none_choice v left more x (λ j l. go j l (eligible v left more x j) refl (passed j) refl)
  where
    go : (j : ℕ) → j < v.size → (b : Bool) → eligible v left more x j ≡ b → (p : Bool) → passed j ≡ p → b ≡ false
    go j l false e p h = refl
    go j l true e true h = sym (over j h) ∙ eligible_willing v left more x j e
    go j l true e false h =
        sym (eligible_child v left passed x j (eligible_under v left more x j e) (eligible_left v left more x j e) h) ∙ choice_none v left passed x none j l

module _ (v : View) (left : List ℕ) (declines : ℕ) where
  -- a leaf is passed over exactly where it declines,
  pub leaf_passed : (k i : ℕ) → v.leaf i ≡ true → passed_to v left declines k i ≡ bit_of declines i
  unfolding passed_to
  leaf_passed zero i e = rw e
  leaf_passed (suc k) i e = rw e

  -- a host never, looking no level down,
  pub host_kept : (i : ℕ) → v.leaf i ≡ false → passed_to v left declines 0 i ≡ false
  unfolding passed_to
  host_kept i e = rw e

  -- and looking one level more where nobody is chosen under it
  pub host_passed : (k i : ℕ) → v.leaf i ≡ false → passed_to v left declines (suc k) i ≡ is_nobody (choose v left (passed_to v left declines k) (Under i))
  unfolding passed_to
  host_passed k i e = rw e

  -- one level more passes over no fewer
  pub more_passed : (k i : ℕ) → passed_to v left declines k i ≡ true → passed_to v left declines (suc k) i ≡ true
  more_passed zero i h = go (v.leaf i) refl
    where
      go : (b : Bool) → v.leaf i ≡ b → passed_to v left declines 1 i ≡ true
      go true e = leaf_passed 1 i e ∙ sym (leaf_passed 0 i e) ∙ h
      go false e = absurd (true≢false (sym h ∙ host_kept i e))
  more_passed (suc k) i h = go (v.leaf i) refl (more_passed k)
    where
      go : (b : Bool) → v.leaf i ≡ b → ((j : ℕ) → passed_to v left declines k j ≡ true → passed_to v left declines (suc k) j ≡ true) →
          passed_to v left declines (suc (suc k)) i ≡ true
      go true e before = leaf_passed (suc (suc k)) i e ∙ sym (leaf_passed (suc k) i e) ∙ h
      go false e before =
          host_passed (suc k) i e ∙
          nobody_is _
          (fewer_nobody v left (passed_to v left declines k) (passed_to v left declines (suc k)) (Under i) before
          (is_nobody_lem _ (sym (host_passed k i e) ∙ h)))

  -- each child with slots left of a host that is passed over is passed over too
  pub passed_below : (k h i : ℕ) → v.leaf h ≡ false → passed_to v left declines k h ≡ true → i < v.size → v.parent i ≡ Under h → 0 < get_or left i 0 →
      passed_to v left declines k i ≡ true
  passed_below zero h i host over l up some = absurd (true≢false (sym over ∙ host_kept h host))
  passed_below (suc k) h i host over l up some = more_passed k i (go (passed_to v left declines k i) refl)
    where
      go : (b : Bool) → passed_to v left declines k i ≡ b → b ≡ true
      go true e = refl
      go false e =
          absurd (true≢false
          (sym (eligible_child v left (passed_to v left declines k) (Under h) i up some e) ∙
          choice_none v left (passed_to v left declines k) (Under h) (is_nobody_lem _ (sym (host_passed k h host) ∙ over)) i l))

module _ (plan : Plan) (sound : Sound plan) (left : List ℕ) (declines : ℕ) where
  -- a node that has a level for itself and for each depth below it gains nothing from more
  passed_enough : (k i d : ℕ) → i < plan.size → Depth plan i d → 9 ≤ d + k →
      passed_to (view_of plan) left declines k i ≡ passed_to (view_of plan) left declines (suc k) i
  passed_enough zero i d l deep enough = absurd (omega (arith, sound.depths i d l deep))
  passed_enough (suc k) i d l deep enough = go (is_leaf plan i) refl (passed_enough k)
    where
      go : (b : Bool) → is_leaf plan i ≡ b →
          ((j e : ℕ) → j < plan.size → Depth plan j e → 9 ≤ e + k → passed_to (view_of plan) left declines k j ≡ passed_to (view_of plan) left declines (suc k) j) →
          passed_to (view_of plan) left declines (suc k) i ≡ passed_to (view_of plan) left declines (suc (suc k)) i
      go true leaf before = leaf_passed (view_of plan) left declines (suc k) i leaf ∙ sym (leaf_passed (view_of plan) left declines (suc (suc k)) i leaf)
      go false host before =
          host_passed (view_of plan) left declines k i host ∙
          ap is_nobody
          (choice_same (view_of plan) left left (passed_to (view_of plan) left declines k) (passed_to (view_of plan) left declines (suc k)) (Under i) (λ j m up. refl)
          (λ j m up. before j (suc d) m (under up deep) (omega arith))) ∙
          sym (host_passed (view_of plan) left declines (suc k) i host)

  -- so with the switch on a host is passed over exactly where nobody is chosen under it
  pub host_fixed : (i : ℕ) → i < plan.size → is_leaf plan i ≡ false →
      passed_over On (view_of plan) left declines i ≡ is_nobody (choose (view_of plan) left (passed_over On (view_of plan) left declines) (Under i))
  unfolding passed_over
  host_fixed i l host =
      let found = node_depth plan sound i l in
      host_passed (view_of plan) left declines 7 i host ∙
      ap is_nobody
      (choice_same (view_of plan) left left (passed_to (view_of plan) left declines 7) (passed_to (view_of plan) left declines 8) (Under i) (λ j m up. refl)
      (λ j m up. passed_enough 7 j (suc found.depth) m (under up found.is) (omega (arith, depth_positive plan found.is))))
