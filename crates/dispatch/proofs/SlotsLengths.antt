-- How many counts and answers there are after each part of a slot, and that the answers past the last core stay 255. Assumes nothing.
use Prim.Native.Nat.{ℕ, zero, suc, ◌≤◌, ◌<◌}
use mathlib.Core.Bool.{Bool, true, false, cond}
use mathlib.Core.List.{List}
use mathlib.Core.Path.{◌≡◌, refl, ◌∙◌}
use lib.ListN.{length, drop, replicate, length-set}
use lib.Seq.{drop-set-lt}
use native.Mathlib.Omega.{arith}
use Rattle.plans.specs.declared.Parent.{Parent}
use Rattle.plans.specs.declared.Parent.TheVariants.{Supply, Node as Under}
use Rattle.dispatch.specs.View.{View, bit_of}
use Rattle.dispatch.specs.Choice.{Pick, nobody, just, choose}
use Rattle.dispatch.specs.Passed.{passed_over}
use Rattle.dispatch.specs.Slot.{WalkEnd, SlotEnd, refilled, charge, follow, walk, granting, serve_core, serve_to, slot_start, slot, unsupplied}
use Rattle.dispatch.specs.declared.Setting.{Setting}
use Rattle.dispatch.proofs.Slots.{length_refilled, length_charge}

module _ (v : View) (passed : ℕ → Bool) where
  -- what follows a choice keeps the number of counts, where the walk below a host does
  length_follow : (onward : Parent → List ℕ → WalkEnd) → ((x : Parent) (left : List ℕ) → length (onward x left).left ≡ length left) →
      (left : List ℕ) (w : Pick) → length (follow v onward left w).left ≡ length left
  unfolding follow
  length_follow onward keeps left nobody = refl
  length_follow onward keeps left (just i) = go (v.leaf i)
    where
      go : (b : Bool) → length (cond b (record { grant = i; left = charge left i }) (onward (Under i) (charge left i))).left ≡ length left
      go true = length_charge left i
      go false = keeps (Under i) (charge left i) ∙ length_charge left i

  -- a walk keeps the number of counts
  pub length_walk : (levels : ℕ) (x : Parent) (left : List ℕ) → length (walk v passed levels x left).left ≡ length left
  unfolding walk
  length_walk zero x left = refl
  length_walk (suc levels) x left = length_follow (walk v passed levels) (length_walk levels) left (choose v left passed x)

  module _ (supplied : ℕ) where
    -- serving a core keeps the number of counts and of answers
    length_core : (so : SlotEnd) (s : ℕ) →
        (length (serve_core v supplied passed so s).left ≡ length so.left) × (length (serve_core v supplied passed so s).grants ≡ length so.grants)
    unfolding serve_core granting
    length_core so s = go (bit_of supplied s)
      where
        w : WalkEnd
        w = walk v passed 8 (Supply s) so.left

        go : (b : Bool) →
            (length (cond b (granting so s w) so).left ≡ length so.left) × (length (cond b (granting so s w) so).grants ≡ length so.grants)
        go true = (length_walk 8 (Supply s) so.left, length-set so.grants _ w.grant)
        go false = (refl, refl)

    -- and so does serving the first k cores
    length_serve : (so : SlotEnd) (k : ℕ) →
        (length (serve_to v supplied passed so k).left ≡ length so.left) × (length (serve_to v supplied passed so k).grants ≡ length so.grants)
    unfolding serve_to
    length_serve so zero = (refl, refl)
    length_serve so (suc k) =
        let core = length_core (serve_to v supplied passed so k) k in
        let before = length_serve so k in
        (core.0 ∙ before.0, core.1 ∙ before.1)

    -- the answers past the first k cores are as they were
    grants_past : (so : SlotEnd) (k : ℕ) → drop k (serve_to v supplied passed so k).grants ≡ drop k so.grants
    unfolding serve_to serve_core granting
    grants_past so k = later k k (omega arith)
      where
        core_past : (at : SlotEnd) (s m : ℕ) → s < m → drop m (serve_core v supplied passed at s).grants ≡ drop m at.grants
        core_past at s m l = go (bit_of supplied s)
          where
            go : (b : Bool) → drop m (cond b (granting at s (walk v passed 8 (Supply s) at.left)) at).grants ≡ drop m at.grants
            go true = drop-set-lt m at.grants s (walk v passed 8 (Supply s) at.left).grant l
            go false = refl

        later : (j m : ℕ) → j ≤ m → drop m (serve_to v supplied passed so j).grants ≡ drop m so.grants
        later zero m l = refl
        later (suc j) m l = core_past (serve_to v supplied passed so j) j m (omega arith) ∙ later j m (omega arith)

module _ (setting : Setting) (v : View) (cores n supplied declines : ℕ) (left : List ℕ) where
  -- past the last core a slot answers 255
  pub slot_past : drop cores (slot setting v cores n supplied declines left).grants ≡ drop cores (replicate 8 unsupplied)
  unfolding slot
  slot_past = grants_past v (passed_over setting v (refilled v n left) declines) supplied (slot_start (refilled v n left)) cores

  -- a slot keeps the number of counts
  pub length_slot : length (slot setting v cores n supplied declines left).left ≡ length left
  unfolding slot
  length_slot =
      (length_serve v (passed_over setting v (refilled v n left) declines) supplied (slot_start (refilled v n left)) cores).0 ∙ length_refilled v n left

  -- and has eight answers
  pub length_grants : length (slot setting v cores n supplied declines left).grants ≡ 8
  unfolding slot
  length_grants = (length_serve v (passed_over setting v (refilled v n left) declines) supplied (slot_start (refilled v n left)) cores).1
