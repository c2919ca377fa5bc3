-- Entries past the last node are kept: no refill, walk, slot or run changes them. Assumes nothing.
use Prim.Native.Nat.{ℕ, zero, suc, ◌+◌, ◌≤◌}
use mathlib.Core.Bool.{Bool, true, false, cond}
use mathlib.Core.List.{List}
use mathlib.Core.Path.{◌≡◌, refl, ◌∙◌}
use lib.ListN.{get_or}
use native.Mathlib.Omega.{arith}
use Rattle.plans.specs.declared.Parent.{Parent}
use Rattle.plans.specs.declared.Parent.TheVariants.{Supply, Node as Under}
use Rattle.dispatch.proofs.Choices.{choice_below}
use Rattle.dispatch.proofs.Slots.{refilled_kept, charge_other}
use Rattle.dispatch.proofs.Charged.{follow_count}
use Rattle.dispatch.specs.View.{View, bit_of}
use Rattle.dispatch.specs.Choice.{Pick, nobody, just, choose}
use Rattle.dispatch.specs.Passed.{passed_over}
use Rattle.dispatch.specs.Slot.{SlotEnd, refilled, charge, follow, walk, granting, serve_core, serve_to, slot_start, slot}
use Rattle.dispatch.specs.Run.{course_to}
use Rattle.dispatch.specs.declared.Setting.{Setting}
use Rattle.dispatch.specs.declared.Setting.TheVariants.{Off}

module _ (v : View) (i : ℕ) (past : v.size ≤ i) where
  -- a walk charges nodes that are there
  walk_past : (passed : ℕ → Bool) (levels : ℕ) (x : Parent) (left : List ℕ) → get_or (walk v passed levels x left).left i 0 ≡ get_or left i 0
  unfolding walk follow
  walk_past passed zero x left = refl
  walk_past passed (suc levels) x left = go (choose v left passed x) refl (walk_past passed levels)
    where
      go : (w : Pick) → choose v left passed x ≡ w →
          ((y : Parent) (counts : List ℕ) → get_or (walk v passed levels y counts).left i 0 ≡ get_or counts i 0) →
          get_or (follow v (walk v passed levels) left w).left i 0 ≡ get_or left i 0
      go nobody c below = refl
      go (just j) c below =
          follow_count v (walk v passed levels) left j i (below (Under j) (charge left j)) ∙
          charge_other left j i (λ e. omega (arith, choice_below v left passed x j c))

  -- so serving cores changes nothing past the last node
  serve_past : (supplied : ℕ) (passed : ℕ → Bool) (so : SlotEnd) (k : ℕ) → get_or (serve_to v supplied passed so k).left i 0 ≡ get_or so.left i 0
  unfolding serve_to serve_core granting
  serve_past supplied passed so zero = refl
  serve_past supplied passed so (suc k) = go (bit_of supplied k) ∙ serve_past supplied passed so k
    where
      at : SlotEnd
      at = serve_to v supplied passed so k

      go : (b : Bool) → get_or (cond b (granting at k (walk v passed 8 (Supply k) at.left)) at).left i 0 ≡ get_or at.left i 0
      go true = walk_past passed 8 (Supply k) at.left
      go false = refl

  -- nor does a slot
  slot_kept : (setting : Setting) (cores n supplied declines : ℕ) (left : List ℕ) →
      get_or (slot setting v cores n supplied declines left).left i 0 ≡ get_or left i 0
  unfolding slot
  slot_kept setting cores n supplied declines left =
      serve_past supplied (passed_over setting v (refilled v n left) declines) (slot_start (refilled v n left)) cores ∙
      refilled_kept v n left i (λ l. absurd (omega arith))

  -- nor a run
  pub course_kept : (cores n : ℕ) (settings : List Setting) (supplies declines left : List ℕ) (k : ℕ) →
      get_or (course_to v cores n settings supplies declines left k).left i 0 ≡ get_or left i 0
  unfolding course_to
  course_kept cores n settings supplies declines left zero = refl
  course_kept cores n settings supplies declines left (suc k) =
      slot_kept (get_or settings k Off) cores (n + k) (get_or supplies k 0) (get_or declines k 0) (course_to v cores n settings supplies declines left k).left ∙
      course_kept cores n settings supplies declines left k
