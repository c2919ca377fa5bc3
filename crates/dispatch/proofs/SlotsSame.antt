-- A walk, and all the walks of a slot, ask only of nodes that are there whether they are passed over. Assumes nothing.
use Prim.Native.Nat.{ℕ, zero, suc, ◌<◌}
use mathlib.Core.Bool.{Bool}
use mathlib.Core.List.{List}
use mathlib.Core.Path.{◌≡◌, refl}
use Rattle.plans.specs.declared.Parent.{Parent}
use Rattle.plans.specs.declared.Parent.TheVariants.{Supply, Node as Under}
use Rattle.dispatch.proofs.Choices.{choice_same}
use Rattle.dispatch.proofs.SlotsDepth.{follow_alike}
use Rattle.dispatch.specs.View.{View}
use Rattle.dispatch.specs.Choice.{choose}
use Rattle.dispatch.specs.Slot.{SlotEnd, charge, walk, serve_core, serve_to}

module _ (v : View) (passed others : ℕ → Bool) (same : (i : ℕ) → i < v.size → passed i ≡ others i) where
  -- two tests that agree on the nodes that are there give the same walk,
  walk_same : (levels : ℕ) (x : Parent) (left : List ℕ) → walk v passed levels x left ≡ walk v others levels x left
  unfolding walk
  walk_same zero x left = refl
  walk_same (suc levels) x left =
      rw (← (choice_same v left left passed others x (λ i l up. refl) (λ i l up. same i l)))
      (follow_alike v (walk v passed levels) (walk v others levels) left (choose v left passed x) (λ i e. walk_same levels (Under i) (charge left i)))

  -- and the same slot
  pub serve_same : (supplied : ℕ) (so : SlotEnd) (k : ℕ) → serve_to v supplied passed so k ≡ serve_to v supplied others so k
  unfolding serve_to serve_core
  serve_same supplied so zero = refl
  serve_same supplied so (suc k) =
      rw (serve_same supplied so k, walk_same 8 (Supply k) (serve_to v supplied others so k).left)
