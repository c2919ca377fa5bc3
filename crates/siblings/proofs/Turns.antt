-- Each core's turn in a slot: what stands on it is untouched before, its answer is the grant of its own walk, and a node falls only under a parent that gave the
-- slot. Assumes nothing.
use Prim.Native.Nat.{ℕ, zero, suc, ◌≤◌, ◌<◌}
use mathlib.Core.Bool.{Bool, true}
use mathlib.Core.List.{List}
use mathlib.Core.Path.{◌≡◌, ◌∙◌}
use lib.ListN.{get_or}
use lib.Seq.{get_or-set_same}
use native.Mathlib.Decide.{ℕ_discrete}
use native.Mathlib.Omega.{arith}
use Rattle.plans.specs.Cores.{child, deeper, OnCore}
use Rattle.plans.specs.Plan.{parent_of}
use Rattle.plans.specs.Sound.{Sound}
use Rattle.plans.specs.declared.Parent.TheVariants.{Supply, Node as Under}
use Rattle.plans.specs.declared.Plan.{Plan}
use Rattle.dispatch.specs.View.{view_of, bit_of}
use Rattle.dispatch.specs.Slot.{SlotEnd, slot_start, unsupplied, walk, granting, serve_core, serve_to}
use Rattle.unending.proofs.Answers.{other_told}
use Rattle.unending.proofs.Books.{Books, shut_untouched}
use Rattle.unending.proofs.Cores.{cores_kept}

module _ (plan : Plan) (supplied : ℕ) (passed : ℕ → Bool) (start : List ℕ) (k : ℕ) (now : List ℕ)
    (b : Books plan supplied passed start k (λ y. ⊥) now) (s : ℕ) where
  -- where a supply's children are untouched all of its core is
  pub core_untouched : ((i : ℕ) → parent_of plan i ≡ Supply s → get_or now i 0 ≡ get_or start i 0) → (i : ℕ) → OnCore plan i s → get_or now i 0 ≡ get_or start i 0
  core_untouched first i (child up) = first i up
  core_untouched first i (deeper {h = h} up on) =
      shut_untouched plan supplied passed start k (λ y. ⊥) now b (Under h) (λ fell. omega (arith, core_untouched first h on)) i up

module _ (plan : Plan) (sound : Sound plan) (supplied : ℕ) (passed : ℕ → Bool) (start : List ℕ) where
  -- where the first k cores have brought the slot
  abbrev pub served : ℕ → SlotEnd
  served k = serve_to (view_of plan) supplied passed (slot_start start) k

  -- at a core's turn all that is on it is untouched
  pub turn_untouched : (s : ℕ) → s ≤ 8 → (i : ℕ) → OnCore plan i s → get_or (served s).left i 0 ≡ get_or start i 0
  turn_untouched s l i on =
      let books = (cores_kept plan sound supplied passed start s l).books in
      core_untouched plan supplied passed start s (served s).left books s
      (shut_untouched plan supplied passed start s (λ y. ⊥) (served s).left books (Supply s) (λ o. omega arith)) i on

  -- and its answer in the end is the grant of its walk
  pub turn_answer : (s : ℕ) → bit_of supplied s ≡ true → (k : ℕ) → k ≤ 8 → s < k →
      get_or (served k).grants s unsupplied ≡ (walk (view_of plan) passed 8 (Supply s) (served s).left).grant
  unfolding serve_to serve_core granting
  turn_answer s on zero l m = absurd (omega arith)
  turn_answer s on (suc k) l m = go (ℕ_discrete s k) (turn_answer s on k)
    where
      go : Dec (s ≡ k) →
          (k ≤ 8 → s < k → get_or (served k).grants s unsupplied ≡ (walk (view_of plan) passed 8 (Supply s) (served s).left).grant) →
          get_or (serve_core (view_of plan) supplied passed (served k) k).grants s unsupplied ≡ (walk (view_of plan) passed 8 (Supply s) (served s).left).grant
      go (yes e) before =
          rw (← e, on) (get_or-set_same (served s).grants s _ unsupplied (omega (arith, (cores_kept plan sound supplied passed start s (omega arith)).eight)))
      go (no other) before = other_told plan sound supplied passed start k s other ∙ before (omega arith) (omega arith)
