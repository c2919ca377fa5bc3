-- A leaf's slots over a window or a stretch of windows: where the leaf declines in no slot of its served periods that touch it, they are those of an allocation that
-- honours its served type, of which rule 11 speaks. The slots outside those periods are taken as its own. Assumes nothing.
use Prim.Native.Nat.{ℕ, ◌+◌, ◌-◌, ◌/◌, ◌≤◌, ◌<◌}
use mathlib.Core.Bool.{Bool, true, false, not, ◌||◌}
use mathlib.Core.Path.{◌≡◌, refl, ◌∙◌}
use native.Mathlib.Omega.{arith}
use lib.Dec.{eqb}
use borrow.Author.Tests.{eqb-true, eq-eqb}
use Rattle.meaning.specs.Allocation.{Allocation}
use Rattle.meaning.specs.Types.{Honours}
use Rattle.meaning.specs.declared.SlotType.{SlotType}
use Rattle.meaning.specs.declared.Kind.TheVariants.{Aligned}
use Rattle.plans.specs.Plan.{parent_of, served_of, supply_at}
use Rattle.plans.specs.declared.Plan.{Plan}
use Rattle.rules.specs.Fit.{Fit}
use Rattle.dispatch.specs.View.{view_of, bit_of, is_leaf}
use Rattle.dispatch.specs.Passed.{passed_over, levels_down}
use Rattle.dispatch.specs.declared.Setting.{Setting}
use Rattle.dispatch.proofs.Passing.{leaf_passed}
use Rattle.unending.specs.Unending.{passed_at, charged}
use Rattle.unending.proofs.Slots.{start_at}
use Rattle.levels.specs.Level.{Offered}
use Rattle.partitions.specs.Case.{slots_of}
use Rattle.partitions.proofs.Any.{any, any_found, any_here}
use Rattle.partitions.proofs.Levels.{level_of, Keeps}
use Rattle.partitions.proofs.Tree.{offered_served}

-- slot n lies in the same period of T slots as slot w + k
together : ℕ → ℕ → ℕ → ℕ → Bool
together T w n k = eqb (n / T) ((w + k) / T)

-- slot n lies in a period of T slots that touches the window of L slots from w on
touched : ℕ → ℕ → ℕ → ℕ → Bool
touched T w L n = any (together T w n) L

-- an allocation with every slot outside those periods set
patched : ℕ → ℕ → ℕ → Allocation → Allocation
patched T w L α n = not (touched T w L n) || α n

-- an allocation's slots in the stretch of L slots from w on are those of one that honours a type, aligned
pub record AsHonoured (served : SlotType) (α : Allocation) (w L : ℕ) : Type 0 where
  pub alike : Allocation
  pub honours : Honours Aligned served alike
  pub agrees : (n : ℕ) → w ≤ n → n < w + L → alike n ≡ α n

module _ (T w L : ℕ) (α : Allocation) where
  -- inside the window nothing is changed
  patched_inside : (n : ℕ) → w ≤ n → n < w + L → patched T w L α n ≡ α n
  unfolding patched touched together
  patched_inside n l m =
      let k : ℕ = n - w in
      let at : w + k ≡ n = omega arith in
      rw (any_here (together T w n) L k (omega arith) (eq-eqb (n / T) ((w + k) / T) (rw at)))

  -- a slot is set where the allocation has it as soon as it touches the window
  patched_set : (n : ℕ) → ((k : ℕ) → k < L → n / T ≡ (w + k) / T → α n ≡ true) → patched T w L α n ≡ true
  unfolding patched touched together
  patched_set n h = go (touched T w L n) refl
    where
      go : (b : Bool) → touched T w L n ≡ b → (not b || α n) ≡ true
      go true e =
          let (k, below, at) = any_found (together T w n) L e in
          h k below (eqb-true (n / T) ((w + k) / T) at)
      go false e = refl

module _ (plan : Plan) (fit : Fit plan) (settings : ℕ → Setting) (supply declines : ℕ → ℕ) (keeps : Keeps plan settings supply declines) (supplied : (s : ℕ) → s < plan.cores → Honours Aligned (supply_at plan s) (slots_of supply s)) where
  module _ (i : ℕ) (l : i < plan.size) (leaf : is_leaf plan i ≡ true) (w L : ℕ) (accepts : (x y : ℕ) → w ≤ y → y < w + L → x / (served_of plan i).t ≡ y / (served_of plan i).t → bit_of (declines x) i ≡ false) where
    -- over a stretch of L slots from w on, in whose touching served periods the leaf does not decline, its slots are those of an allocation that honours its
    -- served type
    pub stretch_honoured : AsHonoured (served_of plan i) (charged plan settings supply declines i) w L
    unfolding passed_at passed_over
    stretch_honoured =
        record {
          alike = patched T w L mine;
          honours = offered_served plan fit settings supply declines keeps supplied i l (patched T w L mine) covers;
          agrees = patched_inside T w L mine;
        }
      where
        T : ℕ
        T = (served_of plan i).t

        mine : Allocation
        mine = charged plan settings supply declines i

        covers : (n : ℕ) → Offered (level_of plan settings supply declines (parent_of plan i)) i n → patched T w L mine n ≡ true
        covers n o =
            patched_set T w L mine n
            (λ k m e.
            keeps.taken (parent_of plan i) i (record { there = l; under = refl }) n o
            (leaf_passed (view_of plan) (start_at plan settings supply declines n) (declines n) (levels_down (settings n)) i leaf ∙
            accepts n (w + k) (omega arith) (omega arith) e))
