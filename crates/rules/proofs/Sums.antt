-- Sums and largest values as the loops of rule 14 build them, and the bounds that keep the sums small. Assumes nothing.
use Prim.Native.Nat.{ℕ, ◌+◌, ◌*◌, ◌≤◌, ◌<◌, max}
use mathlib.Core.Bool.{Bool, true, false, cond}
use mathlib.Core.Path.{◌≡◌, refl}
use mir.Syntax.{w64}
use mir.Val.{Fits}
use native.Mathlib.Nat.{le_trans}
use native.Mathlib.Numerals.{add-one}
use native.Mathlib.Omega.{arith}
use Rattle.meaning.specs.declared.SlotType.{SlotType}
use Rattle.meaning.proofs.WellFormed.{bounds}
use Rattle.plans.specs.Plan.{served_of, own_type, is_child}
use Rattle.plans.specs.Sound.{sound}
use Rattle.plans.specs.declared.Parent.{Parent}
use Rattle.plans.specs.declared.Plan.{Plan}
use Rattle.plans.proofs.Kept.{sound_kept}
use Rattle.rules.specs.Fit.{sum_to, most_to, child_period, longest, load, load_to, owes, side}
use Rattle.rules.proofs.Formed.{in_slots_most}
use Rattle.rules.proofs.Totals.{most_bounded, sum_bounded}

-- a value that counts only where a test holds is bounded where it is so by itself
cond_bounded : (b : Bool) (n bound : ℕ) → n ≤ bound → cond b n 0 ≤ bound
cond_bounded true n bound h = h
cond_bounded false n bound h = omega arith

module _ (plan : Plan) (x : Parent) where
  -- M over one node more
  pub longest_more : (i m p r : ℕ) → m ≡ most_to (child_period plan x) i → p ≡ child_period plan x i → r ≡ max m p → r ≡ most_to (child_period plan x) (i + 1)
  unfolding most_to
  longest_more i m p r e h l = rw (add-one i, l, e, h)

  -- the sum over the nodes passed: none,
  pub load_none : 0 ≡ load_to plan x 0
  unfolding load_to sum_to
  load_none = refl

  -- and one more
  pub load_more : (i sum m l : ℕ) → sum ≡ load_to plan x i → m ≡ longest plan x → l ≡ load plan x m i → sum + l ≡ load_to plan x (i + 1)
  unfolding load_to sum_to
  load_more i sum m l e h k = rw (add-one i, e, k, h)

  -- the parent's side is what it owes in M slots by its own type
  pub side_read : (own : SlotType) (m r : ℕ) → own ≡ own_type plan x → m ≡ longest plan x → r ≡ owes own m → r ≡ side plan x
  unfolding side
  side_read own m r o h e = rw (e, o, h)

  module _ (kept : sound plan ≡ true) where
    -- M is at most 4,096
    pub longest_bounded : longest plan x ≤ 4096
    unfolding longest child_period
    longest_bounded =
        most_bounded (child_period plan x) 4096 plan.size
        (λ i l. cond_bounded (is_child plan x i) _ 4096 (bounds (served_of plan i) ((sound_kept plan kept).served i l)).most)

    -- and the sum over the first k nodes at most k times that
    pub load_bounded : (k : ℕ) → k ≤ plan.size → load_to plan x k ≤ k * 4096
    unfolding load_to load
    load_bounded k h =
        sum_bounded (load plan x (longest plan x)) 4096 k
        (λ i l. cond_bounded (is_child plan x i) _ 4096
        (le_trans (in_slots_most (served_of plan i) ((sound_kept plan kept).served i (omega arith)) (longest plan x)) longest_bounded))

    -- so the running sum fits its type
    pub load_fits : (i sum m l : ℕ) → sum ≡ load_to plan x i → m ≡ longest plan x → l ≡ load plan x m i → i < plan.size → Fits w64 (sum + l)
    load_fits i sum m l e h k below =
        record { fits = omega (arith, load_more i sum m l e h k, load_bounded (i + 1) (omega arith), (sound_kept plan kept).sixty_four_nodes) }
