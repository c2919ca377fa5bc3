-- Each slot of an unending course: how many counts there are, that its books are kept, which parents it opens, and what it takes from a node's count.
-- Assumes nothing.
use Prim.Native.Nat.{ℕ, zero, suc, ◌+◌, ◌%◌, ◌≤◌, ◌<◌}
use mathlib.Core.Bool.{Bool, true, false}
use mathlib.Core.List.{List}
use mathlib.Core.Path.{◌≡◌, refl, ◌∙◌}
use lib.ListN.{length, get_or}
use borrow.Author.Tests.{lt-ltb, ltb-true, ltb-false}
use native.Mathlib.Omega.{arith}
use Rattle.meaning.specs.Allocation.{bit}
use Rattle.plans.proofs.Parents.{node_below, supply_there}
use Rattle.plans.specs.Plan.{parent_of}
use Rattle.plans.specs.declared.Parent.{Parent}
use Rattle.plans.specs.declared.Parent.TheVariants.{Supply, Node as Under}
use Rattle.plans.specs.declared.Plan.{Plan}
use Rattle.rules.specs.Fit.{Fit}
use Rattle.dispatch.proofs.Slots.{refilled_due, refilled_kept}
use Rattle.dispatch.proofs.SlotsLengths.{length_slot}
use Rattle.dispatch.proofs.SlotsFresh.{length_fresh}
use Rattle.dispatch.specs.View.{view_of, served_c, served_t}
use Rattle.dispatch.specs.Slot.{refilled, slot}
use Rattle.dispatch.specs.declared.Setting.{Setting}
use Rattle.unending.proofs.Books.{Opened, Books}
use Rattle.unending.proofs.Cores.{Cores, cores_kept}
use Rattle.unending.specs.Unending.{left_at, slot_at, has, passed_at, charged, may}

-- the counts of slot n, after its refill
abbrev pub start_at : Plan → (ℕ → Setting) → (ℕ → ℕ) → (ℕ → ℕ) → ℕ → List ℕ
start_at plan settings supply declines n = refilled (view_of plan) n (left_at plan settings supply declines n)

module _ (plan : Plan) (settings : ℕ → Setting) (supply declines : ℕ → ℕ) where
  -- there are always as many counts as an array of nodes has
  pub length_left : (n : ℕ) → length (left_at plan settings supply declines n) ≡ 64
  unfolding left_at
  length_left zero = length_fresh (view_of plan)
  length_left (suc n) = length_slot (settings n) (view_of plan) plan.cores n (supply n) (declines n) (left_at plan settings supply declines n) ∙ length_left n

  module _ (fit : Fit plan) (n : ℕ) where
    -- the books of slot n are kept
    pub slot_kept : Cores plan (supply n) (passed_at plan settings supply declines n) (start_at plan settings supply declines n) plan.cores (slot_at plan settings supply declines n)
    unfolding slot_at slot passed_at
    slot_kept =
        cores_kept plan fit.sound (supply n) (passed_at plan settings supply declines n) (start_at plan settings supply declines n) plan.cores fit.sound.eight_cores

    -- a parent that may give the slot is opened by its end
    pub may_opened : (i : ℕ) → i < plan.size → (x : Parent) → parent_of plan i ≡ x → may plan settings supply declines x n ≡ true →
        Opened (supply n) (start_at plan settings supply declines n) plan.cores (slot_at plan settings supply declines n).left x
    unfolding may charged has
    may_opened i l (Supply s) up on = (supply_there plan fit.sound i l s up, on)
    may_opened i l (Under h) up on = ltb-true _ _ on

    -- and an opened parent may give the slot
    pub opened_may : (x : Parent) → Opened (supply n) (start_at plan settings supply declines n) plan.cores (slot_at plan settings supply declines n).left x →
        may plan settings supply declines x n ≡ true
    unfolding may charged has
    opened_may (Supply s) o = o.1
    opened_may (Under h) o = lt-ltb _ _ o

module _ (plan : Plan) (fit : Fit plan) (settings : ℕ → Setting) (supply declines : ℕ → ℕ) (i : ℕ) (l : i < plan.size) where
  -- a slot takes one from the count of a node that is charged in it, and nothing from any other
  pub slot_takes : (n : ℕ) → get_or (slot_at plan settings supply declines n).left i 0 + bit (charged plan settings supply declines i n) ≡ has plan settings supply declines i n
  unfolding charged has
  slot_takes n = go (charged plan settings supply declines i n) refl
    where
      kept : Books plan (supply n) (passed_at plan settings supply declines n) (start_at plan settings supply declines n) plan.cores (λ y. ⊥) (slot_at plan settings supply declines n).left
      kept = (slot_kept plan settings supply declines fit n).books

      fell : charged plan settings supply declines i n ≡ true → get_or (slot_at plan settings supply declines n).left i 0 < has plan settings supply declines i n
      fell e = ltb-true _ _ e

      kept_whole : charged plan settings supply declines i n ≡ false → has plan settings supply declines i n ≤ get_or (slot_at plan settings supply declines n).left i 0
      kept_whole e = ltb-false _ _ e

      go : (b : Bool) → charged plan settings supply declines i n ≡ b → get_or (slot_at plan settings supply declines n).left i 0 + bit b ≡ has plan settings supply declines i n
      go true e = omega (arith, (kept.took i (fell e)).by_one)
      go false e = omega (arith, kept.no_more i, kept_whole e)

  -- a slot that is no multiple of a node's period finds what the slot before it left
  pub has_next : (n : ℕ) → (suc n % served_t plan i ≡ 0 → ⊥) → has plan settings supply declines i (suc n) ≡ get_or (slot_at plan settings supply declines n).left i 0
  unfolding has left_at slot_at
  has_next n within = refilled_kept (view_of plan) (suc n) _ i (λ _. within)

  -- and one that is finds the served C
  pub has_anew : (n : ℕ) → n % served_t plan i ≡ 0 → has plan settings supply declines i n ≡ served_c plan i
  unfolding has
  has_anew n due =
      refilled_due (view_of plan) n (left_at plan settings supply declines n) i l (omega (arith, length_left plan settings supply declines n, node_below plan fit.sound i l)) due
