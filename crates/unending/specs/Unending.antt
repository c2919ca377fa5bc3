-- Slots given out from a fresh start under an unending supply: document 01, "Giving out slots", slot after slot. `settings n` is the setting of slot n (02,
-- request 12), `supply n` its byte of supplied cores, `declines n` its word of leaves that decline. Assumes nothing.
use Rattle.std.specs.Prelude.{ℕ, zero, suc, Bool, List, [], ◌++◌, ltb, eqb, get_or, take}
use Rattle.plans.specs.Cores.{core_of}
use Rattle.plans.specs.declared.Parent.{Parent}
use Rattle.plans.specs.declared.Parent.TheVariants.{Supply, Node as Under}
use Rattle.plans.specs.declared.Plan.{Plan}
use Rattle.dispatch.specs.View.{view_of, bit_of}
use Rattle.dispatch.specs.Passed.{passed_over}
use Rattle.dispatch.specs.Slot.{SlotEnd, refilled, slot, unsupplied}
use Rattle.dispatch.specs.Run.{fresh_left}
use Rattle.dispatch.specs.declared.Setting.{Setting}

module _ (plan : Plan) (settings : ℕ → Setting) (supply declines : ℕ → ℕ) where
  -- the counts as slot n finds them
  unfoldable pub left_at : ℕ → List ℕ
  left_at zero = fresh_left (view_of plan)
  left_at (suc n) = (slot (settings n) (view_of plan) plan.cores n (supply n) (declines n) (left_at n)).left

  -- slot n: its answers and the counts after it
  unfoldable pub slot_at : ℕ → SlotEnd
  slot_at n = slot (settings n) (view_of plan) plan.cores n (supply n) (declines n) (left_at n)

  -- what node i has left in slot n, after the refill and before anything is picked
  unfoldable pub has : ℕ → ℕ → ℕ
  has i n = get_or (refilled (view_of plan) n (left_at n)) i 0

  -- node i is passed over in slot n
  unfoldable pub passed_at : ℕ → ℕ → Bool
  passed_at n = passed_over (settings n) (view_of plan) (refilled (view_of plan) n (left_at n)) (declines n)

  -- node i is charged in slot n: its left falls there
  unfoldable pub charged : ℕ → ℕ → Bool
  charged i n = ltb (get_or (slot_at n).left i 0) (has i n)

  -- the answer of core s in slot n
  unfoldable pub answer_at : ℕ → ℕ → ℕ
  answer_at n s = get_or (slot_at n).grants s unsupplied

  -- slot n is granted to leaf i: it is the answer of the leaf's own core
  unfoldable pub granted : ℕ → ℕ → Bool
  granted i n = eqb (answer_at n (core_of plan i)) i

  -- the answers of the first k slots, slot by slot, supplies in order
  unfoldable pub answers_to : ℕ → List ℕ
  answers_to zero = []
  answers_to (suc k) = answers_to k ++ take plan.cores (slot_at k).grants

  -- parent x may give slot n: a supply where its core is supplied, a host where it is charged
  unfoldable pub may : Parent → ℕ → Bool
  may (Supply s) n = bit_of (supply n) s
  may (Under h) n = charged h n
