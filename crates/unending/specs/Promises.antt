-- What is promised of slots given out from a fresh start, for every fit plan, each slot with a setting of its own, every supply and whoever declines. Why each
-- holds is in proofs/.
-- Assumes nothing.
use Rattle.std.specs.Prelude.{ℕ, suc, ◌+◌, ◌*◌, ◌<◌, true, false, List, ◌↔◌, ◌≡◌, length, get_or}
use Rattle.meaning.specs.Allocation.{ones}
use Rattle.plans.specs.Plan.{There, parent_of}
use Rattle.plans.specs.Cores.{OnCore}
use Rattle.plans.specs.declared.Plan.{Plan}
use Rattle.rules.specs.Fit.{Fit}
use Rattle.dispatch.specs.View.{view_of, bit_of, is_leaf, served_c, served_t}
use Rattle.dispatch.specs.Choice.{just, choose}
use Rattle.dispatch.specs.Slot.{refilled, idle, unsupplied}
use Rattle.dispatch.specs.Run.{fresh_state, course_by}
use Rattle.dispatch.specs.declared.Setting.{Setting}
use Rattle.dispatch.specs.declared.Setting.TheVariants.{Off}
use Rattle.unending.specs.Unending.{left_at, has, passed_at, charged, answer_at, granted, answers_to, may}

-- Who is charged in a slot: the choice, on the refilled counts, of a parent that may give the slot. Above this nobody opens the walk.
abbrev pub ChargedExactly : Type 0
ChargedExactly =
    (plan : Plan) → Fit plan → (settings : ℕ → Setting) (supply declines : ℕ → ℕ) (i n : ℕ) → There plan i →
    (charged plan settings supply declines i n ≡ true) ↔
    ((may plan settings supply declines (parent_of plan i) n ≡ true) ×
    (choose (view_of plan) (refilled (view_of plan) n (left_at plan settings supply declines n)) (passed_at plan settings supply declines n) (parent_of plan i) ≡ just i))

-- A leaf is granted a slot exactly when it is charged in it.
abbrev pub GrantedExactly : Type 0
GrantedExactly =
    (plan : Plan) → Fit plan → (settings : ℕ → Setting) (supply declines : ℕ → ℕ) (i n : ℕ) → There plan i → is_leaf plan i ≡ true →
    granted plan settings supply declines i n ≡ charged plan settings supply declines i n

-- What core s answers in slot n: 255 where it is not supplied; where it is, a leaf of that very core which is charged in this slot, or 254, and then no leaf
-- of that core is charged.
pub data Answered (plan : Plan) (settings : ℕ → Setting) (supply declines : ℕ → ℕ) (n s : ℕ) : ℕ → Type 0 where
  not_supplied : bit_of (supply n) s ≡ false → Answered plan settings supply declines n s unsupplied
  the_leaf : {i : ℕ} → bit_of (supply n) s ≡ true → There plan i → is_leaf plan i ≡ true → OnCore plan i s →
      charged plan settings supply declines i n ≡ true → Answered plan settings supply declines n s i
  stays_idle : bit_of (supply n) s ≡ true →
      ((i : ℕ) → There plan i → is_leaf plan i ≡ true → OnCore plan i s → charged plan settings supply declines i n ≡ false) → Answered plan settings supply declines n s idle

abbrev pub AnsweredExactly : Type 0
AnsweredExactly =
    (plan : Plan) → Fit plan → (settings : ℕ → Setting) (supply declines : ℕ → ℕ) (n s : ℕ) → s < plan.cores →
    Answered plan settings supply declines n s (answer_at plan settings supply declines n s)

-- 01: "From a fresh start, left plus what was charged since the last refill is always the served C." The last refill before slot b·T + a, a below T, is b·T.
abbrev pub Balance : Type 0
Balance =
    (plan : Plan) → Fit plan → (settings : ℕ → Setting) (supply declines : ℕ → ℕ) (i b a : ℕ) → There plan i → a < served_t plan i →
    has plan settings supply declines i (b * served_t plan i + a) +
    ones (charged plan settings supply declines i) (b * served_t plan i) a ≡
    served_c plan i

-- And so it is after every slot, the last of a period included.
abbrev pub BalanceAfter : Type 0
BalanceAfter =
    (plan : Plan) → Fit plan → (settings : ℕ → Setting) (supply declines : ℕ → ℕ) (i b a : ℕ) → There plan i → a < served_t plan i →
    get_or (left_at plan settings supply declines (suc (b * served_t plan i + a))) i 0 +
    ones (charged plan settings supply declines i) (b * served_t plan i) (suc a) ≡
    served_c plan i

-- A node is charged only in a slot of its own core.
abbrev pub OwnCore : Type 0
OwnCore =
    (plan : Plan) → Fit plan → (settings : ℕ → Setting) (supply declines : ℕ → ℕ) (i n s : ℕ) → There plan i → OnCore plan i s →
    charged plan settings supply declines i n ≡ true → bit_of (supply n) s ≡ true

-- At most one child of a parent is charged in a slot.
abbrev pub OneChild : Type 0
OneChild =
    (plan : Plan) → Fit plan → (settings : ℕ → Setting) (supply declines : ℕ → ℕ) (i j n : ℕ) → There plan i → There plan j →
    parent_of plan i ≡ parent_of plan j → charged plan settings supply declines i n ≡ true → charged plan settings supply declines j n ≡ true → i ≡ j

-- Slots from a fresh start are the first part of the unending ones, for any unending inputs that begin as theirs do: the same answers, and the same counts after
-- them.
abbrev pub FirstPart : Type 0
FirstPart =
    (plan : Plan) (settings : List Setting) (supplies declines : List ℕ) (setting : ℕ → Setting) (supply decline : ℕ → ℕ) →
    ((k : ℕ) → k < length supplies → setting k ≡ get_or settings k Off) →
    ((k : ℕ) → k < length supplies → supply k ≡ get_or supplies k 0) → ((k : ℕ) → k < length supplies → decline k ≡ get_or declines k 0) →
    course_by plan (fresh_state plan) settings supplies declines ≡
    record { left = left_at plan setting supply decline (length supplies); answers = answers_to plan setting supply decline (length supplies) }
