-- What is promised of the switch of document 02, request 12. Why each holds is in proofs/. Assumes nothing.
use Rattle.std.specs.Prelude.{ℕ, ◌<◌, true, false, List, ◌↔◌, ◌≡◌, get_or}
use Rattle.plans.specs.Plan.{There}
use Rattle.plans.specs.Cores.{Beneath, OnCore}
use Rattle.plans.specs.Sound.{Sound}
use Rattle.plans.specs.declared.Parent.{Parent}
use Rattle.plans.specs.declared.Parent.TheVariants.{Supply, Node as Under}
use Rattle.plans.specs.declared.Plan.{Plan}
use Rattle.dispatch.specs.View.{view_of, bit_of, is_leaf}
use Rattle.dispatch.specs.Passed.{passed_over}
use Rattle.dispatch.specs.Slot.{WalkEnd, SlotEnd, refilled, idle, unsupplied, walk, serve_to, slot_start, slot}
use Rattle.dispatch.specs.Run.{Standing, ran, out_after, stepped}
use Rattle.dispatch.specs.declared.Setting.{Setting}
use Rattle.dispatch.specs.declared.Setting.TheVariants.{Off, On}
use Rattle.siblings.specs.Before as before
use Rattle.siblings.specs.Back.{none, Ends}

-- 02, request 12: "off, as `busplan` has it, all answers stay": with the switch off a run ends as document 01 has it, whatever the plan value and the state,
abbrev pub OffRuns : Type 0
OffRuns =
    (plan : Plan) (state : Standing) (supplies declines : List ℕ) (room : ℕ) →
    ran Off plan state supplies declines room ≡ before.ran plan state supplies declines room

-- writes what document 01 has it write,
abbrev pub OffWrites : Type 0
OffWrites =
    (plan : Plan) (state : Standing) (supplies declines out : List ℕ) →
    out_after Off plan state supplies declines out ≡ before.out_after plan state supplies declines out

-- and so with a step
abbrev pub OffSteps : Type 0
OffSteps =
    (plan : Plan) (state : Standing) (supplied declines : ℕ) → stepped Off plan state supplied declines ≡ before.stepped plan state supplied declines

-- Why leaf i cannot take a slot of parent x, by the counts after the refill: it declines, it has nothing left, or it stands under a host beneath x that has
-- nothing left.
pub data Cannot (plan : Plan) (full : List ℕ) (declines : ℕ) (x : Parent) (i : ℕ) : Type 0 where
  declining : bit_of declines i ≡ true → Cannot plan full declines x i
  spent : get_or full i 0 ≡ 0 → Cannot plan full declines x i
  under_spent : (h : ℕ) → Beneath plan x h → Beneath plan (Under h) i → get_or full h 0 ≡ 0 → Cannot plan full declines x i

-- no leaf beneath x can take the slot
abbrev pub NoneCan : Plan → List ℕ → ℕ → Parent → Type 0
NoneCan plan full declines x = (i : ℕ) → There plan i → is_leaf plan i ≡ true → Beneath plan x i → Cannot plan full declines x i

-- Who is passed over, with no word of levels nor of choices: with the switch on, a host exactly where no leaf beneath it can take the slot.
abbrev pub VainExactly : Type 0
VainExactly =
    (plan : Plan) → Sound plan → (full : List ℕ) (declines h : ℕ) → There plan h → is_leaf plan h ≡ false →
    (passed_over On (view_of plan) full declines h ≡ true) ↔ NoneCan plan full declines (Under h)

-- With the switch on nothing is wasted: a supplied core is idle exactly when no leaf on it can take the slot.
abbrev pub NothingWasted : Type 0
NothingWasted =
    (plan : Plan) → Sound plan → (n supplied declines : ℕ) (left : List ℕ) (s : ℕ) → s < plan.cores → bit_of supplied s ≡ true →
    let end : SlotEnd = slot On (view_of plan) plan.cores n supplied declines left in
    (get_or end.grants s unsupplied ≡ idle) ↔ NoneCan plan (refilled (view_of plan) n left) declines (Supply s)

-- Nobody passed over is charged, with either setting,
abbrev pub PassedUncharged : Type 0
PassedUncharged =
    (setting : Setting) (plan : Plan) → Sound plan → (n supplied declines : ℕ) (left : List ℕ) (i : ℕ) → There plan i →
    let full : List ℕ = refilled (view_of plan) n left in
    passed_over setting (view_of plan) full declines i ≡ true →
    get_or (slot setting (view_of plan) plan.cores n supplied declines left).left i 0 ≡ get_or full i 0

-- and with the switch on nobody on a core that is idle
abbrev pub IdleUncharged : Type 0
IdleUncharged =
    (plan : Plan) → Sound plan → (n supplied declines : ℕ) (left : List ℕ) (s : ℕ) → s < plan.cores →
    let end : SlotEnd = slot On (view_of plan) plan.cores n supplied declines left in
    get_or end.grants s unsupplied ≡ idle →
    (i : ℕ) → There plan i → OnCore plan i s → get_or end.left i 0 ≡ get_or (refilled (view_of plan) n left) i 0

-- With the switch on each core's walk, at its turn in the slot, ends as going back to the next sibling literally does, and in no other way.
abbrev pub GoesBack : Type 0
GoesBack =
    (plan : Plan) → Sound plan → (full : List ℕ) (supplied declines s : ℕ) → s < plan.cores →
    let passed = passed_over On (view_of plan) full declines in
    let at : List ℕ = (serve_to (view_of plan) supplied passed (slot_start full) s).left in
    (w : WalkEnd) → Ends (view_of plan) declines none (Supply s) at w ↔ (w ≡ walk (view_of plan) passed 8 (Supply s) at)
