-- What is promised of the choice, of counts, of refusals, of steps and of runs. Why each holds is in proofs/. Assumes nothing.
use Rattle.std.specs.Prelude.{ℕ, suc, ◌+◌, ◌*◌, ◌-◌, ◌%◌, ◌^◌, ◌≤◌, ◌<◌, Bool, true, false, List, ◌++◌, ◌↔◌, ◌≡◌, Result, length, get_or}
use Rattle.plans.specs.Plan.{There}
use Rattle.plans.specs.Sound.{Sound}
use Rattle.plans.specs.declared.Parent.{Parent}
use Rattle.plans.specs.declared.Parent.TheVariants.{Supply, Node as Under}
use Rattle.plans.specs.declared.Plan.{Plan}
use Rattle.rules.specs.Fit.{Fit}
use Rattle.dispatch.specs.View.{View, view_of, is_leaf, served_c, bit_of}
use Rattle.dispatch.specs.Choice.{nobody, just, eligible, choose, Chosen}
use Rattle.dispatch.specs.Passed.{passed_over}
use Rattle.dispatch.specs.Slot.{SlotEnd, refilled, walk, slot}
use Rattle.dispatch.specs.Run.{done, refused, said, fresh_end, run_end, step_end, Standing, RunEnd, zero_state, started, outcome, Course, course_to, stepped}
use Rattle.dispatch.specs.declared.Setting.{Setting}
use Rattle.dispatch.specs.declared.Setting.TheVariants.{Off, On}
use Rattle.dispatch.specs.declared.Refusal.{Refusal}
use Rattle.dispatch.specs.declared.State.{State}

-- node i may be taken under x
pub record May (v : View) (left : List ℕ) (passed : ℕ → Bool) (x : Parent) (i : ℕ) : Type 0 where
  pub child : v.parent i ≡ x
  pub some : 0 < get_or left i 0
  pub willing : passed i ≡ false

-- 01: "among its children with slots left, .. passed over": just these may be taken
abbrev pub MayExactly : Type 0
MayExactly = (v : View) (left : List ℕ) (passed : ℕ → Bool) (x : Parent) (i : ℕ) → (eligible v left passed x i ≡ true) ↔ May v left passed x i

-- Who is passed over, with no word of levels: a leaf exactly where it declines, a host with the switch off never, and a host with the switch on exactly where
-- nobody is chosen under it.
pub record Passed (setting : Setting) (plan : Plan) (left : List ℕ) (declines i : ℕ) : Type 0 where
  pub leaf : is_leaf plan i ≡ true → (passed_over setting (view_of plan) left declines i ≡ true) ↔ (bit_of declines i ≡ true)
  pub off : is_leaf plan i ≡ false → setting ≡ Off → passed_over setting (view_of plan) left declines i ≡ false
  pub on : is_leaf plan i ≡ false → setting ≡ On →
      (passed_over setting (view_of plan) left declines i ≡ true) ↔
      (choose (view_of plan) left (passed_over setting (view_of plan) left declines) (Under i) ≡ nobody)

-- 01: "leaves that decline passed over"; 02, request 12: "the choice goes to the next sibling instead"
abbrev pub PassedExactly : Type 0
PassedExactly = (setting : Setting) (plan : Plan) → Sound plan → (left : List ℕ) (declines i : ℕ) → There plan i → Passed setting plan left declines i

-- The choice is the one that document 01's sentence names, and there is nobody exactly when nobody may be taken.
abbrev pub ChoiceExactly : Type 0
ChoiceExactly =
    (v : View) (left : List ℕ) (passed : ℕ → Bool) (x : Parent) →
    ((i : ℕ) → (choose v left passed x ≡ just i) ↔ Chosen v left passed x i) ×
    ((choose v left passed x ≡ nobody) ↔ ((j : ℕ) → j < v.size → eligible v left passed x j ≡ false))

-- the counts after a refill at slot n, entry by entry: a node that is due has its served C, and whatever else is there, or past the last node, is as it was
pub record RefilledAt (v : View) (n : ℕ) (left full : List ℕ) : Type 0 where
  pub many : length full ≡ length left
  pub due : (i : ℕ) → i < v.size → i < length left → n % v.t i ≡ 0 → get_or full i 0 ≡ v.c i
  pub kept : (i : ℕ) → i < v.size → (n % v.t i ≡ 0 → ⊥) → get_or full i 0 ≡ get_or left i 0
  pub past : (i : ℕ) → v.size ≤ i → get_or full i 0 ≡ get_or left i 0

-- 01: "At each slot whose number is a multiple of a node's served T, its left becomes its served C": leaf or host
abbrev pub RefillExactly : Type 0
RefillExactly = (v : View) (n : ℕ) (left : List ℕ) → RefilledAt v n left (refilled v n left)

-- how a fresh start ends, entry by entry
pub record FreshEnd (plan : Plan) (end : RunEnd) : Type 0 where
  pub outcome : end.outcome ≡ done
  pub clock : end.state.clock ≡ 0
  pub many : length end.state.left ≡ 64
  pub counts : (i : ℕ) → There plan i → get_or end.state.left i 0 ≡ served_c plan i
  pub past : (i : ℕ) → plan.size ≤ i → get_or end.state.left i 0 ≡ 0

-- 01: "Fresh: n = 0 and left = served C; an unfit plan value gives 16. Entries past the last node are 0 in a fresh state"
abbrev pub FreshExactly : Type 0
FreshExactly =
    (plan : Plan) → (Fit plan → FreshEnd plan (started plan)) × ((Fit plan → ⊥) → started plan ≡ record { outcome = refused 16; state = zero_state })

-- The walk never runs out of levels on a sound plan: more levels change nothing.
abbrev pub EightLevels : Type 0
EightLevels =
    (plan : Plan) → Sound plan → (passed : ℕ → Bool) (more s : ℕ) (left : List ℕ) →
    walk (view_of plan) passed (8 + more) (Supply s) left ≡ walk (view_of plan) passed 8 (Supply s) left

-- plan value and state are fit
pub record Ready (plan : Plan) (state : Standing) : Type 0 where
  pub fit : Fit plan
  pub clock : state.clock ≤ 2 ^ 40
  pub counts : (i : ℕ) → There plan i → get_or state.left i 0 ≤ served_c plan i

-- the inputs are equally long, and there is room for an answer of each core in each slot
pub record Roomy (plan : Plan) (k declines room : ℕ) : Type 0 where
  pub equal : k ≡ declines
  pub enough : k * plan.cores ≤ room

-- 01: "Refusals in order: 16 (a left over the node's served C, a clock over 2^40, or a plan value that breaks any of 2 to 7 and 11 to 14), 17 (unequal
-- inputs or too little room), 15 (n + k over 2^40)": each is given exactly then, and otherwise the run is done
abbrev pub RefusalsExactly : Type 0
RefusalsExactly =
    (plan : Plan) (state : Standing) (k declines room : ℕ) →
    ((outcome plan state k declines room ≡ refused 16) ↔ (Ready plan state → ⊥)) ×
    ((outcome plan state k declines room ≡ refused 17) ↔ (Ready plan state × (Roomy plan k declines room → ⊥))) ×
    ((outcome plan state k declines room ≡ refused 15) ↔ (Ready plan state × Roomy plan k declines room × (2 ^ 40 < state.clock + k))) ×
    ((outcome plan state k declines room ≡ done) ↔ (Ready plan state × Roomy plan k declines room × (state.clock + k ≤ 2 ^ 40)))

-- Slots a + b in number, each with a setting of its own, are a of them followed by b.
abbrev pub RunsJoin : Type 0
RunsJoin =
    (v : View) (cores n : ℕ) (settings settings' : List Setting) (supplies declines supplies' declines' left : List ℕ) →
    length settings ≡ length supplies → length supplies ≡ length declines →
    let one : Course = course_to v cores n settings supplies declines left (length supplies) in
    let two : Course = course_to v cores (n + length supplies) settings' supplies' declines' one.left (length supplies') in
    course_to v cores n (settings ++ settings') (supplies ++ supplies') (declines ++ declines') left (length supplies + length supplies') ≡
    record { left = two.left; answers = one.answers ++ two.answers }

-- A step that is done is one slot: its eight answers are the slot's, its counts are those after it, and the clock is one later.
abbrev pub StepIsSlot : Type 0
StepIsSlot =
    (setting : Setting) (plan : Plan) (state : Standing) (supplied declines : ℕ) → (stepped setting plan state supplied declines).outcome ≡ done →
    let next : SlotEnd = slot setting (view_of plan) plan.cores state.clock supplied declines state.left in
    stepped setting plan state supplied declines ≡
    record { outcome = done; state = record { clock = state.clock + 1; left = next.left }; grants = next.grants }

-- two results that say the same in document 01's terms are the same,
abbrev pub OneOutcome : Type 0
OneOutcome = (a b : Result (Unit {0}) Refusal) → said a ≡ said b → a ≡ b

-- and so are two starts, two runs and two steps that end alike: every equation allows one result and one state
abbrev pub OneFreshEnd : Type 0
OneFreshEnd = (a b : Result State Refusal) → fresh_end a ≡ fresh_end b → a ≡ b

abbrev pub OneRunEnd : Type 0
OneRunEnd = (a b : Result (Unit {0}) Refusal) (s t : State) → run_end a s ≡ run_end b t → (a ≡ b) × (s ≡ t)

abbrev pub OneStepEnd : Type 0
OneStepEnd = (a b : Result (List ℕ) Refusal) (s t : State) → step_end a s ≡ step_end b t → (a ≡ b) × (s ≡ t)

-- 01: "its left falls by one .. If there is nobody to take, the slot is idle; hosts already passed stay charged": whoever a supply or a host chooses has one
-- slot less after the walk, leaf or host, and whatever the walk finds below a host.
abbrev pub TakenIsCharged : Type 0
TakenIsCharged =
    (plan : Plan) → Sound plan → (passed : ℕ → Bool) (levels : ℕ) (x : Parent) (left : List ℕ) (i : ℕ) → choose (view_of plan) left passed x ≡ just i →
    get_or (walk (view_of plan) passed (suc levels) x left).left i 0 ≡ get_or left i 0 - 1
