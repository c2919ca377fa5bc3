-- What is promised of the numbers: what is laid out in them reads back. Why it holds is in proofs/Kept.antt. Assumes nothing.
use Rattle.std.specs.Prelude.{ℕ, ◌<◌, true, ◌≡◌, length, get_or}
use Rattle.plans.specs.Plan.{zero_type, zero_node}
use Rattle.plans.specs.declared.Parent.{Parent}
use Rattle.plans.specs.declared.Parent.TheVariants.{Supply, Node as Under}
use Rattle.plans.specs.declared.Plan.{Plan}
use Rattle.dispatch.specs.Run.{Standing}
use Rattle.numbers.specs.Numbers.{plan_numbers, plan_of_numbers, is_plan, state_numbers, state_of_numbers, is_state}

-- a parent that a parent byte can name
abbrev pub Nameable : Parent → Type 0
Nameable (Supply s) = s < 128
Nameable (Under h) = h < 128

-- two numbers of 16 bits: a type's, and those of misses
pub record Short (x y : ℕ) : Type 0 where
  pub first : x < 65536
  pub second : y < 65536

-- a plan value as the code can hold one: its arrays are whole, and its numbers within their machine types; with parents that a parent byte can name
pub record Held (plan : Plan) : Type 0 where
  pub edition : plan.edition < 256
  pub supplies_whole : length plan.supplies ≡ 8
  pub nodes_whole : length plan.nodes ≡ 64
  pub supplies : (i : ℕ) → i < 8 → let a = get_or plan.supplies i zero_type in Short a.c a.t
  pub wanted : (i : ℕ) → i < 64 → let n = get_or plan.nodes i zero_node in Short n.wanted.c n.wanted.t
  pub misses : (i : ℕ) → i < 64 → let n = get_or plan.nodes i zero_node in Short n.misses.d n.misses.w
  pub served : (i : ℕ) → i < 64 → let n = get_or plan.nodes i zero_node in Short n.served.c n.served.t
  pub parents : (i : ℕ) → i < 64 → Nameable (get_or plan.nodes i zero_node).parent

-- a state as the code can hold one
pub record HeldState (state : Standing) : Type 0 where
  pub whole : length state.left ≡ 64
  pub counts : (i : ℕ) → i < 64 → get_or state.left i 0 < 65536

-- A value that is laid out takes its 533 or 65 numbers, each within its field (`fit`), and reading them back gives the value again.
pub record LaidOut (plan : Plan) : Type 0 where
  pub fit : is_plan (plan_numbers plan) ≡ true
  pub back : plan_of_numbers (plan_numbers plan) ≡ plan

abbrev pub PlanLaidOut : Type 0
PlanLaidOut = (plan : Plan) → Held plan → LaidOut plan

pub record StateLaidOut (state : Standing) : Type 0 where
  pub fit : is_state (state_numbers state) ≡ true
  pub back : state_of_numbers (state_numbers state) ≡ state

abbrev pub EveryStateLaidOut : Type 0
EveryStateLaidOut = (state : Standing) → HeldState state → StateLaidOut state
