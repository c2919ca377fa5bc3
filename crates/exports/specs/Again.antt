-- What is promised of a state that a call hands back: the next call with the same plan takes it, as it was handed back. Why it holds is in
-- proofs/Again.antt. Assumes nothing.
use Rattle.std.specs.Prelude.{ℕ, true, List, ◌≡◌, length}
use Rattle.dispatch.specs.Run.{Standing, started, ran, stepped}
use Rattle.numbers.specs.Numbers.{plan_of_numbers, state_of_numbers, is_state}
use Rattle.exports.specs.Exports.{placeless, refusal, setting_numbered, freshening, stepping, running}

-- The numbers that are left for the state `after`: they are a state's, 65 of them and each within its field; they read back as that very state; and neither
-- a step nor a run with this plan answers 16 for it, under whatever setting.
pub record HandedBack (plan : List ℕ) (after : Standing) (numbers : List ℕ) : Type 0 where
  pub fit : is_state numbers ≡ true
  pub back : state_of_numbers numbers ≡ after
  pub step : (setting supplied declines : ℕ) (grants : List ℕ) → (stepping setting plan numbers supplied declines grants).0 ≡ refusal 16 placeless → ⊥
  pub run : (setting : ℕ) (supplies declines out : List ℕ) → (running setting plan numbers supplies declines out).0 ≡ refusal 16 placeless → ⊥

-- after a fresh start that answers 0
abbrev pub FreshHandsBack : Type 0
FreshHandsBack =
    (plan lent : List ℕ) → let w = freshening plan lent in w.0 ≡ 0 → HandedBack plan (started (plan_of_numbers plan)).state w.1

-- after a step that answers 0
abbrev pub StepHandsBack : Type 0
StepHandsBack =
    (setting : ℕ) (plan state : List ℕ) (supplied declines : ℕ) (grants : List ℕ) →
    let w = stepping setting plan state supplied declines grants in
    w.0 ≡ 0 → HandedBack plan (stepped (setting_numbered setting) (plan_of_numbers plan) (state_of_numbers state) supplied declines).state w.1

-- after a run that answers 0
abbrev pub RunHandsBack : Type 0
RunHandsBack =
    (setting : ℕ) (plan state supplies declines out : List ℕ) →
    let w = running setting plan state supplies declines out in
    w.0 ≡ 0 → HandedBack plan (ran (setting_numbered setting) (plan_of_numbers plan) (state_of_numbers state) supplies declines (length out)).state w.1
