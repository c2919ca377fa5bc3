-- A fresh state laid down in numbers, and a refused one. Assumes nothing.
use Prim.Native.Nat.{ℕ}
use mathlib.Core.Bool.{Bool, true}
use mathlib.Core.List.{List}
use mathlib.Core.Path.{◌≡◌, ◌∙◌}
use lib.Dec.{eqb}
use lib.ListN.{length, replicate}
use borrow.Author.Tests.{eqb-true}
use Rattle.std.specs.Prelude.{Ok, Err}
use Rattle.plans.specs.declared.Plan.{Plan}
use Rattle.plans.proofs.All.{right_true}
use Rattle.dispatch.specs.Run.{number, standing, fresh_end, started}
use Rattle.dispatch.specs.declared.State.{State}
use Rattle.dispatch.specs.declared.Refusal.{Refusal}
use Rattle.numbers.specs.Numbers.{plan_of_numbers, state_numbers, state_laid}
use Rattle.numbers.proofs.Down.{state_down}
use Rattle.exports.specs.Exports.{placeless, refusal, are_whole, freshening}

module _ (plan lent : List ℕ) (whole : are_whole plan lent ≡ true) where
  -- a state that has its length has 65 numbers
  pub whole_state : length lent ≡ 65
  unfolding are_whole
  whole_state = eqb-true (length lent) 65 (right_true (eqb (length plan) 533) (eqb (length lent) 65) whole)

  module _ (p : Plan) (is : p ≡ plan_of_numbers plan) where
    -- a fresh state is laid down,
    pub fresh_laid : (s : State) → fresh_end (Ok s) ≡ started p → (before after : List ℕ) → length before ≡ length lent → (d : Bool) →
        (d, after) ≡ state_laid (standing s) before → (0, after) ≡ freshening plan lent
    unfolding freshening
    fresh_laid s e before after same d laid =
        let down = state_down s before (same ∙ whole_state) d after laid in
        rw (whole, ← is, ← e, down)

    -- and zeros where it is refused
    pub fresh_refused : (r : Refusal) → fresh_end (Err r) ≡ started p → (zeros : List ℕ) → zeros ≡ replicate 65 0 →
        (refusal (number r) placeless, zeros) ≡ freshening plan lent
    unfolding freshening state_numbers
    fresh_refused r e zeros all = rw (whole, ← is, ← e, all)
