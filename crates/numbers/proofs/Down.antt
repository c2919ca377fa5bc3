-- Whether a value is laid down, and what is there afterwards: one law a return. Assumes nothing.
use Rattle.std.proofs.lemmas.List.Edits.{paste_more}
use Prim.Native.Nat.{ℕ, ◌+◌, ◌≤◌, ◌<◌}
use native.Mathlib.Nat.{le_antisymm}
use mathlib.Core.Bool.{Bool, true, false}
use mathlib.Core.List.{List, ◌∷◌, ◌++◌, append-nil}
use mathlib.Core.Path.{◌≡◌, ap, ◌∙◌}
use native.Mathlib.Omega.{arith}
use lib.ListN.{length, get_or, set, take, length-set, drop_of_length-le}
use lib.Seq.{paste, take_all, take-suc-set}
use borrow.Author.Tests.{le-leb, eq-eqb, ne_eqb}
use Rattle.plans.specs.declared.Plan.{Plan}
use Rattle.dispatch.specs.Run.{standing}
use Rattle.dispatch.specs.declared.State.{State}
use Rattle.numbers.specs.Numbers.{plan_numbers, plan_laid, state_numbers, state_laid}

-- a plan value that fits is laid down, so that a caller that has seen to all this finds it there
pub plan_down : (plan : Plan) (l : List ℕ) → length l ≡ 533 → plan.cores ≤ 4294967295 → plan.size ≤ 4294967295 →
    (b : Bool) (r : List ℕ) → (b, r) ≡ plan_laid plan l → r ≡ plan_numbers plan
unfolding plan_laid
plan_down plan l whole few small b r e =
    ap (λ x. x.1) (rw (eq-eqb (length l) 533 whole, le-leb plan.cores 4294967295 few, le-leb plan.size 4294967295 small) at e)

-- A state is not laid down in another number than 65,
module _ (state : State) (l : List ℕ) where
  pub state_unlaid : (length l ≡ 65 → ⊥) → (false, l) ≡ state_laid (standing state) l
  unfolding state_laid
  state_unlaid h = rw (ne_eqb (length l) 65 h)

  module _ (whole : length l ≡ 65) (counts : length state.left ≡ 64) (i : ℕ) (out : List ℕ) (e : out ≡ paste (set l 0 state.clock) 1 state.left i) where
    long : length (set l 0 state.clock) ≡ 65
    long = length-set l 0 state.clock ∙ whole

    -- One count more is laid down,
    pub count_put : i < 64 → (x : ℕ) → x ≡ get_or state.left i 0 → set out (1 + i) x ≡ paste (set l 0 state.clock) 1 state.left (i + 1)
    count_put h x is = rw (e, is) (paste_more (set l 0 state.clock) 1 state.left i 0 (omega (arith, long)) (omega arith))

    -- and past the last a clock and 64 counts take up all 65
    pub state_put : i ≤ 64 → 64 ≤ i → (true, out) ≡ state_laid (standing state) l
    unfolding state_laid state_numbers
    state_put below past =
        let all : out ≡ state.clock ∷ state.left =
        e
        ∙ ap (λ n. paste (set l 0 state.clock) 1 state.left n) (le_antisymm below past)
        ∙ ap (λ x. take 1 (set l 0 state.clock) ++ take 64 state.left ++ x) (drop_of_length-le (set l 0 state.clock) {i = 1 + 64} (omega (arith, long)))
        ∙ append-nil (take 1 (set l 0 state.clock) ++ take 64 state.left)
        ∙ ap (λ x. take 1 (set l 0 state.clock) ++ x) (take_all 64 state.left (omega arith))
        ∙ ap (λ x. x ++ state.left) (take-suc-set l 0 state.clock (omega arith)) in
        rw (eq-eqb (length l) 65 whole, all)

  -- so that a caller that has seen to the length finds it laid down
  pub state_down : length l ≡ 65 → (b : Bool) (r : List ℕ) → (b, r) ≡ state_laid (standing state) l → r ≡ state_numbers (standing state)
  unfolding state_laid
  state_down whole b r e = ap (λ x. x.1) (rw (eq-eqb (length l) 65 whole) at e)
