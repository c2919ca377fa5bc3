-- What the calls that choose among a parent's children answer. Assumes nothing.
use Prim.Native.Nat.{ℕ, ◌+◌, ◌/◌, ◌^◌, ◌≤◌}
use mathlib.Core.Bool.{Bool, cond}
use mathlib.Core.List.{List}
use mathlib.Core.Path.{◌≡◌, refl, ap}
use lib.Bits.{bit_and, and_mask}
use lib.Dec.{eqb}
use native.Mathlib.Nat.{le_antisymm}
use native.Mathlib.Numerals.{add-one}
use Rattle.plans.specs.declared.Parent.{Parent}
use Rattle.dispatch.specs.View.{View, bit_of}
use Rattle.dispatch.specs.Choice.{nobody, eligible, prefer, consider, choose_to, choose}

-- a shift and a mask read a bit
pub bit_set : (w i : ℕ) → eqb (bit_and (w / 2 ^ i) 1) 1 ≡ bit_of w i
unfolding bit_of
bit_set w i = ap (λ x. eqb x 1) (and_mask (w / 2 ^ i) 1)

-- The loop over the nodes, whose invariant is best ≡ choose_to v left passed x i.
module _ (v : View) (left : List ℕ) (passed : ℕ → Bool) (x : Parent) where
  -- before the first node
  pub choose_none : choose_to v left passed x 0 ≡ nobody
  unfolding choose_to
  choose_none = refl

  module _ (i : ℕ) where
    -- one node more
    pub choose_more : choose_to v left passed x (i + 1) ≡ cond (eligible v left passed x i) (prefer v (choose_to v left passed x i) i) (choose_to v left passed x i)
    unfolding choose_to consider
    choose_more = rw (add-one i)

    -- past the last
    pub choose_done : i ≤ v.size → v.size ≤ i → choose_to v left passed x i ≡ choose v left passed x
    unfolding choose
    choose_done l h = ap (choose_to v left passed x) (le_antisymm l h)

pub ruleset choose_steps = (choose_none, choose_more, choose_done)
