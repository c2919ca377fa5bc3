-- The loops over counts, and what a test of all of them says. Assumes nothing.
use Prim.Native.Nat.{ℕ, ◌+◌, ◌≤◌}
use mathlib.Core.Bool.{cond}
use mathlib.Core.List.{List}
use mathlib.Core.Path.{◌≡◌, refl, ap}
use lib.ListN.{set, replicate}
use native.Mathlib.Nat.{le_antisymm}
use native.Mathlib.Numerals.{add-one}
use Rattle.dispatch.specs.View.{View}
use Rattle.dispatch.specs.Slot.{due, refill_one, refill_to, refilled}
use Rattle.dispatch.specs.Run.{fresh_to, fresh_left}

-- The loop of a fresh start, whose invariant is left ≡ fresh_to v i. Before the first node:
pub fresh_none : (v : View) → fresh_to v 0 ≡ replicate 64 0
unfolding fresh_to
fresh_none v = refl

module _ (v : View) (i : ℕ) where
  -- one node more
  pub fresh_more : fresh_to v (i + 1) ≡ set (fresh_to v i) i (v.c i)
  unfolding fresh_to
  fresh_more = rw (add-one i)

  -- past the last
  pub fresh_done : i ≤ v.size → v.size ≤ i → fresh_to v i ≡ fresh_left v
  unfolding fresh_left
  fresh_done l h = ap (fresh_to v) (le_antisymm l h)

pub ruleset fresh_steps = (fresh_none, fresh_more, fresh_done)

-- The loop of a refill, whose invariant is full ≡ refill_to v n left i. Before the first node:
pub refill_none : (v : View) (n : ℕ) (left : List ℕ) → refill_to v n left 0 ≡ left
unfolding refill_to
refill_none v n left = refl

module _ (v : View) (n : ℕ) (left : List ℕ) (i : ℕ) where
  -- a node that is due gets its served C, and any other keeps what it has
  pub refill_more : refill_to v n left (i + 1) ≡ cond (due v n i) (set (refill_to v n left i) i (v.c i)) (refill_to v n left i)
  unfolding refill_to refill_one
  refill_more = rw (add-one i)

  -- past the last
  pub refill_past : i ≤ v.size → v.size ≤ i → refill_to v n left i ≡ refilled v n left
  unfolding refilled
  refill_past l h = ap (refill_to v n left) (le_antisymm l h)

pub ruleset refill_steps = (refill_none, refill_more, refill_past)
