-- The count is the least of any wanted window, and the first start looked at that falls short is the first of all. Assumes nothing.
use Prim.Native.Nat.{ℕ, ◌*◌, ◌≤◌, ◌<◌}
use mathlib.Core.Path.{◌≡◌, refl, sym}
use mathlib.Core.Logic.{◌⊎◌, inl, inr}
use native.Mathlib.Nat.{le_trans, le_antisymm, lt_of_mul-lt-mul_right}
use native.Mathlib.Omega.{arith}
use Rattle.meaning.specs.Allocation.{Allocation, ones}
use Rattle.meaning.specs.Least.{lowest}
use Rattle.meaning.specs.Types.{Honours}
use Rattle.meaning.specs.Written.{written}
use Rattle.meaning.specs.declared.SlotType.{SlotType}
use Rattle.meaning.specs.declared.Kind.{Kind}
use Rattle.meaning.proofs.WellFormed.{Bounds}
use Rattle.owed.proofs.Ones.{ones_le}
use Rattle.owed.proofs.Lowest.{lowest_le, lowest_from}
use Rattle.types.specs.Least.{step, turns, ones_from, ones_at, least_ones, first_below, first_short}
use Rattle.types.specs.Promises.{LeastOf, FirstFailing}
use Rattle.types.proofs.KeptFirst.{First, first_below_lem}
use Rattle.types.proofs.KeptStarts.{start_number, number_starts, turn, turn_lt, turn_self, turn_none_fewer, written_honours}

module _ (gives : Kind) {giver : SlotType} (wants : Kind) (wanted : SlotType) (well : Bounds giver) where
  -- the count is that of one of the starts looked at
  least_reached : (j : ℕ) × (j < turns gives giver) × (least_ones gives giver wants wanted ≡ ones_at giver wants wanted j)
  unfolding least_ones ones_at ones_from
  least_reached = go (lowest_from f wanted.t n)
    where
      f : ℕ → ℕ
      f = ones_at giver wants wanted

      n : ℕ
      n = turns gives giver

      Reached : Type 0
      Reached = (j : ℕ) × (j < n) × (lowest f wanted.t n ≡ f j)

      go : (lowest f wanted.t n ≡ wanted.t) ⊎ Reached → Reached
      go (inr h) = h
      go (inl e) =
          let j : ℕ = turn gives giver 0 in
          let s : ℕ = j * step wants wanted in
          let l : j < n = turn_lt gives giver well.some 0 in
          let most : f j ≤ wanted.t = ones_le (written giver.c giver.t s wanted.t) s wanted.t in
          (j, l, le_antisymm (lowest_le f wanted.t n j l) (rw e most))

  -- the count is the least of any wanted window
  pub least_of_lem : LeastOf gives giver wants wanted (least_ones gives giver wants wanted)
  unfolding least_ones ones_at ones_from
  least_of_lem =
      let (j, l, e) = least_reached in
      record {
        none_fewer = λ α honours s starts.
            let (b, at_b) = start_number wants wanted s starts in
            let looked-at = lowest_le (ones_at giver wants wanted) wanted.t (turns gives giver) (turn gives giver b) (turn_lt gives giver well.some b) in
            rw at_b (le_trans looked-at (turn_none_fewer well gives wants wanted α honours b));
        allocation = written giver.c giver.t (j * step wants wanted) wanted.t;
        honours = written_honours well gives wants wanted j l;
        start = j * step wants wanted;
        starts = number_starts wants wanted j;
        just = sym e;
      }

  -- the first start looked at that falls short is the first of all
  pub first_failing
      : least_ones gives giver wants wanted < wanted.c
      → FirstFailing gives giver wants wanted (first_short gives giver wants wanted) (ones_from giver wanted (first_short gives giver wants wanted))
  unfolding first_short ones_at ones_from
  first_failing fewer =
      let (j, l, e) = least_reached in
      let f : ℕ → ℕ = ones_at giver wants wanted in
      let i : ℕ = first_below f wanted.c 0 (turns gives giver) in
      let found : First f wanted.c (turns gives giver) i = first_below_lem f wanted.c (turns gives giver) j l (rw (← e) fewer) in
      let here : (k : ℕ) → k ≤ i → (α : Allocation) → Honours gives giver α → f k ≤ ones α (k * step wants wanted) wanted.t =
      λ k before α honours. rw (turn_self gives giver k (omega arith)) at (turn_none_fewer well gives wants wanted α honours k) in
      record {
        starts = number_starts wants wanted i;
        honours = written_honours well gives wants wanted i found.within;
        just = refl;
        falls_short = found.below;
        none_fewer = here i (omega arith);
        first = λ z before starts α honours.
            let (b, at_b) = start_number wants wanted z starts in
            let sooner : b < i = lt_of_mul-lt-mul_right (step wants wanted) (rw at_b at before) in
            rw at_b (le_trans (found.earlier b sooner) (here b (omega arith) α honours));
      }
