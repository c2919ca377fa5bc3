-- The starts that are looked at say all there is to say of every wanted start, whatever the kinds of giver and wanted. Assumes nothing.
use Prim.Native.Nat.{ℕ, ◌*◌, ◌%◌, ◌≤◌, ◌<◌}
use mathlib.Core.Path.{◌≡◌, refl, sym}
use native.Mathlib.Nat.{mul-one, zero-mul, mod-lt, mod-eq_of_lt}
use native.Mathlib.Omega.{arith}
use Rattle.meaning.specs.Allocation.{Allocation, ones}
use Rattle.meaning.specs.Types.{Starts, Honours}
use Rattle.meaning.specs.Written.{written}
use Rattle.meaning.specs.declared.SlotType.{SlotType}
use Rattle.meaning.specs.declared.Kind.{Kind}
use Rattle.meaning.specs.declared.Kind.TheVariants.{Aligned, Sliding}
use Rattle.meaning.proofs.WellFormed.{Bounds}
use Rattle.owed.proofs.Bound.{bound, bound_sliding}
use Rattle.owed.proofs.Attained.{written_ones, written_aligned, written_sliding}
use Rattle.owed.proofs.Shape.{owed_turn}
use Rattle.types.specs.Least.{step, turns, ones_from, ones_at}

-- a wanted window's start is its number times the step
pub start_number : (wants : Kind) (wanted : SlotType) (s : ℕ) → Starts wants wanted.t s → (b : ℕ) × (s ≡ b * step wants wanted)
unfolding step
start_number Aligned wanted s h = h
start_number Sliding wanted s h = (s, sym (mul-one s))

-- and each number times the step is a wanted start
pub number_starts : (wants : Kind) (wanted : SlotType) (b : ℕ) → Starts wants wanted.t (b * step wants wanted)
unfolding step
number_starts Aligned wanted b = (b, refl)
number_starts Sliding wanted b = tt

-- the number of the start that is looked at for wanted window b
unfoldable pub turn : Kind → SlotType → ℕ → ℕ
turn Aligned giver b = b % giver.t
turn Sliding giver b = 0

-- it is one of those looked at
pub turn_lt : (gives : Kind) (giver : SlotType) → 0 < giver.t → (b : ℕ) → turn gives giver b < turns gives giver
unfolding turn turns
turn_lt Aligned giver some b = mod-lt b some
turn_lt Sliding giver some b = omega arith

-- and each of those is looked at for itself
pub turn_self : (gives : Kind) (giver : SlotType) (b : ℕ) → b < turns gives giver → turn gives giver b ≡ b
unfolding turn turns
turn_self Aligned giver b l = mod-eq_of_lt l
turn_self Sliding giver b l = omega arith

module _ {giver : SlotType} (well : Bounds giver) where
  -- an honouring allocation has in wanted window b at least the ones of the start that is looked at for it
  pub turn_none_fewer
      : (gives wants : Kind) (wanted : SlotType) (α : Allocation) → Honours gives giver α → (b : ℕ)
      → ones_at giver wants wanted (turn gives giver b) ≤ ones α (b * step wants wanted) wanted.t
  unfolding ones_at ones_from turn
  turn_none_fewer Aligned wants wanted α honours b =
      let at : ℕ = b % giver.t * step wants wanted in
      rw (written_ones giver.c giver.t well.some well.fits at wanted.t, ← owed_turn _ _ (step wants wanted) wanted.t b well.some)
      (bound giver.c giver.t well.some well.fits α (λ k. honours (k * giver.t) (k, refl)) (b * step wants wanted) wanted.t)
  turn_none_fewer Sliding wants wanted α honours b =
      rw (zero-mul (step wants wanted), written_ones giver.c giver.t well.some well.fits 0 wanted.t)
      (bound_sliding giver.c giver.t well.some well.fits α (λ s. honours s tt) (b * step wants wanted) wanted.t)

  -- and at a start that is looked at the written allocation honours the giver
  pub written_honours
      : (gives wants : Kind) (wanted : SlotType) (j : ℕ) → j < turns gives giver
      → Honours gives giver (written giver.c giver.t (j * step wants wanted) wanted.t)
  unfolding turns
  written_honours Aligned wants wanted j l s (b, e) =
      rw e (written_aligned giver.c giver.t well.some well.fits (j * step wants wanted) wanted.t b)
  written_honours Sliding wants wanted j l s h =
      let first : j ≡ 0 = omega arith in
      rw (first, zero-mul (step wants wanted)) (written_sliding giver.c giver.t well.some well.fits wanted.t s)
