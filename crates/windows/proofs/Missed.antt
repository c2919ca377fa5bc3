-- Windows met and windows missed: each window is one of the two, so to honour a soft type is to miss at most D in every stretch of W windows.
-- Assumes nothing.
use Prim.Native.Nat.{ℕ, zero, suc, ◌+◌, ◌*◌, ◌≤◌}
use mathlib.Core.Bool.{Bool, true, false, not}
use mathlib.Core.Path.{◌≡◌, refl}
use native.Mathlib.Omega.{arith}
use Rattle.meaning.specs.Allocation.{Allocation, bit, ones}
use Rattle.meaning.specs.Soft.{met, missed, HonoursSoft}
use Rattle.meaning.specs.declared.Kind.{Kind}
use Rattle.meaning.specs.declared.SlotType.{SlotType}
use Rattle.meaning.specs.declared.Misses.{Misses}

bit_or_not : (a : Bool) → bit a + bit (not a) ≡ 1
bit_or_not true = refl
bit_or_not false = refl

-- a window's slots are its ones and its zeros
pub ones_and_zeros : (α : Allocation) (s n : ℕ) → ones α s n + ones (λ m. not (α m)) s n ≡ n
unfolding ones
ones_and_zeros α s zero = refl
ones_and_zeros α s (suc n) = omega (arith, ones_and_zeros α s n, bit_or_not (α (s + n)))

-- of n windows, each is met or missed
pub met_or_missed : (k : Kind) (wanted : SlotType) (α : Allocation) (v n : ℕ) → ones (met k wanted α) v n + missed k wanted α v n ≡ n
met_or_missed k wanted α = ones_and_zeros (met k wanted α)

module _ (k : Kind) (wanted : SlotType) (misses : Misses) (α : Allocation) where
  -- an allocation that honours a soft type misses at most D windows in every stretch
  pub misses_few : HonoursSoft k wanted misses α → (b : ℕ) → missed k wanted α (b * misses.w) misses.w ≤ misses.d
  misses_few honours b = omega (arith, honours b, met_or_missed k wanted α (b * misses.w) misses.w)

  -- and one that does honours it
  pub few_honours : ((b : ℕ) → missed k wanted α (b * misses.w) misses.w ≤ misses.d) → HonoursSoft k wanted misses α
  few_honours few b = omega (arith, few b, met_or_missed k wanted α (b * misses.w) misses.w)
