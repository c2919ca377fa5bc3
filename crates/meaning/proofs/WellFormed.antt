-- Well formed, and within range, as a test and as bounds, each way. Assumes nothing.
use Prim.Native.Nat.{ℕ, ◌≤◌}
use mathlib.Core.Bool.{true, ◌&&◌, and-eq-true_iff}
use mathlib.Core.Path.{◌≡◌}
use lib.Dec.{leb}
use borrow.Author.Tests.{le-leb, leb-true}
use Rattle.meaning.specs.Types.{ranged, well_formed}
use Rattle.meaning.specs.Soft.{within_range}
use Rattle.meaning.specs.declared.SlotType.{SlotType}
use Rattle.meaning.specs.declared.Misses.{Misses}

-- the bounds of a well-formed type
pub record Bounds (a : SlotType) : Type 0 where
  pub some : 1 ≤ a.t
  pub most : a.t ≤ 4096
  pub fits : a.c ≤ a.t

-- and of misses within their range
pub record MissBounds (m : Misses) : Type 0 where
  pub some : 1 ≤ m.w
  pub most : m.w ≤ 1024
  pub fits : m.d ≤ m.w

module _ (c t most : ℕ) where
  -- in range as three bounds, and back
  ranged_bounds : ranged c t most ≡ true → (1 ≤ t) × (t ≤ most) × (c ≤ t)
  ranged_bounds e =
      let period = (and-eq-true_iff (leb 1 t) (leb t most && leb c t)).0 e in
      let rest = (and-eq-true_iff (leb t most) (leb c t)).0 period.1 in
      (leb-true 1 t period.0, leb-true t most rest.0, leb-true c t rest.1)

  bounds_ranged : 1 ≤ t → t ≤ most → c ≤ t → ranged c t most ≡ true
  bounds_ranged h l k = rw (le-leb 1 t h, le-leb t most l, le-leb c t k)

pub bounds : (a : SlotType) → well_formed a ≡ true → Bounds a
unfolding well_formed
bounds a e = let (h, l, k) = ranged_bounds a.c a.t 4096 e in record { some = h; most = l; fits = k }

pub bounds_well : (a : SlotType) → Bounds a → well_formed a ≡ true
unfolding well_formed
bounds_well a b = bounds_ranged a.c a.t 4096 b.some b.most b.fits

pub within_bounds : (m : Misses) → within_range m ≡ true → MissBounds m
unfolding within_range
within_bounds m e = let (h, l, k) = ranged_bounds m.d m.w 1024 e in record { some = h; most = l; fits = k }

pub bounds_within : (m : Misses) → MissBounds m → within_range m ≡ true
unfolding within_range
bounds_within m b = bounds_ranged m.d m.w 1024 b.some b.most b.fits
