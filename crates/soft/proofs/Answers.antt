-- How many windows a served period can lose, as the code counts them. Assumes nothing.
use Rattle.std.proofs.Common.{◌-◌, ◌*◌, ◌/◌, ◌≤◌, ◌≡◌, true, arith}
use Rattle.std.proofs.Math.Nat.{div-mul-le_self, mul-le-mul_left}
use Prim.Native.Nat.{min}
use Rattle.meaning.specs.Types.{well_formed}
use Rattle.meaning.specs.Soft.{within_range}
use Rattle.meaning.specs.declared.SlotType.{SlotType}
use Rattle.meaning.specs.declared.Misses.{Misses}
use Rattle.meaning.proofs.WellFormed.{bounds, within_bounds}
use Rattle.soft.specs.Formula.{divides, lost_of_many}
use Rattle.soft.proofs.Lost.{closed}

module _ (served wanted : SlotType) where
  -- what the served periods of a window owe it is small
  pub owed_small : well_formed served ≡ true → well_formed wanted ≡ true → wanted.t / served.t * served.c ≤ 4096
  owed_small g w =
      omega (
        arith,
        bounds wanted w,
        mul-le-mul_left (wanted.t / served.t) (bounds served g).fits,
        div-mul-le_self wanted.t served.t,
      )

  -- where C' is not 0, as many can be lost as go without T' − (C' − 1) of the T − C slots, up to all of them
  pub asks_some : well_formed served ≡ true → well_formed wanted ≡ true → divides wanted.t served.t ≡ true → 1 ≤ wanted.c
      → lost_of_many served wanted ≡ min (served.t / wanted.t) ((served.t - served.c) / (wanted.t - (wanted.c - 1)))
  asks_some g w multiple asks = closed served wanted (bounds served g) (bounds wanted w) multiple asks

-- no more windows may be missed than a stretch has
pub misses_fit : (misses : Misses) → within_range misses ≡ true → misses.d ≤ misses.w
misses_fit misses h = (within_bounds misses h).fits
