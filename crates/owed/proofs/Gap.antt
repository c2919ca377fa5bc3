-- The ones of an allocation that is 0 on one stretch of slots and 1 on the rest of a window. Assumes nothing.
use Prim.Native.Nat.{ℕ, zero, suc, ◌+◌, ◌-◌, ◌≤◌, min, max}
use mathlib.Core.Bool.{not, ◌&&◌}
use mathlib.Core.Path.{◌≡◌}
use native.Mathlib.Nat.{add-zero, add-suc}
use native.Mathlib.Decide.{dec_le}
use native.Mathlib.Omega.{arith}
use lib.Dec.{leb, ltb}
use borrow.Author.Tests.{le-leb, lt-leb, lt-ltb, le-ltb}
use Rattle.meaning.specs.Allocation.{Allocation, bit, ones}

-- 0 from slot lo up to, not including, slot hi, and 1 elsewhere
abbrev pub gap : ℕ → ℕ → Allocation
gap lo hi m = not (leb lo m && ltb m hi)

one_more : (lo hi p m o n : ℕ) → p ≤ m → o + (min m hi - max p lo) ≡ n → o + bit (gap lo hi m) + (min (suc m) hi - max p lo) ≡ suc n
one_more lo hi p m o n h e = elim (dec_le lo m) [
  | yes low ↦ elim (dec_le (suc m) hi) [
    | yes high ↦ rw (le-leb lo m low, lt-ltb m hi high) (omega arith)
    | no high ↦ rw (le-leb lo m low, le-ltb m hi (omega arith)) (omega arith)
  ]
  | no low ↦ rw (lt-leb lo m (omega arith)) (omega arith)
]

-- a window's slots are its ones and its slots in the gap
pub gap_ones : (lo hi p n : ℕ) → ones (gap lo hi) p n + (min (p + n) hi - max p lo) ≡ n
unfolding ones
gap_ones lo hi p zero = omega (arith, add-zero p)
gap_ones lo hi p (suc n) = rw (add-suc p n) (one_more lo hi p (p + n) (ones (gap lo hi) p n) n (omega arith) (gap_ones lo hi p n))
