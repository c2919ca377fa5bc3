-- What a child's books tell: it is never charged more than its served C in a period. Assumes nothing.
use Prim.Native.Nat.{ℕ, zero, suc, ◌+◌, ◌-◌, ◌*◌, ◌/◌, ◌%◌, ◌≤◌, ◌<◌}
use mathlib.Core.Bool.{Bool, true, false}
use mathlib.Core.Path.{◌≡◌, refl, ap}
use native.Mathlib.Nat.{le_refl}
use native.Mathlib.Omega.{arith}
use Rattle.meaning.specs.Allocation.{Allocation, bit, ones}
use Rattle.owed.proofs.Ones.{ones_split}
use Rattle.levels.specs.Level.{Books}
use Rattle.levels.proofs.Periods.{at_most}

module _ {C T : ℕ} {has : ℕ → ℕ} {charged : Allocation} (books : Books C T has charged) where
  -- a child is charged at most its C in the first a slots of each period
  pub never_over_yet : (b a : ℕ) → a ≤ T → ones charged (b * T) a ≤ C
  unfolding ones
  never_over_yet b zero h = omega arith
  never_over_yet b (suc a) h = last (charged (b * T + a)) refl
    where
      last : (c : Bool) → charged (b * T + a) ≡ c → ones charged (b * T) a + bit c ≤ C
      last true e = omega (arith, books.balance b a h, books.left (b * T + a) e)
      last false e = omega (arith, books.balance b a h)

  -- so in each whole period
  pub never_over : (b : ℕ) → ones charged (b * T) T ≤ C
  never_over b = never_over_yet b T (le_refl T)

  -- and at most C * (t / T) in each period of t slots, where T divides t
  pub never_over_in : (t : ℕ) → t % T ≡ 0 → (b : ℕ) → ones charged (b * t) t ≤ C * (t / T)
  never_over_in = at_most C T charged never_over

  -- a child that is charged less than its C in a period has slots left all through it
  pub left_throughout : (b : ℕ) → ones charged (b * T) T < C → (a : ℕ) → a < T → 0 < has (b * T + a)
  left_throughout b short a l =
      let r : ℕ = T - a in
      let parts : T ≡ a + r = omega arith in
      omega (arith, books.balance b a l, ap (ones charged (b * T)) parts, ones_split charged (b * T) a r)
