-- Children of one parent, of any two of whose periods one divides the other: the longest period is a multiple of each. Assumes nothing.
use Prim.Native.Nat.{ℕ, ◌*◌, ◌/◌, ◌%◌, ◌≤◌, ◌<◌}
use mathlib.Core.Bool.{Bool, true, false, cond}
use mathlib.Core.Logic.{◌⊎◌, inl, inr}
use mathlib.Core.Path.{◌≡◌, refl}
use native.Mathlib.Nat.{le_antisymm, le_of_dvd, dvd_of_mod-eq-zero, div-add-mod', mod_self}
use native.Mathlib.Omega.{arith}
use Rattle.rules.specs.Fit.{most_to}
use Rattle.rules.proofs.Totals.{most_ge, most_one}

-- t slots are t / T whole periods of T slots, where T divides t
pub whole_periods : (t T : ℕ) → t % T ≡ 0 → t / T * T ≡ t
whole_periods t T e = omega (arith, div-add-mod' t T)

-- of two periods of which one divides the other, the longer is a multiple
pub longer_multiple : (a b : ℕ) → 0 < a → a ≤ b → (a % b ≡ 0) ⊎ (b % a ≡ 0) → b % a ≡ 0
longer_multiple a b some fits (inl e) =
    let same : a ≡ b = le_antisymm fits (le_of_dvd some (dvd_of_mod-eq-zero b e)) in
    rw same (mod_self b)
longer_multiple a b some fits (inr e) = e

module _ (child : ℕ → Bool) (t : ℕ → ℕ) (size : ℕ) where
  -- a period where it is a child's, and 0 elsewhere
  abbrev periods : ℕ → ℕ
  periods j = cond (child j) (t j) 0

  module _ (i : ℕ) (there : i < size) (is : child i ≡ true) where
    -- no child's period is over the longest
    pub longest_ge : t i ≤ most_to periods size
    longest_ge = rw is at (most_ge periods size i there)

    -- and each divides it
    pub longest_multiple : 0 < t i → ((k : ℕ) → k < size → child k ≡ true → (t i % t k ≡ 0) ⊎ (t k % t i ≡ 0)) → most_to periods size % t i ≡ 0
    longest_multiple some alike =
        let top = most_one periods size (omega (arith, longest_ge)) in
        by top.at (child top.at) refl top.below top.is
      where
        by : (k : ℕ) (b : Bool) → child k ≡ b → k < size → cond b (t k) 0 ≡ most_to periods size → most_to periods size % t i ≡ 0
        by k true e m last = rw (← last) (longer_multiple (t i) (t k) some (omega (arith, longest_ge)) (alike k m e))
        by k false e m last = absurd (omega (arith, longest_ge))
