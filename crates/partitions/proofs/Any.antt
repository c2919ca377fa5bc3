-- A test of some number below n, and its laws. Assumes nothing.
use Prim.Native.Nat.{ℕ, zero, suc, ◌<◌}
use mathlib.Core.Bool.{Bool, true, false, ◌||◌, or-true}
use mathlib.Core.Logic.{◌⊎◌, inl, inr}
use mathlib.Core.Path.{◌≡◌, refl}
use native.Mathlib.Nat.{eq-or-lt_of_le, le_of_suc-le-suc}
use native.Mathlib.Omega.{arith}

-- whether a test holds of some number below n
unfoldable pub any : (ℕ → Bool) → ℕ → Bool
any f zero = false
any f (suc n) = any f n || f n

module _ (f : ℕ → Bool) where
  -- a test that holds of some number below n holds there
  pub any_found : (n : ℕ) → any f n ≡ true → (s : ℕ) × (s < n) × (f s ≡ true)
  unfolding any
  any_found zero e = absurd (let z : ◌≡◌ {A = ℕ} 0 1 = cc in omega arith)
  any_found (suc n) e = go (any f n) refl (any_found n)
    where
      go : (b : Bool) → any f n ≡ b → (any f n ≡ true → (s : ℕ) × (s < n) × (f s ≡ true)) → (s : ℕ) × (s < suc n) × (f s ≡ true)
      go true h before = let (s, l, at) = before h in (s, omega arith, at)
      go false h before = (n, omega arith, rw h at e)

  -- and one that holds of a number below n holds of some
  pub any_here : (n s : ℕ) → s < n → f s ≡ true → any f n ≡ true
  unfolding any
  any_here zero s l at = absurd (omega arith)
  any_here (suc n) s l at = go (eq-or-lt_of_le (le_of_suc-le-suc l)) (any_here n s)
    where
      go : (s ≡ n) ⊎ (s < n) → (s < n → f s ≡ true → any f n ≡ true) → (any f n || f n) ≡ true
      go (inl e) before = rw (← e, at) (or-true (any f s))
      go (inr m) before = rw (before m at)
