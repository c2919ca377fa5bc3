-- A list filled from the front: what fills it, and the laws of a loop that does so, one entry a turn. Its invariant: all ≡ filled f xs i. Assumes nothing.
use Prim.Native.Nat.{ℕ, zero, suc, ◌+◌, ◌≤◌, ◌<◌}
use mathlib.Core.List.{List}
use mathlib.Core.Path.{◌≡◌, refl}
use native.Mathlib.Nat.{le_antisymm}
use native.Mathlib.Numerals.{add-one}
use native.Mathlib.Omega.{arith}
use lib.ListN.{set}
use Rattle.decode.specs.Decode.{filled}

module _ {A : Type 0} (f : ℕ → A) (xs : List A) where
  -- entries that agree fill it alike
  pub filled_ext : (g : ℕ → A) (n : ℕ) → ((i : ℕ) → i < n → f i ≡ g i) → filled f xs n ≡ filled g xs n
  unfolding filled
  filled_ext g zero h = refl
  filled_ext g (suc n) h = rw (filled_ext g n (λ i l. h i (omega arith)), h n (omega arith))

  -- with nothing filled in yet the list is as it was
  pub filled_none : xs ≡ filled f xs 0
  unfolding filled
  filled_none = refl

  module _ (all : List A) (i : ℕ) (e : all ≡ filled f xs i) where
    -- one entry more
    pub filled_more : (v : A) → v ≡ f i → set all i v ≡ filled f xs (i + 1)
    unfolding filled
    filled_more v h = rw (add-one i, h, e)

    -- the loop is done
    pub filled_done : (n : ℕ) → i ≤ n → n ≤ i → all ≡ filled f xs n
    filled_done n l h = rw (← le_antisymm l h) e
