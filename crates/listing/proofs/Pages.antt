-- Laws of writing pieces on a page, one behind the other. Assumes nothing.
use Rattle.std.proofs.Common.{ℕ, zero, suc, ◌+◌, ◌≤◌, ◌<◌, ◌≡◌, refl, ◌⊎◌, inl, inr, List, ◌++◌, length, arith, length-append, append_assoc}
use native.Mathlib.Nat.{le_refl, eq-or-lt_of_le}
use Rattle.listing.specs.Page.{OnPage}
use Rattle.layout.specs.Layout.{lays}

-- how texts are joined, and how long they then are
pub ruleset joined = (append_assoc, length-append)

-- a part of what is laid stands within the whole, behind the parts before it
lays_within : (f : ℕ → List ℕ) (i n : ℕ) → i < n → length (lays f i) + length (f i) ≤ length (lays f n)
unfolding lays
lays_within f i zero l = absurd (omega arith)
lays_within f i (suc n) l = go (eq-or-lt_of_le (omega arith)) (lays_within f i n)
  where
    go : (i ≡ n) ⊎ (i < n) → (i < n → length (lays f i) + length (f i) ≤ length (lays f n)) →
        length (lays f i) + length (f i) ≤ length (lays f n ++ f n)
    go (inl e) before = rw (e, length-append (lays f n) (f n)) (le_refl _)
    go (inr m) before = omega (arith, before m, length-append (lays f n) (f n))

-- what is laid is told by its parts
pub lays_ext : (f g : ℕ → List ℕ) (n : ℕ) → ((i : ℕ) → i < n → f i ≡ g i) → lays f n ≡ lays g n
unfolding lays
lays_ext f g zero h = refl
lays_ext f g (suc n) h = rw (lays_ext f g n (λ i l. h i (omega arith)), h n (omega arith))

-- where the parts before one are written, there is room for it
pub lays_room : (f : ℕ → List ℕ) (before : List ℕ) (i n : ℕ) (page x : List ℕ) → page ≡ before ++ lays f i → i < n →
    OnPage (before ++ lays f n) → x ≡ f i → OnPage (page ++ x)
lays_room f before i n page x so l h e = rw (so, e) (simp length-append (omega (arith, lays_within f i n l, simp length-append at h)))
