-- What it is for bytes to hold others from a place on, and how that goes with ++ and `lays`. Assumes nothing.
use Prim.Native.Nat.{ℕ, zero, suc, ◌+◌, ◌-◌, ◌*◌, ◌≤◌, ◌<◌}
use mathlib.Core.List.{List, [], ◌++◌}
use mathlib.Core.Logic.{◌⊎◌, inl, inr}
use mathlib.Core.Path.{◌≡◌, sym, ap, ◌∙◌}
use native.Mathlib.Decide.{dec_lt}
use native.Mathlib.Nat.{eq-or-lt_of_le, zero-add}
use native.Mathlib.Omega.{arith}
use lib.ListN.{length, get_or, take, drop, length-append, length-take, length-drop, get_or-append}
use lib.Seq.{ext_get_or, get_or-append-add, get_or-take, get_or-drop}
use Rattle.fields.specs.Fields.{byte_at}
use Rattle.layout.specs.Layout.{lays}

-- the bytes s hold the bytes x from k on
pub record Holds (s : List ℕ) (k : ℕ) (x : List ℕ) : Type 0 where
  pub within : k + length x ≤ length s
  pub bytes : (j : ℕ) → j < length x → byte_at s (k + j) ≡ get_or x j 0

-- bytes hold themselves
pub holds_self : (s : List ℕ) → Holds s 0 s
unfolding byte_at
holds_self s = record { within = omega arith; bytes = λ j h. ap (λ k. get_or s k 0) (zero-add j) }

-- nothing is held at any place up to the end
pub holds_none : (s : List ℕ) (k : ℕ) → k ≤ length s → Holds s k []
holds_none s k h = record { within = omega arith; bytes = λ j l. absurd (omega arith) }

-- what is held is the part of the bytes there
pub holds_part : (s : List ℕ) (k : ℕ) (x : List ℕ) → Holds s k x → take (length x) (drop k s) ≡ x
unfolding byte_at
holds_part s k x h =
    let long : length (take (length x) (drop k s)) ≡ length x = simp (length-take, length-drop) (omega (arith, h.within)) in
    ext_get_or 0 _ x long (λ j m. get_or-take (length x) (drop k s) j 0 (omega arith) ∙ get_or-drop k s j 0 ∙ h.bytes j (omega arith))

module _ (s : List ℕ) (k : ℕ) (x y : List ℕ) where
  -- of a join that is held, the first part is held there,
  pub holds_left : Holds s k (x ++ y) → Holds s k x
  holds_left h =
      record {
        within = omega (arith, h.within, length-append x y);
        bytes = λ j m. h.bytes j (omega (arith, length-append x y)) ∙ get_or-append x y 0 j m;
      }

  -- and the second part after it;
  pub holds_right : Holds s k (x ++ y) → Holds s (k + length x) y
  holds_right h =
      record {
        within = omega (arith, h.within, length-append x y);
        bytes =
            λ j m. ap (byte_at s) (omega arith) ∙ h.bytes (length x + j) (omega (arith, length-append x y)) ∙ get_or-append-add x y j 0;
      }

  -- and of two parts so held the join is
  pub holds_join : Holds s k x → Holds s (k + length x) y → Holds s k (x ++ y)
  holds_join a b =
      record { within = omega (arith, b.within, length-append x y); bytes = λ j m. go j (omega (arith, length-append x y)) (dec_lt j (length x)) }
    where
      go : (j : ℕ) → j < length x + length y → Dec (j < length x) → byte_at s (k + j) ≡ get_or (x ++ y) j 0
      go j m (yes l) = a.bytes j l ∙ sym (get_or-append x y 0 j l)
      go j m (no l) =
          let at : j ≡ length x + (j - length x) = omega arith in
          ap (byte_at s) (omega arith) ∙ b.bytes (j - length x) (omega arith) ∙ sym (get_or-append-add x y (j - length x) 0) ∙
          ap (λ i. get_or (x ++ y) i 0) (sym at)

-- what is held at a place is held there by any name of the place
pub holds_at : (s : List ℕ) (k l : ℕ) (x : List ℕ) → k ≡ l → Holds s k x → Holds s l x
holds_at s k l x e h = rw e at h

module _ (f : ℕ → List ℕ) where
  -- parts that start at `at 0`, `at 1`, .., each where the one before it ends
  module _ (at : ℕ → ℕ) where
    -- end at `at n`, n of them
    pub lays_end : (n : ℕ) → ((i : ℕ) → i < n → at (suc i) ≡ at i + length (f i)) → at n ≡ at 0 + length (lays f n)
    unfolding lays
    lays_end zero step = omega arith
    lays_end (suc n) step =
        omega (arith, step n (omega arith), lays_end n (λ i h. step i (omega arith)), length-append (lays f n) (f n))

    -- and are held one after the other where each is held at its start
    pub lays_held : (s : List ℕ) (n : ℕ) → ((i : ℕ) → i < n → at (suc i) ≡ at i + length (f i)) → at 0 ≤ length s →
        ((i : ℕ) → i < n → Holds s (at i) (f i)) → Holds s (at 0) (lays f n)
    unfolding lays
    lays_held s zero step h held = holds_none s (at 0) h
    lays_held s (suc n) step h held =
        let before = lays_held s n (λ i l. step i (omega arith)) h (λ i l. held i (omega arith)) in
        let last = holds_at s _ _ (f n) (lays_end n (λ i l. step i (omega arith))) (held n (omega arith)) in
        holds_join s (at 0) (lays f n) (f n) before last

  -- where parts are held one after the other, each is held at the end of those before it
  pub lays_part : (s : List ℕ) (k n i : ℕ) → i < n → Holds s k (lays f n) → Holds s (k + length (lays f i)) (f i)
  unfolding lays
  lays_part s k zero i l h = absurd (omega arith)
  lays_part s k (suc n) i l h = go (eq-or-lt_of_le (omega arith)) (λ m. lays_part s k n i m (holds_left s k (lays f n) (f n) h))
    where
      go : (i ≡ n) ⊎ (i < n) → (i < n → Holds s (k + length (lays f i)) (f i)) → Holds s (k + length (lays f i)) (f i)
      go (inl e) before = rw e (holds_right s k (lays f n) (f n) h)
      go (inr m) before = before m

  -- n parts of length w
  pub lays_length : (w : ℕ) → ((i : ℕ) → length (f i) ≡ w) → (n : ℕ) → length (lays f n) ≡ w * n
  unfolding lays
  lays_length w each zero = omega arith
  lays_length w each (suc n) = omega (arith, length-append (lays f n) (f n), lays_length w each n, each n)
