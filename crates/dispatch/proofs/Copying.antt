-- The laws of a loop that copies the first n elements of a list s to `at` of a buffer d. Its invariant: (i ≤ n) × (out ≡ paste d at s i). Assumes nothing.
use Prim.Native.Nat.{ℕ, ◌+◌, ◌≤◌, ◌<◌}
use mathlib.Core.List.{List, ◌++◌, append-nil}
use mathlib.Core.Path.{◌≡◌, ap, ◌∙◌}
use native.Mathlib.Nat.{zero-add, le_antisymm}
use native.Mathlib.Numerals.{add-one}
use native.Mathlib.Omega.{arith}
use lib.ListN.{length, get_or, set, take, drop, drop_of_length-le}
use lib.Seq.{paste, paste-suc, length-paste, take_all}

-- s has l elements and d has m
module _ (d : List ℕ) (at : ℕ) (s : List ℕ) (n l m : ℕ) (long : length s ≡ l) (few : n ≤ l) (room : at + n ≤ m) (wide : length d ≡ m)
    (out : List ℕ) (i : ℕ) (e : out ≡ paste d at s i) where
  -- the buffer keeps its length
  pub copied_length : i ≤ n → length out ≡ length d
  copied_length h = ap length e ∙ length-paste d at s i (omega arith) (omega arith)

  module _ (h : i < n) (k : ℕ) (here : at + i ≡ k) where
    -- there is a place for the next element
    pub copied_place : k < length out
    copied_place = omega (arith, copied_length (omega arith))

    -- one element more
    pub copied_more : (v : ℕ) → v ≡ get_or s i 0 → set out k v ≡ paste d at s (i + 1)
    copied_more v is = rw (← here, is, e, add-one i) (paste-suc d at s i 0 (omega arith) (omega arith))

-- past the last element
module _ (d : List ℕ) (at : ℕ) (s : List ℕ) (n : ℕ) (out : List ℕ) (i : ℕ) (e : out ≡ paste d at s i) (l : i ≤ n) (h : n ≤ i) where
  pub copied_done : out ≡ paste d at s n
  copied_done = e ∙ ap (paste d at s) (le_antisymm l h)

-- the same, at the front of the buffer
module _ (d s : List ℕ) (n : ℕ) (out : List ℕ) (i : ℕ) (e : out ≡ paste d 0 s i) (l : i ≤ n) (h : n ≤ i) where
  pub copied_front : out ≡ take n s ++ drop n d
  copied_front = copied_done d 0 s n out i e l h ∙ ap (λ k. take n s ++ drop k d) (zero-add n)

  -- a copy that takes up the whole buffer leaves just what was copied
  pub copied_all : length d ≡ n → length s ≡ n → out ≡ s
  copied_all room whole =
      copied_front ∙ ap (λ r. take n s ++ r) (drop_of_length-le d {i = n} (omega arith)) ∙ append-nil (take n s) ∙ take_all n s (omega arith)
