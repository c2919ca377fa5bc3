-- Numbers within their fields or not, as the code says it by an Option. Assumes nothing.
use Prim.Native.Nat.{ℕ, zero, suc, ◌+◌, ◌-◌, ◌*◌, ◌/◌, ◌≤◌, ◌<◌}
use mathlib.Core.Bool.{Bool, true, false}
use mathlib.Core.List.{List, []}
use mathlib.Core.Path.{◌≡◌, refl, sym, ap, ◌∙◌}
use Rattle.std.proofs.Math.Nat.{mul-suc}
use native.Mathlib.Omega.{arith}
use lib.ListN.{length, get_or, set, take, drop, length-drop}
use lib.Seq.{length-take-le}
use Rattle.std.specs.Prelude.{Option, Some, None}
use Rattle.meaning.specs.declared.SlotType.{SlotType}
use Rattle.plans.specs.declared.Node.{Node}
use Rattle.std.specs.Simd.{first_chunks}
use Rattle.std.proofs.lemmas.List.{get_or-drop, get_or-take, get_or_default}
use Rattle.plans.specs.Sound.{all}
use Rattle.plans.proofs.All.{all_stop, all_more, all_done}
use Rattle.decode.specs.Decode.{filled}
use Rattle.decode.proofs.Filled.{filled_more, filled_done}
use Rattle.numbers.specs.Numbers.{
  is_pair,
  is_node,
  supply_place,
  node_place,
  is_supply_at,
  is_node_at,
  type_from,
  misses_from,
  node_from,
  supply_in,
  node_in,
  where_fit,
}

module _ {A : Type 0} where
  -- a value is handed out where they are,
  pub fit_some : (b : Bool) (x y : A) → where_fit b x ≡ Some y → (b ≡ true) × (x ≡ y)
  fit_some true x y e = grind arith
  fit_some false x y e = absurd (cc)

  -- and none where they are not
  pub fit_none : (b : Bool) (x : A) → where_fit b x ≡ None → b ≡ false
  fit_none true x e = absurd (cc)
  fit_none false x e = refl

-- A loop that takes f 0, f 1, .. below n into an array while t holds of each. Its invariant: (all t i ≡ true) × (out ≡ filled f zeros i).
module _ {A : Type 0} (t : ℕ → Bool) (f : ℕ → A) (zeros out : List A) (i : ℕ) (passed : all t i ≡ true) (filling : out ≡ filled f zeros i) where
  -- there is none where one fails;
  pub taken_stop : (n : ℕ) → i < n → None ≡ where_fit (t i) (f i) → None ≡ where_fit (all t n) (filled f zeros n)
  taken_stop n l h = rw (sym (all_stop t n i (t i) refl (fit_none (t i) (f i) (sym h)) l))

  -- one more,
  pub taken_more : (v : A) → Some v ≡ where_fit (t i) (f i) → (all t (i + 1) ≡ true) × (set out i v ≡ filled f zeros (i + 1))
  taken_more v h =
      let said = fit_some (t i) (f i) v (sym h) in
      (all_more t i passed (t i) refl said.0, filled_more f zeros out i filling v (sym said.1))

  -- and past the last
  pub taken_done : (n : ℕ) → i ≤ n → n ≤ i → Some out ≡ where_fit (all t n) (filled f zeros n)
  taken_done n l h = rw (sym (all_done t i passed n l h), sym (filled_done f zeros out i filling n l h))

-- entry j of chunk i
chunk_at : (w m : ℕ) (xs : List ℕ) (i j : ℕ) → i < m → j < w → get_or (get_or (first_chunks w m xs) i []) j 0 ≡ get_or xs (w * i + j) 0
chunk_at w zero xs i j h l = absurd (omega arith)
chunk_at w (suc m) xs zero j h l = get_or-take w xs j 0 l ∙ ap (λ k. get_or xs k 0) (omega arith)
chunk_at w (suc m) xs (suc i) j h l =
    chunk_at w m (drop w xs) i j (omega arith) l ∙ get_or-drop w xs (w * i + j) 0 ∙ ap (λ k. get_or xs k 0) (omega (arith, mul-suc w i))

-- chunks of w numbers, cut from the m numbers from k on
module _ (xs : List ℕ) (k m w : ℕ) (chunks : List (List ℕ)) where
  chunk_read : chunks ≡ first_chunks w (length (take m (drop k xs)) / w) (take m (drop k xs)) →
      (i j p : ℕ) → i < length (take m (drop k xs)) / w → j < w → w * i + j < m → p ≡ k + (w * i + j) → get_or (get_or chunks i []) j 0 ≡ get_or xs p 0
  chunk_read cut i j p l h below e =
      ap (λ x. get_or (get_or x i []) j 0) cut
      ∙ chunk_at w (length (take m (drop k xs)) / w) (take m (drop k xs)) i j l h
      ∙ get_or-take m (drop k xs) (w * i + j) 0 below
      ∙ get_or-drop k xs (w * i + j) 0
      ∙ ap (λ n. get_or xs n 0) (sym e)

-- the pairs and the eights of a plan's numbers
module _ (xs : List ℕ) (whole : length xs ≡ 533) (chunks : List (List ℕ)) where
  -- there are 8 pairs,
  pub pairs_many : length chunks ≡ length (take 16 (drop 4 xs)) / 2 → length chunks ≡ 8
  pairs_many e = e ∙ ap (λ n. n / 2) (length-take-le 16 (drop 4 xs) (omega (arith, length-drop 4 xs)))

  -- supply i is in pair i;
  pub pair_read : chunks ≡ first_chunks 2 (length (take 16 (drop 4 xs)) / 2) (take 16 (drop 4 xs)) →
      length chunks ≡ length (take 16 (drop 4 xs)) / 2 → (i : ℕ) (x : List ℕ) (r : Option SlotType) → i < length chunks → x ≡ get_or chunks i x →
      r ≡ where_fit (is_pair x 0) (type_from x 0) → r ≡ where_fit (is_supply_at xs i) (supply_in xs i)
  unfolding is_supply_at supply_place supply_in is_pair type_from
  pair_read cut many i x r l is said =
      let few = pairs_many many in
      let inside : i < length (take 16 (drop 4 xs)) / 2 = omega arith in
      let here = is ∙ get_or_default chunks i x [] l in
      let first = chunk_read xs 4 16 2 chunks cut i 0 (4 + 2 * i) inside (omega arith) (omega arith) (omega arith) in
      let second = chunk_read xs 4 16 2 chunks cut i 1 (4 + 2 * i + 1) inside (omega arith) (omega arith) (omega arith) in
      said ∙ ap (λ y. where_fit (is_pair y 0) (type_from y 0)) here ∙ rw (first, second)

  -- and there are 64 eights,
  pub eights_many : length chunks ≡ length (take (length xs - 21) (drop 21 xs)) / 8 → length chunks ≡ 64
  eights_many e = e ∙ ap (λ n. n / 8) (length-take-le (length xs - 21) (drop 21 xs) (omega (arith, length-drop 21 xs)) ∙ ap (λ n. n - 21) whole)

  -- node i is in eight i
  pub eight_read : chunks ≡ first_chunks 8 (length (take (length xs - 21) (drop 21 xs)) / 8) (take (length xs - 21) (drop 21 xs)) →
      length chunks ≡ length (take (length xs - 21) (drop 21 xs)) / 8 → (i : ℕ) (x : List ℕ) (r : Option Node) → i < length chunks →
      x ≡ get_or chunks i x → r ≡ where_fit (is_node x 0) (node_from x 0) → r ≡ where_fit (is_node_at xs i) (node_in xs i)
  unfolding is_node_at node_place node_in is_node is_pair node_from type_from misses_from
  eight_read cut many i x r l is said =
      let few = eights_many many in
      let inside : i < length (take (length xs - 21) (drop 21 xs)) / 8 = omega arith in
      let at : (j p : ℕ) → j < 8 → p ≡ 21 + (8 * i + j) → get_or (get_or chunks i []) j 0 ≡ get_or xs p 0 =
      λ j p h e. chunk_read xs 21 (length xs - 21) 8 chunks cut i j p inside h (omega arith) e in
      let here = is ∙ get_or_default chunks i x [] l in
      let a = at 0 (21 + 8 * i) (omega arith) (omega arith) in
      let b = at 1 (21 + 8 * i + 1) (omega arith) (omega arith) in
      let c = at 2 (21 + 8 * i + 2) (omega arith) (omega arith) in
      let d = at 3 (21 + 8 * i + 2 + 1) (omega arith) (omega arith) in
      let e = at 4 (21 + 8 * i + 4) (omega arith) (omega arith) in
      let f = at 5 (21 + 8 * i + 4 + 1) (omega arith) (omega arith) in
      let g = at 6 (21 + 8 * i + 6) (omega arith) (omega arith) in
      let h = at 7 (21 + 8 * i + 6 + 1) (omega arith) (omega arith) in
      said ∙ ap (λ y. where_fit (is_node y 0) (node_from y 0)) here ∙ rw (a, b, c, d, e, f, g, h)
