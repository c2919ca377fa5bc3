-- The numbers of a state: whether they are within their fields, and what they say. One law a return. Assumes nothing.
use Prim.Native.Nat.{ℕ, ◌+◌, ◌-◌, ◌<◌}
use mathlib.Core.Bool.{true, false}
use mathlib.Core.List.{List}
use mathlib.Core.Path.{◌≡◌, ap, ◌∙◌}
use native.Mathlib.Omega.{arith}
use lib.ListN.{length, get_or, take, drop, replicate, length-drop}
use lib.Seq.{length-take-le}
use Rattle.std.specs.Prelude.{Option, leb}
use Rattle.std.proofs.lemmas.List.{get_or-drop, get_or-take, get_or_default}
use borrow.Author.Tests.{eq-eqb, ne_eqb}
use Rattle.plans.specs.Sound.{all}
use Rattle.decode.specs.Decode.{filled}
use Rattle.numbers.specs.Numbers.{no_state, count_in, is_count_at, is_state, state_in, state_of_numbers, state_given, where_fit}

-- there is no state in numbers that are none's,
module _ (xs : List ℕ) where
  unfit : is_state xs ≡ false → no_state ≡ state_given xs
  unfolding state_given state_of_numbers
  unfit h = rw h

  -- since there are not 65
  pub state_short : (length xs ≡ 65 → ⊥) → no_state ≡ state_given xs
  unfolding is_state
  state_short h = unfit (rw (ne_eqb (length xs) 65 h))

  -- or since a count is too large
  pub counts_stop : length xs ≡ 65 → all (is_count_at xs) 64 ≡ false → no_state ≡ state_given xs
  unfolding is_state
  counts_stop whole h = unfit (rw (eq-eqb (length xs) 65 whole, h))

  -- and where none is the numbers are a state's
  pub counts_done : length xs ≡ 65 → all (is_count_at xs) 64 ≡ true → (left : List ℕ) → filled (count_in xs) (replicate 64 0) 64 ≡ left →
      (true, record { clock = get_or xs 0 0; left = left }) ≡ state_given xs
  unfolding state_given is_state state_of_numbers state_in
  counts_done whole h left e = rw (eq-eqb (length xs) 65 whole, h, e)

-- what stands after the clock: one number less,
module _ (xs : List ℕ) where
  pub counts_many : length (take (length xs - 1) (drop 1 xs)) ≡ length xs - 1
  counts_many = length-take-le (length xs - 1) (drop 1 xs) (omega (arith, length-drop 1 xs))

  -- and count i, which is what is said of it
  pub count_read : (i x : ℕ) (r : Option ℕ) → i < length (take (length xs - 1) (drop 1 xs)) → x ≡ get_or (take (length xs - 1) (drop 1 xs)) i x →
      r ≡ where_fit (leb x 65535) x → r ≡ where_fit (is_count_at xs i) (count_in xs i)
  unfolding count_in is_count_at
  count_read i x r l e h =
      let below : i < length xs - 1 = omega (arith, counts_many) in
      let read : x ≡ get_or xs (i + 1) 0 = e ∙ get_or-take (length xs - 1) (drop 1 xs) i x below ∙ get_or-drop 1 xs i x ∙ ap (λ k. get_or xs k x) (omega arith) ∙ get_or_default xs (i + 1) x 0 (omega arith) in
      h ∙ ap (λ y. where_fit (leb y 65535) y) read
