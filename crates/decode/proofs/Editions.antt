-- How much further on edition 2 has its parts, and what the positions come to in each edition. Assumes nothing.
use Prim.Native.Nat.{ℕ, suc, ◌+◌, ◌*◌, ◌≤◌}
use mathlib.Core.Bool.{Bool, true, false, cond}
use mathlib.Core.List.{List}
use mathlib.Core.Path.{◌≡◌, refl, ap, ◌∙◌}
use native.Mathlib.Omega.{arith}
use lib.Dec.{eqb}
use borrow.Author.Tests.{ne_eqb}
use Rattle.fields.specs.Fields.{misses_at}
use Rattle.meaning.specs.declared.Misses.{Misses}
use Rattle.plans.specs.Plan.{no_misses}
use Rattle.decode.specs.Positions.{edition_of, further, node_start}
use Rattle.decode.specs.Decode.{misses_or}

module _ (s : List ℕ) where
  -- so many bytes more in edition 2,
  pub further_second : (n : ℕ) → edition_of s ≡ 2 → further s n ≡ n
  unfolding further
  further_second n e = rw e

  -- and none in any other
  pub further_other : (n : ℕ) → (edition_of s ≡ 2 → ⊥) → further s n ≡ 0
  unfolding further
  further_other n h = rw (ne_eqb (edition_of s) 2 h)

  -- never more than so many
  pub further_most : (n : ℕ) → further s n ≤ n
  unfolding further
  further_most n = go (eqb (edition_of s) 2)
    where
      go : (b : Bool) → cond b n 0 ≤ n
      go true = omega arith
      go false = omega arith

  -- what is further on by two widths is so by both
  pub further_sum : (m n : ℕ) → further s (m + n) ≡ further s m + further s n
  unfolding further
  further_sum m n = go (eqb (edition_of s) 2)
    where
      go : (b : Bool) → cond b (m + n) 0 ≡ cond b m 0 + cond b n 0
      go true = refl
      go false = refl

  -- the next node begins ten bytes on, and so many more
  pub next_node : (i : ℕ) → node_start s (suc i) ≡ node_start s i + 10 + further s 4
  unfolding node_start
  next_node i =
      let four : 4 * suc i ≡ 4 * i + 4 = omega arith in
      omega (arith, ap (further s) four ∙ further_sum (4 * i) 4)

  -- where the edition was read as e, D and W are read in edition 2,
  pub misses_two : (e k : ℕ) (m : Misses) → e ≡ edition_of s → e ≡ 2 → m ≡ misses_at s k → m ≡ misses_or s k
  unfolding misses_or
  misses_two e k m is h at = rw (← is, h) at

  -- and in any other no misses are allowed
  pub misses_not : (e k : ℕ) → e ≡ edition_of s → (e ≡ 2 → ⊥) → no_misses ≡ misses_or s k
  unfolding misses_or
  misses_not e k is h = rw (← is, ne_eqb e 2 h)

-- bytes of one edition have their parts equally far on
pub further_alike : (s t : List ℕ) (n : ℕ) → edition_of s ≡ edition_of t → further s n ≡ further t n
unfolding further
further_alike s t n e = rw e
