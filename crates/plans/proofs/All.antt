-- The laws of two tests together, and those of `all`, a test of every number below n: each way, and those of a loop that stops at the first number that
-- fails. Assumes nothing.
use Prim.Native.Nat.{ℕ, zero, suc, ◌+◌, ◌≤◌, ◌<◌}
use mathlib.Core.Bool.{Bool, true, false, ◌&&◌, and-eq-true_iff, and-false, and-true, and_assoc}
use mathlib.Core.List.{List}
use mathlib.Core.Logic.{◌⊎◌, inl, inr}
use mathlib.Core.Path.{◌≡◌, refl, sym, ap, ◌∙◌}
use native.Mathlib.Nat.{le_antisymm, eq-or-lt_of_le}
use native.Mathlib.Numerals.{add-one, unary_clauses}
use native.Mathlib.Omega.{arith}
use denote.Param.Members.{Mut}
use Rattle.std.specs.Prelude.{Option, MatchOption}
use Rattle.std.specs.declared.ops.Range.{Range}
use Rattle.std.proofs.iter.Yields.{nat_range_steps}
use Rattle.std.specs.Fn.{Called}
use Rattle.std.specs.Iterator.{YieldsThen}
use Rattle.std.specs.List.{FoldsTo, list_all, range_with_len}
use Rattle.std.proofs.lemmas.Iterator.{YieldsList-from_range}
use Rattle.std.proofs.lemmas.Iterator.Search.{all_from_yields_List}
use Rattle.plans.specs.Sound.{all}

-- where two tests hold together the first holds
pub left_true : (a b : Bool) → (a && b) ≡ true → a ≡ true
left_true a b e = ((and-eq-true_iff a b).0 e).0

-- and so does the second
pub right_true : (a b : Bool) → (a && b) ≡ true → b ≡ true
right_true a b e = ((and-eq-true_iff a b).0 e).1

-- two tests that imply each other answer alike
pub both_ways : (a b : Bool) → (a ≡ true → b ≡ true) → (b ≡ true → a ≡ true) → a ≡ b
both_ways true b there back = sym (there refl)
both_ways false true there back = back refl
both_ways false false there back = refl

module _ (f : ℕ → Bool) where
  -- a test that holds of each number below n holds of all
  pub all_true : (n : ℕ) → ((i : ℕ) → i < n → f i ≡ true) → all f n ≡ true
  unfolding all
  all_true zero h = refl
  all_true (suc n) h = rw (all_true n (λ i l. h i (omega arith)), h n (omega arith))

  -- and one that holds of all holds of each
  pub all_true_at : (n : ℕ) → all f n ≡ true → (i : ℕ) → i < n → f i ≡ true
  unfolding all
  all_true_at zero e i h = absurd (omega arith)
  all_true_at (suc n) e i h = go (eq-or-lt_of_le (omega arith)) (all_true_at n (left_true (all f n) (f n) e) i)
    where
      go : (i ≡ n) ⊎ (i < n) → (i < n → f i ≡ true) → f i ≡ true
      go (inl at) before = ap f at ∙ right_true (all f n) (f n) e
      go (inr l) before = before l

  -- tests that agree below n hold of all alike
  pub all_ext : (g : ℕ → Bool) (n : ℕ) → ((i : ℕ) → i < n → f i ≡ g i) → all f n ≡ all g n
  unfolding all
  all_ext g zero h = refl
  all_ext g (suc n) h = rw (all_ext g n (λ i l. h i (omega arith)), h n (omega arith))

  -- of the n numbers from a on, all pass that are tested one by one from the front, and from the back
  pass_more : (n a : ℕ) → list_all f (range_with_len a (suc n)) ≡ (list_all f (range_with_len a n) && f (a + n))
  pass_more zero a = simp unary_clauses (and-true (f a))
  pass_more (suc n) a =
      let next : a + 1 + n ≡ a + suc n = omega arith in
      rw (pass_more n (a + 1), next) (sym (and_assoc (f a) (list_all f (range_with_len (a + 1) n)) (f (a + suc n))))

  pub pass_all : (n : ℕ) → list_all f (range_with_len 0 n) ≡ all f n
  unfolding all
  pass_all zero = refl
  pass_all (suc n) =
      let last : 0 + n ≡ n = omega arith in
      rw (pass_more n 0, pass_all n, last)

  -- what `(0..n).all(test)` answers, where f says what the test does
  pub all_of_range : {F : Type 0} {g : Mut F (ℕ × Unit {0}) Bool} {s u : Range ℕ} {p : F} {r : Bool} (n : ℕ) →
      (xs : List ℕ) × (o : Option ℕ) × (j : F) × YieldsThen nat_range_steps s xs o u × FoldsTo (λ h x q. Called g h (x, tt) true q) p xs j ×
      MatchOption o (r ≡ true) (λ x. (r ≡ false) × ((h : F) × Called g j (x, tt) false h)) → s ≡ record { start = 0; end = n } →
      ((x : ℕ) (b : Bool) (q : F) → Called g p (x, tt) b q → (q ≡ p) × (b ≡ f x)) → r ≡ all f n
  all_of_range {u = u} {p = p} {r = r} n ran is calls = all_from_yields_List f u p r ran (YieldsList-from_range 0 n n is (omega arith)) calls ∙ pass_all n

  -- A loop that tests f 0, f 1, .. below n and stops at the first number that fails. Its invariant: (i ≤ n) × (all f i ≡ true). At its start
  -- nothing has failed:
  pub all_none : all f 0 ≡ true
  unfolding all
  all_none = refl

  -- it stops early where one fails
  pub all_stop : (n i : ℕ) (b : Bool) → b ≡ f i → b ≡ false → i < n → false ≡ all f n
  unfolding all
  all_stop zero i b e h l = absurd (omega arith)
  all_stop (suc n) i b e h l = go (eq-or-lt_of_le (omega arith)) (all_stop n i b e h)
    where
      go : (i ≡ n) ⊎ (i < n) → (i < n → false ≡ all f n) → false ≡ (all f n && f n)
      go (inl at) before = rw (← at, ← e, h) (sym (and-false (all f i)))
      go (inr k) before = rw (← (before k))

  module _ (i : ℕ) (e : all f i ≡ true) where
    -- one more holds
    pub all_more : (b : Bool) → b ≡ f i → b ≡ true → all f (i + 1) ≡ true
    unfolding all
    all_more b at h = rw (add-one i, e, sym at ∙ h)

    -- the loop is done, and nothing failed
    pub all_done : (n : ℕ) → i ≤ n → n ≤ i → true ≡ all f n
    all_done n l h = sym (rw (le_antisymm l h) at e)
