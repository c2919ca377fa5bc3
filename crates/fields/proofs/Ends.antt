-- Where the bytes end: what fields past it read as, and whether a field is there. Assumes nothing.
use Prim.Native.Nat.{ℕ, ◌+◌, ◌-◌, ◌^◌, ◌≤◌, min}
use Rattle.std.proofs.Math.Nat.{min-eq_left}
use mathlib.Core.Bool.{Bool, true, false}
use mathlib.Core.List.{List}
use mathlib.Core.Path.{◌≡◌, refl, sym, ◌∙◌}
use native.Mathlib.Omega.{arith}
use lib.Dec.{leb}
use lib.ListN.{length, get_or-eq_default}
use borrow.Author.Tests.{leb-true, leb-false}
use Rattle.answers.specs.Answers.{Accepted}
use Rattle.answers.proofs.Laws.{test_accepted}
use Rattle.fields.specs.Fields.{byte_at, two_at, there}

-- what reads as 0 from `top` on reads the same where a sum stops growing there
further_reads : (f : ℕ → ℕ) (j top : ℕ) → ((i : ℕ) → top ≤ i → f i ≡ 0) → f (min j top) ≡ f j
further_reads f j top past = go (leb j top) refl
  where
    go : (b : Bool) → leb j top ≡ b → f (min j top) ≡ f j
    go true e = let h = leb-true j top e in rw (min-eq_left h) refl
    go false e = let h = leb-false j top e in past (min j top) (omega arith) ∙ sym (past j (omega arith))

-- No byte stands at or past the largest position: what is read m bytes further on is read there too where the sum stops growing.
module _ (s : List ℕ) (k m : ℕ) (l : length s ≤ 2 ^ 64 - 1) where
  pub byte_further : byte_at s (min (k + m) (2 ^ 64 - 1)) ≡ byte_at s (k + m)
  unfolding byte_at
  byte_further = further_reads (byte_at s) (k + m) (2 ^ 64 - 1) (λ i h. get_or-eq_default s 0 (omega arith))

  pub two_further : two_at s (min (k + m) (2 ^ 64 - 1)) ≡ two_at s (k + m)
  unfolding two_at byte_at
  two_further =
      further_reads (two_at s) (k + m) (2 ^ 64 - 1)
      (λ i h. rw (get_or-eq_default s 0 {n = i} (omega arith), get_or-eq_default s 0 {n = i + 1} (omega arith)) refl)

module _ (s : List ℕ) (k n : ℕ) where
  -- a field that is there ends within the bytes,
  pub there_ends : there s k n ≡ Accepted → k + n ≤ length s
  unfolding there
  there_ends e = leb-true (k + n) (length s) (test_accepted _ 1 k e)
