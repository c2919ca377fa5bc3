-- Arrays that `array::from_fn` makes, and the list that they are. Assumes nothing.
use Prim.Native.Nat.{ℕ, zero, suc, ◌+◌, ◌≤◌, ◌<◌, min}
use mathlib.Core.Bool.{cond}
use mathlib.Core.List.{List}
use mathlib.Core.Logic.{◌⊎◌, inl, inr}
use mathlib.Core.Path.{◌≡◌, refl, sym, ap, ◌∙◌}
use native.Mathlib.Nat.{eq-or-lt_of_le}
use native.Mathlib.Omega.{arith}
use denote.Param.Members.{Mut}
use lib.Dec.{ltb}
use lib.ListN.{get_or, replicate}
use borrow.Author.Tests.{lt-ltb, le-ltb}
use Rattle.std.specs.Fn.{Called}
use Rattle.std.specs.Array.{IsFromFnResultFrom, IsFromFnResult}
use Rattle.decode.specs.Decode.{filled}
use Rattle.decode.proofs.Entries.{filled_is}

module _ {F A : Type 0} (g : Mut F (ℕ × Unit {0}) A) (f : F) (h : ℕ → A) (calls : (i : ℕ) (x : A) (q : F) → Called g f (i, tt) x q → (q ≡ f) × (x ≡ h i)) where
  -- of n elements from the i-th on, each is what the function answers at its index
  made_from : (n i : ℕ) (p : F) (xs : List A) → p ≡ f → IsFromFnResultFrom g p xs i n → (k : ℕ) (d : A) → i ≤ k → k < i + n → get_or xs k d ≡ h k
  made_from zero i p xs e made k d l u = absurd (omega arith)
  made_from (suc n) i p xs e (q, y, at, call, rest) k d l u =
      let (same, value) = calls i y q (rw e at call) in
      go value (eq-or-lt_of_le l) (λ more. made_from n (i + 1) q xs same rest k d (omega arith) (omega arith))
    where
      go : y ≡ h i → (i ≡ k) ⊎ (i < k) → (i < k → get_or xs k d ≡ h k) → get_or xs k d ≡ h k
      go value (inl here) later = rw (← here) (at.1 d ∙ value)
      go value (inr more) later = later more

  pub made_at : (xs : List A) (n : ℕ) → IsFromFnResult g f xs n → (k : ℕ) (d : A) → k < n → get_or xs k d ≡ h k
  made_at xs n made k d u = made_from n 0 f xs refl made.each k d (omega arith) (omega arith)

-- where the function answers f below k, and z from there on, the first k of n elements are filled in
pub made_filled : {F A : Type 0} {g : Mut F (ℕ × Unit {0}) A} {p : F} {xs : List A} (f : ℕ → A) (n : ℕ) (z : A) (k : ℕ) → IsFromFnResult g p xs n →
    ((i : ℕ) (x : A) (q : F) → Called g p (i, tt) x q → (q ≡ p) × (x ≡ cond (ltb i k) (f i) z)) → xs ≡ filled f (replicate n z) (min k n)
made_filled {g = g} {p = p} {xs = xs} f n z k made calls =
    let at = made_at g p (λ i. cond (ltb i k) (f i) z) calls xs n made in
    sym (filled_is f n z k xs made.long
    (λ i l m. sym (at i z m ∙ ap (λ b. cond b (f i) z) (lt-ltb i k l)))
    (λ i l m. at i z m ∙ ap (λ b. cond b (f i) z) (le-ltb i k l)))

-- and where it answers f at each index, all of them are
pub made_whole : {F A : Type 0} {g : Mut F (ℕ × Unit {0}) A} {p : F} {xs : List A} (f : ℕ → A) (n : ℕ) (z : A) → IsFromFnResult g p xs n →
    ((i : ℕ) (x : A) (q : F) → Called g p (i, tt) x q → (q ≡ p) × (x ≡ f i)) → xs ≡ filled f (replicate n z) n
made_whole {g = g} {p = p} {xs = xs} f n z made calls =
    let at = made_at g p f calls xs n made in
    let whole : min n n ≡ n = omega arith in
    rw whole at (sym (filled_is f n z n xs made.long (λ i l m. sym (at i z m)) (λ i l m. absurd (omega arith))))
