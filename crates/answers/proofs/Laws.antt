-- What joined answers come to: the laws of `first`, `test`, `each` and `accepts`, each way, and those of a loop that stops at the first refusal.
-- Assumes nothing.
use Prim.Native.Nat.{ℕ, zero, suc, ◌+◌, ◌≤◌, ◌<◌}
use mathlib.Core.Bool.{Bool, true, false, cond}
use mathlib.Core.Logic.{◌⊎◌, inl, inr}
use mathlib.Core.Path.{◌≡◌, refl, sym, ap, ◌∙◌}
use native.Mathlib.Nat.{le_antisymm, eq-or-lt_of_le}
use native.Mathlib.Numerals.{add-one}
use native.Mathlib.Omega.{arith}
use lib.Dec.{eqb}
use borrow.Author.Tests.{eqb-true, ne_eqb}
use Rattle.std.specs.Prelude.{Result, Ok, Err}
use Rattle.answers.specs.declared.Refusal.{Refusal}
use Rattle.answers.specs.declared.Refusal.TheVariants.{Unfit, Broken}
use Rattle.answers.specs.declared.Rule.TheVariants.{There, Count, Tick, WellFormed, Kind, Parent, Depth, Name, NewName, End, StandsIn, Multiple, Alike, Load, Misses, Soft}
use Rattle.answers.specs.Answers.{Place, answered, number_of, place_in, spot, none, at as place, nowhere, placed, Answer, Accepted, Refused, accepted, refused as refuses, said, accepts, first, test, each}

-- an answer is a refusal
abbrev pub IsRefused : Answer → Type 0
IsRefused a = a ≡ Accepted → ⊥

-- the number that stands for a place
abbrev pub unplaced : ℕ → Place → ℕ
unplaced largest none = largest
unplaced largest (place k) = k

pub unplaced_placed : (largest k : ℕ) → unplaced largest (placed largest k) ≡ k
unfolding placed
unplaced_placed largest k = go (eqb k largest) refl
  where
    go : (b : Bool) → eqb k largest ≡ b → unplaced largest (cond b none (place k)) ≡ k
    go true e = sym (eqb-true k largest e)
    go false e = refl

-- two answers that say the same are the same
pub said_injective : (a b : Answer) → said a ≡ said b → a ≡ b
said_injective Accepted Accepted e = refl
said_injective Accepted (Refused r k) e = cc
said_injective (Refused r k) Accepted e = cc
said_injective (Refused r k) (Refused r' k') e =
    let alike : placed nowhere k ≡ placed nowhere k' = cc in
    let same = sym (unplaced_placed nowhere k) ∙ ap (unplaced nowhere) alike ∙ unplaced_placed nowhere k' in
    cc

-- each rule has a number of its own, and none has that of an unfit value
rule_numbered : ℕ → Refusal
rule_numbered n =
    cond (eqb n 1) (Broken There 0)
    (cond (eqb n 2) (Broken Count 0)
    (cond (eqb n 3) (Broken Tick 0)
    (cond (eqb n 4) (Broken WellFormed 0)
    (cond (eqb n 5) (Broken Kind 0)
    (cond (eqb n 6) (Broken Parent 0)
    (cond (eqb n 7) (Broken Depth 0)
    (cond (eqb n 8) (Broken Name 0)
    (cond (eqb n 9) (Broken NewName 0)
    (cond (eqb n 10) (Broken End 0)
    (cond (eqb n 11) (Broken StandsIn 0)
    (cond (eqb n 12) (Broken Multiple 0)
    (cond (eqb n 13) (Broken Alike 0)
    (cond (eqb n 14) (Broken Load 0)
    (cond (eqb n 19) (Broken Misses 0)
    (cond (eqb n 20) (Broken Soft 0)
    Unfit)))))))))))))))

with_place : ℕ → Refusal → Refusal
with_place k Unfit = Unfit
with_place k (Broken r k') = Broken r k

read_back : (e : Refusal) → with_place (spot (place_in e)) (rule_numbered (number_of e)) ≡ e
unfolding with_place rule_numbered
read_back Unfit = refl
read_back (Broken There k) = refl
read_back (Broken Count k) = refl
read_back (Broken Tick k) = refl
read_back (Broken WellFormed k) = refl
read_back (Broken Kind k) = refl
read_back (Broken Parent k) = refl
read_back (Broken Depth k) = refl
read_back (Broken Name k) = refl
read_back (Broken NewName k) = refl
read_back (Broken End k) = refl
read_back (Broken StandsIn k) = refl
read_back (Broken Multiple k) = refl
read_back (Broken Alike k) = refl
read_back (Broken Load k) = refl
read_back (Broken Misses k) = refl
read_back (Broken Soft k) = refl

-- so two refusals with one number and one place are the same,
refusal_injective : (e f : Refusal) → number_of e ≡ number_of f → spot (place_in e) ≡ spot (place_in f) → e ≡ f
refusal_injective e f n p =
    sym (read_back e) ∙ ap (λ k. with_place k (rule_numbered (number_of e))) p ∙ ap (λ m. with_place (spot (place_in f)) (rule_numbered m)) n ∙ read_back f

-- and two results that are one answer
pub answered_injective : (a b : Result Unit Refusal) → answered a ≡ answered b → a ≡ b
answered_injective (Ok u) (Ok v) e = refl
answered_injective (Ok u) (Err f) e = cc
answered_injective (Err f) (Ok u) e = cc
answered_injective (Err f) (Err g) e =
    let numbers : number_of f ≡ number_of g = cc in
    let places : spot (place_in f) ≡ spot (place_in g) = cc in
    ap Err (refusal_injective f g numbers places)

-- an answer that says that nothing is refused is accepted
pub said_accepted : (a : Answer) → said a ≡ accepted → a ≡ Accepted
said_accepted Accepted e = refl
said_accepted (Refused r k) e = cc

-- an answer that says a refusal is that refusal, with the number that stands for its place
pub said_refused : (a : Answer) (r : ℕ) (p : Place) → said a ≡ refuses r p → a ≡ Refused r (unplaced nowhere p)
said_refused Accepted r p e = cc
said_refused (Refused r' k) r p e =
    let there : placed nowhere k ≡ p = cc in
    let same = sym (unplaced_placed nowhere k) ∙ ap (unplaced nowhere) there in
    cc

-- a refusal at a place below the largest number says that place
pub refused_at : (a : Answer) (r k : ℕ) → a ≡ Refused r k → k < nowhere → said a ≡ refuses r (place k)
unfolding placed
refused_at a r k e l = rw (e, ne_eqb k nowhere (λ h. omega arith))

-- and the largest number says none
pub refused_none : (r : ℕ) → said (Refused r nowhere) ≡ refuses r none
unfolding placed
refused_none r = refl

-- an accepted answer accepts
pub accepts_true : (a : Answer) → a ≡ Accepted → true ≡ accepts a
unfolding accepts
accepts_true a e = rw e

-- an answer that accepts is accepted
pub accepts_accepted : (a : Answer) → accepts a ≡ true → a ≡ Accepted
unfolding accepts
accepts_accepted Accepted e = refl
accepts_accepted (Refused r k) e = cc

-- and a refusal does not accept
pub accepts_false : (a : Answer) (r k : ℕ) → a ≡ Refused r k → false ≡ accepts a
unfolding accepts
accepts_false a r k e = rw e

-- after an accepted answer the second one counts
pub first_second : (a b : Answer) → a ≡ Accepted → first a b ≡ b
unfolding first
first_second a b e = rw e

-- a refusal counts before whatever follows it
pub first_first : (a b : Answer) (r k : ℕ) → a ≡ Refused r k → first a b ≡ a
unfolding first
first_first a b r k e = rw e

-- both accepted, the two together are
pub first_accepted : (a b : Answer) → a ≡ Accepted → b ≡ Accepted → first a b ≡ Accepted
first_accepted a b e h = first_second a b e ∙ h

-- accepted together, the first is
pub first_accepted_left : (a b : Answer) → first a b ≡ Accepted → a ≡ Accepted
unfolding first
first_accepted_left Accepted b e = refl
first_accepted_left (Refused r k) b e = e

-- and the second too
pub first_accepted_right : (a b : Answer) → first a b ≡ Accepted → b ≡ Accepted
unfolding first
first_accepted_right Accepted b e = e
first_accepted_right (Refused r k) b e = cc

-- a refusal of the two together is the first's, or else the second's after the first was accepted
pub first_refused : (a b : Answer) (r k : ℕ) → first a b ≡ Refused r k → (a ≡ Refused r k) ⊎ ((a ≡ Accepted) × (b ≡ Refused r k))
unfolding first
first_refused Accepted b r k e = inr (refl, e)
first_refused (Refused r' k') b r k e = inl e

-- joins may be grouped either way
pub first_assoc : (a b c : Answer) → first (first a b) c ≡ first a (first b c)
unfolding first
first_assoc Accepted b c = refl
first_assoc (Refused r k) b c = refl

-- answers join alike where the first ones are the same, and so are the second ones wherever the first is accepted
pub first_alike : {a c b d : Answer} → a ≡ c → (a ≡ Accepted → b ≡ d) → first a b ≡ first c d
unfolding first
first_alike {a} {c} {b} {d} e h = go a h ∙ ap (λ x. first x d) e
  where
    go : (x : Answer) → (x ≡ Accepted → b ≡ d) → first x b ≡ first x d
    go Accepted k = k refl
    go (Refused n k) l = refl

-- a test that goes well is accepted
pub test_true : (ok : Bool) (r k : ℕ) → ok ≡ true → test ok r k ≡ Accepted
unfolding test
test_true ok r k e = rw e

-- and one that does not is refused with its number and place
pub test_false : (ok : Bool) (r k : ℕ) → ok ≡ false → test ok r k ≡ Refused r k
unfolding test
test_false ok r k e = rw e

-- an accepted test went well
pub test_accepted : (ok : Bool) (r k : ℕ) → test ok r k ≡ Accepted → ok ≡ true
unfolding test
test_accepted true r k e = refl
test_accepted false r k e = cc

-- a refused test did not, and what is refused is its own number and place
pub test_refused : (ok : Bool) (r k r' k' : ℕ) → test ok r k ≡ Refused r' k' → (ok ≡ false) × (r ≡ r') × (k ≡ k')
unfolding test
test_refused true r k r' k' e = (cc, cc, cc)
test_refused false r k r' k' e = (refl, cc, cc)

module _ (f : ℕ → Answer) where
  -- the first refusal among answers that are all accepted: none
  pub each_accepted : (n : ℕ) → ((i : ℕ) → i < n → f i ≡ Accepted) → each f n ≡ Accepted
  unfolding each
  each_accepted zero h = refl
  each_accepted (suc n) h = first_accepted _ _ (each_accepted n (λ i l. h i (omega arith))) (h n (omega arith))

  -- where there is no refusal, every answer is accepted
  pub each_accepted_at : (n : ℕ) → each f n ≡ Accepted → (i : ℕ) → i < n → f i ≡ Accepted
  unfolding each
  each_accepted_at zero e i h = absurd (omega arith)
  each_accepted_at (suc n) e i h = go (eq-or-lt_of_le (omega arith)) (each_accepted_at n (first_accepted_left _ _ e) i)
    where
      go : (i ≡ n) ⊎ (i < n) → (i < n → f i ≡ Accepted) → f i ≡ Accepted
      go (inl at) before = ap f at ∙ first_accepted_right _ _ e
      go (inr l) before = before l

  -- a refusal that meets only accepted answers before it is the first one
  pub each_refused : (n i r k : ℕ) → i < n → each f i ≡ Accepted → f i ≡ Refused r k → each f n ≡ Refused r k
  unfolding each
  each_refused zero i r k h e at = absurd (omega arith)
  each_refused (suc n) i r k h e at = go (eq-or-lt_of_le (omega arith)) (λ l. each_refused n i r k l e at)
    where
      go : (i ≡ n) ⊎ (i < n) → (i < n → each f n ≡ Refused r k) → first (each f n) (f n) ≡ Refused r k
      go (inl here) before = first_second _ _ (rw here at e) ∙ rw here at at
      go (inr l) before = first_first _ _ r k (before l) ∙ before l

-- the first refusal below n is this one: it is there, and what stands before it is accepted
pub record FirstRefusal (f : ℕ → Answer) (n r k : ℕ) : Type 0 where
  pub at : ℕ
  pub below : at < n
  pub refused : f at ≡ Refused r k
  pub before : (j : ℕ) → j < at → f j ≡ Accepted

module _ (f : ℕ → Answer) where
  -- a refusal is the first one of some answer
  pub each_refused_at : (n r k : ℕ) → each f n ≡ Refused r k → FirstRefusal f n r k
  unfolding each
  each_refused_at zero r k e = absurd (let z : ◌≡◌ {A = ℕ} 0 1 = cc in omega arith)
  each_refused_at (suc n) r k e = go (first_refused _ _ r k e) (each_refused_at n r k)
    where
      go : (each f n ≡ Refused r k) ⊎ ((each f n ≡ Accepted) × (f n ≡ Refused r k)) → (each f n ≡ Refused r k → FirstRefusal f n r k) →
          FirstRefusal f (suc n) r k
      go (inl h) earlier =
          let found = earlier h in
          record { at = found.at; below = omega arith; refused = found.refused; before = found.before }
      go (inr h) earlier = record { at = n; below = omega arith; refused = h.1; before = each_accepted_at f n h.0 }

  -- the first refusal is the same where each answer is, once those before it are accepted,
  pub each_alike : (g : ℕ → Answer) (n : ℕ) → ((i : ℕ) → i < n → each f i ≡ Accepted → f i ≡ g i) → each f n ≡ each g n
  unfolding each
  each_alike g zero h = refl
  each_alike g (suc n) h = first_alike (each_alike g n (λ i l e. h i (omega arith) e)) (h n (omega arith))

  -- and so where answers agree below n, accepted or not
  pub each_ext : (g : ℕ → Answer) (n : ℕ) → ((i : ℕ) → i < n → f i ≡ g i) → each f n ≡ each g n
  each_ext g n h = each_alike g n (λ i l e. h i l)

-- a refusal has a number and a place
refusal : (a : Answer) → IsRefused a → (r : ℕ) × (k : ℕ) × (a ≡ Refused r k)
refusal Accepted h = absurd (h refl)
refusal (Refused r k) h = (r, k, refl)

-- A loop that tests f 0, f 1, .. below n and stops at the first refusal, by `?`. Its invariant:
-- (i ≤ n) × (each f i ≡ Accepted). At its start nothing is refused:
module _ (f : ℕ → Answer) where
  pub each_none : each f 0 ≡ Accepted
  unfolding each
  each_none = refl

  module _ (i : ℕ) (e : each f i ≡ Accepted) where
    -- one accepted answer more
    pub each_more : (a : Answer) → a ≡ f i → a ≡ Accepted → each f (i + 1) ≡ Accepted
    unfolding each
    each_more a at h = rw (add-one i) (first_accepted _ _ e (sym at ∙ h))

    -- the loop stops early, with the first refusal
    pub each_stop : (n : ℕ) (a : Answer) → a ≡ f i → IsRefused a → i < n → a ≡ each f n
    each_stop n a at h l =
        let (r, k, is) = refusal a h in
        is ∙ sym (each_refused f n i r k l e (sym at ∙ is))

    -- the loop is done, and nothing was refused
    pub each_done : (n : ℕ) → i ≤ n → n ≤ i → Accepted ≡ each f n
    each_done n l h = sym (rw (le_antisymm l h) at e)
