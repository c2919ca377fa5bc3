-- Checks within checks, and where the first refusal among them stands: a tree of answers, whose places are lists of numbers in the order `Earlier`.
-- Assumes nothing.
use Prim.Native.Nat.{ℕ, ◌<◌}
use mathlib.Core.List.{List, [], ◌∷◌}
use mathlib.Core.Logic.{inl, inr}
use mathlib.Core.Path.{◌≡◌, refl, subst}
use native.Mathlib.Omega.{arith}
use Rattle.answers.specs.Answers.{each}
use Rattle.answers.specs.Answers.{Answer}
use Rattle.answers.specs.Answers.{Accepted, Refused}
use Rattle.answers.proofs.Laws.{each_accepted, each_accepted_at, FirstRefusal, each_refused, each_refused_at}
use Rattle.rules.specs.Broken.{Earlier}

-- one check, or those of the numbers below n one after another
pub data Checks : Type 0 where
  one : Answer → Checks
  many : ℕ → (ℕ → Checks) → Checks

-- the answer of all checks together: the first refusal
abbrev pub answer : Checks → Answer
answer (one a) = a
answer (many n f) = each (λ i. answer (f i)) n

-- the check at this place, told by the numbers on the way to it, refuses r at k
abbrev pub Refuses : Checks → List ℕ → ℕ → ℕ → Type 0
Refuses (one a) [] r k = a ≡ Refused r k
Refuses (one a) (i ∷ l) r k = ⊥
Refuses (many n f) [] r k = ⊥
Refuses (many n f) (i ∷ l) r k = (i < n) × Refuses (f i) l r k

-- no check at a place before this one refuses
abbrev pub NoneBefore : Checks → List ℕ → Type 0
NoneBefore c l = (m : List ℕ) (r k : ℕ) → Earlier m l → Refuses c m r k → ⊥

-- an accepted answer is no refusal
pub accepted_refused : (a : Answer) (r k : ℕ) → a ≡ Accepted → a ≡ Refused r k → ⊥
accepted_refused a r k e h = let z : ◌≡◌ {A = ℕ} 0 1 = cc in omega arith

-- where no check refuses, all together are accepted
pub answer_accepted : (c : Checks) → ((l : List ℕ) (r k : ℕ) → Refuses c l r k → ⊥) → answer c ≡ Accepted
answer_accepted (one Accepted) h = refl
answer_accepted (one (Refused r k)) h = absurd (h [] r k refl)
answer_accepted (many n f) h = each_accepted _ n (λ i l. answer_accepted (f i) (λ m r k a. h (i ∷ m) r k (l, a)))

-- and where all together are accepted, no check refuses
pub accepted_none : (c : Checks) → answer c ≡ Accepted → (l : List ℕ) (r k : ℕ) → Refuses c l r k → ⊥
accepted_none (one a) e [] r k h = accepted_refused a r k e h
accepted_none (one a) e (i ∷ l) r k h = h
accepted_none (many n f) e [] r k h = h
accepted_none (many n f) e (i ∷ l) r k h = accepted_none (f i) (each_accepted_at _ n e i h.0) l r k h.1

-- the refusal of the first check that refuses is the answer of all
pub answer_first : (c : Checks) (l : List ℕ) (r k : ℕ) → Refuses c l r k → NoneBefore c l → answer c ≡ Refused r k
answer_first (one a) [] r k h none = h
answer_first (one a) (i ∷ l) r k h none = absurd h
answer_first (many n f) [] r k h none = absurd h
answer_first (many n f) (i ∷ l) r k h none =
    let before : (j : ℕ) → j < i → answer (f j) ≡ Accepted =
    λ j b. answer_accepted (f j) (λ m q p a. none (j ∷ m) q p (inl b) (omega arith, a)) in
    let here = answer_first (f i) l r k h.1 (λ m q p b a. none (i ∷ m) q p (inr (refl, b)) (h.0, a)) in
    each_refused (λ j. answer (f j)) n i r k h.0 (each_accepted _ i before) here

-- the first check that refuses: its place, and none refuses before it
pub record FirstRefusing (c : Checks) (r k : ℕ) : Type 0 where
  pub at : List ℕ
  pub refuses : Refuses c at r k
  pub none_before : NoneBefore c at

-- the first check that refuses in the first that refuses is the first of all
first_within : (n : ℕ) (f : ℕ → Checks) (r k : ℕ) (a : FirstRefusal (λ i. answer (f i)) n r k) → FirstRefusing (f a.at) r k → FirstRefusing (many n f) r k
first_within n f r k a b = record { at = a.at ∷ b.at; refuses = (a.below, b.refuses); none_before = none }
  where
    none : NoneBefore (many n f) (a.at ∷ b.at)
    none [] q p l h = l
    none (j ∷ m) q p (inl l) h = accepted_none (f j) (a.before j l) m q p h.1
    none (j ∷ m) q p (inr l) h = b.none_before m q p l.1 (subst (λ i. Refuses (f i) m q p) l.0 h.1)

-- a refusal of all together is that of the first check that refuses
pub refused_first : (c : Checks) (r k : ℕ) → answer c ≡ Refused r k → FirstRefusing c r k
refused_first (one a) r k e = record { at = []; refuses = e; none_before = none }
  where
    none : NoneBefore (one a) []
    none [] q p l h = l
    none (i ∷ m) q p l h = l
refused_first (many n f) r k e =
    let a = each_refused_at _ n r k e in
    first_within n f r k a (refused_first (f a.at) r k a.refused)
