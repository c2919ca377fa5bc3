-- Tests that decide between a good thing and a bad one, and how they join. Assumes nothing.
use Prim.Native.Nat.{ℕ, zero, suc, ◌≤◌, ◌<◌}
use mathlib.Core.Bool.{Bool, true, false, not, ◌&&◌, ◌||◌, true≢false, false≢true}
use mathlib.Core.Logic.{◌⊎◌, inl, inr}
use mathlib.Core.Path.{◌≡◌, refl}
use lib.Dec.{leb, eqb}
use borrow.Author.Tests.{leb-true, leb-false, eqb-true, eqb-false}
use native.Mathlib.Omega.{arith}
use Rattle.plans.specs.Plan.{parent_of, is_child}
use Rattle.plans.specs.Sound.{all}
use Rattle.plans.specs.declared.Parent.{Parent}
use Rattle.plans.specs.declared.Plan.{Plan}
use Rattle.plans.proofs.All.{all_true_at}
use Rattle.plans.proofs.Entries.{child_of_parent, parent_of_child}
use Rattle.rules.specs.Fit.{Child}

-- a test that holds finds the good, one that fails finds the bad, and never are there both
pub record Decides (t : Bool) (good bad : Type 0) : Type 0 where
  pub right : t ≡ true → good
  pub wrong : t ≡ false → bad
  pub apart : good → bad → ⊥

-- the bad may be said in other words
pub decides_as : {t : Bool} {good bad other : Type 0} → (bad → other) → (other → bad) → Decides t good bad → Decides t good other
decides_as out back d = record { right = d.right; wrong = λ e. out (d.wrong e); apart = λ g b. d.apart g (back b) }

-- two numbers are equal, or not
pub equal_decides : (a b : ℕ) → Decides (eqb a b) (a ≡ b) (a ≡ b → ⊥)
equal_decides a b = record { right = eqb-true a b; wrong = eqb-false a b; apart = λ g n. n g }

-- a number is at most another, or greater
pub most_decides : (a b : ℕ) → Decides (leb a b) (a ≤ b) (b < a)
most_decides a b = record { right = leb-true a b; wrong = leb-false a b; apart = λ g h. omega arith }

-- one of two things holds, or neither
pub either_decides : (s t : Bool) {A B : Type 0} → Decides s A (A → ⊥) → Decides t B (B → ⊥) → Decides (s || t) (A ⊎ B) (A ⊎ B → ⊥)
either_decides true t d h = record { right = λ e. inl (d.right refl); wrong = λ e. absurd (true≢false e); apart = λ g n. n g }
either_decides false t {A} {B} d h = record { right = λ e. inr (h.right e); wrong = neither; apart = λ g n. n g }
  where
    neither : t ≡ false → A ⊎ B → ⊥
    neither e (inl a) = d.wrong refl a
    neither e (inr b) = h.wrong e b

-- both of two things hold, or not
pub both_decides : (s t : Bool) {A B : Type 0} → Decides s A (A → ⊥) → Decides t B (B → ⊥) → Decides (s && t) (A × B) (A × B → ⊥)
both_decides true t d h = record { right = λ e. (d.right refl, h.right e); wrong = λ e g. h.wrong e g.1; apart = λ g n. n g }
both_decides false t d h = record { right = λ e. absurd (false≢true e); wrong = λ e g. d.wrong refl g.0; apart = λ g n. n g }

-- the good may be said in other words, where the bad is that it does not hold
pub decides_same : {t : Bool} {good other : Type 0} → (good → other) → (other → good) → Decides t good (good → ⊥) → Decides t other (other → ⊥)
decides_same out back d = record { right = λ e. out (d.right e); wrong = λ e g. d.wrong e (back g); apart = λ g n. n g }

-- nothing is asked where a test fails, and elsewhere another decides
pub if_decides : (s t : Bool) {A : Type 0} → Decides t A (A → ⊥) → Decides (not s || t) (s ≡ true → A) ((s ≡ true → A) → ⊥)
if_decides true t d = record { right = λ e h. d.right e; wrong = λ e g. d.wrong e (g refl); apart = λ g n. n g }
if_decides false t d = record { right = λ e h. absurd (false≢true h); wrong = λ e. absurd (true≢false e); apart = λ g n. n g }

-- what is asked only where a condition holds: it fails where the condition holds and the thing asked does not
pub where_decides : (s t : Bool) {A B : Type 0} → Decides s A (A → ⊥) → (A → Decides t B (B → ⊥)) → Decides (not s || t) (A → B) (A × (B → ⊥))
where_decides true t d h =
    let a = d.right refl in
    record { right = λ e x. (h a).right e; wrong = λ e. (a, (h a).wrong e); apart = λ g n. n.1 (g n.0) }
where_decides false t d h = record { right = λ e x. absurd (d.wrong refl x); wrong = λ e. absurd (true≢false e); apart = λ g n. n.1 (g n.0) }

-- nothing is asked where an exception holds, and elsewhere the test decides
pub unless_decides : (s t : Bool) {A : Type 0} → Decides t A (A → ⊥) → Decides (s || t) (s ≡ false → A) ((s ≡ false → A) → ⊥)
unless_decides true t d = record { right = λ e h. absurd (true≢false h); wrong = λ e. absurd (true≢false e); apart = λ g n. n g }
unless_decides false t d = record { right = λ e h. d.right e; wrong = λ e g. d.wrong e (g refl); apart = λ g n. n g }

-- a test that does not hold of all fails at one
all_false_at : (f : ℕ → Bool) (n : ℕ) → all f n ≡ false → (j : ℕ) × (j < n) × (f j ≡ false)
unfolding all
all_false_at f zero e = absurd (true≢false e)
all_false_at f (suc n) e = go (all f n) e (all_false_at f n)
  where
    go : (b : Bool) → (b && f n) ≡ false → (b ≡ false → (j : ℕ) × (j < n) × (f j ≡ false)) → (j : ℕ) × (j < suc n) × (f j ≡ false)
    go true h before = (n, omega arith, h)
    go false h before =
        let (j, l, is) = before refl in
        (j, omega arith, is)

-- each number below n is good, or there is a bad one
pub all_decides : (f : ℕ → Bool) (n : ℕ) {good bad : ℕ → Type 0} → ((j : ℕ) → j < n → Decides (f j) (good j) (bad j)) →
    Decides (all f n) ((j : ℕ) → j < n → good j) ((j : ℕ) × (j < n) × bad j)
all_decides f n {good} {bad} d =
    record { right = λ e j l. (d j l).right (all_true_at f n e j l); wrong = one_bad; apart = λ g b. (d b.0 b.1).apart (g b.0 b.1) b.2 }
  where
    one_bad : all f n ≡ false → (j : ℕ) × (j < n) × bad j
    one_bad e =
        let (j, l, is) = all_false_at f n e in
        (j, l, (d j l).wrong is)

-- a node is no child of x, or the good holds of it; or it is a child, and the bad does
pub child_decides : (plan : Plan) (t : Bool) {good bad : Type 0} (x : Parent) (i : ℕ) → i < plan.size → Decides t good bad →
    Decides (not (is_child plan x i) || t) (Child plan x i → good) (Child plan x i × bad)
child_decides plan t {good} {bad} x i l d = go (is_child plan x i) (parent_of_child plan x i) (child_of_parent plan x i)
  where
    go : (b : Bool) → (b ≡ true → parent_of plan i ≡ x) → (parent_of plan i ≡ x → b ≡ true) →
        Decides (not b || t) (Child plan x i → good) (Child plan x i × bad)
    go true is back =
        record {
          right = λ e c. d.right e;
          wrong = λ e. (record { there = l; under = is refl }, d.wrong e);
          apart = λ g b. d.apart (g b.0) b.1;
        }
    go false is back =
        record {
          right = λ e c. absurd (false≢true (back c.under));
          wrong = λ e. absurd (true≢false e);
          apart = λ g b. d.apart (g b.0) b.1;
        }
