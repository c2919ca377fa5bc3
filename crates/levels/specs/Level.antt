-- One level of a plan over time, a parent and its children, and what is promised of it: the level lemma of demand 3. Why it holds is in proofs/.
-- Assumes nothing.
use Rattle.std.specs.Prelude.{ℕ, ◌+◌, ◌*◌, ◌/◌, ◌%◌, ◌≤◌, ◌<◌, Bool, true, false, cond, ◌⊎◌, ◌≡◌}
use Rattle.meaning.specs.Allocation.{Allocation, ones}
use Rattle.rules.specs.Fit.{sum_to, most_to}

-- The books of a child with served type (C, T): what it has left at each slot after the refill and what it was charged since the last refill are together C.
pub record Books (C T : ℕ) (has : ℕ → ℕ) (charged : Allocation) : Type 0 where
  pub some : 0 < T
  pub balance : (b a : ℕ) → a < T → has (b * T + a) + ones charged (b * T) a ≡ C
  pub left : (x : ℕ) → charged x ≡ true → 0 < has x

-- A parent and its children over time: which numbers below `size` are its children, their served types, the slots that the parent may give, how many
-- it owes in t slots, what each child has left after the refill, when it is charged, and which of two children is served sooner.
pub record Level : Type 0 where
  pub size : ℕ
  pub child : ℕ → Bool
  pub c : ℕ → ℕ
  pub t : ℕ → ℕ
  pub gives : Allocation
  pub owes : ℕ → ℕ
  pub has : ℕ → ℕ → ℕ
  pub charged : ℕ → Allocation
  pub sooner : ℕ → ℕ → Bool

-- i is one of the children
pub record Child (l : Level) (i : ℕ) : Type 0 where
  pub there : i < l.size
  pub is : l.child i ≡ true

-- slot x is offered to child i: the parent may give it, i has slots left, and no child that is served sooner is charged
pub record Offered (l : Level) (i x : ℕ) : Type 0 where
  pub given : l.gives x ≡ true
  pub left : 0 < l.has i x
  pub passed : (j : ℕ) → Child l j → l.sooner j i ≡ true → l.charged j x ≡ false

-- the largest of the children's periods
unfoldable pub longest : Level → ℕ
longest l = most_to (λ i. cond (l.child i) (l.t i) 0) l.size

-- what child i asks for in m slots
unfoldable pub load : Level → ℕ → ℕ → ℕ
load l m i = cond (l.child i) (l.c i * (m / l.t i)) 0

-- A level that is kept: the parent gives what it owes in each child's periods and owes in proportion, each child's books balance, who is charged was
-- offered the slot, and rules 13 and 14 hold.
pub record Kept (l : Level) : Type 0 where
  pub given : (i : ℕ) → Child l i → (b : ℕ) → l.owes (l.t i) ≤ ones l.gives (b * l.t i) (l.t i)
  pub scales : (i : ℕ) → Child l i → (e : ℕ) → l.owes (e * l.t i) ≤ e * l.owes (l.t i)
  pub books : (i : ℕ) → Child l i → Books (l.c i) (l.t i) (l.has i) (l.charged i)
  pub offered : (i : ℕ) → Child l i → (x : ℕ) → l.charged i x ≡ true → Offered l i x
  pub shorter : (i j : ℕ) → l.sooner j i ≡ true → l.t j ≤ l.t i
  pub other : (i : ℕ) → l.sooner i i ≡ false
  pub rule13 : (i j : ℕ) → Child l i → Child l j → (l.t i % l.t j ≡ 0) ⊎ (l.t j % l.t i ≡ 0)
  pub rule14 : sum_to (load l (longest l)) l.size ≤ l.owes (longest l)

-- The level lemma: in a level that is kept, an allocation that has every slot offered to a child honours the child's served type, aligned. Nothing here says
-- that an offered slot is charged.
abbrev pub OfferedHonours : Type 0
OfferedHonours =
    (l : Level) → Kept l → (i : ℕ) → Child l i → (α : Allocation) → ((x : ℕ) → Offered l i x → α x ≡ true) →
    (b : ℕ) → l.c i ≤ ones α (b * l.t i) (l.t i)
