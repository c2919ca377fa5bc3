-- Laws of the choice: what a choice says of the node that it names, that nobody is chosen exactly when nobody may be taken, and that only the
-- nodes that are there, and of the parent's own children the counts and whether they are passed over, matter. Assumes nothing.
use Prim.Native.Nat.{ℕ, zero, suc, ◌≤◌, ◌<◌}
use mathlib.Core.Bool.{Bool, true, false, cond, ◌&&◌, true≢false}
use mathlib.Core.List.{List}
use mathlib.Core.Logic.{◌⊎◌, inl, inr}
use mathlib.Core.Path.{◌≡◌, refl, sym, ap, ◌∙◌}
use lib.Dec.{ltb}
use lib.ListN.{get_or}
use borrow.Author.Count.{below_more}
use borrow.Author.Tests.{lt-ltb, ltb-true, ltb-false, not-true}
use native.Mathlib.Nat.{le_refl, eq-or-lt_of_le}
use native.Mathlib.Omega.{arith}
use Rattle.plans.proofs.All.{left_true, right_true}
use Rattle.plans.proofs.Entries.{same_self, same_equal}
use Rattle.plans.specs.Plan.{same}
use Rattle.plans.specs.declared.Parent.{Parent}
use Rattle.dispatch.specs.View.{View}
use Rattle.dispatch.specs.Choice.{Pick, nobody, just, takes, eligible, prefer, consider, choose_to, choose, Chosen}

-- a node i comes before a node j: it has the smaller period, or the same and no higher number
abbrev Before : View → ℕ → ℕ → Type 0
Before v i j = (v.t i < v.t j) ⊎ ((v.t i ≡ v.t j) × (i ≤ j))

-- of two nodes that come before each other there is one
before_both : (v : View) (i j : ℕ) → Before v i j → Before v j i → i ≡ j
before_both v i j (inl a) (inl b) = absurd (omega arith)
before_both v i j (inl a) (inr b) = absurd (omega arith)
before_both v i j (inr a) (inl b) = absurd (omega arith)
before_both v i j (inr a) (inr b) = omega arith

-- an earlier node with a period no longer than another's comes before it
before_later : (v : View) (i k : ℕ) → v.t i ≤ v.t k → i ≤ k → Before v i k
before_later v i k h l = go (eq-or-lt_of_le h)
  where
    go : (v.t i ≡ v.t k) ⊎ (v.t i < v.t k) → Before v i k
    go (inl e) = inr (e, l)
    go (inr m) = inl m

-- a node with a smaller period than one that comes before j has a smaller one than j
before_period : (v : View) (i j k : ℕ) → Before v i j → v.t k < v.t i → v.t k < v.t j
before_period v i j k (inl a) l = omega arith
before_period v i j k (inr a) l = omega arith

-- what holds below k, and of k, holds below k + 1
below_suc : (P : ℕ → Type 0) (k : ℕ) → ((j : ℕ) → j < k → P j) → P k → (j : ℕ) → j < suc k → P j
below_suc P k h at j l = below_more P k h at j (omega arith)

module _ (v : View) (left : List ℕ) (passed : ℕ → Bool) (x : Parent) where
  -- node i comes before node j, if j may be taken
  abbrev First : ℕ → ℕ → Type 0
  First i j = eligible v left passed x j ≡ true → Before v i j

  -- node i is the one to take among the first k nodes
  record ChosenTo (k i : ℕ) : Type 0 where
    there : i < k
    may : eligible v left passed x i ≡ true
    before : (j : ℕ) → j < k → First i j

  -- what a choice among the first k nodes says
  data Told (k : ℕ) : Pick → Type 0 where
    none : ((j : ℕ) → j < k → eligible v left passed x j ≡ false) → Told k nobody
    one : (i : ℕ) → ChosenTo k i → Told k (just i)

  module _ (k : ℕ) where
    -- node k is taken where it may be and comes before the others that may
    newcomer : eligible v left passed x k ≡ true → ((j : ℕ) → j < k → First k j) → Told (suc k) (just k)
    newcomer e before = one k (record { there = omega arith; may = e; before = below_suc (First k) k before (λ _. inr (refl, omega arith)) })

    -- the one to take stays so where it comes before node k
    incumbent : (i : ℕ) → ChosenTo k i → First i k → Told (suc k) (just i)
    incumbent i c here = one i (record { there = omega (arith, c.there); may = c.may; before = below_suc (First i) k c.before here })

    -- so the smaller period decides between the two
    between : eligible v left passed x k ≡ true → (i : ℕ) → ChosenTo k i → (b : Bool) → ltb (v.t k) (v.t i) ≡ b →
        Told (suc k) (cond b (just k) (just i))
    between e i c true h = newcomer e (λ j l m. inl (before_period v i j k (c.before j l m) (ltb-true (v.t k) (v.t i) h)))
    between e i c false h = incumbent i c (λ _. before_later v i k (ltb-false (v.t k) (v.t i) h) (omega (arith, c.there)))

    -- with node k considered, the choice among the first k + 1 nodes
    told_more : (best : Pick) → Told k best → Told (suc k) (consider v left passed x best k)
    unfolding consider prefer
    told_more best t = go (eligible v left passed x k) refl best t
      where
        go : (b : Bool) → eligible v left passed x k ≡ b → (best : Pick) → Told k best → Told (suc k) (cond b (prefer v best k) best)
        go false e best (none h) = none (below_suc (λ j. eligible v left passed x j ≡ false) k h e)
        go false e best (one i c) = incumbent i c (λ m. absurd (true≢false (sym m ∙ e)))
        go true e best (none h) = newcomer e (λ j l m. absurd (true≢false (sym m ∙ h j l)))
        go true e best (one i c) = between e i c (ltb (v.t k) (v.t i)) refl

  -- the choice among the first k nodes says so
  told : (k : ℕ) → Told k (choose_to v left passed x k)
  unfolding choose_to
  told zero = none (λ j l. absurd (omega arith))
  told (suc k) = told_more k (choose_to v left passed x k) (told k)

  -- a told child is the one to take
  told_child : (k : ℕ) {i : ℕ} → Told k (just i) → ChosenTo k i
  told_child k (one i c) = c

  -- whoever is chosen among the first k nodes is one of them
  choose_to_below : (k i : ℕ) → choose_to v left passed x k ≡ just i → i < k
  choose_to_below k i e = (told_child k (rw e at (told k))).there

  -- where nobody is told, nobody may be taken
  told_nobody : (k : ℕ) → Told k nobody → (j : ℕ) → j < k → eligible v left passed x j ≡ false
  told_nobody k (none h) = h

  -- the choice is what document 01's sentence says
  pub choice_chosen : (i : ℕ) → choose v left passed x ≡ just i → Chosen v left passed x i
  unfolding choose
  choice_chosen i e =
      let c = told_child v.size (rw e at (told v.size)) in
      record { there = c.there; may = c.may; before = c.before }

  -- where nobody is chosen, nobody may be taken
  pub choice_none : choose v left passed x ≡ nobody → (j : ℕ) → j < v.size → eligible v left passed x j ≡ false
  unfolding choose
  choice_none e = told_nobody v.size (rw e at (told v.size))

  -- what the sentence names is the choice
  pub chosen_choice : (i : ℕ) → Chosen v left passed x i → choose v left passed x ≡ just i
  chosen_choice i c = go (choose v left passed x) refl
    where
      go : (w : Pick) → choose v left passed x ≡ w → w ≡ just i
      go nobody e = absurd (true≢false (sym c.may ∙ choice_none e i c.there))
      go (just j) e =
          let d = choice_chosen j e in
          ap just (before_both v j i (d.before i c.there c.may) (c.before j d.there d.may))

  -- where nobody may be taken, nobody is chosen
  pub none_choice : ((j : ℕ) → j < v.size → eligible v left passed x j ≡ false) → choose v left passed x ≡ nobody
  none_choice h = go (choose v left passed x) refl
    where
      go : (w : Pick) → choose v left passed x ≡ w → w ≡ nobody
      go nobody e = refl
      go (just j) e = let d = choice_chosen j e in absurd (true≢false (sym d.may ∙ h j d.there))

  -- where somebody may be taken, somebody is chosen
  pub some_choice : (i : ℕ) → i < v.size → eligible v left passed x i ≡ true → (j : ℕ) × (choose v left passed x ≡ just j)
  some_choice i l may = go (choose v left passed x) refl
    where
      go : (w : Pick) → choose v left passed x ≡ w → (j : ℕ) × (choose v left passed x ≡ just j)
      go nobody e = absurd (true≢false (sym may ∙ choice_none e i l))
      go (just j) e = (j, e)

  module _ (i : ℕ) (may : eligible v left passed x i ≡ true) where
    -- who may be taken under x is a child of x
    pub eligible_under : v.parent i ≡ x
    unfolding eligible
    eligible_under = same_equal (v.parent i) x (left_true (same (v.parent i) x) _ may)

    -- with slots left
    pub eligible_left : 0 < get_or left i 0
    unfolding eligible takes
    eligible_left = ltb-true 0 (get_or left i 0) (left_true (ltb 0 (get_or left i 0)) _ (right_true (same (v.parent i) x) _ may))

  -- a child of x with slots left may be taken, if it is not passed over
  pub eligible_child : (i : ℕ) → v.parent i ≡ x → 0 < get_or left i 0 → passed i ≡ false → eligible v left passed x i ≡ true
  unfolding eligible takes
  eligible_child i up some willing = rw (same_self (v.parent i) x up, lt-ltb 0 (get_or left i 0) some, willing)

  -- and one that may be taken is not passed over
  pub eligible_willing : (i : ℕ) → eligible v left passed x i ≡ true → passed i ≡ false
  unfolding eligible takes
  eligible_willing i may = not-true (passed i) (right_true (ltb 0 (get_or left i 0)) _ (right_true (same (v.parent i) x) _ may))

  module _ (i : ℕ) (e : choose v left passed x ≡ just i) where
    -- the chosen node is there
    pub choice_below : i < v.size
    choice_below = (choice_chosen i e).there

    -- it is a child of x
    pub choice_under : v.parent i ≡ x
    choice_under = eligible_under i (choice_chosen i e).may

    -- with slots left
    pub choice_left : 0 < get_or left i 0
    choice_left = eligible_left i (choice_chosen i e).may

    -- it is not passed over
    pub choice_willing : passed i ≡ false
    choice_willing = eligible_willing i (choice_chosen i e).may

    -- and no other that may be taken has a smaller period, or the same and a lower number
    pub choice_first : (j : ℕ) → j < v.size → eligible v left passed x j ≡ true → (v.t i < v.t j) ⊎ ((v.t i ≡ v.t j) × (i ≤ j))
    choice_first = (choice_chosen i e).before

-- two views that agree at every node that is there
pub record Alike (v w : View) : Type 0 where
  pub size : v.size ≡ w.size
  pub parent : (i : ℕ) → i < v.size → v.parent i ≡ w.parent i
  pub leaf : (i : ℕ) → i < v.size → v.leaf i ≡ w.leaf i
  pub c : (i : ℕ) → i < v.size → v.c i ≡ w.c i
  pub t : (i : ℕ) → i < v.size → v.t i ≡ w.t i

alike_self : (v : View) → Alike v v
alike_self v = record { size = refl; parent = λ i l. refl; leaf = λ i l. refl; c = λ i l. refl; t = λ i l. refl }

-- a second test that is asked only where the first holds
pub second_asked : (a b c : Bool) → (a ≡ true → b ≡ c) → (a && b) ≡ (a && c)
second_asked true b c h = h refl
second_asked false b c h = refl

module _ (v w : View) (alike : Alike v w) (left other : List ℕ) (passed others : ℕ → Bool) (x : Parent)
    (counts : (i : ℕ) → i < v.size → v.parent i ≡ x → get_or left i 0 ≡ get_or other i 0)
    (tests : (i : ℕ) → i < v.size → v.parent i ≡ x → passed i ≡ others i) where
  -- whether a node may be taken under x is told by its own count and by whether it is passed over, where it is a child of x
  eligible_alike : (i : ℕ) → i < v.size → eligible v left passed x i ≡ eligible w other others x i
  unfolding eligible takes
  eligible_alike i l =
      rw (← (alike.parent i l))
      (second_asked (same (v.parent i) x) _ _
      (λ e. let up = same_equal (v.parent i) x e in rw (counts i l up, tests i l up)))

  -- of two nodes that are there the same is preferred
  prefer_alike : (best : Pick) (i : ℕ) → ((j : ℕ) → best ≡ just j → j < v.size) → i < v.size → prefer v best i ≡ prefer w best i
  unfolding prefer
  prefer_alike nobody i below l = refl
  prefer_alike (just j) i below l = rw (alike.t i l, alike.t j (below j refl))

  -- so among the first k nodes only x's own children matter
  choose_to_alike : (k : ℕ) → k ≤ v.size → choose_to v left passed x k ≡ choose_to w other others x k
  unfolding choose_to consider
  choose_to_alike zero l = refl
  choose_to_alike (suc k) l =
      let best = choose_to v left passed x k in
      let there : (j : ℕ) → best ≡ just j → j < v.size = λ j e. omega (arith, choose_to_below v left passed x k j e) in
      rw (← (choose_to_alike k (omega arith)), ← (eligible_alike k l), prefer_alike best k there l)

  -- views that agree, and counts and tests that agree on the children of x, give the same choice
  pub choice_alike : choose v left passed x ≡ choose w other others x
  unfolding choose
  choice_alike = choose_to_alike v.size (le_refl v.size) ∙ ap (choose_to w other others x) alike.size

-- two counts, and two tests of who is passed over, that agree on the children of x give the same choice
pub choice_same : (v : View) (left other : List ℕ) (passed others : ℕ → Bool) (x : Parent) →
    ((i : ℕ) → i < v.size → v.parent i ≡ x → get_or left i 0 ≡ get_or other i 0) → ((i : ℕ) → i < v.size → v.parent i ≡ x → passed i ≡ others i) →
    choose v left passed x ≡ choose v other others x
choice_same v left other passed others x = choice_alike v v (alike_self v) left other passed others x

-- and so do two counts alone
pub choice_local : (v : View) (left other : List ℕ) (passed : ℕ → Bool) (x : Parent) →
    ((i : ℕ) → i < v.size → v.parent i ≡ x → get_or left i 0 ≡ get_or other i 0) → choose v left passed x ≡ choose v other passed x
choice_local v left other passed x agree = choice_same v left other passed passed x agree (λ i l up. refl)
