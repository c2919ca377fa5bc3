-- Whom a parent gives a slot to: document 01, "Giving out slots". Assumes nothing.
use Rattle.std.specs.Prelude.{ℕ, zero, suc, ◌≤◌, ◌<◌, Bool, true, not, cond, ◌&&◌, List, ◌⊎◌, ◌≡◌, Option, Some, None, ltb, get_or}
use Rattle.plans.specs.Plan.{same}
use Rattle.plans.specs.declared.Parent.{Parent}
use Rattle.dispatch.specs.View.{View}

-- whom a parent gives a slot to: nobody, or just one node
pub data Pick : Type 0 where
  nobody : Pick
  just : ℕ → Pick

-- what the code's choice says
abbrev pub picked : Option ℕ → Pick
picked None = nobody
picked (Some i) = just i

-- 01: "with slots left, .. passed over": whether node i takes a slot that its parent gives, where `passed` tells who is passed over (Passed.antt)
unfoldable pub takes : List ℕ → (ℕ → Bool) → ℕ → Bool
takes left passed i = ltb 0 (get_or left i 0) && not (passed i)

-- 01: "among its children": whether node i may be taken under x
unfoldable pub eligible : View → List ℕ → (ℕ → Bool) → Parent → ℕ → Bool
eligible v left passed x i = same (v.parent i) x && takes left passed i

-- 01: "take the smallest served T, then the lowest number": node i against the choice among the nodes before it
unfoldable pub prefer : View → Pick → ℕ → Pick
prefer v nobody i = just i
prefer v (just j) i = cond (ltb (v.t i) (v.t j)) (just i) (just j)

unfoldable pub consider : View → List ℕ → (ℕ → Bool) → Parent → Pick → ℕ → Pick
consider v left passed x best i = cond (eligible v left passed x i) (prefer v best i) best

-- the choice among the first k nodes
unfoldable pub choose_to : View → List ℕ → (ℕ → Bool) → Parent → ℕ → Pick
choose_to v left passed x zero = nobody
choose_to v left passed x (suc k) = consider v left passed x (choose_to v left passed x k) k

unfoldable pub choose : View → List ℕ → (ℕ → Bool) → Parent → Pick
choose v left passed x = choose_to v left passed x v.size

-- what the choice is, as document 01's sentence: i may be taken, and no other that may has a smaller served T, or the same and a lower number
pub record Chosen (v : View) (left : List ℕ) (passed : ℕ → Bool) (x : Parent) (i : ℕ) : Type 0 where
  pub there : i < v.size
  pub may : eligible v left passed x i ≡ true
  pub before : (j : ℕ) → j < v.size → eligible v left passed x j ≡ true → (v.t i < v.t j) ⊎ ((v.t i ≡ v.t j) × (i ≤ j))
