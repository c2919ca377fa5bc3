-- The books of one slot: the counts in hand against those at the slot's start, after its refill. What fell fell by one, is the choice at the start of its
-- parent, and its parent may give the slot; and the choice of each parent that may give it has fallen. Assumes nothing.
use Prim.Native.Nat.{ℕ, suc, ◌≤◌, ◌<◌}
use mathlib.Core.Bool.{Bool, true, false, true≢false}
use mathlib.Core.List.{List}
use mathlib.Core.Path.{◌≡◌, refl, sym, ◌∙◌}
use lib.ListN.{get_or}
use native.Mathlib.Decide.{dec_lt}
use native.Mathlib.Nat.{le_antisymm}
use native.Mathlib.Omega.{arith}
use Rattle.plans.proofs.Entries.{same_self, same_equal}
use Rattle.plans.specs.Plan.{parent_of, same}
use Rattle.plans.specs.declared.Parent.{Parent}
use Rattle.plans.specs.declared.Parent.TheVariants.{Supply, Node as Under}
use Rattle.plans.specs.declared.Plan.{Plan}
use Rattle.dispatch.specs.View.{view_of, bit_of}
use Rattle.dispatch.specs.Choice.{just, choose}

-- node i's count has fallen since the slot's start
abbrev pub Fell : List ℕ → List ℕ → ℕ → Type 0
Fell start now i = get_or now i 0 < get_or start i 0

-- parent x may give the slot, with the first k cores served so far: a supply where its core is supplied, a host where it fell
abbrev pub Opened : ℕ → List ℕ → ℕ → List ℕ → Parent → Type 0
Opened supplied start k now (Supply s) = (s < k) × (bit_of supplied s ≡ true)
Opened supplied start k now (Under h) = Fell start now h

-- a parent stays opened as cores are served and counts fall
pub opened_more : (supplied : ℕ) (start : List ℕ) (k k' : ℕ) (now now' : List ℕ) → k ≤ k' → ((h : ℕ) → Fell start now h → Fell start now' h) → (x : Parent) →
    Opened supplied start k now x → Opened supplied start k' now' x
opened_more supplied start k k' now now' l still (Supply s) o = (omega arith, o.1)
opened_more supplied start k k' now now' l still (Under h) o = still h o

-- two parents are the same one or not
pub parent_decided : (a b : Parent) → Dec (a ≡ b)
parent_decided a b = go (same a b) refl
  where
    go : (t : Bool) → same a b ≡ t → Dec (a ≡ b)
    go true e = yes (same_equal a b e)
    go false e = no (λ h. true≢false (sym (same_self a b h) ∙ e))

module _ (plan : Plan) (supplied : ℕ) (passed : ℕ → Bool) (start : List ℕ) where
  -- node i took a slot of its parent
  pub record Took (k : ℕ) (now : List ℕ) (i : ℕ) : Type 0 where
    pub by_one : get_or start i 0 ≡ suc (get_or now i 0)
    pub chosen : choose (view_of plan) start passed (parent_of plan i) ≡ just i
    pub opened : Opened supplied start k now (parent_of plan i)

  -- the books with the first k cores served, but for some parents whose choice has yet to fall
  pub record Books (k : ℕ) (but : Parent → Type 0) (now : List ℕ) : Type 0 where
    pub no_more : (i : ℕ) → get_or now i 0 ≤ get_or start i 0
    pub took : (i : ℕ) → Fell start now i → Took k now i
    pub gave : (x : Parent) → (but x → ⊥) → Opened supplied start k now x → (i : ℕ) → choose (view_of plan) start passed x ≡ just i → Fell start now i

  -- the books while a walk stands at parent x, whose children are untouched
  pub record Pending (k : ℕ) (x : Parent) (now : List ℕ) : Type 0 where
    pub books : Books k (λ y. y ≡ x) now
    pub opened : Opened supplied start k now x
    pub untouched : (i : ℕ) → i < plan.size → parent_of plan i ≡ x → get_or now i 0 ≡ get_or start i 0

  -- the children of a parent that is not opened are untouched
  pub shut_untouched : (k : ℕ) (but : Parent → Type 0) (now : List ℕ) → Books k but now → (x : Parent) → (Opened supplied start k now x → ⊥) → (i : ℕ) →
      parent_of plan i ≡ x → get_or now i 0 ≡ get_or start i 0
  shut_untouched k but now b x shut i up = go (dec_lt (get_or now i 0) (get_or start i 0))
    where
      go : Dec (Fell start now i) → get_or now i 0 ≡ get_or start i 0
      go (yes f) = absurd (shut (rw up at (b.took i f).opened))
      go (no kept) = le_antisymm (b.no_more i) (omega arith)
