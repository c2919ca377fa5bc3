-- Hard is soft with no miss, for both kinds and stretches of any length. Assumes nothing.
use Prim.Native.Nat.{ℕ, ◌*◌, ◌≤◌}
use mathlib.Core.Bool.{true}
use mathlib.Core.Path.{◌≡◌, refl}
use native.Mathlib.Omega.{arith}
use borrow.Author.Tests.{le-leb, leb-true}
use Rattle.meaning.specs.Allocation.{Allocation, ones}
use Rattle.meaning.specs.Types.{◌of◌, Honours, StandsIn}
use Rattle.meaning.specs.Soft.{window_start, met, HonoursSoft, StandsInSoft}
use Rattle.meaning.specs.declared.Kind.{Kind}
use Rattle.meaning.specs.declared.Kind.TheVariants.{Aligned, Sliding}
use Rattle.meaning.specs.declared.SlotType.{SlotType}
use Rattle.meaning.specs.declared.Misses.{Misses}
use Rattle.owed.proofs.Ones.{ones_all}
use Rattle.owed.proofs.Every.{honours_every}

module _ (k : Kind) (wanted : SlotType) (α : Allocation) where
  -- a window that is met has its C'
  pub met_has : (v : ℕ) → met k wanted α v ≡ true → wanted.c ≤ ones α (window_start k wanted.t v) wanted.t
  unfolding met
  met_has v e = leb-true wanted.c (ones α (window_start k wanted.t v) wanted.t) e

  -- and one that has its C' is met
  pub has_met : (v : ℕ) → wanted.c ≤ ones α (window_start k wanted.t v) wanted.t → met k wanted α v ≡ true
  unfolding met
  has_met v h = le-leb wanted.c (ones α (window_start k wanted.t v) wanted.t) h

-- where every window is met, the hard type is honoured
all_met : (k : Kind) (wanted : SlotType) (α : Allocation) → ((v : ℕ) → met k wanted α v ≡ true) → Honours k wanted α
all_met Aligned wanted α all s (b, e) = rw e (met_has Aligned wanted α b (all b))
all_met Sliding wanted α all s _ = met_has Sliding wanted α s (all s)

-- and back
met_all : (k : Kind) (wanted : SlotType) (α : Allocation) → Honours k wanted α → (v : ℕ) → met k wanted α v ≡ true
met_all Aligned wanted α honours v = has_met Aligned wanted α v (honours (v * wanted.t) (v, refl))
met_all Sliding wanted α honours v = has_met Sliding wanted α v (honours v tt)

module _ (k : Kind) (wanted : SlotType) (misses : Misses) (none : misses.d ≡ 0) (some : 1 ≤ misses.w) where
  -- with D = 0, an allocation that honours the soft type honours the hard one
  pub hard_of_soft : (α : Allocation) → HonoursSoft k wanted misses α → Honours k wanted α
  hard_of_soft α honours = all_met k wanted α (honours_every Aligned (misses.w of misses.w) some refl (met k wanted α) every)
    where
      every : Honours Aligned (misses.w of misses.w) (met k wanted α)
      every s (b, e) = rw e (omega (arith, honours b))

  -- and back
  pub soft_of_hard : (α : Allocation) → Honours k wanted α → HonoursSoft k wanted misses α
  soft_of_hard α honours b = rw (ones_all (met k wanted α) (met_all k wanted α honours) (b * misses.w) misses.w) (omega arith)

  -- so with D = 0, what stands in for the soft type stands in for the hard one
  pub stands_in_hard : (k₀ : Kind) (giver : SlotType) → StandsInSoft k₀ giver k wanted misses → StandsIn k₀ giver k wanted
  stands_in_hard k₀ giver stands α honours = hard_of_soft α (stands α honours)

  -- and back
  pub stands_in_soft : (k₀ : Kind) (giver : SlotType) → StandsIn k₀ giver k wanted → StandsInSoft k₀ giver k wanted misses
  stands_in_soft k₀ giver stands α honours = soft_of_hard α (stands α honours)
