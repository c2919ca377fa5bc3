-- A type (T, T) asks for every slot: an allocation that honours it has no zero, and what stands in for it asks for every slot too. Assumes nothing.
use Prim.Native.Nat.{ℕ, ◌+◌, ◌-◌, ◌*◌, ◌/◌, ◌%◌, ◌≤◌, ◌<◌}
use mathlib.Core.Bool.{Bool, true, false, false≢true}
use mathlib.Core.Logic.{◌⊎◌, inl, inr}
use mathlib.Core.Path.{◌≡◌, refl, sym, ◌∙◌}
use native.Mathlib.Nat.{zero-add, add-zero, zero-mul, zero-div, div-add-mod', mod-lt, eq-or-lt_of_le}
use native.Mathlib.Omega.{arith}
use borrow.Author.Tests.{lt-ltb}
use Rattle.meaning.specs.Allocation.{Allocation, bit, ones}
use Rattle.meaning.specs.Types.{Honours, StandsIn}
use Rattle.meaning.specs.Written.{written}
use Rattle.meaning.specs.declared.Kind.{Kind}
use Rattle.meaning.specs.declared.Kind.TheVariants.{Aligned, Sliding}
use Rattle.meaning.specs.declared.SlotType.{SlotType}
use Rattle.owed.proofs.Attained.{written_aligned}
use Rattle.owed.proofs.Bound.{part_ge}

-- a slot that counts is set
bit_set : (b : Bool) → 1 ≤ bit b → b ≡ true
bit_set true h = refl
bit_set false h = absurd (omega arith)

-- each slot of a window without a zero is set
slot_set : (T : ℕ) (α : Allocation) (p : ℕ) → T ≤ ones α p T → (a : ℕ) → a < T → α (p + a) ≡ true
unfolding ones
slot_set T α p h a l = bit_set (α (p + a)) (rw (add-zero (p + a), zero-add) at one)
  where
    one : 1 ≤ ones α (p + a) 1
    one = omega (arith, part_ge T T α p h a 1 (omega arith))

-- an allocation that honours (T, T), aligned or sliding, has every slot
pub honours_every : (k : Kind) (a : SlotType) → 0 < a.t → a.c ≡ a.t → (α : Allocation) → Honours k a α → (n : ℕ) → α n ≡ true
honours_every Aligned a some e α honours n =
    rw (div-add-mod' n a.t) at
    (slot_set a.t α (n / a.t * a.t) (rw e at (honours (n / a.t * a.t) (n / a.t, refl))) (n % a.t) (mod-lt n some))
honours_every Sliding a some e α honours n = rw (add-zero n) at (slot_set a.t α n (rw e at (honours n tt)) 0 some)

-- the written allocation of a type with C < T leaves slot 0 out
first_unset : (C T : ℕ) → C < T → written C T 0 1 0 ≡ false
unfolding written
first_unset C T l = rw (zero-div T, zero-mul T, lt-ltb 0 (T - C) (omega arith))

-- so a giver that stands in for (T', T') has C = T itself
pub stands_in_every : (giver : SlotType) → 0 < giver.t → giver.c ≤ giver.t → (k : Kind) (wanted : SlotType) → 0 < wanted.t → wanted.c ≡ wanted.t →
    StandsIn Aligned giver k wanted → giver.c ≡ giver.t
stands_in_every giver some fits k wanted more e stands = go (eq-or-lt_of_le fits)
  where
    α : Allocation
    α = written giver.c giver.t 0 1

    aligned : Honours Aligned giver α
    aligned s (b, at) = rw at (written_aligned giver.c giver.t some fits 0 1 b)

    go : (giver.c ≡ giver.t) ⊎ (giver.c < giver.t) → giver.c ≡ giver.t
    go (inl same) = same
    go (inr l) = absurd (false≢true (sym (first_unset giver.c giver.t l) ∙ honours_every k wanted more e α (stands α aligned) 0))
