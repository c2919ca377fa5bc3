-- Laws of the ones in a window, for any allocation: how many at most, parts, order, agreement, a window seen from a later slot, and one without a
-- zero. Assumes nothing.
use Prim.Native.Nat.{ℕ, zero, suc, ◌+◌, ◌≤◌, ◌<◌}
use mathlib.Core.Bool.{Bool, true, false}
use mathlib.Core.Path.{◌≡◌, refl, ap, ap₂}
use native.Mathlib.Nat.{add-zero, add-suc, add_assoc, le_refl, add-le-add}
use native.Mathlib.Numerals.{add-one}
use native.Mathlib.Omega.{arith}
use Rattle.meaning.specs.Allocation.{Allocation, bit, ones}

bit_le : (a : Bool) → bit a ≤ 1
bit_le true = omega arith
bit_le false = omega arith

bit_mono : (a b : Bool) → (a ≡ true → b ≡ true) → bit a ≤ bit b
bit_mono true b h = rw (h refl) (le_refl 1)
bit_mono false b h = omega arith

-- a window has no more ones than slots
pub ones_le : (α : Allocation) (s n : ℕ) → ones α s n ≤ n
unfolding ones
ones_le α s zero = le_refl 0
ones_le α s (suc n) = omega (arith, ones_le α s n, bit_le (α (s + n)))

-- a window's ones are those of its first slots and those of the rest
pub ones_split : (α : Allocation) (s a b : ℕ) → ones α s (a + b) ≡ ones α s a + ones α (s + a) b
unfolding ones
ones_split α s a zero = rw (add-zero a, add-zero (ones α s a))
ones_split α s a (suc b) = rw (add-suc a b, ones_split α s a b, add_assoc s a b, add_assoc (ones α s a))

-- an allocation that is 1 wherever another is has at least as many ones in any window
pub ones_mono : (α β : Allocation) → ((n : ℕ) → α n ≡ true → β n ≡ true) → (s n : ℕ) → ones α s n ≤ ones β s n
unfolding ones
ones_mono α β h s zero = le_refl 0
ones_mono α β h s (suc n) = add-le-add (ones_mono α β h s n) (bit_mono (α (s + n)) (β (s + n)) (h (s + n)))

-- allocations that agree on a window's slots have equally many ones there
pub ones_ext : (α β : Allocation) (s n : ℕ) → ((m : ℕ) → s ≤ m → m < s + n → α m ≡ β m) → ones α s n ≡ ones β s n
unfolding ones
ones_ext α β s zero h = refl
ones_ext α β s (suc n) h =
    ap₂ ◌+◌ (ones_ext α β s n (λ m a b. h m a (omega (arith, add-suc s n)))) (ap bit (h (s + n) (omega arith) (omega arith)))

-- a window of an allocation seen from slot s on is the window s slots later
pub ones_later : (α : Allocation) (s a n : ℕ) → ones (λ m. α (s + m)) a n ≡ ones α (s + a) n
unfolding ones
ones_later α s a zero = refl
ones_later α s a (suc n) = rw (ones_later α s a n, add_assoc s a n)

-- a window of slots that are all set holds as many ones as slots
pub ones_all : (α : Allocation) → ((n : ℕ) → α n ≡ true) → (s n : ℕ) → ones α s n ≡ n
unfolding ones
ones_all α set s zero = refl
ones_all α set s (suc n) = rw (set (s + n), ones_all α set s n) (add-one n)
