-- No honouring allocation has fewer ones in a window than an aligned giver owes it. Assumes nothing.
use Prim.Native.Nat.{ℕ, ◌+◌, ◌-◌, ◌*◌, ◌/◌, ◌%◌, ◌≤◌, ◌<◌}
use mathlib.Core.Path.{◌≡◌, ap}
use native.Mathlib.Nat.{add-zero, add-le-add, le_refl, div-add-mod'}
use native.Mathlib.Omega.{arith}
use Rattle.meaning.specs.Allocation.{Allocation, ones}
use Rattle.owed.proofs.Owed.{owed}
use Rattle.owed.proofs.Ones.{ones_le, ones_split, ones_later}
use Rattle.owed.proofs.Parts.{owed_by_parts}

-- n slots of a window of T slots with at least C ones have at most T − C zeros
pub part_ge : (C T : ℕ) (α : Allocation) (p : ℕ) → C ≤ ones α p T → (a n : ℕ) → a + n ≤ T → n - (T - C) ≤ ones α (p + a) n
part_ge C T α p h a n fits =
    let r : ℕ = T - (a + n) in
    let sum : T ≡ a + (n + r) = omega arith in
    omega (arith, ap (ones α p) sum, ones_split α p a (n + r), ones_split α (p + a) n r, ones_le α p a, ones_le α (p + a + n) r)

-- an allocation that honours (C, T) aligned has at least what is owed, in every window
pub bound : (C T : ℕ) → 0 < T → C ≤ T → (α : Allocation) → ((b : ℕ) → C ≤ ones α (b * T) T) → (s L : ℕ) → owed C T s L ≤ ones α s L
bound C T some fits α honours s L =
    owed_by_parts ◌≤◌ (record { none = le_refl 0; sum = add-le-add }) C T some fits α s L
    (λ p n part. rw (div-add-mod' p T) at (part_ge C T α (p / T * T) (honours (p / T)) (p % T) n part.one))

-- one that honours (C, T) sliding has in every window what is owed to a window at slot 0: seen from any slot on it is aligned
pub bound_sliding : (C T : ℕ) → 0 < T → C ≤ T → (α : Allocation) → ((s : ℕ) → C ≤ ones α s T) → (s L : ℕ) → owed C T 0 L ≤ ones α s L
bound_sliding C T some fits α honours s L = rw (ones_later α s 0 L, add-zero s) at
    (bound C T some fits (λ m. α (s + m)) (λ b. rw (ones_later α s (b * T) T) (honours (s + b * T))) 0 L)
