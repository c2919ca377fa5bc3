-- What document 02, request 6, promises of soft types, by the meaning alone. Why each holds is in proofs/. Assumes nothing.
use Rattle.std.specs.Prelude.{ℕ, ◌*◌, ◌≤◌, ◌<◌, Bool, true, false, ◌↔◌, ◌⊎◌, ◌≡◌}
use Rattle.std.specs.Int.{◌∣◌}
use Rattle.meaning.specs.Allocation.{Allocation}
use Rattle.meaning.specs.Types.{well_formed, Honours, StandsIn}
use Rattle.meaning.specs.Soft.{within_range, met, missed, HonoursSoft, StandsInSoft}
use Rattle.meaning.specs.declared.SlotType.{SlotType}
use Rattle.meaning.specs.declared.Misses.{Misses}
use Rattle.meaning.specs.declared.Kind.{Kind}
use Rattle.meaning.specs.declared.Kind.TheVariants.{Aligned}
use Rattle.soft.specs.Formula.{divided, greatest, lost_of_many, lost_of_one, windows_in, lost, loses, worst, allowed}

-- m is the most windows of stretch b that an allocation honouring the served type can miss: none misses more, and one misses just that
pub record MostMissed (served wanted : SlotType) (W b m : ℕ) : Type 0 where
  pub none_more : (α : Allocation) → Honours Aligned served α → missed Aligned wanted α (b * W) W ≤ m
  pub allocation : Allocation
  pub honours : Honours Aligned served allocation
  pub just : missed Aligned wanted allocation (b * W) W ≡ m

-- an allocation that honours the served type and misses more than D of the W windows of stretch b
pub record Missing (served wanted : SlotType) (misses : Misses) : Type 0 where
  pub allocation : Allocation
  pub honours : Honours Aligned served allocation
  pub stretch : ℕ
  pub too_many : misses.d < missed Aligned wanted allocation (stretch * misses.w) misses.w

-- Misses are allowed exactly where the served type stands in for the soft one.
abbrev pub AllowedExactly : Type 0
AllowedExactly =
    (served wanted : SlotType) (misses : Misses) → well_formed served ≡ true → well_formed wanted ≡ true → within_range misses ≡ true →
    divided served wanted ≡ true → (allowed served wanted misses ≡ true) ↔ StandsInSoft Aligned served Aligned wanted misses

-- Where they are not, an allocation and a stretch show it.
abbrev pub NotAllowedShows : Type 0
NotAllowedShows =
    (served wanted : SlotType) (misses : Misses) → well_formed served ≡ true → well_formed wanted ≡ true → within_range misses ≡ true →
    divided served wanted ≡ true → allowed served wanted misses ≡ false → Missing served wanted misses

-- What the formula says that a stretch loses is the most that it can lose, whatever its length.
abbrev pub LosesExactly : Type 0
LosesExactly =
    (served wanted : SlotType) → well_formed served ≡ true → well_formed wanted ≡ true → divided served wanted ≡ true → (W b : ℕ) →
    MostMissed served wanted W b (loses (windows_in served wanted) (lost served wanted) W b)

-- K stretches are enough: no later one loses more than the worst of these.
abbrev pub NoneWorse : Type 0
NoneWorse = (K u W : ℕ) → 1 ≤ K → u ≤ K → (b : ℕ) → loses K u W b ≤ worst K u W

-- The greatest number up to n of which a test holds: the test holds of it if it holds of 0, and of no greater number up to n.
abbrev pub GreatestOf : Type 0
GreatestOf =
    (f : ℕ → Bool) (n : ℕ) →
    (greatest f n ≤ n) × (f 0 ≡ true → f (greatest f n) ≡ true) × ((x : ℕ) → x ≤ n → greatest f n < x → f x ≡ false)

-- Where T = T' the two cases of the formula say the same.
abbrev pub CasesAgree : Type 0
CasesAgree =
    (served wanted : SlotType) → well_formed served ≡ true → well_formed wanted ≡ true → served.t ≡ wanted.t →
    lost_of_many served wanted ≡ lost_of_one served wanted

-- Of two periods one divides the other, by the test and by its meaning.
abbrev pub DividedExactly : Type 0
DividedExactly =
    (served wanted : SlotType) → 1 ≤ served.t → 1 ≤ wanted.t →
    (divided served wanted ≡ true) ↔ ((wanted.t ∣ served.t) ⊎ (served.t ∣ wanted.t))

-- 02: "If T divides T', either no window can miss or all can": no honouring allocation misses a window, or one misses them all
abbrev pub NoneOrAll : Type 0
NoneOrAll =
    (served wanted : SlotType) → well_formed served ≡ true → served.t ∣ wanted.t →
    ((α : Allocation) → Honours Aligned served α → (v : ℕ) → met Aligned wanted α v ≡ true)
    ⊎ ((α : Allocation) × (Honours Aligned served α) × ((v : ℕ) → met Aligned wanted α v ≡ false))

-- To honour a soft type is to miss at most D windows in every stretch.
abbrev pub MissedAtMost : Type 0
MissedAtMost =
    (k : Kind) (wanted : SlotType) (misses : Misses) (α : Allocation) →
    HonoursSoft k wanted misses α ↔ ((b : ℕ) → missed k wanted α (b * misses.w) misses.w ≤ misses.d)

-- 02: "Leaves with D = 0 .. are treated as hard": hard is soft with no miss, whatever W is, for both kinds
abbrev pub HardIsSoft : Type 0
HardIsSoft =
    (k : Kind) (wanted : SlotType) (misses : Misses) → misses.d ≡ 0 → 1 ≤ misses.w →
    (α : Allocation) → HonoursSoft k wanted misses α ↔ Honours k wanted α

-- so what stands in for the one stands in for the other
abbrev pub StandsInAlike : Type 0
StandsInAlike =
    (k : Kind) (wanted : SlotType) (misses : Misses) → misses.d ≡ 0 → 1 ≤ misses.w →
    (k₀ : Kind) (giver : SlotType) → StandsInSoft k₀ giver k wanted misses ↔ StandsIn k₀ giver k wanted

-- Where all windows of a stretch may miss, that is allowed.
abbrev pub AllMayMiss : Type 0
AllMayMiss =
    (served wanted : SlotType) (misses : Misses) → well_formed served ≡ true → well_formed wanted ≡ true → within_range misses ≡ true →
    divided served wanted ≡ true → misses.d ≡ misses.w → allowed served wanted misses ≡ true
