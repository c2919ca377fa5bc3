-- What it is that of each K wanted windows u can be lost, and what follows: to stand in for a soft type is to stand in, among windows, for a hard one.
-- Assumes nothing.
use Prim.Native.Nat.{ℕ, ◌-◌, ◌*◌, ◌<◌}
use mathlib.Core.Bool.{true}
use mathlib.Core.Path.{◌≡◌, refl}
use native.Mathlib.Nat.{le_trans}
use native.Mathlib.Omega.{arith}
use Rattle.meaning.specs.Allocation.{Allocation, ones}
use Rattle.meaning.specs.Types.{◌of◌, Honours, StandsIn}
use Rattle.meaning.specs.Soft.{met, missed, StandsInSoft}
use Rattle.meaning.specs.declared.Kind.TheVariants.{Aligned}
use Rattle.meaning.specs.declared.SlotType.{SlotType}
use Rattle.meaning.specs.declared.Misses.{Misses}
use Rattle.owed.proofs.Ones.{ones_mono}
use Rattle.windows.proofs.Missed.{met_or_missed}

-- an allocation that honours a served type, and meets no window but those of β
pub record Meeting (served wanted : SlotType) (β : Allocation) : Type 0 where
  pub given : Allocation
  pub honours : Honours Aligned served given
  pub only : (v : ℕ) → met Aligned wanted given v ≡ true → β v ≡ true

-- of each K wanted windows the served type can lose u and no more: whatever honours it meets at least K − u of them, and every choice of windows that has
-- K − u of each K has all that some honouring allocation meets
pub record Losing (served wanted : SlotType) (K u : ℕ) : Type 0 where
  pub bound : (α : Allocation) → Honours Aligned served α → Honours Aligned ((K - u) of K) (met Aligned wanted α)
  pub reach : (β : Allocation) → Honours Aligned ((K - u) of K) β → Meeting served wanted β

module _ {served wanted : SlotType} {K u : ℕ} (losing : Losing served wanted K u) (misses : Misses) where
  -- where (K − u, K) stands in for (W − D, W), the served type stands in for the soft type
  pub stands_in_by_windows
      : StandsIn Aligned ((K - u) of K) Aligned ((misses.w - misses.d) of misses.w) → StandsInSoft Aligned served Aligned wanted misses
  stands_in_by_windows stands α honours b = stands (met Aligned wanted α) (losing.bound α honours) (b * misses.w) (b, refl)

  -- and only there
  pub windows_stand_in
      : StandsInSoft Aligned served Aligned wanted misses → StandsIn Aligned ((K - u) of K) Aligned ((misses.w - misses.d) of misses.w)
  windows_stand_in stands β honours s (b, e) =
      let meeting = losing.reach β honours in
      rw e
      (le_trans (stands meeting.given meeting.honours b)
      (ones_mono (met Aligned wanted meeting.given) β meeting.only (b * misses.w) misses.w))

  -- a choice of windows that has K − u of each K, and fewer than W − D of the W from window v on, gives an honouring allocation that misses more than D of
  -- these
  pub misses_more : (β : Allocation) → Honours Aligned ((K - u) of K) β → (v : ℕ) → ones β v misses.w < misses.w - misses.d
      → (α : Allocation) × (Honours Aligned served α) × (misses.d < missed Aligned wanted α v misses.w)
  misses_more β honours v short =
      let meeting = losing.reach β honours in
      let fewer = ones_mono (met Aligned wanted meeting.given) β meeting.only v misses.w in
      (meeting.given, meeting.honours, omega (arith, met_or_missed Aligned wanted meeting.given v misses.w))
