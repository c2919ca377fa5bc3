-- What a giver owes a wanted window and where that is least, as the code counts them. Assumes nothing.
use Prim.Native.Nat.{ℕ, ◌+◌, ◌-◌, ◌*◌, ◌/◌, ◌%◌, ◌≤◌, ◌<◌, min}
use mathlib.Core.Bool.{true}
use mathlib.Core.Path.{◌≡◌, ◌∙◌}
use native.Mathlib.Nat.{
  add_assoc,
  div-mul-le_self,
  le_of_dvd,
  le_of_lt,
  le_trans,
  lt-div-mul-add,
  mod-le,
  mod-lt,
  mul-le-mul_left,
  pos_of_dvd_of_pos,
  zero-mul,
}
use native.Mathlib.Omega.{arith}
use Rattle.meaning.specs.Least.{lowest}
use Rattle.meaning.specs.Types.{well_formed}
use Rattle.meaning.specs.declared.SlotType.{SlotType}
use Rattle.meaning.specs.declared.Kind.{Kind}
use Rattle.meaning.specs.declared.Kind.TheVariants.{Aligned, Sliding}
use Rattle.meaning.proofs.WellFormed.{bounds}
use Rattle.divisors.specs.Common.{Common}
use Rattle.divisors.proofs.Reach.{common_reached}
use Rattle.owed.proofs.Owed.{whole, head, owed}
use Rattle.owed.proofs.Ones.{ones_le}
use Rattle.owed.proofs.Lowest.{lowest_ext}
use Rattle.owed.proofs.Attained.{written_ones}
use Rattle.owed.proofs.Two.{at, least_between}
use Rattle.types.specs.Least.{step, turns, ones_from, ones_at, least_ones}

-- a well-formed type has a period
pub period_positive : (a : SlotType) → well_formed a ≡ true → 0 < a.t
period_positive a h = (bounds a h).some

-- of at most 4,096 slots
pub period_most : (a : SlotType) → well_formed a ≡ true → a.t ≤ 4096
period_most a h = (bounds a h).most

-- and asks for no more than its period
pub count_le : (a : SlotType) → well_formed a ≡ true → a.c ≤ a.t
count_le a h = (bounds a h).fits

-- an offset in a block is no longer than the block
pub offset_le : (a : SlotType) (s : ℕ) → well_formed a ≡ true → s % a.t ≤ a.t
offset_le a s h = le_of_lt (mod-lt s (period_positive a h))

-- what a well-formed type keeps
pub ruleset fits = (period_positive, period_most, count_le)

-- the step from one wanted window to the next is at least one slot
pub step_positive : (wants : Kind) (wanted : SlotType) → well_formed wanted ≡ true → 0 < step wants wanted
unfolding step
step_positive Aligned wanted w = period_positive wanted w
step_positive Sliding wanted w = omega arith

-- the ones of the written allocation are what is owed
pub owed_from : (giver wanted : SlotType) (s : ℕ) → well_formed giver ≡ true → ones_from giver wanted s ≡ owed giver.c giver.t s wanted.t
unfolding ones_from
owed_from giver wanted s g = written_ones giver.c giver.t (period_positive giver g) (count_le giver g) s wanted.t

-- and no more than the wanted window's slots
pub ones_from_le : (giver wanted : SlotType) (s : ℕ) → ones_from giver wanted s ≤ wanted.t
unfolding ones_from
ones_from_le giver wanted s = ones_le _ s wanted.t

-- what is owed is what of the window's h slots in its first block exceeds T − C, C for each whole block, and what of the last part exceeds T − C
module _
    (giver wanted : SlotType) (s h b e : ℕ) (g : well_formed giver ≡ true) (first : h ≡ min wanted.t (giver.t - s % giver.t))
    (before : b ≡ h - (giver.t - giver.c)) (behind : e ≡ (wanted.t - h) % giver.t - (giver.t - giver.c)) where
  pub by_parts : b + (wanted.t - h) / giver.t * giver.c + e ≡ ones_from giver wanted s
  unfolding owed whole head
  by_parts = rw (owed_from giver wanted s g, ← first, ← before, ← behind) (add_assoc b _ e)

  -- at most the slots of the longest window
  pub parts_most : well_formed wanted ≡ true → b + (wanted.t - h) / giver.t * giver.c + e ≤ 4096
  parts_most w = le_trans (rw by_parts (ones_from_le giver wanted s)) (period_most wanted w)

-- the sums on the way are small, whatever the window's first part: the whole blocks, these with the first part, and with the last
module _ (giver wanted : SlotType) (h : ℕ) (g : well_formed giver ≡ true) (w : well_formed wanted ≡ true) where
  pub blocks_small : (wanted.t - h) / giver.t * giver.c ≤ 4096
  blocks_small =
      omega (
        arith,
        period_most wanted w,
        div-mul-le_self (wanted.t - h) giver.t,
        mul-le-mul_left ((wanted.t - h) / giver.t) (count_le giver g),
      )

  module _ (x y b : ℕ) (first : h ≡ min wanted.t x) (before : b ≡ h - y) where
    pub two_small : b + (wanted.t - h) / giver.t * giver.c ≤ 8192
    two_small = omega (arith, period_most wanted w, blocks_small)

    pub three_small : (z e : ℕ) → e ≡ (wanted.t - h) % giver.t - z → b + (wanted.t - h) / giver.t * giver.c + e ≤ 12288
    three_small z e behind = omega (arith, period_most wanted w, mod-le (wanted.t - h) giver.t, two_small)

module _ (giver : SlotType) (n d : ℕ) (g : well_formed giver ≡ true) (common : Common giver.t n d) where
  -- a common divisor is no zero divisor
  pub divisor_positive : 0 < d
  divisor_positive = pos_of_dvd_of_pos common.left (period_positive giver g)

  -- and its multiples next to C are small
  pub low_small : giver.c / d * d ≤ 4096
  low_small = omega (arith, div-mul-le_self giver.c d, count_le giver g, period_most giver g)

  pub high_small : giver.c / d * d + d ≤ 8192
  high_small = omega (arith, low_small, le_of_dvd (period_positive giver g) common.left, period_most giver g)

  -- an aligned giver owes least at the last multiple of the divisor up to C or at the next one
  pub least_two
      : (wants : Kind) (wanted : SlotType) → well_formed wanted ≡ true → n ≡ step wants wanted
      → least_ones Aligned giver wants wanted
      ≡ min (ones_from giver wanted (giver.c / d * d)) (ones_from giver wanted (giver.c / d * d + d))
  unfolding least_ones turns ones_at at
  least_two wants wanted w e =
      let reach = common_reached giver.t n d (rw e (step_positive wants wanted w)) common in
      rw (owed_from giver wanted (giver.c / d * d) g, owed_from giver wanted (giver.c / d * d + d) g)
      (lowest_ext (ones_at giver wants wanted) (at giver.c giver.t n wanted.t) wanted.t giver.t (λ j l. rw e (owed_from giver wanted _ g))
      ∙ least_between giver.c giver.t wanted.t n d reach.times reach.blocks (giver.c / d)
      (period_positive giver g) (count_le giver g) common.left common.right reach.meets
      (div-mul-le_self giver.c d) (omega (arith, lt-div-mul-add {a = giver.c} divisor_positive)))

-- a sliding giver is looked at from start 0 alone
pub least_sliding
    : (gives : Kind) (giver : SlotType) (wants : Kind) (wanted : SlotType) (r : ℕ) → gives ≡ Sliding → r ≡ ones_from giver wanted 0
    → r ≡ least_ones gives giver wants wanted
unfolding least_ones turns ones_at lowest
least_sliding gives giver wants wanted r e h =
    rw (e, zero-mul (step wants wanted), ← h) (omega (arith, ones_from_le giver wanted 0))
