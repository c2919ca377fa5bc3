-- Where whole parents stand: what wants every slot is served every slot, and that under a whole parent, with nothing left for its siblings. Assumes nothing.
use Prim.Native.Nat.{ℕ, zero, suc, ◌+◌, ◌*◌, ◌/◌, ◌%◌, ◌≤◌, ◌<◌}
use mathlib.Core.Bool.{Bool, true, false, cond}
use mathlib.Core.Path.{◌≡◌, refl}
use lib.Dec.{eqb}
use borrow.Author.Tests.{eqb-true, eqb-false, eq-eqb, ne_eqb}
use native.Mathlib.Nat.{suc-mul, mul-zero, mul_comm, mul-one, le_refl, mul-div-le, mul-le-mul_right, mul-le-mul_left, le-div_iff_mul-le}
use native.Mathlib.Omega.{arith}
use Rattle.meaning.specs.declared.SlotType.{SlotType}
use Rattle.meaning.proofs.WellFormed.{bounds}
use Rattle.owed.proofs.Every.{stands_in_every}
use Rattle.plans.specs.Plan.{kind_of, wanted_of, served_of, wanted_as, own_type, is_child}
use Rattle.plans.specs.declared.Parent.{Parent}
use Rattle.plans.specs.declared.Plan.{Plan}
use Rattle.plans.proofs.Entries.{child_of_parent, parent_of_child}
use Rattle.rules.specs.Fit.{child_period, longest, load, load_to, is_whole, owes, side, Child, Fit}
use Rattle.rules.specs.Promises.{WholeIsServedWhole, WholeUnderWhole, AloneUnderWhole}
use Rattle.rules.proofs.Formed.{parent_formed}
use Rattle.rules.proofs.KeptBefore.{hard_as_before}
use Rattle.rules.proofs.Siblings as siblings
use Rattle.rules.proofs.Siblings.{whole_periods}
use Rattle.rules.proofs.Totals.{sum_without, term_le}

-- a hard node that wants every slot is served every slot
pub whole_is_served_whole : WholeIsServedWhole
unfolding is_whole
whole_is_served_whole plan fit i l hard whole =
    let served = bounds (served_of plan i) (fit.sound.served i l) in
    let wanted = bounds (wanted_of plan i) (fit.sound.wanted i l) in
    eq-eqb (served_of plan i).c (served_of plan i).t
    (stands_in_every (served_of plan i) served.some served.fits (wanted_as (kind_of plan i)) (wanted_of plan i) wanted.some
    (eqb-true (wanted_of plan i).c (wanted_of plan i).t whole) (hard_as_before plan fit i l hard))

-- C·(m/T) is less than m where C is less than T
part_less : (C T m : ℕ) → C < T → 0 < m → C * (m / T) < m
part_less C T m l some = go (m / T) (mul-div-le m T) (mul-le-mul_right (m / T) l)
  where
    go : (q : ℕ) → T * q ≤ m → suc C * q ≤ T * q → C * q < m
    go zero h k = omega (arith, mul-zero C)
    go (suc q) h k = omega (arith, suc-mul C (suc q))

module _ (plan : Plan) (fit : Fit plan) (x : Parent) where
  -- M
  M : ℕ
  M = longest plan x

  module _ (i : ℕ) (c : Child plan x i) where
    is : is_child plan x i ≡ true
    is = child_of_parent plan x i c.under

    some : 0 < (served_of plan i).t
    some = (bounds (served_of plan i) (fit.sound.served i c.there)).some

    -- a child's period is no longer than M
    within : (served_of plan i).t ≤ M
    unfolding M longest child_period
    within = siblings.longest_ge (is_child plan x) (λ j. (served_of plan j).t) plan.size i c.there is

    -- and divides it
    divides : M % (served_of plan i).t ≡ 0
    unfolding M longest child_period
    divides =
        siblings.longest_multiple (is_child plan x) (λ j. (served_of plan j).t) plan.size i c.there is some
        (λ k l e. fit.rule13 x i k c (record { there = l; under = parent_of_child plan x k e }))

    -- a child asks for its C at least
    asks : (served_of plan i).c ≤ load plan x M i
    unfolding load
    asks =
        let once : 1 ≤ M / (served_of plan i).t = (le-div_iff_mul-le some).1 (omega (arith, within)) in
        rw is (rw (mul-one (served_of plan i).c) at (mul-le-mul_left (served_of plan i).c once))

    module _ (whole : is_whole (served_of plan i) ≡ true) where
      -- one that is served every slot asks for all M
      asks_all : load plan x M i ≡ M
      unfolding load is_whole
      asks_all =
          rw (is, eqb-true (served_of plan i).c (served_of plan i).t whole, mul_comm (served_of plan i).t (M / (served_of plan i).t))
          (whole_periods M (served_of plan i).t divides)

      -- so its parent is whole,
      under_whole : is_whole (own_type plan x) ≡ true
      unfolding M load_to is_whole owes side
      under_whole = go (is_whole (own_type plan x)) refl
        where
          own : SlotType
          own = own_type plan x

          go : (b : Bool) → is_whole own ≡ b → b ≡ true
          go true e = refl
          go false e =
              let formed = bounds own (parent_formed plan fit.sound x i c) in
              let less : own.c * (M / own.t) < M = part_less own.c own.t M (omega (arith, formed.fits, eqb-false own.c own.t e)) (omega (arith, some, within)) in
              let side_is : side plan x ≡ own.c * (M / own.t) = rw e in
              absurd (omega (arith, asks_all, term_le (load plan x M) plan.size i c.there, fit.rule14 x))

      -- and nothing is left for another child
      alone : (j : ℕ) → Child plan x j → (i ≡ j → ⊥) → load plan x M j ≡ 0
      unfolding M load_to owes side
      alone j d other = omega (arith, fit.rule14 x, both, asks_all, side_is)
        where
          others : ℕ → ℕ
          others k = cond (eqb k j) 0 (load plan x M k)

          none : others j ≡ 0
          none = rw (eq-eqb j j refl)

          same : others i ≡ load plan x M i
          same = rw (ne_eqb i j other)

          fewer : (k : ℕ) → k < plan.size → others k ≤ load plan x M k
          fewer k l = go (eqb k j)
            where
              go : (b : Bool) → cond b 0 (load plan x M k) ≤ load plan x M k
              go true = omega arith
              go false = le_refl (load plan x M k)

          both : load plan x M i + load plan x M j ≤ load_to plan x plan.size
          both =
              omega (
                arith,
                same,
                term_le others plan.size i c.there,
                sum_without others (load plan x M) plan.size j d.there none fewer,
              )

          side_is : side plan x ≡ M
          side_is = rw under_whole

-- a child that is served every slot has a whole parent
pub whole_under_whole : WholeUnderWhole
whole_under_whole plan fit x i c whole = under_whole plan fit x i c whole

-- and its siblings are served none
pub alone_under_whole : AloneUnderWhole
unfolding M
alone_under_whole plan fit x i j c d whole other = omega (arith, alone plan fit x i c whole j d other, asks plan fit x j d)
