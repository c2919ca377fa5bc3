-- The promises on soft types, kept: what the formula says is so by the meaning. Assumes nothing.
use Prim.Native.Nat.{ℕ, zero, suc, ◌-◌, ◌*◌, ◌/◌, ◌%◌, ◌≤◌, ◌<◌, ◌∣◌}
use mathlib.Core.Bool.{Bool, true, false, ◌||◌}
use mathlib.Core.Logic.{◌⊎◌, inl, inr}
use mathlib.Core.Path.{◌≡◌, refl, sym, ap, ◌∙◌}
use native.Mathlib.Nat.{div-mul_cancel, mod-lt, le_trans, eq-or-lt_of_le, le_of_suc-le-suc}
use native.Mathlib.Omega.{arith}
use lib.Dec.{leb}
use borrow.Author.Tests.{leb-true, leb-false}
use Rattle.meaning.specs.Allocation.{Allocation}
use Rattle.meaning.specs.Types.{◌of◌, well_formed, Honours}
use Rattle.meaning.specs.Soft.{within_range, met, missed, StandsInSoft}
use Rattle.meaning.specs.Written.{written}
use Rattle.meaning.specs.declared.SlotType.{SlotType}
use Rattle.meaning.specs.declared.Misses.{Misses}
use Rattle.meaning.specs.declared.Kind.TheVariants.{Aligned}
use Rattle.meaning.proofs.WellFormed.{bounds}
use Rattle.owed.proofs.Bound.{bound}
use Rattle.owed.proofs.Attained.{written_ones, written_aligned}
use Rattle.owed.proofs.Every.{honours_every}
use Rattle.owed.proofs.Lowest.{le_or_lt}
use Rattle.owed.proofs.Ones.{ones_mono}
use Rattle.owed.proofs.Shape.{owed_turn}
use Rattle.windows.proofs.Hard.{hard_of_soft, soft_of_hard, stands_in_hard, stands_in_soft}
use Rattle.windows.proofs.Losing.{Losing, Meeting}
use Rattle.windows.proofs.Longer.{longer_loses_none, longer_loses_all}
use Rattle.windows.proofs.Missed.{met_or_missed, misses_few, few_honours}
use Rattle.soft.specs.Formula.{divides, divided, most_to, windows_in, lost, loses, worst, loses_few, allowed}
use Rattle.soft.specs.Promises.{
  MostMissed,
  Missing,
  AllowedExactly,
  NotAllowedShows,
  LosesExactly,
  NoneWorse,
  GreatestOf,
  CasesAgree,
  DividedExactly,
  NoneOrAll,
  MissedAtMost,
  HardIsSoft,
  StandsInAlike,
  AllMayMiss,
}
use Rattle.soft.proofs.Greatest.{greatest_le, greatest_holds, greatest_above, divides_true, true_divides}
use Rattle.soft.proofs.Lost.{counts, losing, both_agree}
use Rattle.soft.proofs.Loses.{loses_and_owed}

or_true : (a : Bool) → (a || true) ≡ true
or_true true = refl
or_true false = refl

-- each number is at most the largest
most_ge : (f : ℕ → ℕ) (n j : ℕ) → j < n → f j ≤ most_to f n
unfolding most_to
most_ge f zero j h = absurd (omega arith)
most_ge f (suc n) j h = go (most_ge f n j) (eq-or-lt_of_le (le_of_suc-le-suc h))
  where
    go : (j < n → f j ≤ most_to f n) → (j ≡ n) ⊎ (j < n) → f j ≤ most_to f (suc n)
    go r (inl e) = omega (arith, ap f e)
    go r (inr l) = omega (arith, r l)

-- and what is less than the largest is less than one of them
most_from : (f : ℕ → ℕ) (n d : ℕ) → d < most_to f n → (j : ℕ) × (d < f j)
unfolding most_to
most_from f zero d h = absurd (omega arith)
most_from f (suc n) d h = go (most_from f n d) (le_or_lt (f n) d)
  where
    go : (d < most_to f n → (j : ℕ) × (d < f j)) → (f n ≤ d) ⊎ (d < f n) → (j : ℕ) × (d < f j)
    go r (inl l) = r (omega arith)
    go r (inr l) = (n, l)

pub none_worse : NoneWorse
unfolding worst
none_worse K u W some few b =
    let here : loses K u W b ≡ loses K u W (b % K) =
    omega (arith, loses_and_owed K u W b some few, loses_and_owed K u W (b % K) some few, owed_turn (K - u) K W W b some) in
    rw here (most_ge (loses K u W) K (b % K) (mod-lt b some))

-- what a served type of which each K windows can lose u, and no more, misses in stretch b
module _ {served wanted : SlotType} {K u : ℕ} (some : 1 ≤ K) (few : u ≤ K) (can : Losing served wanted K u) (W b : ℕ) where
  misses_no_more : (α : Allocation) → Honours Aligned served α → missed Aligned wanted α (b * W) W ≤ loses K u W b
  misses_no_more α honours =
      omega (
        arith,
        bound (K - u) K some (omega arith) (met Aligned wanted α) (λ p. can.bound α honours (p * K) (p, refl)) (b * W) W,
        met_or_missed Aligned wanted α (b * W) W,
        loses_and_owed K u W b some few,
      )

  -- the worst choice of windows
  chosen : Allocation
  chosen = written (K - u) K (b * W) W

  chosen_honours : Honours Aligned ((K - u) of K) chosen
  unfolding chosen
  chosen_honours s (p, e) = rw e (written_aligned (K - u) K some (omega arith) (b * W) W p)

  most_missed : MostMissed served wanted W b (loses K u W b)
  unfolding chosen
  most_missed =
      let meeting : Meeting served wanted chosen = can.reach chosen chosen_honours in
      let α : Allocation = meeting.given in
      record {
        none_more = misses_no_more;
        allocation = α;
        honours = meeting.honours;
        just =
            omega (
              arith,
              misses_no_more α meeting.honours,
              ones_mono (met Aligned wanted α) chosen meeting.only (b * W) W,
              written_ones (K - u) K some (omega arith) (b * W) W,
              met_or_missed Aligned wanted α (b * W) W,
              loses_and_owed K u W b some few,
            );
      }

pub loses_exactly : LosesExactly
loses_exactly served wanted g w h W b =
    let (some, small, few) = counts served wanted (bounds served g) (bounds wanted w) in
    most_missed some few (losing served wanted (bounds served g) (bounds wanted w) h) W b

module _ (served wanted : SlotType) (misses : Misses) (g : well_formed served ≡ true) (w : well_formed wanted ≡ true) (range : within_range misses ≡ true)
    (h : divided served wanted ≡ true) where
  by_worst : allowed served wanted misses ≡ leb (worst (windows_in served wanted) (lost served wanted) misses.w) misses.d
  unfolding allowed loses_few
  by_worst = rw (g, w, range, h)

  shows : allowed served wanted misses ≡ false → Missing served wanted misses
  unfolding worst
  shows e =
      let (b, l) =
      most_from (loses (windows_in served wanted) (lost served wanted) misses.w) (windows_in served wanted) misses.d (leb-false _ _ (sym by_worst ∙ e)) in
      let most = loses_exactly served wanted g w h misses.w b in
      record { allocation = most.allocation; honours = most.honours; stretch = b; too_many = rw most.just l }

  stands_in : allowed served wanted misses ≡ true → StandsInSoft Aligned served Aligned wanted misses
  stands_in e α honours =
      let (some, small, few) = counts served wanted (bounds served g) (bounds wanted w) in
      few_honours Aligned wanted misses α (λ b.
      le_trans ((loses_exactly served wanted g w h misses.w b).none_more α honours)
      (le_trans (none_worse (windows_in served wanted) (lost served wanted) misses.w some few b) (leb-true _ _ (sym by_worst ∙ e))))

  allows : StandsInSoft Aligned served Aligned wanted misses → allowed served wanted misses ≡ true
  allows stands = go (allowed served wanted misses) refl
    where
      go : (t : Bool) → allowed served wanted misses ≡ t → allowed served wanted misses ≡ true
      go true e = e
      go false e =
          let missing = shows e in
          absurd (omega (arith, missing.too_many, misses_few Aligned wanted misses _ (stands missing.allocation missing.honours) missing.stretch))

pub allowed_exactly : AllowedExactly
allowed_exactly served wanted misses g w range h = (stands_in served wanted misses g w range h, allows served wanted misses g w range h)

pub not_allowed_shows : NotAllowedShows
not_allowed_shows = shows

pub all_may_miss : AllMayMiss
all_may_miss served wanted misses g w range h e = allows served wanted misses g w range h (λ α honours b. omega arith)

pub greatest_of : GreatestOf
greatest_of f n = (greatest_le f n, (λ first. greatest_holds f first n), greatest_above f n)

pub cases_agree : CasesAgree
cases_agree served wanted g w e = both_agree served wanted (bounds served g) (bounds wanted w) e

pub divided_exactly : DividedExactly
unfolding divided
divided_exactly served wanted some more = ((λ e. either _ _ refl refl e), back)
  where
    either : (a b : Bool) → divides wanted.t served.t ≡ a → divides served.t wanted.t ≡ b → (a || b) ≡ true
        → (wanted.t ∣ served.t) ⊎ (served.t ∣ wanted.t)
    either true b p q e = inl (divides_true wanted.t served.t p).1
    either false b p q e = inr (divides_true served.t wanted.t (q ∙ e)).1

    back : (wanted.t ∣ served.t) ⊎ (served.t ∣ wanted.t) → divided served wanted ≡ true
    back (inl d) = rw (true_divides wanted.t served.t more d)
    back (inr d) = rw (true_divides served.t wanted.t some d) (or_true (divides wanted.t served.t))

pub missed_at_most : MissedAtMost
missed_at_most k wanted misses α = (misses_few k wanted misses α, few_honours k wanted misses α)

pub hard_is_soft : HardIsSoft
hard_is_soft k wanted misses none some α = (hard_of_soft k wanted misses none some α, soft_of_hard k wanted misses none some α)

pub stands_in_alike : StandsInAlike
stands_in_alike k wanted misses none some k₀ giver =
    (stands_in_hard k wanted misses none some k₀ giver, stands_in_soft k wanted misses none some k₀ giver)

pub none_or_all : NoneOrAll
none_or_all served wanted g divisor = go (le_or_lt wanted.c (m * served.c))
  where
    m : ℕ
    m = wanted.t / served.t

    periods : wanted.t ≡ m * served.t
    periods = sym (div-mul_cancel served.t divisor)

    Either : Type 0
    Either =
        ((α : Allocation) → Honours Aligned served α → (v : ℕ) → met Aligned wanted α v ≡ true)
        ⊎ ((α : Allocation) × (Honours Aligned served α) × ((v : ℕ) → met Aligned wanted α v ≡ false))

    not_met : (t : Bool) → (t ≡ true → ◌≡◌ {A = Bool} false true) → t ≡ false
    not_met true never = sym (never refl)
    not_met false never = refl

    go : (wanted.c ≤ m * served.c) ⊎ (m * served.c < wanted.c) → Either
    go (inl enough) =
        inl (λ α honours.
        honours_every Aligned (1 of 1) (omega arith) refl (met Aligned wanted α)
        ((longer_loses_none served wanted m (bounds served g).fits periods enough).bound α honours))
    go (inr short) =
        let meeting = (longer_loses_all served wanted m (bounds served g).fits periods short).reach (λ v. false) (λ s starts. omega arith) in
        inr (meeting.given, meeting.honours, λ v. not_met (met Aligned wanted meeting.given v) (meeting.only v))
