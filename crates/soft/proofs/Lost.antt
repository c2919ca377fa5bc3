-- How many windows a served period can lose: in closed form, and as the laws on windows ask for it. Assumes nothing.
use Prim.Native.Nat.{ℕ, suc, ◌+◌, ◌-◌, ◌*◌, ◌/◌, ◌≤◌, ◌<◌, min}
use mathlib.Core.Bool.{Bool, true, false, false≢true}
use mathlib.Core.Path.{◌≡◌, refl, sym, ap, ◌∙◌}
use mathlib.Core.Logic.{◌⊎◌, inl, inr}
use native.Mathlib.Nat.{div_self, div-eq_of_lt, dvd_refl, div-mul_cancel, div-le_self, le-div_iff_mul-le, le_of_dvd, add-mul, mul-add, one-mul, zero-mul, add-sub_of_le}
use native.Mathlib.Omega.{arith}
use borrow.Author.Tests.{le-leb, leb-true, leb-false, lt-ltb, le-ltb}
use Rattle.meaning.specs.declared.SlotType.{SlotType}
use Rattle.meaning.proofs.WellFormed.{Bounds}
use Rattle.owed.proofs.Lowest.{le_or_lt}
use Rattle.windows.proofs.Losing.{Losing}
use Rattle.windows.proofs.Shorter.{Shorter, shorter_loses}
use Rattle.windows.proofs.Longer.{longer_loses_none, longer_loses_all}
use Rattle.soft.specs.Formula.{divides, divided, greatest, can_lose, lost_of_many, lost_of_one, windows_in, lost}
use Rattle.soft.proofs.Greatest.{greatest_le, greatest_holds, greatest_above, divides_true, true_divides}

-- what K windows of t slots have where x of them have only a, with what these go without
balance : (x K a t : ℕ) → x ≤ K → a ≤ t → (x * a + (K - x) * t) + x * (t - a) ≡ K * t
balance x K a t h l =
    omega (
      arith,
      mul-add x a (t - a),
      ap (λ (n : ℕ). x * n) (add-sub_of_le l),
      add-mul x (K - x) t,
      ap (λ (n : ℕ). n * t) (add-sub_of_le h),
    )

-- what a lost window goes without
abbrev pub gone : SlotType → ℕ
gone wanted = wanted.t - (wanted.c - 1)

-- K and u by the cases of the formula
module _ (served wanted : SlotType) where
  -- T = K·T'
  module _ (multiple : divides wanted.t served.t ≡ true) where
    pub many_in : windows_in served wanted ≡ served.t / wanted.t
    unfolding windows_in
    many_in = rw multiple

    pub many_lost : lost served wanted ≡ lost_of_many served wanted
    unfolding lost
    many_lost = rw multiple

  -- where a window asks for nothing none is lost
  pub unasked : wanted.c ≡ 0 → lost_of_many served wanted ≡ 0
  unfolding lost_of_many
  unasked e = rw (le-ltb 0 wanted.c (omega arith))

  -- T divides T', or neither divides the other
  module _ (single : divides wanted.t served.t ≡ false) where
    pub one_in : windows_in served wanted ≡ 1
    unfolding windows_in
    one_in = rw single

    pub one_lost : lost served wanted ≡ lost_of_one served wanted
    unfolding lost
    one_lost = rw single

    periods : divided served wanted ≡ true → wanted.t ≡ wanted.t / served.t * served.t
    unfolding divided
    periods h = sym (div-mul_cancel served.t (divides_true served.t wanted.t (rw single at h)).1)

  -- there the window is lost, or none is
  pub whole_lost : wanted.t / served.t * served.c < wanted.c → lost_of_one served wanted ≡ 1
  unfolding lost_of_one
  whole_lost l = rw (lt-ltb (wanted.t / served.t * served.c) wanted.c l)

  pub none_lost : wanted.c ≤ wanted.t / served.t * served.c → lost_of_one served wanted ≡ 0
  unfolding lost_of_one
  none_lost h = rw (le-ltb (wanted.t / served.t * served.c) wanted.c h)

module _ (served wanted : SlotType) (well : Bounds served) (fine : Bounds wanted) where
  -- T = K·T'
  module _ (multiple : divides wanted.t served.t ≡ true) where
    all_windows : served.t / wanted.t * wanted.t ≡ served.t
    all_windows = div-mul_cancel wanted.t (divides_true _ _ multiple).1

    some_windows : 1 ≤ served.t / wanted.t
    some_windows = (le-div_iff_mul-le fine.some).1 (rw (one-mul wanted.t) (le_of_dvd well.some (divides_true _ _ multiple).1))

    module _ (x : ℕ) (within : x ≤ served.t / wanted.t) where
      sum : (x * (wanted.c - 1) + (served.t / wanted.t - x) * wanted.t) + x * gone wanted ≡ served.t
      sum = balance x (served.t / wanted.t) (wanted.c - 1) wanted.t within (omega (arith, fine.fits)) ∙ all_windows

      -- x windows can be lost where they go without no more than T − C slots
      lose_few : can_lose served wanted (served.t / wanted.t) x ≡ true → x * gone wanted ≤ served.t - served.c
      unfolding can_lose
      lose_few e = omega (arith, leb-true served.c _ e, sum)

      few_lose : x * gone wanted ≤ served.t - served.c → can_lose served wanted (served.t / wanted.t) x ≡ true
      unfolding can_lose
      few_lose l = le-leb served.c (x * (wanted.c - 1) + (served.t / wanted.t - x) * wanted.t) (omega (arith, sum, well.fits))

    -- none can always be
    lose_none : can_lose served wanted (served.t / wanted.t) 0 ≡ true
    lose_none = few_lose 0 (omega arith) (omega (arith, zero-mul (gone wanted)))

    -- the greatest number that can, where a window asks for something
    module _ (asks : 1 ≤ wanted.c) where
      asked : lost_of_many served wanted ≡ greatest (can_lose served wanted (served.t / wanted.t)) (served.t / wanted.t)
      unfolding lost_of_many
      asked = rw (lt-ltb 0 wanted.c asks)

      asked_most : lost_of_many served wanted ≤ served.t / wanted.t
      asked_most = rw asked (greatest_le (can_lose served wanted (served.t / wanted.t)) (served.t / wanted.t))

      asked_lost : can_lose served wanted (served.t / wanted.t) (lost_of_many served wanted) ≡ true
      asked_lost = rw asked (greatest_holds (can_lose served wanted (served.t / wanted.t)) lose_none (served.t / wanted.t))

      asked_above : (x : ℕ) → x ≤ served.t / wanted.t → lost_of_many served wanted < x → can_lose served wanted (served.t / wanted.t) x ≡ false
      asked_above x h l = greatest_above (can_lose served wanted (served.t / wanted.t)) (served.t / wanted.t) x h (rw asked at l)

      -- in closed form
      pub closed : lost_of_many served wanted ≡ min (served.t / wanted.t) ((served.t - served.c) / gone wanted)
      closed = go (le_or_lt (suc (lost_of_many served wanted)) (min (served.t / wanted.t) ((served.t - served.c) / gone wanted)))
        where
          u : ℕ
          u = lost_of_many served wanted

          top : ℕ
          top = min (served.t / wanted.t) ((served.t - served.c) / gone wanted)

          positive : 0 < gone wanted
          positive = omega (arith, fine.fits)

          held : u ≤ (served.t - served.c) / gone wanted
          held = (le-div_iff_mul-le positive).1 (lose_few u asked_most asked_lost)

          go : (suc u ≤ top) ⊎ (top < suc u) → u ≡ top
          go (inl l) =
              absurd (false≢true
              (sym (asked_above (suc u) (omega arith) (omega arith))
              ∙ few_lose (suc u) (omega arith) ((le-div_iff_mul-le positive).0 (omega arith))))
          go (inr l) = omega (arith, asked_most, held)

    -- u as the laws on windows ask for it
    shorter : Shorter served wanted (served.t / wanted.t) (lost_of_many served wanted)
    unfolding can_lose
    shorter = record {
      windows = sym all_windows;
      some = some_windows;
      fits = fine.fits;
      within = within (le_or_lt 1 wanted.c);
      enough = enough (le_or_lt 1 wanted.c);
      greatest = above;
      none = unasked served wanted;
    }
      where
        K : ℕ
        K = served.t / wanted.t

        u : ℕ
        u = lost_of_many served wanted

        within : (1 ≤ wanted.c) ⊎ (wanted.c < 1) → u ≤ K
        within (inl asks) = asked_most asks
        within (inr nothing) = rw (unasked served wanted (omega arith)) (omega arith)

        enough : (1 ≤ wanted.c) ⊎ (wanted.c < 1) → served.c ≤ u * (wanted.c - 1) + (K - u) * wanted.t
        enough (inl asks) = leb-true served.c _ (asked_lost asks)
        enough (inr nothing) = rw (unasked served wanted (omega arith)) (leb-true served.c _ lose_none)

        above : u < K → 1 ≤ wanted.c → suc u * (wanted.c - 1) + (K - suc u) * wanted.t < served.c
        above l asks = leb-false served.c _ (asked_above asks (suc u) l (omega arith))

  one_most : lost_of_one served wanted ≤ 1
  one_most = go (le_or_lt wanted.c (wanted.t / served.t * served.c))
    where
      go : (wanted.c ≤ wanted.t / served.t * served.c) ⊎ (wanted.t / served.t * served.c < wanted.c) → lost_of_one served wanted ≤ 1
      go (inl h) = rw (none_lost served wanted h) (omega arith)
      go (inr l) = rw (whole_lost served wanted l) (omega arith)

  -- there is a window, there are at most 4,096, and no more than there are can be lost
  pub counts : (1 ≤ windows_in served wanted) × (windows_in served wanted ≤ 4096) × (lost served wanted ≤ windows_in served wanted)
  counts = go (divides wanted.t served.t) refl
    where
      go : (t : Bool) → divides wanted.t served.t ≡ t
          → (1 ≤ windows_in served wanted) × (windows_in served wanted ≤ 4096) × (lost served wanted ≤ windows_in served wanted)
      go true e =
          rw (many_in served wanted e, many_lost served wanted e)
          (some_windows e, omega (arith, well.most, div-le_self served.t wanted.t), (shorter e).within)
      go false e = rw (one_in served wanted e, one_lost served wanted e) (omega arith, omega arith, one_most)

  -- of each K windows u can be lost and no more
  pub losing : divided served wanted ≡ true → Losing served wanted (windows_in served wanted) (lost served wanted)
  losing h = go (divides wanted.t served.t) refl (le_or_lt wanted.c (wanted.t / served.t * served.c))
    where
      go : (t : Bool) → divides wanted.t served.t ≡ t
          → (wanted.c ≤ wanted.t / served.t * served.c) ⊎ (wanted.t / served.t * served.c < wanted.c)
          → Losing served wanted (windows_in served wanted) (lost served wanted)
      go true e i = rw (many_in served wanted e, many_lost served wanted e) (shorter_loses served wanted _ _ (shorter e))
      go false e (inl enough) =
          rw (one_in served wanted e, one_lost served wanted e, none_lost served wanted enough)
          (longer_loses_none served wanted (wanted.t / served.t) well.fits (periods served wanted e h) enough)
      go false e (inr short) =
          rw (one_in served wanted e, one_lost served wanted e, whole_lost served wanted short)
          (longer_loses_all served wanted (wanted.t / served.t) well.fits (periods served wanted e h) short)

  -- where T = T' both cases say the same
  pub both_agree : served.t ≡ wanted.t → lost_of_many served wanted ≡ lost_of_one served wanted
  both_agree e = go (le_or_lt wanted.c served.c)
    where
      once : served.t / wanted.t ≡ 1
      once = rw (← e) (div_self well.some)

      multiple : divides wanted.t served.t ≡ true
      multiple = true_divides wanted.t served.t fine.some (rw e (dvd_refl wanted.t))

      owing : wanted.t / served.t * served.c ≡ served.c
      owing = rw (← e, div_self well.some) (one-mul served.c)

      few : (1 ≤ wanted.c) ⊎ (wanted.c < 1) → wanted.c ≤ served.c → lost_of_many served wanted ≡ 0
      few (inl asks) h =
          let short : served.t - served.c < gone wanted = omega (arith, well.fits, fine.fits) in
          omega (arith, closed multiple asks, div-eq_of_lt short)
      few (inr nothing) h = unasked served wanted (omega arith)

      go : (wanted.c ≤ served.c) ⊎ (served.c < wanted.c) → lost_of_many served wanted ≡ lost_of_one served wanted
      go (inl h) = few (le_or_lt 1 wanted.c) h ∙ sym (none_lost served wanted (omega (arith, owing)))
      go (inr l) =
          let room : 1 ≤ (served.t - served.c) / gone wanted =
          (le-div_iff_mul-le {k = gone wanted} {x = 1} {y = served.t - served.c} (omega (arith, fine.fits))).1 (omega (arith, one-mul (gone wanted), fine.fits)) in
          omega (arith, closed multiple (omega arith), once, whole_lost served wanted (omega (arith, owing)))
