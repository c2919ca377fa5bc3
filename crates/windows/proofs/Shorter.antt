-- A served period of K wanted windows, T = K·T': the windows that it can lose. Assumes nothing.
use Prim.Native.Nat.{ℕ, suc, ◌+◌, ◌-◌, ◌*◌, ◌≤◌, ◌<◌}
use mathlib.Core.Bool.{Bool, true, false, not}
use mathlib.Core.Path.{◌≡◌, refl, ap, ap₂, ◌∙◌}
use native.Mathlib.Nat.{mul_assoc, add-mul, mul-le-mul_left, add-le-add, le_refl}
use native.Mathlib.Decide.{dec_le}
use native.Mathlib.Omega.{arith}
use borrow.Author.Tests.{le-leb, lt-leb}
use Rattle.meaning.specs.Allocation.{Allocation, ones}
use Rattle.meaning.specs.Types.{◌of◌, Honours}
use Rattle.meaning.specs.Soft.{met, missed}
use Rattle.meaning.specs.declared.Kind.TheVariants.{Aligned}
use Rattle.meaning.specs.declared.SlotType.{SlotType}
use Rattle.owed.proofs.Ones.{ones_le, ones_all}
use Rattle.owed.proofs.Every.{honours_every}
use Rattle.windows.proofs.Missed.{ones_and_zeros, met_or_missed}
use Rattle.windows.proofs.Hard.{has_met, met_has}
use Rattle.windows.proofs.Blocks.{held, in_blocks, filled, filled_block}
use Rattle.windows.proofs.Losing.{Losing}

-- the most ones of K windows of which v are short of their C'
abbrev pub most : SlotType → ℕ → ℕ → ℕ
most wanted K v = v * (wanted.c - 1) + (K - v) * wanted.t

-- 02: "If T = K·T', a served period can lose u windows, u being the greatest with u ≤ K and u·(C' − 1) + (K − u)·T' ≥ C (none if C' = 0)"
pub record Shorter (served wanted : SlotType) (K u : ℕ) : Type 0 where
  pub windows : served.t ≡ K * wanted.t
  pub some : 1 ≤ K
  pub fits : wanted.c ≤ wanted.t
  pub within : u ≤ K
  pub enough : served.c ≤ most wanted K u
  pub greatest : u < K → 1 ≤ wanted.c → most wanted K (suc u) < served.c
  pub none : wanted.c ≡ 0 → u ≡ 0

-- fewer short windows leave room for at least as many ones
most_falls : (wanted : SlotType) (K d u : ℕ) → wanted.c ≤ wanted.t → d ≤ u → u ≤ K → most wanted K u ≤ most wanted K d
most_falls wanted K d u fits fewer within =
    let e : ℕ = u - d in
    let up : u ≡ d + e = omega arith in
    let rest : K - d ≡ (K - u) + e = omega arith in
    omega (
      arith,
      ap (λ (x : ℕ). x * (wanted.c - 1)) up ∙ add-mul d e (wanted.c - 1),
      ap (λ (x : ℕ). x * wanted.t) rest ∙ add-mul (K - u) e wanted.t,
      mul-le-mul_left {m = wanted.c - 1} {n = wanted.t} e (omega arith),
    )

-- what the missed windows leave are the windows met
left : (m d K : ℕ) → m + d ≡ K → m ≡ K - d
left m d K sum = omega arith

-- a window has at most all its slots where it is met, and else at most C' − 1 ones
window_le : (wanted : SlotType) (α : Allocation) (v : ℕ) → ones α (v * wanted.t) wanted.t ≤ held wanted.t (wanted.c - 1) (met Aligned wanted α v)
unfolding met
window_le wanted α v = elim (dec_le wanted.c (ones α (v * wanted.t) wanted.t)) [
  | yes h ↦ rw (le-leb wanted.c (ones α (v * wanted.t) wanted.t) h) (ones_le α (v * wanted.t) wanted.t)
  | no h ↦ rw (lt-leb wanted.c (ones α (v * wanted.t) wanted.t) (omega arith)) (omega arith)
]

-- a type that asks for nothing misses no window
misses_none : (wanted : SlotType) (α : Allocation) (v n : ℕ) → wanted.c ≡ 0 → missed Aligned wanted α v n ≡ 0
misses_none wanted α v n e =
    let all : ones (met Aligned wanted α) v n ≡ n = ones_all (met Aligned wanted α) (λ w. has_met Aligned wanted α w (omega arith)) v n in
    omega (arith, met_or_missed Aligned wanted α v n)

module _ (served wanted : SlotType) (K u : ℕ) (shorter : Shorter served wanted K u) where
  -- the ones of a served period, as those of its K windows
  by_windows : (α : Allocation) (b : ℕ) → ones α (b * served.t) served.t ≡ ones α (b * K * wanted.t) (K * wanted.t)
  by_windows α b = rw (shorter.windows, mul_assoc b K wanted.t)

  -- a served period misses at most u windows
  misses_at_most : (α : Allocation) → Honours Aligned served α → (b : ℕ) → missed Aligned wanted α (b * K) K ≤ u
  misses_at_most α honours b = elim (dec_le d u) [
    | yes h ↦ h
    | no h ↦ elim (dec_le 1 wanted.c) [
      | yes one ↦
          let more : u < d = omega arith in
          let less : most wanted K (suc u) < served.c = shorter.greatest (omega (arith, sum)) one in
          absurd (omega (arith, within, less, most_falls wanted K (suc u) d shorter.fits more (omega (arith, sum))))
      | no one ↦ omega (arith, misses_none wanted α (b * K) K (omega arith))
    ]
  ]
    where
      m : ℕ
      m = ones (met Aligned wanted α) (b * K) K

      d : ℕ
      d = missed Aligned wanted α (b * K) K

      sum : m + d ≡ K
      sum = met_or_missed Aligned wanted α (b * K) K

      within : served.c ≤ most wanted K d
      within =
          let held = in_blocks ◌≤◌ (record { none = le_refl 0; sum = add-le-add }) wanted.t (wanted.c - 1) α (met Aligned wanted α)
          (window_le wanted α) (b * K) K in
          omega (arith, honours (b * served.t) (b, refl), by_windows α b, ap (λ (x : ℕ). x * wanted.t) (left m d K sum))

  -- so it meets at least K − u of them
  met_at_least : (α : Allocation) → Honours Aligned served α → Honours Aligned ((K - u) of K) (met Aligned wanted α)
  met_at_least α honours s (b, e) = rw e (omega (arith, misses_at_most α honours b, met_or_missed Aligned wanted α (b * K) K))

  module _ (β : Allocation) (chosen : Honours Aligned ((K - u) of K) β) where
    -- the windows of β whole, and C' − 1 ones in each other window
    abbrev given : Allocation
    given = filled wanted.t (wanted.c - 1) β

    -- it honours the served type: a served period has at most u windows that β has not
    given_honours : Honours Aligned served given
    given_honours s (b, e) =
        let m : ℕ = ones β (b * K) K in
        let d : ℕ = ones (λ v. not (β v)) (b * K) K in
        let sum : m + d ≡ K = ones_and_zeros β (b * K) K in
        let held : ones given (b * K * wanted.t) (K * wanted.t) ≡ m * wanted.t + d * (wanted.c - 1) =
        in_blocks ◌≡◌ (record { none = refl; sum = λ p q. ap₂ ◌+◌ p q }) wanted.t (wanted.c - 1) given β
        (filled_block wanted.t (wanted.c - 1) (omega (arith, shorter.fits)) β) (b * K) K in
        let fewer : d ≤ u = omega (arith, chosen (b * K) (b, refl), shorter.within) in
        rw (e, by_windows given b, held)
        (omega (
          arith,
          shorter.enough,
          most_falls wanted K d u shorter.fits fewer shorter.within,
          ap (λ (x : ℕ). x * wanted.t) (left m d K sum),
        ))

    -- and meets no window but those of β
    given_only : (v : ℕ) → met Aligned wanted given v ≡ true → β v ≡ true
    given_only v e = elim (dec_le 1 wanted.c) [
      | yes one ↦ go one (β v) refl
      | no none ↦ honours_every Aligned ((K - u) of K) shorter.some (omega (arith, shorter.none (omega arith))) β chosen v
    ]
      where
        go : 1 ≤ wanted.c → (c : Bool) → β v ≡ c → β v ≡ true
        go one true same = same
        go one false same =
            let few = rw same at (filled_block wanted.t (wanted.c - 1) (omega (arith, shorter.fits)) β v) in
            absurd (omega (arith, met_has Aligned wanted given v e))

  -- where T = K·T', a served period can lose u of its K windows and no more
  pub shorter_loses : Losing served wanted K u
  shorter_loses = record {
    bound = met_at_least;
    reach = λ β chosen. record { given = given β chosen; honours = given_honours β chosen; only = given_only β chosen };
  }
