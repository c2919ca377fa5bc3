-- Where an aligned giver owes least, over the starts j * step: at the last multiple of d up to C or at the next one, where d is a common divisor of
-- T and step that some start has as its offset. Assumes nothing.
use Prim.Native.Nat.{ℕ, suc, ◌+◌, ◌*◌, ◌/◌, ◌%◌, ◌≤◌, ◌<◌, ◌∣◌, min}
use mathlib.Core.Path.{◌≡◌, ap, sym, ◌∙◌}
use mathlib.Core.Logic.{◌⊎◌, inl, inr}
use native.Mathlib.Nat.{
  div-mul_cancel,
  dvd-mod_iff,
  dvd-mul_left_of_dvd,
  le_antisymm,
  le-min,
  le_trans,
  lt_of_mul-lt-mul_right,
  min-le_left,
  min-le_right,
  mod-lt,
  mul-add,
  mul_assoc,
  mul-le-mul_right,
  suc-mul,
}
use native.Mathlib.Omega.{arith}
use Rattle.owed.proofs.Owed.{owed}
use Rattle.meaning.specs.Least.{lowest}
use Rattle.owed.proofs.Lowest.{le_or_lt, lowest_le, ge_lowest}
use Rattle.owed.proofs.Shape.{owed_later, owed_mod, owed_turn, owed_le, falls, rises}

-- what the window of L slots at the j-th start is owed
unfoldable pub at : ℕ → ℕ → ℕ → ℕ → ℕ → ℕ
at C T step L j = owed C T (j * step) L

-- above a multiple of d the next one is d further
pub next_multiple : (d a b : ℕ) → a * d < b * d → a * d + d ≤ b * d
next_multiple d a b l = omega (arith, suc-mul a d, mul-le-mul_right d (lt_of_mul-lt-mul_right d l))

-- the offset of a start is a multiple of what divides T and step
pub offset_multiple : (T step d j : ℕ) → d ∣ T → d ∣ step → j * step % T / d * d ≡ j * step % T
offset_multiple T step d j left right = div-mul_cancel d ((dvd-mod_iff d left).1 (dvd-mul_left_of_dvd d right j))

-- one of the first T starts is owed what the k-th multiple of d is
pub multiple_occurs
    : (C T L step d times blocks k : ℕ) → 0 < T → times * step ≡ d + blocks * T → at C T step L (k * times % T) ≡ owed C T (k * d) L
unfolding at
multiple_occurs C T L step d times blocks k some meets =
    let apart : k * times * step ≡ k * d + k * blocks * T =
    omega (arith, mul_assoc k times step, ap (λ (x : ℕ). k * x) meets, mul-add k d (blocks * T), mul_assoc k blocks T) in
    sym (owed_turn C T step L (k * times) some) ∙ ap (λ (x : ℕ). owed C T x L) apart ∙ owed_later C T (k * d) (k * blocks) L

-- no start is owed less than both of two neighbouring multiples of d with C between them
pub two_le_at
    : (C T L step d a j : ℕ) → 0 < T → C ≤ T → d ∣ T → d ∣ step → a * d ≤ C → C ≤ a * d + d
    → min (owed C T (a * d) L) (owed C T (a * d + d) L) ≤ at C T step L j
unfolding at
two_le_at C T L step d a j some fits left right below above = rw (owed_mod C T (j * step) L some) (go (le_or_lt x (a * d)))
  where
    x : ℕ
    x = j * step % T

    go : (x ≤ a * d) ⊎ (a * d < x) → min (owed C T (a * d) L) (owed C T (a * d + d) L) ≤ owed C T x L
    go (inl h) = le_trans (min-le_left _ _) (falls C T some fits x (a * d) L h below)
    go (inr l) =
        let same : x / d * d ≡ x = offset_multiple T step d j left right in
        let next : a * d + d ≤ x = rw same at (next_multiple d a (x / d) (rw same l)) in
        le_trans (min-le_right _ _) (rises C T some fits (a * d + d) x L above next (omega (arith, mod-lt (j * step) some)))

-- over the first T starts an aligned giver owes least at one of two neighbouring multiples of d with C between them
pub least_between
    : (C T L step d times blocks a : ℕ) → 0 < T → C ≤ T → d ∣ T → d ∣ step → times * step ≡ d + blocks * T → a * d ≤ C → C ≤ a * d + d
    → lowest (at C T step L) L T ≡ min (owed C T (a * d) L) (owed C T (a * d + d) L)
least_between C T L step d times blocks a some fits left right meets below above =
    le_antisymm
    (le-min (reached a) (rw suc-mul at (reached (suc a))))
    (
    ge_lowest (at C T step L) L T _
    (le_trans (min-le_left _ _) (owed_le C T (a * d) L some fits))
    (λ j l. two_le_at C T L step d a j some fits left right below above)
    )
  where
    reached : (k : ℕ) → lowest (at C T step L) L T ≤ owed C T (k * d) L
    reached k = rw (multiple_occurs C T L step d times blocks k some meets) at (lowest_le (at C T step L) L T (k * times % T) (mod-lt (k * times) some))
