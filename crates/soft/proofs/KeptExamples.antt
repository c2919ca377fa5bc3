-- Why the examples hold: the checker computes them. Assumes nothing.
use Prim.Native.Nat.{ℕ, ◌+◌, ◌*◌}
use mathlib.Core.Path.{◌≡◌, refl, sym, ap, ◌∙◌}
use native.Mathlib.Nat.{mul-add-mod_self_right, add-zero, le_refl}
use Rattle.meaning.specs.Allocation.{ones}
use Rattle.meaning.specs.Types.{◌of◌, well_formed, Honours}
use Rattle.meaning.specs.Soft.{within_range, met}
use Rattle.meaning.specs.declared.Kind.TheVariants.{Aligned}
use Rattle.owed.proofs.Ones.{ones_later, ones_ext}
use Rattle.soft.specs.Formula.{
  divides,
  divided,
  greatest,
  sum_to,
  most_to,
  can_lose,
  lost_of_many,
  lost_of_one,
  windows_in,
  lost,
  covered,
  loses,
  worst,
  loses_few,
  allowed,
}
use Rattle.soft.specs.Examples.{seven, Example, Table, NotDivided}

pub table : Table
unfolding divides divided greatest sum_to most_to can_lose lost_of_many lost_of_one windows_in lost covered loses worst loses_few allowed well_formed within_range
table = refl

pub not_divided : NotDivided
unfolding divides divided allowed well_formed within_range
not_divided = refl

-- twelve slots later the allocation is the same
seven_repeats : (b n : ℕ) → seven (b * 12 + n) ≡ seven n
unfolding seven
seven_repeats b n = rw (mul-add-mod_self_right b 12 n)

-- so each period has the ones of the first
seven_periods : (b : ℕ) → ones seven (b * 12) 12 ≡ ones seven 0 12
seven_periods b =
    ap (λ (s : ℕ). ones seven s 12) (sym (add-zero (b * 12))) ∙ sym (ones_later seven (b * 12) 0 12)
    ∙ ones_ext (λ m. seven (b * 12 + m)) seven 0 12 (λ m h l. seven_repeats b m)

-- which are seven
seven_honours : Honours Aligned (7 of 12) seven
unfolding seven ones
seven_honours s (b, e) = rw (e, seven_periods b) (le_refl 7)

pub example : Example
unfolding divides divided greatest sum_to most_to can_lose lost_of_many lost_of_one windows_in lost covered loses worst loses_few allowed well_formed within_range seven
    met ones
example = record { two = refl; not_one = refl; honours = seven_honours; misses = refl }
