-- A number is printed in the decimal digits that spell it, with no zero in front: specs/Promises.antt. Assumes nothing.
use Rattle.std.proofs.Common.{◌≡◌, true, arith, rules}
use Rattle.std.proofs.lemmas.Fmt.{decimal_is_IsNumeral, digits_value-decimal, first_decimal}
use Rattle.std.proofs.lemmas.Str.Parse.{IsNumeralModel, numerals_by_fold, digit_at}
use Rattle.std.specs.Str.{all_ascii_digits}
use Rattle.listing.proofs.Digits.{decimal_same}
use Rattle.listing.specs.Promises.{spelled, NumbersPrinted}

spelled_own : IsNumeralModel (λ s. all_ascii_digits s ≡ true) (spelled 0)
unfolding spelled
spelled_own = numerals_by_fold _ (search rules) spelled (search rules)

pub numbers_printed : NumbersPrinted
numbers_printed n l =
    let same = decimal_same n l in
    record {
      spells = rw same (digits_value-decimal spelled_own n l);
      digits = λ i m. rw same (digit_at _ i (decimal_is_IsNumeral n l).0.1 (rw same at m));
      front = λ some. rw same (first_decimal n (omega arith) l);
    }
