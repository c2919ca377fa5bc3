-- Decimals are std's, whose laws they have. Assumes nothing.
use Rattle.std.proofs.Common.{ℕ, ◌+◌, ◌/◌, ◌%◌, ◌^◌, ◌≤◌, ◌<◌, ◌≡◌, List, [], ◌∷◌, ◌++◌, length, ap, append_assoc, length-append, arith, rules}
use Rattle.std.proofs.lemmas.Fmt.{AppendsLastDigit, decimal_from_appends, decimal_digit, decimal_step, length-decimal-le}
use Rattle.std.specs.Fmt.{decimal as decimal_of_std}
use Rattle.listing.specs.Page.{OnPage}
use Rattle.listing.specs.Text.{digits, decimal}

digits_append : AppendsLastDigit digits
unfolding digits
digits_append = search rules

pub decimal_same : (n : ℕ) → n < 2 ^ 64 → decimal n ≡ decimal_of_std n
unfolding decimal
decimal_same n l = decimal_from_appends digits digits_append 20 n l (length-decimal-le 20 n (omega arith) (omega arith) l)

-- below 10 ^ k it has k digits at most
pub decimal_few : (k n : ℕ) → 0 < k → n < 10 ^ k → n < 2 ^ 64 → length (decimal n) ≤ k
decimal_few k n some l h = rw (decimal_same n h) (length-decimal-le k n some l h)

-- a number below ten is its digit
pub decimal_one : (n : ℕ) → n < 10 → decimal n ≡ (48 + n) ∷ []
decimal_one n l = rw (decimal_same n (omega arith)) (decimal_digit n l)

-- any other has a last digit, behind those of its tens
module _ (page : List ℕ) (n : ℕ) (l : 10 ≤ n) (h : n < 2 ^ 64) where
  digits_split : page ++ decimal n ≡ (page ++ decimal (n / 10)) ++ ((48 + n % 10) ∷ [])
  digits_split = rw (append_assoc, decimal_same n h, decimal_same (n / 10) (omega arith)) (ap (λ x. page ++ x) (decimal_step n l h))

  module _ (room : OnPage (page ++ decimal n)) where
    -- there is room for both,
    pub tens_room : OnPage (page ++ decimal (n / 10))
    tens_room = omega (arith, ap length digits_split, length-append (page ++ decimal (n / 10)) ((48 + n % 10) ∷ []))

    pub last_room : (tens : List ℕ) (last : ℕ) → tens ≡ page ++ decimal (n / 10) → OnPage (tens ++ (last ∷ []))
    last_room tens last e =
        rw (e, length-append (page ++ decimal (n / 10)) (last ∷ []))
        (omega (arith, ap length digits_split, length-append (page ++ decimal (n / 10)) ((48 + n % 10) ∷ [])))

  -- which are the number
  pub digits_put : (tens : List ℕ) → tens ≡ page ++ decimal (n / 10) → tens ++ ((48 + n % 10) ∷ []) ≡ page ++ decimal n
  digits_put tens e = rw (digits_split, e)
