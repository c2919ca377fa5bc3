-- The numbers and bytes that digits spell. Assumes nothing.
use Rattle.std.specs.Prelude.{ℕ, zero, suc, ◌+◌, ◌*◌, ◌-◌, min, cond, List, [], ◌∷◌, ◌++◌, ltb, get_or}
use Rattle.std.specs.List.{fold}

-- what a byte stands for as a digit: `0` to `9` for 0 to 9, `a` to `f` for 10 to 15, any other for 0
unfoldable pub digit_of : ℕ → ℕ
digit_of c = cond (ltb c 48) 0 (cond (ltb c 58) (c - 48) (cond (ltb c 97) 0 (cond (ltb c 103) (c - 87) 0)))

-- the number n with one digit more, or the largest of 64 bits where it is larger than that
abbrev pub longer_by : ℕ → ℕ → ℕ → ℕ
longer_by base n digit = min (n * base + digit) 18446744073709551615

-- the number that the digits of s spell, from the first on
abbrev pub number_of : ℕ → List ℕ → ℕ
number_of base s = fold (λ n c. longer_by base n (digit_of c)) 0 s

-- the byte that the two hex digits from place 2 * i on spell
abbrev pub byte_of : List ℕ → ℕ → ℕ
byte_of s i = digit_of (get_or s (2 * i) 0) * 16 + digit_of (get_or s (2 * i + 1) 0)

-- the first k bytes that hex digits spell
unfoldable pub bytes_of : List ℕ → ℕ → List ℕ
bytes_of s zero = []
bytes_of s (suc k) = bytes_of s k ++ byte_of s k ∷ []
