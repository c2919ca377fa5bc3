-- Parts of a text: each goes up to the first byte that is at most a stop byte. Assumes nothing.
use Rattle.std.specs.Prelude.{ℕ, cond, List, [], ◌∷◌, leb}
use Rattle.std.specs.List.{before_first, after_first, onto_first}

-- the bytes before the first that is at most `stop`, or all of them
abbrev pub before : ℕ → List ℕ → List ℕ
before stop s = before_first (λ c. leb c stop) s

-- the bytes behind it, or none
abbrev pub behind : ℕ → List ℕ → List ℕ
behind stop s = after_first (λ c. leb c stop) s

-- the lines of a text: each byte of at most 10 ends one, and the last need not be ended
unfoldable pub lines_of : List ℕ → List (List ℕ)
lines_of [] = []
lines_of (c ∷ s) = cond (leb c 10) ([] ∷ lines_of s) (onto_first c (lines_of s))
