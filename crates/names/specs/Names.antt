-- The names of a plan file: document 01, "The plan file", part 4, with refusals 1, 2, 8 and 9 there. Assumes nothing.
use Rattle.std.specs.Prelude.{ℕ, suc, ◌+◌, Bool, not, ◌&&◌, List, leb, eqb}
use Rattle.answers.specs.Answers.{Answer, first, test, each}
use Rattle.plans.specs.Sound.{all}
use Rattle.fields.specs.Fields.{byte_at, there}
use Rattle.decode.specs.Positions.{size_of, names_at, name_start}

-- 01: "a length byte 1 to 32, then that many bytes, each 33 to 126"
unfoldable pub is_length : ℕ → Bool
is_length b = leb 1 b && leb b 32

unfoldable pub is_letter : ℕ → Bool
is_letter b = leb 33 b && leb b 126

-- 01: "each byte of a name is a field"
unfoldable pub letter_at : List ℕ → ℕ → Answer
letter_at s at = first (there s at 1) (test (is_letter (byte_at s at)) 8 at)

-- byte j of the name whose length byte stands at k
unfoldable pub check_letter : List ℕ → ℕ → ℕ → Answer
check_letter s k j = letter_at s (k + 1 + j)

-- two names are the same where their length bytes agree, and the bytes after them
unfoldable pub agrees_at : List ℕ → ℕ → ℕ → ℕ → Bool
agrees_at s a b j = eqb (byte_at s (a + j)) (byte_at s (b + j))

unfoldable pub same_name : List ℕ → ℕ → ℕ → Bool
same_name s a b = all (agrees_at s a b) (suc (byte_at s a))

unfoldable pub differs : List ℕ → ℕ → ℕ → Bool
differs s i j = not (same_name s (name_start s j) (name_start s i))

-- 01: "No name occurs twice": name i is none of the earlier ones
unfoldable pub is_new : List ℕ → ℕ → Bool
is_new s i = all (differs s i) i

-- 01: "a name's bytes one by one, then 9"
unfoldable pub check_name : List ℕ → ℕ → Answer
check_name s i =
    let k = name_start s i in
    first (there s k 1)
    (first (test (is_length (byte_at s k)) 8 k) (first (each (check_letter s k) (byte_at s k)) (test (is_new s i) 9 k)))

-- 01: "Names, count equal to the node count"
unfoldable pub check_names : List ℕ → Answer
check_names s =
    first (there s (names_at s) 1)
    (first (test (eqb (byte_at s (names_at s)) (size_of s)) 2 (names_at s)) (each (check_name s) (size_of s)))
