-- The fields of a plan file: document 01, "The plan file", and document 02, request 6. Past the end of the bytes everything reads as 0; whether a field is
-- there is a test of its own. Assumes nothing.
use Rattle.std.specs.Prelude.{ℕ, ◌+◌, ◌*◌, List, leb, length, get_or}
use Rattle.meaning.specs.Types.{well_formed}
use Rattle.meaning.specs.declared.SlotType.{SlotType}
use Rattle.meaning.specs.declared.Misses.{Misses}
use Rattle.answers.specs.Answers.{first, test}
use Rattle.answers.specs.Answers.{Answer}

unfoldable pub byte_at : List ℕ → ℕ → ℕ
byte_at s k = get_or s k 0

-- 01: "Numbers are little-endian"
unfoldable pub two_at : List ℕ → ℕ → ℕ
two_at s k = byte_at s k + 256 * byte_at s (k + 1)

unfoldable pub four_at : List ℕ → ℕ → ℕ
four_at s k = two_at s k + 65536 * two_at s (k + 2)

-- 01: "C and T, two bytes each"
unfoldable pub type_at : List ℕ → ℕ → SlotType
type_at s k = record { c = two_at s k; t = two_at s (k + 2) }

-- 02: "D and W (two bytes each, ..) after its wanted type"
unfoldable pub misses_at : List ℕ → ℕ → Misses
misses_at s k = record { d = two_at s k; w = two_at s (k + 2) }

-- 01, refusal 1: "a field's bytes are not all there: field's first byte", for a field of n bytes from k on
unfoldable pub there : List ℕ → ℕ → ℕ → Answer
there s k n = test (leb (k + n) (length s)) 1 k

-- 01: "each field tested when it has been read (a type when both its numbers have"; refusal 4: "a type is malformed: first byte of its C"
unfoldable pub check_type : List ℕ → ℕ → Answer
check_type s k = first (there s k 2) (first (there s (k + 2) 2) (test (well_formed (type_at s k)) 4 k))
