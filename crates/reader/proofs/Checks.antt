-- What edition 1 is not asked. Assumes nothing.
use Prim.Native.Nat.{ℕ}
use mathlib.Core.List.{List}
use mathlib.Core.Path.{◌≡◌}
use borrow.Author.Tests.{ne_eqb}
use Rattle.answers.specs.Answers.{Accepted}
use Rattle.decode.specs.Positions.{edition_of}
use Rattle.reader.specs.Read.{check_misses}

-- an edition b that is not 2 has no D and W
pub no_misses_lem : (s : List ℕ) (i k b : ℕ) → b ≡ edition_of s → (b ≡ 2 → ⊥) → Accepted ≡ check_misses s i k
unfolding check_misses
no_misses_lem s i k b e h = rw (← e, ne_eqb b 2 h)
