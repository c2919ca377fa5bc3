-- Where names begin, past the cut at the last name. Assumes nothing.
use Prim.Native.Nat.{ℕ, ◌≤◌, min}
use mathlib.Core.List.{List}
use mathlib.Core.Path.{◌≡◌, ap, ◌∙◌}
use native.Mathlib.Omega.{arith}
use Rattle.decode.specs.Positions.{size_of, name_start}

-- a position that is cut at the last name is name i's, where there is one
pub start_is : (s : List ℕ) (i k : ℕ) → k ≡ name_start s (min i (size_of s)) → i ≤ size_of s → k ≡ name_start s i
start_is s i k e l = let same : min i (size_of s) ≡ i = omega arith in e ∙ ap (name_start s) same
