-- Which numbers are a setting's. Assumes nothing.
use Prim.Native.Nat.{ℕ, ◌≤◌, ◌<◌}
use mathlib.Core.Bool.{true, false}
use mathlib.Core.Path.{◌≡◌}
use borrow.Author.Tests.{le-leb, lt-leb}
use Rattle.exports.specs.Exports.{is_setting}

-- a number over 1 is no setting's
pub over_unset : (b : ℕ) → 1 < b → is_setting b ≡ false
unfolding is_setting
over_unset b h = lt-leb b 1 h

-- and 0 and 1 are
pub within_set : (b : ℕ) → b ≤ 1 → is_setting b ≡ true
unfolding is_setting
within_set b h = le-leb b 1 h
