-- The greatest common divisor by its plain meaning, and what is promised of it. Assumes nothing.
use Rattle.std.specs.Prelude.{ℕ, ◌+◌, ◌≤◌, ◌<◌, ◌≡◌}
use Rattle.std.specs.Int.{◌∣◌}

-- d divides both, and whatever divides both divides d. Everything divides 0, and so of 0 and 0 it is 0.
pub record Common (a b d : ℕ) : Type 0 where
  pub left : d ∣ a
  pub right : d ∣ b
  pub greatest : (e : ℕ) → e ∣ a → e ∣ b → e ∣ d

-- two numbers have one greatest common divisor, so the contract of `common` allows one answer
abbrev pub OneCommon : Type 0
OneCommon = (a b c d : ℕ) → Common a b c → Common a b d → c ≡ d

-- of two numbers that are not both 0, no common divisor is greater
abbrev pub NoneGreater : Type 0
NoneGreater = (a b d : ℕ) → Common a b d → 0 < a + b → (e : ℕ) → e ∣ a → e ∣ b → e ≤ d
