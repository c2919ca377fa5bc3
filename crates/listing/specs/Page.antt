-- The page that a text is written on: what the private calls of the crate are held to. Assumes nothing.
use Rattle.std.specs.Prelude.{ℕ, ◌≤◌, List, length}

-- a text that a page has room for
abbrev pub OnPage : List ℕ → Type 0
OnPage text = length text ≤ 4096
