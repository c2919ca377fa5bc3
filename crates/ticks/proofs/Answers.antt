-- The bounds of a tick's numbers. Assumes nothing.
use Rattle.std.proofs.Common.{◌≡◌, ℕ, ◌≤◌, true, arith}
use Rattle.std.proofs.lemmas.Grind.{common_steps}
use Rattle.ticks.specs.Times.{in_range, is_fit}
use Rattle.ticks.specs.declared.Tick.{Tick}

-- of a number in its range, and of a fit tick
pub record InRange (x : ℕ) : Type 0 where
  pub least : 1 ≤ x
  pub most : x ≤ 1_000_000

pub record Fit (tick : Tick) : Type 0 where
  pub p : InRange tick.p
  pub q : InRange tick.q

pub fit : (tick : Tick) → is_fit tick ≡ true → Fit tick
unfolding is_fit in_range
fit tick e = record {
  p = record { least = grind (arith, common_steps); most = grind (arith, common_steps) };
  q = record { least = grind (arith, common_steps); most = grind (arith, common_steps) };
}
