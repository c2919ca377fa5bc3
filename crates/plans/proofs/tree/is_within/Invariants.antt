-- `plans::tree::is_within` meets its contract. The invariant: the node reached, with the steps left, tells what was asked. Assumes nothing.
use Prim.Native.Nat.{◌-◌}
use mathlib.Core.Path.{◌≡◌}
use Rattle.plans.specs.Sound.{within}
use Rattle.plans.proofs.tree.is_within.Given as goal

abbrev pub invariant-loop : goal.invariant-loop
invariant-loop l = within l.plan (8 - l.counter) l.at ≡ within l.plan 8 l.fn.i
