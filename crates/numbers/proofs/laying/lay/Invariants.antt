-- `numbers::laying::lay` meets its contract. The invariants: the supplies passed are laid down, and then the nodes passed. Assumes nothing.
use mathlib.Core.Path.{◌≡◌}
use lib.Seq.{sets}
use Rattle.layout.specs.Layout.{lays}
use Rattle.numbers.specs.Numbers.{type_part, node_part}
use Rattle.numbers.proofs.laying.lay.Given as goal

abbrev pub invariant-loop-i : goal.invariant-loop-i
invariant-loop-i l = l.out ≡ sets l.initial.out 4 (lays (type_part l.plan.supplies) l.i)

abbrev pub invariant-loop-i-2 : goal.invariant-loop-i-2
invariant-loop-i-2 l = l.out ≡ sets l.initial.out 21 (lays (node_part l.plan.nodes) l.i)
