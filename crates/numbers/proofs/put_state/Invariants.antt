-- `numbers::put_state` meets its contract. The invariant: the counts passed are laid down, and the rest is as it was. Assumes nothing.
use mathlib.Core.Path.{◌≡◌}
use lib.Seq.{paste}
use Rattle.numbers.proofs.put_state.Given as goal

abbrev pub invariant-loop-i : goal.invariant-loop-i
invariant-loop-i l = l.out ≡ paste l.initial.out 1 l.fn.state.left l.i
