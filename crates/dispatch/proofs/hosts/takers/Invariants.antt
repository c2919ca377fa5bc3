-- The word has seen the nodes behind. Assumes nothing.
use Rattle.dispatch.proofs.Takers.{Seen}
use Rattle.dispatch.proofs.hosts.takers.Given as goal

abbrev pub invariant-loop-i : goal.invariant-loop-i
invariant-loop-i l = Seen l.plan.plan l.left l.declines l.takers l.i
