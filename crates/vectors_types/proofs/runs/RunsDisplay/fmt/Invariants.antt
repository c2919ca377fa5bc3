-- `Runs` are printed and this ends: what is printed is taken off the front. Assumes nothing.
use Rattle.std.proofs.Common.{length}
use Rattle.vectors_types.proofs.runs.RunsDisplay.fmt.Given as goal

abbrev pub decreases-loop-first : goal.decreases-loop-first
decreases-loop-first g l = length l.s
