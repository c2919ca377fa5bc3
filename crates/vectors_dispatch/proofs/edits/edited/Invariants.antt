-- In `edits::edited` the words left grow fewer. Assumes nothing.
use Rattle.std.proofs.Common.{length}
use Rattle.vectors_dispatch.proofs.edits.edited.Given as goal

abbrev pub decreases-loop-rest : goal.decreases-loop-rest
decreases-loop-rest l = length l.rest
