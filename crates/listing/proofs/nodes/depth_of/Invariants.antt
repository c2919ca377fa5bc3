-- `nodes::depth_of` meets its contract. The invariant: the steps passed and what is above the node reached are the depth. Assumes nothing.
use Rattle.listing.proofs.NodeLines.{Climbed}
use Rattle.listing.proofs.nodes.depth_of.Given as goal

abbrev pub invariant-loop-steps : goal.invariant-loop-steps
invariant-loop-steps l = Climbed l.plan l.i l.at l.steps
