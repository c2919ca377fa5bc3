-- The levels to go fall at each call.
use Rattle.dispatch.proofs.picks.Round.+walk.Given as goal

abbrev pub decreases-walk : goal.decreases-walk
decreases-walk l = l.levels
