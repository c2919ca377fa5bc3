-- `divisors::common` meets its contract. The loop keeps the common divisors; what is left over falls. Assumes nothing.
use Rattle.divisors.proofs.Euclid.{Kept}
use Rattle.divisors.proofs.common.Given as goal

abbrev pub invariant-loop-y : goal.invariant-loop-y
invariant-loop-y l = Kept l.a l.b l.x l.y

abbrev pub decreases-loop-y : goal.decreases-loop-y
decreases-loop-y l = l.y
