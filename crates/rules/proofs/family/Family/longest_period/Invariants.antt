-- The largest period of the children passed.
use Rattle.std.proofs.Common.{◌≡◌}
use Rattle.rules.specs.Fit.{most_to, child_period}
use Rattle.rules.proofs.family.Family.longest_period.Given as goal

abbrev pub invariant-loop-i : goal.invariant-loop-i
invariant-loop-i l = l.most ≡ most_to (child_period l.self.plan l.self.parent) l.i
