-- The sum of the nodes passed, none of which is refused.
use Rattle.std.proofs.Common.{◌≡◌}
use Rattle.answers.specs.Answers.{Accepted, each}
use Rattle.rules.specs.Check.{fourteen_at}
use Rattle.rules.specs.Fit.{load_to}
use Rattle.rules.proofs.family.Family.check_fourteen.Given as goal

abbrev pub invariant-loop-i : goal.invariant-loop-i
invariant-loop-i l =
    (l.sum ≡ load_to l.self.plan l.self.parent l.i) × (each (fourteen_at l.self.plan l.self.parent) l.i ≡ Accepted)
