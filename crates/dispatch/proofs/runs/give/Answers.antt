-- The counts and the buffer after the slots passed. Assumes nothing.
use native.Mathlib.Omega.{arith}
use Rattle.std.proofs.Common.{rules}
use Rattle.dispatch.proofs.Running.{give_none, give_one, give_counts, give_buffer}
use Rattle.dispatch.specs.Run.{standing}
use Rattle.dispatch.proofs.runs.give.Goals as goal

pub loop-i-init : goal.loop-i-init
loop-i-init c = record { clock = omega arith; given = give_none _ _ _ _ _ _ _ _ }

pub loop-i-preserved : goal.loop-i-preserved
loop-i-preserved c = record {
  clock = omega arith;
  given =
      give_one _ _ _ _ _ _ _ _ c.args.plan.cores _ _ _ c.loop-i.invariant.given (omega arith) _
      (rw c.loop-i.invariant.clock at c.serve-grants.ensures.slot) _ (omega arith) _ (search rules);
}

pub returns-clause-left : goal.returns-clause-left
returns-clause-left c = give_counts _ _ (standing c.args.state.now) _ _ _ _ _ _ c.loop-i.invariant.given (omega arith) (omega arith)

pub returns-clause-buffer : goal.returns-clause-buffer
returns-clause-buffer c = give_buffer _ _ (standing c.args.state.now) _ _ _ _ _ _ c.loop-i.invariant.given (omega arith) (omega arith)
