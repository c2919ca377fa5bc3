-- The counts decide. Assumes nothing.
use Rattle.dispatch.proofs.Refusals.{ready_counts}
use Rattle.dispatch.proofs.runs.is_ready.Goals as goal

pub returns-then-state-le-LIMIT : goal.returns-then-state-le-LIMIT
returns-then-state-le-LIMIT c = ready_counts _ _ _ c.args.fit.now.fit c.if-state-le-LIMIT.true c.are_within.ensures
