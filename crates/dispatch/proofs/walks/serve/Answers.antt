-- Past the last core it is the slot. Assumes nothing.
use native.Mathlib.Omega.{arith}
use Rattle.dispatch.proofs.Walking.{serve_done}
use Rattle.dispatch.proofs.walks.serve.Goals as goal

pub returns-clause-slot : goal.returns-clause-slot
returns-clause-slot c =
    serve_done _ c.args.plan c.new-round.result c.new-round.ensures.plan _ _ _ _ _ c.refill.ensures c.new-round.ensures.tells _ _ c.loop-s.invariant.served
    (omega arith) (omega arith)
