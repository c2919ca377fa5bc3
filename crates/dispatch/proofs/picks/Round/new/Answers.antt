-- With the switch off every host's bit is set. Assumes nothing.
use Rattle.dispatch.proofs.Takers.{off_tells}
use Rattle.dispatch.proofs.picks.Round.new.Goals as goal

pub returns-in-Off-clause-tells : goal.returns-in-Off-clause-tells
returns-in-Off-clause-tells c = rw c.in-Off.is (off_tells _ _ _ c.args.plan.nodes)
