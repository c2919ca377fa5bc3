-- `dispatch::picks::is_set` meets its contract. Assumes nothing.
use Rattle.dispatch.proofs.Choosing.{bit_set}
use Rattle.dispatch.proofs.picks.is_set.Goals as goal

pub returns : goal.returns
returns c = bit_set _ _
