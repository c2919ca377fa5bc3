use Rattle.rules.proofs.Order.{host_fits}
use Rattle.rules.proofs.family.SoundPlan.check_host.Goals as goal

pub overflow_cast-h : goal.overflow_cast-h
overflow_cast-h c = search host_fits
