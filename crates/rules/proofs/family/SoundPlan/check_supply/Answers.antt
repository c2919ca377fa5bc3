use Rattle.rules.proofs.Order.{supply_fits}
use Rattle.rules.proofs.family.SoundPlan.check_supply.Goals as goal

pub overflow_cast-s : goal.overflow_cast-s
overflow_cast-s c = search supply_fits
