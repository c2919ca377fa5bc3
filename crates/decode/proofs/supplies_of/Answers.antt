-- `decode::supplies_of` meets its contract. Assumes nothing.
use Rattle.std.proofs.Common.{rules, tests}
use Rattle.plans.specs.Plan.{zero_type}
use Rattle.decode.specs.Positions.{cores_of, supply_start}
use Rattle.decode.specs.Decode.{supply_of}
use Rattle.decode.proofs.Made.{made_filled}
use Rattle.decode.proofs.supplies_of.Goals as goal

pub returns : goal.returns
unfolding supply_of supply_start
returns c = made_filled (supply_of c.args.s.now) 8 zero_type (cores_of c.args.s.now) c.from_fn.ensures.items (λ i x q k. search (rules, tests))
