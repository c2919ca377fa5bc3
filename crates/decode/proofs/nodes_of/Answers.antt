-- `decode::nodes_of` meets its contract. Assumes nothing.
use Rattle.std.proofs.Common.{rules, tests}
use Rattle.plans.specs.Plan.{zero_node}
use Rattle.decode.specs.Positions.{size_of}
use Rattle.decode.specs.Decode.{node_of}
use Rattle.decode.proofs.Made.{made_filled}
use Rattle.decode.proofs.nodes_of.Goals as goal

pub returns : goal.returns
returns c = made_filled (node_of c.args.s.now) 64 zero_node (size_of c.args.s.now) c.from_fn.ensures.items (λ i x q k. search (rules, tests))
