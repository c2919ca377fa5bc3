-- `nodes::depth_of` meets its contract. Assumes nothing.
use Rattle.std.proofs.Common.{rules}
use Rattle.listing.proofs.NodeLines.{depth_none, depth_supply, depth_host, depth_done}
use Rattle.listing.proofs.nodes.depth_of.Goals as goal

pub loop-steps-init : goal.loop-steps-init
loop-steps-init c = search (rules, depth_none)

pub returns-in-Supply : goal.returns-in-Supply
returns-in-Supply c = search (rules, depth_supply)

pub loop-steps-preserved : goal.loop-steps-preserved
loop-steps-preserved c = search (rules, depth_host)

pub returns : goal.returns
returns c = search (rules, depth_done)
