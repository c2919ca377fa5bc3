-- `Accepted::put_nodes` meets its contract. Assumes nothing.
use Rattle.std.proofs.Common.{rules}
use Rattle.listing.proofs.Pages.{lays_room}
use Rattle.listing.proofs.accepted.Accepted.put_nodes.Goals as goal

pub put_node-requires-clause-room : goal.put_node-requires-clause-room
put_node-requires-clause-room c = search (rules, lays_room)
