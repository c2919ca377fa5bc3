-- `Accepted::put_slots` meets its contract. Assumes nothing.
use Rattle.std.proofs.Common.{rules}
use Rattle.listing.proofs.Pages.{lays_room}
use Rattle.listing.proofs.accepted.Accepted.put_slots.Goals as goal

pub put_slot-requires-clause-room : goal.put_slot-requires-clause-room
put_slot-requires-clause-room c = search (rules, lays_room)
