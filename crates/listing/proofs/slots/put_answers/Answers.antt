-- `slots::put_answers` meets its contract. Assumes nothing.
use Rattle.std.proofs.Common.{rules}
use Rattle.listing.proofs.Pages.{lays_room}
use Rattle.listing.proofs.SlotLines.{part_is}
use Rattle.listing.proofs.slots.put_answers.Goals as goal

pub put_answer-requires : goal.put_answer-requires
put_answer-requires c = search (rules, lays_room, part_is)
