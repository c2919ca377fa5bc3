-- `Page::put_number` meets its contract: the digits before the last one, and the last one, are the number. Assumes nothing.
use Rattle.std.proofs.Common.{rules}
use Rattle.listing.proofs.Digits.{tens_room, last_room, digits_put}
use Rattle.listing.proofs.page.Page.+put_number.Goals as goal

pub put_number-requires : goal.put_number-requires
put_number-requires t c = search (rules, tens_room)

pub put_byte-requires-else-n-lt10 : goal.put_byte-requires-else-n-lt10
put_byte-requires-else-n-lt10 t c = search (rules, last_room)

pub returns-else-n-lt10 : goal.returns-else-n-lt10
returns-else-n-lt10 t c = search (rules, digits_put)
