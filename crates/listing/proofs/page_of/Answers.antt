-- `listing::page_of` meets its contract. Assumes nothing.
use Rattle.std.proofs.Common.{rules}
use Rattle.dispatch.proofs.Refusals.{fits_sound}
use Rattle.layout.specs.Promises.{Bytes}
use Rattle.listing.proofs.SlotLines.{plan_fit, answers_room}
use Rattle.listing.proofs.Texts.{accepted_fits, accepted_room, text_accepted, text_refused}
use Rattle.listing.proofs.page_of.Goals as goal

pub invariant_of-page : goal.invariant_of-page
invariant_of-page c =
    let fits = accepted_fits _ _ c.read.ensures _ c.in-Ok.is in
    let sound = fits_sound _ fits in
    record { fits = fits; sound = sound; tick = plan_fit _ sound; few = answers_room _ fits }

pub page-requires : goal.page-requires
page-requires c =
    let bytes : Bytes c.args.bytes.now = λ k l. (c.type_inv.bytes k).fits in
    search (rules, accepted_room)

pub returns-in-Ok : goal.returns-in-Ok
returns-in-Ok c = rw c.page.ensures (search (rules, text_accepted))

pub returns-in-Err : goal.returns-in-Err
returns-in-Err c = rw c.refused.ensures (search (rules, text_refused))
