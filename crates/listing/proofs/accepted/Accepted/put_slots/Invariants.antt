-- `Accepted::put_slots` meets its contract. The invariant: the lines of the slots passed are written. Assumes nothing.
use Rattle.std.proofs.Common.{◌≡◌, ◌++◌}
use Rattle.layout.specs.Layout.{lays}
use Rattle.listing.specs.Text.{first_eight, slot_line}
use Rattle.listing.proofs.accepted.Accepted.put_slots.Given as goal

abbrev pub invariant-loop-n : goal.invariant-loop-n
invariant-loop-n l = l.page ≡ l.initial.page ++ lays (slot_line l.self.plan (first_eight l.self.plan)) l.n
