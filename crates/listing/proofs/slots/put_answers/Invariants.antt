-- `slots::put_answers` meets its contract. The invariant: the answers of the cores passed are written. Assumes nothing.
use Rattle.std.proofs.Common.{◌≡◌, ◌++◌}
use Rattle.layout.specs.Layout.{lays}
use Rattle.listing.specs.Text.{answer_part}
use Rattle.listing.proofs.slots.put_answers.Given as goal

abbrev pub invariant-loop-grant : goal.invariant-loop-grant
invariant-loop-grant l = l.page ≡ l.initial.page ++ lays (answer_part l.grants l.cores l.n) l.grant-index
