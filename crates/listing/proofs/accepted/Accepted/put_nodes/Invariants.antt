-- `Accepted::put_nodes` meets its contract. The invariant: the lines of the nodes passed are written. Assumes nothing.
use Rattle.std.proofs.Common.{◌≡◌, ◌++◌}
use Rattle.layout.specs.Layout.{lays}
use Rattle.listing.specs.Text.{node_line}
use Rattle.listing.proofs.accepted.Accepted.put_nodes.Given as goal

abbrev pub invariant-loop-i : goal.invariant-loop-i
invariant-loop-i l = l.page ≡ l.initial.page ++ lays (node_line l.s l.self.plan) l.i
