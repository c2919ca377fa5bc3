-- `Accepted::put_node` meets its contract. Assumes nothing.
use Rattle.std.proofs.Common.{arith, length-append}
use Rattle.listing.specs.Text.{node_line}
use Rattle.listing.proofs.accepted.Accepted.put_node.Goals as goal

pub put_type-requires : goal.put_type-requires
unfolding node_line
put_type-requires c =
    rw (c.node_at.ensures, c.put_marked.ensures, c.depth_of.ensures, c.put_head.ensures, c.name.ensures.holds)
    (simp length-append (omega (arith, simp length-append at c.requires.room)))
