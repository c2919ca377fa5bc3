-- `numbers::values::nodes_in` meets its contract. Assumes nothing.
use Rattle.numbers.specs.Numbers.{is_node_at, node_in}
use Rattle.numbers.proofs.Fields.{eight_read}
use Rattle.numbers.proofs.values.nodes_in.Goals as goal

pub returns : goal.returns
returns c =
    c.each_of.ensures (is_node_at c.args.xs.now) (node_in c.args.xs.now)
    (eight_read c.args.xs.now c.requires _ c.as_chunks.ensures.front c.as_chunks.ensures.front_len)
