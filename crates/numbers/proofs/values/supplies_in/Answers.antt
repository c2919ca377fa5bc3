-- `numbers::values::supplies_in` meets its contract. Assumes nothing.
use Rattle.numbers.specs.Numbers.{is_supply_at, supply_in}
use Rattle.numbers.proofs.Fields.{pair_read}
use Rattle.numbers.proofs.values.supplies_in.Goals as goal

pub returns : goal.returns
returns c =
    c.each_of.ensures (is_supply_at c.args.xs.now) (supply_in c.args.xs.now)
    (pair_read c.args.xs.now c.requires _ c.as_chunks.ensures.front c.as_chunks.ensures.front_len)
