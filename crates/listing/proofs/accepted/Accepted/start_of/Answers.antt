-- `Accepted::start_of` meets its contract: the start is a number, and no refusal. Assumes nothing.
use Rattle.std.proofs.Common.{rules}
use Rattle.listing.proofs.SlotLines.{start_number}
use Rattle.listing.proofs.accepted.Accepted.start_of.Goals as goal

pub unwrap-requires : goal.unwrap-requires
unwrap-requires c = let e = start_number _ _ c.args.self.tick c.requires _ c.start.ensures in search (rules, e)

pub returns : goal.returns
returns c = let e = start_number _ _ c.args.self.tick c.requires _ c.start.ensures in cc
