-- `Accepted::least_of` meets its contract: its answer is a verdict, with the count. Assumes nothing.
use Rattle.std.proofs.Common.{rules}
use Rattle.listing.proofs.NodeLines.{least_judged, least_holds, least_short}
use Rattle.listing.proofs.accepted.Accepted.least_of.Goals as goal

pub unwrap-requires : goal.unwrap-requires
unwrap-requires c = search (rules, least_judged)

pub returns-in-Holds : goal.returns-in-Holds
returns-in-Holds c = search (rules, least_holds)

pub returns-in-Holds-2 : goal.returns-in-Holds-2
returns-in-Holds-2 c = search (rules, least_short)
