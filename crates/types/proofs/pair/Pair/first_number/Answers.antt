-- `types::pair::Pair::first_number` meets its contract: `find` over the numbers of the windows. Assumes nothing.
use borrow.Author.Rules.{rules}
use borrow.Author.Tests.{tests}
use lib.Dec.{ltb}
use Rattle.std.proofs.Common.{◌≡◌, ◌∙◌, refl, arith}
use native.Mathlib.Nat.{sub-zero}
use Rattle.std.proofs.lemmas.Iterator.{YieldsList-from_range}
use Rattle.std.proofs.lemmas.Iterator.Search.{find_from_yields_List}
use Rattle.types.specs.Least.{ones_at, first_below}
use Rattle.types.proofs.First.{first_found, first_below_le}
use Rattle.types.proofs.pair.Pair.first_number.Goals as goal

pub returns : goal.returns
returns c =
    let found =
    find_from_yields_List (λ j. ltb (ones_at c.args.self.giver c.args.self.wants c.args.self.wanted j) c.args.self.wanted.c) _ _ c.find-first.result
    c.find-first.ensures.ran (YieldsList-from_range 0 _ _ refl (sub-zero _)) (λ x b q k. search (rules, tests)) in
    let number : c.unwrap_or.result ≡ first_below (ones_at c.args.self.giver c.args.self.wants c.args.self.wanted) c.args.self.wanted.c 0 c.stride-turns.result =
    c.unwrap_or.ensures ∙ first_found _ _ _ _ found in
    record { number = rw number (rw c.stride-turns.ensures.turns); few = omega (arith, first_below_le) }
