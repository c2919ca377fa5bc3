-- `numbers::put_state` meets its contract. Assumes nothing.
use borrow.Author.Rules.{rules}
use Rattle.numbers.proofs.Down.{state_unlaid, count_put, state_put}
use Rattle.numbers.proofs.put_state.Goals as goal

pub returns-then-out-ne65 : goal.returns-then-out-ne65
returns-then-out-ne65 c = search state_unlaid

pub loop-i-preserved : goal.loop-i-preserved
loop-i-preserved c = search (rules, count_put)

pub returns : goal.returns
returns c = search (rules, state_put)
