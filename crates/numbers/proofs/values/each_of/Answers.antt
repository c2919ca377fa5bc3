-- `numbers::values::each_of` meets its contract. Assumes nothing.
use mathlib.Core.Path.{◌∙◌}
use native.Mathlib.Omega.{arith}
use Rattle.plans.proofs.All.{all_none}
use Rattle.decode.proofs.Filled.{filled_none}
use Rattle.numbers.proofs.Fields.{taken_stop, taken_more, taken_done}
use Rattle.numbers.proofs.values.each_of.Goals as goal

pub loop-i-init : goal.loop-i-init
loop-i-init g c = λ t f said. (all_none t, filled_none f _)

pub returns-in_err-made : goal.returns-in_err-made
returns-in_err-made g c = λ t f said.
    let inv = c.loop-i.invariant t f said in
    let none = said c.loop-i.i _ _ c.loop-i-test.true c.index-parts-i.is c.in_err-made.ensures in
    c.from_residual.ensures ∙ taken_stop _ _ _ _ c.loop-i.i inv.0 inv.1 g.row.N (omega arith) none

pub loop-i-preserved : goal.loop-i-preserved
loop-i-preserved g c = λ t f said.
    let inv = c.loop-i.invariant t f said in
    taken_more _ _ _ _ c.loop-i.i inv.0 inv.1 _ (said c.loop-i.i _ _ c.loop-i-test.true c.index-parts-i.is c.in_ok-made.ensures)

pub returns : goal.returns
returns g c = λ t f said.
    let inv = c.loop-i.invariant t f said in
    taken_done _ _ _ _ c.loop-i.i inv.0 inv.1 g.row.N (omega arith) (omega arith)
