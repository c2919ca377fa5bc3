-- `numbers::laying::lay` meets its contract: the parts take up all numbers. Assumes nothing.
use Prim.Native.Nat.{ℕ}
use mathlib.Core.List.{List}
use mathlib.Core.Path.{ap, ◌∙◌}
use lib.Seq.{sets}
use Rattle.layout.specs.Layout.{lays}
use Rattle.numbers.specs.Numbers.{type_part}
use native.Mathlib.Omega.{arith}
use Rattle.numbers.proofs.Laid.{part_none, part_done, types_more, nodes_more, plan_laid_lem}
use Rattle.numbers.proofs.laying.lay.Goals as goal

pub loop-i-init : goal.loop-i-init
loop-i-init c = search part_none

pub loop-i-preserved : goal.loop-i-preserved
loop-i-preserved c = search types_more

pub loop-i-2-init : goal.loop-i-2-init
loop-i-2-init c = search part_none

pub loop-i-2-preserved : goal.loop-i-2-preserved
loop-i-2-preserved c = search nodes_more

pub returns : goal.returns
returns c =
    let head = simp c.from-edition.ensures at c.put.ensures in
    let supplies = part_done _ _ _ 8 _ _ c.loop-i.invariant (omega arith) (omega arith) in
    let nodes = part_done _ _ _ 64 _ _ c.loop-i-2.invariant (omega arith) (omega arith) in
    plan_laid_lem c.args.plan.now c.args.out.now c.requires.0 _ (supplies ∙ ap (λ (l : List ℕ). sets l 4 (lays (type_part c.args.plan.now.supplies) 8)) head) _ nodes
