use Rattle.std.proofs.Common.{rules, ◌≡◌, refl, arith}
use Rattle.std.specs.Prelude.{Ok, Err}
use Rattle.answers.proofs.Laws.{each_none, each_more, each_stop}
use Rattle.rules.proofs.Sums.{load_none, load_more, load_fits, side_read}
use Rattle.rules.proofs.family.Family.check_fourteen.Goals as goal

pub loop-i-init : goal.loop-i-init
loop-i-init c = search (rules, load_none, each_none)

pub overflow_add-sum : goal.overflow_add-sum
overflow_add-sum c = search (load_fits, rules)

pub fourteen_at-requires : goal.fourteen_at-requires
fourteen_at-requires c = search (load_more, side_read, rules)

pub returns-in_err-fourteen_at : goal.returns-in_err-fourteen_at
returns-in_err-fourteen_at c =
    let e : c.from_residual.result ≡ Err c.in_err-fourteen_at.field-0.0 = search rules in
    rw e (each_stop _ c.loop-i.i c.loop-i.invariant.1 _ _ c.in_err-fourteen_at.ensures (λ r. cc) (omega arith))

pub loop-i-preserved : goal.loop-i-preserved
loop-i-preserved c =
    let e : c.fourteen_at.result ≡ Ok tt = search rules in
    (search (load_more, rules), each_more _ _ c.loop-i.invariant.1 _ c.fourteen_at.ensures (rw e refl))
