-- `answers::each` stops at the first refusal, and where there is none it has looked at all.
use Rattle.std.proofs.Common.{◌≡◌, refl, rules, arith}
use Rattle.std.specs.Prelude.{Ok, Err}
use Rattle.answers.specs.Answers.{answered}
use Rattle.answers.proofs.Laws.{each_none, each_more, each_stop}
use Rattle.answers.proofs.each.Goals as goal

pub loop-i-init : goal.loop-i-init
loop-i-init g c = λ f h. each_none f

pub returns-in_err-check : goal.returns-in_err-check
returns-in_err-check g c =
    let e : c.from_residual.result ≡ Err c.in_err-check.field-0.0 = search rules in
    λ f h.
    rw e (each_stop f c.loop-i.i (c.loop-i.invariant f h) c.args.n _ (h _ _ (omega arith) c.in_err-check.ensures) (λ r. cc) (omega arith))

pub loop-i-preserved : goal.loop-i-preserved
loop-i-preserved g c =
    let e : c.check.result ≡ Ok tt = search rules in
    λ f h.
    each_more f c.loop-i.i (c.loop-i.invariant f h) (answered c.check.result) (h _ _ (omega arith) (search rules)) (rw e refl)
