-- `numbers::state_of` meets its contract. Assumes nothing.
use mathlib.Core.Path.{sym, ap, ◌∙◌}
use native.Mathlib.Omega.{arith}
use Rattle.numbers.specs.Numbers.{given, count_in, is_count_at}
use Rattle.numbers.proofs.Fields.{fit_some, fit_none}
use Rattle.numbers.proofs.Counts.{state_short, counts_stop, counts_done, counts_many, count_read}
use Rattle.numbers.proofs.state_of.Goals as goal

pub returns-in_default : goal.returns-in_default
returns-in_default c = state_short c.args.xs.now (λ e. omega arith)

pub returns-then-counts-ne64 : goal.returns-then-counts-ne64
returns-then-counts-ne64 c = state_short c.args.xs.now (λ e. c.if-counts-ne64.true (omega (arith, counts_many c.args.xs.now)))

pub returns-in_err-each_of : goal.returns-in_err-each_of
returns-in_err-each_of c =
    let many = counts_many c.args.xs.now in
    let said = c.each_of.ensures (is_count_at c.args.xs.now) (count_in c.args.xs.now) (count_read c.args.xs.now) in
    ap given c.from_residual.ensures ∙ counts_stop c.args.xs.now (omega arith) (fit_none _ _ (sym said ∙ c.in_err-each_of.was))

pub returns : goal.returns
returns c =
    let many = counts_many c.args.xs.now in
    let said = c.each_of.ensures (is_count_at c.args.xs.now) (count_in c.args.xs.now) (count_read c.args.xs.now) in
    let some = fit_some _ _ _ (sym said ∙ c.in_ok-each_of.was) in
    counts_done c.args.xs.now (omega arith) some.0 _ some.1
