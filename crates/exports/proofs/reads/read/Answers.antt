-- `exports::reads::read` meets its contract. Assumes nothing.
use mathlib.Core.Path.{◌≡◌, ◌∙◌}
use native.Mathlib.Omega.{arith}
use lib.ListN.{length, replicate}
use Rattle.std.proofs.lemmas.Grind.{common_steps}
use Rattle.answers.specs.Answers.{number_of, place_in as broken_at}
use Rattle.exports.specs.Exports.{refusal, place_of, place_in, told}
use Rattle.exports.proofs.Told.{read_refused, read_laid}
use Rattle.exports.proofs.reads.read.Goals as goal

pub returns-in_err-read : goal.returns-in_err-read
returns-in_err-read c =
    let whole : length c.args.plan.now ≡ 533 = grind (arith, common_steps) in
    let zeros : c.fill.new.self ≡ replicate 533 0 = grind (arith, common_steps) in
    let answer : told c.from_residual-in_err-read.result ≡ refusal (number_of c.in_err-read.field-0.0) (place_of (place_in (broken_at c.in_err-read.field-0.0))) =
    grind (arith, common_steps) in
    rw answer (read_refused c.args.bytes.now c.args.plan.now whole c.in_err-read.field-0.0 c.in_err-read.ensures c.fill.new.self zeros)

pub returns : goal.returns
returns c =
    let whole : length c.args.plan.now ≡ 533 = grind (arith, common_steps) in
    read_laid c.args.bytes.now c.args.plan.now whole c.in_ok-read.field-0 c.in_ok-read.ensures c.put_plan.result c.fill.new.self c.put_plan.new.out
    (c.fill.ensures.len ∙ whole) c.put_plan.ensures
