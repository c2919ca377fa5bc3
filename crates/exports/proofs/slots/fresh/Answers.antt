-- `exports::slots::fresh` meets its contract. Assumes nothing.
use mathlib.Core.Bool.{true}
use mathlib.Core.Path.{◌≡◌}
use native.Mathlib.Omega.{arith}
use lib.ListN.{replicate}
use Rattle.std.proofs.lemmas.Grind.{common_steps}
use Rattle.dispatch.specs.Run.{number}
use Rattle.exports.specs.Exports.{placeless, refusal, told, are_whole}
use Rattle.exports.proofs.Giving.{whole_state, fresh_laid, fresh_refused}
use Rattle.exports.proofs.slots.fresh.Goals as goal

pub returns-in_err-fresh : goal.returns-in_err-fresh
returns-in_err-fresh c =
    let whole : are_whole c.args.plan.now c.args.state.now ≡ true = grind (arith, common_steps) in
    let long = whole_state c.args.plan.now c.args.state.now whole in
    let zeros : c.fill.new.self ≡ replicate 65 0 = grind (arith, common_steps) in
    let answer : told c.from_residual-in_err-fresh.result ≡ refusal (number c.in_err-fresh.field-0.0) placeless = grind (arith, common_steps) in
    rw answer (fresh_refused c.args.plan.now c.args.state.now whole c.plan_of.result c.plan_of.ensures c.in_err-fresh.field-0.0 c.in_err-fresh.ensures c.fill.new.self zeros)

pub returns : goal.returns
returns c =
    let whole : are_whole c.args.plan.now c.args.state.now ≡ true = grind (arith, common_steps) in
    fresh_laid c.args.plan.now c.args.state.now whole c.plan_of.result c.plan_of.ensures c.in_ok-fresh.field-0 c.in_ok-fresh.ensures c.fill.new.self
    c.put_state.new.out c.fill.ensures.len c.put_state.result c.put_state.ensures
