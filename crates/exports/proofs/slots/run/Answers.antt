-- `exports::slots::run` meets its contract. Assumes nothing.
use mathlib.Core.Bool.{true}
use mathlib.Core.Path.{◌≡◌}
use lib.ListN.{length}
use native.Mathlib.Omega.{arith}
use Rattle.std.proofs.lemmas.Grind.{common_steps}
use Rattle.dispatch.specs.Run.{done, standing}
use Rattle.numbers.specs.Numbers.{state_given}
use Rattle.numbers.proofs.Down.{state_down}
use Rattle.exports.specs.Exports.{by_numbers, ran_by, out_by, are_whole, running}
use Rattle.exports.proofs.Giving.{whole_state}
use Rattle.exports.proofs.slots.run.Goals as goal

pub returns : goal.returns
unfolding ran_by out_by by_numbers state_given running
returns c =
    let whole : are_whole c.args.plan.now c.args.state.now ≡ true = grind (arith, common_steps) in
    let is : ran_by c.args.setting c.args.plan.now c.args.state.now c.args.supplies.now c.args.declines.now (length c.args.out.now) ≡
    record { outcome = done; state = standing c.run.new.state } = grind (arith, common_steps) in
    let room : c.run.new.out ≡ out_by c.args.setting c.args.plan.now c.args.state.now c.args.supplies.now c.args.declines.now c.args.out.now =
    grind (arith, common_steps) in
    let down = state_down c.run.new.state c.args.state.now (whole_state c.args.plan.now c.args.state.now whole) _ _ c.put_state.ensures in
    rw (whole, is, room, down)
