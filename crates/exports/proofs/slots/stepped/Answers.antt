-- `exports::slots::stepped` meets its contract. Assumes nothing.
use mathlib.Core.Path.{◌≡◌}
use native.Mathlib.Omega.{arith}
use Rattle.std.proofs.lemmas.Grind.{common_steps}
use Rattle.dispatch.specs.Run.{done, standing}
use Rattle.numbers.specs.Numbers.{state_given}
use Rattle.numbers.proofs.Down.{state_down}
use Rattle.exports.specs.Exports.{by_numbers, stepped_by}
use Rattle.exports.proofs.slots.stepped.Goals as goal

pub returns-clause-kept : goal.returns-clause-kept
unfolding stepped_by by_numbers state_given
returns-clause-kept c =
    let is : stepped_by c.args.setting c.args.plan.now c.args.state.now c.args.supplied c.args.declines ≡
    record { outcome = done; state = standing c.step.new.state; grants = c.in_ok-grants.grants } = grind (arith, common_steps) in
    let down = state_down c.step.new.state c.args.state.now c.requires _ _ c.put_state.ensures in
    rw (is, down)
