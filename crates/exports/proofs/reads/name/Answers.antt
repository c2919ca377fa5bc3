-- `exports::reads::name` meets its contract. Assumes nothing.
use mathlib.Core.Path.{◌≡◌}
use native.Mathlib.Omega.{arith}
use lib.ListN.{length}
use Rattle.std.proofs.lemmas.Grind.{common_steps}
use Rattle.exports.proofs.Told.{name_none, name_there}
use Rattle.exports.proofs.reads.name.Goals.{then-is_empty, else-is_empty}
use Rattle.exports.proofs.reads.name.Goals as goal

pub returns : goal.returns
returns c =
    let two : length c.args.answer.now ≡ 2 = grind (arith, common_steps) in
    let after = c.copy_from_slice.ensures.after in
    elim c.if-is_empty.branch [
      | then-is_empty w ↦
          let none : length c.name-name.result.now ≡ 0 = grind (arith, common_steps) in
          name_none _ _ _ two _ c.name-name.ensures.holds none _ w.first-is _ after
      | else-is_empty w ↦
          let some : length c.name-name.result.now ≡ 0 → ⊥ = grind (arith, common_steps) in
          name_there _ _ _ two _ c.name-name.ensures.holds some _ w.start_of.ensures.0 _ w.first-is _ after
    ]
