-- Every refusal of a read has one of a read's numbers, and a place that the high half holds; and halves are read back. Assumes nothing.
use native.Mathlib.Omega.{arith}
use Rattle.layout.proofs.Kept.{refusal_early}
use Rattle.exports.specs.Exports.{refusal}
use Rattle.exports.specs.Promises.{Halves, ReadsTold}

-- number and place are read back
pub halves : Halves
unfolding refusal
halves number place h = (omega arith, omega arith)

-- every refusal of a read is told whole
pub reads_told : ReadsTold
reads_told bytes small number place e =
    let (known, early) = refusal_early bytes small number place e in
    record { known = known; held = omega arith }
