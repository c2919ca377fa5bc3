-- One turn of the loop in `lines::bytes` writes the byte of the next pair. Assumes nothing.
use Rattle.std.proofs.Common.{◌<◌, ◌/◌, length, arith, length-take}
use Rattle.std.proofs.lemmas.List.{get_or-take}
use Rattle.lines.proofs.Digits.{bytes_more}
use Rattle.lines.proofs.bytes.Goals as goal

pub loop-i-preserved : goal.loop-i-preserved
loop-i-preserved c =
    let below : c.loop-i.i < c.min-count.result = omega (arith, length-take c.min-count.result c.as_chunks.result.0.now) in
    rw (c.loop-i.invariant, c.digit.ensures.value, c.digit-in-loop-i.ensures.value, c.as_chunks.ensures.front)
    (bytes_more _ _ _ (length c.args.word.now / 2) c.loop-i.i (omega arith) (omega arith) (get_or-take _ _ _ _ below))
