-- In `lines::bytes` what is written so far stands before what of the room is left. Assumes nothing.
use Rattle.std.proofs.Common.{◌≡◌, ◌++◌, drop}
use Rattle.lines.specs.Digits.{bytes_of}
use Rattle.lines.proofs.bytes.Given as goal

abbrev pub invariant-loop-i : goal.invariant-loop-i
invariant-loop-i l = l.out ≡ bytes_of l.word l.i ++ drop l.i l.initial.out
