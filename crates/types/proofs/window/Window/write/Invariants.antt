-- `types::window::Window::write` meets its contract. The loop keeps that the bytes so far are written and the rest is as it was. Assumes nothing.
use Rattle.std.proofs.Common.{◌≡◌, ◌++◌, drop}
use Rattle.meaning.specs.Written.{written}
use Rattle.types.specs.Decision.{bytes}
use Rattle.types.proofs.window.Window.write.Given as goal

abbrev pub invariant-loop-i : goal.invariant-loop-i
invariant-loop-i l =
    l.out ≡ bytes (written l.self.pair.giver.c l.self.pair.giver.t l.self.start l.self.pair.wanted.t) l.from l.i ++ drop l.i l.initial.out
