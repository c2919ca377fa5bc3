-- `numbers::values::each_of` meets its contract. The invariant: of the parts passed something is made, and it is in the array. Assumes nothing.
use mathlib.Core.Bool.{Bool, true}
use mathlib.Core.Path.{◌≡◌}
use Prim.Native.Nat.{ℕ}
use lib.ListN.{replicate}
use Rattle.plans.specs.Sound.{all}
use Rattle.decode.specs.Decode.{filled}
use Rattle.numbers.specs.Numbers.{SaysEach}
use Rattle.numbers.proofs.values.each_of.Given as goal

abbrev pub invariant-loop-i : goal.invariant-loop-i
invariant-loop-i g l =
    (t : ℕ → Bool) (f : ℕ → _) → SaysEach (goal.F-post g l.say) l.parts t f →
    (all t l.i ≡ true) × (l.made ≡ filled f (replicate g.row.N l.fn.zero) l.i)
