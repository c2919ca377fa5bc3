-- What `answers::each` has been told so far: whatever the checks are held to, nothing below i is refused.
use Rattle.std.proofs.Common.{◌≡◌, ◌<◌, ℕ}
use Rattle.answers.specs.Answers.{Answer, Accepted, answered, each}
use Rattle.answers.proofs.each.Given as goal

abbrev pub invariant-loop-i : goal.invariant-loop-i
invariant-loop-i g l =
    (f : ℕ → Answer) → ((i : ℕ) (r : _) → i < l.fn.n → goal.F-post g l.fn.check i r → answered r ≡ f i) → each f l.i ≡ Accepted
