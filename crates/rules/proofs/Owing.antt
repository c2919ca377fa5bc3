-- Rule 12 asks nothing of the children of a whole parent. Assumes nothing.
use Prim.Native.Nat.{ℕ}
use mathlib.Core.Bool.{Bool, true, false, not, ◌||◌}
use mathlib.Core.Path.{◌≡◌, refl, sym, ap, ◌∙◌}
use Rattle.meaning.specs.declared.SlotType.{SlotType}
use Rattle.answers.specs.Answers.{Accepted, each}
use Rattle.answers.proofs.Laws.{test_true, each_accepted}
use Rattle.plans.specs.Plan.{own_type, is_child}
use Rattle.plans.specs.declared.Parent.{Parent}
use Rattle.plans.specs.declared.Plan.{Plan}
use Rattle.rules.specs.Check.{twelve_at}
use Rattle.rules.specs.Fit.{is_whole}

module _ (own : SlotType) (b : Bool) (is : b ≡ is_whole own) where
  pub whole_accepted : (plan : Plan) (x : Parent) → own ≡ own_type plan x → b ≡ true → (n : ℕ) → Accepted ≡ each (twelve_at plan x) n
  unfolding twelve_at
  whole_accepted plan x o e n = sym (each_accepted (twelve_at plan x) n (λ i l. test_true _ 12 i (either (is_child plan x i) _)))
    where
      whole : is_whole (own_type plan x) ≡ true
      whole = ap is_whole (sym o) ∙ sym is ∙ e

      either : (child multiple : Bool) → (not child || (is_whole (own_type plan x) || multiple)) ≡ true
      either true multiple = rw whole
      either false multiple = refl
