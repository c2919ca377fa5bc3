use mathlib.Core.Path.{sym}
use Rattle.dispatch.proofs.Choices.{choice_left}
use Rattle.dispatch.proofs.picks.Round.+walk.Goals as goal

pub overflow_sub-left : goal.overflow_sub-left
overflow_sub-left t c = choice_left _ _ _ _ _ (sym c.in-Some.ensures.chosen)
