-- One law a return. Assumes nothing.
use mathlib.Core.Path.{sym, ap, ◌∙◌}
use Rattle.dispatch.proofs.Refusals.{fits_sound}
use Rattle.dispatch.proofs.Takers.{none_added, supply_added, host_added, host_place}
use Rattle.dispatch.proofs.picks.Round.with_node.Goals as goal

pub returns-in_default : goal.returns-in_default
returns-in_default c = supply_added _ _ _ _ _ (λ h e. c.in_default.not-Node h (ap (λ n. n.parent) c.node_at.ensures ∙ e))

pub overflow_shl-result : goal.overflow_shl-result
overflow_shl-result c = host_place _ (fits_sound _ c.args.self.now.plan.fit) _ c.requires _ (sym (ap (λ n. n.parent) c.node_at.ensures) ∙ c.in-Node.is)

pub returns-then-takes : goal.returns-then-takes
returns-then-takes c =
    let up = sym (ap (λ n. n.parent) c.node_at.ensures) ∙ c.in-Node.is in
    host_added _ _ _ _ _ (sym c.takes.ensures ∙ c.if-takes.true) _ up (host_place _ (fits_sound _ c.args.self.now.plan.fit) _ c.requires _ up)

pub returns-else-takes : goal.returns-else-takes
returns-else-takes c = none_added _ _ _ _ _ (sym c.takes.ensures ∙ c.if-takes.false)
