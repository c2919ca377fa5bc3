-- A word that has seen every node behind node i tells whether somebody takes the slot under it. Assumes nothing.
use native.Mathlib.Omega.{arith}
use Rattle.dispatch.proofs.Refusals.{fits_sound}
use Rattle.dispatch.proofs.Takers.{seen_none, seen_more, seen_all}
use Rattle.dispatch.proofs.hosts.takers.Goals as goal

pub loop-i-init : goal.loop-i-init
loop-i-init c = seen_none _ _ _

pub loop-i-preserved : goal.loop-i-preserved
loop-i-preserved c = seen_more _ _ _ (fits_sound _ c.args.plan.fit) _ _ _ c.loop-i.invariant (omega arith) (omega arith) _ c.with_node-takers.ensures

pub returns : goal.returns
returns c = seen_all _ _ _ (fits_sound _ c.args.plan.fit) _ _ c.loop-i.invariant (omega arith)
