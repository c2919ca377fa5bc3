-- What specs/Promises.antt says of demand 3 holds: an accepted plan fits, and for a plan value that fits it is the crate `partitions` that says why. Assumes
-- nothing.
use lib.ListN.{get_or}
use Rattle.rules.specs.Fit.{Fit}
use Rattle.reader.proofs.Kept.{hands_out_fit}
use Rattle.dispatch.specs.declared.Setting.TheVariants.{Off}
use Rattle.partitions.specs.Case.{Case}
use Rattle.partitions.proofs.Kept.{served, soft_served, never_served_more, never_charged_more}
use Rattle.guarantee.specs.Promises.{Accepted, Guarantee, SoftGuarantee, NeverMore, NeverCharged}

-- an accepted plan fits
accepted_fit : (c : Case) → Accepted c → Fit c.plan
accepted_fit c a = rw a.value at (hands_out_fit c.bytes a.answer)

-- a hard partition receives what it asked for in each of its windows inside the run
pub guarantee_kept : Guarantee
guarantee_kept c a = served c (accepted_fit c a)

-- and a soft one has at most D windows short in each of its stretches inside the run
pub soft_guarantee : SoftGuarantee
soft_guarantee c a = soft_served c (accepted_fit c a)

-- no partition is granted more than its served number in the part of a served period that lies inside the run, whole or not
pub never_more : NeverMore
never_more c a = never_served_more c (accepted_fit c a)

-- and no node is charged more
pub never_charged : NeverCharged
never_charged c a from i l b n part inside =
    never_charged_more c.plan (accepted_fit c a) (λ k. get_or c.settings k Off) (λ k. get_or c.supplies k 0) (λ k. get_or c.declines k 0) i b n l part
