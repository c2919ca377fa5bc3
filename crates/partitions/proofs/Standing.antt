-- Rule 11 by its meaning, for nodes whose wanted type is aligned: a host, which is hard, and a soft leaf. Assumes nothing.
use Prim.Native.Nat.{ℕ}
use mathlib.Core.Bool.{true}
use mathlib.Core.Path.{◌≡◌}
use Rattle.meaning.specs.Types.{StandsIn}
use Rattle.meaning.specs.Soft.{StandsInSoft}
use Rattle.meaning.specs.declared.Kind.TheVariants.{Aligned}
use Rattle.plans.specs.Plan.{There, kind_of, wanted_of, misses_of, served_of, wanted_as, is_host, is_soft}
use Rattle.plans.specs.declared.Plan.{Plan}
use Rattle.plans.proofs.Entries.{host_hosting}
use Rattle.rules.specs.Fit.{Fit}
use Rattle.rules.proofs.KeptBefore.{hard_as_before}

module _ (plan : Plan) (fit : Fit plan) (i : ℕ) (there : There plan i) where
  -- a host's served type stands in for its wanted one, aligned
  pub host_stands : is_host plan i ≡ true → StandsIn Aligned (served_of plan i) Aligned (wanted_of plan i)
  unfolding wanted_as is_host is_soft
  host_stands host = rw (host_hosting (kind_of plan i) host) at (hard_as_before plan fit i there (rw host))

  -- and a soft leaf's for its soft one
  pub soft_stands : is_soft plan i ≡ true → StandsInSoft Aligned (served_of plan i) Aligned (wanted_of plan i) (misses_of plan i)
  unfolding wanted_as
  soft_stands soft = rw (fit.rule20 i there soft).aligned at (fit.rule11 i there)
