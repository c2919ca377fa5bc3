-- What is promised of soundness and of cores. Why each holds is in proofs/. Assumes nothing.
use Rattle.std.specs.Prelude.{ℕ, ◌<◌, true, ◌↔◌, ◌≡◌}
use Rattle.plans.specs.Plan.{There, supply_at, node_at}
use Rattle.plans.specs.Sound.{Sound, sound}
use Rattle.plans.specs.Cores.{OnCore, core_of}
use Rattle.plans.specs.declared.Plan.{Plan}

-- The test says yes exactly when the value keeps 2 to 7 and 19.
abbrev pub SoundExactly : Type 0
SoundExactly = (plan : Plan) → (sound plan ≡ true) ↔ Sound plan

-- two values that agree in everything but unused entries
pub record Agree (a b : Plan) : Type 0 where
  pub edition : a.edition ≡ b.edition
  pub tick : a.tick ≡ b.tick
  pub cores : a.cores ≡ b.cores
  pub size : a.size ≡ b.size
  pub supplies : (s : ℕ) → s < a.cores → supply_at a s ≡ supply_at b s
  pub nodes : (i : ℕ) → There a i → node_at a i ≡ node_at b i

-- 01: "unused entries of a plan value are zeros and ignored"
abbrev pub UnusedIgnored : Type 0
UnusedIgnored = (a b : Plan) → Agree a b → Sound a → Sound b

-- A node of a sound plan is on its own core, which is there, and on no other.
pub record ItsCore (plan : Plan) (i : ℕ) : Type 0 where
  pub on : OnCore plan i (core_of plan i)
  pub there : core_of plan i < plan.cores
  pub no_other : (s : ℕ) → OnCore plan i s → s ≡ core_of plan i

abbrev pub CoreExactly : Type 0
CoreExactly = (plan : Plan) → Sound plan → (i : ℕ) → There plan i → ItsCore plan i
