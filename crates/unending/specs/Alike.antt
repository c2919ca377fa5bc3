-- Misses and editions are no part of giving out slots: document 02, request 6. Two plan values that differ in nothing else, and fit, give the same slots, so a
-- leaf's misses cost nobody a slot, and a plan has the slots of edition 1 in edition 2. Why it holds is in proofs/. Assumes nothing.
use Rattle.std.specs.Prelude.{ℕ, List, ◌≡◌}
use Rattle.plans.specs.Plan.{supply_at, kind_of, parent_of, wanted_of, served_of}
use Rattle.plans.specs.declared.Plan.{Plan}
use Rattle.rules.specs.Fit.{Fit}
use Rattle.dispatch.specs.Run.{Standing, started, ran, out_after, stepped}
use Rattle.dispatch.specs.declared.Setting.{Setting}

-- two plan values that agree in everything but the edition and the nodes' misses
pub record ButMisses (a b : Plan) : Type 0 where
  pub tick : a.tick ≡ b.tick
  pub cores : a.cores ≡ b.cores
  pub supplies : (s : ℕ) → supply_at a s ≡ supply_at b s
  pub size : a.size ≡ b.size
  pub kinds : (i : ℕ) → kind_of a i ≡ kind_of b i
  pub parents : (i : ℕ) → parent_of a i ≡ parent_of b i
  pub wanted : (i : ℕ) → wanted_of a i ≡ wanted_of b i
  pub served : (i : ℕ) → served_of a i ≡ served_of b i

-- what they give from the same inputs: the same fresh start, and by the same run or step from the same state the same outcome, state and buffer
pub record SameSlots (a b : Plan) : Type 0 where
  pub fresh : started a ≡ started b
  pub runs : (setting : Setting) (state : Standing) (supplies declines : List ℕ) (room : ℕ) →
      ran setting a state supplies declines room ≡ ran setting b state supplies declines room
  pub buffers : (setting : Setting) (state : Standing) (supplies declines out : List ℕ) →
      out_after setting a state supplies declines out ≡ out_after setting b state supplies declines out
  pub steps : (setting : Setting) (state : Standing) (supplied declines : ℕ) →
      stepped setting a state supplied declines ≡ stepped setting b state supplied declines

abbrev pub SlotsAlike : Type 0
SlotsAlike = (a b : Plan) → ButMisses a b → Fit a → Fit b → SameSlots a b
