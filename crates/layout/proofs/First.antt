-- A value of edition 1 is laid out as document 01 has it. Assumes nothing.
use Prim.Native.Nat.{ℕ}
use mathlib.Core.Path.{◌≡◌}
use Rattle.plans.specs.declared.Plan.{Plan}
use Rattle.layout.specs.Layout.{two_bytes, four_bytes, misses_bytes, node_bytes, spare_bytes, lays, node_part, tick_bytes, nodes_bytes, plan_bytes}
use Rattle.layout.specs.Before.{node_part_before, plan_bytes_before, FirstEditionLaid}

module _ (plan : Plan) (one : plan.edition ≡ 1) where
  -- its nodes are
  node_before_lem : (i : ℕ) → node_part plan i ≡ node_part_before plan i
  unfolding node_part node_part_before node_bytes misses_bytes
  node_before_lem i = rw one

  nodes_before : (n : ℕ) → lays (node_part plan) n ≡ lays (node_part_before plan) n
  nodes_before n = λ j. lays (λ i. node_before_lem i j) n

-- and so is the whole
pub first_edition_laid : FirstEditionLaid
unfolding plan_bytes tick_bytes nodes_bytes plan_bytes_before spare_bytes four_bytes two_bytes
first_edition_laid plan names one = rw (nodes_before plan one plan.size, one)
