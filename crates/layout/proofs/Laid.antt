-- The file of a plan value section by section: where each part of `plan_bytes` is held. Assumes nothing.
use Prim.Native.Nat.{ℕ, ◌+◌, ◌*◌}
use mathlib.Core.List.{List, [], ◌∷◌, ◌++◌}
use mathlib.Core.Path.{◌≡◌}
use native.Mathlib.Omega.{arith}
use lib.ListN.{length, length-append}
use Rattle.plans.specs.declared.Plan.{Plan}
use Rattle.layout.specs.Layout.{two_bytes, four_bytes, spare_bytes, lays, supply_part, node_part, name_part, tick_bytes, supplies_bytes, nodes_bytes, names_bytes, plan_bytes}
use Rattle.layout.proofs.Holds.{Holds, holds_left, holds_right, holds_join, holds_at}
use Rattle.layout.proofs.Widths.{more, spare_length, supplies_length, nodes_length}

-- where the supplies' count, the nodes' count, the names' count and the first name stand
abbrev pub cores_place : Plan → ℕ
cores_place plan = 9 + more plan.edition 8

abbrev pub size_place : Plan → ℕ
size_place plan = cores_place plan + 1 + 4 * plan.cores

abbrev pub count_place : Plan → ℕ
count_place plan = size_place plan + 1 + 10 * plan.size + more plan.edition (4 * plan.size)

abbrev pub names_place : Plan → ℕ
names_place plan = count_place plan + 1

-- the parts of a plan file, each at its place; something may follow
pub record Laid (s : List ℕ) (plan : Plan) (names : List (List ℕ)) : Type 0 where
  pub edition : Holds s 0 (plan.edition ∷ [])
  pub p : Holds s 1 (four_bytes plan.tick.p)
  pub q : Holds s 5 (four_bytes plan.tick.q)
  pub spare : Holds s 9 (spare_bytes plan.edition)
  pub cores : Holds s (cores_place plan) (plan.cores ∷ [])
  pub supplies : Holds s (cores_place plan + 1) (lays (supply_part plan) plan.cores)
  pub size : Holds s (size_place plan) (plan.size ∷ [])
  pub nodes : Holds s (size_place plan + 1) (lays (node_part plan) plan.size)
  pub count : Holds s (count_place plan) (plan.size ∷ [])
  pub named : Holds s (names_place plan) (lays (name_part names) plan.size)

-- the length of a plan file
pub plan_length : (plan : Plan) (names : List (List ℕ)) →
    length (plan_bytes plan names) ≡ names_place plan + length (lays (name_part names) plan.size)
unfolding plan_bytes tick_bytes supplies_bytes nodes_bytes names_bytes four_bytes two_bytes
plan_length plan names =
    simp length-append (omega (arith, spare_length plan.edition, supplies_length plan plan.cores, nodes_length plan plan.size))

module _ (s : List ℕ) (plan : Plan) (names : List (List ℕ)) where
  -- bytes that hold each part at its place begin with the file
  pub laid_held : Laid s plan names → Holds s 0 (plan_bytes plan names)
  unfolding plan_bytes tick_bytes supplies_bytes nodes_bytes names_bytes four_bytes two_bytes
  laid_held h =
      let head = tick_bytes plan in
      let supplies = supplies_bytes plan in
      let nodes = nodes_bytes plan in
      let tail = names_bytes plan names in
      let fourth : Holds s (count_place plan) tail =
      holds_join s (count_place plan) (plan.size ∷ []) _ h.count h.named in
      let third : Holds s (size_place plan) (nodes ++ tail) =
      holds_join s (size_place plan) nodes tail (holds_join s (size_place plan) (plan.size ∷ []) _ h.size h.nodes)
      (holds_at s _ _ tail (omega (arith, nodes_length plan plan.size)) fourth) in
      let second : Holds s (cores_place plan) (supplies ++ (nodes ++ tail)) =
      holds_join s (cores_place plan) supplies (nodes ++ tail) (holds_join s (cores_place plan) (plan.cores ∷ []) _ h.cores h.supplies)
      (holds_at s _ _ (nodes ++ tail) (omega (arith, supplies_length plan plan.cores)) third) in
      let first : Holds s 0 head =
      holds_join s 0 (plan.edition ∷ []) _ h.edition (holds_join s 1 _ _ h.p (holds_join s 5 _ _ h.q h.spare)) in
      holds_join s 0 head (supplies ++ (nodes ++ tail)) first
      (holds_at s _ _ (supplies ++ (nodes ++ tail)) (omega (arith, spare_length plan.edition)) second)

  -- and bytes that begin with the file hold each part at its place
  pub held_laid : Holds s 0 (plan_bytes plan names) → Laid s plan names
  unfolding plan_bytes tick_bytes supplies_bytes nodes_bytes names_bytes four_bytes two_bytes
  held_laid whole =
      let head = tick_bytes plan in
      let supplies = supplies_bytes plan in
      let nodes = nodes_bytes plan in
      let tail = names_bytes plan names in
      let first = holds_left s 0 head (supplies ++ (nodes ++ tail)) whole in
      let p = four_bytes plan.tick.p in
      let q = four_bytes plan.tick.q in
      let spare = spare_bytes plan.edition in
      let tick = holds_right s 0 (plan.edition ∷ []) (p ++ (q ++ spare)) first in
      let after-p = holds_right s 1 p (q ++ spare) tick in
      let rest : Holds s (cores_place plan) (supplies ++ (nodes ++ tail)) =
      holds_at s _ _ (supplies ++ (nodes ++ tail)) (omega (arith, spare_length plan.edition))
      (holds_right s 0 head (supplies ++ (nodes ++ tail)) whole) in
      let second = holds_left s (cores_place plan) supplies (nodes ++ tail) rest in
      let later : Holds s (size_place plan) (nodes ++ tail) =
      holds_at s _ _ (nodes ++ tail) (omega (arith, supplies_length plan plan.cores))
      (holds_right s (cores_place plan) supplies (nodes ++ tail) rest) in
      let third = holds_left s (size_place plan) nodes tail later in
      let fourth : Holds s (count_place plan) tail =
      holds_at s _ _ tail (omega (arith, nodes_length plan plan.size)) (holds_right s (size_place plan) nodes tail later) in
      record {
        edition = holds_left s 0 (plan.edition ∷ []) _ first;
        p = holds_left s 1 p (q ++ spare) tick;
        q = holds_left s 5 q spare after-p;
        spare = holds_right s 5 q spare after-p;
        cores = holds_left s (cores_place plan) (plan.cores ∷ []) _ second;
        supplies = holds_right s (cores_place plan) (plan.cores ∷ []) _ second;
        size = holds_left s (size_place plan) (plan.size ∷ []) _ third;
        nodes = holds_right s (size_place plan) (plan.size ∷ []) _ third;
        count = holds_left s (count_place plan) (plan.size ∷ []) _ fourth;
        named = holds_right s (count_place plan) (plan.size ∷ []) _ fourth;
      }
