-- How a plan value is laid down, type by type and node by node. Assumes nothing.
use Prim.Native.Nat.{ℕ, ◌+◌, ◌*◌, ◌≤◌}
use mathlib.Core.List.{List, [], ◌∷◌, ◌++◌}
use mathlib.Core.Path.{◌≡◌, refl, sym, ap, ◌∙◌}
use native.Mathlib.Nat.{le_antisymm}
use native.Mathlib.Numerals.{add-one}
use native.Mathlib.Omega.{arith}
use lib.ListN.{length, replicate, set, get_or, length-append}
use lib.Seq.{sets}
use Rattle.meaning.specs.declared.SlotType.{SlotType}
use Rattle.plans.specs.Plan.{zero_type, zero_node, zero_plan}
use Rattle.plans.specs.declared.Node.{Node}
use Rattle.plans.specs.declared.Plan.{Plan}
use Rattle.layout.specs.Layout.{kind_byte, parent_byte, lays}
use Rattle.layout.proofs.Holds.{lays_length}
use Rattle.numbers.specs.Numbers.{type_numbers, misses_numbers, node_numbers, type_part, node_part, plan_numbers}
use Rattle.numbers.proofs.Stored.{sets_append, sets_all}

-- The loop that lays parts of width w down from k on, whose invariant is out ≡ sets l k (lays f i): one part more, and past the last.
module _ (f : ℕ → List ℕ) (w : ℕ) (each : (i : ℕ) → length (f i) ≡ w) (l : List ℕ) (k i : ℕ) (out : List ℕ) (e : out ≡ sets l k (lays f i)) where
  part_more : (next : List ℕ) → next ≡ sets out (k + w * i) (f i) → next ≡ sets l k (lays f (i + 1))
  unfolding lays
  part_more next h =
      rw (add-one i) (h ∙ rw (e, ← lays_length f w each i) (sym (sets_append l k (lays f i) (f i))))

-- past the last part
pub part_done : (f : ℕ → List ℕ) (l : List ℕ) (k n i : ℕ) (out : List ℕ) → out ≡ sets l k (lays f i) → i ≤ n → n ≤ i → out ≡ sets l k (lays f n)
part_done f l k n i out e below past = e ∙ ap (λ j. sets l k (lays f j)) (le_antisymm below past)

-- before the first part
pub part_none : (f : ℕ → List ℕ) (l : List ℕ) (k : ℕ) → l ≡ sets l k (lays f 0)
unfolding lays
part_none f l k = refl

module _ (l : List ℕ) (k i : ℕ) (out next vs : List ℕ) where
  -- one type more
  pub types_more : (types : List SlotType) → out ≡ sets l k (lays (type_part types) i) → vs ≡ type_numbers (get_or types i zero_type) →
      next ≡ sets out (k + 2 * i) vs → next ≡ sets l k (lays (type_part types) (i + 1))
  unfolding type_part type_numbers
  types_more types e is h = part_more (type_part types) 2 (λ j. refl) l k i out e next (h ∙ ap (λ x. sets out (k + 2 * i) x) is)

  -- one node more
  pub nodes_more : (nodes : List Node) → out ≡ sets l k (lays (node_part nodes) i) → vs ≡ node_numbers (get_or nodes i zero_node) →
      next ≡ sets out (k + 8 * i) vs → next ≡ sets l k (lays (node_part nodes) (i + 1))
  unfolding node_part node_numbers type_numbers misses_numbers
  nodes_more nodes e is h = part_more (node_part nodes) 8 (λ j. refl) l k i out e next (h ∙ ap (λ x. sets out (k + 8 * i) x) is)

-- types take two numbers each
pub types_length : (types : List SlotType) (n : ℕ) → length (lays (type_part types) n) ≡ 2 * n
unfolding type_part type_numbers
types_length types n = lays_length (type_part types) 2 (λ j. refl) n

-- and nodes eight
pub nodes_length : (nodes : List Node) (n : ℕ) → length (lays (node_part nodes) n) ≡ 8 * n
unfolding node_part node_numbers type_numbers misses_numbers
nodes_length nodes n = lays_length (node_part nodes) 8 (λ j. refl) n

-- a plan has 533 numbers
pub plan_length : (plan : Plan) → length (plan_numbers plan) ≡ 533
unfolding plan_numbers
plan_length plan =
    let types = lays (type_part plan.supplies) 8 in
    let nodes = lays (node_part plan.nodes) 64 in
    omega (arith, length-append types ((plan.size ∷ []) ++ nodes), types_length plan.supplies 8, nodes_length plan.nodes 64)

-- which are zeros for the plan value of zeros
pub zeros_laid : plan_numbers zero_plan ≡ replicate 533 0
unfolding plan_numbers zero_plan lays type_part node_part node_numbers type_numbers misses_numbers kind_byte parent_byte
zeros_laid = refl

-- four numbers, the supplies, one number and the nodes take up all 533
pub plan_laid_lem : (plan : Plan) (l : List ℕ) → length l ≡ 533 →
    (m : List ℕ) →
    m ≡ sets (set (set (set (set l 0 plan.edition) 1 plan.tick.p) 2 plan.tick.q) 3 plan.cores) 4 (lays (type_part plan.supplies) 8) →
    (r : List ℕ) → r ≡ sets (set m 20 plan.size) 21 (lays (node_part plan.nodes) 64) → r ≡ plan_numbers plan
unfolding plan_numbers
plan_laid_lem plan l whole m supplies r nodes =
    let head : List ℕ = plan.edition ∷ plan.tick.p ∷ plan.tick.q ∷ plan.cores ∷ [] in
    let types : List ℕ = lays (type_part plan.supplies) 8 in
    let tail : List ℕ = lays (node_part plan.nodes) 64 in
    nodes
    ∙ ap (λ x. sets (set x 20 plan.size) 21 tail) supplies
    ∙ sym (sets_append l 0 head (types ++ ((plan.size ∷ []) ++ tail))
    ∙ sets_append (sets l 0 head) 4 types ((plan.size ∷ []) ++ tail)
    ∙ ap (λ n. sets (sets (sets l 0 head) 4 types) (4 + n) ((plan.size ∷ []) ++ tail)) (types_length plan.supplies 8))
    ∙ sets_all l (plan_numbers plan) (plan_length plan ∙ sym whole)
