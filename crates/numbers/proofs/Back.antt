-- Reading back what was laid out: pairs, parents and nodes, and where they stand among the numbers of a plan. Assumes nothing.
use Prim.Native.Nat.{ℕ, ◌+◌, ◌*◌, ◌≤◌, ◌<◌}
use mathlib.Core.Bool.{true}
use mathlib.Core.List.{List, [], ◌∷◌, ◌++◌}
use mathlib.Core.Path.{◌≡◌, refl}
use native.Mathlib.Omega.{arith}
use lib.ListN.{length, get_or}
use borrow.Author.Tests.{le-leb}
use Rattle.meaning.specs.declared.SlotType.{SlotType}
use Rattle.meaning.specs.declared.Misses.{Misses}
use Rattle.plans.specs.Plan.{zero_type, zero_node}
use Rattle.plans.specs.declared.Parent.{Parent}
use Rattle.plans.specs.declared.Parent.TheVariants.{Supply, Node as Under}
use Rattle.plans.specs.declared.Node.{Node}
use Rattle.plans.specs.declared.Plan.{Plan}
use Rattle.fields.specs.Fields.{byte_at}
use Rattle.decode.specs.Decode.{parent_of_byte}
use Rattle.layout.specs.Layout.{kind_byte, parent_byte, lays}
use Rattle.layout.proofs.Holds.{Holds, holds_self, holds_left, holds_right, holds_at, lays_part}
use Rattle.layout.proofs.Numbers.{byte_read, rest_held}
use Rattle.layout.proofs.Nodes.{kind_named_lem, byte_supply, byte_node}
use Rattle.layout.proofs.Back.{kind_small}
use Rattle.numbers.specs.Numbers.{
  type_numbers,
  misses_numbers,
  node_numbers,
  type_part,
  node_part,
  plan_numbers,
  supply_place,
  node_place,
  type_from,
  misses_from,
  node_from,
  is_pair,
  is_node,
}
use Rattle.numbers.specs.Promises.{Nameable, Short}
use Rattle.numbers.proofs.Laid.{types_length, nodes_length}

-- a number that is held first stands there
module _ (s : List ℕ) (k : ℕ) where
  number_read : (b : ℕ) (x : List ℕ) → Holds s k (b ∷ x) → get_or s k 0 ≡ b
  unfolding byte_at
  number_read b x h = byte_read s k b x h

-- a pair of numbers
module _ (s : List ℕ) (k x y : ℕ) (h : Holds s k (x ∷ y ∷ [])) where
  first_read : get_or s k 0 ≡ x
  first_read = number_read s k _ _ h

  second_read : get_or s (k + 1) 0 ≡ y
  second_read = number_read s (k + 1) _ _ (rest_held s k _ _ h)

  -- of 16 bits they are found to be one
  pub pair_fit : Short x y → is_pair s k ≡ true
  unfolding is_pair
  pair_fit small = rw (first_read, second_read, le-leb x 65535 (omega (arith, small.first)), le-leb y 65535 (omega (arith, small.second)))

-- a type that is held is read back,
pub type_back : (s : List ℕ) (k : ℕ) (a : SlotType) → Holds s k (type_numbers a) → type_from s k ≡ a
unfolding type_from type_numbers
type_back s k a h = rw (first_read s k a.c a.t h, second_read s k a.c a.t h)

-- and so are misses
pub misses_back : (s : List ℕ) (k : ℕ) (m : Misses) → Holds s k (misses_numbers m) → misses_from s k ≡ m
unfolding misses_from misses_numbers
misses_back s k m h = rw (first_read s k m.d m.w h, second_read s k m.d m.w h)

-- their numbers are within their fields
pub type_fit : (s : List ℕ) (k : ℕ) (a : SlotType) → Holds s k (type_numbers a) → Short a.c a.t → is_pair s k ≡ true
unfolding type_numbers
type_fit s k a = pair_fit s k a.c a.t

pub misses_fit : (s : List ℕ) (k : ℕ) (m : Misses) → Holds s k (misses_numbers m) → Short m.d m.w → is_pair s k ≡ true
unfolding misses_numbers
misses_fit s k m = pair_fit s k m.d m.w

-- a parent
pub parent_back : (x : Parent) → Nameable x → parent_of_byte (parent_byte x) ≡ x
parent_back (Supply s) h = byte_supply s h
parent_back (Under n) h = byte_node n

parent_small : (x : Parent) → Nameable x → parent_byte x ≤ 255
unfolding parent_byte
parent_small (Supply s) h = omega arith
parent_small (Under n) h = omega arith

-- a node
module _ (s : List ℕ) (k : ℕ) (n : Node) (h : Holds s k (node_numbers n)) where
  kind_read : get_or s k 0 ≡ kind_byte n.kind
  unfolding node_numbers
  kind_read = number_read s k _ _ h

  parent_read : get_or s (k + 1) 0 ≡ parent_byte n.parent
  unfolding node_numbers
  parent_read = number_read s (k + 1) _ _ (rest_held s k _ _ h)

  pairs_held : Holds s (k + 2) (type_numbers n.wanted ++ (misses_numbers n.misses ++ type_numbers n.served))
  unfolding node_numbers
  pairs_held = holds_at s (k + 1 + 1) (k + 2) _ (omega arith) (rest_held s (k + 1) _ _ (rest_held s k _ _ h))

  wanted_held : Holds s (k + 2) (type_numbers n.wanted)
  wanted_held = holds_left s (k + 2) (type_numbers n.wanted) _ pairs_held

  last_held : Holds s (k + 4) (misses_numbers n.misses ++ type_numbers n.served)
  unfolding type_numbers
  last_held = holds_at s (k + 2 + 2) (k + 4) _ (omega arith) (holds_right s (k + 2) (type_numbers n.wanted) _ pairs_held)

  misses_held : Holds s (k + 4) (misses_numbers n.misses)
  misses_held = holds_left s (k + 4) (misses_numbers n.misses) (type_numbers n.served) last_held

  served_held : Holds s (k + 6) (type_numbers n.served)
  unfolding misses_numbers
  served_held =
      holds_at s (k + 4 + 2) (k + 6) _ (omega arith) (holds_right s (k + 4) (misses_numbers n.misses) (type_numbers n.served) last_held)

  -- a node that is held, whose parent can be named, is read back
  pub node_back : Nameable n.parent → node_from s k ≡ n
  unfolding node_from
  node_back named =
      rw (
        kind_read,
        kind_named_lem n.kind,
        parent_read,
        parent_back n.parent named,
        type_back s (k + 2) n.wanted wanted_held,
        misses_back s (k + 4) n.misses misses_held,
        type_back s (k + 6) n.served served_held,
      )

  -- and its numbers are within their fields
  pub node_fit : Nameable n.parent → Short n.wanted.c n.wanted.t → Short n.misses.d n.misses.w →
      Short n.served.c n.served.t → is_node s k ≡ true
  unfolding is_node
  node_fit named wanted misses served =
      rw (
        kind_read,
        parent_read,
        le-leb (kind_byte n.kind) 2 (kind_small n.kind),
        le-leb (parent_byte n.parent) 255 (parent_small n.parent named),
        type_fit s (k + 2) n.wanted wanted_held wanted,
        misses_fit s (k + 4) n.misses misses_held misses,
        type_fit s (k + 6) n.served served_held served,
      )

-- the parts of a plan among its numbers
module _ (plan : Plan) where
  after_head : Holds (plan_numbers plan) 4 (lays (type_part plan.supplies) 8 ++ ((plan.size ∷ []) ++ lays (node_part plan.nodes) 64))
  unfolding plan_numbers
  after_head = holds_right _ 0 (plan.edition ∷ plan.tick.p ∷ plan.tick.q ∷ plan.cores ∷ []) _ (holds_self _)

  after_supplies : Holds (plan_numbers plan) 20 ((plan.size ∷ []) ++ lays (node_part plan.nodes) 64)
  after_supplies =
      holds_at _ (4 + length (lays (type_part plan.supplies) 8)) 20 _ (omega (arith, types_length plan.supplies 8))
      (holds_right _ 4 (lays (type_part plan.supplies) 8) _ after_head)

  -- the edition, P, Q and the counts stand at their places
  pub edition_read : get_or (plan_numbers plan) 0 0 ≡ plan.edition
  unfolding plan_numbers
  edition_read = refl

  pub p_read : get_or (plan_numbers plan) 1 0 ≡ plan.tick.p
  unfolding plan_numbers
  p_read = refl

  pub q_read : get_or (plan_numbers plan) 2 0 ≡ plan.tick.q
  unfolding plan_numbers
  q_read = refl

  pub cores_read : get_or (plan_numbers plan) 3 0 ≡ plan.cores
  unfolding plan_numbers
  cores_read = refl

  pub size_read : get_or (plan_numbers plan) 20 0 ≡ plan.size
  size_read = number_read (plan_numbers plan) 20 _ _ after_supplies

  -- supply i is held at its place
  pub supply_held : (i : ℕ) → i < 8 → Holds (plan_numbers plan) (supply_place i) (type_numbers (get_or plan.supplies i zero_type))
  unfolding type_part supply_place
  supply_held i l =
      holds_at _ (4 + length (lays (type_part plan.supplies) i)) (4 + 2 * i) _ (omega (arith, types_length plan.supplies i))
      (lays_part (type_part plan.supplies) _ 4 8 i l (holds_left _ 4 (lays (type_part plan.supplies) 8) _ after_head))

  -- and so is node i
  pub node_held : (i : ℕ) → i < 64 → Holds (plan_numbers plan) (node_place i) (node_numbers (get_or plan.nodes i zero_node))
  unfolding node_part node_place
  node_held i l =
      holds_at _ (21 + length (lays (node_part plan.nodes) i)) (21 + 8 * i) _ (omega (arith, nodes_length plan.nodes i))
      (lays_part (node_part plan.nodes) _ 21 64 i l (holds_right _ 20 (plan.size ∷ []) _ after_supplies))
