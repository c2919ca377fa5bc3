-- A plan value and its names, laid out as the bytes of a plan file: document 01, "The plan file", and document 02, request 6. Assumes nothing.
use Rattle.std.specs.Prelude.{ℕ, zero, suc, ◌/◌, ◌%◌, ◌≤◌, ◌<◌, cond, List, [], ◌∷◌, ◌++◌, ◌≡◌, eqb, length, get_or, replicate}
use Rattle.meaning.specs.declared.SlotType.{SlotType}
use Rattle.meaning.specs.declared.Misses.{Misses}
unfoldable pub use Rattle.plans.specs.Bytes.{kind_byte, parent_byte}
use Rattle.plans.specs.Plan.{There, supply_at, node_at}
use Rattle.plans.specs.declared.Node.{Node}
use Rattle.plans.specs.declared.Plan.{Plan}

-- 01: "Numbers are little-endian"
unfoldable pub two_bytes : ℕ → List ℕ
two_bytes n = n % 256 ∷ n / 256 % 256 ∷ []

unfoldable pub four_bytes : ℕ → List ℕ
four_bytes n = two_bytes (n % 65536) ++ two_bytes (n / 65536)

unfoldable pub type_bytes : SlotType → List ℕ
type_bytes a = two_bytes a.c ++ two_bytes a.t

-- 02: "In edition 2 .. every node carries D and W (two bytes each, ..) after its wanted type"
unfoldable pub misses_bytes : ℕ → Misses → List ℕ
misses_bytes edition m = cond (eqb edition 2) (two_bytes m.d ++ two_bytes m.w) []

-- 01: "kind .., parent, wanted C and T, served C and T", the numbers of a kind and a parent as in the crate `plans`
unfoldable pub node_bytes : ℕ → Node → List ℕ
node_bytes edition n =
    kind_byte n.kind ∷ parent_byte n.parent ∷ (type_bytes n.wanted ++ (misses_bytes edition n.misses ++ type_bytes n.served))

-- 01: "a length byte .., then that many bytes"
unfoldable pub name_bytes : List ℕ → List ℕ
name_bytes name = length name ∷ name

-- f 0, .., f (n − 1), one after the other
unfoldable pub lays : (ℕ → List ℕ) → ℕ → List ℕ
lays f zero = []
lays f (suc n) = lays f n ++ f n

unfoldable pub supply_part : Plan → ℕ → List ℕ
supply_part plan i = type_bytes (supply_at plan i)

unfoldable pub node_part : Plan → ℕ → List ℕ
node_part plan i = node_bytes plan.edition (node_at plan i)

unfoldable pub name_part : List (List ℕ) → ℕ → List ℕ
name_part names i = name_bytes (get_or names i [])

-- 02: "In edition 2 the tick count is 2, its second record is eight zero bytes"
unfoldable pub spare_bytes : ℕ → List ℕ
spare_bytes edition = cond (eqb edition 2) (replicate 8 0) []

-- 01: "Four sections in this order, each after a one-byte count": the tick, whose count is the edition, supplies, nodes, names
unfoldable pub tick_bytes : Plan → List ℕ
tick_bytes plan = plan.edition ∷ (four_bytes plan.tick.p ++ (four_bytes plan.tick.q ++ spare_bytes plan.edition))

unfoldable pub supplies_bytes : Plan → List ℕ
supplies_bytes plan = plan.cores ∷ lays (supply_part plan) plan.cores

unfoldable pub nodes_bytes : Plan → List ℕ
nodes_bytes plan = plan.size ∷ lays (node_part plan) plan.size

unfoldable pub names_bytes : Plan → List (List ℕ) → List ℕ
names_bytes plan names = plan.size ∷ lays (name_part names) plan.size

unfoldable pub plan_bytes : Plan → List (List ℕ) → List ℕ
plan_bytes plan names = tick_bytes plan ++ (supplies_bytes plan ++ (nodes_bytes plan ++ names_bytes plan names))

-- 01: "a length byte 1 to 32, then that many bytes, each 33 to 126. No name occurs twice"
pub record SoundNames (plan : Plan) (names : List (List ℕ)) : Type 0 where
  pub count : length names ≡ plan.size
  pub some : (i : ℕ) → There plan i → 1 ≤ length (get_or names i [])
  pub short : (i : ℕ) → There plan i → length (get_or names i []) ≤ 32
  pub letters : (i k : ℕ) → There plan i → k < length (get_or names i []) →
      (33 ≤ get_or (get_or names i []) k 0) × (get_or (get_or names i []) k 0 ≤ 126)
  pub distinct : (i j : ℕ) → There plan i → There plan j → get_or names i [] ≡ get_or names j [] → i ≡ j
