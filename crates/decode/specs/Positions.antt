-- Where the parts of a plan file stand, as its own counts say: document 01, "The plan file", and document 02, request 6. Assumes nothing.
use Rattle.std.specs.Prelude.{ℕ, zero, suc, ◌+◌, ◌*◌, cond, List, eqb}
use Rattle.fields.specs.Fields.{byte_at}

-- 02: the tick's count is the edition, "In edition 2 the tick count is 2"
unfoldable pub edition_of : List ℕ → ℕ
edition_of s = byte_at s 0

-- 02: so many bytes more in edition 2
unfoldable pub further : List ℕ → ℕ → ℕ
further s n = cond (eqb (edition_of s) 2) n 0

-- 01: "Four sections in this order, each after a one-byte count": the tick's count and its eight bytes (02: "its second record is eight zero bytes"), and
-- then the supplies, four bytes each
unfoldable pub cores_at : List ℕ → ℕ
cores_at s = 9 + further s 8

unfoldable pub cores_of : List ℕ → ℕ
cores_of s = byte_at s (cores_at s)

unfoldable pub supply_start : List ℕ → ℕ → ℕ
supply_start s i = cores_at s + 1 + 4 * i

-- the nodes, ten bytes each (02: "every node carries D and W (two bytes each, ..) after its wanted type")
unfoldable pub nodes_at : List ℕ → ℕ
nodes_at s = supply_start s (cores_of s)

unfoldable pub size_of : List ℕ → ℕ
size_of s = byte_at s (nodes_at s)

unfoldable pub node_start : List ℕ → ℕ → ℕ
node_start s i = nodes_at s + 1 + 10 * i + further s (4 * i)

-- the served type of node i
unfoldable pub served_at : List ℕ → ℕ → ℕ
served_at s i = node_start s i + 6 + further s 4

-- the names, "a length byte .. , then that many bytes"
unfoldable pub names_at : List ℕ → ℕ
names_at s = node_start s (size_of s)

unfoldable pub name_start : List ℕ → ℕ → ℕ
name_start s zero = names_at s + 1
name_start s (suc i) = name_start s i + 1 + byte_at s (name_start s i)

-- where the last name ends
unfoldable pub end_at : List ℕ → ℕ
end_at s = name_start s (size_of s)
