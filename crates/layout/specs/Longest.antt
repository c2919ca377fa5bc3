-- A plan file of the greatest length, in each edition: eight supplies, 64 nodes and names of 32 bytes. Document 01: "The longest plan has 2,796 bytes", and
-- 264 more in edition 2. Assumes nothing.
use Rattle.std.specs.Prelude.{ℕ, ◌+◌, List, [], ◌∷◌, ◌≡◌, length, replicate}
use Rattle.meaning.specs.declared.SlotType.{SlotType}
use Rattle.answers.specs.Answers.{accepted, said}
use Rattle.plans.specs.Plan.{no_misses}
use Rattle.plans.specs.declared.NodeKind.TheVariants.{AlignedLeaf}
use Rattle.plans.specs.declared.Parent.TheVariants.{Supply}
use Rattle.plans.specs.declared.Node.{Node}
use Rattle.plans.specs.declared.Plan.{Plan}
use Rattle.decode.specs.Decode.{filled}
use Rattle.reader.specs.Read.{read_plan}
use Rattle.layout.specs.Layout.{plan_bytes}
use Rattle.layout.specs.Promises.{Bytes}

-- every slot, in periods of 64; and one slot in 64
abbrev pub every : SlotType
every = record { c = 64; t = 64 }

abbrev pub once : SlotType
once = record { c = 1; t = 64 }

-- a leaf under the first supply that wants one slot in 64, and is served just that
abbrev pub leaf : Node
leaf = record { kind = AlignedLeaf; parent = Supply 0; wanted = once; misses = no_misses; served = once }

unfoldable pub longest_plan : ℕ → Plan
longest_plan edition =
    record {
      edition = edition;
      tick = record { p = 1; q = 1 };
      cores = 8;
      supplies = replicate 8 every;
      size = 64;
      nodes = replicate 64 leaf;
    }

-- name i: its first byte is its own, and the other 31 are the letter a
unfoldable pub longest_name : ℕ → List ℕ
longest_name i = (33 + i) ∷ replicate 31 97

unfoldable pub longest_names : List (List ℕ)
longest_names = filled longest_name (replicate 64 []) 64

unfoldable pub longest_file : ℕ → List ℕ
longest_file edition = plan_bytes (longest_plan edition) longest_names

-- the file of that edition has so many bytes, and is accepted
abbrev pub Reaches : ℕ → ℕ → Type 0
Reaches edition n =
    Bytes (longest_file edition) × (length (longest_file edition) ≡ n) × (said (read_plan (longest_file edition)).answer ≡ accepted)

-- It has 2,796 bytes in edition 1, and 3,060 in edition 2.
abbrev pub LongestReached : Type 0
LongestReached = Reaches 1 2796 × Reaches 2 3060
