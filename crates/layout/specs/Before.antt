-- The plan file as document 01 has it, before document 02, request 6. It serves to say that edition 1 is laid out so, and nothing else. Assumes nothing.
use Rattle.std.specs.Prelude.{ℕ, List, ◌∷◌, ◌++◌, ◌≡◌}
use Rattle.plans.specs.Plan.{node_at}
use Rattle.plans.specs.declared.Plan.{Plan}
use Rattle.layout.specs.Layout.{four_bytes, type_bytes, kind_byte, parent_byte, lays, supplies_bytes, names_bytes, plan_bytes}

-- 01: "kind .., parent, wanted C and T, served C and T; ten bytes"
unfoldable pub node_part_before : Plan → ℕ → List ℕ
node_part_before plan i =
    let n = node_at plan i in
    kind_byte n.kind ∷ parent_byte n.parent ∷ (type_bytes n.wanted ++ type_bytes n.served)

-- 01: "Tick, count 1: P and Q, four bytes each"; supplies and names are as they were
unfoldable pub plan_bytes_before : Plan → List (List ℕ) → List ℕ
plan_bytes_before plan names =
    (1 ∷ (four_bytes plan.tick.p ++ four_bytes plan.tick.q)) ++
    (supplies_bytes plan ++ ((plan.size ∷ lays (node_part_before plan) plan.size) ++ names_bytes plan names))

-- A value of edition 1 is laid out as document 01 has it.
abbrev pub FirstEditionLaid : Type 0
FirstEditionLaid = (plan : Plan) (names : List (List ℕ)) → plan.edition ≡ 1 → plan_bytes plan names ≡ plan_bytes_before plan names
