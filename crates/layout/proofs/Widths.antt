-- How many bytes the parts of a plan file take, and how many more in edition 2. Assumes nothing.
use Prim.Native.Nat.{ℕ, zero, suc, ◌+◌, ◌*◌}
use mathlib.Core.Bool.{Bool, true, false, cond}
use mathlib.Core.List.{List, [], ◌∷◌}
use mathlib.Core.Path.{◌≡◌, refl, ap, ◌∙◌}
use native.Mathlib.Omega.{arith}
use lib.Dec.{eqb}
use lib.ListN.{length, get_or, replicate, length-append}
use Rattle.meaning.specs.declared.Misses.{Misses}
use Rattle.plans.specs.Plan.{node_at}
use Rattle.plans.specs.declared.Node.{Node}
use Rattle.plans.specs.declared.Plan.{Plan}
use Rattle.fields.specs.Fields.{byte_at}
use Rattle.decode.specs.Positions.{edition_of, further}
use Rattle.decode.proofs.Editions.{further_most, further_sum, further_alike}
use Rattle.layout.specs.Layout.{two_bytes, type_bytes, misses_bytes, node_bytes, spare_bytes, lays, supply_part, node_part}
use Rattle.layout.proofs.Holds.{lays_end, lays_length}

-- so many bytes more in edition 2: how much further on bytes that begin with the edition have their parts
abbrev pub more : ℕ → ℕ → ℕ
more edition n = further (edition ∷ []) n

pub further_more : (s : List ℕ) (edition n : ℕ) → edition_of s ≡ edition → further s n ≡ more edition n
unfolding edition_of byte_at
further_more s edition n e = further_alike s (edition ∷ []) n e

-- bytes that are there in edition 2 alone
there_length : (b : Bool) (x : List ℕ) → length (cond b x []) ≡ cond b (length x) 0
there_length true x = refl
there_length false x = refl

there_zero : (b : Bool) (x : List ℕ) (j : ℕ) → get_or x j 0 ≡ 0 → get_or (cond b x []) j 0 ≡ 0
there_zero true x j h = h
there_zero false x j h = refl

zeros : (n j : ℕ) → get_or {A = ℕ} (replicate n 0) j 0 ≡ 0
zeros zero j = refl
zeros (suc n) zero = refl
zeros (suc n) (suc j) = zeros n j

module _ (edition : ℕ) where
  -- there are eight spare bytes
  pub spare_length : length (spare_bytes edition) ≡ more edition 8
  unfolding spare_bytes further edition_of byte_at
  spare_length = there_length (eqb edition 2) _

  -- and each is 0
  pub spare_zero : (j : ℕ) → get_or (spare_bytes edition) j 0 ≡ 0
  unfolding spare_bytes
  spare_zero j = there_zero (eqb edition 2) _ j (zeros 8 j)

  -- misses take four bytes,
  pub misses_length : (m : Misses) → length (misses_bytes edition m) ≡ more edition 4
  unfolding misses_bytes two_bytes further edition_of byte_at
  misses_length m = there_length (eqb edition 2) _

  -- and a node ten besides
  pub node_length : (n : Node) → length (node_bytes edition n) ≡ 10 + more edition 4
  unfolding node_bytes type_bytes two_bytes
  node_length n = simp length-append (omega (arith, misses_length n.misses))

-- the supplies take four bytes each
pub supplies_length : (plan : Plan) (n : ℕ) → length (lays (supply_part plan) n) ≡ 4 * n
unfolding supply_part type_bytes two_bytes
supplies_length plan n = lays_length (supply_part plan) 4 (λ i. refl) n

-- and the nodes ten, and four more
pub nodes_length : (plan : Plan) (n : ℕ) → length (lays (node_part plan) n) ≡ 10 * n + more plan.edition (4 * n)
unfolding node_part
nodes_length plan n =
    let e = plan.edition in
    let step : (i : ℕ) → more e (4 * suc i) ≡ more e (4 * i) + more e 4 =
    λ i. ap (more e) (omega arith) ∙ further_sum (e ∷ []) (4 * i) 4 in
    let ends =
    lays_end (node_part plan) (λ i. 10 * i + more e (4 * i)) n (λ i l. omega (arith, step i, node_length e (node_at plan i))) in
    omega (arith, ends, further_most (e ∷ []) 0)
