-- Files of edition 1 are read as document 01's reader read them: everything stands where it stood. Assumes nothing.
use Prim.Native.Nat.{ℕ, zero, suc, ◌+◌, ◌*◌, ◌≤◌, min}
use mathlib.Core.Bool.{cond, or-false}
use mathlib.Core.List.{List}
use mathlib.Core.Logic.{◌⊎◌, inl, inr}
use mathlib.Core.Path.{◌≡◌, refl, ap, ◌∙◌}
use native.Mathlib.Omega.{arith}
use lib.Dec.{eqb}
use lib.ListN.{length, replicate, get_or-eq_default}
use borrow.Author.Tests.{le-leb, ne_eqb}
use Rattle.answers.specs.Answers.{Answer, Accepted, Refused, accepts, first, test}
use Rattle.answers.proofs.Laws.{first_alike, first_accepted_left, first_accepted_right, test_accepted, each_none, each_ext}
use Rattle.plans.specs.Plan.{zero_type, zero_node, zero_plan}
use Rattle.plans.specs.Sound.{is_edition}
use Rattle.plans.specs.declared.Plan.{Plan}
use Rattle.plans.proofs.All.{all_ext}
use Rattle.plans.proofs.Kept.{edition_one_of}
use Rattle.rules.specs.Check.{rules}
use Rattle.fields.specs.Fields.{byte_at, type_at, there, check_type}
use Rattle.decode.specs.Positions.{edition_of, cores_at, cores_of, supply_start, nodes_at, size_of, node_start, served_at, names_at, name_start, end_at}
use Rattle.decode.specs.Decode.{supply_of, node_of, plan_of}
use Rattle.decode.proofs.Editions.{further_other, misses_not}
use Rattle.decode.proofs.Filled.{filled_ext}
use Rattle.names.specs.Names.{differs, is_new, check_name, check_names}
use Rattle.reader.specs.Read.{check_part, check_spare, check_tick, check_supply, check_supplies, check_parent, check_node, check_nodes, check_end, check_bytes}
use Rattle.reader.specs.Read.{read_answer, read_plan, has_name, name_of}
use Rattle.reader.specs.Before.{cores_before, supply_start_before, nodes_at_before, size_before, node_start_before, names_at_before, name_start_before, end_before}
use Rattle.reader.specs.Before.{supply_before, node_before, plan_before, check_tick_before, check_supply_before, check_supplies_before, check_parent_before}
use Rattle.reader.specs.Before.{check_node_before, check_nodes_before, differs_before, check_name_before, check_names_before, check_end_before, answer_before}
use Rattle.reader.specs.Before.{read_before, name_before}
use Rattle.reader.specs.Promises.{FirstEditionAlike, OldReaderRefuses}
use Rattle.reader.proofs.Checks.{no_misses_lem}

-- a check that asks for nothing more is the answer before it
first_last : (a : Answer) → first a Accepted ≡ a
unfolding first
first_last Accepted = refl
first_last (Refused r k) = refl

-- an edition that is not 2 passes where it is 1
other_edition : (n : ℕ) → (n ≡ 2 → ⊥) → is_edition n ≡ eqb n 1
unfolding is_edition
other_edition n h = rw (ne_eqb n 2 h) (or-false (eqb n 1))

-- what is handed out is the same where the values are that are accepted
handed_alike : (a : Answer) (p q : Plan) → (a ≡ Accepted → p ≡ q) → cond (accepts a) p zero_plan ≡ cond (accepts a) q zero_plan
unfolding accepts
handed_alike Accepted p q h = h refl
handed_alike (Refused r k) p q h = refl

module _ (s : List ℕ) (h : edition_of s ≡ 2 → ⊥) where
  -- everything stands where it stood: the supplies,
  cores_at_lem : cores_at s ≡ 9
  unfolding cores_at
  cores_at_lem = omega (arith, further_other s 8 h)

  cores_alike : cores_of s ≡ cores_before s
  unfolding cores_of cores_before
  cores_alike = ap (byte_at s) cores_at_lem

  supply_start_lem : (i : ℕ) → supply_start s i ≡ supply_start_before i
  unfolding supply_start supply_start_before
  supply_start_lem i = omega (arith, cores_at_lem)

  -- the nodes,
  nodes_at_lem : nodes_at s ≡ nodes_at_before s
  unfolding nodes_at nodes_at_before
  nodes_at_lem = supply_start_lem (cores_of s) ∙ ap supply_start_before cores_alike

  size_alike : size_of s ≡ size_before s
  unfolding size_of size_before
  size_alike = ap (byte_at s) nodes_at_lem

  node_start_lem : (i : ℕ) → node_start s i ≡ node_start_before s i
  unfolding node_start node_start_before
  node_start_lem i = omega (arith, nodes_at_lem, further_other s (4 * i) h)

  served_at_lem : (i : ℕ) → served_at s i ≡ node_start_before s i + 6
  unfolding served_at
  served_at_lem i = omega (arith, node_start_lem i, further_other s 4 h)

  -- and the names
  names_at_lem : names_at s ≡ names_at_before s
  unfolding names_at names_at_before
  names_at_lem = node_start_lem (size_of s) ∙ ap (node_start_before s) size_alike

  name_start_lem : (i : ℕ) → name_start s i ≡ name_start_before s i
  unfolding name_start name_start_before
  name_start_lem zero = rw names_at_lem
  name_start_lem (suc i) = rw (name_start_lem i)

  end_alike : end_at s ≡ end_before s
  unfolding end_at end_before
  end_alike = name_start_lem (size_of s) ∙ ap (name_start_before s) size_alike

  -- so the bytes spell what they spelt
  supply_alike : (i : ℕ) → supply_of s i ≡ supply_before s i
  unfolding supply_of supply_before
  supply_alike i = ap (type_at s) (supply_start_lem i)

  node_alike : (i : ℕ) → node_of s i ≡ node_before s i
  unfolding node_of node_before
  node_alike i = rw (served_at_lem i, node_start_lem i, ← misses_not s (edition_of s) (node_start_before s i + 6) refl h)

  plan_alike : edition_of s ≡ 1 → plan_of s ≡ plan_before s
  unfolding plan_of plan_before
  plan_alike e =
      rw (
        e,
        cores_alike,
        size_alike,
        filled_ext (supply_of s) (replicate 8 zero_type) (supply_before s) (min (cores_before s) 8) (λ i l. supply_alike i),
        filled_ext (node_of s) (replicate 64 zero_node) (node_before s) (min (size_before s) 64) (λ i l. node_alike i),
      )

  -- and are asked what they were asked: the tick,
  tick_alike : check_tick s ≡ check_tick_before s
  unfolding check_tick check_tick_before edition_of
  tick_alike = rw (other_edition (byte_at s 0) h, further_other s 8 h, each_none (check_spare s), first_last (check_part s 5))

  -- which only edition 1 passes,
  passes_one : check_tick s ≡ Accepted → edition_of s ≡ 1
  unfolding check_tick
  passes_one e =
      go (edition_one_of (edition_of s) (test_accepted _ 2 0 (first_accepted_left _ _ (first_accepted_right (there s 0 1) _ e))))
    where
      go : (edition_of s ≡ 1) ⊎ (edition_of s ≡ 2) → edition_of s ≡ 1
      go (inl one) = one
      go (inr two) = absurd (h two)

  -- the supplies,
  supplies_alike : check_supplies s ≡ check_supplies_before s
  unfolding check_supplies check_supply check_supplies_before check_supply_before
  supplies_alike =
      rw (
        cores_at_lem,
        cores_alike,
        each_ext (check_supply s) (check_supply_before s) (cores_before s) (λ i l. ap (check_type s) (supply_start_lem i)),
      )

  -- each node,
  node_checked : edition_of s ≡ 1 → (i : ℕ) → check_node s i ≡ check_node_before s i
  unfolding check_node check_node_before check_parent check_parent_before first
  node_checked e i =
      rw (served_at_lem i, node_start_lem i, plan_alike e, ← no_misses_lem s i (node_start_before s i + 6) (edition_of s) refl h)

  nodes_alike : edition_of s ≡ 1 → check_nodes s ≡ check_nodes_before s
  unfolding check_nodes check_nodes_before
  nodes_alike e =
      rw (nodes_at_lem, size_alike, each_ext (check_node s) (check_node_before s) (size_before s) (λ i l. node_checked e i))

  -- each name,
  differs_alike : (i j : ℕ) → differs s i j ≡ differs_before s i j
  unfolding differs differs_before
  differs_alike i j = rw (name_start_lem i, name_start_lem j)

  name_checked : (i : ℕ) → check_name s i ≡ check_name_before s i
  unfolding check_name check_name_before is_new
  name_checked i = rw (name_start_lem i, all_ext (differs s i) (differs_before s i) i (λ j l. differs_alike i j))

  names_alike : check_names s ≡ check_names_before s
  unfolding check_names check_names_before
  names_alike = rw (names_at_lem, size_alike, each_ext (check_name s) (check_name_before s) (size_before s) (λ i l. name_checked i))

  -- and what follows them
  ends_alike : check_end s ≡ check_end_before s
  unfolding check_end check_end_before
  ends_alike = rw end_alike

  answer_alike : read_answer s ≡ answer_before s
  unfolding read_answer check_bytes answer_before
  answer_alike =
      first_alike
      (first_alike tick_alike (λ a. rw (supplies_alike, nodes_alike (passes_one a), names_alike, ends_alike)))
      (λ a. ap rules (plan_alike (passes_one (first_accepted_left (check_tick s) _ a))))

  -- an accepted read has passed the tick, and so the value is the same
  value_alike : read_answer s ≡ Accepted → plan_of s ≡ plan_before s
  unfolding read_answer check_bytes
  value_alike a = plan_alike (passes_one (first_accepted_left (check_tick s) _ (first_accepted_left _ _ a)))

  reading_alike : read_plan s ≡ read_before s
  unfolding read_plan read_before
  reading_alike = rw (handed_alike (read_answer s) (plan_of s) (plan_before s) value_alike, answer_alike)

  named_alike : (i : ℕ) → name_of s i ≡ name_before s i
  unfolding has_name name_of name_before
  named_alike i = rw (answer_alike, size_alike, name_start_lem i)

-- files of edition 1 are read as they were
pub first_edition_alike : FirstEditionAlike
unfolding edition_of
first_edition_alike s h = record { reading = reading_alike s h; names = named_alike s h }

-- the old reader refuses a file of edition 2 by 2
pub old_reader_refuses : OldReaderRefuses
unfolding answer_before check_tick_before there first test byte_at
old_reader_refuses s e = rw (le-leb 1 (length s) (some (length s) refl), e)
  where
    some : (n : ℕ) → length s ≡ n → 1 ≤ n
    some zero l = absurd (let none : byte_at s 0 ≡ 0 = get_or-eq_default s 0 (omega arith) in omega arith)
    some (suc n) l = omega arith
