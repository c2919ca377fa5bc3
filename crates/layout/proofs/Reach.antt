-- How far into a file its parts reach, by what has been accepted of it; so the longest plan of edition 1 has 2,796 bytes, and that of edition 2
-- 3,060. Assumes nothing.
use Prim.Native.Nat.{ℕ, zero, suc, ◌+◌, ◌-◌, ◌*◌, ◌≤◌}
use mathlib.Core.Bool.{and-eq-true_iff}
use mathlib.Core.List.{List}
use mathlib.Core.Path.{◌≡◌, sym, ap, ◌∙◌}
use native.Mathlib.Omega.{arith}
use lib.Dec.{leb}
use lib.ListN.{length}
use borrow.Author.Tests.{leb-true}
use Rattle.answers.specs.Answers.{Accepted, test, each}
use Rattle.answers.proofs.Laws.{said_accepted, first_accepted_left, first_accepted_right, test_accepted, each_accepted}
use Rattle.rules.specs.Check.{rules}
use Rattle.decode.specs.Positions.{edition_of, further, cores_at, cores_of, supply_start, nodes_at, size_of, node_start, names_at, name_start, end_at}
use Rattle.decode.specs.Decode.{plan_of}
use Rattle.decode.proofs.Editions.{further_most, further_sum, further_other}
use Rattle.names.specs.Names.{is_length, check_name}
use Rattle.reader.specs.Read.{check_count, check_bytes, read_answer, read_plan}
use Rattle.reader.proofs.Accepts.{count_kept, name_kept, bytes_kept}
use Rattle.reader.proofs.Spelled.{eight_cores, sixty_four_nodes, accepted_plan}
use Rattle.layout.specs.Promises.{LongestPlan}

-- a name's length, where it is accepted, is at most 32
pub few_letters : (b k : ℕ) → test (is_length b) 8 k ≡ Accepted → b ≤ 32
unfolding is_length
few_letters b k e = leb-true b 32 ((and-eq-true_iff (leb 1 b) (leb b 32)).0 (test_accepted _ 8 k e)).1

module _ (s : List ℕ) where
  -- there are at most 8 supplies,
  pub few_cores : check_count s (cores_at s) 8 ≡ Accepted → cores_of s ≤ 8
  unfolding cores_of
  few_cores e = ((count_kept s (cores_at s) 8).0 e).few

  -- and at most 64 nodes,
  pub few_nodes : check_count s (nodes_at s) 64 ≡ Accepted → size_of s ≤ 64
  unfolding size_of
  few_nodes e = ((count_kept s (nodes_at s) 64).0 e).few

  module _ (cores : cores_of s ≤ 8) where
    -- so the nodes' count stands at 42 or before, or eight further on,
    pub nodes_most : nodes_at s ≤ 42 + further s 8
    unfolding nodes_at supply_start cores_at
    nodes_most = omega arith

    module _ (size : size_of s ≤ 64) where
      -- the names' count at 683 or before, or 264 further on,
      pub names_most : names_at s ≤ 683 + further s 264
      unfolding names_at node_start
      names_most =
          let four = 4 * size_of s in
          let all : 8 + (four + (256 - four)) ≡ 264 = omega arith in
          let parts = sym (ap (further s) all) ∙ further_sum s 8 (four + (256 - four)) in
          omega (arith, nodes_most, parts, further_sum s four (256 - four))

      -- and each name begins at most 33 bytes after the one before it
      pub start_most : (i : ℕ) → each (check_name s) i ≡ Accepted → name_start s i ≤ 684 + further s 264 + 33 * i
      unfolding each name_start
      start_most zero e = omega (arith, names_most)
      start_most (suc i) e =
          omega (arith, start_most i (first_accepted_left _ _ e), ((name_kept s i).0 (first_accepted_right _ _ e)).short)

  -- a file that no check of the bytes refuses has at most 2,796, and 264 more in edition 2,
  pub bytes_short : check_bytes s ≡ Accepted → length s ≤ 2796 + further s 264
  unfolding end_at
  bytes_short e =
      let kept = (bytes_kept s).0 e in
      let size = sixty_four_nodes s kept.fields in
      let named = each_accepted (check_name s) (size_of s) (λ i l. (name_kept s i).1 (kept.fields.names i l)) in
      omega (arith, kept.ends, start_most (eight_cores s kept.fields) size (size_of s) named)

-- and so has one that is accepted
read_short : (s : List ℕ) → (read_plan s).answer ≡ Accepted → length s ≤ 2796 + further s 264
unfolding read_plan read_answer
read_short s e = bytes_short s (first_accepted_left (check_bytes s) (rules (plan_of s)) e)

pub accepted_short : (s : List ℕ) → (read_plan s).answer ≡ Accepted → length s ≤ 3060
accepted_short s e = omega (arith, read_short s e, further_most s 264)

-- the longest plan has 3,060 bytes, and of edition 1 2,796
pub longest_plan_lem : LongestPlan
unfolding read_plan plan_of
longest_plan_lem s h =
    let e = said_accepted (read_plan s).answer h in (
      accepted_short s e,
      λ one.
          let first : edition_of s ≡ 1 = sym (ap (λ p. p.edition) (accepted_plan s e)) ∙ one in
          omega (arith, read_short s e, further_other s 264 (λ two. omega arith)),
    )
