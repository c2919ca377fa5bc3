-- Bytes that keep 1 to 9 and 19 spell a sound plan value; what an accepted read and a refused one hand out. Assumes nothing.
use Prim.Native.Nat.{ℕ, ◌+◌, ◌≤◌, ◌<◌}
use mathlib.Core.Bool.{true}
use mathlib.Core.List.{List}
use mathlib.Core.Path.{◌≡◌, refl, sym, ap, ◌∙◌}
use native.Mathlib.Omega.{arith}
use Rattle.ticks.specs.Times.{is_fit as is_fit_tick}
use Rattle.meaning.specs.Types.{well_formed}
use Rattle.answers.specs.Answers.{Accepted, Refused}
use Rattle.answers.proofs.Laws.{first_accepted_left, first_accepted_right, accepts_true, accepts_false}
use Rattle.plans.specs.Plan.{zero_plan, misses_of, no_misses}
use Rattle.plans.specs.Sound.{sound_supply, sound_misses, sound_node, sound}
use Rattle.plans.proofs.All.{all_true}
use Rattle.plans.proofs.Kept.{counts_true, is_edition_lem, kept_plain}
use Rattle.rules.specs.Check.{rules, checked, is_fit}
use Rattle.decode.specs.Positions.{edition_of, cores_of, size_of, node_start}
use Rattle.decode.specs.Decode.{misses_or, supply_of, node_of, plan_of}
use Rattle.decode.proofs.Editions.{misses_not}
use Rattle.decode.proofs.Entries.{supply_spelled, node_spelled}
use Rattle.reader.specs.Read.{check_bytes, read_answer, read_plan}
use Rattle.reader.proofs.Accepts.{FieldsKept, bytes_kept}

module _ (s : List ℕ) (h : FieldsKept s) where
  -- the counts of bytes that keep 1 to 9 and 19
  pub some_core : 1 ≤ cores_of s
  unfolding cores_of
  some_core = h.cores.some

  pub eight_cores : cores_of s ≤ 8
  unfolding cores_of
  eight_cores = h.cores.few

  pub some_node : 1 ≤ size_of s
  unfolding size_of
  some_node = h.size.some

  pub sixty_four_nodes : size_of s ≤ 64
  unfolding size_of
  sixty_four_nodes = h.size.few

  -- each supply that they spell is sound
  supply_sound : (i : ℕ) → i < cores_of s → sound_supply (plan_of s) i ≡ true
  unfolding sound_supply supply_of
  supply_sound i l = ap well_formed (supply_spelled s i l (omega (arith, eight_cores))) ∙ (h.supplies i l).formed

  -- so are the misses of each node
  misses_sound : (i : ℕ) → i < size_of s → sound_misses (plan_of s) i ≡ true
  unfolding sound_misses node_of plan_of
  misses_sound i l =
      let at : misses_of (plan_of s) i ≡ misses_or s (node_start s i + 6) = ap (λ n. n.misses) (node_spelled s i l (omega (arith, sixty_four_nodes))) in
      let first : edition_of s ≡ 1 → misses_or s (node_start s i + 6) ≡ no_misses =
      λ one. sym (misses_not s (edition_of s) (node_start s i + 6) refl (λ two. omega arith)) in
      rw (at, (h.nodes i l).misses, kept_plain (edition_of s) (misses_or s (node_start s i + 6)) first)

  -- and each node
  node_sound : (i : ℕ) → i < size_of s → sound_node (plan_of s) i ≡ true
  unfolding sound_node node_of
  node_sound i l =
      let at = node_spelled s i l (omega (arith, sixty_four_nodes)) in
      let kept = h.nodes i l in
      rw (
        kept.allowed,
        kept.shallow,
        ap (λ n. well_formed n.wanted) at ∙ kept.wanted,
        misses_sound i l,
        ap (λ n. well_formed n.served) at ∙ kept.served,
      )

  -- bytes that keep 1 to 9 and 19 spell a sound value
  pub spelled_sound : sound (plan_of s) ≡ true
  unfolding sound plan_of is_fit_tick
  spelled_sound =
      rw (
        is_edition_lem (edition_of s) h.edition,
        counts_true (cores_of s) 8 some_core eight_cores,
        counts_true (size_of s) 64 some_node sixty_four_nodes,
        h.p.ranged,
        h.q.ranged,
        all_true (sound_supply (plan_of s)) (cores_of s) supply_sound,
        all_true (sound_node (plan_of s)) (size_of s) node_sound,
      )

-- where a read is accepted, the value that the bytes spell passes the test of what fits
pub accepted_fits : (s : List ℕ) → read_answer s ≡ Accepted → is_fit (plan_of s) ≡ true
unfolding read_answer is_fit checked
accepted_fits s e =
    let kept = (bytes_kept s).0 (first_accepted_left (check_bytes s) (rules (plan_of s)) e) in
    rw (spelled_sound s kept.fields, first_accepted_right (check_bytes s) (rules (plan_of s)) e) (sym (accepts_true Accepted refl))

module _ (s : List ℕ) where
  -- an accepted read hands out the value that the bytes spell
  pub accepted_plan : read_answer s ≡ Accepted → (read_plan s).plan ≡ plan_of s
  unfolding read_plan
  accepted_plan e = rw (sym (accepts_true (read_answer s) e))

  -- and a refused one zeros
  pub refused_plan : (r k : ℕ) → read_answer s ≡ Refused r k → (read_plan s).plan ≡ zero_plan
  unfolding read_plan
  refused_plan r k e = rw (sym (accepts_false (read_answer s) r k e))
