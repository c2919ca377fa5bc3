-- From accepted checks to the layout: bytes that keep 1 to 9 begin with the file of the value and the names that they spell. Assumes nothing.
use Prim.Native.Nat.{ℕ, suc, ◌+◌, ◌≤◌, ◌<◌}
use mathlib.Core.List.{List}
use mathlib.Core.Path.{◌≡◌, refl, sym, ap, subst, ◌∙◌}
use native.Mathlib.Decide.{dec_lt}
use native.Mathlib.Omega.{arith}
use lib.ListN.{length, take}
use lib.Seq.{take_all}
use Rattle.plans.specs.Plan.{node_at}
use Rattle.fields.specs.Fields.{byte_at}
use Rattle.decode.specs.Positions.{edition_of, further, cores_at, cores_of, supply_start, nodes_at, size_of, node_start, names_at, name_start, end_at}
use Rattle.decode.specs.Decode.{supply_of, plan_of}
use Rattle.decode.proofs.Editions.{further_most, next_node}
use Rattle.decode.proofs.Entries.{supply_spelled, node_spelled, plan_tidy}
use Rattle.reader.proofs.Accepts.{FieldsKept}
use Rattle.reader.proofs.Spelled.{eight_cores, sixty_four_nodes}
use Rattle.layout.specs.Layout.{two_bytes, type_bytes, spare_bytes, name_bytes, supply_part, node_part, name_part, plan_bytes, SoundNames}
use Rattle.layout.specs.Promises.{Bytes, FileOf}
use Rattle.layout.proofs.Holds.{Holds, holds_part, holds_at, lays_end, lays_held}
use Rattle.layout.proofs.Numbers.{byte_held, four_held, type_held}
use Rattle.layout.proofs.Widths.{further_more, spare_length, spare_zero, node_length}
use Rattle.layout.proofs.Nodes.{node_held}
use Rattle.layout.proofs.Names.{name_in, names_of, names_count, names_at_lem, name_length, name_letter, name_held, equal_same}
use Rattle.layout.proofs.Laid.{Laid, plan_length, laid_held}

module _ (s : List ℕ) (h : FieldsKept s) where
  -- a later name is no earlier one
  name_differs : (i j : ℕ) → j < i → i < size_of s → name_in s j ≡ name_in s i → ⊥
  name_differs i j l m e =
      let found = equal_same s _ _ _ _ (name_held s j (h.names j (omega arith))) (name_held s i (h.names i m)) e in
      let z : ◌≡◌ {A = ℕ} 0 1 = cc ((h.names i m).new j l) in
      omega arith

  -- so each name occurs once
  name_once : (i j : ℕ) → i < size_of s → j < size_of s → name_in s i ≡ name_in s j → i ≡ j
  name_once i j l m e = go (dec_lt i j) (dec_lt j i)
    where
      go : Dec (i < j) → Dec (j < i) → i ≡ j
      go (yes a) b = absurd (name_differs j i a m e)
      go (no a) (yes b) = absurd (name_differs i j b l (sym e))
      go (no a) (no b) = omega arith

  -- the names that are spelled are sound
  pub spelled_named : SoundNames (plan_of s) (names_of s)
  unfolding plan_of
  spelled_named =
      record {
        count = names_count s;
        some = λ i l. rw (names_at_lem s i l, name_length s i (h.names i l)) (h.names i l).some;
        short = λ i l. rw (names_at_lem s i l, name_length s i (h.names i l)) (h.names i l).short;
        letters =
            λ i k l m.
            let at : k < length (name_in s i) = rw (names_at_lem s i l) at m in
            rw (names_at_lem s i l, name_letter s i (h.names i l) k at) ((h.names i l).letters k (rw (name_length s i (h.names i l)) at at));
        distinct = λ i j l m e. name_once i j l m (sym (names_at_lem s i l) ∙ e ∙ names_at_lem s j m);
      }

  -- each supply, each node and each name starts where the one before it ends
  supply_step : (i : ℕ) → supply_start s (suc i) ≡ supply_start s i + length (supply_part (plan_of s) i)
  unfolding supply_start supply_part type_bytes two_bytes
  supply_step i = omega arith

  node_step : (i : ℕ) → node_start s (suc i) ≡ node_start s i + length (node_part (plan_of s) i)
  unfolding node_part plan_of
  node_step i = omega (arith, next_node s i, further_more s (edition_of s) 4 refl, node_length (edition_of s) (node_at (plan_of s) i))

  name_step : (i : ℕ) → i < size_of s → name_start s (suc i) ≡ name_start s i + length (name_part (names_of s) i)
  unfolding name_start name_part name_bytes
  name_step i l = rw (names_at_lem s i l, name_length s i (h.names i l)) (omega arith)

  -- each name is held at its start
  name_at : (i : ℕ) → i < size_of s → Holds s (name_start s i) (name_part (names_of s) i)
  unfolding name_part
  name_at i l = rw (names_at_lem s i l) (name_held s i (h.names i l))

  module _ (small : Bytes s) where
    -- and so are each supply and each node, where the bytes are bytes
    supply_at_lem : (i : ℕ) → i < cores_of s → Holds s (supply_start s i) (supply_part (plan_of s) i)
    unfolding supply_part supply_of
    supply_at_lem i l = rw (supply_spelled s i l (omega (arith, eight_cores s h))) (type_held s small (supply_start s i) (h.supplies i l).whole)

    node_at_lem : (i : ℕ) → i < size_of s → Holds s (node_start s i) (node_part (plan_of s) i)
    unfolding node_part plan_of
    node_at_lem i l = rw (node_spelled s i l (omega (arith, sixty_four_nodes s h))) (node_held s small i (h.nodes i l))

    -- and the spare bytes
    spare_held : Holds s 9 (spare_bytes (edition_of s))
    unfolding cores_at
    spare_held =
        let long : length (spare_bytes (edition_of s)) ≡ further s 8 = spare_length (edition_of s) ∙ sym (further_more s (edition_of s) 8 refl) in
        record {
          within = omega (arith, h.cores.whole);
          bytes = λ j l. h.spare j (omega arith) ∙ sym (spare_zero (edition_of s) j);
        }

    -- the bytes hold each part at its place
    pub spelled_laid : Laid s (plan_of s) (names_of s)
    unfolding plan_of byte_at edition_of further cores_at cores_of supply_start nodes_at size_of node_start names_at name_start
    spelled_laid =
        record {
          edition = byte_held s 0 _ (omega (arith, h.p.whole)) refl;
          p = four_held s small 1 h.p.whole;
          q = four_held s small 5 h.q.whole;
          spare = spare_held;
          cores = byte_held s (cores_at s) _ h.cores.whole refl;
          supplies =
              holds_at s (supply_start s 0) _ _ (omega arith)
              (lays_held (supply_part (plan_of s)) (supply_start s) s (cores_of s) (λ i l. supply_step i) (omega (arith, h.cores.whole)) supply_at_lem);
          size = byte_held s (nodes_at s) _ h.size.whole refl;
          nodes =
              holds_at s (node_start s 0) _ _ (omega (arith, further_most s 0))
              (lays_held (node_part (plan_of s)) (node_start s) s (size_of s) (λ i l. node_step i) (omega (arith, h.size.whole, further_most s 0)) node_at_lem);
          count = byte_held s (names_at s) _ h.count_there h.count;
          named = lays_held (name_part (names_of s)) (name_start s) s (size_of s) name_step h.count_there name_at;
        }

    -- the file of what they spell ends where their last name does,
    spelled_length : length (plan_bytes (plan_of s) (names_of s)) ≡ end_at s
    unfolding plan_of byte_at edition_of further cores_at cores_of supply_start nodes_at size_of node_start names_at name_start end_at
    spelled_length = plan_length (plan_of s) (names_of s) ∙ sym (lays_end (name_part (names_of s)) (name_start s) (size_of s) name_step)

    -- and they begin with it
    pub spelled_start : FileOf (take (end_at s) s) (plan_of s) (names_of s)
    spelled_start =
        record {
          tidy = plan_tidy s;
          named = spelled_named;
          laid = ap (λ n. take n s) (sym spelled_length) ∙ holds_part s 0 (plan_bytes (plan_of s) (names_of s)) (laid_held s _ _ spelled_laid);
        }

    -- so they are it, where nothing follows
    pub spelled_file : length s ≤ end_at s → FileOf s (plan_of s) (names_of s)
    spelled_file ends = subst (λ r. FileOf r (plan_of s) (names_of s)) (take_all (end_at s) s ends) spelled_start
