-- A file of 3,061 bytes or more is answered by its first 3,061: no check looks further, once those before it have accepted. Assumes nothing.
use Prim.Native.Nat.{ℕ, zero, suc, ◌+◌, ◌*◌, ◌≤◌, ◌<◌, min}
use mathlib.Core.List.{List}
use mathlib.Core.Path.{◌≡◌, refl, sym, ap, ◌∙◌}
use native.Mathlib.Decide.{dec_le}
use native.Mathlib.Omega.{arith}
use lib.ListN.{length, take, replicate}
use lib.Seq.{get_or-take, take_all, length-take-le}
use borrow.Author.Tests.{le-leb, lt-leb}
use Rattle.answers.specs.Answers.{Answer, Accepted, Refused, first, test, each}
use Rattle.answers.proofs.Laws.{first_accepted_left, first_accepted_right, first_alike, each_accepted, each_accepted_at, each_alike, each_ext}
use Rattle.plans.specs.Plan.{zero_type, zero_node}
use Rattle.plans.proofs.All.{all_ext}
use Rattle.fields.specs.Fields.{byte_at, two_at, four_at, type_at, misses_at, there, check_type}
use Rattle.decode.specs.Positions.{edition_of, further, cores_at, cores_of, supply_start, nodes_at, size_of, node_start, served_at, names_at, name_start, end_at}
use Rattle.decode.specs.Decode.{misses_or, supply_of, node_of, plan_of}
use Rattle.decode.proofs.Editions.{further_most, further_alike}
use Rattle.decode.proofs.Filled.{filled_ext}
use Rattle.names.specs.Names.{letter_at, check_letter, agrees_at, same_name, differs, is_new, check_name, check_names}
use Rattle.reader.specs.Read.{check_part, spare_at, check_spare, check_tick, check_count, check_supply, check_supplies, check_kind, check_parent, check_misses, check_node, check_nodes, check_end, check_bytes, read_answer, read_plan}
use Rattle.reader.proofs.Accepts.{name_kept}
use Rattle.reader.proofs.Spelled.{refused_plan}
use Rattle.layout.specs.Promises.{LongerAlike}
use Rattle.layout.proofs.Reach.{few_letters, few_cores, few_nodes, nodes_most, names_most, start_most, bytes_short, accepted_short}

-- two files that agree in their first 3,061 bytes
record Alike (s r : List ℕ) : Type 0 where
  pub bytes : (k : ℕ) → k < 3061 → byte_at s k ≡ byte_at r k
  pub left : 3061 ≤ length s
  pub right : 3061 ≤ length r

module _ (s r : List ℕ) (h : Alike s r) where
  -- a field among them is there in both,
  there_alike : (k n : ℕ) → k + n ≤ 3061 → there s k n ≡ there r k n
  unfolding there
  there_alike k n l = rw (le-leb (k + n) (length s) (omega (arith, h.left)), le-leb (k + n) (length r) (omega (arith, h.right)))

  -- and reads the same: a number of two bytes,
  two_alike : (k : ℕ) → k + 2 ≤ 3061 → two_at s k ≡ two_at r k
  unfolding two_at
  two_alike k l = rw (h.bytes k (omega arith), h.bytes (k + 1) (omega arith))

  -- of four,
  four_alike : (k : ℕ) → k + 4 ≤ 3061 → four_at s k ≡ four_at r k
  unfolding four_at
  four_alike k l = rw (two_alike k (omega arith), two_alike (k + 2) (omega arith))

  -- and a type, or misses
  type_alike : (k : ℕ) → k + 4 ≤ 3061 → type_at s k ≡ type_at r k
  unfolding type_at
  type_alike k l = rw (two_alike k (omega arith), two_alike (k + 2) (omega arith))

  misses_alike : (k : ℕ) → k + 4 ≤ 3061 → misses_at s k ≡ misses_at r k
  unfolding misses_at
  misses_alike k l = rw (two_alike k (omega arith), two_alike (k + 2) (omega arith))

  -- So it is checked alike: a type,
  type_checked : (k : ℕ) → k + 4 ≤ 3061 → check_type s k ≡ check_type r k
  unfolding check_type
  type_checked k l = rw (there_alike k 2 (omega arith), there_alike (k + 2) 2 (omega arith), type_alike k l)

  -- a spare byte,
  spare_checked : (j : ℕ) → j < 8 → check_spare s j ≡ check_spare r j
  unfolding check_spare spare_at
  spare_checked j l = rw (there_alike (9 + j) 1 (omega arith), h.bytes (9 + j) (omega arith))

  -- the tick,
  edition_alike : edition_of s ≡ edition_of r
  unfolding edition_of
  edition_alike = h.bytes 0 (omega arith)

  further_on : (n : ℕ) → further s n ≡ further r n
  further_on n = further_alike s r n edition_alike

  tick_checked : check_tick s ≡ check_tick r
  unfolding check_tick check_part
  tick_checked =
      rw (
        ← further_on 8,
        ← edition_alike,
        there_alike 0 1 (omega arith),
        there_alike 1 4 (omega arith),
        four_alike 1 (omega arith),
        there_alike 5 4 (omega arith),
        four_alike 5 (omega arith),
        each_ext (check_spare s) (check_spare r) (further s 8) (λ j l. spare_checked j (omega (arith, further_most s 8))),
      )

  -- and a count.
  count_checked : (k most : ℕ) → k < 3061 → check_count s k most ≡ check_count r k most
  unfolding check_count
  count_checked k most l = rw (there_alike k 1 (omega arith), h.bytes k l)

  -- The supplies stand at the same place,
  cores_place_lem : cores_at s ≡ cores_at r
  unfolding cores_at
  cores_place_lem = ap (λ n. 9 + n) (further_on 8)

  cores_near : cores_at s ≤ 17
  unfolding cores_at
  cores_near = omega (arith, further_most s 8)

  supply_place_lem : (i : ℕ) → supply_start s i ≡ supply_start r i
  unfolding supply_start
  supply_place_lem i = omega (arith, cores_place_lem)

  -- there are as many,
  cores_alike : cores_of s ≡ cores_of r
  unfolding cores_of
  cores_alike = h.bytes (cores_at s) (omega (arith, cores_near)) ∙ ap (byte_at r) cores_place_lem

  -- each reads the same,
  supply_alike : (i : ℕ) → i < 8 → supply_of s i ≡ supply_of r i
  unfolding supply_of supply_start
  supply_alike i l = type_alike (supply_start s i) (omega (arith, cores_near)) ∙ ap (type_at r) (supply_place_lem i)

  -- and they are checked alike.
  supplies_checked : check_supplies s ≡ check_supplies r
  unfolding check_supplies check_supply supply_start
  supplies_checked =
      rw (← cores_place_lem, ← cores_alike)
      (first_alike (count_checked (cores_at s) 8 (omega (arith, cores_near)))
      (λ e. each_ext (check_supply s) (check_supply r) (cores_of s)
      (λ i l. type_checked (supply_start s i) (omega (arith, cores_near, few_cores s e)) ∙ ap (check_type r) (supply_place_lem i))))

  module _ (cores : cores_of s ≤ 8) where
    -- The nodes stand at the same place,
    nodes_alike : nodes_at s ≡ nodes_at r
    unfolding nodes_at
    nodes_alike = supply_place_lem (cores_of s) ∙ ap (supply_start r) cores_alike

    nodes_near : nodes_at s ≤ 50
    nodes_near = omega (arith, nodes_most s cores, further_most s 8)

    -- there are as many,
    size_alike : size_of s ≡ size_of r
    unfolding size_of
    size_alike = h.bytes (nodes_at s) (omega (arith, nodes_near)) ∙ ap (byte_at r) nodes_alike

    -- and each stands at the same place,
    node_place_lem : (i : ℕ) → node_start s i ≡ node_start r i
    unfolding node_start
    node_place_lem i = omega (arith, nodes_alike, further_on (4 * i))

    served_place : (i : ℕ) → served_at s i ≡ served_at r i
    unfolding served_at
    served_place i = omega (arith, node_place_lem i, further_on 4)

    served_near : (i : ℕ) → i < 64 → (node_start s i + 10 ≤ 3061) × (served_at s i + 4 ≤ 3061)
    unfolding served_at node_start
    served_near i l =
        let near = nodes_near in
        let before = further_most s (4 * i) in
        let within = further_most s 4 in
        (omega arith, omega arith)

    -- reads the same,
    misses_read : (k : ℕ) → k + 4 ≤ 3061 → misses_or s k ≡ misses_or r k
    unfolding misses_or
    misses_read k l = rw (edition_alike, misses_alike k l)

    node_alike : (i : ℕ) → i < 64 → node_of s i ≡ node_of r i
    unfolding node_of
    node_alike i l =
        let k = node_start s i in
        let (far, end) = served_near i l in
        rw (
          ← node_place_lem i,
          ← served_place i,
          h.bytes k (omega arith),
          h.bytes (k + 1) (omega arith),
          type_alike (k + 2) (omega arith),
          misses_read (k + 6) (omega arith),
          type_alike (served_at s i) end,
        )

    -- and so does the whole plan value,
    plan_alike : plan_of s ≡ plan_of r
    unfolding plan_of
    plan_alike =
        rw (
          edition_alike,
          four_alike 1 (omega arith),
          four_alike 5 (omega arith),
          filled_ext (supply_of s) (replicate 8 zero_type) (supply_of r) (min (cores_of s) 8) (λ i l. supply_alike i (omega arith)),
          filled_ext (node_of s) (replicate 64 zero_node) (node_of r) (min (size_of s) 64) (λ i l. node_alike i (omega arith)),
          cores_alike,
          size_alike,
        )

    -- so that a node is checked alike,
    misses_checked : (i k : ℕ) → k + 4 ≤ 3061 → check_misses s i k ≡ check_misses r i k
    unfolding check_misses
    misses_checked i k l =
        rw (edition_alike, there_alike k 2 (omega arith), there_alike (k + 2) 2 (omega arith), plan_alike, misses_alike k l)

    node_checked : (i : ℕ) → i < 64 → check_node s i ≡ check_node r i
    unfolding check_node check_kind check_parent
    node_checked i l =
        let k = node_start s i in
        let (far, end) = served_near i l in
        rw (
          ← node_place_lem i,
          ← served_place i,
          there_alike k 1 (omega arith),
          h.bytes k (omega arith),
          there_alike (k + 1) 1 (omega arith),
          h.bytes (k + 1) (omega arith),
          plan_alike,
          type_checked (k + 2) (omega arith),
          misses_checked i (k + 6) (omega arith),
          type_checked (served_at s i) end,
        )

    -- and so are all.
    nodes_checked : check_nodes s ≡ check_nodes r
    unfolding check_nodes
    nodes_checked =
        rw (← nodes_alike, ← size_alike)
        (first_alike (count_checked (nodes_at s) 64 (omega (arith, nodes_near)))
        (λ e. each_ext (check_node s) (check_node r) (size_of s) (λ i l. node_checked i (omega (arith, few_nodes s e)))))

    -- A byte of a name is checked alike,
    letter_checked : (k j : ℕ) → k + 1 + j < 3061 → check_letter s k j ≡ check_letter r k j
    unfolding check_letter letter_at
    letter_checked k j l = rw (there_alike (k + 1 + j) 1 (omega arith), h.bytes (k + 1 + j) l)

    -- and two names are the same in both or in neither.
    same_alike : (a b : ℕ) → a + 33 ≤ 3061 → b + 33 ≤ 3061 → byte_at s a ≤ 32 → same_name s a b ≡ same_name r a b
    unfolding same_name agrees_at
    same_alike a b l m short =
        rw (← h.bytes a (omega arith))
        (all_ext (agrees_at s a b) (agrees_at r a b) (suc (byte_at s a))
        (λ j k. rw (h.bytes (a + j) (omega arith), h.bytes (b + j) (omega arith))))

    module _ (size : size_of s ≤ 64) where
      -- The names stand at the same place,
      names_alike : names_at s ≡ names_at r
      unfolding names_at
      names_alike = node_place_lem (size_of s) ∙ ap (node_start r) size_alike

      start_near : (i : ℕ) → each (check_name s) i ≡ Accepted → name_start s i ≤ 948 + 33 * i
      start_near i e = omega (arith, start_most s cores size i e, further_most s 264)

      -- each begins at the same place, once those before it are accepted,
      start_alike : (i : ℕ) → i ≤ 64 → each (check_name s) i ≡ Accepted → name_start s i ≡ name_start r i
      unfolding each name_start
      start_alike zero l e = rw names_alike
      start_alike (suc i) l e =
          let before = first_accepted_left (each (check_name s) i) (check_name s i) e in
          let at = start_alike i (omega arith) before in
          omega (arith, h.bytes (name_start s i) (omega (arith, start_near i before)), ap (byte_at r) at)

      module _ (i : ℕ) (l : i < 64) (e : each (check_name s) i ≡ Accepted) where
        -- with room for 32 bytes more,
        here : name_start s i + 33 ≤ 3061
        here = omega (arith, start_near i e)

        -- it is new in both or in neither,
        new_alike : is_new s i ≡ is_new r i
        unfolding is_new differs
        new_alike =
            all_ext (differs s i) (differs r i) i
            (λ j m.
            let accepted = each_accepted_at (check_name s) i e in
            let before = each_accepted (check_name s) j (λ k n. accepted k (omega arith)) in
            let far : name_start s j + 33 ≤ 3061 = omega (arith, start_near j before) in
            rw (
              ← start_alike j (omega arith) before,
              ← start_alike i (omega arith) e,
              same_alike (name_start s j) (name_start s i) far here ((name_kept s j).0 (accepted j m)).short,
            ))

        -- so that it is checked alike,
        name_checked : check_name s i ≡ check_name r i
        unfolding check_name
        name_checked =
            let k = name_start s i in
            rw (← start_alike i (omega arith) e, ← h.bytes k (omega (arith, here)), there_alike k 1 (omega (arith, here)), new_alike)
            (first_alike refl
            (λ a. first_alike refl
            (λ b.
            ap (λ x. first x (test (is_new r i) 9 k))
            (each_ext (check_letter s k) (check_letter r k) (byte_at s k)
            (λ j m. letter_checked k j (omega (arith, here, few_letters (byte_at s k) k b)))))))

      -- and so are all.
      names_checked : check_names s ≡ check_names r
      unfolding check_names
      names_checked =
          let near : names_at s ≤ 947 = omega (arith, names_most s cores size, further_most s 264) in
          rw (← names_alike, ← size_alike, there_alike (names_at s) 1 (omega arith), h.bytes (names_at s) (omega arith))
          (first_alike refl
          (λ a. first_alike refl
          (λ b. each_alike (check_name s) (check_name r) (size_of s) (λ i l e. name_checked i (omega arith) e))))

      -- Both have bytes left over, from the same place on.
      end_checked : each (check_name s) (size_of s) ≡ Accepted → check_end s ≡ check_end r
      unfolding check_end end_at
      end_checked e =
          let k = name_start s (size_of s) in
          let far : k < 3061 = omega (arith, start_near (size_of s) e) in
          rw (
            ← size_alike,
            ← start_alike (size_of s) size e,
            lt-leb (length s) k (omega (arith, h.left)),
            lt-leb (length r) k (omega (arith, h.right)),
          )

  -- So the bytes are checked alike,
  bytes_checked : check_bytes s ≡ check_bytes r
  unfolding check_bytes check_supplies check_nodes check_names
  bytes_checked =
      first_alike tick_checked
      (λ a. first_alike supplies_checked
      (λ b.
      let cores = few_cores s (first_accepted_left _ _ b) in
      first_alike (nodes_checked cores)
      (λ c.
      let size = few_nodes s (first_accepted_left _ _ c) in
      first_alike (names_checked cores size)
      (λ d. end_checked cores size (first_accepted_right _ _ (first_accepted_right _ _ d))))))

  -- refused alike, since none so long are accepted,
  answer_alike : read_answer s ≡ read_answer r
  unfolding read_answer
  answer_alike = first_alike bytes_checked (λ e. absurd (omega (arith, bytes_short s e, further_most s 264, h.left)))

  -- and read alike
  reading_alike : read_plan s ≡ read_plan r
  unfolding read_plan
  reading_alike = go (read_answer s) refl
    where
      go : (a : Answer) → read_answer s ≡ a → read_plan s ≡ read_plan r
      go Accepted e = absurd (omega (arith, accepted_short s e, h.left))
      go (Refused n k) e =
          λ j.
          record { answer = answer_alike j; plan = (refused_plan s n k e ∙ sym (refused_plan r n k (sym answer_alike ∙ e))) j }

-- what stands beyond byte 3,061 changes nothing
pub longer_alike : LongerAlike
unfolding byte_at
longer_alike s n l = go (dec_le (length s) n)
  where
    go : Dec (length s ≤ n) → read_plan (take n s) ≡ read_plan s
    go (yes m) = ap read_plan (take_all n s m)
    go (no m) =
        let long = length-take-le n s (omega arith) in
        reading_alike (take n s) s
        (record { bytes = λ k j. get_or-take n s k 0 (omega arith); left = omega arith; right = omega arith })
