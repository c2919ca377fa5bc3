-- How the checks of the bytes refuse: by 1 to 9 or 19 at a field, by 10 past the last one, and at a byte that stands near the front. So a refusal by 11 to
-- 14 or 20 is one of the rules, and every refusal has a place. Assumes nothing.
use Prim.Native.Nat.{ℕ, zero, suc, ◌+◌, ◌*◌, ◌≤◌, ◌<◌}
use mathlib.Core.Bool.{Bool, true, false, cond, false≢true, ◌&&◌, ◌||◌}
use mathlib.Core.List.{List}
use mathlib.Core.Logic.{◌⊎◌, inl, inr}
use mathlib.Core.Path.{◌≡◌, refl, sym, ◌∙◌}
use native.Mathlib.Omega.{arith}
use lib.Dec.{leb, eqb}
use lib.ListN.{length}
use borrow.Author.Tests.{leb-true, leb-false, lt-leb, eqb-true}
use Rattle.answers.specs.Answers.{Answer, Accepted, Refused, first, test, each}
use Rattle.answers.proofs.Laws.{first_refused, test_false, test_refused}
use Rattle.plans.proofs.All.{left_true, right_true}
use Rattle.fields.specs.Fields.{byte_at, there, check_type}
use Rattle.decode.specs.Positions.{edition_of, further, cores_at, cores_of, supply_start, served_at, nodes_at, size_of, node_start, names_at, name_start, end_at}
use Rattle.decode.proofs.Editions.{further_most}
use Rattle.names.specs.Names.{letter_at, check_letter, check_name, check_names}
use Rattle.reader.specs.Read.{check_part, spare_at, check_spare, check_tick, check_count, check_supply, check_supplies, check_kind, check_parent, check_misses, check_node, check_nodes, check_end, check_bytes}
use Rattle.reader.proofs.Accepts.{FieldsKept, check_fields, bytes_checked, fields_kept}
use Rattle.layout.specs.Promises.{Bytes, ByBytes}
use Rattle.layout.proofs.Numbers.{byte_small}

-- whether a refusal is one at a field: from 1 to 9, or 19
unfoldable is_field : ℕ → Bool
is_field r = (leb 1 r && leb r 9) || eqb r 19

field_number : (r : ℕ) → is_field r ≡ true → ((1 ≤ r) × (r ≤ 9)) ⊎ (r ≡ 19)
unfolding is_field
field_number r h = go (leb 1 r && leb r 9) refl h
  where
    go : (b : Bool) → (leb 1 r && leb r 9) ≡ b → (b || eqb r 19) ≡ true → ((1 ≤ r) × (r ≤ 9)) ⊎ (r ≡ 19)
    go true e l = inl (leb-true 1 r (left_true (leb 1 r) (leb r 9) e), leb-true r 9 (right_true (leb 1 r) (leb r 9) e))
    go false e l = inr (eqb-true r 19 l)

-- an answer that, if it is a refusal, is one at a field, with a place below 100,000
abbrev AtField : Answer → Type 0
AtField Accepted = Unit {0}
AtField (Refused r k) = (is_field r ≡ true) × (k < 100000)

test_refuses : (ok : Bool) (r k : ℕ) → is_field r ≡ true → k < 100000 → AtField (test ok r k)
unfolding test
test_refuses true r k number early = tt
test_refuses false r k number early = (number, early)

first_refuses : (a b : Answer) → AtField a → AtField b → AtField (first a b)
unfolding first
first_refuses Accepted b h l = l
first_refuses (Refused r k) b h l = h

each_refuses : (f : ℕ → Answer) (n : ℕ) → ((i : ℕ) → i < n → AtField (f i)) → AtField (each f n)
unfolding each
each_refuses f zero h = tt
each_refuses f (suc n) h = first_refuses (each f n) (f n) (each_refuses f n (λ i l. h i (omega arith))) (h n (omega arith))

-- bytes that go on past the last name are refused by 10 at its end
pub over_refused : (s : List ℕ) (k : ℕ) → end_at s ≡ k → k < length s → check_end s ≡ Refused 10 k
unfolding check_end
over_refused s k e l = rw e (test_false (leb (length s) k) 10 k (lt-leb (length s) k l))

-- the checks of the bytes name bytes
module _ (s : List ℕ) (small : Bytes s) where
  byte : (k : ℕ) → byte_at s k < 256
  byte k = byte_small s small k

  cores_early : cores_at s ≤ 17
  unfolding cores_at
  cores_early = omega (arith, further_most s 8)

  nodes_early : nodes_at s ≤ 1038
  unfolding nodes_at supply_start cores_of
  nodes_early = omega (arith, cores_early, byte (cores_at s))

  few_nodes : size_of s ≤ 255
  unfolding size_of
  few_nodes = omega (arith, byte (nodes_at s))

  node_early : (i : ℕ) → i ≤ 255 → node_start s i ≤ 4609
  unfolding node_start
  node_early i l = omega (arith, nodes_early, further_most s (4 * i))

  name_early : (i : ℕ) → name_start s i ≤ 4610 + 256 * i
  unfolding name_start names_at
  name_early zero = omega (arith, node_early (size_of s) few_nodes)
  name_early (suc i) = omega (arith, name_early i, byte (name_start s i))

  field_refuses : (k n : ℕ) (ok : Bool) (r p : ℕ) → k < 100000 → is_field r ≡ true → p < 100000 → AtField (first (there s k n) (test ok r p))
  unfolding there is_field
  field_refuses k n ok r p held number l = first_refuses _ _ (test_refuses _ 1 k refl held) (test_refuses ok r p number l)

  type_refuses : (k : ℕ) → k ≤ 90000 → AtField (check_type s k)
  unfolding check_type there is_field
  type_refuses k l = first_refuses _ _ (test_refuses _ 1 k refl (omega arith)) (field_refuses (k + 2) 2 _ 4 k (omega arith) refl (omega arith))

  part_refuses : (k : ℕ) → k ≤ 90000 → AtField (check_part s k)
  unfolding check_part is_field
  part_refuses k l = field_refuses k 4 _ 3 k (omega arith) refl (omega arith)

  count_refuses : (k most : ℕ) → k ≤ 90000 → AtField (check_count s k most)
  unfolding check_count is_field
  count_refuses k most l = field_refuses k 1 _ 2 k (omega arith) refl (omega arith)

  spare_refuses : (j : ℕ) → j < further s 8 → AtField (check_spare s j)
  unfolding check_spare spare_at is_field
  spare_refuses j l = let most = further_most s 8 in field_refuses (9 + j) 1 _ 3 (9 + j) (omega arith) refl (omega arith)

  misses_refuses : (i k : ℕ) → k ≤ 90000 → AtField (check_misses s i k)
  unfolding check_misses there is_field
  misses_refuses i k l = go (eqb (edition_of s) 2) _ (first_refuses _ _ (test_refuses _ 1 k refl (omega arith)) (field_refuses (k + 2) 2 _ 19 k (omega arith) refl (omega arith)))
    where
      go : (b : Bool) (a : Answer) → AtField a → AtField (cond b a Accepted)
      go true a h = h
      go false a h = tt

  kind_refuses : (k : ℕ) → k ≤ 90000 → AtField (check_kind s k)
  unfolding check_kind is_field
  kind_refuses k l = field_refuses k 1 _ 5 k (omega arith) refl (omega arith)

  parent_refuses : (i k : ℕ) → k ≤ 90000 → AtField (check_parent s i k)
  unfolding check_parent there is_field
  parent_refuses i k l =
      first_refuses _ _ (test_refuses _ 1 k refl (omega arith)) (first_refuses _ _ (test_refuses _ 6 k refl (omega arith)) (test_refuses _ 7 k refl (omega arith)))

  node_refuses : (i : ℕ) → i < size_of s → AtField (check_node s i)
  unfolding check_node served_at
  node_refuses i l =
      let k = node_start s i in
      let early : k ≤ 4609 = node_early i (omega (arith, few_nodes)) in
      first_refuses _ _ (kind_refuses k (omega arith))
      (first_refuses _ _ (parent_refuses i (k + 1) (omega arith))
      (first_refuses _ _ (type_refuses (k + 2) (omega arith))
      (first_refuses _ _ (misses_refuses i (k + 6) (omega arith)) (type_refuses (served_at s i) (omega (arith, further_most s 4))))))

  name_refuses : (i : ℕ) → i < size_of s → AtField (check_name s i)
  unfolding check_name check_letter letter_at there is_field
  name_refuses i l =
      let k = name_start s i in
      let early : k ≤ 90000 = omega (arith, name_early i, few_nodes) in
      let short = byte k in
      first_refuses _ _ (test_refuses _ 1 k refl (omega arith))
      (first_refuses _ _ (test_refuses _ 8 k refl (omega arith))
      (first_refuses _ _ (each_refuses _ (byte_at s k) (λ j m. field_refuses (k + 1 + j) 1 _ 8 (k + 1 + j) (omega arith) refl (omega arith)))
      (test_refuses _ 9 k refl (omega arith))))

  tick_refuses : AtField (check_tick s)
  unfolding check_tick there is_field
  tick_refuses =
      first_refuses _ _ (test_refuses _ 1 0 refl (omega arith))
      (first_refuses _ _ (test_refuses _ 2 0 refl (omega arith))
      (first_refuses _ _ (part_refuses 1 (omega arith)) (first_refuses _ _ (part_refuses 5 (omega arith)) (each_refuses _ (further s 8) spare_refuses))))

  supplies_refuses : AtField (check_supplies s)
  unfolding check_supplies check_supply supply_start cores_of
  supplies_refuses =
      let early = cores_early in
      let few = byte (cores_at s) in
      first_refuses _ _ (count_refuses (cores_at s) 8 (omega arith)) (each_refuses _ (cores_of s) (λ i l. type_refuses (cores_at s + 1 + 4 * i) (omega arith)))

  nodes_refuses : AtField (check_nodes s)
  unfolding check_nodes
  nodes_refuses = first_refuses _ _ (count_refuses (nodes_at s) 64 (omega (arith, nodes_early))) (each_refuses _ (size_of s) node_refuses)

  names_refuses : AtField (check_names s)
  unfolding check_names there names_at is_field
  names_refuses =
      let early : node_start s (size_of s) ≤ 4609 = node_early (size_of s) few_nodes in
      first_refuses _ _ (test_refuses _ 1 (names_at s) refl (omega arith))
      (first_refuses _ _ (test_refuses _ 2 (names_at s) refl (omega arith)) (each_refuses _ (size_of s) name_refuses))

  fields_refuses : AtField (check_fields s)
  fields_refuses = first_refuses _ _ tick_refuses (first_refuses _ _ supplies_refuses (first_refuses _ _ nodes_refuses names_refuses))

  -- a refusal of the bytes is one of a field, or the one past the last name, with the fields accepted
  field_or_end : (r k : ℕ) → check_bytes s ≡ Refused r k →
      (check_fields s ≡ Refused r k) ⊎ ((check_fields s ≡ Accepted) × (check_end s ≡ Refused r k))
  field_or_end r k e = first_refused (check_fields s) (check_end s) r k (sym (bytes_checked s) ∙ e)

  -- a refusal past the last name is 10, at its end, where there are more bytes
  end_refused : (r k : ℕ) → check_end s ≡ Refused r k → (10 ≡ r) × (end_at s ≡ k) × (end_at s < length s)
  unfolding check_end
  end_refused r k e =
      let (over, number, place) = test_refused (leb (length s) (end_at s)) 10 (end_at s) r k e in
      (number, place, leb-false (length s) (end_at s) over)

  -- the bytes are refused by 1 to 10 or 19, at a place near the front,
  pub bytes_refusal : (r k : ℕ) → check_bytes s ≡ Refused r k → ByBytes r × (k < 100000)
  unfolding end_at
  bytes_refusal r k e = go (field_or_end r k e)
    where
      of_field : ((1 ≤ r) × (r ≤ 9)) ⊎ (r ≡ 19) → ByBytes r
      of_field (inl h) = inl (h.0, omega arith)
      of_field (inr h) = inr h

      go : (check_fields s ≡ Refused r k) ⊎ ((check_fields s ≡ Accepted) × (check_end s ≡ Refused r k)) → ByBytes r × (k < 100000)
      go (inl f) =
          let (number, early) = rw f at fields_refuses in
          (of_field (field_number r number), early)
      go (inr f) =
          let (number, place, more) = end_refused r k f.1 in
          (inl (omega arith, omega arith), omega (arith, name_early (size_of s), few_nodes))

  -- and by 10 only where they keep 1 to 9 and 19 and there are more
  pub left_over : (k : ℕ) → check_bytes s ≡ Refused 10 k → FieldsKept s × (end_at s ≡ k) × (end_at s < length s)
  unfolding is_field
  left_over k e = go (field_or_end 10 k e)
    where
      go : (check_fields s ≡ Refused 10 k) ⊎ ((check_fields s ≡ Accepted) × (check_end s ≡ Refused 10 k)) →
          FieldsKept s × (end_at s ≡ k) × (end_at s < length s)
      go (inl f) = absurd (false≢true (rw f at fields_refuses).0)
      go (inr f) =
          let (number, place, more) = end_refused 10 k f.1 in
          ((fields_kept s).0 f.0, place, more)
