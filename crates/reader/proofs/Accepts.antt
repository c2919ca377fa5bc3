-- What the checks of a plan file accept, said as sentences: refusals 1 to 10 of document 01 and 19 of document 02, field by field. Assumes nothing.
use Prim.Native.Nat.{ℕ, ◌+◌, ◌-◌, ◌≤◌, ◌<◌}
use mathlib.Core.Bool.{Bool, true, false, not, cond, and-eq-true_iff}
use mathlib.Core.List.{List}
use mathlib.Core.Logic.{◌↔◌, ◌⊎◌}
use mathlib.Core.Path.{◌≡◌, refl, sym, ap, ◌∙◌}
use native.Mathlib.Omega.{arith}
use lib.Dec.{leb, eqb}
use lib.ListN.{length}
use borrow.Author.Tests.{leb-true, le-leb, eqb-true, eq-eqb, eqb-false, not-true}
use Rattle.ticks.specs.Times.{in_range}
use Rattle.meaning.specs.Types.{well_formed}
use Rattle.meaning.specs.Soft.{within_range}
use Rattle.answers.specs.Answers.{Answer, Accepted, first, test, each}
use Rattle.answers.proofs.Laws.{first_assoc, first_accepted, first_accepted_left, first_accepted_right, test_true, test_accepted, each_accepted, each_accepted_at}
use Rattle.plans.specs.Plan.{kind_of, no_misses}
use Rattle.plans.specs.Sound.{all, counts, is_edition, parent_allowed, within, borne}
use Rattle.plans.specs.declared.NodeKind.{NodeKind}
use Rattle.plans.proofs.All.{all_true, all_true_at}
use Rattle.plans.proofs.Kept.{edition_one_of, is_edition_lem, kept_borne}
use Rattle.fields.specs.Fields.{byte_at, four_at, type_at, misses_at, there, check_type}
use Rattle.decode.specs.Positions.{edition_of, further, cores_at, cores_of, supply_start, nodes_at, size_of, node_start, served_at, names_at, name_start, end_at}
use Rattle.decode.specs.Decode.{parent_named, is_named, misses_or, plan_of}
use Rattle.decode.proofs.Editions.{further_second, misses_two, misses_not}
use Rattle.names.specs.Names.{is_length, is_letter, letter_at, check_letter, same_name, differs, is_new, check_name, check_names}
use Rattle.reader.specs.Read.{check_part, spare_at, check_spare, check_tick, check_count, check_supply, check_supplies, check_kind, check_parent, check_misses, check_node, check_nodes, check_end, check_bytes}

-- the tests and their joins, as equivalences
first_iff : (a b : Answer) → (first a b ≡ Accepted) ↔ ((a ≡ Accepted) × (b ≡ Accepted))
first_iff a b = (λ e. (first_accepted_left a b e, first_accepted_right a b e), λ h. first_accepted a b h.0 h.1)

test_iff : (ok : Bool) (r k : ℕ) → (test ok r k ≡ Accepted) ↔ (ok ≡ true)
test_iff ok r k = (test_accepted ok r k, test_true ok r k)

each_iff : (f : ℕ → Answer) (n : ℕ) → (each f n ≡ Accepted) ↔ ((i : ℕ) → i < n → f i ≡ Accepted)
each_iff f n = (each_accepted_at f n, each_accepted f n)

all_iff : (f : ℕ → Bool) (n : ℕ) → (all f n ≡ true) ↔ ((i : ℕ) → i < n → f i ≡ true)
all_iff f n = (all_true_at f n, all_true f n)

leb_iff : (a b : ℕ) → (leb a b ≡ true) ↔ (a ≤ b)
leb_iff a b = (leb-true a b, le-leb a b)

eqb_iff : (a b : ℕ) → (eqb a b ≡ true) ↔ (a ≡ b)
eqb_iff a b = (eqb-true a b, eq-eqb a b)

edition_iff : (n : ℕ) → (is_edition n ≡ true) ↔ ((n ≡ 1) ⊎ (n ≡ 2))
edition_iff n = (edition_one_of n, is_edition_lem n)

not_iff : (b : Bool) → (not b ≡ true) ↔ (b ≡ false)
not_iff b = (not-true b, λ e. ap not e)

ruleset sentences = (first_iff, test_iff, each_iff, all_iff, leb_iff, eqb_iff, edition_iff, not_iff, and-eq-true_iff)

-- a node of any kind can have no misses
none_borne : (kind : NodeKind) → borne kind no_misses ≡ true
unfolding within_range
none_borne kind = kept_borne kind no_misses refl (λ h. refl)

-- a type whose four bytes, from k on, are there, and that is well formed
pub record TypeKept (s : List ℕ) (k : ℕ) : Type 0 where
  pub whole : k + 4 ≤ length s
  pub formed : well_formed (type_at s k) ≡ true

-- P or Q, four bytes from k on, in its range
pub record PartKept (s : List ℕ) (k : ℕ) : Type 0 where
  pub whole : k + 4 ≤ length s
  pub ranged : in_range (four_at s k) ≡ true

-- a count from 1 to `most`
pub record CountKept (s : List ℕ) (k most : ℕ) : Type 0 where
  pub whole : k + 1 ≤ length s
  pub some : 1 ≤ byte_at s k
  pub few : byte_at s k ≤ most

-- D and W of node i, where D begins at k: in edition 2 four bytes that are there; and what is read for them is what the node can have
pub record MissesKept (s : List ℕ) (i k : ℕ) : Type 0 where
  pub whole : edition_of s ≡ 2 → k + 4 ≤ length s
  pub bears : borne (kind_of (plan_of s) i) (misses_or s k) ≡ true

-- node i, ten bytes from its start on, and four more in edition 2
pub record NodeKept (s : List ℕ) (i : ℕ) : Type 0 where
  pub whole : node_start s i + 10 + further s 4 ≤ length s
  pub kind : byte_at s (node_start s i) ≤ 2
  pub named : is_named (parent_named (byte_at s (node_start s i + 1))) ≡ true
  pub allowed : parent_allowed (plan_of s) i ≡ true
  pub shallow : within (plan_of s) 8 i ≡ true
  pub wanted : well_formed (type_at s (node_start s i + 2)) ≡ true
  pub misses : borne (kind_of (plan_of s) i) (misses_or s (node_start s i + 6)) ≡ true
  pub served : well_formed (type_at s (served_at s i)) ≡ true

-- name i, a length byte and that many bytes from its start on, and no earlier name is the same
pub record NameKept (s : List ℕ) (i : ℕ) : Type 0 where
  pub whole : name_start s i + 1 + byte_at s (name_start s i) ≤ length s
  pub some : 1 ≤ byte_at s (name_start s i)
  pub short : byte_at s (name_start s i) ≤ 32
  pub letters : (j : ℕ) → j < byte_at s (name_start s i) →
      (33 ≤ byte_at s (name_start s i + 1 + j)) × (byte_at s (name_start s i + 1 + j) ≤ 126)
  pub new : (j : ℕ) → j < i → same_name s (name_start s j) (name_start s i) ≡ false

-- bytes that keep 1 to 9 and 19
pub record FieldsKept (s : List ℕ) : Type 0 where
  pub edition : (edition_of s ≡ 1) ⊎ (edition_of s ≡ 2)
  pub p : PartKept s 1
  pub q : PartKept s 5
  pub spare : (j : ℕ) → j < further s 8 → byte_at s (9 + j) ≡ 0
  pub cores : CountKept s (cores_at s) 8
  pub supplies : (i : ℕ) → i < cores_of s → TypeKept s (supply_start s i)
  pub size : CountKept s (nodes_at s) 64
  pub nodes : (i : ℕ) → i < size_of s → NodeKept s i
  pub count_there : names_at s + 1 ≤ length s
  pub count : byte_at s (names_at s) ≡ size_of s
  pub names : (i : ℕ) → i < size_of s → NameKept s i

-- bytes that keep 1 to 10 and 19
pub record BytesKept (s : List ℕ) : Type 0 where
  pub fields : FieldsKept s
  pub ends : length s ≤ end_at s

-- the checks of the bytes before that of what follows the last name
abbrev pub check_fields : List ℕ → Answer
check_fields s = first (check_tick s) (first (check_supplies s) (first (check_nodes s) (check_names s)))

module _ (s : List ℕ) where
  -- a type is accepted exactly when it is there and well formed
  pub type_kept : (k : ℕ) → (check_type s k ≡ Accepted) ↔ TypeKept s k
  unfolding check_type there
  type_kept k = (
    λ e. let h = simp sentences at e in record { whole = omega arith; formed = h.1.1 },
    λ h. simp sentences (omega (arith, h.whole), (omega (arith, h.whole), h.formed)),
  )

  -- P or Q is accepted exactly when it is there and in its range
  pub part_kept : (k : ℕ) → (check_part s k ≡ Accepted) ↔ PartKept s k
  unfolding check_part there
  part_kept k =
      (λ e. let h = simp sentences at e in record { whole = h.0; ranged = h.1 }, λ h. simp sentences (h.whole, h.ranged))

  -- a count is accepted exactly when it is there and from 1 to `most`
  pub count_kept : (k most : ℕ) → (check_count s k most ≡ Accepted) ↔ CountKept s k most
  unfolding check_count there counts
  count_kept k most = (
    λ e. let h = simp sentences at e in record { whole = h.0; some = h.1.0; few = h.1.1 },
    λ h. simp sentences (h.whole, (h.some, h.few)),
  )

  -- D and W of a node are accepted exactly when, in edition 2, they are there and such as the node can have
  pub misses_kept : (i k : ℕ) → (check_misses s i k ≡ Accepted) ↔ MissesKept s i k
  unfolding check_misses there
  misses_kept i k = go (eqb (edition_of s) 2) refl
    where
      asked : Answer
      asked =
          first (test (leb (k + 2) (length s)) 1 k)
          (first (test (leb (k + 2 + 2) (length s)) 1 (k + 2)) (test (borne (kind_of (plan_of s) i) (misses_at s k)) 19 k))

      go : (b : Bool) → eqb (edition_of s) 2 ≡ b → (cond b asked Accepted ≡ Accepted) ↔ MissesKept s i k
      go true e =
          let two = eqb-true (edition_of s) 2 e in
          let same = misses_two s (edition_of s) k (misses_at s k) refl two refl in (
            λ a. let h = simp sentences at a in record { whole = λ t. omega (arith, h.1.0); bears = rw same at h.1.1 },
            λ h. simp sentences (omega (arith, h.whole two), (omega (arith, h.whole two), rw (← same) at h.bears)),
          )
      go false e =
          let other = eqb-false (edition_of s) 2 e in (
            λ a. record { whole = λ t. absurd (other t); bears = rw (← misses_not s (edition_of s) k refl other) (none_borne (kind_of (plan_of s) i)) },
            λ h. refl,
          )

  -- node i is accepted exactly when it keeps 1, 4 to 7 and 19
  pub node_kept : (i : ℕ) → (check_node s i ≡ Accepted) ↔ NodeKept s i
  unfolding check_node check_kind check_parent there served_at
  node_kept i = (
    λ e.
        let h = simp (sentences, type_kept, misses_kept) at e in
        record {
          whole = omega (arith, h.1.1.1.1.whole);
          kind = h.0.1;
          named = h.1.0.1.0.0;
          allowed = h.1.0.1.0.1;
          shallow = h.1.0.1.1;
          wanted = h.1.1.0.formed;
          misses = h.1.1.1.0.bears;
          served = h.1.1.1.1.formed;
        },
    λ h.
        simp (sentences, type_kept, misses_kept) (
          (omega (arith, h.whole), h.kind),
          (
            (omega (arith, h.whole), ((h.named, h.allowed), h.shallow)),
            (
              record { whole = omega (arith, h.whole); formed = h.wanted },
              (
                record { whole = λ two. omega (arith, h.whole, further_second s 4 two); bears = h.misses },
                record { whole = omega (arith, h.whole); formed = h.served },
              ),
            ),
          ),
        ),
  )

  -- name i is accepted exactly when it keeps 1, 8 and 9
  pub name_kept : (i : ℕ) → (check_name s i ≡ Accepted) ↔ NameKept s i
  unfolding check_name check_letter letter_at is_length is_letter is_new differs there
  name_kept i = (
    λ e.
        let h = simp sentences at e in
        record {
          whole = omega (arith, (h.1.1.0 (byte_at s (name_start s i) - 1) (omega (arith, h.1.0.0))).0, h.1.0.0);
          some = h.1.0.0;
          short = h.1.0.1;
          letters = λ j l. (h.1.1.0 j l).1;
          new = h.1.1.1;
        },
    λ h.
        simp sentences
        (omega (arith, h.whole), ((h.some, h.short), (λ j l. (omega (arith, h.whole), h.letters j l), h.new))),
  )

  -- the bytes are checked by their fields, and then for what follows
  pub bytes_checked : check_bytes s ≡ first (check_fields s) (check_end s)
  unfolding check_bytes
  bytes_checked = simp first_assoc

  -- no check of a field refuses exactly when the bytes keep 1 to 9 and 19
  pub fields_kept : (check_fields s ≡ Accepted) ↔ FieldsKept s
  unfolding check_tick check_spare spare_at check_supplies check_supply check_nodes check_names there cores_at cores_of
  fields_kept = (
    λ e.
        let h = simp (sentences, part_kept, count_kept, type_kept, node_kept, name_kept) at e in
        record {
          edition = h.0.1.0;
          p = h.0.1.1.0;
          q = h.0.1.1.1.0;
          spare = λ j l. (h.0.1.1.1.1 j l).1;
          cores = h.1.0.0;
          supplies = h.1.0.1;
          size = h.1.1.0.0;
          nodes = h.1.1.0.1;
          count_there = h.1.1.1.0;
          count = h.1.1.1.1.0;
          names = h.1.1.1.1.1;
        },
    λ h.
        simp (sentences, part_kept, count_kept, type_kept, node_kept, name_kept) (
          (
            omega (arith, h.cores.whole),
            (h.edition, (h.p, (h.q, λ j l. (omega (arith, h.cores.whole), h.spare j l)))),
          ),
          ((h.cores, h.supplies), ((h.size, h.nodes), (h.count_there, (h.count, h.names)))),
        ),
  )

  -- nothing follows exactly when the bytes end where the last name does
  pub end_kept : (check_end s ≡ Accepted) ↔ (length s ≤ end_at s)
  unfolding check_end
  end_kept = (λ e. simp sentences at e, λ h. simp sentences h)

  -- no check of the bytes refuses exactly when they keep 1 to 10 and 19
  pub bytes_kept : (check_bytes s ≡ Accepted) ↔ BytesKept s
  bytes_kept = (
    λ e.
        let both = (first_iff (check_fields s) (check_end s)).0 (sym bytes_checked ∙ e) in
        record { fields = fields_kept.0 both.0; ends = end_kept.0 both.1 },
    λ h. bytes_checked ∙ first_accepted (check_fields s) (check_end s) (fields_kept.1 h.fields) (end_kept.1 h.ends),
  )
