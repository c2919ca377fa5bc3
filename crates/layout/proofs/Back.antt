-- From the layout back to accepted checks: bytes that begin with the file of a sound value and its names spell that value and those names, and keep
-- 1 to 9 and 19. Assumes nothing.
use Prim.Native.Nat.{ℕ, zero, suc, ◌+◌, ◌*◌, ◌≤◌, ◌<◌}
use mathlib.Core.Bool.{Bool, true, false, and-eq-true_iff}
use mathlib.Core.List.{List, []}
use mathlib.Core.Logic.{◌⊎◌, inl, inr}
use mathlib.Core.Path.{◌≡◌, refl, sym, ap, subst, ◌∙◌}
use native.Mathlib.Nat.{zero-add}
use native.Mathlib.Omega.{arith}
use lib.Dec.{eqb}
use lib.ListN.{length, get_or, take, length-append}
use lib.Seq.{ext_get_or, get_or-take, length-take-le}
use borrow.Author.Tests.{eq-eqb}
use Rattle.std.specs.Prelude.{Some}
use Rattle.ticks.specs.Times.{in_range, is_fit}
use Rattle.ticks.proofs.Answers.{fit}
use Rattle.meaning.specs.Types.{well_formed}
use Rattle.meaning.specs.declared.SlotType.{SlotType}
use Rattle.meaning.proofs.WellFormed.{bounds, within_bounds}
use Rattle.plans.specs.Plan.{zero_type, zero_node, no_misses, supply_at, node_at, kind_of, parent_of, misses_of, is_host, Tidy}
use Rattle.plans.specs.Sound.{Sound, parent_allowed, within, borne}
use Rattle.plans.specs.declared.NodeKind.{NodeKind}
use Rattle.plans.specs.declared.NodeKind.TheVariants.{AlignedLeaf, SlidingLeaf, Host}
use Rattle.plans.specs.declared.Plan.{Plan}
use Rattle.plans.proofs.Depth.{depth_within, has_depth}
use Rattle.plans.proofs.Entries.{supply_at_element, node_at_element}
use Rattle.plans.proofs.Kept.{kept_borne}
use Rattle.plans.proofs.Parents.{allowed_allows}
use Rattle.fields.specs.Fields.{byte_at, four_at}
use Rattle.decode.specs.Positions.{edition_of, further, cores_at, cores_of, supply_start, served_at, nodes_at, size_of, node_start, names_at, name_start, end_at}
use Rattle.decode.specs.Decode.{parent_named, is_named, misses_or, supply_of, node_of, plan_of}
use Rattle.decode.proofs.Entries.{filled_is}
use Rattle.names.specs.Names.{same_name}
use Rattle.reader.proofs.Accepts.{FieldsKept, NodeKept, NameKept}
use Rattle.layout.specs.Layout.{two_bytes, four_bytes, type_bytes, kind_byte, parent_byte, node_bytes, name_bytes, lays, supply_part, node_part, name_part, plan_bytes, SoundNames}
use Rattle.layout.specs.Promises.{FileOf}
use Rattle.layout.proofs.Holds.{Holds, holds_self, holds_at, lays_part}
use Rattle.layout.proofs.Numbers.{byte_read, rest_held, four_read, type_read}
use Rattle.layout.proofs.Widths.{further_more, spare_length, spare_zero, supplies_length, node_length, nodes_length}
use Rattle.layout.proofs.Nodes.{Spelled, parent_named_lem, node_read}
use Rattle.layout.proofs.Names.{name_in, names_of, names_count, names_at_lem, length_read, name_read, same_equal}
use Rattle.layout.proofs.Laid.{Laid, cores_place, size_place, count_place, names_place, plan_length, held_laid}

-- the numbers of a well-formed type take two bytes
small_count : (a : SlotType) → well_formed a ≡ true → a.c < 65536
small_count a e = omega (arith, bounds a e)

small_period : (a : SlotType) → well_formed a ≡ true → a.t < 65536
small_period a e = omega (arith, bounds a e)

-- a kind's byte is at most 2
pub kind_small : (k : NodeKind) → kind_byte k ≤ 2
unfolding kind_byte
kind_small AlignedLeaf = omega arith
kind_small SlidingLeaf = omega arith
kind_small Host = omega arith

-- the bytes begin with the file of a plan value with these names
pub record Begins (s : List ℕ) (plan : Plan) (names : List (List ℕ)) : Type 0 where
  pub tidy : Tidy plan
  pub named : SoundNames plan names
  pub held : Holds s 0 (plan_bytes plan names)

-- a file begins with itself,
pub file_begins : (s : List ℕ) (plan : Plan) (names : List (List ℕ)) → FileOf s plan names → Begins s plan names
file_begins s plan names file =
    record { tidy = file.tidy; named = file.named; held = subst (λ x. Holds s 0 x) file.laid (holds_self s) }

-- and so do bytes of which the first k are one
pub part_begins : (s : List ℕ) (k : ℕ) (plan : Plan) (names : List (List ℕ)) → k ≤ length s → FileOf (take k s) plan names → Begins s plan names
unfolding byte_at
part_begins s k plan names l file =
    let long = length-take-le k s l in
    let start : Holds s 0 (take k s) =
    record { within = omega arith; bytes = λ j m. ap (λ i. get_or s i 0) (zero-add j) ∙ sym (get_or-take k s j 0 (omega arith)) } in
    record { tidy = file.tidy; named = file.named; held = subst (λ x. Holds s 0 x) file.laid start }

module _ (s : List ℕ) (plan : Plan) (names : List (List ℕ)) (file : Begins s plan names) where
  laid : Laid s plan names
  laid = held_laid s plan names file.held

  -- the edition and the counts as they are read off, and where the sections stand by them
  edition_read : edition_of s ≡ plan.edition
  unfolding edition_of
  edition_read = byte_read s 0 _ _ laid.edition

  cores_place_lem : cores_at s ≡ cores_place plan
  unfolding cores_at
  cores_place_lem = ap (λ n. 9 + n) (further_more s plan.edition 8 edition_read)

  cores_read : cores_of s ≡ plan.cores
  unfolding cores_of
  cores_read = ap (byte_at s) cores_place_lem ∙ byte_read s (cores_place plan) _ _ laid.cores

  size_place_lem : nodes_at s ≡ size_place plan
  unfolding nodes_at supply_start
  size_place_lem = omega (arith, cores_place_lem, cores_read)

  size_read : size_of s ≡ plan.size
  unfolding size_of
  size_read = ap (byte_at s) size_place_lem ∙ byte_read s (size_place plan) _ _ laid.size

  count_place_lem : names_at s ≡ count_place plan
  unfolding names_at node_start
  count_place_lem =
      omega (arith, size_place_lem, size_read, ap (λ n. further s (4 * n)) size_read, further_more s plan.edition (4 * plan.size) edition_read)

  -- each supply and each node is held at its start
  supply_here : (i : ℕ) → i < plan.cores → Holds s (supply_start s i) (type_bytes (supply_at plan i))
  unfolding supply_start supply_part
  supply_here i l =
      holds_at s _ _ _ (omega (arith, supplies_length plan i, cores_place_lem))
      (lays_part (supply_part plan) s (cores_place plan + 1) plan.cores i l laid.supplies)

  node_here : (i : ℕ) → i < plan.size → Holds s (node_start s i) (node_bytes plan.edition (node_at plan i))
  unfolding node_start node_part
  node_here i l =
      holds_at s _ _ _ (omega (arith, nodes_length plan i, size_place_lem, further_more s plan.edition (4 * i) edition_read))
      (lays_part (node_part plan) s (size_place plan + 1) plan.size i l laid.nodes)

  -- each name is held after those before it, which is its start
  name_part_lem : (i : ℕ) → i < plan.size → Holds s (names_place plan + length (lays (name_part names) i)) (name_part names i)
  name_part_lem i l = lays_part (name_part names) s (names_place plan) plan.size i l laid.named

  name_start_lem : (i : ℕ) → i ≤ plan.size → name_start s i ≡ names_place plan + length (lays (name_part names) i)
  unfolding name_start lays name_part name_bytes
  name_start_lem zero l = omega (arith, count_place_lem)
  name_start_lem (suc i) l =
      let before = name_start_lem i (omega arith) in
      let long = ap (byte_at s) before ∙ length_read s _ (get_or names i []) (name_part_lem i l) in
      omega (arith, before, long, length-append (lays (name_part names) i) (name_part names i))

  name_here : (i : ℕ) → i < plan.size → Holds s (name_start s i) (name_bytes (get_or names i []))
  unfolding name_part
  name_here i l = holds_at s _ _ _ (sym (name_start_lem i (omega arith))) (name_part_lem i l)

  -- the last name ends where the file does
  pub end_read : end_at s ≡ length (plan_bytes plan names)
  unfolding end_at
  end_read = ap (name_start s) size_read ∙ name_start_lem plan.size (omega arith) ∙ sym (plan_length plan names)

  -- a file spells the names that it was laid out with
  pub names_read : names_of s ≡ names
  unfolding name_in
  names_read =
      ext_get_or [] (names_of s) names (names_count s ∙ size_read ∙ sym file.named.count)
      (λ i l.
      let m : i < size_of s = omega (arith, names_count s) in
      names_at_lem s i m ∙ name_read s (name_start s i) (get_or names i []) (name_here i (omega (arith, size_read))))

  -- an earlier name is found to be another
  name_new : (i j : ℕ) → j < i → i < plan.size → same_name s (name_start s j) (name_start s i) ≡ false
  name_new i j l m = go (same_name s (name_start s j) (name_start s i)) refl
    where
      go : (b : Bool) → same_name s (name_start s j) (name_start s i) ≡ b → b ≡ false
      go true e =
          let k : j < plan.size = omega arith in
          let alike = same_equal s _ _ _ _ (name_here j k) (name_here i m) e in
          absurd (omega (arith, file.named.distinct j i k m alike))
      go false e = refl

  -- each name keeps 1, 8 and 9
  name_kept : (i : ℕ) → i < plan.size → NameKept s i
  unfolding name_bytes
  name_kept i l =
      let k = name_start s i in
      let here = name_here i l in
      let long = length_read s k (get_or names i []) here in
      record {
        whole = omega (arith, here.within, long);
        some = rw long (file.named.some i l);
        short = rw long (file.named.short i l);
        letters =
            λ j m.
            let at : j < length (get_or names i []) = omega arith in
            rw ((rest_held s k _ _ here).bytes j at) (file.named.letters i j l at);
        new = λ j m. name_new i j m l;
      }

  module _ (sound : Sound plan) where
    -- the numbers, supplies and nodes of a sound value as they are read off
    p_read : four_at s 1 ≡ plan.tick.p
    p_read = four_read s 1 plan.tick.p (omega (arith, (fit plan.tick sound.tick).p)) laid.p

    q_read : four_at s 5 ≡ plan.tick.q
    q_read = four_read s 5 plan.tick.q (omega (arith, (fit plan.tick sound.tick).q)) laid.q

    supply_read : (i : ℕ) → i < plan.cores → supply_of s i ≡ supply_at plan i
    unfolding supply_of
    supply_read i l =
        let formed = sound.supplies i l in
        type_read s (supply_start s i) (supply_at plan i) (small_count _ formed) (small_period _ formed) (supply_here i l)

    named_parent : (i : ℕ) → i < plan.size → parent_named (parent_byte (parent_of plan i)) ≡ Some (parent_of plan i)
    named_parent i l =
        parent_named_lem plan i (parent_of plan i) sound.eight_cores (omega (arith, sound.sixty_four_nodes)) (sound.parents i l)

    -- a plan of another edition than 2 is of edition 1, and so has no misses
    no_misses_lem : (i : ℕ) → i < plan.size → eqb plan.edition 2 ≡ false → misses_of plan i ≡ no_misses
    no_misses_lem i l other = go sound.edition
      where
        go : (plan.edition ≡ 1) ⊎ (plan.edition ≡ 2) → misses_of plan i ≡ no_misses
        go (inl e) = sound.first_edition e i l
        go (inr e) = absurd (let z : ◌≡◌ {A = ℕ} 0 1 = cc (eq-eqb plan.edition 2 e) in omega arith)

    can_spell : (i : ℕ) → i < plan.size → Spelled plan.edition (node_at plan i)
    can_spell i l =
        let misses = within_bounds (misses_of plan i) (sound.misses i l) in
        record {
          wanted_count = small_count _ (sound.wanted i l);
          wanted_period = small_period _ (sound.wanted i l);
          missed = omega arith;
          stretch = omega arith;
          served_count = small_count _ (sound.served i l);
          served_period = small_period _ (sound.served i l);
          parent = named_parent i l;
          none = no_misses_lem i l;
        }

    spelled_node : (i : ℕ) → i < plan.size → node_of s i ≡ node_at plan i
    spelled_node i l = node_read s i (node_at plan i) (rw edition_read (can_spell i l)) (rw edition_read (node_here i l))

    supplies_read : (plan_of s).supplies ≡ plan.supplies
    unfolding plan_of
    supplies_read =
        filled_is (supply_of s) 8 zero_type (cores_of s) plan.supplies file.tidy.supplies_whole
        (λ i l m. supply_read i (omega (arith, cores_read)) ∙ sym (supply_at_element plan i m))
        (λ i l m. supply_at_element plan i m ∙ file.tidy.supplies_zero i (omega (arith, cores_read)) m)

    nodes_read : (plan_of s).nodes ≡ plan.nodes
    unfolding plan_of
    nodes_read =
        filled_is (node_of s) 64 zero_node (size_of s) plan.nodes file.tidy.nodes_whole
        (λ i l m. spelled_node i (omega (arith, size_read)) ∙ sym (node_at_element plan i m))
        (λ i l m. node_at_element plan i m ∙ file.tidy.nodes_zero i (omega (arith, size_read)) m)

    -- the file of a sound value spells that value
    pub plan_read : plan_of s ≡ plan
    unfolding plan_of
    plan_read =
        λ j.
        record {
          edition = edition_read j;
          tick = record { p = p_read j; q = q_read j };
          cores = cores_read j;
          supplies = supplies_read j;
          size = size_read j;
          nodes = nodes_read j;
        }

    shallow_node : (i : ℕ) → i < plan.size → within plan 8 i ≡ true
    shallow_node i l =
        let (d, h) = has_depth plan plan.size sound.parents i l in
        depth_within plan 8 h (sound.depths i d l h)

    -- a node has the misses that are asked of it
    misses_borne : (i : ℕ) → i < plan.size → borne (kind_of (plan_of s) i) (misses_or s (node_start s i + 6)) ≡ true
    unfolding is_host node_of
    misses_borne i l =
        rw (plan_read, ap (λ n. n.misses) (spelled_node i l))
        (kept_borne (kind_of plan i) (misses_of plan i) (sound.misses i l) (sound.hosts_hard i l))

    -- each node keeps 1, 4 to 7 and 19
    node_kept : (i : ℕ) → i < plan.size → NodeKept s i
    unfolding node_bytes node_of served_at parent_allowed is_named
    node_kept i l =
        let k = node_start s i in
        let here = node_here i l in
        let read = spelled_node i l in
        record {
          whole = omega (arith, here.within, node_length plan.edition (node_at plan i), further_more s plan.edition 4 edition_read);
          kind = rw (byte_read s k _ _ here) (kind_small (node_at plan i).kind);
          named = rw (byte_read s (k + 1) _ _ (rest_held s k _ _ here), named_parent i l);
          allowed = rw plan_read (allowed_allows plan i (sound.parents i l));
          shallow = rw plan_read (shallow_node i l);
          wanted = ap (λ n. well_formed n.wanted) read ∙ sound.wanted i l;
          misses = misses_borne i l;
          served = ap (λ n. well_formed n.served) read ∙ sound.served i l;
        }

    -- and the whole keeps 1 to 9 and 19
    pub begun_kept : FieldsKept s
    unfolding is_fit cores_of size_of four_bytes type_bytes two_bytes supply_of
    begun_kept =
        let tick = (and-eq-true_iff (in_range plan.tick.p) (in_range plan.tick.q)).0 sound.tick in
        record {
          edition = rw edition_read sound.edition;
          p = record { whole = laid.p.within; ranged = rw p_read tick.0 };
          q = record { whole = laid.q.within; ranged = rw q_read tick.1 };
          spare =
              λ j l.
              let long = spare_length plan.edition in
              let wide = further_more s plan.edition 8 edition_read in
              laid.spare.bytes j (omega arith) ∙ spare_zero plan.edition j;
          cores =
              record {
                whole = omega (arith, laid.cores.within, cores_place_lem);
                some = omega (arith, cores_read, sound.some_core);
                few = omega (arith, cores_read, sound.eight_cores);
              };
          supplies =
              λ i l.
              let m : i < plan.cores = omega (arith, cores_read) in
              record { whole = (supply_here i m).within; formed = ap well_formed (supply_read i m) ∙ sound.supplies i m };
          size =
              record {
                whole = omega (arith, laid.size.within, size_place_lem);
                some = omega (arith, size_read, sound.some_node);
                few = omega (arith, size_read, sound.sixty_four_nodes);
              };
          nodes = λ i l. node_kept i (omega (arith, size_read));
          count_there = omega (arith, laid.count.within, count_place_lem);
          count = ap (byte_at s) count_place_lem ∙ byte_read s (count_place plan) _ _ laid.count ∙ sym size_read;
          names = λ i l. name_kept i (omega (arith, size_read));
        }
