-- A plan of the greatest length fits, and its file, of 2,796 bytes in edition 1 and 3,060 in edition 2, is accepted. Assumes nothing.
use Prim.Native.Nat.{ℕ, zero, suc, ◌+◌, ◌*◌, ◌/◌, ◌%◌, ◌≤◌, ◌<◌}
use mathlib.Core.Bool.{Bool, true, false, not, cond, ◌&&◌, true≢false, false≢true}
use mathlib.Core.List.{List, []}
use mathlib.Core.Logic.{◌⊎◌, inl, inr}
use mathlib.Core.Path.{◌≡◌, refl, sym, ap, ap₂, subst, ◌∙◌}
use native.Mathlib.Nat.{le_trans, mul-div-le}
use native.Mathlib.Omega.{arith}
use lib.Dec.{ltb}
use lib.ListN.{length, get_or, replicate, length-replicate, get_or-replicate}
use Rattle.ticks.specs.Times.{in_range, is_fit}
use Rattle.meaning.specs.Types.{well_formed, StandsIn}
use Rattle.meaning.specs.Soft.{within_range}
use Rattle.meaning.specs.declared.Kind.TheVariants.{Aligned}
use Rattle.answers.specs.Answers.{said}
use Rattle.plans.specs.Plan.{zero_type, zero_node, node_at, supply_at, There, parent_of, hosting, is_host, is_soft, wanted_as, own_type, same, is_child}
use Rattle.plans.specs.Sound.{supply, Depth, top, under, Sound}
use Rattle.plans.specs.declared.Parent.{Parent}
use Rattle.plans.specs.declared.Parent.TheVariants.{Supply}
use Rattle.plans.specs.declared.Plan.{Plan}
use Rattle.plans.proofs.Entries.{node_at_element, supply_at_element, same_equal}
use Rattle.rules.specs.Fit.{sum_to, load, longest, load_to, is_whole, owes, side, Rule14, Fit}
use Rattle.rules.proofs.KeptSoft.{hard_eleven}
use Rattle.rules.proofs.Totals.{sum_bounded}
use Rattle.fields.specs.Fields.{byte_at}
use Rattle.decode.specs.Positions.{edition_of, further}
use Rattle.decode.proofs.Entries.{length_filled, filled_at}
use Rattle.reader.specs.Read.{read_plan}
use Rattle.layout.specs.Layout.{name_bytes, name_part, SoundNames}
use Rattle.layout.specs.Promises.{FileOf}
use Rattle.layout.specs.Longest.{every, leaf, longest_plan, longest_name, longest_names, longest_file, Reaches, LongestReached}
use Rattle.layout.proofs.Holds.{lays_end}
use Rattle.layout.proofs.Widths.{more}
use Rattle.layout.proofs.Laid.{plan_length}
use Rattle.layout.proofs.AreBytes.{files_are_bytes}
use Rattle.layout.proofs.Kept.{fit_accepted}

-- a plan value of eight supplies with every slot and 64 leaves under the first
record Even (plan : Plan) : Type 0 where
  edition : (plan.edition ≡ 1) ⊎ (plan.edition ≡ 2)
  tick : is_fit plan.tick ≡ true
  cores : plan.cores ≡ 8
  size : plan.size ≡ 64
  supplies : (s : ℕ) → s < 8 → supply_at plan s ≡ every
  nodes : (i : ℕ) → i < 64 → node_at plan i ≡ leaf

module _ (plan : Plan) (even : Even plan) where
  node_is : (i : ℕ) → There plan i → node_at plan i ≡ leaf
  node_is i l = even.nodes i (omega (arith, even.size))

  -- its leaves stand under the first supply, so
  parent_is : (i : ℕ) → There plan i → parent_of plan i ≡ Supply 0
  parent_is i l = ap (λ n. n.parent) (node_is i l)

  -- their depth is 1,
  shallow : {i d : ℕ} → There plan i → Depth plan i d → d ≤ 8
  shallow l (top e) = omega arith
  shallow {i = i} l (under e m) = absurd (let z : ◌≡◌ {A = ℕ} 0 1 = cc (parent_is i l) in omega arith)

  -- and it is sound
  even_sound : Sound plan
  unfolding well_formed within_range
  even_sound =
      record {
        edition = even.edition;
        some_core = omega (arith, even.cores);
        eight_cores = omega (arith, even.cores);
        some_node = omega (arith, even.size);
        sixty_four_nodes = omega (arith, even.size);
        tick = even.tick;
        supplies = λ s l. rw (even.supplies s (omega (arith, even.cores)));
        wanted = λ i l. ap (λ n. well_formed n.wanted) (node_is i l);
        misses = λ i l. ap (λ n. within_range n.misses) (node_is i l);
        hosts_hard = λ i l h. ap (λ n. n.misses.d) (node_is i l);
        first_edition = λ one i l. ap (λ n. n.misses) (node_is i l);
        served = λ i l. ap (λ n. well_formed n.served) (node_is i l);
        parents = λ i l. rw (parent_is i l) (supply {s = 0} (omega (arith, even.cores)));
        depths = λ i d l h. shallow l h;
      }

  -- its leaves are hard
  leaf_hard : (i : ℕ) → There plan i → is_soft plan i ≡ false
  unfolding is_soft is_host hosting
  leaf_hard i l = ap (λ n. not (hosting n.kind) && ltb 0 n.misses.d) (node_is i l)

  -- the first supply's own type is every slot
  own_every : (x : Parent) → Supply 0 ≡ x → own_type plan x ≡ every
  unfolding own_type
  own_every x e = ap (own_type plan) (sym e) ∙ even.supplies 0 (omega arith)

  -- a leaf asks for one slot in 64 at most,
  load_most : (x : Parent) (m i : ℕ) → There plan i → load plan x m i ≤ m / 64
  unfolding load
  load_most x m i l =
      subst (λ n. cond (is_child plan x i) (n.served.c * (m / n.served.t)) 0 ≤ m / 64) (sym (node_is i l)) (go (is_child plan x i))
    where
      go : (b : Bool) → cond b (1 * (m / 64)) 0 ≤ m / 64
      go true = omega arith
      go false = omega arith

  -- and for nothing of another parent,
  load_none : (x : Parent) (m i : ℕ) → same (Supply 0) x ≡ false → There plan i → load plan x m i ≤ 0
  unfolding load is_child
  load_none x m i e l =
      subst (λ n. cond (same n.parent x) (n.served.c * (m / n.served.t)) 0 ≤ 0) (sym (node_is i l)) (rw e (omega arith))

  -- so the sum is within the side of the parent, which is whole
  sum_within : (x : Parent) → Rule14 plan x
  unfolding load_to is_whole owes side
  sum_within x = go (same (Supply 0) x) refl
    where
      go : (b : Bool) → same (Supply 0) x ≡ b → sum_to (load plan x (longest plan x)) plan.size ≤ side plan x
      go true e =
          rw (own_every x (same_equal (Supply 0) x e))
          (le_trans
          (subst (λ n. sum_to (load plan x (longest plan x)) plan.size ≤ n * (longest plan x / 64)) even.size
          (sum_bounded (load plan x (longest plan x)) (longest plan x / 64) plan.size (load_most x (longest plan x))))
          (mul-div-le (longest plan x) 64))
      go false e =
          omega (arith, sum_bounded (load plan x (longest plan x)) 0 plan.size (λ i l. load_none x (longest plan x) i e l))

  -- and it fits
  even_fit : Fit plan
  unfolding wanted_as is_whole
  even_fit =
      record {
        sound = even_sound;
        rule20 = λ i l soft. absurd (false≢true (sym (leaf_hard i l) ∙ soft));
        rule11 =
            λ i l.
            (hard_eleven plan even_sound i l (leaf_hard i l)).1
            (subst (λ n. StandsIn Aligned n.served (wanted_as n.kind) n.wanted) (sym (node_is i l)) (λ α h. h));
        rule12 =
            λ x i c part.
            let own = own_every x (sym (parent_is i c.there) ∙ c.under) in
            absurd (true≢false (sym (ap is_whole own) ∙ part));
        rule13 = λ x i j c d. inl (ap₂ (λ n m. n.served.t % m.served.t) (node_is i c.there) (node_is j d.there));
        rule14 = sum_within;
      }

-- so it is with the plan of the greatest length
longest_even : (edition : ℕ) → (edition ≡ 1) ⊎ (edition ≡ 2) → Even (longest_plan edition)
unfolding longest_plan is_fit in_range
longest_even edition e =
    record {
      edition = e;
      tick = refl;
      cores = refl;
      size = refl;
      supplies = λ s l. sym (supply_at_element (longest_plan edition) s l) ∙ get_or-replicate 8 s every zero_type l;
      nodes = λ i l. sym (node_at_element (longest_plan edition) i l) ∙ get_or-replicate 64 i leaf zero_node l;
    }

-- its names
name_at : (i : ℕ) → i < 64 → get_or longest_names i [] ≡ longest_name i
unfolding longest_names
name_at i l = filled_at longest_name (replicate 64 []) 64 i [] l (omega (arith, length-replicate {A = List ℕ} 64 []))

-- have 32 bytes,
name_long : (i : ℕ) → length (longest_name i) ≡ 32
unfolding longest_name
name_long i = refl

-- each of them a letter,
name_letter : (i k : ℕ) → i < 64 → k < 32 → (33 ≤ get_or (longest_name i) k 0) × (get_or (longest_name i) k 0 ≤ 126)
unfolding longest_name
name_letter i zero l m = (omega arith, omega arith)
name_letter i (suc k) l m =
    let same = get_or-replicate {A = ℕ} 31 k 97 0 (omega arith) in
    (omega arith, omega arith)

-- and tell their nodes apart
name_own : (i j : ℕ) → longest_name i ≡ longest_name j → i ≡ j
unfolding longest_name
name_own i j e = omega (arith, ap (λ x. get_or x 0 0) e)

longest_named : (edition : ℕ) → SoundNames (longest_plan edition) longest_names
unfolding longest_plan longest_names
longest_named edition =
    record {
      count = length_filled longest_name (replicate 64 []) 64 ∙ length-replicate {A = List ℕ} 64 [];
      some = λ i l. rw (name_at i l, name_long i) (omega arith);
      short = λ i l. rw (name_at i l, name_long i) (omega arith);
      letters = λ i k l m. rw (name_at i l) (name_letter i k l (rw (name_at i l, name_long i) at m));
      distinct = λ i j l m e. name_own i j (sym (name_at i l) ∙ e ∙ name_at j m);
    }

longest_file_lem : (edition : ℕ) → FileOf (longest_file edition) (longest_plan edition) longest_names
unfolding longest_file longest_plan
longest_file_lem edition =
    record {
      tidy =
          record {
            supplies_whole = length-replicate 8 every;
            nodes_whole = length-replicate 64 leaf;
            supplies_zero = λ i l m. absurd (omega arith);
            nodes_zero = λ i l m. absurd (omega arith);
          };
      named = longest_named edition;
      laid = refl;
    }

-- a name takes 33 bytes of the file
part_long : (i : ℕ) → i < 64 → length (name_part longest_names i) ≡ 33
unfolding name_part name_bytes
part_long i l = rw (name_at i l) (omega (arith, name_long i))

longest_length : (edition : ℕ) → length (longest_file edition) ≡ 2796 + (more edition 8 + more edition 256)
unfolding longest_file longest_plan
longest_length edition =
    let names = lays_end (name_part longest_names) (λ i. 33 * i) 64 (λ i l. omega (arith, part_long i l)) in
    omega (arith, plan_length (longest_plan edition) longest_names)

-- the file is accepted
reaches : (edition n : ℕ) → (edition ≡ 1) ⊎ (edition ≡ 2) → 2796 + (more edition 8 + more edition 256) ≡ n → Reaches edition n
unfolding read_plan
reaches edition n is long =
    let plan = longest_plan edition in
    let file = longest_file_lem edition in
    let fit = even_fit plan (longest_even edition is) in (
      files_are_bytes (longest_file edition) plan longest_names file fit.sound,
      longest_length edition ∙ long,
      ap said (fit_accepted (longest_file edition) plan longest_names file fit),
    )

pub longest_reached : LongestReached
unfolding further edition_of byte_at
longest_reached = (reaches 1 2796 (inl refl) refl, reaches 2 3060 (inr refl) refl)
