-- What specs/Promises.antt says of soundness holds. Assumes nothing.
use Prim.Native.Nat.{ℕ, ◌≤◌, ◌<◌}
use mathlib.Core.Bool.{Bool, true, false, not, ◌&&◌, ◌||◌, false≢true}
use mathlib.Core.Logic.{◌⊎◌, inl, inr}
use mathlib.Core.Path.{◌≡◌, refl, sym, ap, ap₂, ◌∙◌}
use lib.Dec.{leb, eqb}
use borrow.Author.Tests.{le-leb, leb-true, eq-eqb, eqb-true}
use native.Mathlib.Omega.{arith}
use Rattle.ticks.specs.Times.{is_fit}
use Rattle.meaning.specs.Types.{well_formed}
use Rattle.meaning.specs.Soft.{within_range}
use Rattle.meaning.specs.declared.Misses.{Misses}
use Rattle.plans.proofs.All.{left_true, right_true, all_true, all_true_at}
use Rattle.plans.proofs.Depth.{depth_unique, within_depth, depth_within}
use Rattle.plans.proofs.Parents.{allows_allowed, allowed_allows, node_depth, host_earlier}
use Rattle.plans.specs.Plan.{parent_of, kind_of, wanted_of, misses_of, served_of, hosting, is_host, no_misses}
use Rattle.plans.specs.Sound.{Allowed, supply, host, Depth, top, under, Sound, all, parent_allowed, within, borne, plain, sound_misses, sound_node, sound_supply, counts, is_edition, sound}
use Rattle.plans.specs.Promises.{SoundExactly, Agree, UnusedIgnored}
use Rattle.plans.specs.declared.NodeKind.{NodeKind}
use Rattle.plans.specs.declared.Parent.{Parent}
use Rattle.plans.specs.declared.Plan.{Plan}

-- a count that passes is at least 1
pub counts_some : (n most : ℕ) → counts n most ≡ true → 1 ≤ n
unfolding counts
counts_some n most e = leb-true 1 n (left_true (leb 1 n) (leb n most) e)

-- and at most its bound
pub counts_most : (n most : ℕ) → counts n most ≡ true → n ≤ most
unfolding counts
counts_most n most e = leb-true n most (right_true (leb 1 n) (leb n most) e)

-- and what is both passes
pub counts_true : (n most : ℕ) → 1 ≤ n → n ≤ most → counts n most ≡ true
unfolding counts
counts_true n most l h = rw (le-leb 1 n l, le-leb n most h)

-- of two tests of which one holds, the second holds where the first does not
or_right : (a b : Bool) → (not a || b) ≡ true → a ≡ true → b ≡ true
or_right true b e h = e
or_right false b e h = absurd (false≢true h)

-- an edition that passes is 1 or 2, and back
pub edition_one_of : (n : ℕ) → is_edition n ≡ true → (n ≡ 1) ⊎ (n ≡ 2)
unfolding is_edition
edition_one_of n e = go (eqb n 1) refl
  where
    go : (b : Bool) → eqb n 1 ≡ b → (n ≡ 1) ⊎ (n ≡ 2)
    go true h = inl (eqb-true n 1 h)
    go false h = inr (eqb-true n 2 (rw h at e))

pub is_edition_lem : (n : ℕ) → (n ≡ 1) ⊎ (n ≡ 2) → is_edition n ≡ true
unfolding is_edition
is_edition_lem n (inl e) = rw e
is_edition_lem n (inr e) = rw e

-- what passes as misses of a node: within range, none for a host, and in edition 1 D 0 and W 1; and back
pub borne_within : (kind : NodeKind) (m : Misses) → borne kind m ≡ true → within_range m ≡ true
unfolding borne
borne_within kind m e = left_true (within_range m) (not (hosting kind) || eqb m.d 0) e

pub borne_host : (kind : NodeKind) (m : Misses) → borne kind m ≡ true → hosting kind ≡ true → m.d ≡ 0
unfolding borne
borne_host kind m e h =
    eqb-true m.d 0 (or_right (hosting kind) (eqb m.d 0) (right_true (within_range m) (not (hosting kind) || eqb m.d 0) e) h)

pub kept_borne : (kind : NodeKind) (m : Misses) → within_range m ≡ true → (hosting kind ≡ true → m.d ≡ 0) → borne kind m ≡ true
unfolding borne
kept_borne kind m e h = rw e (go (hosting kind) h)
  where
    go : (b : Bool) → (b ≡ true → m.d ≡ 0) → (not b || eqb m.d 0) ≡ true
    go true h = eq-eqb m.d 0 (h refl)
    go false h = refl

plain_none : (edition : ℕ) (m : Misses) → plain edition m ≡ true → edition ≡ 1 → m ≡ no_misses
unfolding plain
plain_none edition m e h =
    let both = or_right (eqb edition 1) (eqb m.d 0 && eqb m.w 1) e (eq-eqb edition 1 h) in
    let d = eqb-true m.d 0 (left_true (eqb m.d 0) (eqb m.w 1) both) in
    let w = eqb-true m.w 1 (right_true (eqb m.d 0) (eqb m.w 1) both) in
    ap₂ (λ (d w : ℕ). record { d = d; w = w }) d w

pub kept_plain : (edition : ℕ) (m : Misses) → (edition ≡ 1 → m ≡ no_misses) → plain edition m ≡ true
unfolding plain
kept_plain edition m h = go (eqb edition 1) refl
  where
    go : (b : Bool) → eqb edition 1 ≡ b → (not b || (eqb m.d 0 && eqb m.w 1)) ≡ true
    go true e = rw (h (eqb-true edition 1 e))
    go false e = refl

-- four tests that hold together hold one by one
four_true : (a b c d : Bool) → (a && (b && (c && d))) ≡ true → (a ≡ true) × (b ≡ true) × (c ≡ true) × (d ≡ true)
four_true a b c d e =
    let bcd = right_true a (b && (c && d)) e in
    let cd = right_true b (c && d) bcd in
    (left_true a (b && (c && d)) e, left_true b (c && d) bcd, left_true c d cd, right_true c d cd)

module _ (plan : Plan) where
  -- the tests of a sound node, one by one
  record SoundNode (i : ℕ) : Type 0 where
    parent : parent_allowed plan i ≡ true
    shallow : within plan 8 i ≡ true
    wanted : well_formed (wanted_of plan i) ≡ true
    bears : borne (kind_of plan i) (misses_of plan i) ≡ true
    plainly : plain plan.edition (misses_of plan i) ≡ true
    served : well_formed (served_of plan i) ≡ true

  sound_node_lem : (i : ℕ) → sound_node plan i ≡ true → SoundNode i
  unfolding sound_node sound_misses
  sound_node_lem i e =
      let misses : Bool = borne (kind_of plan i) (misses_of plan i) && plain plan.edition (misses_of plan i) in
      let served : Bool = well_formed (served_of plan i) in
      let first = four_true (parent_allowed plan i) (within plan 8 i) (well_formed (wanted_of plan i)) (misses && served) e in
      let both = left_true misses served first.3 in
      record {
        parent = first.0;
        shallow = first.1;
        wanted = first.2;
        bears = left_true (borne (kind_of plan i) (misses_of plan i)) (plain plan.edition (misses_of plan i)) both;
        plainly = right_true (borne (kind_of plan i) (misses_of plan i)) (plain plan.edition (misses_of plan i)) both;
        served = right_true misses served first.3;
      }

  -- a value that passes the test keeps 2 to 7 and 19
  pub sound_kept : sound plan ≡ true → Sound plan
  unfolding sound sound_supply parent_allowed is_host
  sound_kept e =
      let edition = is_edition plan.edition in
      let cores = counts plan.cores 8 in
      let size = counts plan.size 64 in
      let tick = is_fit plan.tick in
      let supplies = all (sound_supply plan) plan.cores in
      let nodes = all (sound_node plan) plan.size in
      let counted = right_true edition (cores && (size && (tick && (supplies && nodes)))) e in
      let cores-fit = left_true cores (size && (tick && (supplies && nodes))) counted in
      let rest = four_true size tick supplies nodes (right_true cores (size && (tick && (supplies && nodes))) counted) in
      let each : (i : ℕ) → i < plan.size → sound_node plan i ≡ true = all_true_at (sound_node plan) plan.size rest.3 in
      record {
        edition = edition_one_of plan.edition (left_true edition (cores && (size && (tick && (supplies && nodes)))) e);
        some_core = counts_some plan.cores 8 cores-fit;
        eight_cores = counts_most plan.cores 8 cores-fit;
        some_node = counts_some plan.size 64 rest.0;
        sixty_four_nodes = counts_most plan.size 64 rest.0;
        tick = rest.1;
        supplies = all_true_at (sound_supply plan) plan.cores rest.2;
        wanted = λ i l. (sound_node_lem i (each i l)).wanted;
        misses = λ i l. borne_within (kind_of plan i) (misses_of plan i) (sound_node_lem i (each i l)).bears;
        hosts_hard = λ i l h. borne_host (kind_of plan i) (misses_of plan i) (sound_node_lem i (each i l)).bears h;
        first_edition = λ one i l. plain_none plan.edition (misses_of plan i) (sound_node_lem i (each i l)).plainly one;
        served = λ i l. (sound_node_lem i (each i l)).served;
        parents = λ i l. allows_allowed plan i (parent_of plan i) (sound_node_lem i (each i l)).parent;
        depths = λ i d l h.
            let found = within_depth plan 8 i (sound_node_lem i (each i l)).shallow in
            omega (arith, depth_unique plan h found.is, found.most);
      }

  -- each node of a value that keeps them is sound
  kept_node : Sound plan → (i : ℕ) → i < plan.size → sound_node plan i ≡ true
  unfolding sound_node sound_misses parent_allowed is_host
  kept_node s i l =
      let found = node_depth plan s i l in
      rw (
        allowed_allows plan i (s.parents i l),
        depth_within plan 8 found.is found.most,
        s.wanted i l,
        kept_borne (kind_of plan i) (misses_of plan i) (s.misses i l) (s.hosts_hard i l),
        kept_plain plan.edition (misses_of plan i) (λ one. s.first_edition one i l),
        s.served i l,
      )

  -- and such a value passes
  pub kept_sound : Sound plan → sound plan ≡ true
  unfolding sound sound_supply
  kept_sound s =
      rw (
        is_edition_lem plan.edition s.edition,
        counts_true plan.cores 8 s.some_core s.eight_cores,
        counts_true plan.size 64 s.some_node s.sixty_four_nodes,
        s.tick,
        all_true (sound_supply plan) plan.cores s.supplies,
        all_true (sound_node plan) plan.size (kept_node s),
      )

-- the test says yes exactly when the value keeps 2 to 7 and 19
pub sound_exactly : SoundExactly
sound_exactly plan = (sound_kept plan, kept_sound plan)

module _ (a b : Plan) (agree : Agree a b) (s : Sound a) where
  -- a parent that is allowed in the one is allowed in the other
  allowed_alike : (i : ℕ) → i < a.size → {p : Parent} → Allowed a i p → Allowed b i p
  unfolding is_host
  allowed_alike i l (supply {s = n} m) = supply {s = n} (omega (arith, agree.cores))
  allowed_alike i l (host {h = h} m e) = host m (sym (ap (λ n. hosting n.kind) (agree.nodes h (omega arith))) ∙ e)

  -- a depth in the other is one in the first
  depth_alike : {i d : ℕ} → i < a.size → Depth b i d → Depth a i d
  depth_alike {i = i} l (top e) = top (ap (λ n. n.parent) (agree.nodes i l) ∙ e)
  depth_alike {i = i} l (under {h = h} e m) =
      let up = ap (λ n. n.parent) (agree.nodes i l) ∙ e in
      under up (depth_alike (omega (arith, host_earlier a s i l h up)) m)

-- unused entries are ignored: a value that agrees with a sound one in all others is sound
pub unused_ignored : UnusedIgnored
unfolding is_host
unused_ignored a b agree s =
    let same : (i : ℕ) → i < b.size → i < a.size = λ i l. omega (arith, agree.size) in
    let core : (i : ℕ) → i < b.cores → i < a.cores = λ i l. omega (arith, agree.cores) in
    record {
      edition = rw agree.edition at s.edition;
      some_core = omega (arith, agree.cores, s.some_core);
      eight_cores = omega (arith, agree.cores, s.eight_cores);
      some_node = omega (arith, agree.size, s.some_node);
      sixty_four_nodes = omega (arith, agree.size, s.sixty_four_nodes);
      tick = rw agree.tick at s.tick;
      supplies = λ i l. rw (agree.supplies i (core i l)) at (s.supplies i (core i l));
      wanted = λ i l. sym (ap (λ n. well_formed n.wanted) (agree.nodes i (same i l))) ∙ s.wanted i (same i l);
      misses = λ i l. sym (ap (λ n. within_range n.misses) (agree.nodes i (same i l))) ∙ s.misses i (same i l);
      hosts_hard = λ i l h.
          sym (ap (λ n. n.misses.d) (agree.nodes i (same i l))) ∙
          s.hosts_hard i (same i l) (ap (λ n. hosting n.kind) (agree.nodes i (same i l)) ∙ h);
      first_edition = λ one i l.
          sym (ap (λ n. n.misses) (agree.nodes i (same i l))) ∙ s.first_edition (agree.edition ∙ one) i (same i l);
      served = λ i l. sym (ap (λ n. well_formed n.served) (agree.nodes i (same i l))) ∙ s.served i (same i l);
      parents = λ i l. rw (ap (λ n. n.parent) (agree.nodes i (same i l))) at (allowed_alike a b agree s i (same i l) (s.parents i (same i l)));
      depths = λ i d l h. s.depths i d (same i l) (depth_alike a b agree s (same i l) h);
    }
