-- The cores of one slot, one after the other, keep its books, and each leaf that fell is the answer of a core. So of one slot: who falls is the choice, at
-- the slot's start, of a parent that may give the slot. Assumes nothing.
use Prim.Native.Nat.{ℕ, zero, suc, ◌≤◌, ◌<◌}
use mathlib.Core.Bool.{Bool, true, false, cond, true≢false}
use mathlib.Core.List.{List}
use mathlib.Core.Logic.{◌⊎◌, inl, inr}
use mathlib.Core.Path.{◌≡◌, refl, sym, ap, ◌∙◌}
use lib.ListN.{length, get_or, set, replicate, length-set}
use lib.Seq.{get_or-set_same, get_or-set_other}
use native.Mathlib.Decide.{ℕ_discrete}
use native.Mathlib.Nat.{le_refl}
use native.Mathlib.Omega.{arith}
use Rattle.plans.specs.Plan.{parent_of}
use Rattle.plans.specs.Sound.{Sound}
use Rattle.plans.specs.declared.Parent.{Parent}
use Rattle.plans.specs.declared.Parent.TheVariants.{Supply, Node as Under}
use Rattle.plans.specs.declared.Plan.{Plan}
use Rattle.dispatch.proofs.SlotsFresh.{replicate_everywhere}
use Rattle.dispatch.proofs.SlotsDepth.{at_top}
use Rattle.dispatch.specs.View.{view_of, bit_of, is_leaf}
use Rattle.dispatch.specs.Slot.{WalkEnd, SlotEnd, walk, granting, serve_core, serve_to, unsupplied}
use Rattle.unending.proofs.Books.{Fell, Opened, opened_more, Books, Pending, shut_untouched}
use Rattle.unending.proofs.Walks.{Walks, walk_keeps}

module _ (plan : Plan) (supplied : ℕ) (passed : ℕ → Bool) (start : List ℕ) where
  -- where the first k cores have brought the counts and the answers
  pub record Cores (k : ℕ) (so : SlotEnd) : Type 0 where
    pub books : Books plan supplied passed start k (λ y. ⊥) so.left
    pub answered_fell : (i s : ℕ) → i < plan.size → s < k → get_or so.grants s unsupplied ≡ i → Fell start so.left i
    pub fell_answered : (i : ℕ) → is_leaf plan i ≡ true → Fell start so.left i → (s : ℕ) × (s < k) × (get_or so.grants s unsupplied ≡ i)
    pub later : (s : ℕ) → k ≤ s → get_or so.grants s unsupplied ≡ unsupplied
    pub eight : length so.grants ≡ 8

module _ (plan : Plan) (sound : Sound plan) (supplied : ℕ) (passed : ℕ → Bool) (start : List ℕ) where
  -- before the first core nothing has fallen
  cores_none : Cores plan supplied passed start 0 (record { grants = replicate 8 unsupplied; left = start })
  cores_none =
      record {
        books =
            record {
              no_more = λ i. le_refl (get_or start i 0);
              took = λ i f. absurd (omega arith);
              gave = λ x _ o i c. absurd (shut x o);
            };
        answered_fell = λ i s l none e. absurd (omega arith);
        fell_answered = λ i leaf f. absurd (omega arith);
        later = λ s l. replicate_everywhere 8 s unsupplied;
        eight = refl;
      }
    where
      shut : (x : Parent) → Opened supplied start 0 start x → ⊥
      shut (Supply s) o = omega arith
      shut (Under h) o = omega arith

  -- but for its own supply a core opens no parent before its walk
  opened_fewer : (k : ℕ) (now : List ℕ) (x : Parent) → (x ≡ Supply k → ⊥) → Opened supplied start (suc k) now x → Opened supplied start k now x
  opened_fewer k now (Supply s) other o = go (ℕ_discrete s k)
    where
      go : Dec (s ≡ k) → (s < k) × (bit_of supplied s ≡ true)
      go (yes e) = absurd (other (ap Supply e))
      go (no different) = (omega arith, o.1)
  opened_fewer k now (Under h) other o = o

  module _ (k : ℕ) (so : SlotEnd) (at : Cores plan supplied passed start k so) where
    -- the same books, as those of one core more: what was opened stays so
    one_more : (but : Parent → Type 0) → ((x : Parent) → (but x → ⊥) → Opened supplied start (suc k) so.left x → Opened supplied start k so.left x) →
        Books plan supplied passed start (suc k) but so.left
    one_more but before =
        record {
          no_more = at.books.no_more;
          took = λ i f.
              let t = at.books.took i f in
              record {
                by_one = t.by_one;
                chosen = t.chosen;
                opened = opened_more supplied start k (suc k) so.left so.left (omega arith) (λ h g. g) (parent_of plan i) t.opened;
              };
          gave = λ x free o i c. at.books.gave x (λ none. none) (before x free o) i c;
        }

    -- a core that is not supplied changes nothing
    core_passed : bit_of supplied k ≡ false → Cores plan supplied passed start (suc k) so
    core_passed off =
        record {
          books = one_more (λ y. ⊥) (λ x _. before x);
          answered_fell = λ i s l below e. answered i s l below e (ℕ_discrete s k);
          fell_answered = λ i leaf f. let (s, l, e) = at.fell_answered i leaf f in (s, omega arith, e);
          later = λ s l. at.later s (omega arith);
          eight = at.eight;
        }
      where
        before : (x : Parent) → Opened supplied start (suc k) so.left x → Opened supplied start k so.left x
        before x o = opened_fewer k so.left x (λ e. true≢false (sym (rw e at o).1 ∙ off)) o

        answered : (i s : ℕ) → i < plan.size → s < suc k → get_or so.grants s unsupplied ≡ i → Dec (s ≡ k) → Fell start so.left i
        answered i s l below e (yes is) = absurd (omega (arith, at.later s (omega arith), sound.sixty_four_nodes))
        answered i s l below e (no other) = at.answered_fell i s l (omega arith) e

    -- a supplied core's walk begins with its supply's children untouched
    core_pending : bit_of supplied k ≡ true → Pending plan supplied passed start (suc k) (Supply k) so.left
    core_pending on =
        record {
          books = one_more (λ y. y ≡ Supply k) (opened_fewer k so.left);
          opened = (omega arith, on);
          untouched = λ i l up. shut_untouched plan supplied passed start k (λ y. ⊥) so.left at.books (Supply k) (λ o. omega arith) i up;
        }

    -- and when it ends its grant is the core's answer
    core_granted : k < 8 → (w : WalkEnd) → Walks plan supplied passed start (suc k) so.left w → Cores plan supplied passed start (suc k) (granting so k w)
    unfolding granting
    core_granted below w ends =
        record {
          books = ends.books;
          answered_fell = λ i s l m e. answered i s l m e (ℕ_discrete s k);
          fell_answered = λ i leaf f. fell i leaf (ends.fell_granted i leaf f);
          later = λ s l. kept s (λ e. omega arith) ∙ at.later s (omega arith);
          eight = length-set so.grants k w.grant ∙ at.eight;
        }
      where
        here : get_or (set so.grants k w.grant) k unsupplied ≡ w.grant
        here = get_or-set_same so.grants k w.grant unsupplied (omega (arith, at.eight))

        kept : (s : ℕ) → (s ≡ k → ⊥) → get_or (set so.grants k w.grant) s unsupplied ≡ get_or so.grants s unsupplied
        kept s other = get_or-set_other so.grants k s w.grant unsupplied other

        answered : (i s : ℕ) → i < plan.size → s < suc k → get_or (set so.grants k w.grant) s unsupplied ≡ i → Dec (s ≡ k) → Fell start w.left i
        answered i s l m e (yes is) = ends.granted_fell i l (sym here ∙ (rw is at e))
        answered i s l m e (no other) = ends.still i (at.answered_fell i s l (omega arith) (sym (kept s other) ∙ e))

        fell : (i : ℕ) → is_leaf plan i ≡ true → Fell start so.left i ⊎ (w.grant ≡ i) →
            (s : ℕ) × (s < suc k) × (get_or (set so.grants k w.grant) s unsupplied ≡ i)
        fell i leaf (inl f) =
            let (s, l, e) = at.fell_answered i leaf f in
            (s, omega arith, kept s (λ is. omega arith) ∙ e)
        fell i leaf (inr e) = (k, omega arith, here ∙ e)

    -- so each core keeps what the cores before it have brought
    core_kept : k < 8 → Cores plan supplied passed start (suc k) (serve_core (view_of plan) supplied passed so k)
    unfolding serve_core
    core_kept below = go (bit_of supplied k) refl
      where
        go : (b : Bool) → bit_of supplied k ≡ b →
            Cores plan supplied passed start (suc k) (cond b (granting so k (walk (view_of plan) passed 8 (Supply k) so.left)) so)
        go true on =
            core_granted below (walk (view_of plan) passed 8 (Supply k) so.left)
            (walk_keeps plan sound supplied passed start (suc k) 8 at_top (omega arith) so.left (core_pending on))
        go false off = core_passed off

  -- the first k cores, from the slot's start
  pub cores_kept : (k : ℕ) → k ≤ 8 →
      Cores plan supplied passed start k (serve_to (view_of plan) supplied passed (record { grants = replicate 8 unsupplied; left = start }) k)
  unfolding serve_to
  cores_kept zero l = cores_none
  cores_kept (suc k) l =
      core_kept k (serve_to (view_of plan) supplied passed (record { grants = replicate 8 unsupplied; left = start }) k) (cores_kept k (omega arith)) l
