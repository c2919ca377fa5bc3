-- One walk keeps the books of its slot: each level charges the choice at the slot's start of the parent where it stands, and in the end no parent's
-- choice is left out. Its grant is the one leaf that fell in it. Assumes nothing.
use Prim.Native.Nat.{ℕ, zero, suc, ◌+◌, ◌≤◌, ◌<◌}
use mathlib.Core.Bool.{Bool, true, false, cond, true≢false}
use mathlib.Core.List.{List}
use mathlib.Core.Logic.{◌⊎◌, inl, inr}
use mathlib.Core.Path.{◌≡◌, refl, sym, ap, ◌∙◌}
use lib.ListN.{get_or}
use borrow.Author.Tests.{not-true}
use native.Mathlib.Decide.{ℕ_discrete}
use native.Mathlib.Nat.{suc-add, add-suc}
use native.Mathlib.Omega.{arith}
use Rattle.plans.proofs.Parents.{host_earlier, host_hosts}
use Rattle.plans.specs.Plan.{parent_of, is_host}
use Rattle.plans.specs.Sound.{Sound}
use Rattle.plans.specs.declared.Parent.{Parent}
use Rattle.plans.specs.declared.Parent.TheVariants.{Supply, Node as Under}
use Rattle.plans.specs.declared.Plan.{Plan}
use Rattle.dispatch.proofs.Choices.{choice_below, choice_under, choice_left, choice_local}
use Rattle.dispatch.proofs.Slots.{charge_same, charge_other}
use Rattle.dispatch.proofs.SlotsDepth.{Stands, choice_stands, deepest_nobody}
use Rattle.dispatch.specs.View.{view_of, is_leaf}
use Rattle.dispatch.specs.Choice.{Pick, nobody, just, choose}
use Rattle.dispatch.specs.Slot.{WalkEnd, charge, follow, walk, idle}
use Rattle.unending.proofs.Books.{Fell, Opened, opened_more, parent_decided, Took, Books, Pending, shut_untouched}

module _ (plan : Plan) (supplied : ℕ) (passed : ℕ → Bool) (start : List ℕ) where
  -- what a walk from the counts `now` comes to: the books with nothing left out, what fell stays fallen, and the grant names the leaf that fell
  pub record Walks (k : ℕ) (now : List ℕ) (w : WalkEnd) : Type 0 where
    pub books : Books plan supplied passed start k (λ y. ⊥) w.left
    pub still : (i : ℕ) → Fell start now i → Fell start w.left i
    pub granted_fell : (i : ℕ) → i < plan.size → w.grant ≡ i → Fell start w.left i
    pub fell_granted : (i : ℕ) → is_leaf plan i ≡ true → Fell start w.left i → Fell start now i ⊎ (w.grant ≡ i)

module _ (plan : Plan) (sound : Sound plan) (supplied : ℕ) (passed : ℕ → Bool) (start : List ℕ) (k : ℕ) where
  -- where a choice is nobody or has fallen, nothing is left out
  closed : (x : Parent) (now : List ℕ) → Books plan supplied passed start k (λ y. y ≡ x) now →
      ((i : ℕ) → choose (view_of plan) start passed x ≡ just i → Fell start now i) → Books plan supplied passed start k (λ y. ⊥) now
  closed x now b last =
      record {
        no_more = b.no_more;
        took = b.took;
        gave = λ y _ o i c. go y o i c (parent_decided y x);
      }
    where
      go : (y : Parent) → Opened supplied start k now y → (i : ℕ) → choose (view_of plan) start passed y ≡ just i → Dec (y ≡ x) → Fell start now i
      go y o i c (yes e) = last i (rw e at c)
      go y o i c (no other) = b.gave y other o i c

  -- a walk that finds nobody ends where it stands
  ends : (x : Parent) (now : List ℕ) → Pending plan supplied passed start k x now → choose (view_of plan) start passed x ≡ nobody →
      Walks plan supplied passed start k now (record { grant = idle; left = now })
  ends x now p none =
      record {
        books = closed x now p.books (λ i c. absurd (let z : ◌≡◌ {A = ℕ} 0 1 = cc in omega arith));
        still = λ i f. f;
        granted_fell = λ i l e. absurd (omega (arith, sound.sixty_four_nodes));
        fell_granted = λ i leaf f. inl f;
      }

  module _ (x : Parent) (now : List ℕ) (p : Pending plan supplied passed start k x now) (i : ℕ)
      (c : choose (view_of plan) start passed x ≡ just i) where
    -- the choice at the start is a node there, and a child of x
    there : i < plan.size
    there = choice_below (view_of plan) start passed x i c

    beneath : parent_of plan i ≡ x
    beneath = choice_under (view_of plan) start passed x i c

    -- the count in hand of the choice is that at the start, and no 0
    whole : get_or now i 0 ≡ get_or start i 0
    whole = p.untouched i there beneath

    some : 0 < get_or start i 0
    some = choice_left (view_of plan) start passed x i c

    -- charged, it has fallen by one
    by_one : get_or start i 0 ≡ suc (get_or (charge now i) i 0)
    by_one = omega (arith, charge_same now i, whole, some)

    -- what fell before stays fallen
    still : (j : ℕ) → Fell start now j → Fell start (charge now i) j
    still j f = go (ℕ_discrete j i)
      where
        go : Dec (j ≡ i) → Fell start (charge now i) j
        go (yes e) = rw e (omega (arith, by_one))
        go (no other) = rw (charge_other now i j other) f

    -- and nothing else falls
    other_fell : (j : ℕ) → (j ≡ i → ⊥) → Fell start (charge now i) j → Fell start now j
    other_fell j other f = rw (charge_other now i j other) at f

    -- what has fallen with the charge took a slot of its parent
    charged_took : (j : ℕ) → Fell start (charge now i) j → Took plan supplied passed start k (charge now i) j
    charged_took j f = go (ℕ_discrete j i)
      where
        go : Dec (j ≡ i) → Took plan supplied passed start k (charge now i) j
        go (yes e) =
            record {
              by_one = rw e by_one;
              chosen = rw (e, beneath) c;
              opened = rw (e, beneath) (opened_more supplied start k k now (charge now i) (omega arith) still x p.opened);
            }
        go (no other) =
            let t = p.books.took j (other_fell j other f) in
            record {
              by_one = rw (charge_other now i j other) t.by_one;
              chosen = t.chosen;
              opened = opened_more supplied start k k now (charge now i) (omega arith) still (parent_of plan j) t.opened;
            }

    -- a parent other than the charged one was opened before the charge
    opened_before : (y : Parent) → (y ≡ Under i → ⊥) → Opened supplied start k (charge now i) y → Opened supplied start k now y
    opened_before (Supply s) other o = o
    opened_before (Under h) other o = other_fell h (λ e. other (ap Under e)) o

    -- and the choice of each parent but the charged one has fallen
    charged_gave : (y : Parent) → (y ≡ Under i → ⊥) → Opened supplied start k (charge now i) y → (j : ℕ) → choose (view_of plan) start passed y ≡ just j →
        Fell start (charge now i) j
    charged_gave y below o j d = go (parent_decided y x)
      where
        go : Dec (y ≡ x) → Fell start (charge now i) j
        go (yes e) =
            let same : j ≡ i = cc in
            rw same (omega (arith, by_one))
        go (no other) = still j (p.books.gave y other (opened_before y below o) j d)

    -- the books with the choice charged, but for the choice below it
    charged_books : Books plan supplied passed start k (λ y. y ≡ Under i) (charge now i)
    charged_books =
        record {
          no_more = λ j. go j (ℕ_discrete j i);
          took = charged_took;
          gave = charged_gave;
        }
      where
        go : (j : ℕ) → Dec (j ≡ i) → get_or (charge now i) j 0 ≤ get_or start j 0
        go j (yes e) = rw e (omega (arith, by_one))
        go j (no other) = rw (charge_other now i j other) (p.books.no_more j)

    -- a leaf has nobody below it, so the walk ends there, and its grant is the leaf
    at_leaf : is_leaf plan i ≡ true → Walks plan supplied passed start k now (record { grant = i; left = charge now i })
    unfolding is_leaf
    at_leaf leaf =
        record {
          books = closed (Under i) (charge now i) charged_books (λ j d.
              let up = choice_under (view_of plan) start passed (Under i) j d in
              let host = host_hosts plan sound j (choice_below (view_of plan) start passed (Under i) j d) i up in
              absurd (true≢false (sym host ∙ not-true (is_host plan i) leaf)));
          still = still;
          granted_fell = λ j l e. rw (← e) (omega (arith, by_one));
          fell_granted = λ j is f. go j f (ℕ_discrete j i);
        }
      where
        go : (j : ℕ) → Fell start (charge now i) j → Dec (j ≡ i) → Fell start now j ⊎ (i ≡ j)
        go j f (yes e) = inr (sym e)
        go j f (no other) = inl (other_fell j other f)

    -- a host's children are untouched when it is charged, so the walk goes on below it
    at_host : Pending plan supplied passed start k (Under i) (charge now i)
    at_host =
        record {
          books = charged_books;
          opened = omega (arith, by_one);
          untouched = λ j l up.
              let later = host_earlier plan sound j l i up in
              charge_other now i j (λ e. omega arith) ∙
              shut_untouched plan supplied passed start k (λ y. y ≡ x) now p.books (Under i) (λ f. omega (arith, whole)) j up;
        }

    -- what the walk below a host comes to is what the walk from its parent comes to
    through : is_leaf plan i ≡ false → (w : WalkEnd) → Walks plan supplied passed start k (charge now i) w → Walks plan supplied passed start k now w
    through host w below =
        record {
          books = below.books;
          still = λ j f. below.still j (still j f);
          granted_fell = below.granted_fell;
          fell_granted = λ j leaf f. go j leaf (below.fell_granted j leaf f);
        }
      where
        go : (j : ℕ) → is_leaf plan j ≡ true → Fell start (charge now i) j ⊎ (w.grant ≡ j) → Fell start now j ⊎ (w.grant ≡ j)
        go j leaf (inl f) = inl (other_fell j (λ e. true≢false (sym leaf ∙ ap (is_leaf plan) e ∙ host)) f)
        go j leaf (inr e) = inr e

    -- what follows the choice, where the walk below a host keeps the books
    followed : (onward : Parent → List ℕ → WalkEnd) → Walks plan supplied passed start k (charge now i) (onward (Under i) (charge now i)) →
        Walks plan supplied passed start k now (follow (view_of plan) onward now (just i))
    unfolding follow
    followed onward below = go (is_leaf plan i) refl
      where
        go : (b : Bool) → is_leaf plan i ≡ b →
            Walks plan supplied passed start k now (cond b (record { grant = i; left = charge now i }) (onward (Under i) (charge now i)))
        go true leaf = at_leaf leaf
        go false host = through host (onward (Under i) (charge now i)) below

  -- a walk keeps the books, given a level for each depth below its parent
  pub walk_keeps : (levels : ℕ) {x : Parent} {e : ℕ} → Stands plan x e → 8 ≤ e + levels → (now : List ℕ) → Pending plan supplied passed start k x now →
      Walks plan supplied passed start k now (walk (view_of plan) passed levels x now)
  unfolding walk follow
  walk_keeps zero {x = x} s l now p = ends x now p (deepest_nobody plan sound passed s (omega arith) start)
  walk_keeps (suc levels) {x = x} {e = e} s l now p =
      rw (choice_local (view_of plan) now start passed x p.untouched)
      (go (choose (view_of plan) start passed x) refl
      (λ i c.
      let deeper : 8 ≤ suc e + levels = omega (arith, suc-add e levels, add-suc e levels) in
      walk_keeps levels (choice_stands plan sound passed s start i c) deeper (charge now i) (at_host x now p i c)))
    where
      go : (w : Pick) → choose (view_of plan) start passed x ≡ w → ((i : ℕ) → choose (view_of plan) start passed x ≡ just i →
          Walks plan supplied passed start k (charge now i) (walk (view_of plan) passed levels (Under i) (charge now i))) →
          Walks plan supplied passed start k now (follow (view_of plan) (walk (view_of plan) passed levels) now w)
      go nobody c below = ends x now p c
      go (just i) c below = followed x now p i c (walk (view_of plan) passed levels) (below i c)
