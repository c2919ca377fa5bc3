-- Why the level lemma of specs/Level.antt holds: where a parent gives what it owes and its children keep rules 13 and 14, the slots offered to a child
-- honour its served type, aligned. Assumes nothing.
use Prim.Native.Nat.{ℕ, zero, suc, ◌+◌, ◌*◌, ◌/◌, ◌%◌, ◌≤◌, ◌<◌}
use mathlib.Core.Bool.{Bool, true, false, cond, ◌&&◌}
use mathlib.Core.Path.{◌≡◌, refl, sym, ap, ◌∙◌}
use native.Mathlib.Nat.{mul-zero, mul-add, mul_assoc, mul_comm, mul_left_comm, le_refl, le_of_eq, le_trans, le_of_mul-le-mul_left, div-eq_of_eq-mul_left, le-div_iff_mul-le}
use native.Mathlib.Decide.{dec_le}
use native.Mathlib.Omega.{arith}
use Rattle.meaning.specs.Allocation.{Allocation, bit, ones}
use Rattle.owed.proofs.Ones.{ones_mono}
use Rattle.rules.specs.Fit.{sum_to}
use Rattle.rules.proofs.Siblings as siblings
use Rattle.rules.proofs.Siblings.{whole_periods, longer_multiple}
use Rattle.rules.proofs.Totals.{sum_add, sum_multiple, sum_le, sum_without, term_le}
use Rattle.levels.specs.Level.{Level, Child, Offered, longest, load, Kept, OfferedHonours}
use Rattle.levels.proofs.Books.{never_over_in, left_throughout}

-- where b divides a and a divides m, b goes into m as often as a does, times as often as b goes into a
divides_through : (m a b : ℕ) → 0 < b → m % a ≡ 0 → a % b ≡ 0 → m / b ≡ m / a * (a / b)
divides_through m a b some e h =
    div-eq_of_eq-mul_left some
    (sym (whole_periods m a e) ∙ ap (λ (k : ℕ). m / a * k) (sym (whole_periods a b h)) ∙ sym (mul_assoc (m / a) (a / b) b))

-- a guarded sum of two is the sum of both, guarded
guarded_add : (b : Bool) (x y : ℕ) → cond b (x + y) 0 ≡ cond b x 0 + cond b y 0
guarded_add true x y = refl
guarded_add false x y = refl

module _ (l : Level) (kept : Kept l) where
  -- each child's period has a slot
  some : (i : ℕ) → Child l i → 0 < l.t i
  some i h = (kept.books i h).some

  -- no child's period is over the longest
  longest_ge : (i : ℕ) → Child l i → l.t i ≤ longest l
  unfolding longest
  longest_ge i h = siblings.longest_ge l.child l.t l.size i h.there h.is

  -- and each divides it
  longest_multiple : (i : ℕ) → Child l i → longest l % l.t i ≡ 0
  unfolding longest
  longest_multiple i h =
      siblings.longest_multiple l.child l.t l.size i h.there h.is (some i h) (λ k m e. kept.rule13 i k h (record { there = m; is = e }))

  module _ (i : ℕ) (h : Child l i) where
    -- f j where j is a child that is served sooner than i, and 0 elsewhere
    ahead : (ℕ → ℕ) → ℕ → ℕ
    ahead f j = cond (l.child j && l.sooner j i) (f j) 0

    -- what holds of 0, and of f j where child j is served sooner, holds of it
    by_ahead : (Q : ℕ → Type 0) (f : ℕ → ℕ) (j : ℕ) → j < l.size → Q 0 → (Child l j → l.sooner j i ≡ true → Q (f j)) → Q (ahead f j)
    unfolding ahead
    by_ahead Q f j m none some = go (l.child j) (l.sooner j i) refl refl
      where
        go : (b s : Bool) → l.child j ≡ b → l.sooner j i ≡ s → Q (cond (b && s) (f j) 0)
        go true true b s = some (record { there = m; is = b }) s
        go true false b s = none
        go false s b e = none

    -- there it is f j
    ahead_is : (f : ℕ → ℕ) (j : ℕ) → Child l j → l.sooner j i ≡ true → ahead f j ≡ f j
    unfolding ahead
    ahead_is f j m s = rw (m.is, s)

    -- it is 0 at i itself
    ahead_own : (f : ℕ → ℕ) → ahead f i ≡ 0
    unfolding ahead
    ahead_own f = rw (h.is, kept.other i)

    -- and adds up
    ahead_add : (f g : ℕ → ℕ) (j : ℕ) → ahead (λ k. f k + g k) j ≡ ahead f j + ahead g j
    unfolding ahead
    ahead_add f g j = guarded_add (l.child j && l.sooner j i) (f j) (g j)

    -- the period of a child that is served sooner divides i's
    sooner_divides : (j : ℕ) → Child l j → l.sooner j i ≡ true → l.t i % l.t j ≡ 0
    sooner_divides j m s = longer_multiple (l.t j) (l.t i) (some j m) (kept.shorter i j s) (kept.rule13 j i m h)

    -- what child j asks for in one period of i
    asks : ℕ → ℕ
    asks j = l.c j * (l.t i / l.t j)

    -- how often i's period goes into the longest
    often : ℕ
    often = longest l / l.t i

    -- at least once
    once : 0 < often
    unfolding often
    once = (le-div_iff_mul-le (some i h)).1 (omega (arith, longest_ge i h))

    -- so often a child ahead of i asks for that in the longest period
    ahead_load : (j : ℕ) → j < l.size → often * ahead asks j ≤ load l (longest l) j
    unfolding asks load often
    ahead_load j m =
        by_ahead (λ x. often * x ≤ load l (longest l) j) asks j m (rw (mul-zero often) (omega arith))
        (λ is s.
        rw (is.is, divides_through (longest l) (l.t i) (l.t j) (some j is) (longest_multiple i h) (sooner_divides j is s))
        (le_of_eq (mul_left_comm often (l.c j) (l.t i / l.t j))))

    -- and i for its own C
    own_load : load l (longest l) i ≡ often * l.c i
    unfolding load often
    own_load = rw h.is (mul_comm (l.c i) (longest l / l.t i))

    -- rule 14, cut down to one period of i: what those ahead of i ask for and i's own C are together at most what the parent owes
    ahead_fits : sum_to (ahead asks) l.size + l.c i ≤ l.owes (l.t i)
    unfolding often
    ahead_fits = le_of_mul-le-mul_left (le_trans parts (le_trans kept.rule14 scaled)) once
      where
        none_own : often * ahead asks i ≡ 0
        none_own = rw (ahead_own asks) (mul-zero often)

        parts : often * (sum_to (ahead asks) l.size + l.c i) ≤ sum_to (load l (longest l)) l.size
        parts =
            rw (mul-add, ← own_load, ← sum_multiple often (ahead asks) l.size)
            (sum_without (λ j. often * ahead asks j) (load l (longest l)) l.size i h.there none_own ahead_load)

        scaled : l.owes (longest l) ≤ often * l.owes (l.t i)
        scaled = rw (whole_periods (longest l) (l.t i) (longest_multiple i h)) at (kept.scales i h often)

    -- how often child j is charged in m slots from s on
    times : ℕ → ℕ → ℕ → ℕ
    times s m j = ones (l.charged j) s m

    -- in one period of i those ahead of i are charged no more than they ask for
    ahead_books : (b j : ℕ) → j < l.size → ahead (times (b * l.t i) (l.t i)) j ≤ ahead asks j
    unfolding asks times
    ahead_books b j m =
        by_ahead (λ x. x ≤ ahead asks j) (times (b * l.t i) (l.t i)) j m (omega arith)
        (λ is s. rw (ahead_is asks j is s) (never_over_in (kept.books j is) (l.t i) (sooner_divides j is s) b))

    module _ (α : Allocation) (covers : (x : ℕ) → Offered l i x → α x ≡ true) where
      -- a slot that the parent may give while i has slots left is offered to i or charged to one ahead of it
      one_slot : (x : ℕ) → 0 < l.has i x → bit (l.gives x) ≤ bit (α x) + sum_to (ahead (λ j. bit (l.charged j x))) l.size
      one_slot x left = go (l.gives x) refl (sum_to (ahead taken) l.size) refl
        where
          taken : ℕ → ℕ
          taken j = bit (l.charged j x)

          unset : (b : Bool) → bit b ≤ 0 → b ≡ false
          unset true e = absurd (omega arith)
          unset false e = refl

          passed : sum_to (ahead taken) l.size ≡ 0 → (j : ℕ) → Child l j → l.sooner j i ≡ true → l.charged j x ≡ false
          passed e j m s = unset (l.charged j x) (omega (arith, ahead_is taken j m s, term_le (ahead taken) l.size j m.there))

          go : (g : Bool) → l.gives x ≡ g → (k : ℕ) → sum_to (ahead taken) l.size ≡ k → bit g ≤ bit (α x) + k
          go true g zero e = rw (covers x (record { given = g; left = left; passed = passed e })) (omega arith)
          go true g (suc k) e = omega arith
          go false g k e = omega arith

      -- so is each such slot of a window in which i has slots left
      in_window : (s m : ℕ) → ((a : ℕ) → a < m → 0 < l.has i (s + a)) →
          ones l.gives s m ≤ ones α s m + sum_to (ahead (times s m)) l.size
      unfolding ones times
      in_window s zero left = omega arith
      in_window s (suc m) left =
          let last : ℕ → ℕ = λ j. bit (l.charged j (s + m)) in
          omega (
            arith,
            in_window s m (λ a k. left a (omega arith)),
            one_slot (s + m) (left m (le_refl (suc m))),
            sum_add (ahead (times s m)) (ahead last) (ahead (times s (suc m))) l.size (λ j k. ahead_add (times s m) last j),
          )

      -- an allocation that has every slot offered to child i honours its served type, aligned
      honours : (b : ℕ) → l.c i ≤ ones α (b * l.t i) (l.t i)
      honours b = go (dec_le (l.c i) (ones (l.charged i) (b * l.t i) (l.t i)))
        where
          go : Dec (l.c i ≤ ones (l.charged i) (b * l.t i) (l.t i)) → l.c i ≤ ones α (b * l.t i) (l.t i)
          go (yes full) =
              le_trans full (ones_mono (l.charged i) α (λ x e. covers x (kept.offered i h x e)) (b * l.t i) (l.t i))
          go (no short) =
              omega (
                arith,
                in_window (b * l.t i) (l.t i) (left_throughout (kept.books i h) b (omega arith)),
                sum_le (ahead (times (b * l.t i) (l.t i))) (ahead asks) l.size (ahead_books b),
                ahead_fits,
                kept.given i h b,
              )

-- the level lemma
pub offered_honours : OfferedHonours
offered_honours = honours
