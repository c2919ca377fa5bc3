-- What a slot reads: views that agree at every node that is there, counts that agree there, words that agree on the leaves and bytes that agree on the
-- supplies give the same answers, and counts that agree again. Assumes nothing.
use Prim.Native.Nat.{ℕ, zero, suc, ◌+◌, ◌-◌, ◌≤◌, ◌<◌}
use mathlib.Core.Bool.{Bool, true, false, cond}
use mathlib.Core.List.{List}
use mathlib.Core.Path.{◌≡◌, refl, sym, ap, ◌∙◌}
use lib.ListN.{length, get_or, set, length-set}
use lib.Seq.{get_or-set_same, get_or-set_other, set_out}
use native.Mathlib.Decide.{ℕ_discrete, dec_lt}
use native.Mathlib.Nat.{le_refl}
use native.Mathlib.Omega.{arith}
use Rattle.plans.specs.declared.Parent.{Parent}
use Rattle.plans.specs.declared.Parent.TheVariants.{Supply, Node as Under}
use Rattle.dispatch.proofs.Choices.{Alike, second_asked, choice_below, choice_alike}
use Rattle.dispatch.specs.View.{View, bit_of}
use Rattle.dispatch.specs.Choice.{Pick, nobody, just, choose}
use Rattle.dispatch.specs.Passed.{is_nobody, passed_to, passed_over, levels_down}
use Rattle.dispatch.specs.Slot.{WalkEnd, SlotEnd, due, refill_one, refill_to, refilled, charge, follow, walk, granting, serve_core, serve_to, slot_start, slot}
use Rattle.dispatch.specs.Run.{Course, course_to, fresh_to, fresh_left}
use Rattle.dispatch.specs.Unused.{SameBelow}
use Rattle.dispatch.specs.declared.Setting.{Setting}
use Rattle.dispatch.specs.declared.Setting.TheVariants.{Off}

-- two words that agree in the bit of every leaf that is there
abbrev pub SameLeaves : View → ℕ → ℕ → Type 0
SameLeaves v declines others = (i : ℕ) → i < v.size → v.leaf i ≡ true → bit_of declines i ≡ bit_of others i

-- the same number set at the same place keeps two lists the same below k
set_alike : (k : ℕ) (a b : List ℕ) (i x : ℕ) → SameBelow k a b → SameBelow k (set a i x) (set b i x)
set_alike k a b i x alike =
    record { long = length-set a i x ∙ alike.long ∙ sym (length-set b i x); same = λ j l. go j (alike.same j l) (ℕ_discrete j i) (dec_lt i (length a)) }
  where
    go : (j : ℕ) → get_or a j 0 ≡ get_or b j 0 → Dec (j ≡ i) → Dec (i < length a) → get_or (set a i x) j 0 ≡ get_or (set b i x) j 0
    go j e (no other) place = get_or-set_other a i j x 0 other ∙ e ∙ sym (get_or-set_other b i j x 0 other)
    go j e (yes at) (yes here) = rw at (get_or-set_same a i x 0 here ∙ sym (get_or-set_same b i x 0 (omega (arith, alike.long))))
    go j e (yes at) (no past) = rw (set_out a i x (omega arith), set_out b i x (omega (arith, alike.long))) e

-- and so does a charge of a node below k
charge_alike : (k : ℕ) (a b : List ℕ) (i : ℕ) → i < k → SameBelow k a b → SameBelow k (charge a i) (charge b i)
unfolding charge
charge_alike k a b i l alike = rw (← (alike.same i l)) (set_alike k a b i (get_or a i 0 - 1) alike)

-- two walks that end alike
record SameWalk (k : ℕ) (a b : WalkEnd) : Type 0 where
  grant : a.grant ≡ b.grant
  left : SameBelow k a.left b.left

-- two slots that end alike
record SameSlot (k : ℕ) (a b : SlotEnd) : Type 0 where
  grants : a.grants ≡ b.grants
  left : SameBelow k a.left b.left

-- two runs that go alike
pub record SameCourse (k : ℕ) (a b : Course) : Type 0 where
  pub answers : a.answers ≡ b.answers
  pub left : SameBelow k a.left b.left

module _ (v w : View) (alike : Alike v w) where
  -- a fresh start reads the served C of the nodes that are there
  pub fresh_alike : fresh_left v ≡ fresh_left w
  unfolding fresh_left fresh_to
  fresh_alike = go v.size (le_refl v.size) ∙ ap (fresh_to w) alike.size
    where
      go : (k : ℕ) → k ≤ v.size → fresh_to v k ≡ fresh_to w k
      go zero l = refl
      go (suc k) l = rw (go k (omega arith), alike.c k l)

  -- a refill reads their served types and counts
  refill_one_alike : (n : ℕ) (left other : List ℕ) (i : ℕ) → i < v.size → SameBelow v.size left other →
      SameBelow v.size (refill_one v n left i) (refill_one w n other i)
  unfolding refill_one due
  refill_one_alike n left other i l h = rw (← (alike.t i l), ← (alike.c i l)) (go (due v n i))
    where
      go : (b : Bool) → SameBelow v.size (cond b (set left i (v.c i)) left) (cond b (set other i (v.c i)) other)
      go true = set_alike v.size left other i (v.c i) h
      go false = h

  refill_alike : (n : ℕ) (left other : List ℕ) → SameBelow v.size left other → SameBelow v.size (refilled v n left) (refilled w n other)
  unfolding refilled refill_to
  refill_alike n left other h =
      let sized : refill_to w n other v.size ≡ refilled w n other = ap (refill_to w n other) alike.size in
      rw sized at (go v.size (le_refl v.size))
    where
      go : (k : ℕ) → k ≤ v.size → SameBelow v.size (refill_to v n left k) (refill_to w n other k)
      go zero l = h
      go (suc k) l = refill_one_alike n (refill_to v n left k) (refill_to w n other k) k l (go k (omega arith))

  module _ (left other : List ℕ) (counts : SameBelow v.size left other) (declines others : ℕ) (words : SameLeaves v declines others) where
    -- who is passed over is told by the counts, and of the words by the bits of leaves
    passed_alike : (k i : ℕ) → i < v.size → passed_to v left declines k i ≡ passed_to w other others k i
    unfolding passed_to
    passed_alike zero i l = rw (← (alike.leaf i l)) (second_asked (v.leaf i) (bit_of declines i) (bit_of others i) (words i l))
    passed_alike (suc k) i l = rw (← (alike.leaf i l)) (go (v.leaf i) refl (passed_alike k))
      where
        go : (b : Bool) → v.leaf i ≡ b → ((j : ℕ) → j < v.size → passed_to v left declines k j ≡ passed_to w other others k j) →
            cond b (bit_of declines i) (is_nobody (choose v left (passed_to v left declines k) (Under i))) ≡
            cond b (bit_of others i) (is_nobody (choose w other (passed_to w other others k) (Under i)))
        go true leaf before = words i l leaf
        go false host before =
            ap is_nobody
            (choice_alike v w alike left other (passed_to v left declines k) (passed_to w other others k) (Under i) (λ j m up. counts.same j m)
            (λ j m up. before j m))

  module _ (passed others : ℕ → Bool) (tests : (i : ℕ) → i < v.size → passed i ≡ others i) where
    -- a walk charges nodes that are there, and asks of them whether they are passed over
    walk_alike : (levels : ℕ) (x : Parent) (left other : List ℕ) → SameBelow v.size left other →
        SameWalk v.size (walk v passed levels x left) (walk w others levels x other)
    unfolding walk follow
    walk_alike zero x left other h = record { grant = refl; left = h }
    walk_alike (suc levels) x left other h =
        rw (← (choice_alike v w alike left other passed others x (λ i l up. h.same i l) (λ i l up. tests i l))) (go (choose v left passed x) refl (walk_alike levels))
      where
        go : (p : Pick) → choose v left passed x ≡ p →
            ((y : Parent) (a b : List ℕ) → SameBelow v.size a b → SameWalk v.size (walk v passed levels y a) (walk w others levels y b)) →
            SameWalk v.size (follow v (walk v passed levels) left p) (follow w (walk w others levels) other p)
        go nobody e below = record { grant = refl; left = h }
        go (just i) e below =
            let l = choice_below v left passed x i e in
            let less = charge_alike v.size left other i l h in
            rw (← (alike.leaf i l)) (at (v.leaf i) less (below (Under i) (charge left i) (charge other i) less))
          where
            at : (b : Bool) → SameBelow v.size (charge left i) (charge other i) →
                SameWalk v.size (walk v passed levels (Under i) (charge left i)) (walk w others levels (Under i) (charge other i)) →
                SameWalk v.size (cond b (record { grant = i; left = charge left i }) (walk v passed levels (Under i) (charge left i)))
                (cond b (record { grant = i; left = charge other i }) (walk w others levels (Under i) (charge other i)))
            at true less onward = record { grant = refl; left = less }
            at false less onward = onward

    module _ (cores supplied supplied' : ℕ) (bytes : (s : ℕ) → s < cores → bit_of supplied s ≡ bit_of supplied' s) where
      -- serving a core reads its own bit of the byte
      core_alike : (s : ℕ) → s < cores → (a b : SlotEnd) → SameSlot v.size a b →
          SameSlot v.size (serve_core v supplied passed a s) (serve_core w supplied' others b s)
      unfolding serve_core granting
      core_alike s l a b h = rw (← (bytes s l)) (go (bit_of supplied s))
        where
          one : WalkEnd
          one = walk v passed 8 (Supply s) a.left

          two : WalkEnd
          two = walk w others 8 (Supply s) b.left

          ends : SameWalk v.size one two
          ends = walk_alike 8 (Supply s) a.left b.left h.left

          go : (b' : Bool) → SameSlot v.size (cond b' (granting a s one) a) (cond b' (granting b s two) b)
          go true = record { grants = rw (h.grants, ends.grant); left = ends.left }
          go false = h

  -- so a slot reads the bits of the cores and of the leaves that are there
  slot_alike : (setting : Setting) (cores n supplied supplied' declines others : ℕ) → ((s : ℕ) → s < cores → bit_of supplied s ≡ bit_of supplied' s) →
      SameLeaves v declines others → (left other : List ℕ) → SameBelow v.size left other →
      SameSlot v.size (slot setting v cores n supplied declines left) (slot setting w cores n supplied' others other)
  unfolding slot serve_to passed_over
  slot_alike setting cores n supplied supplied' declines others bytes words left other h = go cores (le_refl cores)
    where
      full : SameBelow v.size (refilled v n left) (refilled w n other)
      full = refill_alike n left other h

      one : ℕ → Bool
      one = passed_to v (refilled v n left) declines (levels_down setting)

      two : ℕ → Bool
      two = passed_to w (refilled w n other) others (levels_down setting)

      go : (k : ℕ) → k ≤ cores →
          SameSlot v.size (serve_to v supplied one (slot_start (refilled v n left)) k) (serve_to w supplied' two (slot_start (refilled w n other)) k)
      go zero l = record { grants = refl; left = full }
      go (suc k) l =
          core_alike one two (passed_alike (refilled v n left) (refilled w n other) full declines others words (levels_down setting)) cores supplied supplied'
          bytes k l (serve_to v supplied one (slot_start (refilled v n left)) k) (serve_to w supplied' two (slot_start (refilled w n other)) k) (go k (omega arith))

  -- and a run in each slot those of its own byte and word
  pub course_alike : (cores n : ℕ) (settings : List Setting) (supplies supplies' declines declines' left other : List ℕ) →
      SameBelow v.size left other → (k : ℕ) →
      ((i : ℕ) → i < k → (s : ℕ) → s < cores → bit_of (get_or supplies i 0) s ≡ bit_of (get_or supplies' i 0) s) →
      ((i : ℕ) → i < k → SameLeaves v (get_or declines i 0) (get_or declines' i 0)) →
      SameCourse v.size (course_to v cores n settings supplies declines left k) (course_to w cores n settings supplies' declines' other k)
  unfolding course_to
  course_alike cores n settings supplies supplies' declines declines' left other h zero bytes words = record { answers = refl; left = h }
  course_alike cores n settings supplies supplies' declines declines' left other h (suc k) bytes words =
      let so = course_to v cores n settings supplies declines left k in
      let also = course_to w cores n settings supplies' declines' other k in
      let before =
      course_alike cores n settings supplies supplies' declines declines' left other h k (λ i l. bytes i (omega arith)) (λ i l. words i (omega arith)) in
      let next =
      slot_alike (get_or settings k Off) cores (n + k) (get_or supplies k 0) (get_or supplies' k 0) (get_or declines k 0) (get_or declines' k 0)
      (bytes k (omega arith)) (words k (omega arith)) so.left also.left before.left in
      record { answers = rw (before.answers, next.grants); left = next.left }
