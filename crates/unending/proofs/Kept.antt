-- What specs/Promises.antt says of slots given out from a fresh start holds. Assumes nothing.
use Prim.Native.Nat.{ℕ, zero, suc, ◌+◌, ◌*◌, ◌%◌, ◌≤◌, ◌<◌}
use mathlib.Core.Bool.{Bool, true, false}
use mathlib.Core.List.{List}
use mathlib.Core.Logic.{inl, inr}
use mathlib.Core.Path.{◌≡◌, refl, ◌∙◌}
use lib.ListN.{length, get_or}
use borrow.Author.Tests.{lt-ltb, ltb-true, eq-eqb, eqb-true}
use native.Mathlib.Nat.{zero-add, add-zero, add-suc, mul-mod_left, mul-add-mod_self_right, mod-eq_of_lt}
use native.Mathlib.Omega.{arith}
use Rattle.meaning.specs.Allocation.{ones}
use Rattle.plans.proofs.All.{both_ways}
use Rattle.plans.proofs.Cores.{one_core, core_exactly}
use Rattle.plans.proofs.Parents.{host_there}
use Rattle.plans.specs.Cores.{child, deeper, OnCore, core_of}
use Rattle.plans.specs.Plan.{There, parent_of}
use Rattle.plans.specs.declared.Parent.TheVariants.{Supply}
use Rattle.plans.specs.declared.Plan.{Plan}
use Rattle.rules.specs.Fit.{Fit}
use Rattle.dispatch.specs.View.{bit_of, view_of, is_leaf, served_c, served_t}
use Rattle.dispatch.specs.Slot.{slot}
use Rattle.dispatch.specs.Run.{course_to, course_by, fresh_left}
use Rattle.dispatch.specs.declared.Setting.{Setting}
use Rattle.dispatch.specs.declared.Setting.TheVariants.{Off}
use Rattle.unending.proofs.Answers.{EndsAt, nowhere, somewhere, Told, cores_told}
use Rattle.unending.proofs.Slots.{start_at, slot_kept, may_opened, opened_may, slot_takes, has_next, has_anew}
use Rattle.unending.specs.Unending.{left_at, slot_at, has, passed_at, charged, answer_at, granted, answers_to, may}
use Rattle.unending.specs.Promises.{
  ChargedExactly,
  GrantedExactly,
  Answered,
  not_supplied,
  the_leaf,
  stays_idle,
  AnsweredExactly,
  Balance,
  BalanceAfter,
  OwnCore,
  OneChild,
  FirstPart,
}

-- a test that cannot hold fails
not_charged : (b : Bool) → (b ≡ true → ⊥) → b ≡ false
not_charged true h = absurd (h refl)
not_charged false h = refl

-- who is charged is the choice, on the refilled counts, of a parent that may give the slot
pub charged_exactly : ChargedExactly
unfolding charged has
charged_exactly plan fit settings supply declines i n l =
    let kept = (slot_kept plan settings supply declines fit n).books in (
      λ e.
          let t = kept.took i (ltb-true _ _ e) in
          (opened_may plan settings supply declines fit n (parent_of plan i) t.opened, t.chosen),
      λ h.
          lt-ltb _ _ (kept.gave (parent_of plan i) (λ none. none) (may_opened plan settings supply declines fit n i l (parent_of plan i) refl h.0) i h.1),
    )

module _ (plan : Plan) (fit : Fit plan) (settings : ℕ → Setting) (supply declines : ℕ → ℕ) (n : ℕ) where
  -- each core answers 255, or ends its walk
  told : (s : ℕ) → s < plan.cores → Told plan fit.sound (supply n) (passed_at plan settings supply declines n) (start_at plan settings supply declines n) s (answer_at plan settings supply declines n s)
  unfolding answer_at slot_at slot passed_at
  told s l = cores_told plan fit.sound (supply n) (passed_at plan settings supply declines n) (start_at plan settings supply declines n) plan.cores s fit.sound.eight_cores l

  -- a leaf that is answered by some core is charged,
  answered_charged : (i s : ℕ) → i < plan.size → s < plan.cores → answer_at plan settings supply declines n s ≡ i → charged plan settings supply declines i n ≡ true
  unfolding answer_at charged has
  answered_charged i s l m e = lt-ltb _ _ ((slot_kept plan settings supply declines fit n).answered_fell i s l m e)

  -- and one that is charged is the answer of its own core
  charged_answered : (i s : ℕ) → i < plan.size → is_leaf plan i ≡ true → OnCore plan i s → charged plan settings supply declines i n ≡ true →
      answer_at plan settings supply declines n s ≡ i
  unfolding answer_at charged has
  charged_answered i s l leaf on c =
      let (z, m, e) = (slot_kept plan settings supply declines fit n).fell_answered i leaf (ltb-true _ _ c) in
      rw (one_core plan on (its z m e (told z m))) e
    where
      its : (z : ℕ) → z < plan.cores → answer_at plan settings supply declines n z ≡ i →
          Told plan fit.sound (supply n) (passed_at plan settings supply declines n) (start_at plan settings supply declines n) z (answer_at plan settings supply declines n z) → OnCore plan i z
      its z m e (inl (off, none)) = absurd (omega (arith, fit.sound.sixty_four_nodes))
      its z m e (inr (on, ends)) = beneath (rw e at ends)
        where
          beneath : EndsAt plan (passed_at plan settings supply declines n) (Supply z) i → OnCore plan i z
          beneath = go i l
            where
              go : (g : ℕ) → g < plan.size → EndsAt plan (passed_at plan settings supply declines n) (Supply z) g → OnCore plan g z
              go g small nowhere = absurd (omega (arith, fit.sound.sixty_four_nodes))
              go g small (somewhere there is b) = b

-- what each core answers
pub answered_exactly : AnsweredExactly
answered_exactly plan fit settings supply declines n s m = go (answer_at plan settings supply declines n s) refl (told plan fit settings supply declines n s m)
  where
    go : (g : ℕ) → answer_at plan settings supply declines n s ≡ g → Told plan fit.sound (supply n) (passed_at plan settings supply declines n) (start_at plan settings supply declines n) s g →
        Answered plan settings supply declines n s g
    go g e (inl (dark, none)) = rw none (not_supplied dark)
    go g e (inr (on, ends)) = at g e ends
      where
        at : (g : ℕ) → answer_at plan settings supply declines n s ≡ g → EndsAt plan (passed_at plan settings supply declines n) (Supply s) g → Answered plan settings supply declines n s g
        at g e nowhere =
            stays_idle on (λ i l is b.
            not_charged (charged plan settings supply declines i n) (λ c.
            omega (arith, fit.sound.sixty_four_nodes, charged_answered plan fit settings supply declines n i s l is b c)))
        at g e (somewhere l is b) = the_leaf on l is b (answered_charged plan fit settings supply declines n g s l m e)

-- a leaf is granted a slot exactly when it is charged in it
pub granted_exactly : GrantedExactly
unfolding granted
granted_exactly plan fit settings supply declines i n l leaf =
    let own = core_exactly plan fit.sound i l in
    both_ways (granted plan settings supply declines i n) (charged plan settings supply declines i n)
    (λ e. answered_charged plan fit settings supply declines n i (core_of plan i) l own.there (eqb-true _ _ e))
    (λ c. eq-eqb _ _ (charged_answered plan fit settings supply declines n i (core_of plan i) l leaf own.on c))

module _ (plan : Plan) (fit : Fit plan) (settings : ℕ → Setting) (supply declines : ℕ → ℕ) (i : ℕ) (l : i < plan.size) where
  -- left plus what was charged since slot b·T is the served C, for each slot up to the next refill
  balanced : (b a : ℕ) → a < served_t plan i →
      has plan settings supply declines i (b * served_t plan i + a) + ones (charged plan settings supply declines i) (b * served_t plan i) a ≡ served_c plan i
  unfolding ones
  balanced b zero below =
      rw (add-zero (b * served_t plan i), has_anew plan fit settings supply declines i l (b * served_t plan i) (mul-mod_left b (served_t plan i)))
      (add-zero (served_c plan i))
  balanced b (suc a) below =
      let n = b * served_t plan i + a in
      let rest = mul-add-mod_self_right b (served_t plan i) (suc a) ∙ mod-eq_of_lt below in
      let within : suc n % served_t plan i ≡ suc a = rw (add-suc (b * served_t plan i) a) at rest in
      rw (add-suc (b * served_t plan i) a, has_next plan fit settings supply declines i l n (λ e. omega arith))
      (omega (arith, slot_takes plan fit settings supply declines i l n, balanced b a (omega arith)))

-- left plus what was charged since the last refill is always the served C
pub balance : Balance
balance plan fit settings supply declines i b a l = balanced plan fit settings supply declines i l b a

-- and after every slot it is so
pub balance_after : BalanceAfter
unfolding ones left_at slot_at
balance_after plan fit settings supply declines i b a l below =
    let n = b * served_t plan i + a in
    omega (arith, slot_takes plan fit settings supply declines i l n, balanced plan fit settings supply declines i l b a below)

-- a node is charged only in a slot of its own core
pub own_core : OwnCore
unfolding may
own_core plan fit settings supply declines i n s = go s i
  where
    go : (s i : ℕ) → There plan i → OnCore plan i s → charged plan settings supply declines i n ≡ true → bit_of (supply n) s ≡ true
    go s i l (child up) c = rw up at ((charged_exactly plan fit settings supply declines i n l).0 c).0
    go s i l (deeper {h = h} up core) c =
        go s h (host_there plan fit.sound i l h up) core (rw up at ((charged_exactly plan fit settings supply declines i n l).0 c).0)

-- at most one child of a parent is charged in a slot
pub one_child : OneChild
one_child plan fit settings supply declines i j n l m same c d =
    let a = ((charged_exactly plan fit settings supply declines i n l).0 c).1 in
    let b = ((charged_exactly plan fit settings supply declines j n m).0 d).1 in
    cc

module _ (plan : Plan) (settings : List Setting) (supplies declines : List ℕ) (setting : ℕ → Setting) (supply decline : ℕ → ℕ)
    (set : (k : ℕ) → k < length supplies → setting k ≡ get_or settings k Off)
    (supplied : (k : ℕ) → k < length supplies → supply k ≡ get_or supplies k 0) (declined : (k : ℕ) → k < length supplies → decline k ≡ get_or declines k 0) where
  -- the first k slots from a fresh start are those of the unending inputs
  pub course_first : (k : ℕ) → k ≤ length supplies →
      course_to (view_of plan) plan.cores 0 settings supplies declines (fresh_left (view_of plan)) k ≡
      record { left = left_at plan setting supply decline k; answers = answers_to plan setting supply decline k }
  unfolding course_to left_at slot_at answers_to
  course_first zero l = refl
  course_first (suc k) l = rw (course_first k (omega arith), zero-add k, ← (set k l), ← (supplied k l), ← (declined k l))

-- slots from a fresh start are the first part of the unending ones
pub first_part : FirstPart
unfolding course_by
first_part plan settings supplies declines setting supply decline set supplied declined =
    course_first plan settings supplies declines setting supply decline set supplied declined (length supplies) (omega arith)
