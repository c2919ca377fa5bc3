-- The levels of a plan: each parent with its children over time, as the level lemma takes them, and what the rules and the dispatcher keep of them.
-- Assumes nothing.
use Prim.Native.Nat.{ℕ, ◌*◌, ◌/◌, ◌≤◌, ◌<◌}
use mathlib.Core.Bool.{Bool, true, false, cond, ◌&&◌, ◌||◌}
use mathlib.Core.Path.{◌≡◌, refl, sym}
use native.Mathlib.Nat.{le_refl, le_of_eq, mul_left_comm, mul-div_assoc, dvd_of_mod-eq-zero}
use native.Mathlib.Omega.{arith}
use lib.Dec.{ltb, eqb}
use borrow.Author.Tests.{ltb-true, eqb-true, lt-ltb, le-ltb, eq-eqb}
use Rattle.meaning.specs.Allocation.{ones}
use Rattle.meaning.specs.Types.{Honours}
use Rattle.meaning.specs.declared.Kind.TheVariants.{Aligned}
use Rattle.meaning.specs.declared.SlotType.{SlotType}
use Rattle.meaning.proofs.WellFormed.{bounds}
use Rattle.owed.proofs.Every.{honours_every}
use Rattle.owed.proofs.Ones.{ones_all}
use Rattle.plans.specs.Plan.{own_type, is_child}
use Rattle.plans.specs.declared.Parent.{Parent}
use Rattle.plans.specs.declared.Plan.{Plan}
use Rattle.plans.proofs.Entries.{child_of_parent, parent_of_child}
use Rattle.rules.specs.Fit.{Child, Fit, child_period, longest, load, load_to, is_whole, owes, side}
use Rattle.rules.proofs.Formed.{parent_formed}
use Rattle.dispatch.specs.View.{served_c, served_t}
use Rattle.dispatch.specs.declared.Setting.{Setting}
use Rattle.unending.specs.Unending.{has, passed_at, charged}
use Rattle.levels.specs.Level.{Books, Level, Offered, Kept}
use Rattle.levels.specs.Level as Levels
use Rattle.levels.proofs.Periods.{at_least}
use Rattle.partitions.specs.Case.{offers}

-- node j is served sooner than node i: it has the smaller served period, or the same and the lower number
unfoldable pub sooner : Plan → ℕ → ℕ → Bool
sooner plan j i = ltb (served_t plan j) (served_t plan i) || (eqb (served_t plan j) (served_t plan i) && ltb j i)

module _ (plan : Plan) (j i : ℕ) where
  -- a node with the smaller period is served sooner
  pub smaller_sooner : served_t plan j < served_t plan i → sooner plan j i ≡ true
  unfolding sooner
  smaller_sooner l = rw (lt-ltb (served_t plan j) (served_t plan i) l)

  -- and of two with the same period the one with the lower number
  pub lower_sooner : served_t plan j ≡ served_t plan i → j < i → sooner plan j i ≡ true
  unfolding sooner
  lower_sooner e l =
      rw (le-ltb (served_t plan j) (served_t plan i) (omega arith), eq-eqb (served_t plan j) (served_t plan i) e, lt-ltb j i l)

  -- a node that is served sooner has no longer period
  sooner_shorter : sooner plan j i ≡ true → served_t plan j ≤ served_t plan i
  unfolding sooner
  sooner_shorter = go (ltb (served_t plan j) (served_t plan i)) (eqb (served_t plan j) (served_t plan i)) refl refl
    where
      go : (a b : Bool) → ltb (served_t plan j) (served_t plan i) ≡ a → eqb (served_t plan j) (served_t plan i) ≡ b → (a || (b && ltb j i)) ≡ true →
          served_t plan j ≤ served_t plan i
      go true b a e h = omega (arith, ltb-true (served_t plan j) (served_t plan i) a)
      go false true a e h = le_of_eq (eqb-true (served_t plan j) (served_t plan i) e)
      go false false a e h = absurd (let z : ◌≡◌ {A = ℕ} 0 1 = cc in omega arith)

-- no node is served sooner than itself
pub sooner_other : (plan : Plan) (i : ℕ) → sooner plan i i ≡ false
unfolding sooner
sooner_other plan i =
    let t = served_t plan i in
    rw (le-ltb t t (le_refl t), eq-eqb t t refl, le-ltb i i (le_refl i))

module _ (plan : Plan) (settings : ℕ → Setting) (supply declines : ℕ → ℕ) where
  -- parent x and its children, with slots given out from a fresh start
  abbrev pub level_of : Parent → Level
  level_of x =
      record {
        size = plan.size;
        child = is_child plan x;
        c = served_c plan;
        t = served_t plan;
        gives = offers plan settings supply declines x;
        owes = owes (own_type plan x);
        has = has plan settings supply declines;
        charged = charged plan settings supply declines;
        sooner = sooner plan;
      }

  -- What the dispatcher keeps: each node's books, who is charged was offered the slot, and who is offered a slot and is not passed over is charged.
  pub record Keeps : Type 0 where
    pub books : (i : ℕ) → i < plan.size → Books (served_c plan i) (served_t plan i) (has plan settings supply declines i) (charged plan settings supply declines i)
    pub offered : (x : Parent) (i : ℕ) → Child plan x i → (n : ℕ) → charged plan settings supply declines i n ≡ true → Offered (level_of x) i n
    pub taken : (x : Parent) (i : ℕ) → Child plan x i → (n : ℕ) → Offered (level_of x) i n →
        passed_at plan settings supply declines n i ≡ false → charged plan settings supply declines i n ≡ true

  module _ (x : Parent) (i : ℕ) where
    -- a child in the plan is one in the level
    pub in_level : Child plan x i → Levels.Child (level_of x) i
    in_level c = record { there = c.there; is = child_of_parent plan x i c.under }

    -- and the other way round
    pub in_plan : Levels.Child (level_of x) i → Child plan x i
    in_plan c = record { there = c.there; under = parent_of_child plan x i c.is }

  module _ (fit : Fit plan) (x : Parent) (i : ℕ) (c : Child plan x i) where
    -- a whole parent that honours its own type has every slot
    pub every_slot : Honours Aligned (own_type plan x) (offers plan settings supply declines x) → is_whole (own_type plan x) ≡ true →
        (n : ℕ) → offers plan settings supply declines x n ≡ true
    unfolding is_whole
    every_slot honours whole =
        let own : SlotType = own_type plan x in
        let some = (bounds own (parent_formed plan fit.sound x i c)).some in
        honours_every Aligned own some (eqb-true own.c own.t whole) (offers plan settings supply declines x) honours

    -- where a parent honours its own type it gives what it owes in each served period of a child: every slot where it is whole, and otherwise by rule 12
    gives_owed : Honours Aligned (own_type plan x) (offers plan settings supply declines x) → (b : ℕ) →
        owes (own_type plan x) (served_t plan i) ≤ ones (offers plan settings supply declines x) (b * served_t plan i) (served_t plan i)
    unfolding served_t owes
    gives_owed honours b = go (is_whole own) refl
      where
        own : SlotType
        own = own_type plan x

        go : (w : Bool) → is_whole own ≡ w →
            cond w (served_t plan i) (own.c * (served_t plan i / own.t)) ≤ ones (offers plan settings supply declines x) (b * served_t plan i) (served_t plan i)
        go true e = le_of_eq (sym (ones_all (offers plan settings supply declines x) (every_slot honours e) (b * served_t plan i) (served_t plan i)))
        go false e =
            at_least own.c own.t (offers plan settings supply declines x) (λ k. honours (k * own.t) (k, refl)) (served_t plan i) (fit.rule12 x i c e) b

    -- and it owes in proportion
    owes_scales : (e : ℕ) → owes (own_type plan x) (e * served_t plan i) ≤ e * owes (own_type plan x) (served_t plan i)
    unfolding served_t owes
    owes_scales e = go (is_whole own) refl
      where
        own : SlotType
        own = own_type plan x

        part : ℕ → ℕ
        part m = own.c * (m / own.t)

        go : (w : Bool) → is_whole own ≡ w → cond w (e * served_t plan i) (part (e * served_t plan i)) ≤ e * cond w (served_t plan i) (part (served_t plan i))
        go true w = le_refl (e * served_t plan i)
        go false w =
            rw (mul-div_assoc own.t e (dvd_of_mod-eq-zero own.t (fit.rule12 x i c w)))
            (le_of_eq (mul_left_comm own.c e (served_t plan i / own.t)))

  -- where a parent of a fit plan honours its own type its level is kept
  pub level_kept : Fit plan → Keeps → (x : Parent) → Honours Aligned (own_type plan x) (offers plan settings supply declines x) → Kept (level_of x)
  unfolding served_t served_c Levels.longest Levels.load longest load load_to side child_period
  level_kept fit keeps x honours =
      record {
        given = λ i c. gives_owed fit x i (in_plan x i c) honours;
        scales = λ i c. owes_scales fit x i (in_plan x i c);
        books = λ i c. keeps.books i c.there;
        offered = λ i c. keeps.offered x i (in_plan x i c);
        shorter = λ i j. sooner_shorter plan j i;
        other = sooner_other plan;
        rule13 = λ i j c d. fit.rule13 x i j (in_plan x i c) (in_plan x j d);
        rule14 = fit.rule14 x;
      }
