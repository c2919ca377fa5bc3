-- What the dispatcher keeps at every level of a fit plan, from what is promised of choices and of slots given out from a fresh start. Above this nobody
-- looks at a choice. Assumes nothing.
use Prim.Native.Nat.{ℕ, ◌≤◌, ◌<◌}
use mathlib.Core.Bool.{Bool, true, false, ◌||◌, true≢false}
use mathlib.Core.List.{List}
use mathlib.Core.Logic.{◌⊎◌, inl, inr}
use mathlib.Core.Path.{◌≡◌, refl, sym, ap, ◌∙◌}
use native.Mathlib.Nat.{eq-or-lt_of_le}
use Rattle.meaning.proofs.WellFormed.{bounds}
use Rattle.plans.specs.Plan.{parent_of, served_of}
use Rattle.plans.specs.declared.Parent.{Parent}
use Rattle.plans.specs.declared.Parent.TheVariants.{Supply, Node as Under}
use Rattle.plans.proofs.Parents.{host_hosts}
use Rattle.plans.specs.declared.Plan.{Plan}
use Rattle.rules.specs.Fit.{Fit, Child}
use Rattle.dispatch.specs.View.{View, view_of, is_leaf, served_t}
use Rattle.dispatch.specs.Choice.{just, choose}
use Rattle.dispatch.specs.Passed.{passed_over, levels_down}
use Rattle.dispatch.specs.declared.Setting.{Setting}
use Rattle.dispatch.proofs.Passing.{passed_below}
use Rattle.dispatch.proofs.Choices.{some_choice, eligible_child, choice_below, choice_under, choice_left, choice_first}
use Rattle.unending.specs.Unending.{has, passed_at, charged, may}
use Rattle.unending.proofs.Slots.{start_at}
use Rattle.unending.proofs.Kept.{charged_exactly, balance, one_child}
use Rattle.levels.specs.Level.{Offered}
use Rattle.partitions.specs.Case.{offers}
use Rattle.partitions.proofs.Levels.{sooner, smaller_sooner, lower_sooner, sooner_other, level_of, Keeps, in_level, in_plan}

module _ (plan : Plan) (settings : ℕ → Setting) (supply declines : ℕ → ℕ) (n : ℕ) where
  -- a parent that may give a slot has it,
  may_offers : (x : Parent) → may plan settings supply declines x n ≡ true → offers plan settings supply declines x n ≡ true
  unfolding offers
  may_offers (Supply s) e = e
  may_offers (Under h) e = rw e

  -- and one that has it may give it, or is a host that is passed over
  offers_told : (x : Parent) → offers plan settings supply declines x n ≡ true →
      (may plan settings supply declines x n ≡ true) ⊎ ((h : ℕ) × (x ≡ Under h) × (passed_at plan settings supply declines n h ≡ true))
  unfolding offers
  offers_told (Supply s) e = inl e
  offers_told (Under h) e = go (may plan settings supply declines (Under h) n) refl e
    where
      go : (b : Bool) → may plan settings supply declines (Under h) n ≡ b → (b || passed_at plan settings supply declines n h) ≡ true →
          (may plan settings supply declines (Under h) n ≡ true) ⊎ ((k : ℕ) × (Under h ≡ Under k) × (passed_at plan settings supply declines n k ≡ true))
      go true is e = inl is
      go false is e = inr (h, refl, e)

module _ (plan : Plan) (fit : Fit plan) (settings : ℕ → Setting) (supply declines : ℕ → ℕ) where
  -- who is charged had slots left
  charged_left : (i n : ℕ) → i < plan.size → charged plan settings supply declines i n ≡ true → 0 < has plan settings supply declines i n
  unfolding has
  charged_left i n l e =
      choice_left (view_of plan) (start_at plan settings supply declines n) (passed_at plan settings supply declines n) (parent_of plan i) i
      ((charged_exactly plan fit settings supply declines i n l).0 e).1

  module _ (x : Parent) (i : ℕ) (c : Child plan x i) (n : ℕ) where
    -- and was offered the slot, since no other child of its parent is charged
    charged_offered : charged plan settings supply declines i n ≡ true → Offered (level_of plan settings supply declines x) i n
    charged_offered e =
        record {
          given =
              may_offers plan settings supply declines n x
              (ap (λ y. may plan settings supply declines y n) (sym c.under) ∙ ((charged_exactly plan fit settings supply declines i n c.there).0 e).0);
          left = charged_left i n c.there e;
          passed = λ j d s. go j (in_plan plan settings supply declines x j d) s (charged plan settings supply declines j n) refl;
        }
      where
        go : (j : ℕ) → Child plan x j → sooner plan j i ≡ true → (b : Bool) → charged plan settings supply declines j n ≡ b → b ≡ false
        go j d s true h =
            let same-node : i ≡ j = one_child plan fit settings supply declines i j n c.there d.there (c.under ∙ sym d.under) e h in
            sym (rw (← same-node) at s) ∙ sooner_other plan i
        go j d s false h = refl

    -- who could take a slot that the parent may give is charged where nobody served sooner is: the choice is of somebody, and of nobody who is served sooner
    chosen_charged : may plan settings supply declines x n ≡ true → Offered (level_of plan settings supply declines x) i n →
        passed_at plan settings supply declines n i ≡ false → charged plan settings supply declines i n ≡ true
    unfolding has
    chosen_charged gives o willing =
        let can = eligible_child v left passed x i c.under o.left willing in
        let (k, e) = some_choice v left passed x i c.there can in
        let d : Child plan x k = record { there = choice_below v left passed x k e; under = choice_under v left passed x k e } in
        taken k d (picked k d e) (choice_first v left passed x k e i c.there can)
      where
        v : View
        v = view_of plan

        left : List ℕ
        left = start_at plan settings supply declines n

        passed : ℕ → Bool
        passed = passed_at plan settings supply declines n

        picked : (k : ℕ) → Child plan x k → choose v left passed x ≡ just k → charged plan settings supply declines k n ≡ true
        picked k d e =
            (charged_exactly plan fit settings supply declines k n d.there).1
            (ap (λ y. may plan settings supply declines y n) d.under ∙ gives, ap (choose v left passed) d.under ∙ e)

        never : (k : ℕ) → Child plan x k → charged plan settings supply declines k n ≡ true → sooner plan k i ≡ true →
            charged plan settings supply declines i n ≡ true
        never k d e s = let none = o.passed k (in_level plan settings supply declines x k d) s in cc

        taken : (k : ℕ) → Child plan x k → charged plan settings supply declines k n ≡ true →
            (served_t plan k < served_t plan i) ⊎ ((served_t plan k ≡ served_t plan i) × (k ≤ i)) → charged plan settings supply declines i n ≡ true
        taken k d e (inl l) = never k d e (smaller_sooner plan k i l)
        taken k d e (inr p) = at (eq-or-lt_of_le p.1)
          where
            at : (k ≡ i) ⊎ (k < i) → charged plan settings supply declines i n ≡ true
            at (inl is) = rw is at e
            at (inr l) = never k d e (lower_sooner plan k i p.0 l)

    -- where the parent is passed over, so is each child with slots left
    passed_too : (h : ℕ) → x ≡ Under h → passed_at plan settings supply declines n h ≡ true → Offered (level_of plan settings supply declines x) i n →
        passed_at plan settings supply declines n i ≡ true
    unfolding passed_at passed_over has is_leaf
    passed_too h is over o =
        let up : parent_of plan i ≡ Under h = c.under ∙ is in
        let host = host_hosts plan fit.sound i c.there h up in
        passed_below (view_of plan) (start_at plan settings supply declines n) (declines n) (levels_down (settings n)) h i (rw host) over c.there up o.left

    -- so who is offered a slot and is not passed over is charged
    offered_charged : Offered (level_of plan settings supply declines x) i n → passed_at plan settings supply declines n i ≡ false →
        charged plan settings supply declines i n ≡ true
    offered_charged o willing = go (offers_told plan settings supply declines n x o.given)
      where
        go : (may plan settings supply declines x n ≡ true) ⊎ ((h : ℕ) × (x ≡ Under h) × (passed_at plan settings supply declines n h ≡ true)) →
            charged plan settings supply declines i n ≡ true
        go (inl gives) = chosen_charged gives o willing
        go (inr (h, is, over)) = absurd (true≢false (sym (passed_too h is over o) ∙ willing))

  -- the dispatcher keeps its part
  pub dispatcher_keeps : Keeps plan settings supply declines
  unfolding served_t
  dispatcher_keeps =
      record {
        books = λ i l.
            record {
              some = (bounds (served_of plan i) (fit.sound.served i l)).some;
              balance = λ b a h. balance plan fit settings supply declines i b a l h;
              left = λ n e. charged_left i n l e;
            };
        offered = charged_offered;
        taken = offered_charged;
      }
