-- Each test of rules 11 to 14 and 20 decides between what the rule asks there and a breach of it. Assumes nothing.
use Prim.Native.Nat.{ℕ, suc, ◌%◌, ◌≤◌, ◌<◌}
use mathlib.Core.Bool.{Bool, true, false, not, cond, ◌||◌, true≢false, false≢true}
use mathlib.Core.Path.{◌≡◌, refl, ap, sym, ◌∙◌}
use lib.Dec.{leb, eqb}
use native.Mathlib.Omega.{arith}
use Rattle.meaning.specs.declared.Kind.TheVariants.{Aligned}
use Rattle.soft.specs.Formula.{allowed}
use Rattle.types.specs.Verdict.{Said, holds, short, refused, judged}
use Rattle.types.proofs.Kept.{holding as types-holding, exact as types-exact}
use Rattle.answers.specs.Answers.{test}
use Rattle.answers.specs.Answers.{Answer}
use Rattle.answers.specs.Answers.{Refused}
use Rattle.answers.proofs.Laws.{test_false, test_refused}
use Rattle.plans.specs.Plan.{node_at, kind_of, wanted_of, misses_of, served_of, wanted_as, is_soft, own_type, is_child}
use Rattle.plans.specs.Sound.{Sound, all}
use Rattle.plans.specs.declared.Parent.{Parent}
use Rattle.plans.specs.declared.Plan.{Plan}
use Rattle.rules.specs.Fit.{Child, Rule20, Rule11, Rule12, Rule13, is_whole, load_to, side}
use Rattle.rules.specs.Broken.{Breach, twenty, eleven, twelve, thirteen, fourteen, number, place, Broken}
use Rattle.rules.specs.Check.{holding, made, meets, alike}
use Rattle.rules.proofs.KeptDecides.{
  Decides,
  decides_as,
  equal_decides,
  most_decides,
  either_decides,
  if_decides,
  where_decides,
  unless_decides,
  all_decides,
  child_decides,
}
use Rattle.rules.proofs.KeptSoft.{hard_eleven, made_decides, soft_decides}

-- what the rule of a breach asks where the breach would be
abbrev pub Kept : Plan → Breach → Type 0
Kept plan (twenty i) = Rule20 plan i
Kept plan (eleven i) = Rule20 plan i → Rule11 plan i
Kept plan (twelve x i) = Child plan x i → Rule12 plan x i
Kept plan (thirteen x i) = Child plan x i → (j : ℕ) → j < i → Child plan x j → Rule13 plan i j
Kept plan (fourteen x i) = Child plan x i → load_to plan x (suc i) ≤ side plan x

-- the test for a breach
abbrev pub tests : Plan → Breach → Bool
tests plan (twenty i) = made plan i
tests plan (eleven i) = not (made plan i) || meets plan i
tests plan (twelve x i) = not (is_child plan x i) || (is_whole (own_type plan x) || eqb ((served_of plan i).t % (own_type plan x).t) 0)
tests plan (thirteen x i) = not (is_child plan x i) || all (alike plan x i) i
tests plan (fourteen x i) = not (is_child plan x i) || leb (load_to plan x (suc i)) (side plan x)

-- the answer of that test
abbrev pub tested : Plan → Breach → Answer
tested plan b = test (tests plan b) (number b) (place b)

-- what holds by its test holds
holding_holds : (s : Said) → holding s ≡ true → (m : ℕ) × (s ≡ holds m)
unfolding holding
holding_holds (holds m) e = (m, refl)
holding_holds (short m) e = absurd (false≢true e)
holding_holds (refused r p) e = absurd (false≢true e)

module _ (plan : Plan) where
  -- a breach stands at one of the plan's nodes
  pub broken_there : (b : Breach) → Broken plan b → place b < plan.size
  broken_there (twenty i) h = h.0
  broken_there (eleven i) h = h.0
  broken_there (twelve x i) h = h.0.there
  broken_there (thirteen x i) h = h.0.there
  broken_there (fourteen x i) h = h.0.there

  -- rule 13 between a node and a child of x
  alike_decides : (x : Parent) (i j : ℕ) → j < plan.size →
      Decides (alike plan x i j) (Child plan x j → Rule13 plan i j) (Child plan x j × (Rule13 plan i j → ⊥))
  unfolding alike
  alike_decides x i j l = child_decides plan _ x j l (either_decides _ _ (equal_decides _ 0) (equal_decides _ 0))

  module _ (sound : Sound plan) where
    -- how a soft leaf is made
    twenty_decides : (i : ℕ) → i < plan.size → Decides (tests plan (twenty i)) (Rule20 plan i) (Rule20 plan i → ⊥)
    unfolding made
    twenty_decides i l = if_decides (is_soft plan i) _ (made_decides (node_at plan i) (sound.served i l) (sound.wanted i l))

    -- rule 11 at a hard node
    hard_decides : (i : ℕ) → i < plan.size → is_soft plan i ≡ false →
        Decides (holding (judged Aligned (served_of plan i) (wanted_as (kind_of plan i)) (wanted_of plan i))) (Rule11 plan i) (Rule11 plan i → ⊥)
    unfolding holding
    hard_decides i l hard =
        let same = hard_eleven plan sound i l hard in
        record {
          right = λ e. let (m, is) = holding_holds _ e in same.1 (types-holding _ _ _ _ m is).0;
          wrong = λ e stands.
              let (m, is) = (types-exact _ _ _ _ (sound.served i l) (sound.wanted i l)).0 (same.0 stands) in
              true≢false (sym (ap holding is) ∙ e);
          apart = λ g n. n g;
        }

    -- rule 11 at a node that is so made
    eleven_decides : (i : ℕ) → i < plan.size → Rule20 plan i → Decides (meets plan i) (Rule11 plan i) (Rule11 plan i → ⊥)
    unfolding meets
    eleven_decides i l so = go (is_soft plan i) refl
      where
        go : (b : Bool) → is_soft plan i ≡ b →
            Decides
            (cond b (allowed (served_of plan i) (wanted_of plan i) (misses_of plan i))
            (holding (judged Aligned (served_of plan i) (wanted_as (kind_of plan i)) (wanted_of plan i))))
            (Rule11 plan i)
            (Rule11 plan i → ⊥)
        go true is = soft_decides (node_at plan i) (so is) (sound.served i l) (sound.wanted i l) (sound.misses i l)
        go false is = hard_decides i l is

    -- the test for a breach decides between the rule kept and the breach
    tests_decide : (b : Breach) → place b < plan.size → Decides (tests plan b) (Kept plan b) (Broken plan b)
    tests_decide (twenty i) l = decides_as (λ n. (l, n)) (λ b. b.1) (twenty_decides i l)
    tests_decide (eleven i) l = decides_as (λ n. (l, n)) (λ b. b.1) (where_decides _ _ (twenty_decides i l) (eleven_decides i l))
    tests_decide (twelve x i) l = child_decides plan _ x i l (unless_decides (is_whole (own_type plan x)) _ (equal_decides _ 0))
    tests_decide (thirteen x i) l =
        decides_as
        (λ b. (b.0, (b.1.0, b.1.1, b.1.2.0, b.1.2.1)))
        (λ b. (b.0, (b.1.0, b.1.1, (b.1.2, b.1.3))))
        (child_decides plan _ x i l (all_decides (alike plan x i) i (λ j b. alike_decides x i j (omega arith))))
    tests_decide (fourteen x i) l = child_decides plan _ x i l (most_decides _ _)

    -- a rule that is kept somewhere has no breach there
    pub kept_unbroken : (b : Breach) → (place b < plan.size → Kept plan b) → Broken plan b → ⊥
    kept_unbroken b kept is =
        let l = broken_there b is in
        (tests_decide b l).apart (kept l) is

    -- and one that has no breach somewhere is kept there
    pub unbroken_kept : (b : Breach) → place b < plan.size → (Broken plan b → ⊥) → Kept plan b
    unbroken_kept b l none = go (tests plan b) (tests_decide b l)
      where
        go : (t : Bool) → Decides t (Kept plan b) (Broken plan b) → Kept plan b
        go true d = d.right refl
        go false d = absurd (none (d.wrong refl))

    -- the test for a breach that is there refuses it, with its number and place
    pub broken_tested : (b : Breach) → Broken plan b → tested plan b ≡ Refused (number b) (place b)
    broken_tested b is = go (tests plan b) (tests_decide b (broken_there b is))
      where
        go : (t : Bool) → Decides t (Kept plan b) (Broken plan b) → test t (number b) (place b) ≡ Refused (number b) (place b)
        go true d = absurd (d.apart (d.right refl) is)
        go false d = test_false false _ _ refl

    -- and what a test refuses is there
    pub tested_broken : (b : Breach) (r k : ℕ) → place b < plan.size → tested plan b ≡ Refused r k → Broken plan b × (number b ≡ r) × (place b ≡ k)
    tested_broken b r k l e =
        let (wrong, is, here) = test_refused (tests plan b) (number b) (place b) r k e in
        ((tests_decide b l).wrong wrong, is, here)
