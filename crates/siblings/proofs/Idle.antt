-- Who is not charged in a slot: whoever is passed over, and with the switch on all that is on an idle core, under whose supply nobody is chosen. Assumes nothing.
use Prim.Native.Nat.{ℕ, ◌<◌}
use mathlib.Core.Bool.{Bool, true, true≢false}
use mathlib.Core.List.{List}
use mathlib.Core.Logic.{inl, inr}
use mathlib.Core.Path.{◌≡◌, sym, ◌∙◌}
use lib.ListN.{get_or}
use native.Mathlib.Decide.{dec_lt}
use native.Mathlib.Nat.{le_antisymm}
use native.Mathlib.Omega.{arith}
use Rattle.plans.specs.Cores.{OnCore}
use Rattle.plans.specs.Plan.{parent_of}
use Rattle.plans.specs.Sound.{Sound}
use Rattle.plans.specs.declared.Parent.TheVariants.{Supply}
use Rattle.plans.specs.declared.Plan.{Plan}
use Rattle.dispatch.proofs.Choices.{choice_willing}
use Rattle.dispatch.proofs.SlotsDepth.{at_top}
use Rattle.dispatch.specs.View.{view_of, bit_of}
use Rattle.dispatch.specs.Choice.{nobody, just, choose}
use Rattle.dispatch.specs.Passed.{passed_over}
use Rattle.dispatch.specs.Slot.{idle, unsupplied}
use Rattle.dispatch.specs.declared.Setting.TheVariants.{On}
use Rattle.unending.proofs.Answers.{Told, cores_told}
use Rattle.unending.proofs.Books.{Fell, Books}
use Rattle.unending.proofs.Cores.{cores_kept}
use Rattle.siblings.proofs.Turns.{served, core_untouched, turn_untouched, turn_answer}
use Rattle.siblings.proofs.Wasted.{Whole, nobody_idle, idle_nobody}

module _ (plan : Plan) (sound : Sound plan) (full : List ℕ) (supplied : ℕ) where
  module _ (passed : ℕ → Bool) where
    -- whoever is not its parent's choice at the slot's start is not charged,
    unchosen_untouched : (i : ℕ) → (choose (view_of plan) full passed (parent_of plan i) ≡ just i → ⊥) →
        get_or (served plan sound supplied passed full plan.cores).left i 0 ≡ get_or full i 0
    unchosen_untouched i other = go (dec_lt (get_or now i 0) (get_or full i 0))
      where
        now : List ℕ
        now = (served plan sound supplied passed full plan.cores).left

        books : Books plan supplied passed full plan.cores (λ y. ⊥) now
        books = (cores_kept plan sound supplied passed full plan.cores sound.eight_cores).books

        go : Dec (Fell full now i) → get_or now i 0 ≡ get_or full i 0
        go (yes f) = absurd (other (books.took i f).chosen)
        go (no kept) = le_antisymm (books.no_more i) (omega arith)

    -- so nobody who is passed over
    pub passed_untouched : (i : ℕ) → passed i ≡ true → get_or (served plan sound supplied passed full plan.cores).left i 0 ≡ get_or full i 0
    passed_untouched i over =
        unchosen_untouched i (λ c. true≢false (sym over ∙ choice_willing (view_of plan) full passed (parent_of plan i) i c))

  module _ (declines s : ℕ) (l : s < plan.cores) where
    abbrev passed : ℕ → Bool
    passed = passed_over On (view_of plan) full declines

    whole : Whole plan full (Supply s) (served plan sound supplied passed full s).left
    whole i there below = turn_untouched plan sound supplied passed full s (omega (arith, sound.eight_cores)) i below

    -- a supplied core is idle exactly where nobody is chosen under its supply
    pub answer_nobody : bit_of supplied s ≡ true → get_or (served plan sound supplied passed full plan.cores).grants s unsupplied ≡ idle →
        choose (view_of plan) full passed (Supply s) ≡ nobody
    answer_nobody on e =
        let answer = turn_answer plan sound supplied passed full s on plan.cores sound.eight_cores l in
        idle_nobody plan sound full declines at_top _ whole (sym answer ∙ e)

    pub nobody_answer : bit_of supplied s ≡ true → choose (view_of plan) full passed (Supply s) ≡ nobody →
        get_or (served plan sound supplied passed full plan.cores).grants s unsupplied ≡ idle
    nobody_answer on none =
        turn_answer plan sound supplied passed full s on plan.cores sound.eight_cores l ∙ nobody_idle plan sound full declines at_top _ whole none

    -- and a core that is not supplied is not idle
    idle_supplied : get_or (served plan sound supplied passed full plan.cores).grants s unsupplied ≡ idle → bit_of supplied s ≡ true
    idle_supplied e = go (cores_told plan sound supplied passed full plan.cores s sound.eight_cores l)
      where
        go : Told plan sound supplied passed full s (get_or (served plan sound supplied passed full plan.cores).grants s unsupplied) → bit_of supplied s ≡ true
        go (inl off) = absurd (omega (arith, off.1))
        go (inr on) = on.0

    -- so all on an idle core is untouched
    pub idle_untouched : get_or (served plan sound supplied passed full plan.cores).grants s unsupplied ≡ idle → (i : ℕ) → OnCore plan i s →
        get_or (served plan sound supplied passed full plan.cores).left i 0 ≡ get_or full i 0
    idle_untouched e i on =
        let none = answer_nobody (idle_supplied e) e in
        let books = (cores_kept plan sound supplied passed full plan.cores sound.eight_cores).books in
        core_untouched plan supplied passed full plan.cores _ books s
        (λ j up. unchosen_untouched passed j (λ c.
        let z : ◌≡◌ {A = ℕ} 0 1 = cc in
        omega arith)) i on
