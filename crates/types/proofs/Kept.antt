-- The promises on pairs of types, kept: what the decision says of a pair is so by the meaning. Assumes nothing.
use Prim.Native.Nat.{ℕ}
use mathlib.Core.Bool.{Bool, true, false, cond}
use mathlib.Core.Path.{◌≡◌, refl, subst, subst₂}
use mathlib.Core.Logic.{◌↔◌}
use native.Mathlib.Nat.{le_trans}
use native.Mathlib.Omega.{arith}
use lib.Dec.{leb}
use lib.ListN.{length}
use borrow.Author.Tests.{le-leb, leb-true, leb-false}
use Rattle.meaning.specs.Types.{well_formed, StandsIn}
use Rattle.meaning.specs.declared.SlotType.{SlotType}
use Rattle.meaning.specs.declared.Kind.{Kind}
use Rattle.meaning.proofs.WellFormed.{bounds}
use Rattle.answers.specs.Answers.{none, at}
use Rattle.types.specs.Least.{ones_from, least_ones, first_short}
use Rattle.types.specs.Verdict as verdict
use Rattle.types.specs.Verdict.{judged}
use Rattle.types.specs.Decision.{Said, holds, fails, refused, stretch, failing, showing, decided, writing, out_after}
use Rattle.types.specs.Promises.{
  LeastOf,
  FirstFailing,
  Holding,
  FallingShort,
  Exact,
  Failing,
  HoldingAlike,
  GiverThenWanted,
  NothingWritten,
}
use Rattle.types.proofs.KeptLeast.{least_of_lem, first_failing}

-- from what cannot be, anything
never : {A : Type 0} → ◌≡◌ {A = ℕ} 0 1 → A
never e = absurd (omega arith)

-- what is so of both answers that a failing window can get is so of its answer
failing_by
    : (giver wanted : SlotType) (room s : ℕ) (P : Said → Type 0) → P (fails s (ones_from giver wanted s) (stretch giver wanted s))
    → P (refused 17 none) → P (failing giver wanted room s)
unfolding failing
failing_by giver wanted room s P shown no_room = go (leb (stretch giver wanted s) room)
  where
    go : (t : Bool) → P (cond t (fails s (ones_from giver wanted s) (stretch giver wanted s)) (refused 17 none))
    go true = shown
    go false = no_room

module _ (gives : Kind) (giver : SlotType) (wants : Kind) (wanted : SlotType) where
  -- what is so of each answer that a pair can get is so of its answer
  judged_by
      : (P : verdict.Said → Type 0) →
      let least = least_ones gives giver wants wanted in
      (well_formed giver ≡ false → P (verdict.refused 4 (at 0))) →
      (well_formed wanted ≡ false → P (verdict.refused 4 (at 1))) →
      (well_formed giver ≡ true → well_formed wanted ≡ true → leb wanted.c least ≡ true → P (verdict.holds least)) →
      (well_formed giver ≡ true → well_formed wanted ≡ true → leb wanted.c least ≡ false → P (verdict.short least)) →
      P (judged gives giver wants wanted)
  unfolding judged
  judged_by P bad-giver bad-wanted enough too_few = go (well_formed giver) (well_formed wanted) (leb wanted.c least) refl refl refl
    where
      least : ℕ
      least = least_ones gives giver wants wanted

      go : (a b t : Bool) → well_formed giver ≡ a → well_formed wanted ≡ b → leb wanted.c least ≡ t
          → P (cond a (cond b (cond t (verdict.holds least) (verdict.short least)) (verdict.refused 4 (at 1))) (verdict.refused 4 (at 0)))
      go false b t g w h = bad-giver g
      go true false t g w h = bad-wanted w
      go true true true g w h = enough g w h
      go true true false g w h = too_few g w h

  -- where the least ones of a wanted window are enough, the giver stands in
  pub holds_stands_in
      : well_formed giver ≡ true → well_formed wanted ≡ true → leb wanted.c (least_ones gives giver wants wanted) ≡ true
      → StandsIn gives giver wants wanted
  holds_stands_in g w h α honours s starts = le_trans (leb-true _ _ h) ((least_of_lem gives wants wanted (bounds giver g)).none_fewer α honours s starts)

  -- where the giver stands in, the least ones of a wanted window are enough
  pub stands_in_holds
      : well_formed giver ≡ true → well_formed wanted ≡ true → StandsIn gives giver wants wanted
      → leb wanted.c (least_ones gives giver wants wanted) ≡ true
  stands_in_holds g w stands =
      let least = least_of_lem gives wants wanted (bounds giver g) in
      le-leb _ _ (rw least.just at (stands least.allocation least.honours least.start least.starts))

-- a pair that holds stands in, and its count is the least of any wanted window
pub holding : Holding
holding gives giver wants wanted m =
    judged_by gives giver wants wanted (λ x. x ≡ verdict.holds m → StandsIn gives giver wants wanted × LeastOf gives giver wants wanted m)
    (λ g e. never (cc))
    (λ w e. never (cc))
    (λ g w h e. (
      holds_stands_in gives giver wants wanted g w h,
      subst (LeastOf gives giver wants wanted) (cc) (least_of_lem gives wants wanted (bounds giver g)),
    ))
    (λ g w h e. never (cc))

-- a pair that falls short does not stand in, and its count is the least of any wanted window
pub falling_short : FallingShort
falling_short gives giver wants wanted m =
    judged_by gives giver wants wanted (λ x. x ≡ verdict.short m → (StandsIn gives giver wants wanted → ⊥) × LeastOf gives giver wants wanted m)
    (λ g e. never (cc))
    (λ w e. never (cc))
    (λ g w h e. never (cc))
    (λ g w h e. (
      (λ stands. never (cc (stands_in_holds gives giver wants wanted g w stands))),
      subst (LeastOf gives giver wants wanted) (cc) (least_of_lem gives wants wanted (bounds giver g)),
    ))

-- two well-formed types hold exactly when one stands in for the other, and fall short exactly when not
pub exact : Exact
exact gives giver wants wanted well-giver well-wanted =
    judged_by gives giver wants wanted
    (λ x. (StandsIn gives giver wants wanted → (m : ℕ) × (x ≡ verdict.holds m)) × ((StandsIn gives giver wants wanted → ⊥) → (m : ℕ) × (x ≡ verdict.short m)))
    (λ g. never (cc))
    (λ w. never (cc))
    (λ g w h. ((λ stands. (_, refl)), (λ not_so. absurd (not_so (holds_stands_in gives giver wants wanted g w h)))))
    (λ g w h. ((λ stands. never (cc (stands_in_holds gives giver wants wanted g w stands))), (λ not_so. (_, refl))))

-- a pair that fails shows the first failing window
pub failing_kept : Failing
unfolding decided
failing_kept gives giver wants wanted room s o n =
    judged_by gives giver wants wanted
    (λ x. showing x (failing giver wanted room (first_short gives giver wants wanted)) ≡ fails s o n → FirstFailing gives giver wants wanted s o)
    (λ g e. never (cc))
    (λ w e. never (cc))
    (λ g w h e. never (cc))
    (λ g w h.
    failing_by giver wanted room (first_short gives giver wants wanted) (λ x. x ≡ fails s o n → FirstFailing gives giver wants wanted s o)
    (λ e. subst₂ (FirstFailing gives giver wants wanted) (cc) (cc) (first_failing gives wants wanted (bounds giver g) (leb-false _ _ h)))
    (λ e. never (cc)))

-- the decision with an allocation holds, in any room, exactly where the one without does, and with the same count
pub holding_alike : HoldingAlike
unfolding decided
holding_alike gives giver wants wanted room m =
    judged_by gives giver wants wanted
    (λ x. (showing x (failing giver wanted room (first_short gives giver wants wanted)) ≡ holds m) ↔ (x ≡ verdict.holds m))
    (λ g. ((λ e. never (cc)), (λ e. never (cc))))
    (λ w. ((λ e. never (cc)), (λ e. never (cc))))
    (λ g w h. ((λ e. cc), (λ e. cc)))
    (λ g w h. (
      failing_by giver wanted room (first_short gives giver wants wanted)
          (λ x. x ≡ holds m → verdict.short (least_ones gives giver wants wanted) ≡ verdict.holds m)
          (λ e. never (cc))
          (λ e. never (cc)),
      (λ e. never (cc)),
    ))

-- a malformed giver is refused, and then a malformed wanted type
pub giver_then_wanted : GiverThenWanted
unfolding judged decided
giver_then_wanted gives giver wants wanted =
    ((λ g. record { judges = rw g; decides = λ room. rw g }), (λ g w. record { judges = rw (g, w); decides = λ room. rw (g, w) }))

-- what does not fail writes nothing
pub nothing_written : NothingWritten
unfolding out_after
nothing_written gives giver wants wanted out = go (decided gives giver wants wanted (length out))
  where
    go : (d : Said) → ((s o n : ℕ) → d ≡ fails s o n → ⊥) → writing giver wanted out d ≡ out
    go (holds m) h = refl
    go (fails s o n) h = absurd (h s o n refl)
    go (refused r p) h = refl
