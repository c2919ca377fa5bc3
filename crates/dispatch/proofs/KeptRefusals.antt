-- Each refusal of a run is given exactly when document 01 says, and otherwise the run is done. Assumes nothing.
use Prim.Native.Nat.{ℕ, ◌+◌, ◌*◌, ◌^◌}
use mathlib.Core.Bool.{Bool, true, false, ◌&&◌, true≢false}
use mathlib.Core.Logic.{◌↔◌}
use mathlib.Core.Path.{◌≡◌, refl, sym}
use lib.Dec.{leb, eqb}
use lib.ListN.{get_or}
use borrow.Author.Tests.{leb-true, leb-false, le-leb, lt-leb, eqb-true, eq-eqb}
use Rattle.plans.proofs.All.{left_true, right_true, all_true, all_true_at}
use Rattle.plans.specs.Sound.{all}
use Rattle.plans.specs.declared.Plan.{Plan}
use Rattle.rules.proofs.Kept.{fits_exactly}
use Rattle.rules.specs.Check.{is_fit}
use Rattle.dispatch.proofs.Tested.{sixteen, seventeen, fifteen, none}
use Rattle.dispatch.specs.View.{served_c}
use Rattle.dispatch.specs.Run.{Standing, left_within, ready, roomy, in_time, outcome}
use Rattle.dispatch.specs.Promises.{Ready, Roomy, RefusalsExactly}

module _ (plan : Plan) (state : Standing) where
  -- the test of plan value and state says what it should
  ready_exactly : (ready plan state ≡ true) ↔ Ready plan state
  unfolding ready left_within
  ready_exactly = (there, back)
    where
      within : Bool
      within = all (left_within plan state.left) plan.size

      there : (is_fit plan && (leb state.clock (2 ^ 40) && within)) ≡ true → Ready plan state
      there h =
          let rest = right_true (is_fit plan) (leb state.clock (2 ^ 40) && within) h in
          record {
            fit = (fits_exactly plan).0 (left_true (is_fit plan) _ h);
            clock = leb-true state.clock (2 ^ 40) (left_true (leb state.clock (2 ^ 40)) within rest);
            counts = λ i l.
                leb-true (get_or state.left i 0) (served_c plan i)
                (all_true_at (left_within plan state.left) plan.size (right_true (leb state.clock (2 ^ 40)) within rest) i l);
          }

      back : Ready plan state → (is_fit plan && (leb state.clock (2 ^ 40) && within)) ≡ true
      back r =
          let all-within : within ≡ true =
          all_true (left_within plan state.left) plan.size (λ i l. le-leb (get_or state.left i 0) (served_c plan i) (r.counts i l)) in
          rw ((fits_exactly plan).1 r.fit, le-leb state.clock (2 ^ 40) r.clock, all-within)

-- and so does that of lengths
roomy_exactly : (plan : Plan) (k declines room : ℕ) → (roomy plan k declines room ≡ true) ↔ Roomy plan k declines room
unfolding roomy
roomy_exactly plan k declines room = (
  λ h.
      record {
        equal = eqb-true k declines (left_true (eqb k declines) _ h);
        enough = leb-true (k * plan.cores) room (right_true (eqb k declines) _ h);
      },
  λ r. rw (eq-eqb k declines r.equal, le-leb (k * plan.cores) room r.enough),
)

-- a test that says yes exactly when P says no exactly when not P
no_exactly : (b : Bool) {P : Type 0} → ((b ≡ true) ↔ P) → (b ≡ false) ↔ (P → ⊥)
no_exactly true e = (λ h. absurd (true≢false h), λ no. absurd (no (e.0 refl)))
no_exactly false e = (λ h p. true≢false (sym (e.1 p)), λ no. refl)

pub refusals_exactly : RefusalsExactly
unfolding outcome in_time
refusals_exactly plan state k declines room =
    let a = ready plan state in
    let b = roomy plan k declines room in
    let c = in_time state.clock k in
    let fit = ready_exactly plan state in
    let lengths = roomy_exactly plan k declines room in
    let end = state.clock + k in (
      (λ h. (no_exactly a fit).0 ((sixteen a b c).0 h), λ no. (sixteen a b c).1 ((no_exactly a fit).1 no)),
      (
        λ h. let is = (seventeen a b c).0 h in (fit.0 is.0, (no_exactly b lengths).0 is.1),
        λ is. (seventeen a b c).1 (fit.1 is.0, (no_exactly b lengths).1 is.1),
      ),
      (
        λ h. let is = (fifteen a b c).0 h in (fit.0 is.0, lengths.0 is.1, leb-false end (2 ^ 40) is.2),
        λ is. (fifteen a b c).1 (fit.1 is.0, lengths.1 is.1, lt-leb end (2 ^ 40) is.2),
      ),
      (
        λ h. let is = (none a b c).0 h in (fit.0 is.0, lengths.0 is.1, leb-true end (2 ^ 40) is.2),
        λ is. (none a b c).1 (fit.1 is.0, lengths.1 is.1, le-leb end (2 ^ 40) is.2),
      ),
    )
