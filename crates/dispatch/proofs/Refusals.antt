-- The refusals of runs: a plan that fits is sound, what tests of lengths and counts come to, and what a run that is done has passed. Assumes nothing.
use Prim.Native.Nat.{ℕ, ◌+◌, ◌*◌, ◌/◌, ◌^◌, ◌≤◌, ◌<◌}
use mathlib.Core.Bool.{Bool, true, false, cond}
use mathlib.Core.Logic.{◌↔◌}
use mathlib.Core.Path.{◌≡◌, refl, sym}
use lib.Dec.{leb, eqb}
use lib.ListN.{get_or}
use borrow.Author.Tests.{leb-true, le-leb, eqb-true, eq-eqb, ne_eqb}
use native.Mathlib.Nat.{le-div_iff_mul-le}
use Rattle.answers.specs.Answers.{Refused, accepts, nowhere}
use Rattle.plans.proofs.All.{left_true, right_true, both_ways, all_true, all_true_at}
use Rattle.plans.specs.Sound.{all, sound}
use Rattle.plans.specs.declared.Plan.{Plan}
use Rattle.rules.specs.Check.{rules, checked, is_fit}
use Rattle.dispatch.proofs.Tested.{none}
use Rattle.dispatch.specs.View.{served_c}
use Rattle.dispatch.specs.Run.{done, Standing, left_within, ready, roomy, in_time, outcome}

-- a plan value that fits is sound
pub fits_sound : (plan : Plan) → is_fit plan ≡ true → sound plan ≡ true
unfolding is_fit checked accepts
fits_sound plan = go (sound plan)
  where
    go : (b : Bool) → accepts (cond b (rules plan) (Refused 16 nowhere)) ≡ true → b ≡ true
    go true e = refl
    go false e = e

-- room for k answers of each core, without a product that might wrap
module _ (plan : Plan) (k declines room : ℕ) where
  pub room_shared : 0 < plan.cores → k ≡ declines → leb k (room / plan.cores) ≡ roomy plan k declines room
  unfolding roomy
  room_shared some e =
      rw (eq-eqb k declines e)
      (both_ways (leb k (room / plan.cores)) (leb (k * plan.cores) room)
      (λ h. le-leb (k * plan.cores) room ((le-div_iff_mul-le some).0 (leb-true k (room / plan.cores) h)))
      (λ h. le-leb k (room / plan.cores) ((le-div_iff_mul-le some).1 (leb-true (k * plan.cores) room h))))

  pub unequal_refused : (k ≡ declines → ⊥) → eqb k declines ≡ roomy plan k declines room
  unfolding roomy
  unequal_refused other = rw (ne_eqb k declines other)

-- the counts decide, where the plan fits and the clock is in its range
pub ready_counts : (plan : Plan) (state : Standing) (b : Bool) → is_fit plan ≡ true → state.clock ≤ 2 ^ 40 →
    (b ≡ true) ↔ ((i : ℕ) → i < plan.size → get_or state.left i 0 ≤ served_c plan i) → b ≡ ready plan state
unfolding ready left_within
ready_counts plan state b fit early within =
    rw (fit, le-leb state.clock (2 ^ 40) early)
    (both_ways b (all (left_within plan state.left) plan.size)
    (λ h. all_true (left_within plan state.left) plan.size (λ i l. le-leb _ _ (within.0 h i l)))
    (λ h. within.1 (λ i l. leb-true _ _ (all_true_at (left_within plan state.left) plan.size h i l))))

-- a run that is done passed its three tests
pub done_tests : (plan : Plan) (state : Standing) (k declines room : ℕ) → outcome plan state k declines room ≡ done →
    (ready plan state ≡ true) × (roomy plan k declines room ≡ true) × (in_time state.clock k ≡ true)
unfolding outcome
done_tests plan state k declines room = (none (ready plan state) (roomy plan k declines room) (in_time state.clock k)).0

module _ (plan : Plan) (state : Standing) (k declines room : ℕ) (ends : done ≡ outcome plan state k declines room) where
  tests : (ready plan state ≡ true) × (roomy plan k declines room ≡ true) × (in_time state.clock k ≡ true)
  tests = done_tests plan state k declines room (sym ends)

  -- the inputs of a run that is done are equally long
  pub done_equal : k ≡ declines
  unfolding roomy
  done_equal = eqb-true k declines (left_true (eqb k declines) _ tests.1)

  -- there is room for its answers
  pub done_room : k * plan.cores ≤ room
  unfolding roomy
  done_room = leb-true (k * plan.cores) room (right_true (eqb k declines) _ tests.1)

  -- and the clock stays in its range
  pub done_clock : state.clock + k ≤ 2 ^ 40
  unfolding in_time
  done_clock = leb-true (state.clock + k) (2 ^ 40) tests.2

pub ruleset done_facts = (done_equal, done_room, done_clock)
