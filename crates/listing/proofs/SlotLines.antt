-- What the calls that put slot lines answer: a slot's start, and the answers of the first eight slots. Assumes nothing.
use Rattle.std.proofs.Common.{ℕ, ◌+◌, ◌*◌, ◌-◌, ◌^◌, ◌≤◌, ◌<◌, ◌≡◌, true, List, [], ◌∷◌, ◌++◌, length, get_or, take, drop, replicate, Result, Ok, Err, IsOk, refl, sym, ap, ◌∙◌, append-nil, length-take, length-drop, arith}
use Rattle.std.proofs.lemmas.Grind.{elements}
use Rattle.std.proofs.lemmas.List.{drop_all}
use borrow.Author.Tests.{le-leb}
use native.Mathlib.Nat.{div-le_self, mul-le-mul, mul-le-mul_right}
use Rattle.ticks.proofs.Answers.{fit}
use Rattle.ticks.specs.Times.{is_fit as is_fit_tick, begins, number, said, limited, timed}
use Rattle.ticks.specs.declared.Tick.{Tick}
use Rattle.ticks.specs.declared.Refusal.{Refusal}
use Rattle.ticks.specs.declared.Refusal.TheVariants.{Beyond, Unfit}
use Rattle.plans.proofs.Kept.{sound_kept}
use Rattle.plans.specs.Sound.{Sound, sound}
use Rattle.plans.specs.declared.Plan.{Plan}
use Rattle.rules.specs.Check.{is_fit}
use Rattle.dispatch.proofs.Refusals.{fits_sound}
use Rattle.dispatch.proofs.Running.{length_answers}
use Rattle.dispatch.proofs.Ready.{fresh_ready}
use Rattle.dispatch.specs.View.{view_of}
use Rattle.dispatch.specs.Run.{done, standing, fresh_end, run_end, fresh_state, started, ran, ready, roomy, in_time, outcome, course_by, course, out_after}
use Rattle.dispatch.specs.declared.Refusal.{Refusal as NotDone}
use Rattle.dispatch.specs.declared.State.{State}
use Rattle.dispatch.specs.declared.Setting.{Setting}
use Rattle.dispatch.specs.declared.Setting.TheVariants.{Off}
use Rattle.listing.specs.Text.{first_eight, answer_text, answer_part}

-- The start of one of the first eight slots, where a is what was answered.
module _ (tick : Tick) (n : ℕ) (good : is_fit_tick tick ≡ true) (few : n < 8) where
  -- it begins within seven seconds
  pub begins_most : begins tick n ≤ 7_000_000
  unfolding begins
  begins_most =
      let less : n ≤ 7 = omega arith in
      let product : n * tick.p ≤ 7 * 1_000_000 = mul-le-mul less (fit tick good).p.most in
      omega (arith, div-le_self (n * tick.p) tick.q)

  -- so it is a number, and no refusal
  pub start_number : (a : Result ℕ Refusal) → said a ≡ timed tick n (begins tick n) → a ≡ Ok (begins tick n)
  unfolding timed limited
  start_number a e = go a (rw (good, le-leb n (2 ^ 40) (omega arith), le-leb (begins tick n) (2 ^ 40) (omega (arith, begins_most))) at e)
    where
      go : (a : Result ℕ Refusal) → said a ≡ number (begins tick n) → a ≡ Ok (begins tick n)
      go (Ok v) k = cc
      go (Err Beyond) k = cc
      go (Err Unfit) k = cc

-- a sound plan has a fit tick
pub plan_fit : (plan : Plan) → sound plan ≡ true → is_fit_tick plan.tick ≡ true
plan_fit plan e = (sound_kept plan e).tick

-- and eight cores at most
pub plan_cores : (plan : Plan) → sound plan ≡ true → plan.cores ≤ 8
plan_cores plan e = (sound_kept plan e).eight_cores

-- so one that fits has room for its answers
pub answers_room : (plan : Plan) → is_fit plan ≡ true → 8 * plan.cores ≤ 64
answers_room plan e = omega (arith, plan_cores plan (fits_sound plan e))

-- The first eight slots of a plan that fits, all cores supplied and nobody declining.
module _ (plan : Plan) (fitting : is_fit plan ≡ true) where
  kept : Sound plan
  kept = sound_kept plan (fits_sound plan fitting)

  -- a fresh start is done
  fresh_given : started plan ≡ record { outcome = done; state = fresh_state plan }
  unfolding started
  fresh_given = rw fitting

  -- and its state is fit
  given_ready : ready plan (fresh_state plan) ≡ true
  given_ready = rw (ap (λ r. r.state) fresh_given) at (fresh_ready plan (ap (λ r. r.outcome) fresh_given))

  pub length_first_eight : length (first_eight plan) ≡ 8 * plan.cores
  unfolding first_eight course course_by
  length_first_eight = length_answers (view_of plan) plan.cores _ _ _ _ _ [] kept.eight_cores 8

  -- so it is no refusal,
  pub fresh_done : (f : Result State NotDone) → fresh_end f ≡ started plan → IsOk f
  fresh_done (Ok state) e = refl
  fresh_done (Err r) e = let no = ap (λ x. x.outcome) (e ∙ fresh_given) in absurd (cc)

  module _ (f : Result State NotDone) (e : fresh_end f ≡ started plan) (state : State) (is : f ≡ Ok state)
      (out : List ℕ) (long : length out ≡ 8 * plan.cores) where
    stands : standing state ≡ fresh_state plan
    stands = ap (λ x. x.state) (ap fresh_end (sym is) ∙ e ∙ fresh_given)

    -- the run is done,
    fresh_outcome : outcome plan (fresh_state plan) 8 8 (length out) ≡ done
    unfolding outcome roomy in_time
    fresh_outcome = rw (long, given_ready, le-leb (8 * plan.cores) (8 * plan.cores) (omega arith))

    run_done : outcome plan (standing state) 8 8 (length out) ≡ done
    run_done = ap (λ s. outcome plan s 8 8 (length out)) stands ∙ fresh_outcome

    pub ran_done : (setting : Setting) (r : Result (Unit {0}) NotDone) (after : State) →
        run_end r after ≡ ran setting plan (standing state) (replicate 8 255) (replicate 8 0) (length out) → IsOk r
    unfolding ran
    ran_done setting (Ok u) after e = refl
    ran_done setting (Err r) after e = let no = ap (λ x. x.outcome) e ∙ run_done in absurd (cc)

    -- and the buffer has its answers
    pub slots_given : (after : List ℕ) →
        after ≡ out_after Off plan (standing state) (replicate 8 255) (replicate 8 0) out → after ≡ first_eight plan
    unfolding out_after first_eight
    slots_given after h =
        (rw run_done at h)
        ∙ ap (λ r. (course Off plan r (replicate 8 255) (replicate 8 0)).answers ++ drop (8 * plan.cores) out) (stands ∙ ap (λ x. x.state) (sym fresh_given))
        ∙ ap (λ x. first_eight plan ++ x) (drop_all (8 * plan.cores) out (omega arith)) ∙ append-nil (first_eight plan)

-- The answers of slot n, one for each core.
module _ (grants : List ℕ) (cores n : ℕ) (few : n < 8) (given : length grants ≡ 8 * cores) where
  abbrev of_slot : List ℕ
  of_slot = take ((n + 1) * cores - n * cores) (drop (n * cores) grants)

  pub length_of_slot : length of_slot ≡ cores
  length_of_slot =
      let most : (n + 1) * cores ≤ 8 * cores = mul-le-mul_right cores (omega arith) in
      simp (length-take, length-drop) (omega arith)

  -- each, with a space before it, is a part of the line
  pub part_is : (s : ℕ) → s < length (take ((n + 1) * cores - n * cores) (drop (n * cores) grants)) →
      32 ∷ answer_text (get_or (take ((n + 1) * cores - n * cores) (drop (n * cores) grants)) s 0) ≡ answer_part grants cores n s
  unfolding answer_part
  part_is s l =
      let within : s < cores = omega (arith, length_of_slot) in
      let most : (n + 1) * cores ≤ 8 * cores = mul-le-mul_right cores (omega arith) in
      ap (λ g. 32 ∷ answer_text g) (grind (arith, elements))
