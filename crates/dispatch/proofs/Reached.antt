-- Runs and steps one after the other come to what one run over all their inputs comes to. Assumes nothing.
use Prim.Native.Nat.{ℕ, ◌*◌}
use mathlib.Core.Bool.{Bool, true, false, cond}
use mathlib.Core.List.{List, [], ◌∷◌, ◌++◌}
use mathlib.Core.Path.{◌≡◌, refl, sym, ap, ◌∙◌}
use lib.Dec.{eqb}
use lib.ListN.{length, take, drop, replicate, length-append, length-replicate}
use lib.Seq.{take_at}
use borrow.Author.Tests.{eqb-true}
use native.Mathlib.Nat.{zero-add, one-mul}
use native.Mathlib.Omega.{arith}
use Rattle.plans.proofs.All.{left_true}
use Rattle.plans.proofs.Kept.{sound_kept}
use Rattle.plans.specs.declared.Plan.{Plan}
use Rattle.rules.specs.Check.{is_fit}
use Rattle.dispatch.proofs.Kept.{runs_join}
use Rattle.dispatch.proofs.Refusals.{fits_sound, done_tests}
use Rattle.dispatch.proofs.Running.{length_answers}
use Rattle.dispatch.specs.View.{view_of}
use Rattle.dispatch.specs.Slot.{unsupplied}
use Rattle.dispatch.specs.Run.{
  done,
  refused,
  Standing,
  RunEnd,
  fresh_left,
  fresh_state,
  zero_state,
  started,
  roomy,
  course_to,
  course_by,
  course,
  outcome,
  ran,
  out_after,
  stepped,
}
use Rattle.dispatch.specs.declared.Setting.{Setting}
use Rattle.dispatch.specs.Reached.{at_start, by_run, by_step, OneRun, ReachedAsOne}

-- a fresh start that is done is that of a plan that fits
start_fit : (plan : Plan) → (started plan).outcome ≡ done → is_fit plan ≡ true
unfolding started
start_fit plan = go (is_fit plan)
  where
    go : (b : Bool) →
        let r : RunEnd = cond b (record { outcome = done; state = fresh_state plan }) (record { outcome = refused 16; state = zero_state }) in
        r.outcome ≡ done → b ≡ true
    go true e = refl
    go false e = cc

-- and has all that is served left
start_fresh : (plan : Plan) → is_fit plan ≡ true → (started plan).state ≡ fresh_state plan
unfolding started
start_fresh plan e = rw e

-- the answers of a run are the front of its buffer
module _ (setting : Setting) (plan : Plan) (fit : is_fit plan ≡ true) (state : Standing) (more words out : List ℕ)
    (ends : outcome plan state (length more) (length words) (length out) ≡ done) where
  pub front_answers : take (length more * plan.cores) (out_after setting plan state more words out) ≡ (course setting plan state more words).answers
  unfolding out_after course course_by
  front_answers =
      let long =
      length_answers (view_of plan) plan.cores state.clock (replicate (length more) setting) more words state.left out
      (sound_kept plan (fits_sound plan fit)).eight_cores (length more) in
      rw (ends, take_at (course setting plan state more words).answers (drop (length more * plan.cores) out) (length more * plan.cores) long)

-- one run more
module _ (plan : Plan) (state : Standing) (settings : List Setting) (supplies declines answers : List ℕ)
    (so : OneRun plan state settings supplies declines answers) (setting : Setting) (more words out : List ℕ)
    (ends : (ran setting plan state more words (length out)).outcome ≡ done) where
  -- it has as many decline words as supply bytes
  words_alike : length more ≡ length words
  unfolding ran roomy
  words_alike =
      eqb-true (length more) (length words)
      (left_true (eqb (length more) (length words)) _ (done_tests plan state (length more) (length words) (length out) ends).1)

  -- the inputs so far and the run's are the slots of one course
  joined : course_by plan (fresh_state plan) (settings ++ replicate (length more) setting) (supplies ++ more) (declines ++ words) ≡
      record {
        left = (course setting plan state more words).left;
        answers = (course_by plan (fresh_state plan) settings supplies declines).answers ++ (course setting plan state more words).answers;
      }
  unfolding course course_by
  joined =
      rw (length-append supplies more, so.stands)
      (runs_join (view_of plan) plan.cores 0 settings (replicate (length more) setting) supplies declines more words (fresh_left (view_of plan)) so.set
      so.alike ∙ rw (zero-add (length supplies)))

  one_more : OneRun plan (ran setting plan state more words (length out)).state (settings ++ replicate (length more) setting) (supplies ++ more)
      (declines ++ words) (answers ++ take (length more * plan.cores) (out_after setting plan state more words out))
  unfolding ran
  one_more =
      record {
        fit = so.fit;
        set = length-append settings _ ∙ omega (arith, so.set, length-replicate (length more) setting) ∙ sym (length-append supplies more);
        alike = length-append supplies more ∙ omega (arith, so.alike, words_alike) ∙ sym (length-append declines words);
        stands = rw (ends, joined, length-append supplies more, ← (ap (λ s. s.clock) so.stands));
        answered = rw (joined, front_answers setting plan so.fit state more words out ends, so.answered);
      }

-- one step more is one run more, into eight bytes of 255
module _ (plan : Plan) (state : Standing) (settings : List Setting) (supplies declines answers : List ℕ)
    (so : OneRun plan state settings supplies declines answers) (setting : Setting) (supplied word : ℕ)
    (ends : (stepped setting plan state supplied word).outcome ≡ done) where
  step_more : OneRun plan (stepped setting plan state supplied word).state (settings ++ (setting ∷ [])) (supplies ++ (supplied ∷ []))
      (declines ++ (word ∷ [])) (answers ++ take plan.cores (stepped setting plan state supplied word).grants)
  unfolding stepped
  step_more =
      rw (one-mul plan.cores) at
      (one_more plan state settings supplies declines answers so setting (supplied ∷ []) (word ∷ []) (replicate 8 unsupplied) ends)

pub reached_as_one : ReachedAsOne
unfolding course_by course_to
reached_as_one plan state settings supplies declines answers (at_start e) =
    let fit = start_fit plan e in
    record { fit = fit; set = refl; alike = refl; stands = start_fresh plan fit; answered = refl }
reached_as_one plan state settings supplies declines answers
    (by_run {state = s} {settings = ws} {supplies = ss} {declines = ds} {answers = given} r setting more words out e) =
    one_more plan s ws ss ds given (reached_as_one plan s ws ss ds given r) setting more words out e
reached_as_one plan state settings supplies declines answers
    (by_step {state = s} {settings = ws} {supplies = ss} {declines = ds} {answers = given} r setting supplied word e) =
    step_more plan s ws ss ds given (reached_as_one plan s ws ss ds given r) setting supplied word e
