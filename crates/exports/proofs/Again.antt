-- A state that a call hands back is one that the next call with the same plan takes, and reads back: specs/Again.antt. Assumes nothing.
use Prim.Native.Nat.{ℕ}
use mathlib.Core.Bool.{Bool, true, false, cond, ◌&&◌}
use mathlib.Core.List.{List, [], ◌∷◌}
use mathlib.Core.Path.{◌≡◌, refl, sym, ap}
use native.Mathlib.Omega.{arith}
use lib.Dec.{eqb}
use lib.ListN.{length}
use Rattle.plans.proofs.Kept.{sound_kept}
use Rattle.plans.specs.declared.Plan.{Plan}
use Rattle.rules.specs.Check.{is_fit}
use Rattle.dispatch.specs.Run.{Said, done, refused, Standing, RunEnd, StepEnd, fresh_state, ready, started, course_by, course, ran, stepped}
use Rattle.dispatch.specs.declared.Setting.{Setting}
use Rattle.dispatch.proofs.Ready.{ready_fit, ready_taken, fresh_ready, run_ready, step_ready}
use Rattle.dispatch.proofs.Refusals.{fits_sound, done_tests}
use Rattle.numbers.specs.Numbers.{plan_of_numbers, state_numbers, state_of_numbers, is_state}
use Rattle.numbers.specs.Promises.{HeldState}
use Rattle.numbers.proofs.Kept.{state_laid_out}
use Rattle.numbers.proofs.Held.{said_held, fresh_held, course_held}
use Rattle.exports.specs.Exports.{
  placeless,
  refusal,
  misfit,
  outcome_of,
  keeping,
  is_setting,
  setting_numbered,
  by_numbers,
  refused_ran,
  refused_stepped,
  stepped_by,
  ran_by,
  are_whole,
  freshening,
  stepping,
  running,
}
use Rattle.exports.specs.Again.{HandedBack, FreshHandsBack, StepHandsBack, RunHandsBack}

-- a refusal is never 0,
refusal_some : (r : ℕ) → refusal r placeless ≡ 0 → ⊥
unfolding refusal
refusal_some r e = omega arith

-- and its number is told
refusal_number : (r q : ℕ) → refusal r placeless ≡ refusal q placeless → r ≡ q
unfolding refusal
refusal_number r q e = omega arith

-- what was kept was done, and its state laid down, where the answer is 0
kept_done : (o : Said) (after : Standing) (lent : List ℕ) → (keeping o after lent).0 ≡ 0 → (o ≡ done) × ((keeping o after lent).1 ≡ state_numbers after)
kept_done done after lent h = (refl, refl)
kept_done (refused r) after lent h = absurd (refusal_some r h)

-- and it was refused by 16 where the answer is that
kept_sixteen : (o : Said) (after : Standing) (lent : List ℕ) → (keeping o after lent).0 ≡ refusal 16 placeless → o ≡ refused 16
kept_sixteen done after lent h = absurd (refusal_some 16 (sym h))
kept_sixteen (refused r) after lent h = ap refused (refusal_number r 16 h)

-- what is taken is taken under whatever setting, from numbers that are a state's
taken_by : {A : Type 0} (said : A → Said) (setting : ℕ) (state : List ℕ) (given : A) (by : ℕ → A) → is_state state ≡ true → said (by 5) ≡ refused 5 →
    (said given ≡ refused 16 → ⊥) → said (by_numbers setting state given by) ≡ refused 16 → ⊥
unfolding by_numbers
taken_by said setting state given by fit unset other = rw fit (go (is_setting setting))
  where
    go : (b : Bool) → said (cond b given (by 5)) ≡ refused 16 → ⊥
    go true h = other h
    go false h = let z : ◌≡◌ {A = ℕ} 5 16 = cc in omega arith

-- So a state that can be held and is ready with a plan is handed back to the next call.
module _ (plan : List ℕ) (after : Standing) (held : HeldState after) (is : ready (plan_of_numbers plan) after ≡ true) where
  laid_fit : is_state (state_numbers after) ≡ true
  laid_fit = (state_laid_out after held).fit

  laid_back : state_of_numbers (state_numbers after) ≡ after
  laid_back = (state_laid_out after held).back

  -- a step with it is not refused by 16,
  step_taken : (setting supplied declines : ℕ) → (stepped_by setting plan (state_numbers after) supplied declines).outcome ≡ refused 16 → ⊥
  unfolding stepped_by stepped ran
  step_taken setting supplied declines =
      taken_by (λ r. r.outcome) setting (state_numbers after) _ refused_stepped laid_fit refl
      (rw laid_back (ready_taken (plan_of_numbers plan) after is 1 1 8))

  -- nor is a run
  run_taken : (setting : ℕ) (supplies declines : List ℕ) (room : ℕ) →
      (ran_by setting plan (state_numbers after) supplies declines room).outcome ≡ refused 16 → ⊥
  unfolding ran_by ran
  run_taken setting supplies declines room =
      taken_by (λ r. r.outcome) setting (state_numbers after) _ refused_ran laid_fit refl
      (rw laid_back (ready_taken (plan_of_numbers plan) after is _ _ room))

  -- so neither answers it
  handed_back : HandedBack plan after (state_numbers after)
  unfolding stepping running
  handed_back =
      record {
        fit = laid_fit;
        back = laid_back;
        step = λ setting supplied declines grants.
            go (are_whole plan (state_numbers after) && eqb (length grants) 8) (stepped_by setting plan (state_numbers after) supplied declines).outcome _ _ _
            (step_taken setting supplied declines);
        run = λ setting supplies declines out.
            go (are_whole plan (state_numbers after)) (ran_by setting plan (state_numbers after) supplies declines (length out)).outcome _ _ _
            (run_taken setting supplies declines (length out));
      }
    where
      go : (a : Bool) (o : Said) (later : Standing) (x y : List ℕ) → (o ≡ refused 16 → ⊥) →
          let kept = keeping o later (state_numbers after) in
          let w : ℕ × List ℕ × List ℕ = cond a (kept.0, kept.1, x) (misfit, state_numbers after, y) in
          w.0 ≡ refusal 16 placeless → ⊥
      go true o later x y other h = other (kept_sixteen o later (state_numbers after) h)
      go false o later x y other h = let z : ◌≡◌ {A = ℕ} 17 16 = refusal_number 17 16 h in omega arith

-- after a fresh start
pub fresh_hands_back : FreshHandsBack
unfolding freshening started
fresh_hands_back plan lent = go (are_whole plan lent) (is_fit p) refl
  where
    p : Plan
    p = plan_of_numbers plan

    go : (a f : Bool) → is_fit p ≡ f →
        let s : RunEnd = cond f (record { outcome = done; state = fresh_state p }) (refused_ran 16) in
        let w : ℕ × List ℕ = cond a (outcome_of s.outcome, state_numbers s.state) (misfit, lent) in
        w.0 ≡ 0 → HandedBack plan s.state w.1
    go true true e h = handed_back plan (fresh_state p) (fresh_held p (sound_kept p (fits_sound p e)) 0) (rw e at (fresh_ready p) refl)
    go true false e h = absurd (refusal_some 16 h)
    go false f e h = absurd (refusal_some 17 h)

-- a run that is done hands back a state that can be held
run_held : (setting : Setting) (plan : Plan) (state : Standing) (supplies declines : List ℕ) (room : ℕ) → HeldState state →
    (ran setting plan state supplies declines room).outcome ≡ done → HeldState (ran setting plan state supplies declines room).state
unfolding ran course course_by
run_held setting plan state supplies declines room held e =
    rw e
    (course_held plan (sound_kept plan (fits_sound plan (ready_fit plan state (done_tests plan state (length supplies) (length declines) room e).0))) state.left plan.cores state.clock _ supplies declines state.clock _
    held (length supplies))

-- after a run
pub run_hands_back : RunHandsBack
unfolding running ran_by by_numbers
run_hands_back setting plan state supplies declines out = go (are_whole plan state) (is_setting setting) (is_state state) _ _
  where
    p : Plan
    p = plan_of_numbers plan

    s : Standing
    s = state_of_numbers state

    o : Setting
    o = setting_numbered setting

    r : RunEnd
    r = ran o p s supplies declines (length out)

    go : (a b f : Bool) (q : ℕ) (x : List ℕ) →
        let g : RunEnd = cond b (cond f r (refused_ran 16)) (refused_ran q) in
        let kept = keeping g.outcome g.state state in
        let w : ℕ × List ℕ × List ℕ = cond a (kept.0, kept.1, x) (misfit, state, out) in
        w.0 ≡ 0 → HandedBack plan r.state w.1
    go true true true q x h =
        let d = kept_done r.outcome r.state state h in
        rw d.1
        (handed_back plan r.state (run_held o p s supplies declines (length out) (said_held state) d.0) (run_ready o p s supplies declines (length out) d.0))
    go true true false q x h = absurd (refusal_some 16 h)
    go true false f q x h = absurd (refusal_some q h)
    go false b f q x h = absurd (refusal_some 17 h)

-- after a step
pub step_hands_back : StepHandsBack
unfolding stepping stepped_by by_numbers stepped
step_hands_back setting plan state supplied declines grants =
    go (are_whole plan state && eqb (length grants) 8) (is_setting setting) (is_state state) _
  where
    p : Plan
    p = plan_of_numbers plan

    s : Standing
    s = state_of_numbers state

    o : Setting
    o = setting_numbered setting

    r : StepEnd
    r = stepped o p s supplied declines

    held : r.outcome ≡ done → HeldState r.state
    held e = run_held o p s (supplied ∷ []) (declines ∷ []) 8 (said_held state) e

    go : (a b f : Bool) (q : ℕ) →
        let g : StepEnd = cond b (cond f r (refused_stepped 16)) (refused_stepped q) in
        let kept = keeping g.outcome g.state state in
        let w : ℕ × List ℕ × List ℕ = cond a (kept.0, kept.1, g.grants) (misfit, state, grants) in
        w.0 ≡ 0 → HandedBack plan r.state w.1
    go true true true q h =
        let d = kept_done r.outcome r.state state h in
        rw d.1 (handed_back plan r.state (held d.0) (step_ready o p s supplied declines d.0))
    go true true false q h = absurd (refusal_some 16 h)
    go true false f q h = absurd (refusal_some q h)
    go false b f q h = absurd (refusal_some 17 h)
