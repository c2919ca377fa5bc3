-- A refusal writes nothing, but for zeros and answers of 255: what specs/Promises.antt says of each call. Assumes nothing.
use Prim.Native.Nat.{ℕ}
use mathlib.Core.Bool.{Bool, true, false, cond}
use mathlib.Core.List.{List}
use mathlib.Core.Path.{◌≡◌, refl, ap, ◌∙◌}
use lib.Dec.{leb, eqb}
use lib.ListN.{length, replicate}
use borrow.Author.Tests.{eq-eqb}
use Rattle.answers.specs.Answers.{Answer, Accepted, Refused}
use Rattle.ticks.specs.Times as times
use Rattle.types.specs.Decision.{decided, writing}
use Rattle.types.specs.Decision as pairs
use Rattle.plans.specs.declared.Plan.{Plan}
use Rattle.rules.specs.Check.{is_fit}
use Rattle.reader.specs.Read.{read_plan}
use Rattle.reader.proofs.Kept.{refused_zeros}
use Rattle.dispatch.specs.Slot.{unsupplied}
use Rattle.dispatch.specs.Run.{Said, done, Standing, RunEnd, StepEnd, outcome, Course, out_by, ran, out_after, stepped, started}
use Rattle.dispatch.specs.Run as runs
use Rattle.numbers.specs.Numbers.{plan_numbers, plan_of_numbers, state_numbers, state_of_numbers, is_state}
use Rattle.numbers.proofs.Laid.{zeros_laid}
use Rattle.exports.specs.Exports as exports
use Rattle.exports.specs.Exports.{
  misfit,
  refusal,
  keeping,
  telling,
  deciding,
  deciding_by,
  kind_numbered,
  answer_of,
  reading,
  stepped_by,
  ran_by,
  are_whole,
  freshening,
  stepping,
  running,
}
use Rattle.exports.specs.Promises.{RefusedTime, RefusedPair, RefusedRun, RefusedStep, RefusedRead, RefusedFresh}

-- slot times
pub refused_time : RefusedTime
unfolding telling
refused_time s lent = go (eqb (length lent) 1) s
  where
    go : (b : Bool) (s : times.Said) → ((cond b (exports.telling_by s lent) (misfit, lent)).0 ≡ 0 → ⊥) → (cond b (exports.telling_by s lent) (misfit, lent)).1 ≡ lent
    go true (times.number v) h = absurd (h refl)
    go true (times.refused r) h = refl
    go false s h = refl

-- pairs of types
pub refused_pair : RefusedPair
unfolding deciding pairs.out_after
refused_pair gives giver wants wanted out lent =
    go (eqb (length lent) 4) (leb gives 1) (leb wants 1) (decided (kind_numbered gives) giver (kind_numbered wants) wanted (length out))
  where
    go : (a b c : Bool) (d : pairs.Said) →
        let by = deciding_by d lent in
        let w : ℕ × List ℕ × List ℕ =
        cond a (cond b (cond c (by.0, writing giver wanted out d, by.1) (refusal 5 1, out, lent)) (refusal 5 0, out, lent)) (misfit, out, lent) in
        (w.0 ≡ 0 → ⊥) → (w.1 ≡ out) × (w.2 ≡ lent)
    go true true true (pairs.holds m) h = absurd (h refl)
    go true true true (pairs.fails s o n) h = absurd (h refl)
    go true true true (pairs.refused r p) h = (refl, refl)
    go true true false d h = (refl, refl)
    go true false c d h = (refl, refl)
    go false b c d h = (refl, refl)

-- runs
pub refused_run : RefusedRun
unfolding running ran_by exports.out_by exports.by_numbers ran out_after
refused_run setting plan state supplies declines out =
    go (are_whole plan state) (exports.is_setting setting) (is_state state) (outcome p s (length supplies) (length declines) (length out)) _ _ _
  where
    p : Plan
    p = plan_of_numbers plan

    s : Standing
    s = state_of_numbers state

    go : (a b f : Bool) (o : Said) (after : Standing) (n : ℕ) (c : Course) →
        let r : RunEnd = cond b (cond f (record { outcome = o; state = after }) (exports.refused_ran 16)) (exports.refused_ran 5) in
        let kept = keeping r.outcome r.state state in
        let w : ℕ × List ℕ × List ℕ = cond a (kept.0, kept.1, cond b (cond f (out_by o n c out) out) out) (misfit, state, out) in
        (w.0 ≡ 0 → ⊥) → (w.1 ≡ state) × (w.2 ≡ out)
    go true true true done after n c h = absurd (h refl)
    go true true true (runs.refused r) after n c h = (refl, refl)
    go true true false o after n c h = (refl, refl)
    go true false f o after n c h = (refl, refl)
    go false b f o after n c h = (refl, refl)

-- steps
pub refused_step : RefusedStep
unfolding stepping stepped_by exports.by_numbers stepped ran out_after
refused_step setting plan state supplied declines grants whole eight =
    rw (whole, eq-eqb (length grants) 8 eight) (go (exports.is_setting setting) (is_state state) (outcome p s 1 1 8) _ _ _)
  where
    p : Plan
    p = plan_of_numbers plan

    s : Standing
    s = state_of_numbers state

    go : (b f : Bool) (o : Said) (after : Standing) (n : ℕ) (c : Course) →
        let given : StepEnd = record { outcome = o; state = after; grants = out_by o n c (replicate 8 unsupplied) } in
        let r : StepEnd = cond b (cond f given (exports.refused_stepped 16)) (exports.refused_stepped 5) in
        let kept = keeping r.outcome r.state state in
        (kept.0 ≡ 0 → ⊥) → (kept.1 ≡ state) × (r.grants ≡ replicate 8 unsupplied)
    go true true done after n c h = absurd (h refl)
    go true true (runs.refused r) after n c h = (refl, refl)
    go true false o after n c h = (refl, refl)
    go false f o after n c h = (refl, refl)

-- reads
pub refused_read : RefusedRead
unfolding reading answer_of
refused_read bytes lent whole = rw (eq-eqb (length lent) 533 whole) (go (read_plan bytes).answer refl)
  where
    go : (a : Answer) → (read_plan bytes).answer ≡ a → (answer_of a ≡ 0 → ⊥) → plan_numbers (read_plan bytes).plan ≡ replicate 533 0
    go Accepted e h = absurd (h refl)
    go (Refused r k) e h = ap plan_numbers (refused_zeros bytes r k e) ∙ zeros_laid

-- fresh starts
pub refused_fresh : RefusedFresh
unfolding freshening started state_numbers
refused_fresh plan lent whole = rw whole (go (is_fit (plan_of_numbers plan)) _)
  where
    go : (f : Bool) (left : List ℕ) →
        let r : RunEnd = cond f (record { outcome = done; state = record { clock = 0; left = left } }) (exports.refused_ran 16) in
        (exports.outcome_of r.outcome ≡ 0 → ⊥) → state_numbers r.state ≡ replicate 65 0
    go true left h = absurd (h refl)
    go false left h = refl
