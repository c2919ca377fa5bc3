-- What specs/Unused.antt says of what is ignored, and of what is handed back, holds. Assumes nothing.
use Prim.Native.Nat.{ℕ, zero, suc, ◌*◌, ◌<◌}
use mathlib.Core.Bool.{not}
use mathlib.Core.List.{List, [], ◌∷◌}
use mathlib.Core.Path.{◌≡◌, refl, ap, ap₂, ◌∙◌}
use lib.Dec.{leb}
use lib.ListN.{length, get_or, replicate}
use native.Mathlib.Omega.{arith}
use Rattle.answers.specs.Answers.{accepts}
use Rattle.plans.proofs.All.{all_ext}
use Rattle.plans.specs.Plan.{hosting, is_host}
use Rattle.plans.specs.Promises.{Agree}
use Rattle.plans.specs.Sound.{all}
use Rattle.plans.specs.declared.Plan.{Plan}
use Rattle.rules.proofs.KeptUnused.{unused_ignored}
use Rattle.rules.specs.Check.{is_fit}
use Rattle.dispatch.proofs.Choices.{Alike}
use Rattle.dispatch.proofs.SlotsAlike.{SameCourse, fresh_alike, course_alike}
use Rattle.dispatch.proofs.SlotsPast.{course_kept}
use Rattle.dispatch.specs.View.{view_of, is_leaf, served_c, served_t}
use Rattle.dispatch.specs.Slot.{unsupplied}
use Rattle.dispatch.specs.Run.{Said, done, refused, Standing, Course, started, left_within, ready, roomy, outcome, course_to, course_by, course, state_by}
use Rattle.dispatch.specs.Run.{out_by, ran, out_after, stepped}
use Rattle.dispatch.specs.declared.Setting.{Setting}
use Rattle.dispatch.specs.Unused.{SameState, SameSupply, SameDeclines, Asked, SameAsked, FreshIgnores, RunIgnores, StepIgnores, RunKeepsPast, StepKeepsPast}

module _ (a b : Plan) (agree : Agree a b) where
  -- plan values that agree in all but unused entries are seen alike
  view_alike : Alike (view_of a) (view_of b)
  unfolding is_leaf is_host served_c served_t
  view_alike =
      record {
        size = agree.size;
        parent = λ i l. ap (λ n. n.parent) (agree.nodes i l);
        leaf = λ i l. ap (λ n. not (hosting n.kind)) (agree.nodes i l);
        c = λ i l. ap (λ n. n.served.c) (agree.nodes i l);
        t = λ i l. ap (λ n. n.served.t) (agree.nodes i l);
      }

  -- and fit alike
  fit_alike : is_fit a ≡ is_fit b
  unfolding is_fit
  fit_alike = ap accepts (unused_ignored a b agree)

  -- states that differ past the last node alone are refused alike
  ready_alike : (s t : Standing) → SameState a s t → ready a s ≡ ready b t
  unfolding ready left_within served_c
  ready_alike s t h =
      let within : all (left_within a s.left) a.size ≡ all (left_within b t.left) b.size =
      all_ext (left_within a s.left) (left_within b t.left) a.size
      (λ i l. ap₂ leb (h.counts.same i l) (ap (λ n. n.served.c) (agree.nodes i l))) ∙
      ap (all (left_within b t.left)) agree.size in
      rw (fit_alike, h.clock, within)

  outcome_alike : (s t : Standing) → SameState a s t → (k declines room : ℕ) → outcome a s k declines room ≡ outcome b t k declines room
  unfolding outcome roomy
  outcome_alike s t h k declines room = rw (ready_alike s t h, agree.cores, h.clock)

-- a fresh start ignores unused entries
pub fresh_ignores : FreshIgnores
unfolding started
fresh_ignores a b agree = rw (fit_alike a b agree, fresh_alike (view_of a) (view_of b) (view_alike a b agree))

module _ (setting : Setting) (a b : Asked) (h : SameAsked a b) where
  said_alike : (room : ℕ) →
      outcome a.plan a.state (length a.supplies) (length a.declines) room ≡
      outcome b.plan b.state (length b.supplies) (length b.declines) room
  said_alike room =
      rw (← h.slots, ← h.words)
      (outcome_alike a.plan b.plan h.plans a.state b.state h.states (length a.supplies) (length a.declines) room)

  goes_alike : SameCourse a.plan.size (course setting a.plan a.state a.supplies a.declines)
      (course setting b.plan b.state b.supplies b.declines)
  unfolding course course_by
  goes_alike =
      let from : ℕ → ℕ → ℕ → Course = λ m n k. course_to (view_of b.plan) m n (replicate k setting) b.supplies b.declines b.state.left k in
      let same : from a.plan.cores a.state.clock (length a.supplies) ≡ course setting b.plan b.state b.supplies b.declines =
      ap₂ (λ m n. from m n (length a.supplies)) h.plans.cores h.states.clock ∙ ap (from b.plan.cores b.state.clock) h.slots in
      rw same at
      (course_alike (view_of a.plan) (view_of b.plan) (view_alike a.plan b.plan h.plans) a.plan.cores a.state.clock
      (replicate (length a.supplies) setting) a.supplies b.supplies
      a.declines b.declines a.state.left b.state.left h.states.counts (length a.supplies) h.supplied h.declined)

-- one outcome, of two runs that go alike from states that differ past the last node alone: so do the states that they hand back,
state_alike : (plan : Plan) (o : Said) (s t : Standing) (k : ℕ) (c d : Course) → SameState plan s t → SameCourse plan.size c d →
    SameState plan (state_by o s k c) (state_by o t k d)
state_alike plan done s t k c d h g = record { clock = rw h.clock; counts = g.left }
state_alike plan (refused r) s t k c d h g = h

-- and the buffers are the same
out_alike : (o : Said) (n m : ℕ) (c d : Course) (out : List ℕ) → n ≡ m → c.answers ≡ d.answers → out_by o n c out ≡ out_by o m d out
out_alike done n m c d out e g = rw (e, g)
out_alike (refused r) n m c d out e g = refl

-- a run ignores unused entries, entries past the last node, and bits that name no supply or no leaf
pub run_ignores : RunIgnores
unfolding ran out_after
run_ignores setting a b h out =
    let o = outcome a.plan a.state (length a.supplies) (length a.declines) (length out) in
    let c = course setting a.plan a.state a.supplies a.declines in
    let d = course setting b.plan b.state b.supplies b.declines in (
      record {
        outcome = said_alike setting a b h (length out);
        state =
            rw (← (said_alike setting a b h (length out)), ← h.slots)
            (state_alike a.plan o a.state b.state (length a.supplies) c d h.states (goes_alike setting a b h));
      },
      rw (← (said_alike setting a b h (length out)))
          (out_alike o (length a.supplies * a.plan.cores) (length b.supplies * b.plan.cores) c d out (rw (h.slots, h.plans.cores))
          (goes_alike setting a b h).answers),
    )

-- a step is a run of one
pub step_ignores : StepIgnores
unfolding stepped
step_ignores setting a b agree s t states supplied supplied' declines declines' bytes words =
    let ends =
    run_ignores setting (record { plan = a; state = s; supplies = supplied ∷ []; declines = declines ∷ [] })
    (record { plan = b; state = t; supplies = supplied' ∷ []; declines = declines' ∷ [] })
    (record { plans = agree; states = states; slots = refl; words = refl; supplied = one (SameSupply a) bytes; declined = one (SameDeclines a) words })
    (replicate 8 unsupplied) in
    record { outcome = ends.0.outcome; state = ends.0.state; grants = ends.1 }
  where
    -- what holds of the elements of two lists of one holds at each place
    one : (P : ℕ → ℕ → Type 0) {x y : ℕ} → P x y → (k : ℕ) → k < 1 → P (get_or (x ∷ []) k 0) (get_or (y ∷ []) k 0)
    one P h zero l = h
    one P h (suc k) l = absurd (omega arith)

-- a run hands back what stands past the last node
pub run_keeps_past : RunKeepsPast
unfolding ran course course_by
run_keeps_past setting plan state supplies declines room i past =
    go (outcome plan state (length supplies) (length declines) room)
  where
    go : (o : Said) → get_or (state_by o state (length supplies) (course setting plan state supplies declines)).left i 0 ≡ get_or state.left i 0
    go done = course_kept (view_of plan) i past plan.cores state.clock (replicate (length supplies) setting) supplies declines state.left (length supplies)
    go (refused r) = refl

-- and so does a step
pub step_keeps_past : StepKeepsPast
unfolding stepped
step_keeps_past setting plan state supplied declines i past = run_keeps_past setting plan state (supplied ∷ []) (declines ∷ []) 8 i past
