-- What the calls that give out a run answer: the laws of the loop over the slots, and one law a return of a run and of a step. Assumes nothing.
use Prim.Native.Nat.{ℕ, zero, suc, ◌+◌, ◌*◌, ◌≤◌, ◌<◌}
use mathlib.Core.List.{List, [], ◌∷◌, ◌++◌}
use mathlib.Core.Path.{◌≡◌, refl, sym, ap, ◌∙◌}
use lib.ListN.{length, get_or, take, drop, replicate, length-append, take-append-drop, get_or-replicate}
use Rattle.std.proofs.lemmas.Slice.{put_mid-paste}
use borrow.Rule.Slice.PartMut.{put_mid}
use lib.Seq.{paste, length-take-le, take_all, take_at, drop-append-add, drop-drop}
use native.Mathlib.Nat.{le_antisymm, add-zero, zero-mul, one-mul, suc-mul}
use native.Mathlib.Numerals.{add-one}
use native.Mathlib.Omega.{arith}
use Rattle.plans.specs.declared.Plan.{Plan}
use Rattle.dispatch.proofs.SlotsLengths.{length_grants, slot_past}
use Rattle.dispatch.specs.View.{View, view_of}
use Rattle.dispatch.specs.Slot.{SlotEnd, slot, unsupplied}
use Rattle.dispatch.specs.Run.{done, refused, Standing, outcome, Course, course_to, course_by, course, ran, out_after, stepped}
use Rattle.dispatch.specs.declared.Setting.{Setting}
use Rattle.dispatch.specs.declared.Setting.TheVariants.{Off}

-- n elements laid down behind the front of a buffer
paste_behind : (front d part out : List ℕ) (at n : ℕ) → length front ≡ at → out ≡ front ++ drop at d →
    paste out at part n ≡ front ++ take n part ++ drop (at + n) d
paste_behind front d part out at n e h =
    let beyond : drop (at + n) (front ++ drop at d) ≡ drop (at + n) d =
    sym (ap (λ m. drop (m + n) (front ++ drop at d)) e) ∙ drop-append-add front (drop at d) n ∙ drop-drop n at d in
    rw (h, take_at front (drop at d) at e, beyond)

-- The loop over the slots of a run from counts `start` into a buffer d. Its invariant is i ≤ k with `Given` below.
module _ (v : View) (cores n : ℕ) (settings : List Setting) (supplies declines start d : List ℕ) where
  -- the counts after the first i slots, and the buffer with their answers at its front
  pub record Given (left out : List ℕ) (i : ℕ) : Type 0 where
    pub counts : left ≡ (course_to v cores n settings supplies declines start i).left
    pub buffer : out ≡ (course_to v cores n settings supplies declines start i).answers ++ drop (i * cores) d

  -- before the first slot
  pub give_none : Given start d 0
  unfolding course_to
  give_none = record { counts = refl; buffer = rw (zero-mul cores) }

  -- a slot has an answer for each core
  length_one : cores ≤ 8 → (setting : Setting) (m supplied declined : ℕ) (left : List ℕ) →
      length (take cores (slot setting v cores m supplied declined left).grants) ≡ cores
  length_one few setting m supplied declined left =
      length-take-le cores (slot setting v cores m supplied declined left).grants (omega (arith, length_grants setting v cores m supplied declined left))

  -- and so has each of a run
  pub length_answers : cores ≤ 8 → (i : ℕ) → length (course_to v cores n settings supplies declines start i).answers ≡ i * cores
  unfolding course_to
  length_answers few zero = sym (zero-mul cores)
  length_answers few (suc i) =
      length-append (course_to v cores n settings supplies declines start i).answers _ ∙ rw (length_answers few i, length_one few, suc-mul i cores)

  -- one slot more, whose answers stand in the buffer where its part of it was
  give_more : cores ≤ 8 → (left out : List ℕ) (i : ℕ) → Given left out i →
      (next : SlotEnd) → next ≡ slot (get_or settings i Off) v cores (n + i) (get_or supplies i 0) (get_or declines i 0) left →
      (k : ℕ) → k ≡ cores → (part : List ℕ) → part ≡ take cores next.grants → Given next.left (put_mid (i * cores) k out part) (i + 1)
  unfolding course_to
  give_more few left out i so next e k all part is =
      let whole : length part ≡ cores = ap length (is ∙ ap (λ w. take cores w.grants) e) ∙ length_one few _ _ _ _ _ in
      record {
        counts = rw (add-one i, e, so.counts);
        buffer =
            put_mid-paste (i * cores) k out part part cores refl (sym all) (sym whole)
            ∙ paste_behind (course_to v cores n settings supplies declines start i).answers d part out (i * cores) cores (length_answers few i) so.buffer
            ∙ rw (take_all cores part (omega arith), add-one i, suc-mul i cores, is, e, so.counts);
      }

module _ (setting : Setting) (plan : Plan) (state : Standing) (supplies declines d left out : List ℕ) (i : ℕ)
    (so : Given (view_of plan) plan.cores state.clock (replicate (length supplies) setting) supplies declines state.left d left out i)
    (l : i ≤ length supplies) (h : length supplies ≤ i) where
  abbrev from : ℕ → Course
  from = course_to (view_of plan) plan.cores state.clock (replicate (length supplies) setting) supplies declines state.left

  -- past the last slot the counts are the run's
  pub give_counts : left ≡ (course setting plan state supplies declines).left
  unfolding course course_by
  give_counts = so.counts ∙ ap (λ k. (from k).left) (le_antisymm l h)

  -- and so is the buffer
  pub give_buffer : out ≡ (course setting plan state supplies declines).answers ++ drop (length supplies * plan.cores) d
  unfolding course course_by
  give_buffer = so.buffer ∙ ap (λ k. (from k).answers ++ drop (k * plan.cores) d) (le_antisymm l h)

-- every slot of a run has the run's setting
module _ (setting : Setting) (v : View) (cores n : ℕ) (supplies declines start d : List ℕ) where
  pub give_one : cores ≤ 8 → (left out : List ℕ) (i : ℕ) →
      Given v cores n (replicate (length supplies) setting) supplies declines start d left out i → i < length supplies →
      (next : SlotEnd) → next ≡ slot setting v cores (n + i) (get_or supplies i 0) (get_or declines i 0) left →
      (k : ℕ) → k ≡ cores → (part : List ℕ) → part ≡ take cores next.grants →
      Given v cores n (replicate (length supplies) setting) supplies declines start d next.left (put_mid (i * cores) k out part) (i + 1)
  give_one few left out i so l next e =
      give_more v cores n (replicate (length supplies) setting) supplies declines start d few left out i so next
      (e ∙ ap (λ a. slot a v cores (n + i) (get_or supplies i 0) (get_or declines i 0) left) (sym (get_or-replicate (length supplies) i setting Off l)))

-- a refusal hands back the given state and writes nowhere
module _ (setting : Setting) (plan : Plan) (state : Standing) (supplies declines : List ℕ) (r : ℕ) where
  pub run_refused : (room : ℕ) → refused r ≡ outcome plan state (length supplies) (length declines) room →
      record { outcome = refused r; state = state } ≡ ran setting plan state supplies declines room
  unfolding ran
  run_refused room e = rw (← e)

  pub room_kept : (out : List ℕ) → refused r ≡ outcome plan state (length supplies) (length declines) (length out) →
      out ≡ out_after setting plan state supplies declines out
  unfolding out_after
  room_kept out e = rw (← e)

-- a run that is done hands back the counts after it, with the clock moved on, and lays its answers down
module _ (setting : Setting) (plan : Plan) (state : Standing) (supplies declines : List ℕ) where
  pub run_done : (room : ℕ) → done ≡ outcome plan state (length supplies) (length declines) room →
      record { outcome = done; state = record { clock = state.clock + length supplies; left = (course setting plan state supplies declines).left } } ≡
      ran setting plan state supplies declines room
  unfolding ran
  run_done room e = rw (← e)

  pub room_filled : (out : List ℕ) → done ≡ outcome plan state (length supplies) (length declines) (length out) →
      (course setting plan state supplies declines).answers ++ drop (length supplies * plan.cores) out ≡ out_after setting plan state supplies declines out
  unfolding out_after
  room_filled out e = rw (← e)

module _ (setting : Setting) (plan : Plan) (state : Standing) (supplied declines : ℕ) where
  -- a run of one is one slot
  pub course_one :
      let next : SlotEnd = slot setting (view_of plan) plan.cores state.clock supplied declines state.left in
      course setting plan state (supplied ∷ []) (declines ∷ []) ≡ record { left = next.left; answers = take plan.cores next.grants }
  unfolding course course_by course_to
  course_one = rw (add-zero state.clock)

  -- whose answers, laid down in eight bytes of 255, are all eight of the slot
  pub grants_whole :
      let next : SlotEnd = slot setting (view_of plan) plan.cores state.clock supplied declines state.left in
      take plan.cores next.grants ++ drop (1 * plan.cores) (replicate 8 unsupplied) ≡ next.grants
  grants_whole =
      let next = slot setting (view_of plan) plan.cores state.clock supplied declines state.left in
      rw (one-mul plan.cores, ← (slot_past setting (view_of plan) plan.cores state.clock supplied declines state.left))
      (take-append-drop plan.cores next.grants)

module _ (setting : Setting) (plan : Plan) (state : Standing) (supplied declines : ℕ) where
  -- a refused step hands back the given state, and answers 255 eight times
  pub step_refused : (r : ℕ) → refused r ≡ outcome plan state 1 1 8 →
      record { outcome = refused r; state = state; grants = replicate 8 255 } ≡ stepped setting plan state supplied declines
  unfolding stepped ran out_after
  step_refused r e = rw (← e)

  -- and one that is done the slot's answers and counts, with the clock moved on
  pub step_done : done ≡ outcome plan state 1 1 8 →
      let next : SlotEnd = slot setting (view_of plan) plan.cores state.clock supplied declines state.left in
      stepped setting plan state supplied declines ≡ record { outcome = done; state = record { clock = state.clock + 1; left = next.left }; grants = next.grants }
  unfolding stepped ran out_after
  step_done e =
      let one = course_one setting plan state supplied declines in
      rw (← e, one, grants_whole setting plan state supplied declines)

pub ruleset run_ends = (run_refused, room_kept, run_done, room_filled)

pub ruleset step_ends = (step_refused, step_done)
