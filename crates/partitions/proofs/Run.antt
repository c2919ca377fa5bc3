-- Runs and steps from a fresh start: the buffer holds the first answers of the unending course, slot by slot, so what a partition receives in a slot of the run
-- is what it is granted there. Assumes nothing.
use Prim.Native.Nat.{ℕ, zero, suc, ◌+◌, ◌*◌, ◌≤◌, ◌<◌}
use mathlib.Core.List.{List, ◌++◌}
use mathlib.Core.Logic.{◌⊎◌, inl, inr}
use mathlib.Core.Path.{◌≡◌, refl, sym, ap, ◌∙◌}
use native.Mathlib.Nat.{zero-mul, suc-mul, eq-or-lt_of_le}
use native.Mathlib.Omega.{arith}
use lib.Arith.{digits_lt}
use lib.Dec.{eqb}
use lib.ListN.{length, get_or, take, length-append, get_or-append}
use lib.Seq.{length-take-le, get_or-append-add, get_or-take}
use Rattle.plans.specs.Plan.{There}
use Rattle.plans.specs.Cores.{core_of}
use Rattle.plans.specs.declared.Plan.{Plan}
use Rattle.plans.proofs.Cores.{core_exactly}
use Rattle.rules.specs.Fit.{Fit}
use Rattle.dispatch.specs.View.{view_of}
use Rattle.dispatch.specs.Slot.{unsupplied}
use Rattle.dispatch.specs.Run.{fresh_state, course_by}
use Rattle.dispatch.specs.declared.Setting.{Setting}
use Rattle.dispatch.specs.declared.Setting.TheVariants.{Off}
use Rattle.dispatch.specs.Reached.{OneRun}
use Rattle.dispatch.proofs.SlotsLengths.{length_grants}
use Rattle.dispatch.proofs.Reached.{reached_as_one}
use Rattle.unending.specs.Unending.{left_at, slot_at, answer_at, granted, answers_to}
use Rattle.unending.proofs.Kept.{first_part}
use Rattle.partitions.specs.Case.{Case, FromFresh, receives}

module _ (plan : Plan) (settings : ℕ → Setting) (supply declines : ℕ → ℕ) (cores : plan.cores ≤ 8) where
  -- a slot has eight answers
  slot_length : (n : ℕ) → length (slot_at plan settings supply declines n).grants ≡ 8
  unfolding slot_at
  slot_length n = length_grants (settings n) (view_of plan) plan.cores n (supply n) (declines n) (left_at plan settings supply declines n)

  -- the answers of n slots are n for each core
  answers_length : (n : ℕ) → length (answers_to plan settings supply declines n) ≡ n * plan.cores
  unfolding answers_to
  answers_length zero = sym (zero-mul plan.cores)
  answers_length (suc n) =
      let grants = (slot_at plan settings supply declines n).grants in
      rw (length-append, answers_length n, suc-mul, length-take-le plan.cores grants (rw (slot_length n) cores))

  -- and the answer of core s in slot n is the slot's
  answers_at : (k n s : ℕ) → n < k → s < plan.cores →
      get_or (answers_to plan settings supply declines k) (n * plan.cores + s) unsupplied ≡ get_or (slot_at plan settings supply declines n).grants s unsupplied
  unfolding answers_to
  answers_at zero n s l m = absurd (omega arith)
  answers_at (suc k) n s l m = go (eq-or-lt_of_le (omega arith)) (answers_at k n s)
    where
      so : List ℕ
      so = answers_to plan settings supply declines k

      last : List ℕ
      last = take plan.cores (slot_at plan settings supply declines k).grants

      go : (n ≡ k) ⊎ (n < k) →
          (n < k → s < plan.cores → get_or so (n * plan.cores + s) unsupplied ≡ get_or (slot_at plan settings supply declines n).grants s unsupplied) →
          get_or (so ++ last) (n * plan.cores + s) unsupplied ≡ get_or (slot_at plan settings supply declines n).grants s unsupplied
      go (inl at) before = rw (at, ← (answers_length k), get_or-append-add so last s unsupplied, get_or-take)
      go (inr h) before =
          get_or-append so last unsupplied (n * plan.cores + s) (rw (answers_length k) (digits_lt h m)) ∙ before h m

  -- what a partition receives in a slot, by a buffer that begins with the answers, is what it is granted
  pub receives_granted : (k : ℕ) (rest : List ℕ) (i n : ℕ) → n < k → core_of plan i < plan.cores →
      receives plan (answers_to plan settings supply declines k ++ rest) i n ≡ granted plan settings supply declines i n
  unfolding receives granted answer_at
  receives_granted k rest i n l m =
      ap (λ (a : ℕ). eqb a i)
      (get_or-append (answers_to plan settings supply declines k) rest unsupplied (n * plan.cores + core_of plan i) (rw (answers_length k) (digits_lt l m)) ∙
      answers_at k n (core_of plan i) l m)

-- the first inputs are a list's, and 0 after them: no core is supplied, and nobody declines
abbrev pub listed : List ℕ → ℕ → ℕ
listed inputs n = get_or inputs n 0

-- and so with settings: the switch is off after them
abbrev pub set_by : List Setting → ℕ → Setting
set_by settings n = get_or settings n Off

module _ (c : Case) (fit : Fit c.plan) (fresh : FromFresh c) where
  -- what runs and steps from a fresh start come to
  one_run : OneRun c.plan fresh.state c.settings c.supplies c.declines fresh.answers
  one_run = reached_as_one c.plan fresh.state c.settings c.supplies c.declines fresh.answers fresh.reached

  module _ (supply : ℕ → ℕ) (first : (k : ℕ) → k < length c.supplies → supply k ≡ get_or c.supplies k 0) where
    -- they are the first part of the unending course, for a supply that begins so
    begins : course_by c.plan (fresh_state c.plan) c.settings c.supplies c.declines ≡
        record {
          left = left_at c.plan (set_by c.settings) supply (listed c.declines) (length c.supplies);
          answers = answers_to c.plan (set_by c.settings) supply (listed c.declines) (length c.supplies);
        }
    begins =
        first_part c.plan c.settings c.supplies c.declines (set_by c.settings) supply (listed c.declines) (λ k l. refl) first (λ k l. refl)

    -- so what a partition receives in a slot of the run is what it is granted there
    pub run_granted : (i n : ℕ) → There c.plan i → n < length c.supplies →
        receives c.plan c.buffer i n ≡ granted c.plan (set_by c.settings) supply (listed c.declines) i n
    run_granted i n there l =
        rw (fresh.holds, one_run.answered, ap (λ r. r.answers) begins)
        (receives_granted c.plan (set_by c.settings) supply (listed c.declines) fit.sound.eight_cores (length c.supplies) fresh.beyond i n l
        (core_exactly c.plan fit.sound i there).there)

    -- and the counts that are reached are those after its last slot
    pub run_left : fresh.state.left ≡ left_at c.plan (set_by c.settings) supply (listed c.declines) (length c.supplies)
    run_left = ap (λ s. s.left) one_run.stands ∙ ap (λ r. r.left) begins
