-- Fresh start, run and step, with their refusals: document 01, "Giving out slots", and 02, request 12: "Each step, run .. is given the setting". Assumes nothing.
use Rattle.std.specs.Prelude.{
  ℕ,
  zero,
  suc,
  ◌+◌,
  ◌*◌,
  ◌^◌,
  Bool,
  cond,
  ◌&&◌,
  List,
  [],
  ◌∷◌,
  ◌++◌,
  Result,
  Ok,
  Err,
  leb,
  eqb,
  length,
  get_or,
  set,
  take,
  drop,
  replicate,
}
use Rattle.plans.specs.Sound.{all}
use Rattle.plans.specs.declared.Plan.{Plan}
use Rattle.rules.specs.Check.{is_fit}
use Rattle.dispatch.specs.View.{View, view_of, served_c}
use Rattle.dispatch.specs.Slot.{slot, unsupplied}
use Rattle.dispatch.specs.declared.Setting.{Setting}
use Rattle.dispatch.specs.declared.Setting.TheVariants.{Off}
use Rattle.dispatch.specs.declared.State.{State}
use Rattle.dispatch.specs.declared.Refusal.{Refusal}
use Rattle.dispatch.specs.declared.Refusal.TheVariants.{Beyond, Unfit, Misfit}

-- What a call says in document 01's own terms: it was done, or the number of a refusal. None of these has a place.
pub data Said : Type 0 where
  done : Said
  refused : ℕ → Said

-- document 01's number for each of the code's refusals
abbrev pub number : Refusal → ℕ
number Beyond = 15
number Unfit = 16
number Misfit = 17

-- what the code's result says, whatever it hands back where the call was done
abbrev pub said : {A : Type 0} → Result A Refusal → Said
said (Ok a) = done
said (Err r) = refused (number r)

-- 01: "The state is the clock n (0 to 2^40) and, per node, the slots left in its current served period"
pub record Standing : Type 0 where
  pub clock : ℕ
  pub left : List ℕ

-- where the code's state stands
abbrev pub standing : State → Standing
standing state = record { clock = state.clock; left = state.left }

-- how a fresh start or a run ends: its outcome, and the state handed back
pub record RunEnd : Type 0 where
  pub outcome : Said
  pub state : Standing

-- The code's refused fresh start hands back no state: the zeros that document 01 names stand for it.
abbrev pub fresh_end : Result State Refusal → RunEnd
fresh_end (Ok state) = record { outcome = done; state = standing state }
fresh_end (Err r) = record { outcome = refused (number r); state = record { clock = 0; left = replicate 64 0 } }

-- a run changes its state in place: here it is as the run leaves it
abbrev pub run_end : {A : Type 0} → Result A Refusal → State → RunEnd
run_end r state = record { outcome = said r; state = standing state }

-- how a step ends: the same, and eight answers
pub record StepEnd : Type 0 where
  pub outcome : Said
  pub state : Standing
  pub grants : List ℕ

-- The code's refused step has no answers: the eight of 255 that document 01 names stand for them.
abbrev pub step_end : Result (List ℕ) Refusal → State → StepEnd
step_end (Ok grants) state = record { outcome = done; state = standing state; grants = grants }
step_end (Err r) state = record { outcome = refused (number r); state = standing state; grants = replicate 8 unsupplied }

-- 01: "Fresh: n = 0 and left = served C .. Entries past the last node are 0 in a fresh state"
unfoldable pub fresh_to : View → ℕ → List ℕ
fresh_to v zero = replicate 64 0
fresh_to v (suc k) = set (fresh_to v k) k (v.c k)

unfoldable pub fresh_left : View → List ℕ
fresh_left v = fresh_to v v.size

abbrev pub fresh_state : Plan → Standing
fresh_state plan = record { clock = 0; left = fresh_left (view_of plan) }

abbrev pub zero_state : Standing
zero_state = record { clock = 0; left = replicate 64 0 }

-- 01: "an unfit plan value gives 16", and "a refused fresh start a state of zeros"
unfoldable pub started : Plan → RunEnd
started plan =
    cond (is_fit plan)
    (record { outcome = done; state = fresh_state plan })
    (record { outcome = refused 16; state = zero_state })

-- 01: "16 (a left over the node's served C, a clock over 2^40, or a plan value that breaks any of 2 to 7 and 11 to 14)"
unfoldable pub left_within : Plan → List ℕ → ℕ → Bool
left_within plan left i = leb (get_or left i 0) (served_c plan i)

unfoldable pub ready : Plan → Standing → Bool
ready plan state = is_fit plan && (leb state.clock (2 ^ 40) && all (left_within plan state.left) plan.size)

-- 01: "17 (unequal inputs or too little room)": whether k supply bytes have as many decline words and room for an answer of each core
unfoldable pub roomy : Plan → ℕ → ℕ → ℕ → Bool
roomy plan k declines room = eqb k declines && leb (k * plan.cores) room

-- 01: "15 (n + k over 2^40)": whether k slots from this clock on end in time
unfoldable pub in_time : ℕ → ℕ → Bool
in_time clock k = leb (clock + k) (2 ^ 40)

-- 01: "Refusals in order: 16 .., 17 .., 15"
unfoldable pub outcome : Plan → Standing → ℕ → ℕ → ℕ → Said
outcome plan state k declines room =
    cond (ready plan state)
    (cond (roomy plan k declines room) (cond (in_time state.clock k) done (refused 15)) (refused 17))
    (refused 16)

-- the counts after some slots, and the answers given in them, "slot by slot, supplies in order"
pub record Course : Type 0 where
  pub left : List ℕ
  pub answers : List ℕ

-- the first i slots from slot n on: slot n + i takes setting i, supply byte i and decline word i
unfoldable pub course_to : View → ℕ → ℕ → List Setting → List ℕ → List ℕ → List ℕ → ℕ → Course
course_to v cores n settings supplies declines left zero = record { left = left; answers = [] }
course_to v cores n settings supplies declines left (suc i) =
    let so = course_to v cores n settings supplies declines left i in
    let next = slot (get_or settings i Off) v cores (n + i) (get_or supplies i 0) (get_or declines i 0) so.left in
    record { left = next.left; answers = so.answers ++ take cores next.grants }

-- slots from a state on, each with a setting of its own
unfoldable pub course_by : Plan → Standing → List Setting → List ℕ → List ℕ → Course
course_by plan state settings supplies declines =
    course_to (view_of plan) plan.cores state.clock settings supplies declines state.left (length supplies)

-- the slots of a run, which has one setting for all
unfoldable pub course : Setting → Plan → Standing → List ℕ → List ℕ → Course
course setting plan state supplies declines = course_by plan state (replicate (length supplies) setting) supplies declines

-- 01: "After a run the clock is n + k", and a refusal "hands back the given state"
abbrev pub state_by : Said → Standing → ℕ → Course → Standing
state_by done state k c = record { clock = state.clock + k; left = c.left }
state_by (refused r) state k c = state

-- 01: "room beyond stays", and a refusal "writes nowhere"
abbrev pub out_by : Said → ℕ → Course → List ℕ → List ℕ
out_by done n c out = c.answers ++ drop n out
out_by (refused r) n c out = out

-- a run: its outcome, the state that it hands back, and the buffer afterwards
unfoldable pub ran : Setting → Plan → Standing → List ℕ → List ℕ → ℕ → RunEnd
ran setting plan state supplies declines room =
    let o = outcome plan state (length supplies) (length declines) room in
    record { outcome = o; state = state_by o state (length supplies) (course setting plan state supplies declines) }

unfoldable pub out_after : Setting → Plan → Standing → List ℕ → List ℕ → List ℕ → List ℕ
out_after setting plan state supplies declines out =
    out_by (outcome plan state (length supplies) (length declines) (length out)) (length supplies * plan.cores)
    (course setting plan state supplies declines) out

-- 01: "A step is a run of one with eight answers by value, 255 past the last supply and all 255 in a refusal": a run of one into eight bytes of 255
unfoldable pub stepped : Setting → Plan → Standing → ℕ → ℕ → StepEnd
stepped setting plan state supplied declines =
    let run = ran setting plan state (supplied ∷ []) (declines ∷ []) 8 in
    record {
      outcome = run.outcome;
      state = run.state;
      grants = out_after setting plan state (supplied ∷ []) (declines ∷ []) (replicate 8 unsupplied);
    }
