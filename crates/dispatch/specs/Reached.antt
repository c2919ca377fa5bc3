-- How a controller uses it: a fresh start, and then runs and steps, one after the other, each with a setting of its own. Document 01, "Giving out slots", and
-- document 02, request 12. Assumes nothing.
use Rattle.std.specs.Prelude.{ℕ, ◌*◌, true, List, [], ◌∷◌, ◌++◌, ◌≡◌, length, take, replicate}
use Rattle.plans.specs.declared.Plan.{Plan}
use Rattle.rules.specs.Check.{is_fit}
use Rattle.dispatch.specs.Run.{done, Standing, fresh_state, started, course_by, ran, out_after, stepped}
use Rattle.dispatch.specs.declared.Setting.{Setting}

-- A state reached from a fresh start by runs and steps that are done, with the settings, one for each slot, the supply bytes, the decline words and the answers
-- of them all joined. A run's answers are the front of its buffer, a step's the first of its eight.
pub data Reached (plan : Plan) : Standing → List Setting → List ℕ → List ℕ → List ℕ → Type 0 where
  at_start : (started plan).outcome ≡ done → Reached plan (started plan).state [] [] [] []
  by_run : {state : Standing} {settings : List Setting} {supplies declines answers : List ℕ} → Reached plan state settings supplies declines answers →
      (setting : Setting) (more words out : List ℕ) → (ran setting plan state more words (length out)).outcome ≡ done →
      Reached plan (ran setting plan state more words (length out)).state (settings ++ replicate (length more) setting) (supplies ++ more) (declines ++ words)
      (answers ++ take (length more * plan.cores) (out_after setting plan state more words out))
  by_step : {state : Standing} {settings : List Setting} {supplies declines answers : List ℕ} → Reached plan state settings supplies declines answers →
      (setting : Setting) (supplied word : ℕ) → (stepped setting plan state supplied word).outcome ≡ done →
      Reached plan (stepped setting plan state supplied word).state (settings ++ (setting ∷ [])) (supplies ++ (supplied ∷ [])) (declines ++ (word ∷ []))
      (answers ++ take plan.cores (stepped setting plan state supplied word).grants)

-- what the slots from a fresh start over these inputs come to
pub record OneRun (plan : Plan) (state : Standing) (settings : List Setting) (supplies declines answers : List ℕ) : Type 0 where
  pub fit : is_fit plan ≡ true
  pub set : length settings ≡ length supplies
  pub alike : length supplies ≡ length declines
  pub stands : state ≡ record { clock = length supplies; left = (course_by plan (fresh_state plan) settings supplies declines).left }
  pub answered : answers ≡ (course_by plan (fresh_state plan) settings supplies declines).answers

-- Runs and steps one after the other come to what the slots over all their inputs come to, each with the setting of its call: counts, clock and answers. Where all
-- had one setting that is one run.
abbrev pub ReachedAsOne : Type 0
ReachedAsOne =
    (plan : Plan) (state : Standing) (settings : List Setting) (supplies declines answers : List ℕ) →
    Reached plan state settings supplies declines answers → OneRun plan state settings supplies declines answers
