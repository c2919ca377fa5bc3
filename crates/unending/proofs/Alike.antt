-- What specs/Alike.antt says holds: a fresh start, a run and a step read a plan by whether it fits, by its cores and by its view. Assumes nothing.
use Prim.Native.Nat.{ℕ}
use mathlib.Core.Bool.{not}
use mathlib.Core.List.{List}
use mathlib.Core.Path.{◌≡◌, sym, ◌∙◌}
use lib.Dec.{leb}
use lib.ListN.{get_or}
use Rattle.plans.specs.Plan.{hosting, is_host}
use Rattle.plans.specs.declared.Plan.{Plan}
use Rattle.rules.proofs.Kept.{fits_exactly}
use Rattle.rules.specs.Check.{is_fit}
use Rattle.rules.specs.Fit.{Fit}
use Rattle.dispatch.specs.View.{view_of, is_leaf, served_c, served_t}
use Rattle.dispatch.specs.Run.{Standing, started, left_within, ready, roomy, outcome, course_by, course, ran, out_after, stepped}
use Rattle.dispatch.specs.declared.Setting.{Setting}
use Rattle.unending.specs.Alike.{ButMisses, SlotsAlike}

module _ (a b : Plan) (but : ButMisses a b) (fit : Fit a) (fit' : Fit b) where
  -- both fit
  both_fit : is_fit a ≡ is_fit b
  both_fit = (fits_exactly a).1 fit ∙ sym ((fits_exactly b).1 fit')

  -- the same counts are within the served ones
  within_alike : (left : List ℕ) → left_within a left ≡ left_within b left
  unfolding left_within served_c
  within_alike left = λ k i. leb (get_or left i 0) (but.served i k).c

  -- and so are the views
  views_alike : view_of a ≡ view_of b
  unfolding is_leaf is_host served_c served_t
  views_alike = λ k.
      record {
        size = but.size k;
        parent = λ i. but.parents i k;
        leaf = λ i. not (hosting (but.kinds i k));
        c = λ i. (but.served i k).c;
        t = λ i. (but.served i k).t;
      }

  outcomes_alike : (state : Standing) (k declines room : ℕ) → outcome a state k declines room ≡ outcome b state k declines room
  unfolding outcome ready roomy
  outcomes_alike state k declines room = rw (both_fit, within_alike state.left, but.size, but.cores)

  courses_alike : (setting : Setting) (state : Standing) (supplies declines : List ℕ) → course setting a state supplies declines ≡ course setting b state supplies declines
  unfolding course course_by
  courses_alike setting state supplies declines = rw (views_alike, but.cores)

  runs_alike : (setting : Setting) (state : Standing) (supplies declines : List ℕ) (room : ℕ) →
      ran setting a state supplies declines room ≡ ran setting b state supplies declines room
  unfolding ran
  runs_alike setting state supplies declines room = rw (outcomes_alike, courses_alike)

  buffers_alike : (setting : Setting) (state : Standing) (supplies declines out : List ℕ) →
      out_after setting a state supplies declines out ≡ out_after setting b state supplies declines out
  unfolding out_after
  buffers_alike setting state supplies declines out = rw (outcomes_alike, courses_alike, but.cores)

-- misses and editions are no part of giving out slots
pub slots_alike : SlotsAlike
unfolding started stepped
slots_alike a b but fit fit' =
    record {
      fresh = rw (both_fit a b but fit fit', views_alike a b but fit fit');
      runs = runs_alike a b but fit fit';
      buffers = buffers_alike a b but fit fit';
      steps = λ setting state supplied declines. rw (runs_alike a b but fit fit', buffers_alike a b but fit fit');
    }
