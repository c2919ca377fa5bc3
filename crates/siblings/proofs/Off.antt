-- With the switch off each definition comes to what it was before the switch: nobody but leaves that decline is passed over. Assumes nothing.
use Prim.Native.Nat.{ℕ, zero, suc, ◌+◌}
use mathlib.Core.Bool.{Bool}
use mathlib.Core.List.{List}
use mathlib.Core.Path.{◌≡◌, refl}
use lib.ListN.{length, get_or, replicate}
use Rattle.plans.specs.declared.Parent.{Parent}
use Rattle.plans.specs.declared.Parent.TheVariants.{Supply, Node as Under}
use Rattle.plans.specs.declared.Plan.{Plan}
use Rattle.dispatch.proofs.SlotsDepth.{follow_alike}
use Rattle.dispatch.proofs.SlotsFresh.{replicate_everywhere}
use Rattle.dispatch.specs.View.{View, view_of}
use Rattle.dispatch.specs.Choice.{takes, eligible, consider, choose_to, choose}
use Rattle.dispatch.specs.Passed.{passed_to, passed_over}
use Rattle.dispatch.specs.Slot.{SlotEnd, charge, walk, serve_core, serve_to, slot}
use Rattle.dispatch.specs.Run.{Standing, course_to, course_by, course}
use Rattle.dispatch.specs.declared.Setting.TheVariants.{Off}
use Rattle.siblings.specs.Before as before

module _ (v : View) (declines : ℕ) (full : List ℕ) where
  -- who is passed over with the switch off
  abbrev passed : ℕ → Bool
  passed = passed_over Off v full declines

  off_eligible : (left : List ℕ) (x : Parent) (i : ℕ) → eligible v left passed x i ≡ before.eligible v left declines x i
  unfolding eligible takes passed_over passed_to before.eligible
  off_eligible left x i = refl

  off_choose_to : (left : List ℕ) (x : Parent) (k : ℕ) → choose_to v left passed x k ≡ before.choose_to v left declines x k
  unfolding choose_to consider before.choose_to before.consider
  off_choose_to left x zero = refl
  off_choose_to left x (suc k) = rw (off_choose_to left x k, off_eligible left x k)

  off_choose : (left : List ℕ) (x : Parent) → choose v left passed x ≡ before.choose v left declines x
  unfolding choose before.choose
  off_choose left x = off_choose_to left x v.size

  off_walk : (levels : ℕ) (x : Parent) (left : List ℕ) → walk v passed levels x left ≡ before.walk v declines levels x left
  unfolding walk before.walk
  off_walk zero x left = refl
  off_walk (suc levels) x left =
      rw (off_choose left x)
      (follow_alike v (walk v passed levels) (before.walk v declines levels) left (before.choose v left declines x)
      (λ i e. off_walk levels (Under i) (charge left i)))

  off_serve : (supplied : ℕ) (so : SlotEnd) (k : ℕ) → serve_to v supplied passed so k ≡ before.serve_to v supplied declines so k
  unfolding serve_to serve_core before.serve_to before.serve_core
  off_serve supplied so zero = refl
  off_serve supplied so (suc k) =
      rw (off_serve supplied so k, off_walk 8 (Supply k) (before.serve_to v supplied declines so k).left)

off_slot : (v : View) (cores n supplied declines : ℕ) (left : List ℕ) → slot Off v cores n supplied declines left ≡ before.slot v cores n supplied declines left
unfolding slot before.slot
off_slot v cores n supplied declines left = off_serve v declines _ supplied _ cores

off_course_to : (v : View) (cores n many : ℕ) (supplies declines left : List ℕ) (k : ℕ) →
    course_to v cores n (replicate many Off) supplies declines left k ≡ before.course_to v cores n supplies declines left k
unfolding course_to before.course_to
off_course_to v cores n many supplies declines left zero = refl
off_course_to v cores n many supplies declines left (suc k) =
    rw (
      off_course_to v cores n many supplies declines left k,
      replicate_everywhere many k Off,
      off_slot v cores (n + k) (get_or supplies k 0) (get_or declines k 0) (before.course_to v cores n supplies declines left k).left,
    )

-- so do the slots of a run
pub off_course : (plan : Plan) (state : Standing) (supplies declines : List ℕ) →
    course Off plan state supplies declines ≡ before.course plan state supplies declines
unfolding course course_by before.course
off_course plan state supplies declines = off_course_to (view_of plan) plan.cores state.clock (length supplies) supplies declines state.left (length supplies)
