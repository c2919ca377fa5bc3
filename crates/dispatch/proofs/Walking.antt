-- What the walk from a supply and the loop over the cores come to. Assumes nothing.
use Prim.Native.Nat.{ℕ, suc, ◌+◌, ◌-◌, ◌≤◌}
use mathlib.Core.Bool.{Bool, cond}
use mathlib.Core.List.{List}
use mathlib.Core.Path.{◌≡◌, refl, ap, ◌∙◌}
use native.Mathlib.Nat.{le_antisymm}
use native.Mathlib.Numerals.{add-one}
use native.Mathlib.Omega.{arith}
use Rattle.plans.specs.declared.Parent.{Parent}
use Rattle.plans.specs.declared.Parent.TheVariants.{Supply}
use Rattle.dispatch.proofs.SlotsSame.{serve_same}
use Rattle.dispatch.specs.View.{View, bit_of, view_of}
use Rattle.dispatch.specs.Choice.{choose}
use Rattle.dispatch.specs.Passed.{passed_over}
use Rattle.dispatch.specs.Words.{passed_by, Tells}
use Rattle.dispatch.specs.Slot.{SlotEnd, refilled, walk, granting, serve_core, serve_to, slot_start, slot, follow}
use Rattle.dispatch.specs.declared.Setting.{Setting}
use Rattle.dispatch.specs.declared.fits.FitPlan.{FitPlan}
use Rattle.dispatch.specs.declared.picks.Round.{Round}

-- The walk from parent x, with so many levels to go:
module _ (v : View) (passed : ℕ → Bool) (levels : ℕ) (x : Parent) (left : List ℕ) where
  -- a choice is made, and the walk goes on with one level less,
  pub walk_more : (levels ≡ 0 → ⊥) → walk v passed levels x left ≡ follow v (walk v passed (levels - 1)) left (choose v left passed x)
  unfolding walk
  walk_more some =
      let more : levels ≡ suc (levels - 1) = omega arith in
      let fewer : suc (levels - 1) - 1 ≡ levels - 1 = omega arith in
      rw (more, fewer)

  -- and with no level to go the slot is idle
  pub walk_ended : levels ≡ 0 → walk v passed levels x left ≡ record { grant = 254; left = left }
  unfolding walk
  walk_ended none = rw none

pub ruleset walk_steps = (walk_more, walk_ended)

-- The loop over the cores, whose invariant is record { grants; left } ≡ serve_to v supplied passed start s.
module _ (v : View) (supplied : ℕ) (passed : ℕ → Bool) (start : SlotEnd) where
  -- before the first core
  pub serve_none : serve_to v supplied passed start 0 ≡ start
  unfolding serve_to
  serve_none = refl

  -- one core more: one that is supplied gets what its walk ends with
  pub serve_more : (s : ℕ) →
      let so = serve_to v supplied passed start s in
      serve_to v supplied passed start (s + 1) ≡ cond (bit_of supplied s) (granting so s (walk v passed 8 (Supply s) so.left)) so
  unfolding serve_to serve_core
  serve_more s = rw (add-one s)

pub ruleset serve_steps = (serve_none, serve_more)

-- past the last it is the slot, where the words of the round tell who is passed over
pub serve_done : (setting : Setting) (p : FitPlan) (r : Round) → r.plan ≡ p → (supplied declines n : ℕ) (left full : List ℕ) →
    full ≡ refilled (view_of p.plan) n left → Tells setting (view_of p.plan) full declines (passed_by r) → (so : SlotEnd) (s : ℕ) →
    so ≡ serve_to (view_of r.plan.plan) supplied (passed_by r) (slot_start full) s → s ≤ p.plan.cores → p.plan.cores ≤ s →
    so ≡ slot setting (view_of p.plan) p.plan.cores n supplied declines left
unfolding slot
serve_done setting p r same supplied declines n left full e right so s h l m =
    h ∙ ap (λ q. serve_to (view_of q.plan) supplied (passed_by r) (slot_start full) s) same ∙
    serve_same (view_of p.plan) (passed_by r) (passed_over setting (view_of p.plan) full declines) right supplied (slot_start full) s ∙ rw (e, le_antisymm l m)
