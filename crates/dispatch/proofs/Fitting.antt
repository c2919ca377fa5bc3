-- What is known of a plan value that fits. Assumes nothing.
use Prim.Native.Nat.{ℕ, ◌≤◌, ◌<◌}
use mathlib.Core.Bool.{true}
use mathlib.Core.Path.{◌≡◌}
use borrow.Author.Tests.{leb-true}
use Rattle.meaning.specs.Types.{well_formed}
use Rattle.plans.proofs.All.{left_true}
use Rattle.plans.proofs.Kept.{sound_kept}
use Rattle.plans.specs.Plan.{served_of}
use Rattle.plans.specs.declared.Plan.{Plan}
use Rattle.rules.specs.Check.{is_fit}
use Rattle.dispatch.proofs.Refusals.{fits_sound}
use Rattle.dispatch.specs.View.{served_t}

module _ (plan : Plan) (fit : is_fit plan ≡ true) where
  -- it has 64 nodes at most,
  pub fit_size : plan.size ≤ 64
  fit_size = (sound_kept plan (fits_sound plan fit)).sixty_four_nodes

  -- a supply,
  pub fit_core : 0 < plan.cores
  fit_core = (sound_kept plan (fits_sound plan fit)).some_core

  -- 8 of them at most,
  pub fit_cores : plan.cores ≤ 8
  fit_cores = (sound_kept plan (fits_sound plan fit)).eight_cores

  -- and no node's served period is 0
  pub fit_period : (i : ℕ) → i < plan.size → 0 < served_t plan i
  unfolding served_t well_formed
  fit_period i l = leb-true 1 (served_of plan i).t (left_true _ _ ((sound_kept plan (fits_sound plan fit)).served i l))
