-- All parents in their order, then all sections: what each check leans on, and how the answers lead to the whole. Assumes nothing.
use Prim.Native.Nat.{ℕ, ◌<◌}
use mathlib.Core.Bool.{Bool, true, false}
use mathlib.Core.Path.{◌≡◌, sym, ◌∙◌}
use mir.Syntax.{w8}
use mir.Val.{Fits}
use native.Mathlib.Omega.{arith}
use Rattle.meaning.specs.Types.{well_formed}
use Rattle.answers.specs.Answers.{nowhere}
use Rattle.answers.specs.Answers.{Answer}
use Rattle.answers.specs.Answers.{Refused}
use Rattle.plans.specs.Plan.{own_type}
use Rattle.plans.specs.Sound.{sound}
use Rattle.plans.specs.declared.Parent.TheVariants.{Supply, Node as Under}
use Rattle.plans.specs.declared.Plan.{Plan}
use Rattle.plans.proofs.Kept.{sound_kept}
use Rattle.rules.specs.Check.{rules, checked}

module _ (plan : Plan) (kept : sound plan ≡ true) where
  module _ (s : ℕ) (l : s < plan.cores) where
    -- a supply's number fits a parent
    pub supply_fits : Fits w8 s
    supply_fits = record { fits = omega (arith, (sound_kept plan kept).eight_cores) }

    -- and its own type is well formed
    pub supply_formed : well_formed (own_type plan (Supply s)) ≡ true
    unfolding own_type
    supply_formed = (sound_kept plan kept).supplies s l

  module _ (h : ℕ) (l : h < plan.size) where
    -- a node's number fits a parent
    pub host_fits : Fits w8 h
    host_fits = record { fits = omega (arith, (sound_kept plan kept).sixty_four_nodes) }

    -- and the type it wants, a host's own, is well formed
    pub host_formed : well_formed (own_type plan (Under h)) ≡ true
    unfolding own_type
    host_formed = (sound_kept plan kept).wanted h l

module _ (plan : Plan) (b : Bool) (is : b ≡ sound plan) where
  -- a value that breaks one of 2 to 7 is refused with 16
  pub unsound_refused : b ≡ false → Refused 16 nowhere ≡ checked plan
  unfolding checked
  unsound_refused h = rw (sym is ∙ h)

  -- a value that passes is sound
  pub passed_sound : b ≡ true → sound plan ≡ true
  passed_sound h = sym is ∙ h

  -- and of it the rules decide
  pub sound_checked : (a : Answer) → b ≡ true → a ≡ rules plan → a ≡ checked plan
  unfolding checked
  sound_checked a h e = rw (passed_sound h) e
