-- What each core answers: the end of its own walk, which is a leaf beneath its supply or 254. Assumes nothing.
use Prim.Native.Nat.{ℕ, zero, suc, ◌≤◌, ◌<◌}
use mathlib.Core.Bool.{Bool, true, false, cond}
use mathlib.Core.List.{List}
use mathlib.Core.Logic.{◌⊎◌, inl, inr}
use mathlib.Core.Path.{◌≡◌, refl}
use lib.ListN.{get_or, replicate}
use lib.Seq.{get_or-set_same, get_or-set_other}
use native.Mathlib.Decide.{ℕ_discrete}
use native.Mathlib.Omega.{arith}
use Rattle.plans.proofs.Cores.{beneath_host}
use Rattle.plans.specs.Plan.{parent_of}
use Rattle.plans.specs.Cores.{Beneath, child}
use Rattle.plans.specs.Sound.{Sound}
use Rattle.plans.specs.declared.Parent.{Parent}
use Rattle.plans.specs.declared.Parent.TheVariants.{Supply, Node as Under}
use Rattle.plans.specs.declared.Plan.{Plan}
use Rattle.dispatch.proofs.Choices.{choice_below, choice_under}
use Rattle.dispatch.specs.View.{view_of, bit_of, is_leaf}
use Rattle.dispatch.specs.Choice.{Pick, nobody, just, choose}
use Rattle.dispatch.specs.Slot.{WalkEnd, SlotEnd, idle, unsupplied, charge, follow, walk, granting, serve_core, serve_to}
use Rattle.unending.proofs.Cores.{Cores, cores_kept}

module _ (plan : Plan) (passed : ℕ → Bool) where
  -- a walk from parent x ends idle, or at a leaf beneath x
  pub data EndsAt (x : Parent) : ℕ → Type 0 where
    nowhere : EndsAt x idle
    somewhere : {i : ℕ} → i < plan.size → is_leaf plan i ≡ true → Beneath plan x i → EndsAt x i

  -- an end beneath a host is one beneath the host's parent
  ends_above : {x : Parent} {h g : ℕ} → parent_of plan h ≡ x → EndsAt (Under h) g → EndsAt x g
  ends_above up nowhere = nowhere
  ends_above up (somewhere l leaf below) = somewhere l leaf (beneath_host plan up below)

  walk_ends : (levels : ℕ) (x : Parent) (left : List ℕ) → EndsAt x (walk (view_of plan) passed levels x left).grant
  unfolding walk follow
  walk_ends zero x left = nowhere
  walk_ends (suc levels) x left = go (choose (view_of plan) left passed x) refl (walk_ends levels)
    where
      at : (i : ℕ) → choose (view_of plan) left passed x ≡ just i → (b : Bool) → is_leaf plan i ≡ b →
          EndsAt (Under i) (walk (view_of plan) passed levels (Under i) (charge left i)).grant →
          EndsAt x (cond b (record { grant = i; left = charge left i }) (walk (view_of plan) passed levels (Under i) (charge left i))).grant
      at i c true leaf below = somewhere (choice_below (view_of plan) left passed x i c) leaf (child (choice_under (view_of plan) left passed x i c))
      at i c false host below = ends_above (choice_under (view_of plan) left passed x i c) below

      go : (w : Pick) → choose (view_of plan) left passed x ≡ w →
          ((y : Parent) (counts : List ℕ) → EndsAt y (walk (view_of plan) passed levels y counts).grant) →
          EndsAt x (follow (view_of plan) (walk (view_of plan) passed levels) left w).grant
      go nobody c below = nowhere
      go (just i) c below = at i c (is_leaf plan i) refl (below (Under i) (charge left i))

module _ (plan : Plan) (sound : Sound plan) (supplied : ℕ) (passed : ℕ → Bool) (start : List ℕ) where
  -- what core s may answer: 255 where it is not supplied, and else the end of a walk from its supply
  abbrev pub Told : ℕ → ℕ → Type 0
  Told s g = ((bit_of supplied s ≡ false) × (g ≡ unsupplied)) ⊎ ((bit_of supplied s ≡ true) × EndsAt plan passed (Supply s) g)

  -- where the first k cores have brought the slot
  abbrev served : ℕ → SlotEnd
  served k = serve_to (view_of plan) supplied passed (record { grants = replicate 8 unsupplied; left = start }) k

  -- core k answers so when it is served,
  core_told : (k : ℕ) → k < 8 → Told k (get_or (serve_core (view_of plan) supplied passed (served k) k).grants k unsupplied)
  unfolding serve_core granting
  core_told k l = go (bit_of supplied k) refl
    where
      so : Cores plan supplied passed start k (served k)
      so = cores_kept plan sound supplied passed start k (omega arith)

      w : WalkEnd
      w = walk (view_of plan) passed 8 (Supply k) (served k).left

      go : (b : Bool) → bit_of supplied k ≡ b → Told k (get_or (cond b (granting (served k) k w) (served k)).grants k unsupplied)
      go true on =
          inr (on, rw (get_or-set_same (served k).grants k w.grant unsupplied (omega (arith, so.eight))) (walk_ends plan passed 8 (Supply k) (served k).left))
      go false off = inl (off, so.later k (omega arith))

  -- and any other core's answer stays
  pub other_told : (k s : ℕ) → (s ≡ k → ⊥) →
      get_or (serve_core (view_of plan) supplied passed (served k) k).grants s unsupplied ≡ get_or (served k).grants s unsupplied
  unfolding serve_core granting
  other_told k s other = go (bit_of supplied k)
    where
      w : WalkEnd
      w = walk (view_of plan) passed 8 (Supply k) (served k).left

      go : (b : Bool) → get_or (cond b (granting (served k) k w) (served k)).grants s unsupplied ≡ get_or (served k).grants s unsupplied
      go true = get_or-set_other (served k).grants k s w.grant unsupplied other
      go false = refl

  -- so each of the first k cores has its answer
  pub cores_told : (k s : ℕ) → k ≤ 8 → s < k → Told s (get_or (served k).grants s unsupplied)
  unfolding serve_to
  cores_told zero s l m = absurd (omega arith)
  cores_told (suc k) s l m = go (ℕ_discrete s k) (cores_told k s)
    where
      go : Dec (s ≡ k) → (k ≤ 8 → s < k → Told s (get_or (served k).grants s unsupplied)) →
          Told s (get_or (serve_core (view_of plan) supplied passed (served k) k).grants s unsupplied)
      go (yes e) before = rw e (core_told k l)
      go (no other) before = rw (other_told k s other) (before (omega arith) (omega arith))
