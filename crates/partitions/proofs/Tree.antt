-- Down the tree: under a supply that keeps its types, the slots offered to each node of a fit plan honour its served type, aligned, and whole parents have
-- every slot for their children. By induction on the node's number, since a host's is lower than its children's. Assumes nothing.
use Prim.Native.Nat.{ℕ, zero, suc, ◌<◌}
use mathlib.Core.Bool.{Bool, true, false, ◌||◌}
use mathlib.Core.Path.{◌≡◌, refl, sym, ◌∙◌}
use native.Mathlib.Nat.{le_refl}
use native.Mathlib.Omega.{arith}
use Rattle.meaning.specs.Allocation.{Allocation}
use Rattle.meaning.specs.Types.{Honours}
use Rattle.meaning.specs.declared.Kind.TheVariants.{Aligned}
use Rattle.plans.specs.Plan.{parent_of, served_of, is_host, own_type, supply_at}
use Rattle.plans.specs.declared.Parent.{Parent}
use Rattle.plans.specs.declared.Parent.TheVariants.{Supply, Node as Under}
use Rattle.plans.specs.declared.Plan.{Plan}
use Rattle.plans.proofs.Parents.{supply_there, host_earlier, host_hosts}
use Rattle.rules.specs.Fit.{is_whole, Child, Fit}
use Rattle.dispatch.specs.View.{served_c, served_t}
use Rattle.dispatch.specs.declared.Setting.{Setting}
use Rattle.unending.specs.Unending.{passed_at, charged, may}
use Rattle.levels.specs.Level.{Offered}
use Rattle.levels.proofs.Level.{offered_honours}
use Rattle.partitions.specs.Case.{slots_of, offers}
use Rattle.partitions.proofs.Standing.{host_stands}
use Rattle.partitions.proofs.Levels.{level_of, Keeps, in_level, every_slot, level_kept}

module _ (plan : Plan) (fit : Fit plan) (settings : ℕ → Setting) (supply declines : ℕ → ℕ) (keeps : Keeps plan settings supply declines) (supplied : (s : ℕ) → s < plan.cores → Honours Aligned (supply_at plan s) (slots_of supply s)) where
  -- where node i's parent honours its own type, an allocation that has every slot offered to i honours i's served type
  below : (i : ℕ) → i < plan.size → Honours Aligned (own_type plan (parent_of plan i)) (offers plan settings supply declines (parent_of plan i)) →
      (α : Allocation) → ((n : ℕ) → Offered (level_of plan settings supply declines (parent_of plan i)) i n → α n ≡ true) →
      Honours Aligned (served_of plan i) α
  unfolding served_c served_t
  below i l honours α covers s starts =
      rw starts.1
      (offered_honours (level_of plan settings supply declines x) (level_kept plan settings supply declines fit keeps x honours) i
      (in_level plan settings supply declines x i (record { there = l; under = refl })) α covers starts.0)
    where
      x : Parent
      x = parent_of plan i

  -- a host that is offered a slot has it for its children
  host_offers : (h : ℕ) → h < plan.size → (n : ℕ) → Offered (level_of plan settings supply declines (parent_of plan h)) h n →
      offers plan settings supply declines (Under h) n ≡ true
  unfolding offers may
  host_offers h there n o = go (charged plan settings supply declines h n) refl (passed_at plan settings supply declines n h) refl
    where
      go : (a : Bool) → charged plan settings supply declines h n ≡ a → (b : Bool) → passed_at plan settings supply declines n h ≡ b → (a || b) ≡ true
      go true e b f = refl
      go false e true f = refl
      go false e false f = sym e ∙ keeps.taken (parent_of plan h) h (record { there = there; under = refl }) n o f

  -- the slots that a node's parent has for its children honour the parent's own type
  parent_honours : (k i : ℕ) → i < k → i < plan.size →
      Honours Aligned (own_type plan (parent_of plan i)) (offers plan settings supply declines (parent_of plan i))
  unfolding own_type offers may slots_of is_host
  parent_honours zero i m l = absurd (omega arith)
  parent_honours (suc k) i m l = go (parent_of plan i) refl (parent_honours k)
    where
      go : (x : Parent) → parent_of plan i ≡ x →
          ((h : ℕ) → h < k → h < plan.size → Honours Aligned (own_type plan (parent_of plan h)) (offers plan settings supply declines (parent_of plan h))) →
          Honours Aligned (own_type plan x) (offers plan settings supply declines x)
      go (Supply s) e above = supplied s (supply_there plan fit.sound i l s e)
      go (Under h) e above =
          let earlier : h < i = host_earlier plan fit.sound i l h e in
          let there : h < plan.size = omega arith in
          host_stands plan fit h there (host_hosts plan fit.sound i l h e) (offers plan settings supply declines (Under h))
          (below h there (above h (omega arith) there) (offers plan settings supply declines (Under h)) (host_offers h there))

  -- an allocation that has every slot offered to a node honours the node's served type, aligned
  pub offered_served : (i : ℕ) → i < plan.size →
      (α : Allocation) → ((n : ℕ) → Offered (level_of plan settings supply declines (parent_of plan i)) i n → α n ≡ true) →
      Honours Aligned (served_of plan i) α
  offered_served i l = below i l (parent_honours (suc i) i (le_refl (suc i)) l)

  -- and a parent that is whole has every slot
  pub whole_gives : (x : Parent) (i : ℕ) → Child plan x i → is_whole (own_type plan x) ≡ true → (n : ℕ) → offers plan settings supply declines x n ≡ true
  whole_gives x i c = every_slot plan settings supply declines fit x i c (rw c.under at (parent_honours (suc i) i (le_refl (suc i)) c.there))
