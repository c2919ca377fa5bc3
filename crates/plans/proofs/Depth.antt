-- Depths: each is at least 1, a node has at most one, and `within` finds the depths up to its bound. Where every parent below some number is an
-- allowed one, every node below it has a depth. Assumes nothing.
use Prim.Native.Nat.{ℕ, zero, suc, ◌+◌, ◌-◌, ◌≤◌, ◌<◌}
use mathlib.Core.Bool.{true, false}
use mathlib.Core.Path.{◌≡◌, refl, ap, subst}
use native.Mathlib.Omega.{arith}
use Rattle.plans.specs.Plan.{parent_of}
use Rattle.plans.specs.Sound.{Allowed, supply, host, Depth, top, under, up_to, within}
use Rattle.plans.specs.declared.Parent.{Parent}
use Rattle.plans.specs.declared.Parent.TheVariants.{Supply, Node as Under}
use Rattle.plans.specs.declared.Plan.{Plan}

-- node i has a depth, of at most k
pub record DepthUpTo (plan : Plan) (k i : ℕ) : Type 0 where
  pub depth : ℕ
  pub most : depth ≤ k
  pub is : Depth plan i depth

module _ (plan : Plan) where
  -- a depth is at least 1
  pub depth_positive : {i d : ℕ} → Depth plan i d → 1 ≤ d
  depth_positive (top e) = omega arith
  depth_positive (under e h) = omega arith

  -- a node has at most one depth
  pub depth_unique : {i d e : ℕ} → Depth plan i d → Depth plan i e → d ≡ e
  depth_unique (top p) (top q) = refl
  depth_unique (top p) (under q b) = cc
  depth_unique (under p a) (top q) = cc
  depth_unique (under {h = h} p a) (under {h = h'} {d = d'} q b) =
      let here : h' ≡ h = cc in
      ap suc (depth_unique a (subst (λ x. Depth plan x d') here b))

  -- a node within k has a depth of at most k
  pub within_depth : (k i : ℕ) → within plan k i ≡ true → DepthUpTo plan k i
  unfolding within up_to
  within_depth zero i e = absurd (let z : ◌≡◌ {A = ℕ} 0 1 = cc in omega arith)
  within_depth (suc k) i e = go (parent_of plan i) refl e (within_depth k)
    where
      go : (p : Parent) → parent_of plan i ≡ p → up_to (within plan k) p ≡ true → ((h : ℕ) → within plan k h ≡ true → DepthUpTo plan k h) →
          DepthUpTo plan (suc k) i
      go (Supply s) is l below = record { depth = 1; most = omega arith; is = top is }
      go (Under h) is l below =
          let up = below h l in
          record { depth = suc up.depth; most = omega arith; is = under is up.is }

  -- and one with a depth of at most k is within k
  pub depth_within : (k : ℕ) {i d : ℕ} → Depth plan i d → d ≤ k → within plan k i ≡ true
  unfolding within up_to
  depth_within zero a l = absurd (omega (arith, depth_positive a))
  depth_within (suc k) (top p) l = rw p
  depth_within (suc k) (under p a) l = rw p (depth_within k a (omega arith))

  -- a node with an allowed parent has a depth, where every earlier node has one
  one_deeper : (i : ℕ) (p : Parent) → parent_of plan i ≡ p → Allowed plan i p → ((h : ℕ) → h < i → (d : ℕ) × Depth plan h d) → (d : ℕ) × Depth plan i d
  one_deeper i (Supply s) is (supply l) earlier = (1, top is)
  one_deeper i (Under h) is (host l m) earlier =
      let (d, a) = earlier h l in
      (suc d, under is a)

  -- every node below n has a depth, where every parent below n is an allowed one
  pub has_depth : (n : ℕ) → ((i : ℕ) → i < n → Allowed plan i (parent_of plan i)) → (i : ℕ) → i < n → (d : ℕ) × Depth plan i d
  has_depth zero allowed i l = absurd (omega arith)
  has_depth (suc n) allowed i l =
      one_deeper i (parent_of plan i) refl (allowed i l) (λ h k. has_depth n (λ j m. allowed j (omega arith)) h (omega arith))

-- The walk up from a node, of at most n steps, of which k are made: the node that is reached tells by its parent with one step less,
pub within_step : (plan : Plan) (n k i : ℕ) → k < n → within plan (n - k) i ≡ up_to (within plan (n - (k + 1))) (parent_of plan i)
unfolding within
within_step plan n k i h =
    let more : n - k ≡ suc (n - (k + 1)) = omega arith in
    rw more

-- and where no step is left there is no supply
pub within_none : (plan : Plan) (n k i : ℕ) → n ≤ k → within plan (n - k) i ≡ false
unfolding within
within_none plan n k i h =
    let none : n - k ≡ 0 = omega arith in
    rw none
