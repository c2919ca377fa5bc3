-- Hard nodes and soft leaves: that rule 11 of a hard node is document 01's, and how the tests of a soft leaf decide. Assumes nothing.
use Prim.Native.Nat.{ℕ, ◌%◌, ◌<◌}
use mathlib.Core.Bool.{Bool, true, false, not, ◌&&◌, true≢false, false≢true}
use mathlib.Core.Logic.{◌⊎◌, ◌↔◌}
use mathlib.Core.Path.{◌≡◌, refl, sym, ap, ◌∙◌}
use lib.Dec.{ltb}
use borrow.Author.Tests.{lt-ltb, ltb-false}
use native.Mathlib.Omega.{arith}
use Rattle.meaning.specs.Types.{well_formed}
use Rattle.meaning.specs.Soft.{within_range, StandsInSoft}
use Rattle.meaning.specs.declared.Kind.TheVariants.{Aligned}
use Rattle.meaning.proofs.WellFormed.{bounds, within_bounds}
use Rattle.soft.specs.Formula.{divides, divided, allowed}
use Rattle.soft.proofs.Kept.{stands_in_alike, allowed_exactly}
use Rattle.plans.specs.Plan.{There, kind_of, wanted_of, misses_of, served_of, wanted_as, is_host, is_soft}
use Rattle.plans.specs.Sound.{Sound}
use Rattle.plans.specs.declared.NodeKind.{NodeKind}
use Rattle.plans.specs.declared.NodeKind.TheVariants.{AlignedLeaf, SlidingLeaf, Host}
use Rattle.plans.specs.declared.Node.{Node}
use Rattle.plans.specs.declared.Plan.{Plan}
use Rattle.rules.specs.Fit.{SoftMade, Rule11}
use Rattle.rules.specs.Before.{Rule11Before}
use Rattle.rules.specs.Check.{aligns}
use Rattle.rules.proofs.KeptDecides.{Decides, decides_same, equal_decides, both_decides, either_decides}

module _ (plan : Plan) (sound : Sound plan) (i : ℕ) (l : There plan i) where
  -- a hard node may miss nothing
  pub hard_misses : is_soft plan i ≡ false → (misses_of plan i).d ≡ 0
  unfolding is_soft
  hard_misses hard = go (is_host plan i) refl hard
    where
      go : (b : Bool) → is_host plan i ≡ b → (not b && ltb 0 (misses_of plan i).d) ≡ false → (misses_of plan i).d ≡ 0
      go true is e = sound.hosts_hard i l is
      go false is e = omega (arith, ltb-false 0 (misses_of plan i).d e)

  -- so its rule 11 is document 01's
  pub hard_eleven : is_soft plan i ≡ false → Rule11 plan i ↔ Rule11Before plan i
  hard_eleven hard =
      stands_in_alike (wanted_as (kind_of plan i)) (wanted_of plan i) (misses_of plan i) (hard_misses hard)
      (within_bounds (misses_of plan i) (sound.misses i l)).some Aligned (served_of plan i)

-- a node of an edition 1 plan is hard
pub first_hard : (plan : Plan) → Sound plan → plan.edition ≡ 1 → (i : ℕ) → There plan i → is_soft plan i ≡ false
unfolding is_soft
first_hard plan sound one i l = rw (ap (λ m. m.d) (sound.first_edition one i l)) (go (is_host plan i))
  where
    go : (b : Bool) → (not b && ltb 0 0) ≡ false
    go true = refl
    go false = refl

-- a kind is that of an aligned leaf, or not
aligned_decides : (k : NodeKind) → Decides (aligns k) (k ≡ AlignedLeaf) (k ≡ AlignedLeaf → ⊥)
unfolding aligns
aligned_decides AlignedLeaf = record { right = λ e. refl; wrong = λ e. absurd (true≢false e); apart = λ g n. n g }
aligned_decides SlidingLeaf =
    record { right = λ e. absurd (false≢true e); wrong = λ e h. (let z : ◌≡◌ {A = ℕ} 0 1 = cc in omega arith); apart = λ g n. n g }
aligned_decides Host =
    record { right = λ e. absurd (false≢true e); wrong = λ e h. (let z : ◌≡◌ {A = ℕ} 0 1 = cc in omega arith); apart = λ g n. n g }

-- a period divides another, or not
divides_decides : (a b : ℕ) → 0 < a → Decides (divides a b) (b % a ≡ 0) (b % a ≡ 0 → ⊥)
unfolding divides
divides_decides a b some = rw (lt-ltb 0 a some) (equal_decides (b % a) 0)

module _ (n : Node) (served : well_formed n.served ≡ true) (wanted : well_formed n.wanted ≡ true) where
  -- of a node's two periods one divides the other, or neither does
  divided_decides : Decides (divided n.served n.wanted)
      ((n.served.t % n.wanted.t ≡ 0) ⊎ (n.wanted.t % n.served.t ≡ 0))
      ((n.served.t % n.wanted.t ≡ 0) ⊎ (n.wanted.t % n.served.t ≡ 0) → ⊥)
  unfolding divided
  divided_decides =
      either_decides _ _ (divides_decides n.wanted.t n.served.t (bounds n.wanted wanted).some)
      (divides_decides n.served.t n.wanted.t (bounds n.served served).some)

  -- a node is made as a soft leaf has to be, or not
  pub made_decides : Decides (aligns n.kind && divided n.served n.wanted) (SoftMade n) (SoftMade n → ⊥)
  made_decides =
      decides_same (λ h. record { aligned = h.0; divided = h.1 }) (λ m. (m.aligned, m.divided))
      (both_decides _ _ (aligned_decides n.kind) divided_decides)

-- a soft leaf that is so made keeps rule 11, or not
pub soft_decides : (n : Node) → SoftMade n → well_formed n.served ≡ true → well_formed n.wanted ≡ true → within_range n.misses ≡ true →
    Decides (allowed n.served n.wanted n.misses)
    (StandsInSoft Aligned n.served (wanted_as n.kind) n.wanted n.misses)
    (StandsInSoft Aligned n.served (wanted_as n.kind) n.wanted n.misses → ⊥)
unfolding wanted_as
soft_decides n is served wanted misses = rw is.aligned (go (allowed n.served n.wanted n.misses) refl)
  where
    fits : divided n.served n.wanted ≡ true
    fits = go' (divided n.served n.wanted) (divided_decides n served wanted)
      where
        go' : (b : Bool) → Decides b ((n.served.t % n.wanted.t ≡ 0) ⊎ (n.wanted.t % n.served.t ≡ 0))
            ((n.served.t % n.wanted.t ≡ 0) ⊎ (n.wanted.t % n.served.t ≡ 0) → ⊥) → b ≡ true
        go' true d = refl
        go' false d = absurd (d.wrong refl is.divided)

    exact : (allowed n.served n.wanted n.misses ≡ true) ↔ StandsInSoft Aligned n.served Aligned n.wanted n.misses
    exact = allowed_exactly n.served n.wanted n.misses served wanted misses fits

    go : (b : Bool) → allowed n.served n.wanted n.misses ≡ b →
        Decides b (StandsInSoft Aligned n.served Aligned n.wanted n.misses) (StandsInSoft Aligned n.served Aligned n.wanted n.misses → ⊥)
    go true e = record { right = λ z. exact.0 e; wrong = λ z. absurd (true≢false z); apart = λ g k. k g }
    go false e = record { right = λ z. absurd (false≢true z); wrong = λ z g. true≢false (sym (exact.1 g) ∙ e); apart = λ g k. k g }
