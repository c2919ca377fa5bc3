-- The three tests of a run in order: which of them fails tells the refusal. Assumes nothing.
use Prim.Native.Nat.{ℕ}
use mathlib.Core.Bool.{Bool, true, false, cond}
use mathlib.Core.Logic.{◌↔◌}
use mathlib.Core.Path.{◌≡◌, refl}
use native.Mathlib.Omega.{arith}
use Rattle.dispatch.specs.Run.{Said, done, refused}

-- refusals with one number are one
one_number : {r q : ℕ} → refused r ≡ refused q → r ≡ q
one_number h = cc

-- three tests in order
abbrev pub tested : Bool → Bool → Bool → Said
tested a b c = cond a (cond b (cond c done (refused 15)) (refused 17)) (refused 16)

-- 16 is given where the first fails,
pub sixteen : (a b c : Bool) → (tested a b c ≡ refused 16) ↔ (a ≡ false)
sixteen true true true = (λ h. cc, λ h. cc)
sixteen true true false = (λ h. absurd (omega (arith, one_number h)), λ h. cc)
sixteen true false c = (λ h. absurd (omega (arith, one_number h)), λ h. cc)
sixteen false b c = (λ h. refl, λ h. refl)

-- 17 where the second does,
pub seventeen : (a b c : Bool) → (tested a b c ≡ refused 17) ↔ ((a ≡ true) × (b ≡ false))
seventeen true true true = (λ h. (refl, cc), λ h. cc)
seventeen true true false = (λ h. absurd (omega (arith, one_number h)), λ h. cc)
seventeen true false c = (λ h. (refl, refl), λ h. refl)
seventeen false b c = (λ h. absurd (omega (arith, one_number h)), λ h. cc)

-- 15 where the third does,
pub fifteen : (a b c : Bool) → (tested a b c ≡ refused 15) ↔ ((a ≡ true) × (b ≡ true) × (c ≡ false))
fifteen true true true = (λ h. (refl, refl, cc), λ h. cc)
fifteen true true false = (λ h. (refl, refl, refl), λ h. refl)
fifteen true false c = (λ h. absurd (omega (arith, one_number h)), λ h. cc)
fifteen false b c = (λ h. absurd (omega (arith, one_number h)), λ h. cc)

-- and nothing where all hold
pub none : (a b c : Bool) → (tested a b c ≡ done) ↔ ((a ≡ true) × (b ≡ true) × (c ≡ true))
none true true true = (λ h. (refl, refl, refl), λ h. refl)
none true true false = (λ h. (refl, refl, cc), λ h. cc)
none true false c = (λ h. (refl, cc, cc), λ h. cc)
none false b c = (λ h. (cc, cc, cc), λ h. cc)
