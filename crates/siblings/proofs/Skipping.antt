-- The choice with some hosts tried in vain, all of which are passed over: it is the choice with all passed over, or one more of those. And of the hosts that are
-- yet to try there is one less each time. Assumes nothing.
use Prim.Native.Nat.{ℕ, zero, suc, ◌+◌, ◌≤◌, ◌<◌}
use mathlib.Core.Bool.{Bool, true, false, cond, ◌&&◌, ◌||◌, true≢false}
use mathlib.Core.List.{List}
use mathlib.Core.Path.{◌≡◌, refl, sym, ap, ◌∙◌}
use lib.Dec.{eqb}
use borrow.Author.Tests.{eqb-true, eq-eqb, ne_eqb}
use native.Mathlib.Decide.{ℕ_discrete}
use native.Mathlib.Omega.{arith}
use Rattle.plans.specs.declared.Parent.{Parent}
use Rattle.dispatch.proofs.Choices.{eligible_under, eligible_left, eligible_willing, eligible_child, choice_chosen, chosen_choice}
use Rattle.dispatch.proofs.Passing.{fewer_nobody}
use Rattle.dispatch.specs.View.{View, bit_of}
use Rattle.dispatch.specs.Choice.{nobody, just, eligible, choose}
use Rattle.siblings.specs.Back.{none, also, skipped}

-- all that was tried in vain is passed over
abbrev pub Vain : (ℕ → Bool) → (ℕ → Bool) → Type 0
Vain passed tried = (i : ℕ) → tried i ≡ true → passed i ≡ true

pub none_vain : (passed : ℕ → Bool) → Vain passed none
none_vain passed i e = absurd (true≢false (sym e))

pub also_vain : (passed tried : ℕ → Bool) (h : ℕ) → Vain passed tried → passed h ≡ true → Vain passed (also tried h)
also_vain passed tried h vain over i = go (eqb i h) refl
  where
    go : (b : Bool) → eqb i h ≡ b → (b || tried i) ≡ true → passed i ≡ true
    go true is e = ap passed (eqb-true i h is) ∙ over
    go false other e = vain i e

-- how many of the first k nodes are yet to try
unfoldable pub untried : (ℕ → Bool) → ℕ → ℕ
untried tried zero = 0
untried tried (suc k) = untried tried k + cond (tried k) 0 1

module _ (tried : ℕ → Bool) (h : ℕ) where
  -- with h tried they are as many before h,
  untried_before : (k : ℕ) → k ≤ h → untried (also tried h) k ≡ untried tried k
  unfolding untried
  untried_before zero l = refl
  untried_before (suc k) l = rw (untried_before k (omega arith), ne_eqb k h (λ e. omega arith))

  -- and one less past it
  pub untried_less : (k : ℕ) → h < k → tried h ≡ false → suc (untried (also tried h) k) ≡ untried tried k
  unfolding untried
  untried_less zero l fresh = absurd (omega arith)
  untried_less (suc k) l fresh = go (ℕ_discrete k h) (untried_less k)
    where
      go : Dec (k ≡ h) → (h < k → tried h ≡ false → suc (untried (also tried h) k) ≡ untried tried k) →
          suc (untried (also tried h) k + cond (eqb k h || tried k) 0 1) ≡ untried tried k + cond (tried k) 0 1
      go (yes e) before = rw (eq-eqb k h e, ap tried e, fresh, untried_before k (omega arith)) (omega arith)
      go (no other) before = rw (ne_eqb k h other) (omega (arith, before (omega arith) fresh))

module _ (v : View) (declines : ℕ) (passed : ℕ → Bool) (leaves : (i : ℕ) → v.leaf i ≡ true → passed i ≡ bit_of declines i) (tried : ℕ → Bool) where
  -- whom the choice does not pass over was not tried, and a leaf of them is not passed over
  pub kept_fresh : (i : ℕ) → skipped v declines tried i ≡ false → tried i ≡ false
  unfolding skipped
  kept_fresh i = go (v.leaf i && bit_of declines i)
    where
      go : (b : Bool) → (b || tried i) ≡ false → tried i ≡ false
      go true e = absurd (true≢false e)
      go false e = e

  pub kept_leaf : (i : ℕ) → v.leaf i ≡ true → skipped v declines tried i ≡ false → passed i ≡ false
  unfolding skipped
  kept_leaf i leaf e = leaves i leaf ∙ go (bit_of declines i) (rw leaf at e)
    where
      go : (b : Bool) → (b || tried i) ≡ false → b ≡ false
      go true e = absurd (true≢false e)
      go false e = refl

  module _ (vain : Vain passed tried) where
    -- whom the choice passes over is passed over
    pub skipped_passed : (i : ℕ) → skipped v declines tried i ≡ true → passed i ≡ true
    unfolding skipped
    skipped_passed i = go (v.leaf i) refl (bit_of declines i) refl
      where
        go : (a : Bool) → v.leaf i ≡ a → (d : Bool) → bit_of declines i ≡ d → ((a && d) || tried i) ≡ true → passed i ≡ true
        go true leaf true e t = leaves i leaf ∙ e
        go true leaf false e t = vain i t
        go false host d e t = vain i t

    module _ (left : List ℕ) (x : Parent) where
      -- so where it finds nobody there is nobody,
      pub skipped_nobody : choose v left (skipped v declines tried) x ≡ nobody → choose v left passed x ≡ nobody
      skipped_nobody = fewer_nobody v left (skipped v declines tried) passed x skipped_passed

      -- and where it finds somebody who is not passed over, that is the choice
      pub skipped_choice : (i : ℕ) → choose v left (skipped v declines tried) x ≡ just i → passed i ≡ false → choose v left passed x ≡ just i
      skipped_choice i c kept =
          let is = choice_chosen v left (skipped v declines tried) x i c in
          let may = is.may in
          chosen_choice v left passed x i
          (record {
            there = is.there;
            may =
                eligible_child v left passed x i (eligible_under v left (skipped v declines tried) x i may)
                (eligible_left v left (skipped v declines tried) x i may) kept;
            before = λ j l m. is.before j l (also_may j m (skipped v declines tried j) refl);
          })
        where
          also_may : (j : ℕ) → eligible v left passed x j ≡ true → (b : Bool) → skipped v declines tried j ≡ b →
              eligible v left (skipped v declines tried) x j ≡ true
          also_may j m true e = absurd (true≢false (sym (skipped_passed j e) ∙ eligible_willing v left passed x j m))
          also_may j m false e =
              eligible_child v left (skipped v declines tried) x j (eligible_under v left passed x j m) (eligible_left v left passed x j m) e
