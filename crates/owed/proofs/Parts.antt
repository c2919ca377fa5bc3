-- What is owed to a window, compared with its ones block by block: the first part, the whole blocks, the last part. Assumes nothing.
use Prim.Native.Nat.{ℕ, zero, suc, ◌+◌, ◌-◌, ◌*◌, ◌/◌, ◌%◌, ◌≤◌, ◌<◌, max}
use mathlib.Core.Path.{◌≡◌, subst}
use mathlib.Core.Logic.{◌⊎◌, inl, inr}
use native.Mathlib.Nat.{
  zero-mul,
  suc-mul,
  add-mul,
  zero-div,
  zero-mod,
  zero-sub,
  mul-mod_left,
  mul-div_cancel,
  div-add-mod',
  div-mul-le_self,
  mod-lt,
  max-eq_left,
  max-eq_right,
  le_refl,
  add-sub_of_le,
}
use native.Mathlib.Decide.{dec_le}
use native.Mathlib.Omega.{arith}
use lib.Arith.{sub-sub_self}
use Rattle.meaning.specs.Allocation.{Allocation, ones}
use Rattle.owed.proofs.Owed.{whole, head, owed}
use Rattle.owed.proofs.Ones.{ones_split}

-- the n slots from p on are a part of the window of L slots from s: inside the window, in one T-block, and none of that block's slots inside
-- the window stands before p
pub record Part (T s L p n : ℕ) : Type 0 where
  pub from : s ≤ p
  pub to : p + n ≤ s + L
  pub one : p % T + n ≤ T
  pub first : max s (p / T * T) ≡ p

-- a relation between two counts that holds of sums where it holds of the parts
pub record Additive (R : ℕ → ℕ → Type 0) : Type 0 where
  pub none : R 0 0
  pub sum : {a b c d : ℕ} → R a b → R c d → R (a + c) (b + d)

head_le : (T s L : ℕ) → head T s L ≤ L
unfolding head
head_le T s L = omega arith

head_in_block : (T s L : ℕ) → 0 < T → s % T + head T s L ≤ T
unfolding head
head_in_block T s L some = omega (arith, mod-lt s some)

-- behind the part in the first block the window ends or a block starts
after_head : (T s L : ℕ) → 0 < T → (L - head T s L ≡ 0) ⊎ (s + head T s L ≡ suc (s / T) * T)
unfolding head
after_head T s L some = elim (dec_le L (T - s % T)) [
  | yes h ↦ inl (omega arith)
  | no h ↦ inr (omega (arith, suc-mul (s / T) T, div-add-mod' s T, mod-lt s some))
]

module _ (R : ℕ → ℕ → Type 0) (additive : Additive R) (C T : ℕ) (some : 0 < T) (fits : C ≤ T) (α : Allocation) (s L : ℕ)
    (part : (p n : ℕ) → Part T s L p n → R (n - (T - C)) (ones α p n)) where
  -- the first n slots of a block that starts inside the window
  in_block : (b q n : ℕ) → s ≤ b * T → b * T + q * T + n ≤ s + L → n ≤ T → R (n - (T - C)) (ones α (b * T + q * T) n)
  in_block b q n from to h = rw (← e) (part ((b + q) * T) n record {
    from = omega (arith, e);
    to = omega (arith, e);
    one = rw (mul-mod_left (b + q) T) (omega arith);
    first = rw (mul-div_cancel (b + q) some) (max-eq_right (omega (arith, e)));
  })
    where
      e : (b + q) * T ≡ b * T + q * T
      e = add-mul b q T

  -- q whole blocks from block b on
  blocks : (b q : ℕ) → s ≤ b * T → b * T + q * T ≤ s + L → R (q * C) (ones α (b * T) (q * T))
  unfolding ones
  blocks b zero from to = rw (zero-mul C, zero-mul T) additive.none
  blocks b (suc q) from to = rw (suc-mul q C, suc-mul q T, ones_split α (b * T) (q * T) T)
      (additive.sum (blocks b q from (omega (arith, suc-mul q T)))
      (rw (sub-sub_self fits) at (in_block b q T from (omega (arith, suc-mul q T)) (le_refl T))))

  -- n slots from the start of block b on
  from_block : (b n : ℕ) → s ≤ b * T → b * T + n ≤ s + L → R (whole C T n) (ones α (b * T) n)
  unfolding whole
  from_block b n from to = subst (λ k. R (whole C T n) (ones α (b * T) k)) (div-add-mod' n T)
      (rw (ones_split α (b * T) (n / T * T) (n % T))
      (additive.sum (blocks b (n / T) from (omega (arith, div-add-mod' n T)))
      (in_block b (n / T) (n % T) from (omega (arith, div-add-mod' n T)) (omega (arith, mod-lt n some)))))

  -- what follows the part in the first block
  rest : (L - head T s L ≡ 0) ⊎ (s + head T s L ≡ suc (s / T) * T)
      → R (whole C T (L - head T s L)) (ones α (s + head T s L) (L - head T s L))
  unfolding whole ones
  rest (inl e) = rw (e, zero-div T, zero-mod T, zero-mul C, zero-sub (T - C)) additive.none
  rest (inr e) = rw e (from_block (suc (s / T)) (L - head T s L) (omega (arith, e)) (omega (arith, e, head_le T s L)))

  -- what is owed to a window stands to its ones as each part's excess over T − C stands to the part's
  pub owed_by_parts : R (owed C T s L) (ones α s L)
  unfolding owed
  owed_by_parts = subst (λ k. R (owed C T s L) (ones α s k)) (add-sub_of_le (head_le T s L))
      (rw (ones_split α s (head T s L) (L - head T s L)) (additive.sum (part s (head T s L) first) (rest (after_head T s L some))))
    where
      first : Part T s L s (head T s L)
      first = record {
        from = le_refl s;
        to = omega (arith, head_le T s L);
        one = head_in_block T s L some;
        first = max-eq_left (div-mul-le_self s T);
      }
