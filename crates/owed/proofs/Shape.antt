-- How what an aligned giver owes a window depends on the window's start: whole blocks do not matter, and as a function of the offset in the
-- block it never rises up to C and never falls from C on. Assumes nothing.
use Prim.Native.Nat.{ℕ, zero, suc, ◌+◌, ◌-◌, ◌*◌, ◌/◌, ◌%◌, ◌≤◌, ◌<◌, min}
use mathlib.Core.Path.{◌≡◌, ap, sym, ◌∙◌}
use mathlib.Core.Logic.{◌⊎◌, inl, inr}
use native.Mathlib.Nat.{
  add-div_right,
  add-le-add,
  add-mod_right,
  add-mul,
  add-mul-mod_self_right,
  add-suc,
  add-zero,
  div-add-mod',
  div-eq_of_lt,
  eq-or-lt_of_le,
  min-eq_left,
  min-eq_right,
  min-le_left,
  min-zero,
  mod-add-div',
  mod-eq_of_lt,
  mod-lt,
  mod_self,
  mul-add-div_right,
  mul-add-mod_self_right,
  mul_right_comm,
  one-mul,
  sub_self,
  sub-zero,
  zero-add,
  zero-mul,
  zero-sub,
}
use native.Mathlib.Omega.{arith}
use Rattle.owed.proofs.Owed.{whole, head, owed}
use Rattle.owed.proofs.Lowest.{le_or_lt}

-- a window that starts whole blocks later is owed the same
pub owed_later : (C T s k L : ℕ) → owed C T (s + k * T) L ≡ owed C T s L
unfolding owed head
owed_later C T s k L = rw (add-mul-mod_self_right s k T)

-- only the start's offset in its block matters
pub owed_mod : (C T s L : ℕ) → 0 < T → owed C T s L ≡ owed C T (s % T) L
owed_mod C T s L some = ap (λ (x : ℕ). owed C T x L) (sym (mod-add-div' s T)) ∙ owed_later C T (s % T) (s / T) L

-- the starts from the T-th on repeat the first T
pub owed_turn : (C T step L b : ℕ) → 0 < T → owed C T (b * step) L ≡ owed C T (b % T * step) L
owed_turn C T step L b some =
    let apart : b * step ≡ b % T * step + b / T * step * T =
    omega (arith, ap (λ (x : ℕ). x * step) (mod-add-div' b T), add-mul (b % T) (b / T * T) step, mul_right_comm (b / T) T step) in
    ap (λ (x : ℕ). owed C T x L) apart ∙ owed_later C T (b % T * step) (b / T * step) L

-- what one summand gains the other loses
moved : (p k m : ℕ) {q n : ℕ} → n ≤ m + k → p + k ≤ q → p + n ≤ q + m
moved p k m gained lost = omega arith

between : {a b L : ℕ} → b ≤ L → a ≤ b → (L - b) + (b - a) ≡ L - a
between within shorter = omega arith

min_mono : (L : ℕ) {v u : ℕ} → v ≤ u → min L v ≤ min L u
min_mono L h = omega arith

-- a first part that is shortened to no less than D slots loses each slot of what exceeds D
head_falls : (L D u v : ℕ) → D ≤ v → v ≤ u → (min L v - D) + (min L u - min L v) ≤ min L u - D
head_falls L D u v long shorter = omega arith

-- of at most D slots nothing exceeds D
head_none : (L D u w : ℕ) → u ≤ D → min L u - D ≤ w
head_none L D u w short = omega arith

module _ (C T : ℕ) (some : 0 < T) (fits : C ≤ T) where
  -- a whole block more is C more
  pub whole_block : (n : ℕ) → whole C T (n + T) ≡ whole C T n + C
  unfolding whole
  whole_block n = rw (add-div_right n some, add-mod_right n T) (omega (arith, add-mul (n / T) 1 C, one-mul C))

  -- of q blocks and a part of the next
  whole_below : (q r : ℕ) → r < T → whole C T (q * T + r) ≡ q * C + (r - (T - C))
  unfolding whole
  whole_below q r l = rw (mul-add-div_right some q r, mul-add-mod_self_right q T r, div-eq_of_lt l, mod-eq_of_lt l, add-zero q)

  -- of q blocks and a part of the next, which may be all of it
  pub whole_at : (q r : ℕ) → r ≤ T → whole C T (q * T + r) ≡ q * C + (r - (T - C))
  whole_at q r most = go (eq-or-lt_of_le most)
    where
      go : (r ≡ T) ⊎ (r < T) → whole C T (q * T + r) ≡ q * C + (r - (T - C))
      go (inr l) = whole_below q r l
      go (inl e) = rw e (omega (arith, whole_block (q * T), whole_below q 0 some, ap (whole C T) (add-zero (q * T))))

  -- of a part of one block
  whole_part : (r : ℕ) → r ≤ T → whole C T r ≡ r - (T - C)
  whole_part r most = simp (zero-mul, zero-add) at (whole_at 0 r most)

  -- a slot more is nothing or one more
  whole_suc : (n : ℕ) → (whole C T n ≤ whole C T (suc n)) × (whole C T (suc n) ≤ suc (whole C T n))
  whole_suc n =
      let q : ℕ = n / T in
      let r : ℕ = n % T in
      let l : r < T = mod-lt n some in
      let here : whole C T n ≡ q * C + (r - (T - C)) = ap (whole C T) (sym (div-add-mod' n T)) ∙ whole_at q r (omega arith) in
      let next : whole C T (suc n) ≡ q * C + (suc r - (T - C)) =
      ap (whole C T) (omega (arith, div-add-mod' n T)) ∙ whole_at q (suc r) l in
      omega (arith, here, next)

  -- k slots more are at least nothing and at most k more
  whole_more : (n k : ℕ) → (whole C T n ≤ whole C T (n + k)) × (whole C T (n + k) ≤ whole C T n + k)
  whole_more n zero = omega (arith, ap (whole C T) (add-zero n))
  whole_more n (suc k) = omega (arith, whole_more n k, whole_suc (n + k), ap (whole C T) (add-suc n k))

  whole_le : (n : ℕ) → whole C T n ≤ n
  whole_le n = omega (arith, whole_more 0 n, whole_part 0 (omega arith), ap (whole C T) (zero-add n))

  -- a window from a block's start on is owed as its first block, or all of it where it is shorter, and the rest
  whole_first : (L : ℕ) → (min L T - (T - C)) + whole C T (L - min L T) ≡ whole C T L
  whole_first L = go (le_or_lt L T)
    where
      go : (L ≤ T) ⊎ (T < L) → (min L T - (T - C)) + whole C T (L - min L T) ≡ whole C T L
      go (inl h) = rw (min-eq_left h, sub_self L) (omega (arith, whole_part L h, whole_part 0 (omega arith)))
      go (inr l) =
          let most : T ≤ L = omega arith in
          let apart : L ≡ (L - T) + T = omega arith in
          rw (min-eq_right most) (omega (arith, whole_block (L - T), ap (whole C T) apart))

  -- what a window at offset x is owed, where at offset T, the next block's start, its first part has no slot
  pub owed_at : (x L : ℕ) → x ≤ T → owed C T x L ≡ (min L (T - x) - (T - C)) + whole C T (L - min L (T - x))
  unfolding owed head
  owed_at x L most = go (eq-or-lt_of_le most)
    where
      go : (x ≡ T) ⊎ (x < T) → owed C T x L ≡ (min L (T - x) - (T - C)) + whole C T (L - min L (T - x))
      go (inr l) = rw (mod-eq_of_lt l)
      go (inl e) = rw e (simp (mod_self, sub_self, min-zero, sub-zero, zero-sub, zero-add) (whole_first L))

  -- from an offset to a later one the rest of the window gains at least nothing, and at most what its first part loses
  rest_more
      : (x y L : ℕ) → x ≤ y
      → (whole C T (L - min L (T - x)) ≤ whole C T (L - min L (T - y)))
      × (whole C T (L - min L (T - y)) ≤ whole C T (L - min L (T - x)) + (min L (T - x) - min L (T - y)))
  rest_more x y L later =
      let apart : (L - min L (T - x)) + (min L (T - x) - min L (T - y)) ≡ L - min L (T - y) =
      between (min-le_left L (T - x)) (min_mono L (omega arith)) in
      rw apart at (whole_more (L - min L (T - x)) (min L (T - x) - min L (T - y)))

  -- up to offset C a later start is owed no more
  pub falls : (x y L : ℕ) → x ≤ y → y ≤ C → owed C T y L ≤ owed C T x L
  falls x y L later most =
      rw (owed_at x L (omega arith), owed_at y L (omega arith))
      (moved _ _ _ (rest_more x y L later).1 (head_falls L (T - C) (T - x) (T - y) (omega arith) (omega arith)))

  -- from offset C on a later start is owed no less, up to the next block's start
  pub rises : (x y L : ℕ) → C ≤ x → x ≤ y → y ≤ T → owed C T x L ≤ owed C T y L
  rises x y L from later most =
      rw (owed_at x L (omega arith), owed_at y L (omega arith))
      (add-le-add (head_none L (T - C) (T - x) _ (omega arith)) (rest_more x y L later).0)

-- no window is owed more than its slots
pub owed_le : (C T s L : ℕ) → 0 < T → C ≤ T → owed C T s L ≤ L
unfolding owed head
owed_le C T s L some fits = omega (arith, whole_le C T some fits (L - head T s L))
