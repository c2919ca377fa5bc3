-- Why the promises of specs/Promises.antt hold: the ends of the stretch, its zeros, and the ones around it. Assumes nothing.
use Prim.Native.Nat.{ℕ, zero, suc, ◌+◌, ◌-◌, ◌*◌, ◌/◌, ◌≤◌, ◌<◌, max}
use mathlib.Core.Bool.{true, ◌&&◌, and-eq-true_iff}
use mathlib.Core.Path.{◌≡◌, refl, ap}
use mathlib.Core.Logic.{inl, inr}
use native.Mathlib.Nat.{div-add-mod', div-mul-le_self, mod-lt, suc-mul, zero-add, mul-le-mul_right, lt_of_mul-lt-mul_right, div-eq_of_lt-le}
use native.Mathlib.Decide.{dec_le}
use native.Mathlib.Numerals.{add-one}
use native.Mathlib.Omega.{arith}
use lib.Dec.{eqb, leb, ltb}
use borrow.Author.Tests.{le-leb, lt-leb, lt-ltb, le-ltb, ltb-true, eq-eqb, ne_eqb, not-false}
use Rattle.meaning.specs.Allocation.{ones}
use Rattle.meaning.specs.Written.{inside, earlier, written, stretch_from, stretch_to}
use Rattle.meaning.specs.Promises.{Below, Above, StretchEnds, before, EarliestAreZero, OutsideIsOne}

-- of two multiples of T, one that is less than T above the other is at most the other
none_between : (T a b : ℕ) → a * T < b * T + T → a * T ≤ b * T
none_between T a b near =
    let fewer : a < suc b = lt_of_mul-lt-mul_right T (omega (arith, suc-mul b T)) in
    mul-le-mul_right T (omega arith)

-- a number rounded down to a multiple of T
rounded_down : (T s x : ℕ) → 1 ≤ T → x ≡ s → Below T s (x / T * T)
rounded_down T s x some e = record {
  multiple = (x / T, refl);
  within = omega (arith, div-mul-le_self x T);
  nearest = λ b h. none_between T b (x / T) (omega (arith, div-add-mod' x T, mod-lt x some));
}

-- and rounded up
rounded_up : (T e x : ℕ) → 1 ≤ T → x ≡ e + (T - 1) → Above T e (x / T * T)
rounded_up T e x some h = record {
  multiple = (x / T, refl);
  within = omega (arith, div-add-mod' x T, mod-lt x some);
  nearest = λ b l. none_between T (x / T) b (omega (arith, div-mul-le_self x T));
}

pub stretch_ends : StretchEnds
unfolding stretch_from stretch_to
stretch_ends T s L some = (rounded_down T s _ some (omega arith), rounded_up T (s + L) _ some (omega arith))

-- a slot outside the stretch counts as 1
pub outside_is_one : OutsideIsOne
unfolding written stretch_from stretch_to
outside_is_one C T s L n some (inl low) = rw (lt-leb s n (omega (arith, div-mul-le_self s T)))
outside_is_one C T s L n some (inr high) =
    let end : s + L ≤ n = omega (arith, (stretch_ends T s L some).1.within) in
    rw (le-leb s n (omega arith), le-ltb n (s + L) end)

module _ (T s L n : ℕ) (some : 1 ≤ T) (last : n < s + L) where
  -- n's own block has begun by slot k, which is before n
  same_block : (k : ℕ) → k < n → n / T * T ≤ k → k / T ≡ n / T
  same_block k l from =
      div-eq_of_lt-le T from (rw (add-one (n / T), suc-mul (n / T) T) (omega (arith, div-add-mod' n T, mod-lt n some)))

  -- and has not
  other_block : (k : ℕ) → k < n / T * T → k / T ≡ n / T → ⊥
  other_block k l e = omega (arith, div-mul-le_self k T, ap (λ (b : ℕ). b * T) e)

  -- of the slots before k, those that lie inside the window and in n's own block
  before_to : (k : ℕ) → k ≤ n → ones (λ m. inside s L m && eqb (m / T) (n / T)) 0 k ≡ k - max s (n / T * T)
  unfolding ones
  before_to zero h = omega arith
  before_to (suc k) h = rw (before_to k (omega arith), zero-add k) (elim (dec_le s k) [
    | yes a ↦ elim (dec_le (n / T * T) k) [
      | yes b ↦ rw (le-leb s k a, lt-ltb k (s + L) (omega arith), eq-eqb (k / T) (n / T) (same_block k h b)) (omega arith)
      | no b ↦ rw (ne_eqb (k / T) (n / T) (other_block k (omega arith)), le-leb s k a, lt-ltb k (s + L) (omega arith)) (omega arith)
    ]
    | no a ↦ rw (lt-leb s k (omega arith)) (omega arith)
  ])

-- the earlier slots of a block are those before n, counted
pub earlier_counted : (T s L n : ℕ) → 1 ≤ T → inside s L n ≡ true → before T s L n ≡ earlier T s n
earlier_counted T s L n some e =
    let last : n < s + L = ltb-true n (s + L) ((and-eq-true_iff (leb s n) (ltb n (s + L))).0 e).1 in
    before_to T s L n some last n (omega arith)

pub earliest_are_zero : EarliestAreZero
unfolding written
earliest_are_zero C T s L n some = (
  (λ e.
      let both = (and-eq-true_iff (inside s L n) (ltb (earlier T s n) (T - C))).0 (not-false _ e) in
      (both.0, rw (earlier_counted T s L n some both.0) (ltb-true (earlier T s n) (T - C) both.1))),
  (λ h. rw (h.0, lt-ltb (earlier T s n) (T - C) (rw (earlier_counted T s L n some h.0) at h.1))),
)
