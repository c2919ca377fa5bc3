-- The greatest common divisor of a and b is reached: some multiple of b stands just that far above a multiple of a. Euclid's steps go from what is
-- reached to what is reached. Assumes nothing.
use Prim.Native.Nat.{ℕ, zero, suc, ◌+◌, ◌-◌, ◌*◌, ◌/◌, ◌%◌, ◌<◌, ◌∣◌}
use native.Mathlib.Nat.{
  dvd-mod_iff,
  dvd-mul_left,
  div-mul_cancel,
  div-add-mod',
  mod-lt,
  mul-add,
  add-mul,
  mul_assoc,
  mul_comm,
  mul_right_comm,
  mul-suc,
  suc-mul,
}
use native.Mathlib.Decide.{dec_lt}
use native.Mathlib.Omega.{arith}
use mathlib.Core.Path.{◌≡◌, ap, subst}
use Rattle.divisors.specs.Common.{Common}
use Rattle.divisors.proofs.Euclid.{one_common, Kept, kept_start, kept_step, common_kept}

-- some multiple of b stands x above a multiple of a
pub record Reach (a b x : ℕ) : Type 0 where
  pub times : ℕ
  pub blocks : ℕ
  pub meets : times * b ≡ x + blocks * a

-- a is reached from any b that is not 0: as a times b, which is b − 1 blocks above a
reach_left : (a b : ℕ) → 0 < b → Reach a b a
reach_left a b h =
    let whole : suc (b - 1) ≡ b = omega arith in
    record { times = a; blocks = b - 1; meets = omega (arith, mul_comm a b, suc-mul (b - 1) a, ap (λ (n : ℕ). n * a) whole) }

-- b is reached at once
reach_right : (a b : ℕ) → Reach a b b
reach_right a b = record { times = 1; blocks = 0; meets = omega arith }

-- above the multiples of 0, of which 0 is the only one, stand the multiples of b and no others
dvd_reached : (b x : ℕ) → Reach 0 b x → b ∣ x
dvd_reached b x r = subst (λ (n : ℕ). b ∣ n) (omega (arith, r.meets)) (dvd-mul_left b r.times)

reach_dvd : (b x : ℕ) → b ∣ x → Reach 0 b x
reach_dvd b x d = record { times = x / b; blocks = 0; meets = omega (arith, div-mul_cancel b d) }

-- what x leaves over y is reached where both are. To take y away x / y times is to add it (x / y) * (a − 1) times and drop (x / y) * y blocks
reach_rest : (a b x y : ℕ) → Reach a b x → Reach a b y → Reach a b (x % y)
reach_rest zero b x y r s = reach_dvd b (x % y) ((dvd-mod_iff b (dvd_reached b y s)).1 (dvd_reached b x r))
reach_rest (suc m) b x y r s = record {
  times = r.times + q * m * s.times;
  blocks = r.blocks + (q * y + q * m * s.blocks);
  meets = omega (
    arith,
    ap (λ (n : ℕ). q * m * n) s.meets,
    add-mul r.times (q * m * s.times) b,
    mul_assoc (q * m) s.times b,
    mul-add (q * m) y (s.blocks * suc m),
    mul_assoc (q * m) s.blocks (suc m),
    add-mul r.blocks (q * y + q * m * s.blocks) (suc m),
    add-mul (q * y) (q * m * s.blocks) (suc m),
    mul-suc (q * y) m,
    mul_right_comm q y m,
    div-add-mod' x y,
  );
}
  where
    q : ℕ
    q = x / y

-- from x and y on, where y is below n, Euclid's steps reach the greatest common divisor
steps_reach : (n a b x y : ℕ) → y < n → Kept a b x y → Reach a b x → Reach a b y → (d : ℕ) × (Common a b d × Reach a b d)
steps_reach zero a b x y l k r s = absurd (omega arith)
steps_reach (suc n) a b x y l k r s = go (steps_reach n a b y (x % y)) (dec_lt 0 y)
  where
    End : Type 0
    End = (d : ℕ) × (Common a b d × Reach a b d)

    go : (x % y < n → Kept a b y (x % y) → Reach a b y → Reach a b (x % y) → End) → Dec (0 < y) → End
    go more (yes h) = more (omega (arith, mod-lt x h)) (kept_step k) s (reach_rest a b x y r s)
    go more (no h) = (x, (common_kept k (omega arith), r))

-- the greatest common divisor is reached
pub common_reached : (a b d : ℕ) → 0 < b → Common a b d → Reach a b d
common_reached a b d some common =
    let (x, (is, reached)) = steps_reach (suc b) a b a b (omega arith) (kept_start a b) (reach_left a b some) (reach_right a b) in
    subst (Reach a b) (one_common a b x d is common) reached
