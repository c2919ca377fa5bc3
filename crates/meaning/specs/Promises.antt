-- What document 01, "Types and what they mean", says of the written allocation and its stretch, sentence by sentence. Why each holds is in
-- proofs/Stretch.antt. Assumes nothing.
use Rattle.std.specs.Prelude.{ℕ, ◌+◌, ◌-◌, ◌*◌, ◌/◌, ◌≤◌, ◌<◌, true, false, ◌&&◌, ◌↔◌, ◌⊎◌, ◌≡◌, eqb}
use Rattle.meaning.specs.Allocation.{ones}
use Rattle.meaning.specs.Written.{inside, written, stretch_from, stretch_to}

-- n is the multiple of T at or below s, and none is nearer
pub record Below (T s n : ℕ) : Type 0 where
  pub multiple : (b : ℕ) × (n ≡ b * T)
  pub within : n ≤ s
  pub nearest : (b : ℕ) → b * T ≤ s → b * T ≤ n

-- n is the first multiple of T at or above e, and none is nearer
pub record Above (T e n : ℕ) : Type 0 where
  pub multiple : (b : ℕ) × (n ≡ b * T)
  pub within : e ≤ n
  pub nearest : (b : ℕ) → e ≤ b * T → n ≤ b * T

-- 01: "for the slots from the multiple of T at or below s to the first multiple of T at or above s + T'"
abbrev pub StretchEnds : Type 0
StretchEnds = (T s L : ℕ) → 1 ≤ T → Below T s (stretch_from T s) × Above T (s + L) (stretch_to T s L)

-- how many slots before n lie inside the window and in n's own T-block
abbrev pub before : ℕ → ℕ → ℕ → ℕ → ℕ
before T s L n = ones (λ m. inside s L m && eqb (m / T) (n / T)) 0 n

-- 01: "In each T-block of that stretch the earliest slots inside the window are 0, at most T − C of them, and the rest are 1": a slot is 0 exactly
-- where it lies inside the window and fewer than T − C slots of its block do so before it
abbrev pub EarliestAreZero : Type 0
EarliestAreZero =
    (C T s L n : ℕ) → 1 ≤ T → (written C T s L n ≡ false) ↔ ((inside s L n ≡ true) × (before T s L n < T - C))

-- 01: "Every slot outside the stretch counts as 1": so the written bytes are the whole of the allocation
abbrev pub OutsideIsOne : Type 0
OutsideIsOne =
    (C T s L n : ℕ) → 1 ≤ T → (n < stretch_from T s) ⊎ (stretch_to T s L ≤ n) → written C T s L n ≡ true
