-- Numbers and types in little-endian bytes, there and back. Assumes nothing.
use Prim.Native.Nat.{ℕ, zero, suc, ◌+◌, ◌*◌, ◌/◌, ◌%◌, ◌≤◌, ◌<◌}
use mathlib.Core.List.{List, [], ◌∷◌, ◌++◌}
use mathlib.Core.Path.{◌≡◌, sym, ap, ◌∙◌}
use native.Mathlib.Decide.{dec_lt}
use native.Mathlib.Nat.{add-zero}
use native.Mathlib.Omega.{arith}
use lib.ListN.{length, get_or, get_or-eq_default}
use Rattle.meaning.specs.declared.SlotType.{SlotType}
use Rattle.fields.specs.Fields.{byte_at, two_at, four_at, type_at}
use Rattle.layout.specs.Layout.{two_bytes, four_bytes, type_bytes}
use Rattle.layout.specs.Promises.{Bytes}
use Rattle.layout.proofs.Holds.{Holds, holds_left, holds_right, holds_join}

-- a byte is below 256, past the end too
pub byte_small : (s : List ℕ) → Bytes s → (k : ℕ) → byte_at s k < 256
unfolding byte_at
byte_small s small k = go (dec_lt k (length s))
  where
    go : Dec (k < length s) → get_or s k 0 < 256
    go (yes h) = small k h
    go (no h) = omega (arith, get_or-eq_default s 0 {n = k} (omega arith))

module _ (s : List ℕ) (k : ℕ) where
  -- one byte is held where it stands
  pub byte_held : (b : ℕ) → k + 1 ≤ length s → byte_at s k ≡ b → Holds s k (b ∷ [])
  byte_held b h e = record { within = h; bytes = λ j l. go j l }
    where
      go : (j : ℕ) → j < 1 → byte_at s (k + j) ≡ get_or (b ∷ []) j 0
      go zero l = ap (byte_at s) (add-zero k) ∙ e
      go (suc j) l = absurd (omega arith)

  -- and a byte held first stands there
  pub byte_read : (b : ℕ) (x : List ℕ) → Holds s k (b ∷ x) → byte_at s k ≡ b
  byte_read b x h = ap (byte_at s) (sym (add-zero k)) ∙ h.bytes 0 (omega arith)

  -- and what is held after it is held one place on
  pub rest_held : (b : ℕ) (x : List ℕ) → Holds s k (b ∷ x) → Holds s (k + 1) x
  rest_held b x h = holds_right s k (b ∷ []) x h

  -- a byte, and others after it
  pub cons_held : (b : ℕ) (x : List ℕ) → k + 1 ≤ length s → byte_at s k ≡ b → Holds s (k + 1) x → Holds s k (b ∷ x)
  cons_held b x h e rest = holds_join s k (b ∷ []) x (byte_held b h e) rest

module _ (s : List ℕ) (small : Bytes s) where
  -- two bytes spell a number below 2^16
  two_small : (k : ℕ) → two_at s k < 65536
  unfolding two_at
  two_small k = omega (arith, byte_small s small k, byte_small s small (k + 1))

  -- two bytes hold the number that they spell
  pub two_held : (k : ℕ) → k + 2 ≤ length s → Holds s k (two_bytes (two_at s k))
  unfolding two_bytes two_at
  two_held k h =
      let low = byte_small s small k in
      let high = byte_small s small (k + 1) in
      cons_held s k _ _ (omega arith) (omega arith) (byte_held s (k + 1) _ (omega arith) (omega arith))

  -- and four bytes two numbers
  pub pair_held : (k : ℕ) → k + 4 ≤ length s → Holds s k (two_bytes (two_at s k) ++ two_bytes (two_at s (k + 2)))
  unfolding two_bytes
  pair_held k h = holds_join s k (two_bytes (two_at s k)) (two_bytes (two_at s (k + 2))) (two_held k (omega arith)) (two_held (k + 2) (omega arith))

  -- or one
  pub four_held : (k : ℕ) → k + 4 ≤ length s → Holds s k (four_bytes (four_at s k))
  unfolding four_bytes four_at two_bytes
  four_held k h =
      let a = two_at s k in
      let b = two_at s (k + 2) in
      let low : (a + 65536 * b) % 65536 ≡ a = omega (arith, two_small k) in
      let high : (a + 65536 * b) / 65536 ≡ b = omega (arith, two_small k) in
      rw (low, high) (pair_held k h)

  -- and a type's four bytes the type
  pub type_held : (k : ℕ) → k + 4 ≤ length s → Holds s k (type_bytes (type_at s k))
  unfolding type_bytes type_at
  type_held k h = pair_held k h

-- a number below 2^16 that two bytes hold is the one that they spell
pub two_read : (s : List ℕ) (k n : ℕ) → n < 65536 → Holds s k (two_bytes n) → two_at s k ≡ n
unfolding two_bytes two_at
two_read s k n small h = omega (arith, byte_read s k _ _ h, byte_read s (k + 1) _ _ (rest_held s k _ _ h))

-- and so are two
module _ (s : List ℕ) (k m n : ℕ) (low : m < 65536) (high : n < 65536) (h : Holds s k (two_bytes m ++ two_bytes n)) where
  pub pair_read : (two_at s k ≡ m) × (two_at s (k + 2) ≡ n)
  unfolding two_bytes
  pair_read = (
    two_read s k m low (holds_left s k (two_bytes m) (two_bytes n) h),
    two_read s (k + 2) n high (holds_right s k (two_bytes m) (two_bytes n) h),
  )

-- and one below 2^32 in four bytes
pub four_read : (s : List ℕ) (k n : ℕ) → n < 65536 * 65536 → Holds s k (four_bytes n) → four_at s k ≡ n
unfolding four_bytes four_at
four_read s k n small h =
    let (low, high) = pair_read s k (n % 65536) (n / 65536) (omega arith) (omega arith) h in
    omega arith

-- and a type of such numbers
pub type_read : (s : List ℕ) (k : ℕ) (a : SlotType) → a.c < 65536 → a.t < 65536 → Holds s k (type_bytes a) → type_at s k ≡ a
unfolding type_bytes type_at
type_read s k a c t h =
    let (count, period) = pair_read s k a.c a.t c t h in
    λ i. record { c = count i; t = period i }
