-- One byte more at the front of a room. Assumes nothing.
use Rattle.std.proofs.Common.{◌≡◌, ap, ℕ, zero, suc, ◌+◌, ◌*◌, ◌<◌, List, [], ◌++◌, length, get_or, drop, refl, sym, ◌∙◌, arith, add-one, length-append, drop-cons}
use Rattle.std.proofs.lemmas.List.{get_or-take, get_or-drop}
use Rattle.std.proofs.Math.ListN.{set}
use Rattle.std.proofs.Math.Seq.{set_at, append_snoc}
use Rattle.std.specs.Simd.{first_chunks}
use Rattle.lines.specs.Digits.{digit_of, byte_of, bytes_of}

length_bytes : (word : List ℕ) (k : ℕ) → length (bytes_of word k) ≡ k
unfolding bytes_of
length_bytes word zero = refl
length_bytes word (suc k) = rw length-append (omega (arith, length_bytes word k))

-- a digit of the i-th pair
pair_at : (word : List ℕ) (k i j : ℕ) → i < k → j < 2 → get_or (get_or (first_chunks 2 k word) i []) j 0 ≡ get_or word (2 * i + j) 0
pair_at word zero i j h short = absurd (omega (arith, h))
pair_at word (suc k) zero j h short =
    let e : j ≡ 2 * 0 + j = omega arith in
    get_or-take 2 word j 0 short ∙ ap (λ n. get_or word n 0) e
pair_at word (suc k) (suc i) j h short =
    let e : 2 + (2 * i + j) ≡ 2 * suc i + j = omega arith in
    pair_at (drop 2 word) k i j (omega (arith, h)) short ∙ get_or-drop 2 word (2 * i + j) 0 ∙ ap (λ n. get_or word n 0) e

pub bytes_none : (word out : List ℕ) → bytes_of word 0 ++ out ≡ out
unfolding bytes_of
bytes_none word out = refl

pub bytes_more : (word out pair : List ℕ) (k i : ℕ) → i < length out → i < k → pair ≡ get_or (first_chunks 2 k word) i [] →
    set (bytes_of word i ++ drop i out) i (digit_of (get_or pair 0 0) * 16 + digit_of (get_or pair 1 0)) ≡ bytes_of word (i + 1) ++ drop (i + 1) out
unfolding bytes_of
bytes_more word out pair k i room inside e =
    let none : 2 * i + 0 ≡ 2 * i = omega arith in
    let high : get_or pair 0 0 ≡ get_or word (2 * i) 0 = ap (λ p. get_or p 0 0) e ∙ pair_at word k i 0 inside (omega arith) ∙ ap (λ n. get_or word n 0) none in
    let low : get_or pair 1 0 ≡ get_or word (2 * i + 1) 0 = ap (λ p. get_or p 1 0) e ∙ pair_at word k i 1 inside (omega arith) in
    rw (high, low, add-one i, drop-cons out i 0 room)
    (set_at (bytes_of word i) (get_or out i 0) (drop (suc i) out) (byte_of word i) i (length_bytes word i)
    ∙ sym (append_snoc (bytes_of word i) (byte_of word i) (drop (suc i) out)))
