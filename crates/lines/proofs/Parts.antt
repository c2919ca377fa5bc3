-- A text that is not empty is its first line, and the lines behind it. Assumes nothing.
use Rattle.std.proofs.Common.{◌≡◌, ℕ, ◌+◌, ◌<◌, Bool, true, false, leb, List, [], ◌∷◌, length, take, drop, refl, arith, add-one, add_comm}
use Rattle.lines.specs.Parts.{before, behind, lines_of}

take_one : (c n : ℕ) (s : List ℕ) → take (1 + n) (c ∷ s) ≡ c ∷ take n s
take_one c n s = rw (add_comm 1 n, add-one n) refl

drop_one : (c n : ℕ) (s : List ℕ) → drop (1 + n + 1) (c ∷ s) ≡ drop (n + 1) s
drop_one c n s = rw (add-one (1 + n), add_comm 1 n) refl

lines_cons : (c : ℕ) (s : List ℕ) (b : Bool) → leb c 10 ≡ b → lines_of (c ∷ s) ≡ before 10 (c ∷ s) ∷ lines_of (behind 10 (c ∷ s))
unfolding lines_of
lines_cons c s true e = rw e refl
lines_cons c [] false e = rw e refl
lines_cons c (d ∷ s) false e =
    let after = lines_cons d s (leb d 10) refl in
    rw (e, after, take_one, drop_one) refl

pub lines_none : (s : List ℕ) → length s ≡ 0 → lines_of s ≡ []
unfolding lines_of
lines_none [] h = refl
lines_none (c ∷ s) h = absurd (omega arith)

pub lines_more : (s : List ℕ) → 0 < length s → lines_of s ≡ before 10 s ∷ lines_of (behind 10 s)
lines_more [] h = absurd (omega arith)
lines_more (c ∷ s) h = lines_cons c s (leb c 10) refl
