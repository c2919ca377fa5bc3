-- The bytes of a failing window's stretch, as the code writes them. Assumes nothing.
use Rattle.std.proofs.Common.{ℕ, zero, suc, ◌+◌, ◌<◌, ◌≡◌, List, [], ◌∷◌, ◌++◌, append_assoc, length, get_or, drop, drop-cons, length-append, refl, sym, add-one}
use lib.ListN.{set}
use lib.Seq.{set_at}
use Rattle.meaning.specs.Allocation.{Allocation, bit}
use Rattle.types.specs.Decision.{bytes}

module _ (α : Allocation) (from : ℕ) where
  -- there are as many bytes as slots
  pub length_bytes : (n : ℕ) → length (bytes α from n) ≡ n
  unfolding bytes
  length_bytes zero = refl
  length_bytes (suc n) = rw (length-append, length_bytes n) (add-one n)

  -- no slot is written yet
  pub none_written : (out : List ℕ) → out ≡ bytes α from 0 ++ out
  unfolding bytes
  none_written out = refl

  -- one slot more than the first i
  pub more_written
      : (out now : List ℕ) (i b : ℕ) → now ≡ bytes α from i ++ drop i out → i < length out → b ≡ bit (α (from + i))
      → set now i b ≡ bytes α from (i + 1) ++ drop (i + 1) out
  unfolding bytes
  more_written out now i b e h k =
      rw (
        e,
        k,
        add-one i,
        drop-cons out i 0 h,
        set_at (bytes α from i) (get_or out i 0) (drop (suc i) out) (bit (α (from + i))) i (length_bytes i),
      )
      (sym (append_assoc (bytes α from i) (bit (α (from + i)) ∷ []) (drop (suc i) out)))
