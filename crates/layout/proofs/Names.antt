-- The names that bytes spell: how they are held, there and back, and when two of them are the same. Assumes nothing.
use Prim.Native.Nat.{ℕ, suc, ◌+◌, ◌<◌}
use mathlib.Core.Bool.{true}
use mathlib.Core.List.{List, []}
use mathlib.Core.Path.{◌≡◌, sym, ap, ◌∙◌}
use native.Mathlib.Omega.{arith}
use lib.ListN.{length, get_or, take, drop, replicate, length-take, length-drop, length-replicate}
use lib.Seq.{ext_get_or, get_or-take, get_or-drop}
use borrow.Author.Tests.{eqb-true, eq-eqb}
use Rattle.plans.proofs.All.{all_true, all_true_at}
use Rattle.fields.specs.Fields.{byte_at}
use Rattle.decode.specs.Positions.{size_of, name_start}
use Rattle.decode.specs.Decode.{filled}
use Rattle.decode.proofs.Entries.{length_filled, filled_at}
use Rattle.names.specs.Names.{agrees_at, same_name}
use Rattle.reader.proofs.Accepts.{NameKept}
use Rattle.layout.specs.Layout.{name_bytes}
use Rattle.layout.proofs.Holds.{Holds, holds_part}
use Rattle.layout.proofs.Numbers.{byte_read, rest_held, cons_held}

-- name i as the bytes have it, and all the names
unfoldable pub name_in : List ℕ → ℕ → List ℕ
name_in s i = take (byte_at s (name_start s i)) (drop (name_start s i + 1) s)

unfoldable pub names_of : List ℕ → List (List ℕ)
names_of s = filled (name_in s) (replicate (size_of s) []) (size_of s)

module _ (s : List ℕ) where
  -- there are as many as there are nodes
  pub names_count : length (names_of s) ≡ size_of s
  unfolding names_of
  names_count = length_filled (name_in s) (replicate (size_of s) []) (size_of s) ∙ length-replicate (size_of s) []

  -- and each is the one at its place
  pub names_at_lem : (i : ℕ) → i < size_of s → get_or (names_of s) i [] ≡ name_in s i
  unfolding names_of
  names_at_lem i h = filled_at (name_in s) (replicate (size_of s) []) (size_of s) i [] h (omega (arith, length-replicate {A = List ℕ} (size_of s) []))

module _ (s : List ℕ) (i : ℕ) (h : NameKept s i) where
  -- a name's length is what its length byte says
  pub name_length : length (name_in s i) ≡ byte_at s (name_start s i)
  unfolding name_in
  name_length = simp (length-take, length-drop) (omega (arith, h.whole))

  -- and its bytes are those after it
  pub name_letter : (j : ℕ) → j < length (name_in s i) → get_or (name_in s i) j 0 ≡ byte_at s (name_start s i + 1 + j)
  unfolding name_in byte_at
  name_letter j l = get_or-take (byte_at s (name_start s i)) _ j 0 (omega (arith, name_length)) ∙ get_or-drop (name_start s i + 1) s j 0

  -- so it is held from its start on
  pub name_held : Holds s (name_start s i) (name_bytes (name_in s i))
  unfolding name_bytes
  name_held =
      cons_held s (name_start s i) _ _ (omega (arith, h.whole)) (sym name_length)
      (record { within = omega (arith, name_length, h.whole); bytes = λ j l. sym (name_letter j l) })

module _ (s : List ℕ) (k : ℕ) (x : List ℕ) (h : Holds s k (name_bytes x)) where
  -- a name that is held has its length for length byte
  pub length_read : byte_at s k ≡ length x
  unfolding name_bytes
  length_read = byte_read s k _ _ h

  -- and is the part of the bytes after that
  pub name_read : take (byte_at s k) (drop (k + 1) s) ≡ x
  unfolding name_bytes
  name_read = rw length_read (holds_part s (k + 1) x (rest_held s k _ _ h))

-- two names that are held are found the same exactly when they are
module _ (s : List ℕ) (a b : ℕ) (x y : List ℕ) (h : Holds s a (name_bytes x)) (l : Holds s b (name_bytes y)) where
  pub same_equal : same_name s a b ≡ true → x ≡ y
  unfolding same_name agrees_at name_bytes
  same_equal e =
      let agree : (j : ℕ) → j < suc (byte_at s a) → byte_at s (a + j) ≡ byte_at s (b + j) =
      λ j m. eqb-true _ _ (all_true_at (agrees_at s a b) (suc (byte_at s a)) e j m) in
      let long = length_read s a x h in
      let alike : length x ≡ length y = sym (h.bytes 0 (omega arith)) ∙ agree 0 (omega arith) ∙ l.bytes 0 (omega arith) in
      let all_alike : name_bytes x ≡ name_bytes y =
      ext_get_or 0 (name_bytes x) (name_bytes y) (omega arith)
      (λ j m. sym (h.bytes j m) ∙ agree j (omega arith) ∙ l.bytes j (omega arith)) in
      ap (drop 1) all_alike

  pub equal_same : x ≡ y → same_name s a b ≡ true
  unfolding same_name agrees_at name_bytes
  equal_same e =
      let here : length x ≡ byte_at s a = sym (length_read s a x h) in
      let long : length x ≡ length y = ap length e in
      all_true (agrees_at s a b) (suc (byte_at s a))
      (λ j m. eq-eqb _ _ (h.bytes j (omega arith) ∙ ap (λ z. get_or (name_bytes z) j 0) e ∙ sym (l.bytes j (omega arith))))
