-- Numbers stored one after the other: a run of stores in two parts, and one that takes up the whole list. Assumes nothing.
use Rattle.std.proofs.Common.{append_assoc}
use Prim.Native.Nat.{ℕ, suc, ◌+◌, ◌≤◌}
use borrow.Rule.Slice.PartMut.{put_mid}
use mathlib.Core.List.{List, [], ◌∷◌, ◌++◌, append-nil}
use mathlib.Core.Path.{◌≡◌, sym, ap, ◌∙◌}
use native.Mathlib.Nat.{add-zero}
use native.Mathlib.Omega.{arith}
use lib.ListN.{length, set, take, drop, drop_of_length-le}
use lib.Seq.{sets, sets-eq, drop-drop}

module _ {A : Type 0} where
  -- a run of stores in two parts
  pub sets_append : (l : List A) (k : ℕ) (x y : List A) → sets l k (x ++ y) ≡ sets (sets l k x) (k + length x) y
  sets_append l k [] y = rw (add-zero k)
  sets_append l k (a ∷ x) y = let on : suc k + length x ≡ k + suc (length x) = omega arith in sets_append (set l k a) (suc k) x y ∙ rw on

  -- a run of stores that takes up the whole list leaves just what was stored
  pub sets_all : (l vs : List A) → length vs ≡ length l → sets l 0 vs ≡ vs
  sets_all l vs e =
      sets-eq vs l 0 (omega arith)
      ∙ ap (λ r. vs ++ r) (drop_of_length-le l {i = 0 + length vs} (omega arith))
      ∙ append-nil vs

-- numbers stored over a part of the list
pub put_stored : (k n : ℕ) (l vs ws : List ℕ) → n ≡ length ws → k + length ws ≤ length l → vs ≡ ws → put_mid k n l vs ≡ sets l k ws
put_stored k n l vs ws long room e = rw (e, long, drop-drop (length ws) k l) (sym (sets-eq ws l k room ∙ append_assoc (take k l) ws (drop (k + length ws) l)))
