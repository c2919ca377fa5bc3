-- Laws of the counts at a fresh start, by elements. Assumes nothing.
use Prim.Native.Nat.{ℕ, zero, suc, ◌≤◌, ◌<◌}
use mathlib.Core.Path.{◌≡◌, refl, ◌∙◌}
use lib.ListN.{length, get_or, set, replicate, length-set, length-replicate, get_or-replicate, get_or-eq_default}
use lib.Seq.{get_or-set_same, get_or-set_other}
use native.Mathlib.Decide.{ℕ_discrete, dec_lt}
use native.Mathlib.Omega.{arith}
use Rattle.dispatch.specs.View.{View}
use Rattle.dispatch.specs.Run.{fresh_to, fresh_left}

-- a list of one thing over and over reads so everywhere, if that is what it reads past its end
pub replicate_everywhere : {A : Type 0} (n i : ℕ) (a : A) → get_or (replicate n a) i a ≡ a
replicate_everywhere n i a = go (dec_lt i n)
  where
    go : Dec (i < n) → get_or (replicate n a) i a ≡ a
    go (yes l) = get_or-replicate n i a a l
    go (no past) = get_or-eq_default (replicate n a) a {n = i} (omega (arith, length-replicate n a))

-- a fresh start among the first k nodes: as many counts as an array of nodes has,
length_fresh_to : (v : View) (k : ℕ) → length (fresh_to v k) ≡ 64
unfolding fresh_to
length_fresh_to v zero = refl
length_fresh_to v (suc k) = length-set (fresh_to v k) k (v.c k) ∙ length_fresh_to v k

-- zeros past them,
fresh_to_past : (v : View) (i k : ℕ) → k ≤ i → get_or (fresh_to v k) i 0 ≡ 0
unfolding fresh_to
fresh_to_past v i zero l = replicate_everywhere 64 i 0
fresh_to_past v i (suc k) l = get_or-set_other (fresh_to v k) k i (v.c k) 0 (λ e. omega arith) ∙ fresh_to_past v i k (omega arith)

-- and the served C of each
fresh_to_count : (v : View) (i k : ℕ) → i < 64 → i < k → get_or (fresh_to v k) i 0 ≡ v.c i
unfolding fresh_to
fresh_to_count v i zero h l = absurd (omega arith)
fresh_to_count v i (suc k) h l = go (ℕ_discrete i k) (fresh_to_count v i k h)
  where
    go : Dec (i ≡ k) → (i < k → get_or (fresh_to v k) i 0 ≡ v.c i) → get_or (set (fresh_to v k) k (v.c k)) i 0 ≡ v.c i
    go (yes e) before = rw (← e) (get_or-set_same (fresh_to v i) i (v.c i) 0 (omega (arith, length_fresh_to v i)))
    go (no other) before = get_or-set_other (fresh_to v k) k i (v.c k) 0 other ∙ before (omega arith)

module _ (v : View) where
  -- a fresh start has 64 counts:
  pub length_fresh : length (fresh_left v) ≡ 64
  unfolding fresh_left
  length_fresh = length_fresh_to v v.size

  -- each node's served C
  pub fresh_count : (i : ℕ) → i < 64 → i < v.size → get_or (fresh_left v) i 0 ≡ v.c i
  unfolding fresh_left
  fresh_count i h l = fresh_to_count v i v.size h l

  -- and zeros past the last node
  pub fresh_past : (i : ℕ) → v.size ≤ i → get_or (fresh_left v) i 0 ≡ 0
  unfolding fresh_left
  fresh_past i l = fresh_to_past v i v.size l
