-- The entries of the plan value that bytes spell: each is what the bytes have, and the unused ones are zeros. Assumes nothing.
use Prim.Native.Nat.{ℕ, zero, suc, ◌≤◌, ◌<◌, min}
use mathlib.Core.List.{List}
use mathlib.Core.Logic.{◌⊎◌, inl, inr}
use mathlib.Core.Path.{◌≡◌, refl, sym, ◌∙◌}
use native.Mathlib.Decide.{dec_lt}
use native.Mathlib.Nat.{eq-or-lt_of_le}
use native.Mathlib.Omega.{arith}
use lib.ListN.{length, get_or, set, replicate, length-set, length-replicate, get_or-replicate}
use lib.Seq.{ext_get_or, get_or-set_same, get_or-set_other}
use Rattle.plans.specs.Plan.{zero_type, zero_node, supply_at, node_at, Tidy}
use Rattle.plans.proofs.Entries.{supply_at_element, node_at_element}
use Rattle.decode.specs.Positions.{cores_of, size_of}
use Rattle.decode.specs.Decode.{supply_of, node_of, filled, plan_of}

module _ {A : Type 0} (f : ℕ → A) (xs : List A) where
  -- filling changes no length
  pub length_filled : (n : ℕ) → length (filled f xs n) ≡ length xs
  unfolding filled
  length_filled zero = refl
  length_filled (suc n) = length-set (filled f xs n) n (f n) ∙ length_filled n

  -- the places that are filled hold what they were filled with
  pub filled_at : (n i : ℕ) (d : A) → i < n → n ≤ length xs → get_or (filled f xs n) i d ≡ f i
  unfolding filled
  filled_at zero i d h l = absurd (omega arith)
  filled_at (suc n) i d h l = go (eq-or-lt_of_le (omega arith)) (λ m. filled_at n i d m (omega arith))
    where
      go : (i ≡ n) ⊎ (i < n) → (i < n → get_or (filled f xs n) i d ≡ f i) → get_or (set (filled f xs n) n (f n)) i d ≡ f i
      go (inl e) before = rw e (get_or-set_same (filled f xs n) n (f n) d (omega (arith, length_filled n)))
      go (inr m) before = get_or-set_other (filled f xs n) n i (f n) d (omega arith) ∙ before m

  -- and those past them what they held
  pub filled_past : (n i : ℕ) (d : A) → n ≤ i → get_or (filled f xs n) i d ≡ get_or xs i d
  unfolding filled
  filled_past zero i d h = refl
  filled_past (suc n) i d h = get_or-set_other (filled f xs n) n i (f n) d (omega arith) ∙ filled_past n i d (omega arith)

-- n places, all alike, and the first few filled
module _ {A : Type 0} (f : ℕ → A) (n : ℕ) (z : A) (k i : ℕ) where
  filled_alike : i < k → i < n → get_or (filled f (replicate n z) (min k n)) i z ≡ f i
  filled_alike h l = filled_at f (replicate n z) (min k n) i z (omega arith) (omega (arith, length-replicate n z))

  alike_past : k ≤ i → i < n → get_or (filled f (replicate n z) (min k n)) i z ≡ z
  alike_past h l = filled_past f (replicate n z) (min k n) i z (omega arith) ∙ get_or-replicate n i z z l

-- n places, the first k of them filled and the rest z, are the list that has just these
pub filled_is : {A : Type 0} (f : ℕ → A) (n : ℕ) (z : A) (k : ℕ) (xs : List A) → length xs ≡ n →
    ((i : ℕ) → i < k → i < n → f i ≡ get_or xs i z) → ((i : ℕ) → k ≤ i → i < n → get_or xs i z ≡ z) →
    filled f (replicate n z) (min k n) ≡ xs
filled_is f n z k xs long at past =
    ext_get_or z (filled f (replicate n z) (min k n)) xs (whole ∙ sym long) (λ i l. go i (omega (arith, whole)) (dec_lt i k))
  where
    whole : length (filled f (replicate n z) (min k n)) ≡ n
    whole = length_filled f (replicate n z) (min k n) ∙ length-replicate n z

    go : (i : ℕ) → i < n → Dec (i < k) → get_or (filled f (replicate n z) (min k n)) i z ≡ get_or xs i z
    go i l (yes m) = filled_alike f n z k i m l ∙ at i m l
    go i l (no m) = alike_past f n z k i (omega arith) l ∙ sym (past i (omega arith) l)

module _ (s : List ℕ) (i : ℕ) where
  -- supply i of the plan value is the one that the bytes have
  pub supply_spelled : i < cores_of s → i < 8 → supply_at (plan_of s) i ≡ supply_of s i
  unfolding plan_of
  supply_spelled h l = sym (supply_at_element (plan_of s) i l) ∙ filled_alike (supply_of s) 8 zero_type (cores_of s) i h l

  -- and past the count it is zero
  pub supply_zero : cores_of s ≤ i → i < 8 → supply_at (plan_of s) i ≡ zero_type
  unfolding plan_of
  supply_zero h l = sym (supply_at_element (plan_of s) i l) ∙ alike_past (supply_of s) 8 zero_type (cores_of s) i h l

  -- node i of the plan value is the one that the bytes have
  pub node_spelled : i < size_of s → i < 64 → node_at (plan_of s) i ≡ node_of s i
  unfolding plan_of
  node_spelled h l = sym (node_at_element (plan_of s) i l) ∙ filled_alike (node_of s) 64 zero_node (size_of s) i h l

  -- and past the count it is zero
  pub node_zero : size_of s ≤ i → i < 64 → node_at (plan_of s) i ≡ zero_node
  unfolding plan_of
  node_zero h l = sym (node_at_element (plan_of s) i l) ∙ alike_past (node_of s) 64 zero_node (size_of s) i h l

-- the value has whole arrays, and zeros past its counts
pub plan_tidy : (s : List ℕ) → Tidy (plan_of s)
unfolding plan_of
plan_tidy s =
    record {
      supplies_whole = length_filled (supply_of s) (replicate 8 zero_type) (min (cores_of s) 8);
      nodes_whole = length_filled (node_of s) (replicate 64 zero_node) (min (size_of s) 64);
      supplies_zero = λ i. supply_zero s i;
      nodes_zero = λ i. node_zero s i;
    }
