-- What is promised of a listing. Why each holds is in proofs/. Assumes nothing.
use Rattle.std.specs.Prelude.{ℕ, ◌+◌, ◌*◌, ◌-◌, ◌^◌, ◌≤◌, ◌<◌, List, [], ◌∷◌, ◌≡◌, length, get_or, take, Result}
use Rattle.meaning.specs.declared.Kind.TheVariants.{Aligned}
use Rattle.types.specs.Promises.{LeastOf}
use Rattle.plans.specs.Plan.{There, kind_of, wanted_of, served_of, wanted_as}
use Rattle.plans.specs.Sound.{Sound, Depth}
use Rattle.plans.specs.declared.Plan.{Plan}
use Rattle.layout.specs.Promises.{Bytes}
use Rattle.listing.specs.Text.{decimal, depth_of, least_of, text, said}
use Rattle.listing.specs.declared.Short.{Short}

-- 3,708 bytes always suffice
abbrev pub Suffices : Type 0
Suffices = (s : List ℕ) → Bytes s → length (text s) ≤ 3708

-- the number that decimal digits spell behind those that spell `so`
unfoldable pub spelled : ℕ → List ℕ → ℕ
spelled so [] = so
spelled so (digit ∷ s) = spelled (10 * so + (digit - 48)) s

-- every number of 64 bits is printed in the bytes `0` to `9` that spell it, and no number but 0 begins with `0`
pub record Printed (n : ℕ) : Type 0 where
  pub spells : spelled 0 (decimal n) ≡ n
  pub digits : (i : ℕ) → i < length (decimal n) → (48 ≤ get_or (decimal n) i 0) × (get_or (decimal n) i 0 ≤ 57)
  pub front : 1 ≤ n → 49 ≤ get_or (decimal n) 0 0

abbrev pub NumbersPrinted : Type 0
NumbersPrinted = (n : ℕ) → n < 2 ^ 64 → Printed n

-- the depth that is printed is the node's depth
abbrev pub DepthPrinted : Type 0
DepthPrinted = (plan : Plan) → Sound plan → (i : ℕ) → There plan i → Depth plan i (depth_of plan i)

-- 01: "least ones in a wanted window": the number that is printed is the least that an allocation honouring the served type, aligned, can have in a window of
-- the wanted type
abbrev pub LeastPrinted : Type 0
LeastPrinted =
    (plan : Plan) → Sound plan → (i : ℕ) → There plan i →
    LeastOf Aligned (served_of plan i) (wanted_as (kind_of plan i)) (wanted_of plan i) (least_of plan i)

-- two answers that say the same are the same
abbrev pub OneListing : Type 0
OneListing = (a b : Result ℕ Short) → said a ≡ said b → a ≡ b

-- A longer file is listed as its first part is: what stands beyond byte 3,061 changes nothing.
abbrev pub LongerListed : Type 0
LongerListed = (s : List ℕ) (n : ℕ) → 3061 ≤ n → text (take n s) ≡ text s
