-- How a plan value lies in 533 numbers and a state in 65: include/mettulos.h. Past the end of the numbers everything reads as 0. Assumes nothing.
use Rattle.std.specs.Prelude.{ℕ, ◌≡◌, ◌<◌, ◌+◌, ◌*◌, Bool, true, false, cond, ◌&&◌, List, [], ◌∷◌, ◌++◌, leb, eqb, length, get_or, replicate, Option, Some, None}
use Rattle.meaning.specs.declared.SlotType.{SlotType}
use Rattle.meaning.specs.declared.Misses.{Misses}
use Rattle.plans.specs.Plan.{zero_type, zero_node, zero_plan}
use Rattle.plans.specs.Sound.{all}
use Rattle.plans.specs.declared.Node.{Node}
use Rattle.plans.specs.declared.Plan.{Plan}
use Rattle.decode.specs.Decode.{kind_named, parent_of_byte, filled}
use Rattle.layout.specs.Layout.{kind_byte, parent_byte, lays}
use Rattle.dispatch.specs.Run.{Standing, standing, zero_state}
use Rattle.dispatch.specs.declared.State.{State}

-- the two numbers of a type and of misses
unfoldable pub type_numbers : SlotType → List ℕ
type_numbers a = a.c ∷ a.t ∷ []

unfoldable pub misses_numbers : Misses → List ℕ
misses_numbers m = m.d ∷ m.w ∷ []

-- the eight of a node: its kind and its parent as in a plan file, then wanted C and T, D and W, served C and T
unfoldable pub node_numbers : Node → List ℕ
node_numbers n =
    kind_byte n.kind ∷ parent_byte n.parent ∷ (type_numbers n.wanted ++ (misses_numbers n.misses ++ type_numbers n.served))

-- entry i of an array
unfoldable pub type_part : List SlotType → ℕ → List ℕ
type_part types i = type_numbers (get_or types i zero_type)

unfoldable pub node_part : List Node → ℕ → List ℕ
node_part nodes i = node_numbers (get_or nodes i zero_node)

-- the edition, P, Q and the number of supplies, eight supplies, the number of nodes, and 64 nodes
unfoldable pub plan_numbers : Plan → List ℕ
plan_numbers plan =
    (plan.edition ∷ plan.tick.p ∷ plan.tick.q ∷ plan.cores ∷ []) ++
    (lays (type_part plan.supplies) 8 ++ ((plan.size ∷ []) ++ lays (node_part plan.nodes) 64))

-- where supply i and node i begin
unfoldable pub supply_place : ℕ → ℕ
supply_place i = 4 + 2 * i

unfoldable pub node_place : ℕ → ℕ
node_place i = 21 + 8 * i

-- the type, the misses and the node that begin at k
unfoldable pub type_from : List ℕ → ℕ → SlotType
type_from xs k = record { c = get_or xs k 0; t = get_or xs (k + 1) 0 }

unfoldable pub misses_from : List ℕ → ℕ → Misses
misses_from xs k = record { d = get_or xs k 0; w = get_or xs (k + 1) 0 }

unfoldable pub node_from : List ℕ → ℕ → Node
node_from xs k =
    record {
      kind = kind_named (get_or xs k 0);
      parent = parent_of_byte (get_or xs (k + 1) 0);
      wanted = type_from xs (k + 2);
      misses = misses_from xs (k + 4);
      served = type_from xs (k + 6);
    }

unfoldable pub supply_in : List ℕ → ℕ → SlotType
supply_in xs i = type_from xs (supply_place i)

unfoldable pub node_in : List ℕ → ℕ → Node
node_in xs i = node_from xs (node_place i)

-- the plan value that they say, each number taken as its field's
unfoldable pub plan_in : List ℕ → Plan
plan_in xs =
    record {
      edition = get_or xs 0 0;
      tick = record { p = get_or xs 1 0; q = get_or xs 2 0 };
      cores = get_or xs 3 0;
      supplies = filled (supply_in xs) (replicate 8 zero_type) 8;
      size = get_or xs 20 0;
      nodes = filled (node_in xs) (replicate 64 zero_node) 64;
    }

-- Whether numbers are a plan value's: so many, and each within its field, in unused entries too. A kind is at most 2, a parent and the edition 255,
-- C, T, D and W 65,535. P, Q and the counts are numbers of 32 bits, and may be any. A type is a pair of numbers of 16 bits, and so are misses:
unfoldable pub is_pair : List ℕ → ℕ → Bool
is_pair xs k = leb (get_or xs k 0) 65535 && leb (get_or xs (k + 1) 0) 65535

unfoldable pub is_node : List ℕ → ℕ → Bool
is_node xs k = (leb (get_or xs k 0) 2 && leb (get_or xs (k + 1) 0) 255) && (is_pair xs (k + 2) && (is_pair xs (k + 4) && is_pair xs (k + 6)))

unfoldable pub is_supply_at : List ℕ → ℕ → Bool
is_supply_at xs i = is_pair xs (supply_place i)

unfoldable pub is_node_at : List ℕ → ℕ → Bool
is_node_at xs i = is_node xs (node_place i)

unfoldable pub is_plan : List ℕ → Bool
is_plan xs = eqb (length xs) 533 && (leb (get_or xs 0 0) 255 && (all (is_supply_at xs) 8 && all (is_node_at xs) 64))

-- The code says by an Option whether numbers are within their fields, and what they say.
abbrev pub where_fit : {A : Type 0} → Bool → A → Option A
where_fit fit value = cond fit (Some value) None

-- what is answered of each part: f i of part i where t i holds, and none where it does not
abbrev pub SaysEach : {S T : Type 0} → (S → Option T → Type 0) → List S → (ℕ → Bool) → (ℕ → T) → Type 0
SaysEach answers parts t f = (i : ℕ) (x : _) (r : _) → i < length parts → x ≡ get_or parts i x → answers x r → r ≡ where_fit (t i) (f i)

-- The plan value of any numbers. Those that are no plan value's give zeros, which no call takes for fit.
unfoldable pub plan_of_numbers : List ℕ → Plan
plan_of_numbers xs = cond (is_plan xs) (plan_in xs) zero_plan

-- A plan value laid down in the numbers of `out`: whether it was, and what they are afterwards. There have to be 533, and 32 bits have to hold its counts.
unfoldable pub plan_laid : Plan → List ℕ → Bool × List ℕ
plan_laid plan out =
    cond (eqb (length out) 533 && (leb plan.cores 0xffff_ffff && leb plan.size 0xffff_ffff)) (true, plan_numbers plan) (false, out)

-- the clock, and the slots left of 64 nodes
unfoldable pub state_numbers : Standing → List ℕ
state_numbers state = state.clock ∷ state.left

unfoldable pub count_in : List ℕ → ℕ → ℕ
count_in xs i = get_or xs (i + 1) 0

unfoldable pub state_in : List ℕ → Standing
state_in xs = record { clock = get_or xs 0 0; left = filled (count_in xs) (replicate 64 0) 64 }

-- Whether numbers are a state's: so many, and every count within its field, at most 65,535. The clock may be any number of 64 bits.
unfoldable pub is_count_at : List ℕ → ℕ → Bool
is_count_at xs i = leb (count_in xs i) 65535

unfoldable pub is_state : List ℕ → Bool
is_state xs = eqb (length xs) 65 && all (is_count_at xs) 64

-- The state of any numbers; zeros where they are no state's. A state of zeros may be fit, so it is said with it whether they are.
unfoldable pub state_of_numbers : List ℕ → Standing
state_of_numbers xs = cond (is_state xs) (state_in xs) zero_state

-- of numbers that are none's: that they are not, and zeros
abbrev pub no_state : Bool × Standing
no_state = (false, zero_state)

unfoldable pub state_given : List ℕ → Bool × Standing
state_given xs = (is_state xs, state_of_numbers xs)

-- what the code's answer says of it
abbrev pub given : Option State → Bool × Standing
given (Some state) = (true, standing state)
given None = no_state

-- a state laid down in the numbers of `out`: whether it was, and what they are afterwards
unfoldable pub state_laid : Standing → List ℕ → Bool × List ℕ
state_laid state out = cond (eqb (length out) 65) (true, state_numbers state) (false, out)
