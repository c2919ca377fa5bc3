-- What specs/Promises.antt says of the numbers holds, and of every sound value. Assumes nothing.
use Prim.Native.Nat.{ℕ, ◌≤◌, ◌<◌}
use mathlib.Core.Bool.{true}
use mathlib.Core.Logic.{◌⊎◌, inl, inr}
use mathlib.Core.Path.{◌≡◌}
use native.Mathlib.Decide.{dec_lt}
use native.Mathlib.Numerals.{add-one}
use native.Mathlib.Omega.{arith}
use lib.ListN.{length, get_or}
use borrow.Author.Tests.{le-leb, eq-eqb}
use Rattle.meaning.specs.Types.{well_formed}
use Rattle.meaning.specs.Soft.{within_range}
use Rattle.meaning.specs.declared.SlotType.{SlotType}
use Rattle.meaning.specs.declared.Misses.{Misses}
use Rattle.meaning.proofs.WellFormed.{bounds, within_bounds}
use Rattle.plans.specs.Plan.{zero_type, zero_node, supply_at, node_at, Tidy}
use Rattle.plans.specs.Sound.{Sound, Allowed, supply, host}
use Rattle.plans.specs.declared.Parent.{Parent}
use Rattle.plans.specs.declared.Node.{Node}
use Rattle.plans.specs.declared.Plan.{Plan}
use Rattle.plans.proofs.All.{all_true}
use Rattle.plans.proofs.Entries.{supply_at_element, node_at_element}
use Rattle.decode.proofs.Entries.{filled_is}
use Rattle.dispatch.specs.Run.{Standing}
use Rattle.numbers.specs.Numbers.{
  plan_numbers,
  plan_in,
  plan_of_numbers,
  supply_in,
  node_in,
  is_supply_at,
  is_node_at,
  is_plan,
  state_numbers,
  state_in,
  state_of_numbers,
  count_in,
  is_count_at,
  is_state,
}
use Rattle.numbers.specs.Promises.{Nameable, Short, Held, HeldState, PlanLaidOut, EveryStateLaidOut}
use Rattle.numbers.proofs.Laid.{plan_length}
use Rattle.numbers.proofs.Back.{type_back, type_fit, node_back, node_fit, edition_read, p_read, q_read, cores_read, size_read, supply_held, node_held}

module _ (plan : Plan) (held : Held plan) where
  supply_back : (i : ℕ) → i < 8 → supply_in (plan_numbers plan) i ≡ get_or plan.supplies i zero_type
  unfolding supply_in
  supply_back i l = type_back _ _ _ (supply_held plan i l)

  entry_back : (i : ℕ) → i < 64 → node_in (plan_numbers plan) i ≡ get_or plan.nodes i zero_node
  unfolding node_in
  entry_back i l = node_back _ _ _ (node_held plan i l) (held.parents i l)

  supply_within : (i : ℕ) → i < 8 → is_supply_at (plan_numbers plan) i ≡ true
  unfolding is_supply_at
  supply_within i l = type_fit _ _ _ (supply_held plan i l) (held.supplies i l)

  node_within : (i : ℕ) → i < 64 → is_node_at (plan_numbers plan) i ≡ true
  unfolding is_node_at
  node_within i l = node_fit _ _ _ (node_held plan i l) (held.parents i l) (held.wanted i l) (held.misses i l) (held.served i l)

  plan_fit : is_plan (plan_numbers plan) ≡ true
  unfolding is_plan
  plan_fit =
      rw (
        eq-eqb (length (plan_numbers plan)) 533 (plan_length plan),
        edition_read plan,
        le-leb plan.edition 255 (omega (arith, held.edition)),
        all_true (is_supply_at (plan_numbers plan)) 8 supply_within,
        all_true (is_node_at (plan_numbers plan)) 64 node_within,
      )

  plan_back : plan_of_numbers (plan_numbers plan) ≡ plan
  unfolding plan_of_numbers plan_in
  plan_back =
      rw (
        plan_fit,
        edition_read plan,
        p_read plan,
        q_read plan,
        cores_read plan,
        size_read plan,
        filled_is (supply_in (plan_numbers plan)) 8 zero_type 8 plan.supplies held.supplies_whole (λ i l m. supply_back i l) (λ i l m. absurd (omega arith)),
        filled_is (node_in (plan_numbers plan)) 64 zero_node 64 plan.nodes held.nodes_whole (λ i l m. entry_back i l) (λ i l m. absurd (omega arith)),
      )

-- a plan value that is laid out is read back
pub plan_laid_out : PlanLaidOut
plan_laid_out plan held = record { fit = plan_fit plan held; back = plan_back plan held }

-- a state that the code can hold
module _ (state : Standing) (held : HeldState state) where
  count_back : (i : ℕ) → count_in (state_numbers state) i ≡ get_or state.left i 0
  unfolding count_in state_numbers
  count_back i = rw (add-one i)

  count_within : (i : ℕ) → i < 64 → is_count_at (state_numbers state) i ≡ true
  unfolding is_count_at
  count_within i l = rw (count_back i) (le-leb (get_or state.left i 0) 65535 (omega (arith, held.counts i l)))

  state_fit : is_state (state_numbers state) ≡ true
  unfolding is_state state_numbers
  state_fit = rw (eq-eqb (length (state_numbers state)) 65 (omega (arith, held.whole)), all_true (is_count_at (state_numbers state)) 64 count_within)

  state_back : state_of_numbers (state_numbers state) ≡ state
  unfolding state_of_numbers state_in state_numbers
  state_back =
      rw (state_fit, filled_is (count_in (state_numbers state)) 64 0 64 state.left held.whole (λ i l m. count_back i) (λ i l m. absurd (omega arith)))

-- a state that is laid out is read back
pub state_laid_out : EveryStateLaidOut
state_laid_out state held = record { fit = state_fit state held; back = state_back state held }

-- the numbers of a well-formed type are of 16 bits
formed_short : (a : SlotType) → well_formed a ≡ true → Short a.c a.t
formed_short a e = let h = bounds a e in record { first = omega arith; second = omega arith }

-- and so are those of misses in range
range_short : (m : Misses) → within_range m ≡ true → Short m.d m.w
range_short m e = let h = within_bounds m e in record { first = omega arith; second = omega arith }

-- there are editions 1 and 2 alone
edition_small : (n : ℕ) → (n ≡ 1) ⊎ (n ≡ 2) → n < 256
edition_small n (inl e) = omega arith
edition_small n (inr e) = omega arith

-- a parent that is allowed can be named
allowed_nameable : (plan : Plan) (i : ℕ) → plan.cores ≤ 8 → i < 64 → (x : Parent) → Allowed plan i x → Nameable x
allowed_nameable plan i few l x (supply h) = omega arith
allowed_nameable plan i few l x (host h e) = omega arith

-- so a sound value with zeros past its counts can be held
module _ (plan : Plan) (tidy : Tidy plan) (sound : Sound plan) where
  none_used : Short 0 0
  none_used = record { first = omega arith; second = omega arith }

  supply_short_lem : (i : ℕ) → i < 8 → Dec (i < plan.cores) → Short (supply_at plan i).c (supply_at plan i).t
  supply_short_lem i l (yes m) = formed_short (supply_at plan i) (sound.supplies i m)
  supply_short_lem i l (no m) = rw (tidy.supplies_zero i (omega arith) l) none_used

  -- what holds of every node that is there, and of the node of zeros, holds of every node
  each_node : (P : Node → Type 0) → P zero_node → ((i : ℕ) → i < plan.size → P (node_at plan i)) → (i : ℕ) → i < 64 → P (get_or plan.nodes i zero_node)
  each_node P unused there i l = rw (node_at_element plan i l) (go (dec_lt i plan.size))
    where
      go : Dec (i < plan.size) → P (node_at plan i)
      go (yes m) = there i m
      go (no m) = rw (tidy.nodes_zero i (omega arith) l) unused

  pub sound_held : Held plan
  sound_held =
      record {
        edition = edition_small plan.edition sound.edition;
        supplies_whole = tidy.supplies_whole;
        nodes_whole = tidy.nodes_whole;
        supplies = λ i l. rw (supply_at_element plan i l) (supply_short_lem i l (dec_lt i plan.cores));
        wanted = each_node (λ n. Short n.wanted.c n.wanted.t) none_used (λ i m. formed_short (node_at plan i).wanted (sound.wanted i m));
        misses = each_node (λ n. Short n.misses.d n.misses.w) none_used (λ i m. range_short (node_at plan i).misses (sound.misses i m));
        served = each_node (λ n. Short n.served.c n.served.t) none_used (λ i m. formed_short (node_at plan i).served (sound.served i m));
        parents =
            each_node (λ n. Nameable n.parent) (omega arith)
            (λ i m. allowed_nameable plan i sound.eight_cores (omega (arith, sound.sixty_four_nodes)) (node_at plan i).parent (sound.parents i m));
      }
