-- Refusals 2 to 7 and 19 on a plan value, and its edition: document 01, "The plan file" and "Refusal numbers", and document 02, request 6. `Sound` says them
-- as sentences; `sound` is the test that the code is held to, and Promises says that the two agree. Assumes nothing.
use Rattle.std.specs.Prelude.{ℕ, zero, suc, ◌≤◌, ◌<◌, Bool, true, false, not, ◌&&◌, ◌||◌, ◌⊎◌, ◌≡◌, leb, ltb, eqb}
use Rattle.ticks.specs.Times.{is_fit}
use Rattle.meaning.specs.Types.{well_formed}
use Rattle.meaning.specs.Soft.{within_range}
use Rattle.meaning.specs.declared.Misses.{Misses}
use Rattle.plans.specs.Plan.{There, supply_at, parent_of, kind_of, wanted_of, misses_of, served_of, hosting, is_host, no_misses}
use Rattle.plans.specs.declared.NodeKind.{NodeKind}
use Rattle.plans.specs.declared.Parent.{Parent}
use Rattle.plans.specs.declared.Parent.TheVariants.{Supply, Node as Under}
use Rattle.plans.specs.declared.Plan.{Plan}

-- 01: "A parent byte below 128 names a supply, and 128 and up names node (byte − 128), which must be earlier and a virtual host"
pub data Allowed (plan : Plan) (i : ℕ) : Parent → Type 0 where
  supply : {s : ℕ} → s < plan.cores → Allowed plan i (Supply s)
  host : {h : ℕ} → h < i → is_host plan h ≡ true → Allowed plan i (Under h)

-- 01: "A node under a supply has depth 1": and one under a host is one deeper than the host
pub data Depth (plan : Plan) : ℕ → ℕ → Type 0 where
  top : {i s : ℕ} → parent_of plan i ≡ Supply s → Depth plan i 1
  under : {i h d : ℕ} → parent_of plan i ≡ Under h → Depth plan h d → Depth plan i (suc d)

-- a value that keeps 2 to 7 and 19, of an edition that there is. 02: "19 for bad D, W or a host with D above 0"; "An edition 1 node has D 0 and W 1, else 19"
pub record Sound (plan : Plan) : Type 0 where
  pub edition : (plan.edition ≡ 1) ⊎ (plan.edition ≡ 2)
  pub some_core : 1 ≤ plan.cores
  pub eight_cores : plan.cores ≤ 8
  pub some_node : 1 ≤ plan.size
  pub sixty_four_nodes : plan.size ≤ 64
  pub tick : is_fit plan.tick ≡ true
  pub supplies : (s : ℕ) → s < plan.cores → well_formed (supply_at plan s) ≡ true
  pub wanted : (i : ℕ) → There plan i → well_formed (wanted_of plan i) ≡ true
  pub misses : (i : ℕ) → There plan i → within_range (misses_of plan i) ≡ true
  pub hosts_hard : (i : ℕ) → There plan i → is_host plan i ≡ true → (misses_of plan i).d ≡ 0
  pub first_edition : plan.edition ≡ 1 → (i : ℕ) → There plan i → misses_of plan i ≡ no_misses
  pub served : (i : ℕ) → There plan i → well_formed (served_of plan i) ≡ true
  pub parents : (i : ℕ) → There plan i → Allowed plan i (parent_of plan i)
  pub depths : (i d : ℕ) → There plan i → Depth plan i d → d ≤ 8

-- whether a test holds of every number below n
unfoldable pub all : (ℕ → Bool) → ℕ → Bool
all f zero = true
all f (suc n) = all f n && f n

unfoldable pub allows : Plan → ℕ → Parent → Bool
allows plan i (Supply s) = ltb s plan.cores
allows plan i (Under h) = ltb h i && is_host plan h

unfoldable pub parent_allowed : Plan → ℕ → Bool
parent_allowed plan i = allows plan i (parent_of plan i)

-- whether a parent is a supply, or else a host of which the test holds
unfoldable pub up_to : (ℕ → Bool) → Parent → Bool
up_to f (Supply s) = true
up_to f (Under h) = f h

-- whether node i's depth is at most k: there is a supply within k steps up
unfoldable pub within : Plan → ℕ → ℕ → Bool
within plan zero i = false
within plan (suc k) i = up_to (within plan k) (parent_of plan i)

-- whether a node of this kind can have these misses
unfoldable pub borne : NodeKind → Misses → Bool
borne kind m = within_range m && (not (hosting kind) || eqb m.d 0)

-- and whether a node of this edition can
unfoldable pub plain : ℕ → Misses → Bool
plain edition m = not (eqb edition 1) || (eqb m.d 0 && eqb m.w 1)

unfoldable pub sound_misses : Plan → ℕ → Bool
sound_misses plan i = borne (kind_of plan i) (misses_of plan i) && plain plan.edition (misses_of plan i)

unfoldable pub sound_node : Plan → ℕ → Bool
sound_node plan i =
    parent_allowed plan i &&
    (within plan 8 i && (well_formed (wanted_of plan i) && (sound_misses plan i && well_formed (served_of plan i))))

unfoldable pub sound_supply : Plan → ℕ → Bool
sound_supply plan s = well_formed (supply_at plan s)

-- 01, refusal 2: "a count is out of its range", which is 1 to `most`
unfoldable pub counts : ℕ → ℕ → Bool
counts n most = leb 1 n && leb n most

-- 02: a plan file is of edition 1 or of edition 2
unfoldable pub is_edition : ℕ → Bool
is_edition n = eqb n 1 || eqb n 2

-- whether a value keeps 2 to 7 and 19
unfoldable pub sound : Plan → Bool
sound plan =
    is_edition plan.edition &&
    (counts plan.cores 8 &&
    (counts plan.size 64 &&
    (is_fit plan.tick && (all (sound_supply plan) plan.cores && all (sound_node plan) plan.size))))
