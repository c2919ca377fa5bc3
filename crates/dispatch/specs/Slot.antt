-- One slot: refill, then each supplied core's walk from its supply through hosts to a leaf. Document 01, "Giving out slots"; `passed` tells who is passed over,
-- in all of the slot (Passed.antt). Assumes nothing.
use Rattle.std.specs.Prelude.{ℕ, zero, suc, ◌-◌, ◌%◌, Bool, cond, List, eqb, get_or, set, replicate}
use Rattle.plans.specs.declared.Parent.{Parent}
use Rattle.plans.specs.declared.Parent.TheVariants.{Supply, Node as Under}
use Rattle.dispatch.specs.View.{View, bit_of}
use Rattle.dispatch.specs.Choice.{Pick, nobody, just, choose}
use Rattle.dispatch.specs.Passed.{passed_over}
use Rattle.dispatch.specs.declared.Setting.{Setting}

-- 01: "At each slot whose number is a multiple of a node's served T": whether node i is due for its refill at slot n
unfoldable pub due : View → ℕ → ℕ → Bool
due v n i = eqb (n % v.t i) 0

-- 01: "its left becomes its served C before anything is picked": node i at slot n, and the first k nodes
unfoldable pub refill_one : View → ℕ → List ℕ → ℕ → List ℕ
refill_one v n left i = cond (due v n i) (set left i (v.c i)) left

unfoldable pub refill_to : View → ℕ → List ℕ → ℕ → List ℕ
refill_to v n left zero = left
refill_to v n left (suc k) = refill_one v n (refill_to v n left k) k

unfoldable pub refilled : View → ℕ → List ℕ → List ℕ
refilled v n left = refill_to v n left v.size

-- 01: "its left falls by one"
unfoldable pub charge : List ℕ → ℕ → List ℕ
charge left i = set left i (get_or left i 0 - 1)

-- 01: "254 idle, 255 not supplied"
abbrev pub idle : ℕ
idle = 254

abbrev pub unsupplied : ℕ
unsupplied = 255

-- where a walk ends: the leaf or 254, and the counts
pub record WalkEnd : Type 0 where
  pub grant : ℕ
  pub left : List ℕ

-- the code's walk hands back its grant, and changes the counts in place
abbrev pub walk_end : ℕ → List ℕ → WalkEnd
walk_end grant left = record { grant = grant; left = left }

-- 01: "At a leaf the slot is its grant. At a host the same choice is made among its children .. If there is nobody to take, the slot is idle; hosts
-- already passed stay charged": what follows a choice, where `onward` is the walk below a host
unfoldable pub follow : View → (Parent → List ℕ → WalkEnd) → List ℕ → Pick → WalkEnd
follow v onward left nobody = record { grant = idle; left = left }
follow v onward left (just i) =
    cond (v.leaf i) (record { grant = i; left = charge left i }) (onward (Under i) (charge left i))

-- 01: "so the walk goes down at most eight levels": the walk from parent x with so many levels to go
unfoldable pub walk : View → (ℕ → Bool) → ℕ → Parent → List ℕ → WalkEnd
walk v passed zero x left = record { grant = idle; left = left }
walk v passed (suc levels) x left = follow v (walk v passed levels) left (choose v left passed x)

-- where a slot ends: an answer for each of eight cores, and the counts
pub record SlotEnd : Type 0 where
  pub grants : List ℕ
  pub left : List ℕ

-- the code's slot hands back its answers, and changes the counts in place
abbrev pub slot_end : List ℕ → List ℕ → SlotEnd
slot_end grants left = record { grants = grants; left = left }

-- 01: "For a supplied core": the answers and counts so far, with core s served
unfoldable pub granting : SlotEnd → ℕ → WalkEnd → SlotEnd
granting so s w = record { grants = set so.grants s w.grant; left = w.left }

unfoldable pub serve_core : View → ℕ → (ℕ → Bool) → SlotEnd → ℕ → SlotEnd
serve_core v supplied passed so s = cond (bit_of supplied s) (granting so s (walk v passed 8 (Supply s) so.left)) so

unfoldable pub serve_to : View → ℕ → (ℕ → Bool) → SlotEnd → ℕ → SlotEnd
serve_to v supplied passed so zero = so
serve_to v supplied passed so (suc k) = serve_core v supplied passed (serve_to v supplied passed so k) k

-- where a slot begins, with these counts after its refill
abbrev pub slot_start : List ℕ → SlotEnd
slot_start full = record { grants = replicate 8 unsupplied; left = full }

-- slot n, cores in supply order: the answers, 255 where a core is not supplied, and the counts after it
unfoldable pub slot : Setting → View → ℕ → ℕ → ℕ → ℕ → List ℕ → SlotEnd
slot setting v cores n supplied declines left =
    let full = refilled v n left in
    serve_to v supplied (passed_over setting v full declines) (slot_start full) cores
