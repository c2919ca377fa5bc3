-- Who is passed over in a slot, told by the counts after its refill: document 01, "Giving out slots", and document 02, request 12. Assumes nothing.
use Rattle.std.specs.Prelude.{ℕ, zero, suc, Bool, true, false, cond, ◌&&◌, List}
use Rattle.plans.specs.declared.Parent.TheVariants.{Node as Under}
use Rattle.dispatch.specs.View.{View, bit_of}
use Rattle.dispatch.specs.Choice.{Pick, nobody, just, choose}
use Rattle.dispatch.specs.declared.Setting.{Setting}
use Rattle.dispatch.specs.declared.Setting.TheVariants.{Off, On}

unfoldable pub is_nobody : Pick → Bool
is_nobody nobody = true
is_nobody (just i) = false

-- Looking no level down, those passed over are document 01's "leaves that decline". Looking one level more, they are those, and the hosts under which nobody is
-- chosen by what is seen at one level less.
unfoldable pub passed_to : View → List ℕ → ℕ → ℕ → ℕ → Bool
passed_to v left declines zero i = v.leaf i && bit_of declines i
passed_to v left declines (suc k) i = cond (v.leaf i) (bit_of declines i) (is_nobody (choose v left (passed_to v left declines k) (Under i)))

-- how many levels are looked down: with the switch off none, and with it on all eight that a plan has
abbrev pub levels_down : Setting → ℕ
levels_down Off = 0
levels_down On = 8

-- 02, request 12: "Under a switch, the choice goes to the next sibling instead, and hosts passed in vain are not charged": whether node i is passed over
unfoldable pub passed_over : Setting → View → List ℕ → ℕ → ℕ → Bool
passed_over setting v left declines = passed_to v left declines (levels_down setting)
