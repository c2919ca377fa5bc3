-- Going back to the next sibling, literally: document 02, request 12, "the choice goes to the next sibling instead, and hosts passed in vain are not charged".
-- Nothing here looks ahead: a host is tried, and where nobody under it takes the slot the next child is tried from the counts before. Assumes nothing.
use Rattle.std.specs.Prelude.{ℕ, Bool, true, false, ◌&&◌, ◌||◌, List, ◌≡◌, eqb}
use Rattle.plans.specs.declared.Parent.{Parent}
use Rattle.plans.specs.declared.Parent.TheVariants.{Node as Under}
use Rattle.dispatch.specs.View.{View, bit_of}
use Rattle.dispatch.specs.Choice.{nobody, just, choose}
use Rattle.dispatch.specs.Slot.{WalkEnd, idle, charge}

-- nobody has been tried, and h has been tried too
abbrev pub none : ℕ → Bool
none i = false

abbrev pub also : (ℕ → Bool) → ℕ → ℕ → Bool
also tried h i = eqb i h || tried i

-- whom the choice passes over: leaves that decline, and the hosts tried in vain
unfoldable pub skipped : View → ℕ → (ℕ → Bool) → ℕ → Bool
skipped v declines tried i = (v.leaf i && bit_of declines i) || tried i

-- How a slot of parent x ends, from the counts `left` and with some of its children tried in vain: nobody is left to choose; a leaf is chosen, which takes it; a
-- host is chosen and charged, and somebody under it takes it; or nobody does, and the slot ends as it does with that host tried too, from the counts before.
pub data Ends (v : View) (declines : ℕ) : (ℕ → Bool) → Parent → List ℕ → WalkEnd → Type 0 where
  nobody_left : {tried : ℕ → Bool} {x : Parent} {left : List ℕ} → choose v left (skipped v declines tried) x ≡ nobody →
      Ends v declines tried x left (record { grant = idle; left = left })
  leaf_takes : {tried : ℕ → Bool} {x : Parent} {left : List ℕ} {i : ℕ} → choose v left (skipped v declines tried) x ≡ just i → v.leaf i ≡ true →
      Ends v declines tried x left (record { grant = i; left = charge left i })
  host_takes : {tried : ℕ → Bool} {x : Parent} {left : List ℕ} {h : ℕ} {w : WalkEnd} → choose v left (skipped v declines tried) x ≡ just h → v.leaf h ≡ false →
      Ends v declines none (Under h) (charge left h) w → (w.grant ≡ idle → ⊥) → Ends v declines tried x left w
  in_vain : {tried : ℕ → Bool} {x : Parent} {left : List ℕ} {h : ℕ} {w z : WalkEnd} → choose v left (skipped v declines tried) x ≡ just h → v.leaf h ≡ false →
      Ends v declines none (Under h) (charge left h) w → w.grant ≡ idle → Ends v declines (also tried h) x left z → Ends v declines tried x left z
