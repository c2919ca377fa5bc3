-- How two words of 64 bits tell who is passed over: what the code hands from call to call. Assumes nothing.
use Rattle.std.specs.Prelude.{ℕ, ◌<◌, Bool, not, cond, ◌||◌, List, ◌≡◌}
use Rattle.dispatch.specs.View.{View, view_of, bit_of}
use Rattle.dispatch.specs.Passed.{passed_over}
use Rattle.dispatch.specs.declared.picks.Round.{Round}
use Rattle.dispatch.specs.declared.Setting.{Setting}

-- a leaf is passed over by its bit in the decline word, a host where its bit is not among those of the hosts under which somebody takes the slot
unfoldable pub told : View → ℕ → ℕ → ℕ → Bool
told v declines takers i = cond (v.leaf i) (bit_of declines i) (not (bit_of takers i))

-- who is passed over by the words of a round
abbrev pub passed_by : Round → ℕ → Bool
passed_by r = told (view_of r.plan.plan) r.declines r.takers

-- a test tells rightly for every node that is there
abbrev pub Tells : Setting → View → List ℕ → ℕ → (ℕ → Bool) → Type 0
Tells setting v left declines passed = (i : ℕ) → i < v.size → passed i ≡ passed_over setting v left declines i

-- a word with the bits of another, and more
abbrev pub WithBits : ℕ → (ℕ → Bool) → ℕ → Type 0
WithBits word more r = (h : ℕ) → h < 64 → bit_of r h ≡ (bit_of word h || more h)
