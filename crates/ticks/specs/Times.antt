-- Slot times: document 01, "Slot times", and refusals 15 and 16 of its table. Assumes nothing.
use Rattle.std.specs.Prelude.{ℕ, ◌+◌, ◌-◌, ◌*◌, ◌/◌, ◌^◌, ◌≤◌, Bool, true, false, cond, ◌&&◌, ◌≡◌, leb, Result, Ok, Err}
use Rattle.ticks.specs.declared.Tick.{Tick}
use Rattle.ticks.specs.declared.Refusal.{Refusal}
use Rattle.ticks.specs.declared.Refusal.TheVariants.{Beyond, Unfit}

-- 01, "The plan file": "P and Q, .. both 1 to 1,000,000"
unfoldable pub in_range : ℕ → Bool
in_range x = leb 1 x && leb x 1_000_000

unfoldable pub is_fit : Tick → Bool
is_fit tick = in_range tick.p && in_range tick.q

-- 01: "Slot n begins at floor(n·P/Q) microseconds"
unfoldable pub begins : Tick → ℕ → ℕ
begins tick n = n * tick.p / tick.q

-- 01: "The slot of a time t is the greatest n that begins at or before t"
pub record Latest (tick : Tick) (t n : ℕ) : Type 0 where
  pub before : begins tick n ≤ t
  pub greatest : (m : ℕ) → begins tick m ≤ t → m ≤ n

-- 01: "floor(((t + 1)·Q − 1)/P)", which is promised to be that n
abbrev pub latest : Tick → ℕ → ℕ
latest tick t = ((t + 1) * tick.q - 1) / tick.p

-- What an answer says in document 01's own terms: the number asked for, or the number of a refusal. No refusal here has a place.
pub data Said : Type 0 where
  number : ℕ → Said
  refused : ℕ → Said

abbrev pub said : Result ℕ Refusal → Said
said (Ok n) = number n
said (Err Beyond) = refused 15
said (Err Unfit) = refused 16

-- 01, refusal 15: "a slot, a time or an answer lies beyond 2^40"
unfoldable pub limited : ℕ → Said
limited v = cond (leb v (2 ^ 40)) (number v) (refused 15)

-- 01: "Both take 0 to 2^40; a tick out of its range gives 16, before 15". Asked about x, a call whose answer is v says this.
unfoldable pub timed : Tick → ℕ → ℕ → Said
timed tick x v = cond (is_fit tick) (cond (leb x (2 ^ 40)) (limited v) (refused 15)) (refused 16)

-- 01: "its minute is that divided by 60,000,000, rounded down"; where the start is refused, so is the minute
abbrev pub per_minute : Said → Said
per_minute (number v) = number (v / 60_000_000)
per_minute (refused r) = refused r

-- What is said of the slot of a time t: for a fit tick there is a greatest slot that begins at or before t, and it is that; else it is refused by 16
pub record SlotSays (tick : Tick) (t : ℕ) (a : Said) : Type 0 where
  pub found : is_fit tick ≡ true → (n : ℕ) × (Latest tick t n × (a ≡ timed tick t n))
  pub unfit : is_fit tick ≡ false → a ≡ refused 16
