-- What document 01, "Slot times", promises of the definitions in Times. Why each holds is in proofs/Kept.antt. Assumes nothing.
use Rattle.std.specs.Prelude.{ℕ, ◌+◌, ◌*◌, ◌^◌, ◌≤◌, ◌<◌, true, false, ◌↔◌, ◌⊎◌, ◌≡◌, Result}
use Rattle.ticks.specs.Times.{is_fit, begins, Latest, latest, Said, number, refused, said, timed, per_minute, SlotSays}
use Rattle.ticks.specs.declared.Tick.{Tick}
use Rattle.ticks.specs.declared.Refusal.{Refusal}

-- 01, refusals 16 and 15: "tick .. not fit" is given "before 15", which is given where "a slot, a time or an answer lies beyond 2^40", and otherwise
-- the answer v to what is asked about x is given
pub record Given (tick : Tick) (x v : ℕ) : Type 0 where
  pub unfit : is_fit tick ≡ false → timed tick x v ≡ refused 16
  pub beyond : is_fit tick ≡ true → (2 ^ 40 < x) ⊎ (2 ^ 40 < v) → timed tick x v ≡ refused 15
  pub within : is_fit tick ≡ true → x ≤ 2 ^ 40 → v ≤ 2 ^ 40 → timed tick x v ≡ number v

abbrev pub GivenExactly : Type 0
GivenExactly = (tick : Tick) (x v : ℕ) → Given tick x v

-- 01: "the greatest n that begins at or before t: floor(((t + 1)·Q − 1)/P)"
abbrev pub ClosedForm : Type 0
ClosedForm = (tick : Tick) (t : ℕ) → is_fit tick ≡ true → Latest tick t (latest tick t)

-- at most one number is the slot of a time
abbrev pub OneSlot : Type 0
OneSlot = (tick : Tick) (t n m : ℕ) → Latest tick t n → Latest tick t m → n ≡ m

-- a time lies in its slot: at or after the slot's start, and before the next one's
abbrev pub InItsSlot : Type 0
InItsSlot = (tick : Tick) (t n : ℕ) → Latest tick t n → (begins tick n ≤ t) × (t < begins tick (n + 1))

-- 01: "its minute is that divided by 60,000,000, rounded down": a start lies in its minute, at or after the minute's first microsecond, and before the next
-- one's
abbrev pub InItsMinute : Type 0
InItsMinute = (v m : ℕ) → per_minute (number v) ≡ number m → (m * 60_000_000 ≤ v) × (v < (m + 1) * 60_000_000)

-- where slots are no shorter than a microsecond, the slot of a slot's start is that slot
abbrev pub ThereAndBack : Type 0
ThereAndBack = (tick : Tick) (n : ℕ) → is_fit tick ≡ true → tick.q ≤ tick.p → Latest tick (begins tick n) n

-- starts never fall
abbrev pub NeverFalls : Type 0
NeverFalls = (tick : Tick) (n m : ℕ) → is_fit tick ≡ true → n ≤ m → begins tick n ≤ begins tick m

-- two answers that say the same are the same, so the equations that `start` and `minute` are held to allow one answer
abbrev pub SaidOnce : Type 0
SaidOnce = (a b : Result ℕ Refusal) → said a ≡ said b → a ≡ b

-- what is said of the slot of a time, by the sentence, is what the closed form says
abbrev pub ClosedFormSaid : Type 0
ClosedFormSaid = (tick : Tick) (t : ℕ) (a : Said) → SlotSays tick t a ↔ (a ≡ timed tick t (latest tick t))

-- so that what `slot` is held to allows one answer too
abbrev pub OneAnswer : Type 0
OneAnswer = (tick : Tick) (t : ℕ) (a b : Result ℕ Refusal) → SlotSays tick t (said a) → SlotSays tick t (said b) → a ≡ b
