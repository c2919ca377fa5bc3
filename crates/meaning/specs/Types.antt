-- What a type is and what it means: document 01, "Types and what they mean". Assumes nothing.
use Rattle.std.specs.Prelude.{ℕ, ◌*◌, ◌≤◌, Bool, ◌&&◌, ◌≡◌, leb}
use Rattle.meaning.specs.Allocation.{Allocation, ones}
use Rattle.meaning.specs.declared.SlotType.{SlotType}
use Rattle.meaning.specs.declared.Kind.{Kind}
use Rattle.meaning.specs.declared.Kind.TheVariants.{Aligned, Sliding}

infix 60 ◌of◌
-- 01: "A type is (C, T): C slots in T"
abbrev pub ◌of◌ : ℕ → ℕ → SlotType
C of T = record { c = C; t = T }

-- t is from 1 to `most`, and c at most t
abbrev pub ranged : ℕ → ℕ → ℕ → Bool
ranged c t most = leb 1 t && (leb t most && leb c t)

-- 01: "1 ≤ T ≤ 4,096, 0 ≤ C ≤ T"
unfoldable pub well_formed : SlotType → Bool
well_formed a = ranged a.c a.t 4096

-- 01: a window of a kind with period T starts "at a multiple of T" where it is aligned, and anywhere where it is sliding
abbrev pub Starts : Kind → ℕ → ℕ → Type 0
Starts Aligned T s = (b : ℕ) × (s ≡ b * T)
Starts Sliding T s = Unit {0}

-- 01: "every window of T slots [that starts at a multiple of T] holds at least C ones"
abbrev pub Honours : Kind → SlotType → Allocation → Type 0
Honours k a α = (s : ℕ) → Starts k a.t s → a.c ≤ ones α s a.t

-- 01: "A giving type stands in for a wanted type when every allocation that honours the giver honours the wanted"
abbrev pub StandsIn : Kind → SlotType → Kind → SlotType → Type 0
StandsIn k giver k' wanted = (α : Allocation) → Honours k giver α → Honours k' wanted α
