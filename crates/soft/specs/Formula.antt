-- Whether a served type lets a soft leaf miss too many windows: document 02, request 6, sentence by sentence. (C, T) is the served type and (C', T') the
-- wanted one; K is the number of wanted windows in a served period, and the stretch of number b has the windows from b·W up to b·W + W. Assumes nothing.
use Rattle.std.specs.Prelude.{ℕ, zero, suc, ◌+◌, ◌-◌, ◌*◌, ◌/◌, ◌%◌, min, max, Bool, cond, ◌&&◌, ◌||◌, eqb, leb, ltb}
use Rattle.meaning.specs.Types.{well_formed}
use Rattle.meaning.specs.Soft.{within_range}
unfoldable pub use Rattle.meaning.specs.Sums.{sum_to, most_to}
use Rattle.meaning.specs.declared.SlotType.{SlotType}
use Rattle.meaning.specs.declared.Misses.{Misses}

-- a divides b. A period of no slots divides nothing.
unfoldable pub divides : ℕ → ℕ → Bool
divides a b = ltb 0 a && eqb (b % a) 0

-- 02: "one of its served T and T' must divide the other"
unfoldable pub divided : SlotType → SlotType → Bool
divided served wanted = divides wanted.t served.t || divides served.t wanted.t

-- the greatest number up to n of which a test holds, or 0 where there is none
unfoldable pub greatest : (ℕ → Bool) → ℕ → ℕ
greatest f zero = 0
greatest f (suc n) = cond (f (suc n)) (suc n) (greatest f n)

-- a served period of K windows can lose u of them: with C' − 1 slots in each lost one and all T' in each other, it has its C
unfoldable pub can_lose : SlotType → SlotType → ℕ → ℕ → Bool
can_lose served wanted K u = leb served.c (u * (wanted.c - 1) + (K - u) * wanted.t)

-- 02: "If T = K·T', a served period can lose u windows, u being the greatest with u ≤ K and u·(C' − 1) + (K − u)·T' ≥ C (none if C' = 0)"
unfoldable pub lost_of_many : SlotType → SlotType → ℕ
lost_of_many served wanted =
    let windows = served.t / wanted.t in
    cond (ltb 0 wanted.c) (greatest (can_lose served wanted windows) windows) 0

-- 02: "If T divides T', either no window can miss or all can": they can where the served periods of a window owe it less than C'
unfoldable pub lost_of_one : SlotType → SlotType → ℕ
lost_of_one served wanted = cond (ltb (wanted.t / served.t * served.c) wanted.c) 1 0

-- K: where T divides T', each window counts as one period, of T'/T served ones
unfoldable pub windows_in : SlotType → SlotType → ℕ
windows_in served wanted = cond (divides wanted.t served.t) (served.t / wanted.t) 1

-- u, in either case; where T = T' both say the same
unfoldable pub lost : SlotType → SlotType → ℕ
lost served wanted = cond (divides wanted.t served.t) (lost_of_many served wanted) (lost_of_one served wanted)

-- how many windows of stretch b lie in served period p, whose windows are those from p·K up to p·K + K: from the later start to the earlier end
unfoldable pub covered : ℕ → ℕ → ℕ → ℕ → ℕ
covered K W b p = min (b * W + W) (p * K + K) - max (b * W) (p * K)

-- 02: "A stretch of W windows loses, in each served period it covers wholly or in part, the smaller of u and the windows covered". It covers none from
-- period (b·W + W)/K + 1 on.
unfoldable pub loses : ℕ → ℕ → ℕ → ℕ → ℕ
loses K u W b = sum_to (λ p. min u (covered K W b p)) ((b * W + W) / K + 1)

-- what the worst stretch loses. Stretch b + K lies over its served periods as stretch b does, so K stretches are enough.
unfoldable pub worst : ℕ → ℕ → ℕ → ℕ
worst K u W = most_to (loses K u W) K

-- 02: "Rule 11 asks that no stretch can lose more than D"
unfoldable pub loses_few : SlotType → SlotType → Misses → Bool
loses_few served wanted misses = leb (worst (windows_in served wanted) (lost served wanted) misses.w) misses.d

-- the formula speaks of well-formed types, misses in their range, and periods of which one divides the other; nothing else is allowed
unfoldable pub allowed : SlotType → SlotType → Misses → Bool
allowed served wanted misses =
    well_formed served && (well_formed wanted && (within_range misses && (divided served wanted && loses_few served wanted misses)))
