-- The worst stretch loses at most D exactly where (K − u, K) holds for (W − D, W), aligned. Assumes nothing.
use Prim.Native.Nat.{ℕ, ◌+◌, ◌-◌, ◌*◌, ◌≤◌, ◌<◌}
use mathlib.Core.Bool.{Bool, true, false, cond}
use mathlib.Core.Path.{◌≡◌, refl, sym, ◌∙◌}
use mathlib.Core.Logic.{◌⊎◌, inl, inr}
use native.Mathlib.Omega.{arith}
use lib.Dec.{leb}
use borrow.Author.Tests.{le-leb, lt-leb}
use Rattle.meaning.specs.Types.{◌of◌, well_formed}
use Rattle.meaning.specs.Soft.{within_range}
use Rattle.meaning.specs.declared.SlotType.{SlotType}
use Rattle.meaning.specs.declared.Misses.{Misses}
use Rattle.meaning.specs.declared.Kind.TheVariants.{Aligned}
use Rattle.meaning.proofs.WellFormed.{bounds, within_bounds, bounds_well}
use Rattle.owed.proofs.Lowest.{le_or_lt}
use Rattle.std.proofs.Common.{Result, Ok, Err}
use Rattle.answers.specs.Answers.{Place}
use Rattle.types.specs.Verdict.{Said, holds, short, refused, said, judged}
use Rattle.types.specs.Least.{step, turns, ones_at, least_ones}
use Rattle.types.specs.declared.Verdict.{Verdict}
use Rattle.types.specs.declared.Verdict.TheVariants.{Holds, Short}
use Rattle.types.specs.declared.Refusal.{Refusal}
use Rattle.types.specs.declared.Refusal.TheVariants.{Giver, Wanted}
use Rattle.types.proofs.Windows.{owed_from}
use Rattle.soft.specs.Formula.{windows_in, lost, loses, worst, loses_few}
use Rattle.soft.proofs.Loses.{loses_and_owed, most_and_least}
use Rattle.soft.proofs.Lost.{counts}

-- one number is at most D where what is left of W is at least W − D
either_way : (l m W D : ℕ) → l + m ≡ W → D ≤ W → leb (W - D) m ≡ leb l D
either_way l m W D sum within = go (le_or_lt l D)
  where
    go : (l ≤ D) ⊎ (D < l) → leb (W - D) m ≡ leb l D
    go (inl h) = le-leb (W - D) m (omega arith) ∙ sym (le-leb l D h)
    go (inr h) = lt-leb (W - D) m (omega arith) ∙ sym (lt-leb l D h)

module _ (K u D W : ℕ) (kept : well_formed ((K - u) of K) ≡ true) (some : 1 ≤ K) (few : u ≤ K) where
  -- the least windows that (K − u, K) owes a stretch of W
  abbrev least : ℕ
  least = least_ones Aligned ((K - u) of K) Aligned ((W - D) of W)

  -- with what the worst stretch loses they are its W windows
  worst_and_least : worst K u W + least ≡ W
  unfolding worst least_ones turns ones_at step
  worst_and_least =
      most_and_least (loses K u W) (ones_at ((K - u) of K) Aligned ((W - D) of W)) W
      (λ j. rw (owed_from ((K - u) of K) ((W - D) of W) (j * W) kept) (loses_and_owed K u W j some few))
      K

  worst_judged : well_formed ((W - D) of W) ≡ true → D ≤ W
      → judged Aligned ((K - u) of K) Aligned ((W - D) of W) ≡ cond (leb (worst K u W) D) (holds least) (short least)
  unfolding judged
  worst_judged asked within = rw (kept, asked, either_way (worst K u W) least W D worst_and_least within)

-- a verdict that holds says yes to the test that it was given by, and any other no
held : (t : Bool) (l m : ℕ) → holds m ≡ cond t (holds l) (short l) → true ≡ t
held true l m e = refl
held false l m e = cc

fell_short : (t : Bool) (l m : ℕ) → short m ≡ cond t (holds l) (short l) → false ≡ t
fell_short true l m e = cc
fell_short false l m e = refl

refusal : (t : Bool) (l r : ℕ) (p : Place) → refused r p ≡ cond t (holds l) (short l) → false ≡ t
refusal true l r p e = cc
refusal false l r p e = cc

module _ (served wanted : SlotType) (misses : Misses) (g : well_formed served ≡ true) (w : well_formed wanted ≡ true) (range : within_range misses ≡ true)
    (K u : ℕ) (all : K ≡ windows_in served wanted) (some : u ≡ lost served wanted) where
  -- no more windows are lost than there are
  pub lost_fits : u ≤ K
  lost_fits = omega (arith, counts served wanted (bounds served g) (bounds wanted w))

  -- the question about windows is one about well-formed types, and its answer is the formula's
  asked
      : (x : Said) → x ≡ judged Aligned ((K - u) of K) Aligned ((misses.w - misses.d) of misses.w)
      → (l : ℕ) × (x ≡ cond (loses_few served wanted misses) (holds l) (short l))
  unfolding loses_few
  asked x e =
      let few = counts served wanted (bounds served g) (bounds wanted w) in
      let range = within_bounds misses range in
      let kept : well_formed ((K - u) of K) ≡ true =
      bounds_well _ record { some = omega (arith, few); most = omega (arith, few); fits = omega arith } in
      let wants : well_formed ((misses.w - misses.d) of misses.w) ≡ true =
      bounds_well _ record { some = range.some; most = omega (arith, range); fits = omega arith } in (
        least_ones Aligned ((K - u) of K) Aligned ((misses.w - misses.d) of misses.w),
        rw (← all, ← some)
            (e ∙ worst_judged K u misses.d misses.w kept (omega (arith, few)) lost_fits wants range.fits),
      )

  module _ (x : Result Verdict Refusal) (told : said x ≡ judged Aligned ((K - u) of K) Aligned ((misses.w - misses.d) of misses.w)) where
    -- so where the answer is that it holds, few are lost
    pub holds_few : (v : Verdict) (m : ℕ) → x ≡ Ok v → v ≡ Holds m → true ≡ loses_few served wanted misses
    holds_few v m e h = let (l, a) = asked (holds m) (rw (e, h) at told) in held _ l m a

    -- where it falls short, many are
    pub short_many : (v : Verdict) (m : ℕ) → x ≡ Ok v → v ≡ Short m → false ≡ loses_few served wanted misses
    short_many v m e h = let (l, a) = asked (short m) (rw (e, h) at told) in fell_short _ l m a

    -- and a refusal there is none
    pub never_refused : (r : Refusal) → x ≡ Err r → false ≡ loses_few served wanted misses
    never_refused r e = let (l, a) = asked _ (rw e at told) in go r l a
      where
        go : (r : Refusal) (l : ℕ) → said (Err r) ≡ cond (loses_few served wanted misses) (holds l) (short l) → false ≡ loses_few served wanted misses
        go Giver l a = refusal _ l _ _ a
        go Wanted l a = refusal _ l _ _ a
