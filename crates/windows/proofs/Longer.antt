-- A wanted window of m served periods, T' = m·T: no window can be missed, or each can. Assumes nothing.
use Prim.Native.Nat.{ℕ, ◌+◌, ◌*◌, ◌≤◌, ◌<◌}
use mathlib.Core.Bool.{true, false}
use mathlib.Core.Path.{◌≡◌, refl, ap₂}
use native.Mathlib.Nat.{mul_assoc, add-le-add, le_refl, le_trans, zero-mul, zero-add}
use native.Mathlib.Omega.{arith}
use Rattle.meaning.specs.Allocation.{Allocation, ones}
use Rattle.meaning.specs.Types.{◌of◌, Honours}
use Rattle.meaning.specs.Soft.{met}
use Rattle.meaning.specs.declared.Kind.TheVariants.{Aligned}
use Rattle.meaning.specs.declared.SlotType.{SlotType}
use Rattle.owed.proofs.Ones.{ones_all}
use Rattle.owed.proofs.Parts.{Additive}
use Rattle.owed.proofs.Every.{honours_every}
use Rattle.windows.proofs.Missed.{ones_and_zeros}
use Rattle.windows.proofs.Hard.{has_met, met_has}
use Rattle.windows.proofs.Blocks.{in_blocks, filled, filled_block}
use Rattle.windows.proofs.Losing.{Losing}

-- the allocation with no slot, and the one with every slot
abbrev never : Allocation
never n = false

abbrev always : Allocation
always n = true

module _ (served wanted : SlotType) (m : ℕ) (fits : served.c ≤ served.t) (periods : wanted.t ≡ m * served.t) where
  -- what holds of C and the ones of each served period holds of m·C and those of each window
  in_window : (R : ℕ → ℕ → Type 0) → Additive R → (α : Allocation) → ((b : ℕ) → R (ones α (b * served.t) served.t) served.c)
      → (v : ℕ) → R (ones α (v * wanted.t) wanted.t) (m * served.c)
  in_window R additive α each v =
      let none : ones never (v * m) m ≡ 0 = omega (arith, all, ones_and_zeros never (v * m) m) in
      rw (periods, ← mul_assoc v m served.t)
      (rw (none, all, zero-mul served.t, zero-add (m * served.c)) at (in_blocks R additive served.t served.c α never each (v * m) m))
    where
      all : ones always (v * m) m ≡ m
      all = ones_all always (λ n. refl) (v * m) m

  -- 02: "If T divides T', either no window can miss or all can": none where m·C is at least C'
  pub longer_loses_none : wanted.c ≤ m * served.c → Losing served wanted 1 0
  longer_loses_none enough = record {
    bound = λ α honours s starts. rw (ones_all (met Aligned wanted α) (every α honours) s 1) (le_refl 1);
    reach = λ β chosen. record {
      given = always;
      honours = λ s starts. rw (ones_all always (λ n. refl) s served.t) fits;
      only = λ v e. honours_every Aligned (1 of 1) (le_refl 1) refl β chosen v;
    };
  }
    where
      every : (α : Allocation) → Honours Aligned served α → (v : ℕ) → met Aligned wanted α v ≡ true
      every α honours v =
          has_met Aligned wanted α v
          (le_trans enough
          (in_window (λ a b. b ≤ a) (record { none = le_refl 0; sum = add-le-add }) α (λ b. honours (b * served.t) (b, refl)) v))

  -- and all where it is less
  pub longer_loses_all : m * served.c < wanted.c → Losing served wanted 1 1
  longer_loses_all short = record {
    bound = λ α honours s starts. omega arith;
    reach = λ β chosen. record {
      given = few;
      honours = honours;
      only = λ v e. absurd (omega (arith, met_has Aligned wanted few v e, window v));
    };
  }
    where
      few : Allocation
      few = filled served.t served.c never

      honours : Honours Aligned served few
      honours s (b, e) = rw e (omega (arith, filled_block served.t served.c fits never b))

      window : (v : ℕ) → ones few (v * wanted.t) wanted.t ≡ m * served.c
      window = in_window ◌≡◌ (record { none = refl; sum = λ p q. ap₂ ◌+◌ p q }) few (filled_block served.t served.c fits never)
