-- A no has its witness, in every buffer: the laws of each answer and its bytes, put together; and with a sliding giver it starts at 0. Assumes nothing.
use Prim.Native.Nat.{ℕ, zero, suc, ◌+◌, ◌-◌, ◌≤◌, ◌<◌}
use mathlib.Core.Bool.{Bool, true, cond}
use mathlib.Core.List.{List, [], ◌∷◌, ◌++◌}
use mathlib.Core.Logic.{◌⊎◌, inl, inr}
use mathlib.Core.Path.{◌≡◌, refl, sym, ap, ◌∙◌}
use lib.ListN.{length, get_or, drop, get_or-append, length-append, length-drop}
use lib.Seq.{get_or_at, get_or-append-add, get_or-drop}
use native.Mathlib.Nat.{eq-or-lt_of_le, le_of_suc-le-suc, add-zero, zero-mul}
use native.Mathlib.Decide.{dec_lt}
use native.Mathlib.Omega.{arith}
use borrow.Author.Tests.{le-leb, lt-leb}
use Rattle.meaning.specs.Allocation.{Allocation, bit}
use Rattle.meaning.specs.Types.{well_formed, Starts}
use Rattle.meaning.specs.Written.{written, stretch_from, stretch_to}
use Rattle.meaning.specs.declared.SlotType.{SlotType}
use Rattle.meaning.specs.declared.Kind.{Kind}
use Rattle.meaning.specs.declared.Kind.TheVariants.{Aligned, Sliding}
use Rattle.meaning.proofs.WellFormed.{bounds}
use Rattle.owed.proofs.Lowest.{le_or_lt}
use Rattle.owed.proofs.Ones.{ones_later}
use Rattle.answers.specs.Answers.{none}
use Rattle.types.specs.Least.{ones_from, least_ones, first_short}
use Rattle.types.specs.Verdict as verdict
use Rattle.types.specs.Verdict.{judged}
use Rattle.types.specs.Decision.{fails, refused, stretch, failing, decided, bytes, out_after}
use Rattle.types.specs.Promises.{FirstFailing, Shown, NoRoom, NoHasWitness, SlidingFromZero}
use Rattle.types.proofs.Bytes.{length_bytes}
use Rattle.types.proofs.KeptLeast.{first_failing}
use Rattle.types.proofs.Kept.{holds_stands_in, failing_kept}

-- the bytes of n slots at the front of a buffer
module _ (α : Allocation) (from : ℕ) where
  -- byte i is that of slot from + i
  bytes_at : (n i : ℕ) → i < n → get_or (bytes α from n) i 0 ≡ bit (α (from + i))
  unfolding bytes
  bytes_at zero i l = absurd (omega arith)
  bytes_at (suc n) i l = go (bytes_at n i) (eq-or-lt_of_le (le_of_suc-le-suc l))
    where
      go : (i < n → get_or (bytes α from n) i 0 ≡ bit (α (from + i))) → (i ≡ n) ⊎ (i < n)
          → get_or (bytes α from n ++ (bit (α (from + n)) ∷ [])) i 0 ≡ bit (α (from + i))
      go before (inl e) = rw e (get_or_at (bytes α from n) (bit (α (from + n))) [] 0 n (length_bytes α from n))
      go before (inr h) = get_or-append (bytes α from n) _ 0 i (rw (length_bytes α from n) h) ∙ before h

  module _ (n : ℕ) (out : List ℕ) where
    front_at : (i : ℕ) → i < n → get_or (bytes α from n ++ drop n out) i 0 ≡ bit (α (from + i))
    front_at i l = get_or-append (bytes α from n) (drop n out) 0 i (rw (length_bytes α from n) l) ∙ bytes_at n i l

    -- and beyond them the buffer is as it was
    beyond_at : (i : ℕ) → n ≤ i → get_or (bytes α from n ++ drop n out) i 0 ≡ get_or out i 0
    beyond_at i h =
        let front : List ℕ = bytes α from n in
        ap (λ (k : ℕ). get_or (front ++ drop n out) k 0) (omega (arith, length_bytes α from n))
        ∙ get_or-append-add front (drop n out) (i - n) 0
        ∙ get_or-drop n out (i - n) 0
        ∙ ap (λ (k : ℕ). get_or out k 0) (omega arith)

-- two well-formed types of which the first owes a wanted window too few
module _ (gives : Kind) (giver : SlotType) (wants : Kind) (wanted : SlotType) (g : well_formed giver ≡ true) (w : well_formed wanted ≡ true)
    (fewer : least_ones gives giver wants wanted < wanted.c) where
  -- its first failing window, the ends of its stretch and their distance
  abbrev s : ℕ
  s = first_short gives giver wants wanted

  abbrev from : ℕ
  from = stretch_from giver.t s

  abbrev to : ℕ
  to = stretch_to giver.t s wanted.t

  -- they fall short
  falls : judged gives giver wants wanted ≡ verdict.short (least_ones gives giver wants wanted)
  unfolding judged
  falls = rw (g, w, lt-leb _ _ fewer)

  module _ (out : List ℕ) where
    -- where there is room the window is shown
    module _ (h : to - from ≤ length out) where
      shows : decided gives giver wants wanted (length out) ≡ fails s (ones_from giver wanted s) (to - from)
      unfolding decided failing stretch
      shows =
          rw falls
          (ap (λ (t : Bool). cond t (fails s (ones_from giver wanted s) (to - from)) (refused 17 none)) (le-leb (to - from) (length out) h))

      laid : out_after gives giver wants wanted out ≡ bytes (written giver.c giver.t s wanted.t) from (to - from) ++ drop (to - from) out
      unfolding out_after
      laid = rw shows

      short_shown : Shown gives giver wants wanted s (ones_from giver wanted s) (to - from) out
      short_shown = record {
        answer = shows;
        long = rw (laid, length-append, length_bytes, length-drop) (omega arith);
        front = λ i l. rw laid (front_at (written giver.c giver.t s wanted.t) from (to - from) out i l);
        beyond = λ i l. rw laid (beyond_at (written giver.c giver.t s wanted.t) from (to - from) out i l);
      }

    -- and where there is none it is refused
    module _ (h : length out < to - from) where
      refuses : decided gives giver wants wanted (length out) ≡ refused 17 none
      unfolding decided failing stretch
      refuses =
          rw falls
          (ap (λ (t : Bool). cond t (fails s (ones_from giver wanted s) (to - from)) (refused 17 none)) (lt-leb (to - from) (length out) h))

      short_refused : NoRoom gives giver wants wanted out
      unfolding out_after
      short_refused = record { answer = refuses; kept = rw refuses }

-- a no always has its witness
pub no_has_witness : NoHasWitness
no_has_witness gives giver wants wanted g w not_so = (
  first_short gives giver wants wanted,
  ones_from giver wanted (first_short gives giver wants wanted),
  _,
  record {
    first = first_failing gives wants wanted (bounds giver g) fewer;
    stretch = refl;
    shown = short_shown gives giver wants wanted g w fewer;
    no_room = short_refused gives giver wants wanted g w fewer;
  },
)
  where
    go : (wanted.c ≤ least_ones gives giver wants wanted) ⊎ (least_ones gives giver wants wanted < wanted.c) → least_ones gives giver wants wanted < wanted.c
    go (inl h) = absurd (not_so (holds_stands_in gives giver wants wanted g w (le-leb _ _ h)))
    go (inr l) = l

    fewer : least_ones gives giver wants wanted < wanted.c
    fewer = go (le_or_lt wanted.c (least_ones gives giver wants wanted))

-- slot 0 is the start of a wanted window of either kind
starts_at_zero : (k : Kind) (T : ℕ) → Starts k T 0
starts_at_zero Aligned T = (0, sym (zero-mul T))
starts_at_zero Sliding T = tt

-- an allocation that honours a sliding giver does so seen from any slot on, so what fails at a later start fails at 0
pub sliding_first_zero
    : (giver : SlotType) (wants : Kind) (wanted : SlotType) (s o : ℕ) → FirstFailing Sliding giver wants wanted s o → s ≡ 0
sliding_first_zero giver wants wanted s o f = go (dec_lt 0 s)
  where
    α : Allocation
    α = written giver.c giver.t s wanted.t

    go : Dec (0 < s) → s ≡ 0
    go (no h) = omega arith
    go (yes h) =
        let enough = rw (ones_later α s 0 wanted.t, add-zero s) at
        (f.first 0 h (starts_at_zero wants wanted.t) (λ m. α (s + m)) (λ z _. rw (ones_later α s z giver.t) (f.honours (s + z) tt))) in
        absurd (omega (arith, enough, f.just, f.falls_short))

-- a failing decision with a sliding giver has start 0
pub sliding_from_zero : SlidingFromZero
sliding_from_zero giver wants wanted room s o n e = sliding_first_zero giver wants wanted s o (failing_kept Sliding giver wants wanted room s o n e)
