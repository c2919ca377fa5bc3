-- A state that numbers say, a fresh one, and one after any slots are states as the code can hold them. Assumes nothing.
use Prim.Native.Nat.{ℕ, zero, suc, ◌+◌, ◌≤◌, ◌<◌}
use mathlib.Core.Bool.{Bool, true, false, cond}
use mathlib.Core.List.{List}
use mathlib.Core.Path.{◌≡◌, refl, ◌∙◌}
use native.Mathlib.Decide.{dec_lt}
use native.Mathlib.Omega.{arith}
use lib.Dec.{eqb}
use lib.ListN.{length, get_or, replicate}
use borrow.Author.Tests.{leb-true}
use Rattle.meaning.proofs.WellFormed.{bounds}
use Rattle.plans.proofs.All.{right_true, all_true_at}
use Rattle.plans.specs.Plan.{served_of}
use Rattle.plans.specs.Sound.{Sound}
use Rattle.plans.specs.declared.Plan.{Plan}
use Rattle.decode.proofs.Entries.{length_filled, filled_at}
use Rattle.dispatch.specs.View.{view_of, served_c}
use Rattle.dispatch.specs.Run.{zero_state, fresh_left, course_to}
use Rattle.dispatch.specs.declared.Setting.{Setting}
use Rattle.dispatch.specs.declared.Setting.TheVariants.{Off}
use Rattle.dispatch.proofs.SlotsLengths.{length_slot}
use Rattle.dispatch.proofs.SlotsFresh.{replicate_everywhere, length_fresh, fresh_count, fresh_past}
use Rattle.dispatch.proofs.Ready.{each_course}
use Rattle.numbers.specs.Numbers.{count_in, is_count_at, is_state, state_in, state_of_numbers}
use Rattle.numbers.specs.Promises.{HeldState}

-- the counts of a state's numbers are within their field
said_small : (xs : List ℕ) → is_state xs ≡ true → (i : ℕ) → i < 64 → count_in xs i ≤ 65535
unfolding is_state is_count_at
said_small xs e i l = leb-true _ _ (all_true_at (is_count_at xs) 64 (right_true (eqb (length xs) 65) _ e) i l)

-- the state that numbers say can be held
pub said_held : (xs : List ℕ) → HeldState (state_of_numbers xs)
unfolding state_of_numbers state_in
said_held xs = go (is_state xs) refl
  where
    go : (b : Bool) → is_state xs ≡ b → HeldState (cond b (state_in xs) zero_state)
    go true e =
        record {
          whole = length_filled (count_in xs) (replicate 64 0) 64;
          counts = λ i l. rw (filled_at (count_in xs) (replicate 64 0) 64 i 0 l (omega arith)) (omega (arith, said_small xs e i l));
        }
    go false e = record { whole = refl; counts = λ i l. rw (replicate_everywhere {A = ℕ} 64 i 0) (omega arith) }

module _ (plan : Plan) (sound : Sound plan) where
  -- the served C of a node that is there is of 16 bits
  served_small : (i : ℕ) → i < plan.size → served_c plan i < 65536
  unfolding served_c
  served_small i l = let h = bounds (served_of plan i) (sound.served i l) in omega arith

  -- a fresh state can be held
  pub fresh_held : (clock : ℕ) → HeldState (record { clock = clock; left = fresh_left (view_of plan) })
  fresh_held clock = record { whole = length_fresh (view_of plan); counts = λ i l. go i l (dec_lt i plan.size) }
    where
      go : (i : ℕ) → i < 64 → Dec (i < plan.size) → get_or (fresh_left (view_of plan)) i 0 < 65536
      go i l (yes m) = rw (fresh_count (view_of plan) i l m) (served_small i m)
      go i l (no past) = rw (fresh_past (view_of plan) i (omega arith)) (omega arith)

  -- and so can one after any slots, where it could before them
  module _ (left : List ℕ) (cores n : ℕ) (settings : List Setting) (supplies declines : List ℕ) where
    length_course : (k : ℕ) → length (course_to (view_of plan) cores n settings supplies declines left k).left ≡ length left
    unfolding course_to
    length_course zero = refl
    length_course (suc k) =
        length_slot (get_or settings k Off) (view_of plan) cores (n + k) (get_or supplies k 0) (get_or declines k 0)
        (course_to (view_of plan) cores n settings supplies declines left k).left
        ∙ length_course k

    pub course_held : (before after : ℕ) → HeldState (record { clock = before; left = left }) → (k : ℕ) →
        HeldState (record { clock = after; left = (course_to (view_of plan) cores n settings supplies declines left k).left })
    course_held before after held k =
        record {
          whole = length_course k ∙ held.whole;
          counts = λ i.
              each_course (view_of plan) (λ i x. i < 64 → x < 65536) (λ i l m. served_small i l) (λ i x l h m. omega (arith, h m)) cores n settings
              supplies declines left held.counts k i;
        }
