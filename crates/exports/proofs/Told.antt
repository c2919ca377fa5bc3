-- What the exported functions answer and leave in the slices that they were lent: one law a return. Assumes nothing.
use Prim.Native.Nat.{ℕ, ◌+◌, ◌≤◌, ◌<◌, min}
use mathlib.Core.Bool.{Bool, true, false, cond, ◌&&◌}
use mathlib.Core.List.{List, [], ◌∷◌}
use mathlib.Core.Path.{◌≡◌, refl, sym, ap, ◌∙◌}
use native.Mathlib.Omega.{arith}
use lib.Dec.{ltb}
use lib.ListN.{length, set, take, drop, replicate}
use Rattle.std.specs.Prelude.{Option, Some, None, Ok, Err}
use borrow.Author.Tests.{eq-eqb, ne_eqb, ltb-true}
use Rattle.ticks.specs.Times.{Said, SlotSays}
use Rattle.ticks.specs.declared.Tick.{Tick}
use Rattle.ticks.proofs.Kept.{closed_form_said}
use Rattle.answers.specs.Answers.{accepts, number_of, spot, place_in as broken_at}
use Rattle.answers.specs.declared.Refusal.{Refusal}
use Rattle.plans.specs.declared.Plan.{Plan}
use Rattle.fields.specs.Fields.{byte_at}
use Rattle.decode.specs.Positions.{size_of, name_start}
use Rattle.names.proofs.Starts.{start_is}
use Rattle.reader.specs.Read.{read_answer, reading_of, read_plan, has_name, name_of}
use Rattle.reader.proofs.Kept.{accepted_fit}
use Rattle.numbers.specs.Numbers.{plan_laid}
use Rattle.numbers.proofs.Down.{plan_down}
use Rattle.numbers.proofs.Laid.{zeros_laid}
use Rattle.exports.specs.Exports.{
  refusal,
  place_of,
  place_in,
  telling,
  slotting,
  answer_of,
  reading,
  span,
  naming,
}
use Rattle.numbers.proofs.Stored.{sets_all}

-- the slot of a time, by the closed form
pub slot_told : (tick : Tick) (t : ℕ) (a : Said) (lent : List ℕ) → SlotSays tick t a → telling a lent ≡ slotting tick t lent
unfolding slotting
slot_told tick t a lent says = ap (λ s. telling s lent) ((closed_form_said tick t a).0 says)

-- one store takes up a list of one number
pub one_stored : (l : List ℕ) (v : ℕ) → length l ≡ 1 → set l 0 v ≡ v ∷ []
one_stored l v e = sets_all l (v ∷ []) (sym e)

-- the place of a refusal of the bytes is told as it is, and one that has none by the most that the half holds
spot_told : (r : ℕ) (p : Option ℕ) → refusal r (place_of (place_in p)) ≡ refusal r (spot p)
unfolding refusal
spot_told r None = refl
spot_told r (Some k) = refl

-- reading into 533 numbers
module _ (bytes lent : List ℕ) (whole : length lent ≡ 533) where
  -- bytes that are refused leave zeros
  pub read_refused : (e : Refusal) → reading_of (Err e) ≡ read_plan bytes → (zeros : List ℕ) → zeros ≡ replicate 533 0 →
      (refusal (number_of e) (place_of (place_in (broken_at e))), zeros) ≡ reading bytes lent
  unfolding reading answer_of
  read_refused e is zeros all = rw (eq-eqb (length lent) 533 whole, ← is, all, ← zeros_laid, spot_told (number_of e) (broken_at e))

  -- the counts of a value that is handed out are small, so that it is laid down
  pub read_laid : (plan : Plan) → reading_of (Ok plan) ≡ read_plan bytes → (b : Bool) (before after : List ℕ) → length before ≡ 533 →
      (b, after) ≡ plan_laid plan before → (0, after) ≡ reading bytes lent
  unfolding reading answer_of
  read_laid plan is b before after same laid =
      let sound = (accepted_fit bytes (ap (λ r. r.answer) (sym is))).sound in
      let value : plan ≡ (read_plan bytes).plan = ap (λ r. r.plan) is in
      let eight : plan.cores ≤ 8 = rw value sound.eight_cores in
      let sixty_four : plan.size ≤ 64 = rw value sound.sixty_four_nodes in
      let down = plan_down plan before same (omega arith) (omega arith) b after laid in
      rw (eq-eqb (length lent) 533 whole, ← is, down)

-- names
module _ (bytes : List ℕ) (i : ℕ) (lent : List ℕ) where
  module _ (two : length lent ≡ 2) (name : List ℕ) (is : name ≡ name_of bytes i) where
    -- there is no such name
    pub name_none : length name ≡ 0 → (first : ℕ) → first ≡ 0 → (out : List ℕ) → out ≡ first ∷ length name ∷ [] → (0, out) ≡ naming bytes i lent
    unfolding naming span
    name_none h first e out laid = rw (eq-eqb (length lent) 2 two, ← is, eq-eqb (length name) 0 h, laid, e, h)

    -- a name that is not empty is that of a node that is there
    there : (length name ≡ 0 → ⊥) → i < size_of bytes
    unfolding name_of has_name
    there h = go (accepts (read_answer bytes)) (ltb i (size_of bytes)) refl (λ e. h (ap length (is ∙ e)))
      where
        go : (a b : Bool) → ltb i (size_of bytes) ≡ b →
            (cond (a && b) (take (byte_at bytes (name_start bytes i)) (drop (name_start bytes i + 1) bytes)) [] ≡ [] → ⊥) → i < size_of bytes
        go true true e l = ltb-true i (size_of bytes) e
        go true false e l = absurd (l refl)
        go false b e l = absurd (l refl)

    -- and begins after its length byte
    pub name_there : (length name ≡ 0 → ⊥) → (k : ℕ) → k ≡ name_start bytes (min i (size_of bytes)) → (first : ℕ) → first ≡ k + 1 →
        (out : List ℕ) → out ≡ first ∷ length name ∷ [] → (0, out) ≡ naming bytes i lent
    unfolding naming span
    name_there h k at first e out laid =
        let start : k ≡ name_start bytes i = start_is bytes i k at (omega (arith, there h)) in
        rw (eq-eqb (length lent) 2 two, ← is, ne_eqb (length name) 0 h, laid, e, start)
