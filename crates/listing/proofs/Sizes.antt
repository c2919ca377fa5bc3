-- How long the pieces of a text can be, and so how long a text. Assumes nothing.
use Prim.Native.Nat.{ℕ, zero, suc, ◌+◌, ◌*◌, ◌/◌, ◌%◌, ◌≤◌, ◌<◌}
use mathlib.Core.Bool.{Bool, true, false, cond}
use mathlib.Core.List.{List, [], ◌∷◌, ◌++◌}
use mathlib.Core.Path.{◌≡◌, refl}
use lib.Dec.{ltb}
use lib.ListN.{length, get_or, take, replicate, length-append}
use borrow.Author.Tests.{ne_eqb}
use native.Mathlib.Omega.{arith}
use Rattle.std.proofs.Common.{inl, inr}
use Rattle.std.specs.List.{All}
use Rattle.std.proofs.lemmas.Bool.{cases_lt}
use Rattle.std.proofs.lemmas.List.{get_or_past}
use Rattle.std.proofs.lemmas.List.Elements.{All-set, All-append, All-take, All-replicate}
use Rattle.ticks.specs.Times.{begins}
use Rattle.meaning.proofs.WellFormed.{bounds}
use Rattle.owed.proofs.Lowest.{lowest_low}
use Rattle.meaning.specs.declared.Kind.TheVariants.{Aligned}
use Rattle.types.specs.Least.{turns, ones_at, least_ones}
use Rattle.plans.specs.Plan.{parent_of, kind_of, wanted_of, served_of, wanted_as}
use Rattle.plans.specs.Sound.{Sound}
use Rattle.plans.specs.declared.Parent.{Parent}
use Rattle.plans.specs.declared.Parent.TheVariants.{Supply, Node as Under}
use Rattle.plans.specs.declared.Plan.{Plan}
use Rattle.rules.specs.Fit.{sum_to}
use Rattle.rules.proofs.Totals.{sum_grows}
use Rattle.reader.specs.Read.{name_of}
use Rattle.dispatch.proofs.Choices.{choice_below}
use Rattle.dispatch.specs.View.{View, bit_of, view_of}
use Rattle.dispatch.specs.Choice.{Pick, nobody, just, choose}
use Rattle.dispatch.specs.Passed.{passed_over}
use Rattle.dispatch.specs.Slot.{SlotEnd, charge, refilled, follow, walk, granting, serve_core, serve_to, slot_start, slot}
use Rattle.dispatch.specs.Run.{started, course_to, course_by, course}
use Rattle.dispatch.specs.declared.Setting.{Setting}
use Rattle.dispatch.specs.declared.Setting.TheVariants.{Off}
use Rattle.listing.proofs.Digits.{decimal_few}
use Rattle.listing.proofs.SlotLines.{begins_most}
use Rattle.layout.specs.Layout.{lays}
use Rattle.listing.specs.Text.{digits, decimal, above, depth_to, depth_of, least_of, node_line}
use Rattle.listing.specs.Text.{first_eight, answer_text, answer_part, slot_line, accepted_text, refused_text}

-- no number has more digits than it may
digits_most : (k n : ℕ) → length (digits k n) ≤ k
unfolding digits
digits_most zero n = omega arith
digits_most (suc k) n = go (ltb n 10) (digits_most k (n / 10))
  where
    go : (b : Bool) → length (digits k (n / 10)) ≤ k → length (cond b ((48 + n) ∷ []) (digits k (n / 10) ++ ((48 + n % 10) ∷ []))) ≤ suc k
    go true before = omega arith
    go false before = omega (arith, length-append (digits k (n / 10)) ((48 + n % 10) ∷ []))

-- which are twenty in decimal
pub decimal_most : (n : ℕ) → length (decimal n) ≤ 20
unfolding decimal
decimal_most n = digits_most 20 n

-- a depth is at most the steps that are looked at
depth_most : (plan : Plan) (k i : ℕ) → depth_to plan k i ≤ k
unfolding depth_to above
depth_most plan zero i = omega arith
depth_most plan (suc k) i = go (parent_of plan i) (depth_most plan k)
  where
    go : (p : Parent) → ((h : ℕ) → depth_to plan k h ≤ k) → suc (above (depth_to plan k) p) ≤ suc k
    go (Supply s) before = omega arith
    go (Under h) before = omega (arith, before h)

-- an answer is printed in two letters at most
abbrev Brief : ℕ → Type 0
Brief g = length (answer_text g) ≤ 2

leaf_brief : (g : ℕ) → g < 64 → Brief g
unfolding answer_text
leaf_brief g l = rw (ne_eqb g 254 (λ e. omega arith), ne_eqb g 255 (λ e. omega arith)) (decimal_few 2 g (omega arith) (omega arith) (omega arith))

idle_brief : Brief 254
unfolding answer_text
idle_brief = omega arith

unsupplied_brief : Brief 255
unfolding answer_text
unsupplied_brief = omega arith

module _ (v : View) (few : v.size ≤ 64) (passed : ℕ → Bool) where
  -- whatever a walk ends at,
  walk_brief : (levels : ℕ) (x : Parent) (left : List ℕ) → Brief (walk v passed levels x left).grant
  unfolding walk follow
  walk_brief zero x left = idle_brief
  walk_brief (suc levels) x left = go (choose v left passed x) refl (walk_brief levels)
    where
      onward : (i : ℕ) (b : Bool) → i < 64 → ((x : Parent) (left : List ℕ) → Brief (walk v passed levels x left).grant) →
          Brief (cond b (record { grant = i; left = charge left i }) (walk v passed levels (Under i) (charge left i))).grant
      onward i true l before = leaf_brief i l
      onward i false l before = before (Under i) (charge left i)

      go : (w : Pick) → choose v left passed x ≡ w → ((x : Parent) (left : List ℕ) → Brief (walk v passed levels x left).grant) →
          Brief (follow v (walk v passed levels) left w).grant
      go nobody e before = idle_brief
      go (just i) e before = onward i (v.leaf i) (omega (arith, choice_below v left passed x i e)) before

  -- so each answer of a slot,
  serve_brief : (supplied : ℕ) (so : SlotEnd) → All Brief so.grants → (k : ℕ) →
      All Brief (serve_to v supplied passed so k).grants
  unfolding serve_to serve_core granting
  serve_brief supplied so h zero = h
  serve_brief supplied so h (suc k) = go (bit_of supplied k) (serve_brief supplied so h k)
    where
      before : SlotEnd
      before = serve_to v supplied passed so k

      go : (b : Bool) → All Brief before.grants →
          All Brief (cond b (granting before k (walk v passed 8 (Supply k) before.left)) before).grants
      go true h = All-set Brief before.grants k _ (walk_brief 8 (Supply k) before.left) h
      go false h = h

slot_brief : (setting : Setting) (v : View) → v.size ≤ 64 → (cores n supplied declines : ℕ) (left : List ℕ) →
    All Brief (slot setting v cores n supplied declines left).grants
unfolding slot
slot_brief setting v few cores n supplied declines left =
    let full = refilled v n left in
    serve_brief v few (passed_over setting v full declines) supplied (slot_start full) (All-replicate Brief 8 255 unsupplied_brief) cores

-- and of a run
course_brief : (v : View) → v.size ≤ 64 → (cores n : ℕ) (settings : List Setting) (supplies declines left : List ℕ) (i : ℕ) →
    All Brief (course_to v cores n settings supplies declines left i).answers
unfolding course_to
course_brief v few cores n settings supplies declines left zero = λ k d l. absurd (omega arith)
course_brief v few cores n settings supplies declines left (suc i) =
    let so = course_to v cores n settings supplies declines left i in
    let grants = (slot (get_or settings i Off) v cores (n + i) (get_or supplies i 0) (get_or declines i 0) so.left).grants in
    All-append Brief so.answers (take cores grants) (course_brief v few cores n settings supplies declines left i)
    (All-take Brief cores grants (slot_brief (get_or settings i Off) v few cores (n + i) (get_or supplies i 0) (get_or declines i 0) so.left))

-- so each answer that is printed is, and so is what is read past them
pub first_eight_brief : (plan : Plan) → plan.size ≤ 64 → (k : ℕ) → Brief (get_or (first_eight plan) k 255)
unfolding first_eight course course_by
first_eight_brief plan few k =
    let state = (started plan).state in
    let brief = course_brief (view_of plan) few plan.cores state.clock (replicate 8 Off) (replicate 8 255) (replicate 8 0) state.left 8 in
    elim (cases_lt k (length (first_eight plan))) [
      | inl l ↦ brief k 255 l
      | inr h ↦ rw (get_or_past _ k 255 h) unsupplied_brief
    ]

-- what is laid is no longer than its parts together may be
lays_most : (f : ℕ → List ℕ) (most : ℕ → ℕ) (n : ℕ) → ((i : ℕ) → i < n → length (f i) ≤ most i) → length (lays f n) ≤ sum_to most n
unfolding lays sum_to
lays_most f most zero h = omega arith
lays_most f most (suc n) h =
    omega (arith, length-append (lays f n) (f n), lays_most f most n (λ i l. h i (omega arith)), h n (omega arith))

-- A plan that keeps 2 to 7, with names of at most 32 bytes.
module _ (s : List ℕ) (plan : Plan) (kept : Sound plan) (named : (i : ℕ) → i < plan.size → length (name_of s i) ≤ 32) where
  -- what stands behind a node's number
  node_most : ℕ → ℕ
  node_most i = length (decimal i) + 51

  node_most_lem : (i : ℕ) → i < plan.size → length (node_line s plan i) ≤ node_most i
  unfolding node_line node_most depth_of least_of least_ones
  node_most_lem i l =
      let wanted = bounds (wanted_of plan i) (kept.wanted i l) in
      let served = bounds (served_of plan i) (kept.served i l) in
      let ones = ones_at (served_of plan i) (wanted_as (kind_of plan i)) (wanted_of plan i) in
      let least = lowest_low ones (wanted_of plan i).t (turns Aligned (served_of plan i)) in
      let d = decimal_few 1 (depth_to plan 8 i) (omega arith) (omega (arith, depth_most plan 8 i)) (omega (arith, depth_most plan 8 i)) in
      let c = decimal_few 4 (served_of plan i).c (omega arith) (omega arith) (omega arith) in
      let t = decimal_few 4 (served_of plan i).t (omega arith) (omega arith) (omega arith) in
      let m = decimal_few 4 (least_of plan i) (omega arith) (omega arith) (omega arith) in
      simp length-append (omega (arith, named i l))

  -- each answer with the space before it
  part_most : (n i : ℕ) → i < plan.cores → length (answer_part (first_eight plan) plan.cores n i) ≤ 3
  unfolding answer_part
  part_most n i l = omega (arith, first_eight_brief plan kept.sixty_four_nodes (n * plan.cores + i))

  slot_most : (n : ℕ) → n < 8 → length (slot_line plan (first_eight plan) n) ≤ 39
  unfolding slot_line sum_to
  slot_most n l =
      let number = decimal_few 1 n (omega arith) (omega arith) (omega arith) in
      let early = begins_most plan.tick n kept.tick l in
      let start = decimal_few 7 (begins plan.tick n) (omega arith) (omega arith) (omega arith) in
      let few : sum_to (λ i. 3) plan.cores ≤ 24 = sum_grows (λ i. 3) plan.cores 8 kept.eight_cores in
      let parts = lays_most (answer_part (first_eight plan) plan.cores n) (λ i. 3) plan.cores (part_most n) in
      simp length-append (omega arith)

  -- the text of an accepted plan
  pub accepted_most : length (accepted_text s plan) ≤ 3708
  unfolding accepted_text sum_to node_most decimal digits
  accepted_most =
      let size = decimal_few 2 plan.size (omega arith) (omega (arith, kept.sixty_four_nodes)) (omega (arith, kept.sixty_four_nodes)) in
      let nodes = lays_most (node_line s plan) node_most plan.size node_most_lem in
      let most : sum_to node_most plan.size ≤ 3382 = sum_grows node_most plan.size 64 kept.sixty_four_nodes in
      let slots : length (lays (slot_line plan (first_eight plan)) 8) ≤ 312 = lays_most (slot_line plan (first_eight plan)) (λ n. 39) 8 slot_most in
      simp length-append (omega arith)

-- the text of a refused one
pub refused_most : (r k : ℕ) → length (refused_text r k) ≤ 50
unfolding refused_text
refused_most r k = simp length-append (omega (arith, decimal_most r, decimal_most k))
