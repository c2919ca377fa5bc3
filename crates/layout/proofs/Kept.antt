-- What specs/Promises.antt says of plan files holds. Assumes nothing.
use Prim.Native.Nat.{ℕ, ◌<◌}
use mathlib.Core.List.{List, []}
use mathlib.Core.Logic.{◌⊎◌, inl, inr}
use mathlib.Core.Path.{◌≡◌, refl, sym, ap, subst, ◌∙◌}
use native.Mathlib.Omega.{arith}
use lib.ListN.{length, get_or, take}
use lib.Seq.{length-take-le}
use borrow.Author.Tests.{lt-ltb}
use Rattle.answers.specs.Answers.{Answer, Accepted, Refused, Place, none, at, nowhere, accepted, refused, said, accepts}
use Rattle.answers.proofs.Laws.{said_accepted, said_refused, refused_at, first_accepted, first_accepted_left, first_first, first_second, first_refused, accepts_true, accepts_accepted}
use Rattle.plans.specs.Sound.{Sound, sound}
use Rattle.plans.specs.declared.Plan.{Plan}
use Rattle.plans.proofs.Kept.{sound_kept, kept_sound}
use Rattle.rules.specs.Fit.{Fit}
use Rattle.rules.specs.Broken.{FirstBrokenAt}
use Rattle.rules.specs.Check.{rules, checked, is_fit}
use Rattle.rules.proofs.Kept.{fits_exactly, rules_exactly, broken_range, broken_place}
use Rattle.rules.proofs.KeptBefore.{stays_fit}
use Rattle.decode.specs.Positions.{size_of, end_at}
use Rattle.decode.specs.Decode.{plan_of}
use Rattle.reader.specs.Read.{check_end, check_bytes, read_answer, read_plan, has_name, name_of}
use Rattle.reader.proofs.Accepts.{check_fields, bytes_checked, fields_kept, bytes_kept}
use Rattle.reader.proofs.Spelled.{spelled_sound, accepted_plan}
use Rattle.reader.proofs.Kept.{accepted_fit}
use Rattle.layout.specs.Promises.{Bytes, ByBytes, ByRules, FileOf, SoundFile, AcceptsExactly, StaysAccepted, RefusesByBytes, LeftOverExactly, RefusesByRules, RefusesAtPlace, OneReading, NamesPlaced}
use Rattle.layout.proofs.Names.{name_in, names_of, names_at_lem}
use Rattle.layout.proofs.Out.{spelled_start, spelled_file}
use Rattle.layout.proofs.Back.{file_begins, part_begins, end_read, plan_read, names_read, begun_kept}
use Rattle.layout.proofs.Refusals.{bytes_refusal, left_over, over_refused}

-- where no check of the bytes refuses, they are the file of the value and the names that they spell, and that value is sound
spelled : (s : List ℕ) → Bytes s → check_bytes s ≡ Accepted → FileOf s (plan_of s) (names_of s) × Sound (plan_of s)
spelled s small e =
    let kept = (bytes_kept s).0 e in
    (spelled_file s kept.fields small kept.ends, sound_kept (plan_of s) (spelled_sound s kept.fields))

module _ (s : List ℕ) (plan : Plan) (names : List (List ℕ)) (file : FileOf s plan names) where
  -- a file spells the names that it was laid out with,
  file_names : names_of s ≡ names
  file_names = names_read s plan names (file_begins s plan names file)

  module _ (sound : Sound plan) where
    -- and its value, where that is sound,
    file_plan : plan_of s ≡ plan
    file_plan = plan_read s plan names (file_begins s plan names file) sound

    -- and then no check of the bytes refuses it
    file_accepted : check_bytes s ≡ Accepted
    file_accepted =
        let begins = file_begins s plan names file in
        (bytes_kept s).1
        (record {
          fields = begun_kept s plan names begins sound;
          ends = omega (arith, end_read s plan names begins, ap length file.laid);
        })

-- a file has one reading
pub one_reading : OneReading
one_reading s a b m n file-a sound-a file-b sound-b = (
  sym (file_plan s a m file-a sound-a) ∙ file_plan s b n file-b sound-b,
  sym (file_names s a m file-a) ∙ file_names s b n file-b,
)

-- a value that fits breaks no rule
fit_rules : (plan : Plan) → Fit plan → rules plan ≡ Accepted
unfolding is_fit checked accepts
fit_rules plan h = accepts_accepted (rules plan) (rw (kept_sound plan h.sound) at ((fits_exactly plan).1 h))

-- the file of a value that fits is accepted
pub fit_accepted : (s : List ℕ) (plan : Plan) (names : List (List ℕ)) → FileOf s plan names → Fit plan → read_answer s ≡ Accepted
unfolding read_answer
fit_accepted s plan names file h =
    first_accepted (check_bytes s) (rules (plan_of s)) (file_accepted s plan names file h.sound)
    (ap rules (file_plan s plan names file h.sound) ∙ fit_rules plan h)

-- an accepted read is of the file of what it hands out
pub accepted_file : (s : List ℕ) → Bytes s → (read_plan s).answer ≡ Accepted → FileOf s (read_plan s).plan (names_of s)
unfolding read_plan read_answer
accepted_file s small e =
    rw (accepted_plan s e) (spelled s small (first_accepted_left (check_bytes s) (rules (plan_of s)) e)).0

-- and is read as that value
fit_read : (s : List ℕ) (plan : Plan) (names : List (List ℕ)) → FileOf s plan names → Fit plan →
    (said (read_plan s).answer ≡ accepted) × ((read_plan s).plan ≡ plan)
unfolding read_plan
fit_read s plan names file fit =
    let e = fit_accepted s plan names file fit in
    (ap said e, accepted_plan s e ∙ file_plan s plan names file fit.sound)

-- bytes are accepted with a value exactly when they are its file, with some names, and it fits
pub accepts_exactly : AcceptsExactly
unfolding read_plan
accepts_exactly s small plan = (
  λ h.
      let e = said_accepted (read_answer s) h.0 in
      subst (λ p. (names : List (List ℕ)) × FileOf s p names × Fit p) h.1 (names_of s, accepted_file s small e, accepted_fit s e),
  λ h.
      let (names, file, fit) = h in
      fit_read s plan names file fit,
)

-- plans accepted before stay accepted
pub stays_accepted : StaysAccepted
stays_accepted s plan names file before = fit_read s plan names file (stays_fit plan before)

-- a refusal of a read is one of the bytes, or else one of the rules, on the sound value whose file they are
refused_by_lem : (s : List ℕ) → Bytes s → (r k : ℕ) → read_answer s ≡ Refused r k →
    (check_bytes s ≡ Refused r k) ⊎ (FileOf s (plan_of s) (names_of s) × Sound (plan_of s) × FirstBrokenAt (plan_of s) r k)
unfolding read_answer
refused_by_lem s small r k e = go (first_refused (check_bytes s) (rules (plan_of s)) r k e)
  where
    go : (check_bytes s ≡ Refused r k) ⊎ ((check_bytes s ≡ Accepted) × (rules (plan_of s) ≡ Refused r k)) →
        (check_bytes s ≡ Refused r k) ⊎ (FileOf s (plan_of s) (names_of s) × Sound (plan_of s) × FirstBrokenAt (plan_of s) r k)
    go (inl h) = inl h
    go (inr h) =
        let (file, sound) = spelled s small h.0 in
        inr (file, sound, (rules_exactly (plan_of s) sound r k).0 h.1)

-- a refusal of the bytes is the answer of the read
bytes_say : (s : List ℕ) → Bytes s → (r k : ℕ) → check_bytes s ≡ Refused r k → said (read_plan s).answer ≡ refused r (at k)
unfolding read_plan read_answer
bytes_say s small r k e =
    refused_at (read_answer s) r k (first_first (check_bytes s) (rules (plan_of s)) r k e ∙ e) (omega (arith, (bytes_refusal s small r k e).1))

-- every refusal is one of the bytes or one of the rules, with a place near the front
pub refusal_early : (s : List ℕ) → Bytes s → (r k : ℕ) → (read_plan s).answer ≡ Refused r k → (ByBytes r ⊎ ByRules r) × (k < 100000)
unfolding read_plan
refusal_early s small r k e = go (refused_by_lem s small r k e)
  where
    go : (check_bytes s ≡ Refused r k) ⊎ (FileOf s (plan_of s) (names_of s) × Sound (plan_of s) × FirstBrokenAt (plan_of s) r k) →
        (ByBytes r ⊎ ByRules r) × (k < 100000)
    go (inl h) =
        let (number, early) = bytes_refusal s small r k h in
        (inl number, early)
    go (inr h) =
        let (number, early) = broken_range (plan_of s) h.1 r k h.2 in
        (inr number, omega arith)

-- no number is both
apart : (r : ℕ) → ByBytes r → ByRules r → ⊥
apart r (inl h) (inl l) = omega arith
apart r (inl h) (inr l) = omega arith
apart r (inr h) (inl l) = omega arith
apart r (inr h) (inr l) = omega arith

-- bytes are refused by 1 to 10 or 19 exactly when they are the file of no sound value
pub refuses_by_bytes : RefusesByBytes
unfolding read_plan
refuses_by_bytes s small = (
  λ h file.
      let (r, k, number, e) = h in
      other file r k number (refused_by_lem s small r k (said_refused (read_answer s) r (at k) e)),
  λ no-file. go no-file (check_bytes s) refl,
)
  where
    other : SoundFile s → (r k : ℕ) → ByBytes r →
        (check_bytes s ≡ Refused r k) ⊎ (FileOf s (plan_of s) (names_of s) × Sound (plan_of s) × FirstBrokenAt (plan_of s) r k) → ⊥
    other (plan, names, file, sound) r k number (inl h) = let z : ◌≡◌ {A = ℕ} 0 1 = cc (file_accepted s plan names file sound) in omega arith
    other file r k number (inr h) = apart r number (broken_range (plan_of s) h.1 r k h.2).0

    go : (SoundFile s → ⊥) → (a : Answer) → check_bytes s ≡ a →
        (r : ℕ) × (k : ℕ) × ByBytes r × (said (read_plan s).answer ≡ refused r (at k))
    go no-file Accepted e =
        let (file, sound) = spelled s small e in
        absurd (no-file (plan_of s, names_of s, file, sound))
    go no-file (Refused r k) e =
        (r, k, (bytes_refusal s small r k e).0, bytes_say s small r k e)

-- bytes are refused by 10 at k exactly when the first k are the file of a sound value, and there are more
pub left_over_exactly : LeftOverExactly
unfolding read_plan
left_over_exactly s small k = (
  λ e.
      let (file, longer) = go (refused_by_lem s small 10 k (said_refused (read_answer s) 10 (at k) e)) in
      (file, omega arith),
  λ h. bytes_say s small 10 k (more h.0 h.1),
)
  where
    go : (check_bytes s ≡ Refused 10 k) ⊎ (FileOf s (plan_of s) (names_of s) × Sound (plan_of s) × FirstBrokenAt (plan_of s) 10 k) →
        SoundFile (take k s) × (k < length s)
    go (inl h) =
        let (kept, ends, longer) = left_over s small k h in
        let file = subst (λ n. FileOf (take n s) (plan_of s) (names_of s)) ends (spelled_start s kept small) in
        ((plan_of s, names_of s, file, sound_kept (plan_of s) (spelled_sound s kept)), omega arith)
    go (inr h) = absurd (apart 10 (inl (omega arith, omega arith)) (broken_range (plan_of s) h.1 10 k h.2).0)

    more : SoundFile (take k s) → k < length s → check_bytes s ≡ Refused 10 k
    more (plan, names, file, sound) longer =
        let begins = part_begins s k plan names (omega arith) file in
        let ends : end_at s ≡ k = end_read s plan names begins ∙ sym (ap length file.laid) ∙ length-take-le k s (omega arith) in
        bytes_checked s ∙
        first_second (check_fields s) (check_end s) ((fields_kept s).1 (begun_kept s plan names begins sound)) ∙ over_refused s k ends longer

-- bytes are refused by 11 to 14 or 20 exactly when they are the file of a sound value that breaks that rule first, at that place
pub refuses_by_rules : RefusesByRules
unfolding read_plan read_answer
refuses_by_rules s small r k number = (
  λ e. go (refused_by_lem s small r k (said_refused (read_answer s) r (at k) e)),
  λ h.
      let (plan, names, file, sound, broken) = h in
      let e =
      first_second (check_bytes s) (rules (plan_of s)) (file_accepted s plan names file sound) ∙
      ap rules (file_plan s plan names file sound) ∙ (rules_exactly plan sound r k).1 broken in
      refused_at (read_answer s) r k e (broken_place plan sound r k broken),
)
  where
    go : (check_bytes s ≡ Refused r k) ⊎ (FileOf s (plan_of s) (names_of s) × Sound (plan_of s) × FirstBrokenAt (plan_of s) r k) →
        (plan : Plan) × (names : List (List ℕ)) × FileOf s plan names × Sound plan × FirstBrokenAt plan r k
    go (inl h) = absurd (apart r (bytes_refusal s small r k h).0 number)
    go (inr h) = (plan_of s, names_of s, h.0, h.1, h.2)

-- every refusal is one of the bytes or one of the rules, and has a place
pub refuses_at_place : RefusesAtPlace
refuses_at_place s small r p e = go p e
  where
    go : (q : Place) → said (read_plan s).answer ≡ refused r q → (ByBytes r ⊎ ByRules r) × ((k : ℕ) × (q ≡ at k))
    go none h = absurd (omega (arith, (refusal_early s small r nowhere (said_refused (read_plan s).answer r none h)).1))
    go (at k) h =
        ((refusal_early s small r k (said_refused (read_plan s).answer r (at k) h)).0, (k, refl))

-- a name is handed out as it was laid out
pub names_placed : NamesPlaced
unfolding has_name name_of name_in plan_of
names_placed s plan names file h i l =
    let size : size_of s ≡ plan.size = ap (λ p. p.size) (file_plan s plan names file h.sound) in
    let here : i < size_of s = omega (arith, size) in
    rw (sym (accepts_true (read_answer s) (fit_accepted s plan names file h)), lt-ltb i (size_of s) here)
    (sym (names_at_lem s i here) ∙ ap (λ m. get_or m i []) (file_names s plan names file))
