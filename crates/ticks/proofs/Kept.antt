-- Why the promises of specs/Promises.antt hold. Assumes nothing.
use Rattle.std.proofs.Common.{◌≡◌, ℕ, ◌+◌, ◌/◌, ◌%◌, ◌≤◌, ◌<◌, Bool, true, false, refl, sym, ap, ◌∙◌, arith, Ok, Err}
use Rattle.std.proofs.lemmas.Grind.{common_steps}
use native.Mathlib.Nat.{le_antisymm, le_refl, div-add-mod', mod-lt}
use native.Mathlib.Decide.{dec_lt}
use Rattle.ticks.specs.Times.{is_fit, begins, latest, said, limited, timed, SlotSays}
use Rattle.ticks.specs.Promises.{
  GivenExactly,
  ClosedForm,
  OneSlot,
  InItsSlot,
  InItsMinute,
  ThereAndBack,
  NeverFalls,
  SaidOnce,
  ClosedFormSaid,
  OneAnswer,
}
use Rattle.ticks.specs.declared.Refusal.TheVariants.{Beyond, Unfit}
use Rattle.ticks.proofs.Answers.{Fit, fit}
use Rattle.ticks.proofs.Arithmetic.{at_most_closed, closed_begins, never_falls, rises}

pub given_exactly : GivenExactly
unfolding timed limited
given_exactly tick x v = record {
  unfit = λ h. grind (arith, common_steps);
  beyond = λ h l. grind (arith, common_steps);
  within = λ h l m. grind (arith, common_steps);
}

pub closed_form : ClosedForm
unfolding begins
closed_form tick t e =
    let f : Fit tick = fit tick e in
    record {
      before = closed_begins tick.p tick.q t _ _ f.p.least f.q.least (le_refl _) (omega arith);
      greatest = λ m h. at_most_closed tick.p tick.q t _ m f.p.least f.q.least h (omega arith);
    }

pub one_slot : OneSlot
one_slot tick t n m a b = le_antisymm (b.greatest n a.before) (a.greatest m b.before)

pub in_its_slot : InItsSlot
in_its_slot tick t n a = (a.before, go (dec_lt t (begins tick (n + 1))))
  where
    go : Dec (t < begins tick (n + 1)) → t < begins tick (n + 1)
    go (yes h) = h
    go (no h) = absurd (let late : n + 1 ≤ n = a.greatest (n + 1) (omega arith) in omega arith)

pub in_its_minute : InItsMinute
in_its_minute v m e =
    let floor : v / 60_000_000 ≡ m = cc in
    let rest : v % 60_000_000 < 60_000_000 = mod-lt v (omega arith) in
    omega (arith, div-add-mod' v 60_000_000)

pub there_and_back : ThereAndBack
unfolding begins
there_and_back tick n e long =
    record { before = le_refl _; greatest = λ m h. go m h (dec_lt n m) }
  where
    go : (m : ℕ) → begins tick m ≤ begins tick n → Dec (n < m) → m ≤ n
    go m h (no l) = omega arith
    go m h (yes l) = absurd (let up = rises tick.p tick.q n m (fit tick e).q.least long l in omega arith)

pub never_falls_kept : NeverFalls
unfolding begins
never_falls_kept tick n m e h = never_falls tick.p tick.q n m (fit tick e).q.least h

pub said_once : SaidOnce
said_once (Ok n) (Ok m) e = cc
said_once (Ok n) (Err Beyond) e = cc
said_once (Ok n) (Err Unfit) e = cc
said_once (Err Beyond) (Ok m) e = cc
said_once (Err Unfit) (Ok m) e = cc
said_once (Err Beyond) (Err Beyond) e = refl
said_once (Err Beyond) (Err Unfit) e = cc
said_once (Err Unfit) (Err Beyond) e = cc
said_once (Err Unfit) (Err Unfit) e = refl

pub closed_form_said : ClosedFormSaid
unfolding timed
closed_form_said tick t a = (
  (λ says. go (is_fit tick) refl says),
  (λ e. record {
    found = λ fits. (latest tick t, (closed_form tick t fits, e));
    unfit = λ h. rw h at e;
  }),
)
  where
    go : (b : Bool) → is_fit tick ≡ b → SlotSays tick t a → a ≡ timed tick t (latest tick t)
    go true h says =
        let (n, (is, e)) = says.found h in
        e ∙ ap (timed tick t) (one_slot tick t n (latest tick t) is (closed_form tick t h))
    go false h says = rw h (says.unfit h)

pub one_answer : OneAnswer
one_answer tick t a b ha hb =
    said_once a b ((closed_form_said tick t (said a)).0 ha ∙ sym ((closed_form_said tick t (said b)).0 hb))
