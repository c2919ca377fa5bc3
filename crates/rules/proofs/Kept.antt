-- What specs/Promises.antt says of the rules holds. Assumes nothing.
use Prim.Native.Nat.{ℕ, ◌≤◌, ◌<◌}
use mathlib.Core.Bool.{Bool, true, false, cond, false≢true}
use mathlib.Core.List.{List}
use mathlib.Core.Logic.{◌↔◌, ◌⊎◌, inl, inr}
use mathlib.Core.Path.{◌≡◌, refl, sym, ap, ap₂, subst, ◌∙◌}
use native.Mathlib.Omega.{arith}
use Rattle.answers.specs.Answers.{none as placeless, at, nowhere, refused, said, accepts}
use Rattle.answers.specs.Answers.{Accepted, Refused}
use Rattle.answers.proofs.Laws.{said_accepted, said_refused, refused_at, refused_none, accepts_true, accepts_accepted}
use Rattle.plans.specs.Sound.{Sound, sound}
use Rattle.plans.specs.declared.Plan.{Plan}
use Rattle.plans.proofs.Kept.{sound_exactly}
use Rattle.rules.specs.Fit.{Fit}
use Rattle.rules.specs.Broken.{Breach, twenty, eleven, twelve, thirteen, fourteen, number, place, Broken, rank, Earlier, FirstBroken, FirstBrokenAt}
use Rattle.rules.specs.Check.{rules, checked, is_fit}
use Rattle.rules.specs.Promises.{FitsExactly, AcceptsFit, FirstExactly, SixteenExactly}
use Rattle.rules.proofs.KeptOrder.{Refuses, NoneBefore, answer_accepted, accepted_none, answer_first, refused_first}
use Rattle.rules.proofs.KeptTests.{broken_there, tested_broken}
use Rattle.rules.proofs.KeptRanks.{checks, rules_answer, refuses_tested, broken_refuses}
use Rattle.rules.proofs.KeptFit.{fit_unbroken, unbroken_fit}

module _ (plan : Plan) (sound : Sound plan) where
  -- a breach of this rank, number and place
  record Found (l : List ℕ) (r k : ℕ) : Type 0 where
    breach : Breach
    broken : Broken plan breach
    ranked : rank breach ≡ l
    numbered : number breach ≡ r
    placed : place breach ≡ k

  -- whatever the check refuses is a breach
  refuses_broken : (l : List ℕ) (r k : ℕ) → Refuses (checks plan) l r k → Found l r k
  refuses_broken l r k h =
      let a = refuses_tested plan l r k h in
      let (broken, numbered, placed) = tested_broken plan sound a.breach r k a.there a.refused in
      record { breach = a.breach; broken = broken; ranked = a.ranked; numbered = numbered; placed = placed }

  -- the first refusal is that of the first breach
  pub refused_broken : (r k : ℕ) → rules plan ≡ Refused r k → FirstBrokenAt plan r k
  refused_broken r k e =
      let a = refused_first (checks plan) r k (sym (rules_answer plan) ∙ e) in
      let b = refuses_broken a.at r k a.refuses in (
        b.breach,
        record {
          broken = b.broken;
          none_earlier = λ c l is. a.none_before (rank c) (number c) (place c) (subst (Earlier (rank c)) b.ranked l) (broken_refuses plan sound c is);
        },
        b.numbered,
        b.placed,
      )

  -- and the first breach is refused
  pub broken_refused : (b : Breach) → FirstBroken plan b → rules plan ≡ Refused (number b) (place b)
  broken_refused b is = rules_answer plan ∙ answer_first (checks plan) (rank b) (number b) (place b) (broken_refuses plan sound b is.broken) none
    where
      none : NoneBefore (checks plan) (rank b)
      none m r k l h =
          let a = refuses_broken m r k h in
          is.none_earlier a.breach (subst (λ q. Earlier q (rank b)) (sym a.ranked) l) a.broken

  -- the check accepts where there is no breach
  pub unbroken_accepted : ((b : Breach) → Broken plan b → ⊥) → rules plan ≡ Accepted
  unbroken_accepted none =
      rules_answer plan ∙
      answer_accepted (checks plan) (λ l r k h. let a = refuses_broken l r k h in none a.breach a.broken)

  -- and only there
  pub accepted_unbroken : rules plan ≡ Accepted → (b : Breach) → Broken plan b → ⊥
  accepted_unbroken e b is = accepted_none (checks plan) (sym (rules_answer plan) ∙ e) (rank b) _ _ (broken_refuses plan sound b is)

  -- so the rules refuse exactly as the first breach says,
  pub rules_exactly : (r k : ℕ) → (rules plan ≡ Refused r k) ↔ FirstBrokenAt plan r k
  rules_exactly r k = (
    refused_broken r k,
    λ h.
        let (b, is, numbered, placed) = h in
        broken_refused b is ∙ ap₂ Refused numbered placed,
  )

  -- by 11 to 14 or 20, at a node,
  pub broken_range : (r k : ℕ) → FirstBrokenAt plan r k → (((11 ≤ r) × (r ≤ 14)) ⊎ (r ≡ 20)) × (k < 64)
  broken_range r k (b, is, numbered, placed) = go b numbered (omega (arith, broken_there plan b is.broken, sound.sixty_four_nodes))
    where
      go : (c : Breach) → number c ≡ r → k < 64 → (((11 ≤ r) × (r ≤ 14)) ⊎ (r ≡ 20)) × (k < 64)
      go (twenty i) e l = (inr (sym e), l)
      go (eleven i) e l = (inl (omega arith, omega arith), l)
      go (twelve x i) e l = (inl (omega arith, omega arith), l)
      go (thirteen x i) e l = (inl (omega arith, omega arith), l)
      go (fourteen x i) e l = (inl (omega arith, omega arith), l)

  -- which is a place
  pub broken_place : (r k : ℕ) → FirstBrokenAt plan r k → k < nowhere
  broken_place r k h = omega (arith, (broken_range r k h).1)

-- a value that the test takes fits
fits_fit : (plan : Plan) → is_fit plan ≡ true → Fit plan
unfolding is_fit checked accepts
fits_fit plan e = go (sound plan) refl e
  where
    go : (b : Bool) → sound plan ≡ b → accepts (cond b (rules plan) (Refused 16 nowhere)) ≡ true → Fit plan
    go true s h =
        let kept = (sound_exactly plan).0 s in
        unbroken_fit plan kept (accepted_unbroken plan kept (accepts_accepted (rules plan) h))
    go false s h = absurd (false≢true h)

-- and the test takes a value that fits
fit_fits : (plan : Plan) → Fit plan → is_fit plan ≡ true
unfolding is_fit checked accepts
fit_fits plan fit = rw ((sound_exactly plan).1 fit.sound, unbroken_accepted plan fit.sound (fit_unbroken plan fit))

-- a sound value is checked by the rules,
pub sound_checked : (plan : Plan) → Sound plan → checked plan ≡ rules plan
unfolding checked
sound_checked plan s = rw ((sound_exactly plan).1 s)

-- and one that is not sound gets 16, with no place
unsound_sixteen : (plan : Plan) → sound plan ≡ false → said (checked plan) ≡ refused 16 placeless
unfolding checked
unsound_sixteen plan e = rw e (refused_none 16)

-- a refusal with a place is that of the first breach of a sound value
pub first_exactly : FirstExactly
first_exactly plan r k = (
  λ e. go (sound plan) refl e,
  λ h. refused_at (checked plan) r k (sound_checked plan h.0 ∙ (rules_exactly plan h.0 r k).1 h.1) (broken_place plan h.0 r k h.1),
)
  where
    go : (b : Bool) → sound plan ≡ b → said (checked plan) ≡ refused r (at k) → Sound plan × FirstBrokenAt plan r k
    go true s e =
        let kept = (sound_exactly plan).0 s in
        (kept, (rules_exactly plan kept r k).0 (sym (sound_checked plan kept) ∙ said_refused (checked plan) r (at k) e))
    go false s e = absurd (let z : ◌≡◌ {A = ℕ} 0 1 = cc (unsound_sixteen plan s) in omega arith)

-- a value gets 16, with no place, exactly when it is not sound
pub sixteen_exactly : SixteenExactly
sixteen_exactly plan = (λ e s. sound_other e s, λ h. go (sound plan) refl h)
  where
    sound_other : said (checked plan) ≡ refused 16 placeless → Sound plan → ⊥
    sound_other e s =
        let is = sym (sound_checked plan s) ∙ said_refused (checked plan) 16 placeless e in
        omega (arith, broken_place plan s 16 nowhere ((rules_exactly plan s 16 nowhere).0 is))

    go : (b : Bool) → sound plan ≡ b → (Sound plan → ⊥) → said (checked plan) ≡ refused 16 placeless
    go true s h = absurd (h ((sound_exactly plan).0 s))
    go false s h = unsound_sixteen plan s

-- a value fits exactly when it keeps the rules
pub fits_exactly : FitsExactly
fits_exactly plan = (fits_fit plan, fit_fits plan)

-- and exactly then the check accepts it
pub accepts_fit : AcceptsFit
unfolding is_fit
accepts_fit plan = (
  λ e. fits_fit plan (sym (accepts_true (checked plan) (said_accepted (checked plan) e))),
  λ h. ap said (accepts_accepted (checked plan) (fit_fits plan h)),
)
