-- Unused entries of a plan value are ignored: values that agree in all but those get the same answer. Assumes nothing.
use mathlib.Core.Bool.{Bool, true, false, cond}
use mathlib.Core.Path.{◌≡◌, refl, sym, ap₂, ◌∙◌}
use native.Mathlib.Omega.{arith}
use Rattle.answers.specs.Answers.{nowhere}
use Rattle.answers.specs.Answers.{Answer}
use Rattle.answers.specs.Answers.{Accepted, Refused}
use Rattle.plans.specs.Promises.{Agree}
use Rattle.plans.specs.Sound.{Sound, sound}
use Rattle.plans.specs.declared.Plan.{Plan}
use Rattle.plans.proofs.All.{both_ways}
use Rattle.plans.proofs.Kept.{sound_exactly, unused_ignored as sound-alike}
use Rattle.rules.specs.Broken.{Breach, FirstBroken}
use Rattle.rules.specs.Check.{rules, checked}
use Rattle.rules.specs.Promises.{UnusedIgnored}
use Rattle.rules.proofs.KeptAlike.{broken_alike}
use Rattle.rules.proofs.Kept.{refused_broken, broken_refused, unbroken_accepted, accepted_unbroken}

-- agreement goes both ways
agree_back : (a b : Plan) → Agree a b → Agree b a
agree_back a b agree =
    record {
      edition = sym agree.edition;
      tick = sym agree.tick;
      cores = sym agree.cores;
      size = sym agree.size;
      supplies = λ s l. sym (agree.supplies s (omega (arith, agree.cores)));
      nodes = λ i l. sym (agree.nodes i (omega (arith, agree.size)));
    }

module _ (a b : Plan) (agree : Agree a b) (kept : Sound a) where
  also : Sound b
  also = sound-alike a b agree kept

  -- the first breach of one is the first of the other
  first_alike : (e : Breach) → FirstBroken a e → FirstBroken b e
  first_alike e is =
      record {
        broken = broken_alike b a (agree_back a b agree) also e is.broken;
        none_earlier = λ c l h. is.none_earlier c l (broken_alike a b agree kept c h);
      }

  rules_alike : (x : Answer) → rules a ≡ x → rules b ≡ x
  rules_alike Accepted h = unbroken_accepted b also (λ e is. accepted_unbroken a kept h e (broken_alike a b agree kept e is))
  rules_alike (Refused r k) h =
      let (e, is, numbered, placed) = refused_broken a kept r k h in
      broken_refused b also e (first_alike e is) ∙ ap₂ Refused numbered placed

pub unused_ignored : UnusedIgnored
unfolding checked
unused_ignored a b agree = go (sound a) refl
  where
    test : sound a ≡ sound b
    test =
        both_ways (sound a) (sound b)
        (λ h. (sound_exactly b).1 (sound-alike a b agree ((sound_exactly a).0 h)))
        (λ h. (sound_exactly a).1 (sound-alike b a (agree_back a b agree) ((sound_exactly b).0 h)))

    go : (x : Bool) → sound a ≡ x → cond (sound a) (rules a) (Refused 16 nowhere) ≡ cond (sound b) (rules b) (Refused 16 nowhere)
    go true h = rw (h, sym test ∙ h) (sym (rules_alike a b agree ((sound_exactly a).0 h) (rules a) refl))
    go false h = rw (h, sym test ∙ h)
