-- The check of rules 11 to 14 and 20 as a tree in which the test for each breach stands at the breach's rank. Assumes nothing.
use Prim.Native.Nat.{ℕ, zero, suc, ◌<◌}
use mathlib.Core.Bool.{Bool, true, false, cond}
use mathlib.Core.List.{List, [], ◌∷◌}
use mathlib.Core.Path.{◌≡◌, refl, sym, ap, ap₂, ◌∙◌}
use lib.Dec.{eqb}
use borrow.Author.Tests.{eqb-true}
use native.Mathlib.Omega.{arith}
use Rattle.answers.specs.Answers.{first, each}
use Rattle.answers.specs.Answers.{Answer}
use Rattle.answers.specs.Answers.{Accepted, Refused}
use Rattle.answers.proofs.Laws.{each_ext}
use Rattle.plans.specs.Plan.{is_host}
use Rattle.plans.specs.Sound.{Sound}
use Rattle.plans.specs.declared.Parent.{Parent}
use Rattle.plans.specs.declared.Parent.TheVariants.{Supply, Node as Under}
use Rattle.plans.specs.declared.Plan.{Plan}
use Rattle.plans.proofs.Parents.{supply_there, host_there, host_hosts}
use Rattle.rules.specs.Fit.{Child}
use Rattle.rules.specs.Broken.{Breach, twenty, eleven, twelve, thirteen, fourteen, number, place, Broken, under, rank}
use Rattle.rules.specs.Check.{twenty_at, eleven_at, node_alone, twelve_at, thirteen_at, fourteen_at, rules, check_parent, check_supply, check_host}
use Rattle.rules.proofs.KeptOrder.{Checks, one, many, answer, Refuses, accepted_none}
use Rattle.rules.proofs.KeptTests.{tested, broken_tested}

-- no check
abbrev nothing : Checks
nothing = one Accepted

module _ (plan : Plan) where
  -- the tests for a breach at each node
  abbrev nodes : (ℕ → Breach) → Checks
  nodes b = many plan.size (λ i. one (tested plan (b i)))

  -- where m is n, the tests for the breach of rule n, and else the rest
  abbrev at_rule : ℕ → ℕ → (ℕ → Breach) → Checks → Checks
  at_rule m n b rest = cond (eqb m n) (nodes b) rest

  -- rules 12, 13 and 14 under a parent
  abbrev of_parent : Parent → Checks
  of_parent x = many 15 (λ m. at_rule m 12 (twelve x) (at_rule m 13 (thirteen x) (at_rule m 14 (fourteen x) nothing)))

  -- 20, and then rule 11, at a node
  abbrev alone : ℕ → ℕ → Checks
  alone i zero = one (tested plan (twenty i))
  alone i (suc zero) = one (tested plan (eleven i))
  alone i (suc (suc m)) = nothing

  -- each node alone; each supply; each host
  abbrev stage : ℕ → Checks
  stage zero = many plan.size (λ i. many 2 (alone i))
  stage (suc zero) = many plan.cores (λ s. of_parent (Supply s))
  stage (suc (suc zero)) = many plan.size (λ h. cond (is_host plan h) (of_parent (Under h)) nothing)
  stage (suc (suc (suc g))) = nothing

  abbrev pub checks : Checks
  checks = many 3 stage

-- the first refusal of three answers is found from either end
first_three : (a b c : Answer) → first a (first b c) ≡ first (first a b) c
unfolding first
first_three Accepted b c = refl
first_three (Refused r k) b c = refl

module _ (plan : Plan) where
  -- the answer for a parent is the first refusal of its tests
  parent_answer : (x : Parent) → check_parent plan x ≡ answer (of_parent plan x)
  unfolding check_parent twelve_at thirteen_at fourteen_at each first
  parent_answer x = first_three (each (twelve_at plan x) plan.size) (each (thirteen_at plan x) plan.size) (each (fourteen_at plan x) plan.size)

  -- so is that for a host
  host_answer : (h : ℕ) → check_host plan h ≡ answer (cond (is_host plan h) (of_parent plan (Under h)) nothing)
  unfolding check_host
  host_answer h = go (is_host plan h)
    where
      go : (b : Bool) → cond b (check_parent plan (Under h)) Accepted ≡ answer (cond b (of_parent plan (Under h)) nothing)
      go true = parent_answer (Under h)
      go false = refl

  -- the answer of the check is the first refusal of all tests
  pub rules_answer : rules plan ≡ answer (checks plan)
  unfolding rules node_alone twenty_at eleven_at check_supply each first
  rules_answer =
      first_three (each (node_alone plan) plan.size) (each (check_supply plan) plan.cores) (each (check_host plan) plan.size) ∙
      ap₂ (λ a b. first (first (each (node_alone plan) plan.size) a) b)
      (each_ext (check_supply plan) _ plan.cores (λ s l. parent_answer (Supply s)))
      (each_ext (check_host plan) _ plan.size (λ h l. host_answer h))

  -- the test for a breach of rank l refuses r at k
  pub record Tested (l : List ℕ) (r k : ℕ) : Type 0 where
    pub breach : Breach
    pub there : place breach < plan.size
    pub ranked : rank breach ≡ l
    pub refused : tested plan breach ≡ Refused r k

  -- Each refusal in a part of the tree is by the test for a breach, whose rank is made by `whole` of the place within the part. The laws below
  -- say so of each part, up to the whole.
  record Leads (whole : List ℕ → List ℕ) (c : Checks) : Type 0 where
    leads : (l : List ℕ) (r k : ℕ) → Refuses c l r k → Tested (whole l) r k

  one_leads : {whole : List ℕ → List ℕ} (b : Breach) → place b < plan.size → rank b ≡ whole [] → Leads whole (one (tested plan b))
  one_leads {whole} b there ranked = record { leads = go }
    where
      go : (l : List ℕ) (r k : ℕ) → Refuses (one (tested plan b)) l r k → Tested (whole l) r k
      go [] r k h = record { breach = b; there = there; ranked = ranked; refused = h }
      go (i ∷ l) r k h = absurd h

  nothing_leads : {whole : List ℕ → List ℕ} → Leads whole nothing
  nothing_leads {whole} = record { leads = λ l r k h. absurd (accepted_none nothing refl l r k h) }

  many_leads : {whole : List ℕ → List ℕ} {n : ℕ} {f : ℕ → Checks} → ((i : ℕ) → i < n → Leads (λ l. whole (i ∷ l)) (f i)) → Leads whole (many n f)
  many_leads {whole} {n} {f} d = record { leads = go }
    where
      go : (l : List ℕ) (r k : ℕ) → Refuses (many n f) l r k → Tested (whole l) r k
      go [] r k h = absurd h
      go (i ∷ l) r k h = (d i h.0).leads l r k h.1

  cond_leads : {whole : List ℕ → List ℕ} {c d : Checks} (t : Bool) → (t ≡ true → Leads whole c) → Leads whole d → Leads whole (cond t c d)
  cond_leads true a b = a refl
  cond_leads false a b = b

  nodes_lead : {whole : List ℕ → List ℕ} (b : ℕ → Breach) → ((i : ℕ) → rank (b i) ≡ whole (i ∷ [])) → ((i : ℕ) → place (b i) ≡ i) →
      Leads whole (nodes plan b)
  nodes_lead b ranks places = many_leads (λ i l. one_leads (b i) (omega (arith, places i)) (ranks i))

  rule_leads : (whole : List ℕ → List ℕ) (m n : ℕ) (b : ℕ → Breach) {rest : Checks} → ((i : ℕ) → rank (b i) ≡ whole (n ∷ i ∷ [])) →
      ((i : ℕ) → place (b i) ≡ i) → Leads (λ l. whole (m ∷ l)) rest → Leads (λ l. whole (m ∷ l)) (at_rule plan m n b rest)
  rule_leads whole m n b ranks places =
      cond_leads (eqb m n) (λ e. nodes_lead b (λ i. ranks i ∙ ap (λ q. whole (q ∷ i ∷ [])) (sym (eqb-true m n e))) places)

  parent_leads : {whole : List ℕ → List ℕ} (x : Parent) → ((r i : ℕ) → under x r i ≡ whole (r ∷ i ∷ [])) → Leads whole (of_parent plan x)
  parent_leads {whole} x ranks =
      many_leads (λ m l.
      rule_leads whole m 12 (twelve x) (ranks 12) (λ i. refl)
      (rule_leads whole m 13 (thirteen x) (ranks 13) (λ i. refl)
      (rule_leads whole m 14 (fourteen x) (ranks 14) (λ i. refl) nothing_leads)))

  alone_leads : (i m : ℕ) → i < plan.size → Leads (λ l. 0 ∷ i ∷ m ∷ l) (alone plan i m)
  alone_leads i zero l = one_leads (twenty i) l refl
  alone_leads i (suc zero) l = one_leads (eleven i) l refl
  alone_leads i (suc (suc m)) l = nothing_leads

  stage_leads : (g : ℕ) → Leads (λ l. g ∷ l) (stage plan g)
  stage_leads zero = many_leads (λ i l. many_leads (λ m h. alone_leads i m l))
  stage_leads (suc zero) = many_leads (λ s l. parent_leads (Supply s) (λ r i. refl))
  stage_leads (suc (suc zero)) = many_leads (λ h l. cond_leads (is_host plan h) (λ e. parent_leads (Under h) (λ r i. refl)) nothing_leads)
  stage_leads (suc (suc (suc g))) = nothing_leads

  -- whatever the check refuses is the test for a breach
  pub refuses_tested : (l : List ℕ) (r k : ℕ) → Refuses (checks plan) l r k → Tested l r k
  refuses_tested = (many_leads {whole = λ l. l} (λ g l. stage_leads g)).leads

  module _ (sound : Sound plan) where
    -- the checks of a child's parent stand at its rank
    under_refuses : (x : Parent) (n i r k : ℕ) → Child plan x i → Refuses (of_parent plan x) (n ∷ i ∷ []) r k → Refuses (checks plan) (under x n i) r k
    under_refuses (Supply s) n i r k c h = (omega arith, (supply_there plan sound i c.there s c.under, h))
    under_refuses (Under p) n i r k c h =
        (omega arith, (host_there plan sound i c.there p c.under, rw (host_hosts plan sound i c.there p c.under) h))

    -- the check refuses every breach, at its rank
    pub broken_refuses : (b : Breach) → Broken plan b → Refuses (checks plan) (rank b) (number b) (place b)
    broken_refuses b is = go b is (broken_tested plan sound b is)
      where
        go : (b : Breach) → Broken plan b → tested plan b ≡ Refused (number b) (place b) → Refuses (checks plan) (rank b) (number b) (place b)
        go (twenty i) h e = (omega arith, (h.0, (omega arith, e)))
        go (eleven i) h e = (omega arith, (h.0, (omega arith, e)))
        go (twelve x i) h e = under_refuses x 12 i _ _ h.0 (omega arith, (h.0.there, e))
        go (thirteen x i) h e = under_refuses x 13 i _ _ h.0 (omega arith, (h.0.there, e))
        go (fourteen x i) h e = under_refuses x 14 i _ _ h.0 (omega arith, (h.0.there, e))
