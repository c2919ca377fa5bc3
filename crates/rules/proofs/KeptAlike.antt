-- A plan value has no breach that a sound one does not have which agrees with it in all but unused entries. Assumes nothing.
use Prim.Native.Nat.{ℕ, zero, suc, ◌+◌, ◌*◌, ◌/◌, ◌%◌, ◌≤◌, ◌<◌, max}
use mathlib.Core.Bool.{true, false, not, cond, ◌&&◌}
use lib.Dec.{ltb}
use mathlib.Core.Logic.{◌⊎◌}
use mathlib.Core.Path.{◌≡◌, refl, sym, ap, ap₂, subst, subst₂, ◌∙◌}
use native.Mathlib.Omega.{arith}
use Rattle.meaning.specs.Soft.{StandsInSoft}
use Rattle.meaning.specs.declared.Kind.TheVariants.{Aligned}
use Rattle.plans.specs.Plan.{node_at, hosting, wanted_as, is_host, is_soft, own_type, same, is_child}
use Rattle.plans.specs.Promises.{Agree}
use Rattle.plans.specs.Sound.{Sound}
use Rattle.plans.specs.declared.Parent.{Parent}
use Rattle.plans.specs.declared.Parent.TheVariants.{Supply, Node as Under}
use Rattle.plans.specs.declared.Plan.{Plan}
use Rattle.plans.proofs.Parents.{supply_there, host_there}
use Rattle.rules.specs.Fit.{sum_to, most_to, child_period, longest, load, load_to, is_whole, owes, side, Child, SoftMade, Rule20}
use Rattle.rules.specs.Broken.{Breach, twenty, eleven, twelve, thirteen, fourteen, Broken}

-- a fold over the first n values reads no others
fold_ext : (op : ℕ → ℕ → ℕ) (fold : (ℕ → ℕ) → ℕ → ℕ) → ((f : ℕ → ℕ) → fold f zero ≡ 0) →
    ((f : ℕ → ℕ) (n : ℕ) → fold f (suc n) ≡ op (fold f n) (f n)) → (f g : ℕ → ℕ) (n : ℕ) → ((i : ℕ) → i < n → f i ≡ g i) → fold f n ≡ fold g n
fold_ext op fold none more f g zero e = none f ∙ sym (none g)
fold_ext op fold none more f g (suc n) e =
    more f n ∙ ap₂ op (fold_ext op fold none more f g n (λ i l. e i (omega arith))) (e n (omega arith)) ∙ sym (more g n)

-- so it is with a sum
sum_ext : (f g : ℕ → ℕ) (n : ℕ) → ((i : ℕ) → i < n → f i ≡ g i) → sum_to f n ≡ sum_to g n
unfolding sum_to
sum_ext = fold_ext ◌+◌ sum_to (λ f. refl) (λ f n. refl)

-- and with a largest value
most_ext : (f g : ℕ → ℕ) (n : ℕ) → ((i : ℕ) → i < n → f i ≡ g i) → most_to f n ≡ most_to g n
unfolding most_to
most_ext = fold_ext max most_to (λ f. refl) (λ f n. refl)

module _ (a b : Plan) (agree : Agree a b) (sound : Sound a) where
  -- a child in the other is a child in the one
  child_alike : (x : Parent) (i : ℕ) → Child b x i → Child a x i
  child_alike x i c =
      let l : i < a.size = omega (arith, c.there, agree.size) in
      record { there = l; under = ap (λ n. n.parent) (agree.nodes i l) ∙ c.under }

  -- a parent with a child has the same own type in both
  own_alike : (x : Parent) (i : ℕ) → Child a x i → own_type a x ≡ own_type b x
  unfolding own_type
  own_alike (Supply s) i c = agree.supplies s (supply_there a sound i c.there s c.under)
  own_alike (Under h) i c = ap (λ n. n.wanted) (agree.nodes h (host_there a sound i c.there h c.under))

  -- a parent's M is the same in both
  longest_alike : (x : Parent) → longest a x ≡ longest b x
  unfolding longest child_period is_child
  longest_alike x =
      most_ext (child_period a x) (child_period b x) a.size (λ i l. ap (λ n. cond (same n.parent x) n.served.t 0) (agree.nodes i l)) ∙
      ap (most_to (child_period b x)) agree.size

  -- and so are its children's sums
  loads_alike : (x : Parent) (k : ℕ) → k ≤ a.size → load_to a x k ≡ load_to b x k
  unfolding load_to load is_child
  loads_alike x k l =
      sum_ext (load a x (longest a x)) (load b x (longest b x)) k
      (λ i h. ap₂ (λ n m. cond (same n.parent x) (n.served.c * (m / n.served.t)) 0) (agree.nodes i (omega arith)) (longest_alike x))

  -- a node is so made in both
  twenty_alike : (i : ℕ) → node_at a i ≡ node_at b i → Rule20 a i → Rule20 b i
  unfolding is_soft is_host
  twenty_alike i e made = subst (λ n. (not (hosting n.kind) && ltb 0 n.misses.d) ≡ true → SoftMade n) e made

  twenty_back : (i : ℕ) → node_at a i ≡ node_at b i → Rule20 b i → Rule20 a i
  unfolding is_soft is_host
  twenty_back i e made = subst (λ n. (not (hosting n.kind) && ltb 0 n.misses.d) ≡ true → SoftMade n) (sym e) made

  -- a breach in the other is a breach in the one
  pub broken_alike : (e : Breach) → Broken b e → Broken a e
  unfolding side
  broken_alike (twenty i) h =
      let l : i < a.size = omega (arith, h.0, agree.size) in
      (l, λ k. h.1 (twenty_alike i (agree.nodes i l) k))
  broken_alike (eleven i) h =
      let l : i < a.size = omega (arith, h.0, agree.size) in
      let e = agree.nodes i l in
      (l, (twenty_back i e h.1.0, λ k. h.1.1 (subst (λ n. StandsInSoft Aligned n.served (wanted_as n.kind) n.wanted n.misses) e k)))
  broken_alike (twelve x i) h =
      let c = child_alike x i h.0 in
      (c, λ k. h.1 (subst₂ (λ n own. is_whole own ≡ false → n.served.t % own.t ≡ 0) (agree.nodes i c.there) (own_alike x i c) k))
  broken_alike (thirteen x i) h =
      let (j, l, d, odds) = h.1 in
      let c = child_alike x i h.0 in
      let e = child_alike x j d in
      let later = agree.nodes i c.there in
      let earlier = agree.nodes j e.there in
      (c, (j, l, e, λ k. odds (subst₂ (λ n m. (n.served.t % m.served.t ≡ 0) ⊎ (m.served.t % n.served.t ≡ 0)) later earlier k)))
  broken_alike (fourteen x i) h =
      let c = child_alike x i h.0 in
      (c, omega (arith, h.1, loads_alike x (suc i) c.there, ap₂ owes (own_alike x i c) (longest_alike x)))
