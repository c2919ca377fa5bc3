-- What the calls that tell the hosts under which somebody takes the slot answer: bits of words, one law a return, and the laws of the loop from the last node
-- down. Assumes nothing.
use Prim.Native.Nat.{ℕ, zero, suc, ◌+◌, ◌-◌, ◌*◌, ◌/◌, ◌%◌, ◌^◌, ◌≤◌, ◌<◌}
use mathlib.Core.Bool.{Bool, true, false, not, cond, ◌&&◌, ◌||◌, true≢false}
use mathlib.Core.List.{List}
use mathlib.Core.Path.{◌≡◌, refl, sym, ap, ◌∙◌}
use lib.Bits.{bit_or, or_shr, or_mod}
use lib.Pow.{pow-add, pow-lt, shl_exact, shl-shr, high, low, ones_split, ones_lt}
use lib.Dec.{eqb}
use borrow.Author.Tests.{eq-eqb, ne_eqb}
use native.Mathlib.Nat.{zero-div, mod-lt, div-eq_of_lt, one-mul, mul-mod_left, pow-suc}
use native.Mathlib.Decide.{ℕ_discrete, dec_lt}
use native.Mathlib.Omega.{arith}
use Rattle.plans.proofs.Kept.{sound_kept}
use Rattle.plans.proofs.Parents.{host_earlier}
use Rattle.plans.specs.Plan.{parent_of, same}
use Rattle.plans.specs.Sound.{sound}
use Rattle.plans.specs.declared.Parent.{Parent}
use Rattle.plans.specs.declared.Parent.TheVariants.{Supply, Node as Under}
use Rattle.plans.specs.declared.Plan.{Plan}
use Rattle.dispatch.proofs.Choices.{eligible_under, none_choice, some_choice}
use Rattle.dispatch.proofs.Passing.{nobody_is, leaf_passed, host_kept, host_fixed}
use Rattle.dispatch.specs.View.{View, view_of, bit_of, is_leaf}
use Rattle.dispatch.specs.Choice.{takes, eligible}
use Rattle.dispatch.specs.Passed.{is_nobody, passed_to, passed_over}
use Rattle.dispatch.specs.Words.{told, Tells, WithBits}
use Rattle.dispatch.specs.declared.Setting.TheVariants.{Off, On}

-- a power of two has one bit: at its exponent 1,
one_there : (i : ℕ) → 1 * 2 ^ i / 2 ^ i % 2 ≡ 1
one_there i = rw (shl-shr 1 i)

-- below it 0, by i = d + 1 + h,
none_below : (d h : ℕ) → 1 * 2 ^ (suc d + h) / 2 ^ h % 2 ≡ 0
none_below d h = rw (one-mul (2 ^ (suc d + h)), pow-add 2 (suc d) h, shl-shr (2 ^ suc d) h, pow-suc 2 d) (mul-mod_left (2 ^ d) 2)

-- and above it 0
none_above : (i h : ℕ) → i < h → 1 * 2 ^ i / 2 ^ h % 2 ≡ 0
none_above i h l = rw (one-mul (2 ^ i), div-eq_of_lt (pow-lt l))

-- so its bits tell whether they are at i
power_bit : (i h : ℕ) → (bit_of (1 * 2 ^ i) h ≡ eqb h i)
unfolding bit_of
power_bit i h = go (ℕ_discrete h i) (dec_lt h i)
  where
    go : Dec (h ≡ i) → Dec (h < i) → eqb (1 * 2 ^ i / 2 ^ h % 2) 1 ≡ eqb h i
    go (yes e) l = rw (e, one_there i, eq-eqb i i refl)
    go (no other) (yes l) =
        let d : ℕ = i - suc h in
        let at : suc d + h ≡ i = omega arith in
        rw (ne_eqb h i other, ← at, none_below d h)
    go (no other) (no m) = rw (ne_eqb h i other, none_above i h (omega arith))

-- the bits of two words joined
joined_bit : (a b h : ℕ) → bit_of (bit_or a b) h ≡ (bit_of a h || bit_of b h)
unfolding bit_of
joined_bit a b h = rw (or_shr a b h, or_mod (a / 2 ^ h) (b / 2 ^ h) 1) (go (a / 2 ^ h % 2) (b / 2 ^ h % 2) (mod-lt (a / 2 ^ h) (omega arith)) (mod-lt (b / 2 ^ h) (omega arith)))
  where
    go : (x y : ℕ) → x < 2 → y < 2 → eqb (bit_or x y) 1 ≡ (eqb x 1 || eqb y 1)
    go zero zero l m = refl
    go zero (suc zero) l m = refl
    go zero (suc (suc y)) l m = absurd (omega arith)
    go (suc zero) zero l m = refl
    go (suc zero) (suc zero) l m = refl
    go (suc zero) (suc (suc y)) l m = absurd (omega arith)
    go (suc (suc x)) y l m = absurd (omega arith)

-- a word joined with a shifted 1 has that bit too
pub bit_added : (w i : ℕ) → i < 64 → (h : ℕ) → bit_of (bit_or w ((1 * 2 ^ i) % 2 ^ 64)) h ≡ (bit_of w h || eqb h i)
bit_added w i l h = rw (shl_exact {a = 1} 1 i 64 (omega arith) (omega arith)) (joined_bit w (1 * 2 ^ i) h ∙ ap (λ b. bit_of w h || b) (power_bit i h))

-- the word of ones has every bit
ones_bit : (d h : ℕ) → bit_of (2 ^ (suc d + h) - 1) h ≡ true
unfolding bit_of
ones_bit d h = rw (ones_split (suc d) h, high (2 ^ suc d - 1) h (ones_lt h), odd)
  where
    odd : (2 ^ suc d - 1) % 2 ≡ 1
    odd = ap (λ x. (x - 1) % 2) (ap (λ e. 2 ^ e) (let z : suc d ≡ d + 1 = omega arith in z)) ∙ rw (ones_split d 1) (low (2 ^ d - 1) 1 (ones_lt 1))

pub all_bits : (h : ℕ) → h < 64 → bit_of 18446744073709551615 h ≡ true
all_bits h l =
    let d : ℕ = 63 - h in
    let at : suc d + h ≡ 64 = omega arith in
    ap (λ e. bit_of (2 ^ e - 1) h) (sym at) ∙ ones_bit d h

-- With the switch off every host's bit is set, and no host is passed over:
pub off_tells : (v : View) (left : List ℕ) (declines : ℕ) → v.size ≤ 64 → Tells Off v left declines (told v declines 18446744073709551615)
unfolding passed_over told
off_tells v left declines few i l = go (v.leaf i) refl
  where
    go : (b : Bool) → v.leaf i ≡ b → cond b (bit_of declines i) (not (bit_of 18446744073709551615 i)) ≡ passed_to v left declines 0 i
    go true leaf = sym (leaf_passed v left declines 0 i leaf)
    go false host = rw (all_bits i (omega arith)) (sym (host_kept v left declines i host))

-- a test joined with one that cannot hold
none_joined : (a c : Bool) → a ≡ (a || (c && false))
none_joined true c = refl
none_joined false true = refl
none_joined false false = refl

equal_back : (a b : ℕ) → (eqb a b && true) ≡ eqb b a
equal_back a b = go (ℕ_discrete a b)
  where
    go : Dec (a ≡ b) → (eqb a b && true) ≡ eqb b a
    go (yes e) = rw (eq-eqb a b e, eq-eqb b a (sym e))
    go (no other) = rw (ne_eqb a b other, ne_eqb b a (λ e. other (sym e)))

-- What node i adds to the word. It takes no slot:
module _ (plan : Plan) (left : List ℕ) (passed : ℕ → Bool) (takers i : ℕ) where
  pub none_added : takes left passed i ≡ false → WithBits takers (λ h. eligible (view_of plan) left passed (Under h) i) takers
  unfolding eligible
  none_added e g l = rw e (none_joined (bit_of takers g) (same (parent_of plan i) (Under g)))

  -- it is a supply's,
  pub supply_added : ((h : ℕ) → parent_of plan i ≡ Under h → ⊥) → WithBits takers (λ h. eligible (view_of plan) left passed (Under h) i) takers
  unfolding eligible same
  supply_added none g l = go (parent_of plan i) none
    where
      go : (x : Parent) → ((h : ℕ) → x ≡ Under h → ⊥) → bit_of takers g ≡ (bit_of takers g || (same x (Under g) && takes left passed i))
      go (Supply s) never = none_joined (bit_of takers g) false
      go (Under h) never = absurd (never h refl)

  -- or it takes one of a host
  pub host_added : takes left passed i ≡ true → (host : ℕ) → parent_of plan i ≡ Under host → host < 64 →
      WithBits takers (λ h. eligible (view_of plan) left passed (Under h) i) (bit_or takers ((1 * 2 ^ host) % 2 ^ 64))
  unfolding eligible same
  host_added e host up here g l = bit_added takers host here g ∙ rw (up, e) (ap (λ c. bit_of takers g || c) (sym (equal_back host g)))

-- a node's host has a bit in a word
pub host_place : (plan : Plan) → sound plan ≡ true → (i : ℕ) → i < plan.size → (host : ℕ) → parent_of plan i ≡ Under host → host < 64
host_place plan keeps i l host up =
    let so = sound_kept plan keeps in
    let earlier = host_earlier plan so i l host up in
    omega (arith, so.sixty_four_nodes)

-- a word of zeros has no bit
pub zero_bit : (h : ℕ) → bit_of 0 h ≡ false
unfolding bit_of
zero_bit h = rw (zero-div (2 ^ h))

-- The loop from the last node down, whose invariant is (i ≤ size) × Seen plan left declines takers i.
module _ (plan : Plan) (left : List ℕ) (declines : ℕ) where
  abbrev passed : ℕ → Bool
  passed = passed_over On (view_of plan) left declines

  -- what a word says that has seen the nodes from k on: each of its bits is right, and a host has its bit as soon as one of them may be taken under it
  pub record Seen (takers k : ℕ) : Type 0 where
    pub right : (h : ℕ) → h < plan.size → is_leaf plan h ≡ false → bit_of takers h ≡ true → passed h ≡ false
    pub seen : (h j : ℕ) → h < plan.size → k ≤ j → j < plan.size → eligible (view_of plan) left passed (Under h) j ≡ true → bit_of takers h ≡ true

  -- before the last node
  pub seen_none : Seen 0 plan.size
  seen_none =
      record {
        right = λ h l host e. absurd (true≢false (sym e ∙ zero_bit h));
        seen = λ h j l m n may. absurd (omega arith);
      }

  module _ (keeps : sound plan ≡ true) where
    -- a word that has seen every node behind node i tells whether i is passed over: a host's children are behind it
    told_right : (takers k i : ℕ) → Seen takers k → k ≤ suc i → i < plan.size → told (view_of plan) declines takers i ≡ passed i
    unfolding told passed_over
    told_right takers k i so l there = go (is_leaf plan i) refl
      where
        none : bit_of takers i ≡ false → (j : ℕ) → j < plan.size → (b : Bool) → eligible (view_of plan) left passed (Under i) j ≡ b → b ≡ false
        none e j m true may =
            let later = host_earlier plan (sound_kept plan keeps) j m i (eligible_under (view_of plan) left passed (Under i) j may) in
            sym (so.seen i j there (omega arith) m may) ∙ e
        none e j m false may = refl

        at : is_leaf plan i ≡ false → (c : Bool) → bit_of takers i ≡ c → not c ≡ passed i
        at host true e = sym (so.right i there host e)
        at host false e =
            sym (host_fixed plan (sound_kept plan keeps) left declines i there host ∙
            nobody_is _ (none_choice (view_of plan) left passed (Under i) (λ j m. none e j m (eligible (view_of plan) left passed (Under i) j) refl)))

        go : (b : Bool) → is_leaf plan i ≡ b → cond b (bit_of declines i) (not (bit_of takers i)) ≡ passed i
        go true leaf = sym (leaf_passed (view_of plan) left declines 8 i leaf)
        go false host = at host (bit_of takers i) refl

    -- so it tells whether i may be taken
    told_may : (takers i : ℕ) → Seen takers (suc i) → i < plan.size → (x : Parent) →
        eligible (view_of plan) left (told (view_of plan) declines takers) x i ≡ eligible (view_of plan) left passed x i
    unfolding eligible takes
    told_may takers i so l x = rw (told_right takers (suc i) i so (omega arith) l)

    -- a host under which somebody may be taken is not passed over
    some_kept : (h j : ℕ) → h < plan.size → is_leaf plan h ≡ false → j < plan.size → eligible (view_of plan) left passed (Under h) j ≡ true → passed h ≡ false
    unfolding is_nobody
    some_kept h j l host m may =
        let (k, e) = some_choice (view_of plan) left passed (Under h) j m may in
        host_fixed plan (sound_kept plan keeps) left declines h l host ∙ ap is_nobody e

    -- one node more
    pub seen_more : (takers k i : ℕ) → Seen takers k → k ≡ suc i → i < plan.size → (r : ℕ) →
        WithBits takers (λ h. eligible (view_of plan) left (told (view_of plan) declines takers) (Under h) i) r → Seen r i
    seen_more takers k i before at l r adds =
        record {
          right = λ h m host e. right h m host (bit_of takers h) refl (sym (is h m) ∙ e);
          seen = λ h j m n o may. is h m ∙ seen h j m n o may (ℕ_discrete j i);
        }
      where
        so : Seen takers (suc i)
        so = rw at at before

        is : (h : ℕ) → h < plan.size → bit_of r h ≡ (bit_of takers h || eligible (view_of plan) left passed (Under h) i)
        is h m = adds h (omega (arith, (sound_kept plan keeps).sixty_four_nodes)) ∙ ap (λ b. bit_of takers h || b) (told_may takers i so l (Under h))

        right : (h : ℕ) → h < plan.size → is_leaf plan h ≡ false → (b : Bool) → bit_of takers h ≡ b →
            (b || eligible (view_of plan) left passed (Under h) i) ≡ true → passed h ≡ false
        right h m host true e f = so.right h m host e
        right h m host false e f = some_kept h i m host l f

        joined : (b : Bool) → b ≡ true → (a : Bool) → (a || b) ≡ true
        joined b e true = refl
        joined b e false = e

        first : (a b : Bool) → a ≡ true → (a || b) ≡ true
        first true b e = refl
        first false b e = absurd (true≢false (sym e))

        seen : (h j : ℕ) → h < plan.size → i ≤ j → j < plan.size → eligible (view_of plan) left passed (Under h) j ≡ true → Dec (j ≡ i) →
            (bit_of takers h || eligible (view_of plan) left passed (Under h) i) ≡ true
        seen h j m n o may (yes e) = joined _ (rw e at may) (bit_of takers h)
        seen h j m n o may (no other) = first (bit_of takers h) _ (so.seen h j m (omega arith) o may)

    -- past the first
    pub seen_all : (takers k : ℕ) → Seen takers k → k ≤ 0 → Tells On (view_of plan) left declines (told (view_of plan) declines takers)
    seen_all takers k so l i there = told_right takers k i so (omega arith) there
