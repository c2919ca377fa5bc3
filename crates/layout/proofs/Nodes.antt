-- Kinds, parents, misses and nodes in bytes, there and back. Assumes nothing.
use Prim.Native.Nat.{ℕ, zero, suc, ◌+◌, ◌-◌, ◌≤◌, ◌<◌}
use mathlib.Core.Bool.{Bool, true, false, cond}
use mathlib.Core.List.{List, [], ◌++◌}
use mathlib.Core.Path.{◌≡◌, refl, sym, ap, ◌∙◌}
use native.Mathlib.Omega.{arith}
use lib.Dec.{eqb, ltb}
use lib.ListN.{length}
use borrow.Author.Tests.{lt-ltb, le-ltb, ltb-false}
use Rattle.std.specs.Prelude.{Some, None}
use Rattle.meaning.specs.declared.Misses.{Misses}
use Rattle.plans.specs.Plan.{no_misses}
use Rattle.plans.specs.Sound.{Allowed, supply, host}
use Rattle.plans.specs.declared.NodeKind.{NodeKind}
use Rattle.plans.specs.declared.NodeKind.TheVariants.{AlignedLeaf, SlidingLeaf, Host}
use Rattle.plans.specs.declared.Parent.{Parent}
use Rattle.plans.specs.declared.Parent.TheVariants.{Supply, Node as Under}
use Rattle.plans.specs.declared.Node.{Node}
use Rattle.plans.specs.declared.Plan.{Plan}
use Rattle.fields.specs.Fields.{byte_at, type_at, misses_at}
use Rattle.decode.specs.Positions.{edition_of, further, node_start, served_at}
use Rattle.decode.specs.Decode.{kind_named, parent_of_byte, can_be, parent_named, is_named, parent_or, misses_or, node_of}
use Rattle.reader.proofs.Accepts.{NodeKept}
use Rattle.layout.specs.Layout.{two_bytes, type_bytes, kind_byte, parent_byte, misses_bytes, node_bytes}
use Rattle.layout.specs.Promises.{Bytes}
use Rattle.layout.proofs.Holds.{Holds, holds_none, holds_left, holds_right, holds_join, holds_at}
use Rattle.layout.proofs.Numbers.{byte_read, rest_held, cons_held, pair_held, type_held, pair_read, type_read}
use Rattle.layout.proofs.Widths.{further_more, misses_length}

-- a byte up to 2 is that of the kind that it names
pub kind_spelled : (b : ℕ) → b ≤ 2 → kind_byte (kind_named b) ≡ b
unfolding kind_byte kind_named
kind_spelled zero h = refl
kind_spelled (suc zero) h = refl
kind_spelled (suc (suc zero)) h = refl
kind_spelled (suc (suc (suc b))) h = absurd (omega arith)

-- and a kind's byte names that kind
pub kind_named_lem : (k : NodeKind) → kind_named (kind_byte k) ≡ k
unfolding kind_byte kind_named
kind_named_lem AlignedLeaf = refl
kind_named_lem SlidingLeaf = refl
kind_named_lem Host = refl

-- a byte is that of the parent that it names
parent_byte_lem : (b : ℕ) → parent_byte (parent_of_byte b) ≡ b
unfolding parent_of_byte parent_byte
parent_byte_lem b = go (ltb b 128) (ltb-false b 128)
  where
    go : (x : Bool) → (x ≡ false → 128 ≤ b) → parent_byte (cond x (Supply b) (Under (b - 128))) ≡ b
    go true high = refl
    go false high = omega (arith, high refl)

-- and so it is where it names one that can be
pub parent_spelled : (b : ℕ) → is_named (parent_named b) ≡ true → parent_byte (parent_or (parent_named b)) ≡ b
unfolding parent_named parent_or is_named
parent_spelled b e = go (can_be (parent_of_byte b)) e
  where
    go : (x : Bool) → is_named (cond x (Some (parent_of_byte b)) None) ≡ true → parent_byte (parent_or (cond x (Some (parent_of_byte b)) None)) ≡ b
    go true named = parent_byte_lem b
    go false named = cc

-- the byte of a supply below 128 names that supply,
pub byte_supply : (s : ℕ) → s < 128 → parent_of_byte (parent_byte (Supply s)) ≡ Supply s
unfolding parent_of_byte parent_byte
byte_supply s h = rw (lt-ltb s 128 h)

-- that of a node that node,
pub byte_node : (h : ℕ) → parent_of_byte (parent_byte (Under h)) ≡ Under h
unfolding parent_of_byte parent_byte
byte_node h = let same : 128 + h - 128 ≡ h = omega arith in rw (le-ltb (128 + h) 128 (omega arith), same)

-- and so that of a parent that is allowed
pub parent_named_lem : (plan : Plan) (i : ℕ) (p : Parent) → plan.cores ≤ 8 → i ≤ 64 → Allowed plan i p → parent_named (parent_byte p) ≡ Some p
unfolding parent_named can_be
parent_named_lem plan i p few short (supply {s = n} l) = rw (byte_supply n (omega arith), lt-ltb n 8 (omega arith))
parent_named_lem plan i p few short (host {h = h} l e) = rw (byte_node h, lt-ltb h 64 (omega arith))

module _ (s : List ℕ) (k : ℕ) where
  -- the bytes of misses, where the edition has any, hold those that they spell
  pub misses_held : Bytes s → k + further s 4 ≤ length s → Holds s k (misses_bytes (edition_of s) (misses_or s k))
  unfolding further misses_bytes misses_or misses_at
  misses_held small h = go (eqb (edition_of s) 2) h
    where
      go : (b : Bool) → k + cond b 4 0 ≤ length s →
          Holds s k (cond b (two_bytes (cond b (misses_at s k) no_misses).d ++ two_bytes (cond b (misses_at s k) no_misses).w) [])
      go true l = pair_held s small k l
      go false l = holds_none s k (omega arith)

  -- and misses below 2^16 that are held, or else are those of an edition that has none, are the ones that are spelled
  pub misses_read : (m : Misses) → m.d < 65536 → m.w < 65536 → (eqb (edition_of s) 2 ≡ false → m ≡ no_misses) →
      Holds s k (misses_bytes (edition_of s) m) → misses_or s k ≡ m
  unfolding misses_bytes misses_or misses_at
  misses_read m d w other h = go (eqb (edition_of s) 2) other h
    where
      go : (b : Bool) → (b ≡ false → m ≡ no_misses) → Holds s k (cond b (two_bytes m.d ++ two_bytes m.w) []) → cond b (misses_at s k) no_misses ≡ m
      go true l held =
          let (missed, stretch) = pair_read s k m.d m.w d w held in
          λ i. record { d = missed i; w = stretch i }
      go false l held = sym (l refl)

-- a node's bytes from its start on hold the node that they spell
pub node_held : (s : List ℕ) → Bytes s → (i : ℕ) → NodeKept s i → Holds s (node_start s i) (node_bytes (edition_of s) (node_of s i))
unfolding node_bytes node_of served_at type_bytes two_bytes
node_held s small i h =
    let k = node_start s i in
    let a = type_bytes (type_at s (k + 2)) in
    let b = misses_bytes (edition_of s) (misses_or s (k + 6)) in
    let c = type_bytes (type_at s (served_at s i)) in
    let whole = h.whole in
    let long : length b ≡ further s 4 = misses_length (edition_of s) (misses_or s (k + 6)) ∙ sym (further_more s (edition_of s) 4 refl) in
    let wanted : Holds s (k + 2) a = type_held s small (k + 2) (omega arith) in
    let misses : Holds s (k + 6) b = misses_held s (k + 6) small (omega arith) in
    let served : Holds s (served_at s i) c = type_held s small (served_at s i) (omega arith) in
    let later : Holds s (k + 6) (b ++ c) = holds_join s (k + 6) b c misses (holds_at s _ _ c (omega arith) served) in
    cons_held s k _ _ (omega arith) (sym (kind_spelled _ h.kind))
    (cons_held s (k + 1) _ _ (omega arith) (sym (parent_spelled _ h.named))
    (holds_at s (k + 2) (k + 1 + 1) _ (omega arith) (holds_join s (k + 2) a (b ++ c) wanted (holds_at s (k + 6) (k + 2 + 4) _ (omega arith) later))))

-- what its bytes can say of a node of an edition: types and misses below 2^16, a parent that its byte names, and no misses where the edition has none
pub record Spelled (edition : ℕ) (n : Node) : Type 0 where
  pub wanted_count : n.wanted.c < 65536
  pub wanted_period : n.wanted.t < 65536
  pub missed : n.misses.d < 65536
  pub stretch : n.misses.w < 65536
  pub served_count : n.served.c < 65536
  pub served_period : n.served.t < 65536
  pub parent : parent_named (parent_byte n.parent) ≡ Some n.parent
  pub none : eqb edition 2 ≡ false → n.misses ≡ no_misses

-- and such a node that is held from its start on is the one that is spelled
pub node_read : (s : List ℕ) (i : ℕ) (n : Node) → Spelled (edition_of s) n → Holds s (node_start s i) (node_bytes (edition_of s) n) → node_of s i ≡ n
unfolding node_bytes node_of served_at type_bytes two_bytes parent_or
node_read s i n can h =
    let k = node_start s i in
    let rest = rest_held s (k + 1) _ _ (rest_held s k _ _ h) in
    let a = type_bytes n.wanted in
    let b = misses_bytes (edition_of s) n.misses in
    let c = type_bytes n.served in
    let long : length b ≡ further s 4 = misses_length (edition_of s) n.misses ∙ sym (further_more s (edition_of s) 4 refl) in
    let later : Holds s (k + 6) (b ++ c) = holds_at s (k + 1 + 1 + 4) (k + 6) (b ++ c) (omega arith) (holds_right s (k + 1 + 1) a (b ++ c) rest) in
    let kind : kind_named (byte_at s k) ≡ n.kind = ap kind_named (byte_read s k _ _ h) ∙ kind_named_lem n.kind in
    let parent : parent_or (parent_named (byte_at s (k + 1))) ≡ n.parent =
    ap (λ x. parent_or (parent_named x)) (byte_read s (k + 1) _ _ (rest_held s k _ _ h)) ∙ ap parent_or can.parent in
    let wanted =
    type_read s (k + 2) n.wanted can.wanted_count can.wanted_period
    (holds_at s (k + 1 + 1) (k + 2) a (omega arith) (holds_left s (k + 1 + 1) a (b ++ c) rest)) in
    let misses = misses_read s (k + 6) n.misses can.missed can.stretch can.none (holds_left s (k + 6) b c later) in
    let served =
    type_read s (served_at s i) n.served can.served_count can.served_period
    (holds_at s _ _ c (omega arith) (holds_right s (k + 6) b c later)) in
    λ j. record { kind = kind j; parent = parent j; wanted = wanted j; misses = misses j; served = served j }
