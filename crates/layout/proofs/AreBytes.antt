-- Every number that a plan file is laid out with is a byte. Assumes nothing.
use Prim.Native.Nat.{ℕ, zero, suc, ◌+◌, ◌-◌, ◌/◌, ◌%◌, ◌≤◌, ◌<◌}
use mathlib.Core.Bool.{Bool, true, false, cond}
use mathlib.Core.List.{List, [], ◌∷◌, ◌++◌}
use mathlib.Core.Logic.{◌⊎◌, inl, inr}
use mathlib.Core.Path.{◌≡◌, sym, subst}
use native.Mathlib.Decide.{dec_lt}
use native.Mathlib.Omega.{arith}
use lib.Dec.{eqb}
use lib.ListN.{length, get_or, length-append, get_or-append}
use lib.Seq.{get_or-append-add}
use Rattle.meaning.specs.declared.SlotType.{SlotType}
use Rattle.meaning.specs.declared.Misses.{Misses}
use Rattle.plans.specs.Plan.{supply_at, parent_of, kind_of, wanted_of, misses_of, served_of}
use Rattle.plans.specs.Sound.{Allowed, supply, host, Sound}
use Rattle.plans.specs.declared.Parent.{Parent}
use Rattle.plans.specs.declared.Plan.{Plan}
use Rattle.layout.specs.Layout.{two_bytes, four_bytes, type_bytes, kind_byte, parent_byte, misses_bytes, node_bytes, spare_bytes, name_bytes, lays, supply_part, node_part, name_part, tick_bytes, supplies_bytes, nodes_bytes, names_bytes, plan_bytes, SoundNames}
use Rattle.layout.specs.Promises.{Bytes, FilesAreBytes}
use Rattle.layout.proofs.Widths.{spare_zero}
use Rattle.layout.proofs.Back.{kind_small}

-- lists of bytes: none, one more, one after the other, and many
bytes_none : Bytes []
bytes_none k l = absurd (omega arith)

bytes_more : (b : ℕ) (x : List ℕ) → b < 256 → Bytes x → Bytes (b ∷ x)
bytes_more b x h rest zero l = h
bytes_more b x h rest (suc k) l = rest k (omega arith)

bytes_join : (x y : List ℕ) → Bytes x → Bytes y → Bytes (x ++ y)
bytes_join x y a b k l = go (dec_lt k (length x))
  where
    go : Dec (k < length x) → get_or (x ++ y) k 0 < 256
    go (yes m) = rw (get_or-append x y 0 k m) (a k m)
    go (no m) =
        let at : length x + (k - length x) ≡ k = omega arith in
        let later : get_or (x ++ y) (length x + (k - length x)) 0 < 256 =
        rw (get_or-append-add x y (k - length x) 0) (b (k - length x) (omega (arith, length-append x y))) in
        subst (λ j. get_or (x ++ y) j 0 < 256) at later

bytes_lays : (f : ℕ → List ℕ) (n : ℕ) → ((i : ℕ) → i < n → Bytes (f i)) → Bytes (lays f n)
unfolding lays
bytes_lays f zero h = bytes_none
bytes_lays f (suc n) h = bytes_join (lays f n) (f n) (bytes_lays f n (λ i l. h i (omega arith))) (h n (omega arith))

-- a number in two bytes, two numbers in four, one in four, and a type
bytes_two : (n : ℕ) → Bytes (two_bytes n)
unfolding two_bytes
bytes_two n = bytes_more (n % 256) (n / 256 % 256 ∷ []) (omega arith) (bytes_more (n / 256 % 256) [] (omega arith) bytes_none)

bytes_pair : (m n : ℕ) → Bytes (two_bytes m ++ two_bytes n)
bytes_pair m n = bytes_join (two_bytes m) (two_bytes n) (bytes_two m) (bytes_two n)

bytes_four : (n : ℕ) → Bytes (four_bytes n)
unfolding four_bytes
bytes_four n = bytes_pair (n % 65536) (n / 65536)

bytes_type : (a : SlotType) → Bytes (type_bytes a)
unfolding type_bytes
bytes_type a = bytes_pair a.c a.t

-- misses and spare bytes, which are there in edition 2
bytes_misses : (edition : ℕ) (m : Misses) → Bytes (misses_bytes edition m)
unfolding misses_bytes
bytes_misses edition m = go (eqb edition 2) _ (bytes_pair _ _)
  where
    go : (b : Bool) (x : List ℕ) → Bytes x → Bytes (cond b x [])
    go true x h = h
    go false x h = bytes_none

bytes_spare : (edition : ℕ) → Bytes (spare_bytes edition)
bytes_spare edition k l = omega (arith, spare_zero edition k)

-- an edition
edition_small : (plan : Plan) → Sound plan → plan.edition < 256
edition_small plan sound = go sound.edition
  where
    go : (plan.edition ≡ 1) ⊎ (plan.edition ≡ 2) → plan.edition < 256
    go (inl e) = omega arith
    go (inr e) = omega arith

-- the byte of a parent that is allowed
parent_small : (plan : Plan) (i : ℕ) (p : Parent) → plan.cores ≤ 8 → i ≤ 64 → Allowed plan i p → parent_byte p < 256
unfolding parent_byte
parent_small plan i p few short (supply l) = omega arith
parent_small plan i p few short (host l e) = omega arith

module _ (plan : Plan) (names : List (List ℕ)) (sound : Sound plan) (named : SoundNames plan names) where
  bytes_node : (i : ℕ) → i < plan.size → Bytes (node_part plan i)
  unfolding node_part node_bytes
  bytes_node i l =
      let wanted = type_bytes (wanted_of plan i) in
      let misses = misses_bytes plan.edition (misses_of plan i) in
      let served = type_bytes (served_of plan i) in
      let parent = parent_byte (parent_of plan i) in
      bytes_more (kind_byte (kind_of plan i)) (parent ∷ (wanted ++ (misses ++ served))) (omega (arith, kind_small (kind_of plan i)))
      (bytes_more parent (wanted ++ (misses ++ served))
      (parent_small plan i (parent_of plan i) sound.eight_cores (omega (arith, sound.sixty_four_nodes)) (sound.parents i l))
      (bytes_join wanted (misses ++ served) (bytes_type (wanted_of plan i))
      (bytes_join misses served (bytes_misses plan.edition (misses_of plan i)) (bytes_type (served_of plan i)))))

  bytes_name : (i : ℕ) → i < plan.size → Bytes (name_part names i)
  unfolding name_part name_bytes
  bytes_name i l =
      let name = get_or names i [] in
      bytes_more (length name) name (omega (arith, named.short i l)) (λ k m. omega (arith, (named.letters i k l m).1))

  -- the four sections
  bytes_tick : Bytes (tick_bytes plan)
  unfolding tick_bytes
  bytes_tick =
      let p = four_bytes plan.tick.p in
      let q = four_bytes plan.tick.q in
      let spare = spare_bytes plan.edition in
      bytes_more plan.edition (p ++ (q ++ spare)) (edition_small plan sound)
      (bytes_join p (q ++ spare) (bytes_four plan.tick.p) (bytes_join q spare (bytes_four plan.tick.q) (bytes_spare plan.edition)))

  bytes_supplies : Bytes (supplies_bytes plan)
  unfolding supplies_bytes supply_part
  bytes_supplies =
      bytes_more plan.cores (lays (supply_part plan) plan.cores) (omega (arith, sound.eight_cores))
      (bytes_lays (supply_part plan) plan.cores (λ i l. bytes_type (supply_at plan i)))

  bytes_nodes : Bytes (nodes_bytes plan)
  unfolding nodes_bytes
  bytes_nodes =
      bytes_more plan.size (lays (node_part plan) plan.size) (omega (arith, sound.sixty_four_nodes))
      (bytes_lays (node_part plan) plan.size bytes_node)

  bytes_names : Bytes (names_bytes plan names)
  unfolding names_bytes
  bytes_names =
      bytes_more plan.size (lays (name_part names) plan.size) (omega (arith, sound.sixty_four_nodes))
      (bytes_lays (name_part names) plan.size bytes_name)

  -- one after the other
  bytes_plan : Bytes (plan_bytes plan names)
  unfolding plan_bytes
  bytes_plan =
      let third = nodes_bytes plan in
      let fourth = names_bytes plan names in
      bytes_join (tick_bytes plan) (supplies_bytes plan ++ (third ++ fourth)) bytes_tick
      (bytes_join (supplies_bytes plan) (third ++ fourth) bytes_supplies (bytes_join third fourth bytes_nodes bytes_names))

-- the file of a sound value is a list of bytes
pub files_are_bytes : FilesAreBytes
files_are_bytes s plan names file sound = subst Bytes (sym file.laid) (bytes_plan plan names sound file.named)
