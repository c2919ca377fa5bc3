-- What specs/Needed.antt, specs/Whole.antt, specs/Switch.antt and specs/Soft.antt say holds: the checker computes the plans from their bytes, and each run. Assumes nothing.
use Prim.Native.Nat.{ℕ, zero, suc, ◌*◌, ◌%◌, ◌≤◌, ◌<◌}
use mathlib.Core.Bool.{Bool, true, false, not, cond, true≢false}
use mathlib.Core.List.{List, [], ◌∷◌}
use mathlib.Core.Path.{◌≡◌, refl, ap}
use native.Mathlib.Nat.{suc-mul, mul-add-mod_self_right}
use native.Mathlib.Omega.{arith}
use lib.Dec.{ltb, eqb}
use lib.ListN.{length, get_or, replicate, get_or-eq_default}
use borrow.Author.Tests.{ltb-true, eqb-true, not-true}
use Rattle.ticks.specs.Times.{in_range, is_fit}
use Rattle.meaning.specs.Allocation.{ones}
use Rattle.meaning.specs.Least.{lowest}
use Rattle.meaning.specs.Types.{well_formed, Honours}
use Rattle.meaning.specs.Soft.{within_range, met}
use Rattle.meaning.specs.declared.Kind.TheVariants.{Aligned}
use Rattle.meaning.specs.Written.{written}
use Rattle.meaning.proofs.WellFormed.{bounds}
use Rattle.owed.proofs.Ones.{ones_ext, ones_all}
use Rattle.types.specs.Verdict.{judged}
use Rattle.types.specs.Least.{step, turns, ones_from, ones_at, least_ones}
use Rattle.answers.specs.Answers.{Said, placed, accepted, said, accepts, first, test, each}
use Rattle.plans.specs.Plan.{node_at, supply_at, hosting, is_host, is_soft, wanted_as, own_type, same, is_child}
use Rattle.plans.specs.Sound.{all, allows, parent_allowed, up_to, within, borne, plain, sound_misses, sound_node, sound_supply, counts, is_edition, sound}
use Rattle.plans.specs.Cores.{upward, core_to, core_of}
use Rattle.plans.specs.declared.Parent.TheVariants.{Supply, Node as Under}
use Rattle.plans.specs.declared.Plan.{Plan}
use Rattle.plans.proofs.All.{all_true_at}
use Rattle.plans.proofs.Kept.{sound_kept}
use Rattle.rules.specs.Fit.{sum_to, most_to, child_period, longest, load, load_to, is_whole, owes, side}
use Rattle.soft.specs.Formula as formula
use Rattle.rules.specs.Check as check
use Rattle.fields.specs.Fields.{byte_at, two_at, four_at, type_at, misses_at, there, check_type}
use Rattle.decode.specs.Positions.{edition_of, further, cores_at, cores_of, supply_start, nodes_at, size_of, node_start, served_at, names_at, name_start, end_at}
use Rattle.decode.specs.Decode.{kind_named, parent_of_byte, can_be, parent_named, is_named, parent_or, misses_or, supply_of, node_of, filled, plan_of}
use Rattle.names.specs.Names.{is_length, is_letter, letter_at, check_letter, agrees_at, same_name, differs, is_new, check_name, check_names}
use Rattle.reader.specs.Read as read
use Rattle.reader.specs.Read.{read_plan}
use Rattle.dispatch.specs.View.{bit_of, is_leaf, served_c, served_t}
use Rattle.dispatch.specs.Choice.{takes, eligible, prefer, consider, choose_to, choose}
use Rattle.dispatch.specs.Passed.{is_nobody, passed_to, passed_over}
use Rattle.dispatch.specs.Slot.{due, refill_one, refill_to, refilled, charge, follow, walk, granting, serve_core, serve_to, slot}
use Rattle.dispatch.specs.Run as run
use Rattle.dispatch.specs.Run.{done, started, ran, out_after}
use Rattle.dispatch.specs.Reached.{Reached, at_start, by_run, by_step}
use Rattle.dispatch.specs.declared.Setting.{Setting}
use Rattle.dispatch.specs.declared.Setting.TheVariants.{Off, On}
use Rattle.unending.specs.Unending.{left_at, slot_at, has, charged}
use Rattle.partitions.specs.Case.{Case, slots_of, KeepsTypes, OverFirstPart, FromFresh, IsHard, IsSoft, ItsWindow, ItsStretch}
use Rattle.partitions.specs.Case.{InsideRun, DeclinesNowhere, asked, period, stretch, receives, received, short}
use Rattle.partitions.proofs.Kept.{one_run_too}
use Rattle.guarantee.specs.Needed.{
  Basis,
  Meets,
  always,
  bus,
  log_served,
  door_served,
  duo,
  odd_too,
  duo_served,
  NotEmpty,
  BoundsReached,
  supply_short,
  door_declines,
  ShortSupply,
  DeclinedOnce,
  run_ends,
  OutsideRun,
  between_windows,
  OffMultiple,
}
use Rattle.guarantee.specs.Whole.{customer, shorter, hosted, WholeServed, NewlyAccepted, NotQuiteWhole, OverfullByOne}
use Rattle.guarantee.specs.Switch.{door_gains, SiblingGains, VainUncharged, door_mixed, MixedServed, four_off, four_on, BothServed, NotEveryGrant}
use Rattle.guarantee.specs.Soft.{radio, meagre, meagre_first, all_taken, playing, MeetsSoft, SoftNotEmpty, NotOneMiss, HardOfSoft, OffStretch}
use Rattle.guarantee.specs.Soft.{cut_off, StretchOutside, pausing, SoftDeclines}

-- every core's bit is set in 255
core_always : (s : ℕ) → s < 8 → (n : ℕ) → slots_of always s n ≡ true
unfolding slots_of bit_of all
core_always s l n = all_true_at (bit_of 255) 8 refl s l

-- a supply of every core in every slot keeps a sound plan's types
always_keeps : (c : Case) → sound c.plan ≡ true → c.supply ≡ always → KeepsTypes c
always_keeps c e full s l b starts =
    let is = sound_kept c.plan e in
    rw (full, ones_all (slots_of always s) (core_always s (omega (arith, is.eight_cores))) b (supply_at c.plan s).t)
    (bounds (supply_at c.plan s) (is.supplies s l)).fits

-- core 0 is supplied in even slots and in odd ones,
even_and_odd : (n : ℕ) → slots_of odd_too 0 n ≡ true
unfolding slots_of bit_of
even_and_odd n = go (eqb (n % 2) 0)
  where
    go : (b : Bool) → bit_of (cond b 1 3) 0 ≡ true
    go true = refl
    go false = refl

-- and core 1 in the second slot of every two
every_second : (b : ℕ) → 1 ≤ ones (slots_of odd_too 1) (b * 2) 2
unfolding ones slots_of bit_of
every_second b = rw (mul-add-mod_self_right b 2 1) (omega arith)

-- so that the supply keeps the types of both
odd_keeps : KeepsTypes duo_served
unfolding supply_at
odd_keeps zero l b starts = rw (ones_all (slots_of odd_too 0) even_and_odd b 1) (omega arith)
odd_keeps (suc zero) l b starts = rw starts.1 (every_second starts.0)
odd_keeps (suc (suc s)) l b starts = absurd (omega arith)

-- a supply that is meagre for 24 slots and full from then on keeps the type of its one core,
meagre_later : (b : ℕ) → 7 ≤ ones (slots_of meagre_first 0) (suc (suc b) * 12) 12
unfolding slots_of bit_of
meagre_later b =
    rw (
      ones_ext (slots_of meagre_first 0) (λ n. bit_of 1 0) (suc (suc b) * 12) 12
          (λ m l k. ap (λ w. bit_of w 0) (past m (omega (arith, suc-mul (suc b) 12, suc-mul b 12)))),
      ones_all (λ n. bit_of 1 0) (λ n. refl) (suc (suc b) * 12) 12,
    ) (omega arith)
  where
    past : (n : ℕ) → 24 ≤ n → meagre_first n ≡ 1
    past n l = get_or-eq_default meagre 1 l

meagre_period : (b : ℕ) → 7 ≤ ones (slots_of meagre_first 0) (b * 12) 12
unfolding ones slots_of bit_of
meagre_period zero = omega arith
meagre_period (suc zero) = omega arith
meagre_period (suc (suc b)) = meagre_later b

-- and so it keeps the types of a plan with no other
meagre_keeps : (c : Case) → c.plan ≡ radio → c.supply ≡ meagre_first → KeepsTypes c
unfolding supply_at
meagre_keeps c radios meagres = rw (radios, meagres) go
  where
    go : (s : ℕ) → s < 1 → Honours Aligned (supply_at radio s) (slots_of meagre_first s)
    go zero l b starts = rw starts.1 (meagre_period starts.0)
    go (suc s) l b starts = absurd (omega arith)

-- whether a run's supply byte k is the unending supply's, and whether leaf i accepts slot k
begins : List ℕ → (ℕ → ℕ) → ℕ → Bool
begins supplies supply k = eqb (supply k) (get_or supplies k 0)

willing : List ℕ → ℕ → ℕ → Bool
willing declines i k = not (bit_of (get_or declines k 0) i)

-- a run over the first part of a supply, by a test of each slot
first_by_test : (c : Case) → all (begins c.supplies c.supply) (length c.supplies) ≡ true → OverFirstPart c
unfolding begins
first_by_test c e k l = eqb-true (c.supply k) (get_or c.supplies k 0) (all_true_at (begins c.supplies c.supply) (length c.supplies) e k l)

-- a leaf that declines nowhere in the run, by a test of each slot
accepting : (c : Case) (n : ℕ) → all (willing c.declines c.partition) (length c.declines) ≡ true → DeclinesNowhere c n
unfolding willing
accepting c n e x y l a b _ =
    not-true (bit_of (get_or c.declines x 0) c.partition) (all_true_at (willing c.declines c.partition) (length c.declines) e x l)

-- what is computed of a case: how the plan's bytes are read, whether the run is over the first part of the supply, whether the partition is there and a host,
-- and the partition's numbers
record Seen : Type 0 where
  answer : Said
  value : Plan
  first : Bool
  there : Bool
  host : Bool
  asks : ℕ
  gets : ℕ

look : Case → Seen
look c =
    record {
      answer = said (read_plan c.bytes).answer;
      value = (read_plan c.bytes).plan;
      first = all (begins c.supplies c.supply) (length c.supplies);
      there = ltb c.partition c.plan.size;
      host = is_host c.plan c.partition;
      asks = asked c;
      gets = received c;
    }

-- a case from a fresh start that is seen so comes to its numbers
basis : (c : Case) {asks gets : ℕ} → FromFresh c →
    look c ≡ record { answer = accepted; value = c.plan; first = true; there = true; host = false; asks = asks; gets = gets } → Basis c asks gets
unfolding look
basis c from e =
    record {
      accepts = record { answer = ap (λ s. s.answer) e; value = ap (λ s. s.value) e };
      first = first_by_test c (ap (λ s. s.first) e);
      fresh = from;
      partition = record { there = ltb-true c.partition c.plan.size (ap (λ s. s.there) e); leaf = ap (λ s. s.host) e };
      asking = ap (λ s. s.asks) e;
      getting = ap (λ s. s.gets) e;
    }

-- one run into ten bytes of 9, which is neither a node nor 254 or 255, or into as many as there are answers
by_one : (c : Case) (setting : Setting) (out : List ℕ) → c.settings ≡ replicate (length c.supplies) setting →
    (ran setting c.plan (started c.plan).state c.supplies c.declines (length out)).outcome ≡ done →
    c.buffer ≡ out_after setting c.plan (started c.plan).state c.supplies c.declines out → FromFresh c
by_one c setting out set e h = one_run_too c (record { setting = setting; out = out; set = set; ends = e; holds = h })

-- and such a run with every core supplied throughout, in which the partition never declines, meets every hypothesis
served : (c : Case) {asks gets : ℕ} (setting : Setting) (out : List ℕ) → c.settings ≡ replicate (length c.supplies) setting →
    (ran setting c.plan (started c.plan).state c.supplies c.declines (length out)).outcome ≡ done →
    c.buffer ≡ out_after setting c.plan (started c.plan).state c.supplies c.declines out →
    look c ≡ record { answer = accepted; value = c.plan; first = true; there = true; host = false; asks = asks; gets = gets } →
    sound c.plan ≡ true → c.supply ≡ always → all (willing c.declines c.partition) (length c.declines) ≡ true → IsHard c → ItsWindow c →
    InsideRun c (period c) → Meets c asks gets
served c setting out set ends holds seen kept full accepts hard window inside =
    record {
      basis = basis c (by_one c setting out set ends holds) seen;
      supplied = always_keeps c kept full;
      hard = hard;
      window = window;
      inside = inside;
      nowhere = accepting c (period c) accepts;
    }

-- and one of `m` under the meagre supply those of a soft partition
short_of : (setting : Setting) (window : ℕ) {asks gets shorts : ℕ} →
    let c = playing setting window in
    (ran setting radio (started radio).state meagre (replicate 24 0) 24).outcome ≡ done →
    all_taken ≡ out_after setting radio (started radio).state meagre (replicate 24 0) (replicate 24 9) →
    look c ≡ record { answer = accepted; value = radio; first = true; there = true; host = false; asks = asks; gets = gets } →
    all (willing (replicate 24 0) 0) 24 ≡ true → IsSoft c → ItsStretch c → InsideRun c (stretch c) → short c ≡ shorts → MeetsSoft c asks gets shorts
short_of setting window ends holds seen accepts soft starts inside counting =
    let c = playing setting window in
    record {
      basis = basis c (by_one c setting (replicate 24 9) refl ends holds) seen;
      supplied = meagre_keeps c refl refl;
      soft = soft;
      starts = starts;
      inside = inside;
      nowhere = accepting c (stretch c) accepts;
      counting = counting;
    }

-- every case is computed
computed : NotEmpty × BoundsReached × ShortSupply × DeclinedOnce × OutsideRun × OffMultiple × WholeServed × NotQuiteWhole × OverfullByOne × SiblingGains ×
    VainUncharged × BothServed × NotEveryGrant × MixedServed × SoftNotEmpty × NotOneMiss × HardOfSoft × OffStretch × StretchOutside × SoftDeclines
unfolding
    in_range is_fit ones lowest well_formed within_range met written judged step turns ones_from ones_at least_ones placed accepts first test each
    node_at supply_at hosting is_host is_soft wanted_as own_type same is_child all allows parent_allowed up_to within borne plain sound_misses sound_node sound_supply
    counts is_edition sound
    formula.divides formula.divided formula.greatest formula.can_lose formula.lost_of_many formula.lost_of_one formula.windows_in formula.lost
    formula.covered formula.loses formula.worst formula.loses_few formula.allowed
    upward core_to core_of sum_to most_to child_period longest load load_to is_whole owes side
    check.holding check.aligns check.made check.meets check.twenty_at check.eleven_at check.node_alone check.twelve_at check.alike check.thirteen_at check.fourteen_at check.check_parent check.check_supply check.check_host
    check.rules check.checked check.is_fit
    byte_at two_at four_at type_at misses_at there check_type edition_of further cores_at cores_of supply_start nodes_at size_of node_start served_at names_at name_start end_at
    kind_named parent_of_byte can_be parent_named is_named parent_or misses_or supply_of node_of filled plan_of
    is_length is_letter letter_at check_letter agrees_at same_name differs is_new check_name check_names
    read.check_part read.spare_at read.check_spare read.check_tick read.check_count read.check_supply read.check_supplies read.check_kind read.check_parent read.check_misses read.check_node read.check_nodes
    read.check_end read.check_bytes read.read_answer read.read_plan
    bit_of is_leaf served_c served_t takes eligible prefer consider choose_to choose is_nobody passed_to passed_over
    due refill_one refill_to refilled charge follow walk granting serve_core serve_to slot
    run.fresh_to run.fresh_left run.started run.left_within run.ready run.roomy run.in_time run.outcome run.course_to run.course_by run.course run.ran run.out_after run.stepped
    left_at slot_at has charged slots_of receives begins willing look
computed = (
  (
    served log_served Off (replicate 10 9) refl refl refl refl refl refl refl refl (0, refl) (omega arith),
    served door_served Off (replicate 10 9) refl refl refl refl refl refl refl refl tt (omega arith),
    record {
      basis = basis duo_served (record { state = _; answers = _; beyond = []; reached = three; holds = refl }) refl;
      supplied = odd_keeps;
      hard = refl;
      window = (1, refl);
      inside = omega arith;
      nowhere = accepting duo_served (period duo_served) refl;
    },
  ),
  (refl, refl),
  (
    basis supply_short (by_one supply_short Off (replicate 10 9) refl refl refl) refl,
    λ keeps. omega (arith, keeps 0 (omega arith) 2 (2, refl)),
    refl,
    tt,
    omega arith,
    accepting supply_short (period supply_short) refl,
  ),
  (
    basis door_declines (by_one door_declines Off (replicate 10 9) refl refl refl) refl,
    always_keeps door_declines refl refl,
    refl,
    tt,
    omega arith,
    λ accepts. true≢false (accepts 2 2 (omega arith) (omega arith) (omega arith) refl),
  ),
  (
    basis run_ends (by_one run_ends Off (replicate 10 9) refl refl refl) refl,
    always_keeps run_ends refl refl,
    refl,
    tt,
    λ inside. omega arith,
    accepting run_ends (period run_ends) refl,
  ),
  (
    basis between_windows (by_one between_windows Off (replicate 4 9) refl refl refl) refl,
    always_keeps between_windows refl refl,
    refl,
    λ starts. omega (arith, starts.1),
    omega arith,
    accepting between_windows (period between_windows) refl,
  ),
  (
    served customer Off (replicate 12 9) refl refl refl refl refl refl refl refl (1, refl) (omega arith),
    served shorter Off (replicate 12 9) refl refl refl refl refl refl refl refl (5, refl) (omega arith),
    served hosted Off (replicate 12 9) refl refl refl refl refl refl refl refl (1, refl) (omega arith),
  ),
  (refl, refl, refl, refl, refl),
  refl,
  (
    served door_served Off (replicate 10 9) refl refl refl refl refl refl refl refl tt (omega arith),
    served door_gains On (replicate 10 9) refl refl refl refl refl refl refl refl tt (omega arith),
  ),
  (refl, refl),
  (
    served four_off Off (replicate 4 9) refl refl refl refl refl refl refl refl (0, refl) (omega arith),
    served four_on On (replicate 4 9) refl refl refl refl refl refl refl refl (0, refl) (omega arith),
  ),
  (refl, refl),
  record {
    basis = basis door_mixed (record { state = _; answers = _; beyond = []; reached = mixed; holds = refl }) refl;
    supplied = always_keeps door_mixed refl refl;
    hard = refl;
    window = tt;
    inside = omega arith;
    nowhere = accepting door_mixed (period door_mixed) refl;
  },
  (
    short_of Off 0 refl refl refl refl refl (0, refl) (omega arith) refl,
    short_of On 12 refl refl refl refl refl (1, refl) (omega arith) refl,
  ),
  refl,
  (
    basis (playing Off 4) (by_one (playing Off 4) Off (replicate 24 9) refl refl refl) refl,
    meagre_keeps (playing Off 4) refl refl,
    true≢false,
    (1, refl),
    omega arith,
    accepting (playing Off 4) (period (playing Off 4)) refl,
  ),
  (
    basis (playing Off 4) (by_one (playing Off 4) Off (replicate 24 9) refl refl refl) refl,
    meagre_keeps (playing Off 4) refl refl,
    refl,
    λ starts. omega (arith, starts.1),
    omega arith,
    accepting (playing Off 4) (stretch (playing Off 4)) refl,
    refl,
  ),
  (
    basis cut_off (by_one cut_off Off (replicate 24 9) refl refl refl) refl,
    meagre_keeps cut_off refl refl,
    refl,
    (1, refl),
    λ inside. omega arith,
    accepting cut_off (stretch cut_off) refl,
    refl,
  ),
  (
    basis pausing (by_one pausing Off (replicate 24 9) refl refl refl) refl,
    meagre_keeps pausing refl refl,
    refl,
    (1, refl),
    omega arith,
    λ accepts. true≢false (accepts 20 20 (omega arith) (omega arith) (omega arith) refl),
    refl,
  ),
)
  where
    -- a run of one, a step, and a run of two
    three : Reached duo (record { clock = 4; left = 0 ∷ 0 ∷ replicate 62 0 }) (replicate 4 Off) (1 ∷ 3 ∷ 1 ∷ 3 ∷ []) (replicate 4 0) (0 ∷ 255 ∷ 254 ∷ 1 ∷ 0 ∷ 255 ∷ 254 ∷ 1 ∷ [])
    three =
        by_run (by_step (by_run (at_start refl) Off (1 ∷ []) (0 ∷ []) (replicate 2 9) refl) Off 3 0 refl) Off (1 ∷ 3 ∷ []) (0 ∷ 0 ∷ []) (replicate 4 9) refl

    -- a step with the switch off and one with it on, five times
    mixed : Reached bus (record { clock = 10; left = 1 ∷ 1 ∷ 1 ∷ replicate 61 0 }) door_mixed.settings (replicate 10 255) (replicate 10 2) door_mixed.buffer
    mixed =
        by_step (by_step (by_step (by_step (by_step (by_step (by_step (by_step (by_step (by_step (at_start refl)
        Off 255 2 refl) On 255 2 refl) Off 255 2 refl) On 255 2 refl) Off 255 2 refl) On 255 2 refl) Off 255 2 refl) On 255 2 refl) Off 255 2 refl) On 255 2 refl

-- demand 3 is not empty
pub not_empty : NotEmpty
not_empty = computed.0

-- and its bounds from above are reached
pub bounds_reached : BoundsReached
bounds_reached = computed.1

-- a supply that falls short can cost a partition a slot that it asked for
pub short_supply : ShortSupply
short_supply = computed.2

-- so can one decline
pub declined_once : DeclinedOnce
declined_once = computed.3

-- so can the end of the run
pub outside_run : OutsideRun
outside_run = computed.4

-- so can a window that starts at no multiple of an aligned leaf's period
pub off_multiple : OffMultiple
off_multiple = computed.5

-- a partition under a whole parent receives what it asked for, of a core that is shared out to its last slot
pub whole_served : WholeServed
whole_served = computed.6

-- by plans that had broken rule 12 as document 01 has it
pub newly_accepted : NewlyAccepted
unfolding node_at supply_at own_type
newly_accepted = (
  λ before. omega (arith, before.rule12 (Supply 0) 0 (record { there = omega arith; under = refl })),
  λ before. omega (arith, before.rule12 (Supply 0) 0 (record { there = omega arith; under = refl })),
  λ before. omega (arith, before.rule12 (Under 0) 1 (record { there = omega arith; under = refl })),
)

-- under a parent that is not quite whole its children are refused
pub not_quite_whole : NotQuiteWhole
not_quite_whole = computed.7

-- and so is one slot more than a whole parent has
pub overfull_by_one : OverfullByOne
overfull_by_one = computed.8

-- a sibling gains what a host's partitions leave
pub sibling_gains : SiblingGains
sibling_gains = computed.9

-- and the host, passed in vain, is not charged for it
pub vain_uncharged : VainUncharged
vain_uncharged = computed.10

-- under both settings a partition receives what it asked for
pub both_served : BothServed
both_served = computed.11

-- though not every grant stays
pub not_every_grant : NotEveryGrant
not_every_grant = computed.12

-- and so it does where each call has a setting of its own, with slots that neither setting alone gives
pub mixed_served : MixedServed
mixed_served = computed.13

-- what is promised of soft partitions is not empty, and as many windows are short as may be
pub soft_not_empty : SoftNotEmpty
soft_not_empty = computed.14

-- a leaf that may miss one window fewer is refused
pub not_one_miss : NotOneMiss
not_one_miss = computed.15

-- a soft partition may receive less in a window than it asked for
pub hard_of_soft : HardOfSoft
hard_of_soft = computed.16

-- as many windows as a stretch has can all be short where they are none,
pub off_stretch : OffStretch
off_stretch = computed.17

-- and so they can where the run ends in the stretch,
pub stretch_outside : StretchOutside
stretch_outside = computed.18

-- or the leaf declines in it
pub soft_declines : SoftDeclines
soft_declines = computed.19
