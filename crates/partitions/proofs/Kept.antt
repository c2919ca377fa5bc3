-- What specs/Promises.antt says of demand 3, for a plan value that fits, holds. Assumes nothing.
use Prim.Native.Nat.{ℕ, ◌+◌, ◌*◌, ◌/◌, ◌≤◌, ◌<◌}
use mathlib.Core.Bool.{Bool, true, false, ◌||◌}
use mathlib.Core.List.{List}
use mathlib.Core.Path.{◌≡◌, refl, sym, ◌∙◌}
use native.Mathlib.Decide.{dec_le}
use native.Mathlib.Nat.{mul_assoc, mul-div_cancel}
use native.Mathlib.Omega.{arith}
use lib.ListN.{length, get_or, take, drop, take-append-drop, get_or-eq_default}
use Rattle.meaning.specs.Allocation.{Allocation}
use Rattle.meaning.proofs.WellFormed.{bounds}
use Rattle.owed.proofs.Ones.{ones_ext}
use Rattle.plans.specs.Plan.{wanted_of, served_of}
use Rattle.plans.specs.declared.Parent.{Parent}
use Rattle.plans.specs.declared.Parent.TheVariants.{Supply, Node as Under}
use Rattle.plans.specs.declared.Plan.{Plan}
use Rattle.plans.proofs.Parents.{host_hosts}
use Rattle.plans.proofs.All.{left_true}
use Rattle.rules.specs.Check.{is_fit}
use Rattle.rules.specs.Fit.{Child, Fit}
use Rattle.rules.proofs.KeptBefore.{hard_as_before}
use Rattle.dispatch.specs.View.{view_of, bit_of, is_leaf, served_c, served_t}
use Rattle.dispatch.specs.Passed.{passed_over}
use Rattle.dispatch.specs.Run.{done, started, ready, ran, out_after}
use Rattle.dispatch.specs.Reached.{at_start, by_run}
use Rattle.dispatch.specs.declared.Setting.{Setting}
use Rattle.dispatch.specs.declared.Setting.TheVariants.{Off}
use Rattle.dispatch.proofs.Passing.{host_kept}
use Rattle.dispatch.proofs.Refusals.{done_tests}
use Rattle.dispatch.proofs.Takers.{zero_bit}
use Rattle.unending.specs.Unending.{passed_at, charged, may}
use Rattle.unending.proofs.Slots.{start_at}
use Rattle.unending.proofs.Kept.{granted_exactly, balance_after}
use Rattle.levels.proofs.Books.{never_over_yet}
use Rattle.partitions.specs.Case.{Case, KeepsTypes, OverFirstPart, FromFresh, IsPartition, InsideRun, DeclinesNowhere, period, misses, stretch, receives, offers}
use Rattle.partitions.specs.Promises.{Served, SoftServed, WholeGivesAll, NeverServedMore, NeverChargedMore, CountsTell, OneRunToo}
use Rattle.partitions.proofs.Dispatched.{dispatcher_keeps}
use Rattle.partitions.proofs.Standing.{soft_stands}
use Rattle.partitions.proofs.Tree.{whole_gives}
use Rattle.partitions.proofs.Window.{AsHonoured, stretch_honoured}
use Rattle.partitions.proofs.Stretch.{short_alike}
use Rattle.partitions.proofs.Run.{listed, set_by, run_granted, run_left}

-- a test joined with none
or_none : (a : Bool) → (a || false) ≡ a
or_none true = refl
or_none false = refl

-- a partition that declines nowhere in the run declines in no slot of its served periods that touch the window or the stretch
declines_nowhere : (c : Case) (n : ℕ) → DeclinesNowhere c n → (x y : ℕ) → c.window ≤ y → y < c.window + n →
    x / (served_of c.plan c.partition).t ≡ y / (served_of c.plan c.partition).t → bit_of (listed c.declines x) c.partition ≡ false
declines_nowhere c n nowhere x y l m e = go (dec_le (length c.declines) x)
  where
    go : Dec (length c.declines ≤ x) → bit_of (listed c.declines x) c.partition ≡ false
    go (yes past) = rw (get_or-eq_default c.declines 0 past) (zero_bit c.partition)
    go (no inside) = nowhere x y (omega arith) l m e

module _ (c : Case) (fit : Fit c.plan) (fresh : FromFresh c) (is : IsPartition c) where
  -- in a slot of the run a partition receives it where it is charged
  receives_charged : (supply : ℕ → ℕ) → ((k : ℕ) → k < length c.supplies → supply k ≡ get_or c.supplies k 0) → (n : ℕ) → n < length c.supplies →
      receives c.plan c.buffer c.partition n ≡ charged c.plan (set_by c.settings) supply (listed c.declines) c.partition n
  unfolding is_leaf
  receives_charged supply first n inside =
      run_granted c fit fresh supply first c.partition n is.there inside ∙
      granted_exactly c.plan fit (set_by c.settings) supply (listed c.declines) c.partition n is.there (rw is.leaf)

  -- over a window or a stretch inside the run, in whose touching served periods it does not decline, a partition receives the slots of an allocation that honours
  -- its served type
  received_honoured : KeepsTypes c → OverFirstPart c → (n : ℕ) → InsideRun c n → DeclinesNowhere c n →
      AsHonoured (served_of c.plan c.partition) (receives c.plan c.buffer c.partition) c.window n
  unfolding is_leaf
  received_honoured supplied first n inside nowhere =
      let so =
      stretch_honoured c.plan fit (set_by c.settings) c.supply (listed c.declines)
      (dispatcher_keeps c.plan fit (set_by c.settings) c.supply (listed c.declines)) supplied c.partition is.there (rw is.leaf) c.window n
      (declines_nowhere c n nowhere) in
      record {
        alike = so.alike;
        honours = so.honours;
        agrees = λ m a b. so.agrees m a b ∙ sym (receives_charged c.supply first m (omega arith));
      }

-- a partition that is hard receives what it asked for in each of its windows inside the run
pub served : Served
served c fit supplied first fresh is hard window inside nowhere =
    let so = received_honoured c fit fresh is supplied first (period c) inside nowhere in
    rw (ones_ext so.alike (receives c.plan c.buffer c.partition) c.window (period c) so.agrees) at
    (hard_as_before c.plan fit c.partition is.there hard so.alike so.honours c.window window)

-- and of a soft one at most D windows are short in each of its stretches inside the run
pub soft_served : SoftServed
soft_served c fit supplied first fresh is soft (b, at) inside nowhere =
    let so = received_honoured c fit fresh is supplied first (stretch c) inside nowhere in
    let T = period c in
    let W = (misses c).w in
    let from : c.window ≡ b * W * T = at ∙ sym (mul_assoc b W T) in
    rw (from, mul-div_cancel (b * W) {n = T} (bounds (wanted_of c.plan c.partition) (fit.sound.wanted c.partition is.there)).some)
    (short_alike (wanted_of c.plan c.partition) so.alike (receives c.plan c.buffer c.partition) (b * W) W
    (λ m l k. so.agrees m (omega (arith, from)) (omega (arith, from))) (misses c).d
    (soft_stands c.plan fit c.partition is.there soft so.alike so.honours b))

-- with the switch off a host that has a slot may give it: it is not passed over
off_may : (plan : Plan) → Fit plan → (settings : ℕ → Setting) (supply declines : ℕ → ℕ) (n : ℕ) → settings n ≡ Off → (x : Parent) (i : ℕ) → Child plan x i →
    offers plan settings supply declines x n ≡ true → may plan settings supply declines x n ≡ true
unfolding offers passed_at passed_over is_leaf
off_may plan fit settings supply declines n off (Supply s) i c e = e
off_may plan fit settings supply declines n off (Under h) i c e =
    let host = host_hosts plan fit.sound i c.there h c.under in
    rw (off, host_kept (view_of plan) (start_at plan settings supply declines n) (declines n) h (rw host), or_none) at e

-- a whole parent has every slot, and with the switch off may give it
pub whole_gives_all : WholeGivesAll
whole_gives_all c fit supplied settings declines x i child whole n =
    let has =
    whole_gives c.plan fit settings c.supply declines (dispatcher_keeps c.plan fit settings c.supply declines) supplied x i child whole n in
    (has, λ off. off_may c.plan fit settings c.supply declines n off x i child has)

-- no node, partition or host, is charged more than its served number in a served period or in so much of one
pub never_charged_more : NeverChargedMore
unfolding served_c served_t
never_charged_more plan fit settings supply declines i b n l part = never_over_yet ((dispatcher_keeps plan fit settings supply declines).books i l) b n part

-- and no partition is granted more than that
pub never_served_more : NeverServedMore
never_served_more c fit fresh is b n part inside =
    rw (ones_ext (receives c.plan c.buffer c.partition) mine (b * (served_of c.plan c.partition).t) n
    (λ m l k. receives_charged c fit fresh is (listed c.supplies) (λ k l. refl) m (omega arith)))
    (never_charged_more c.plan fit (set_by c.settings) (listed c.supplies) (listed c.declines) c.partition b n is.there part)
  where
    mine : Allocation
    mine = charged c.plan (set_by c.settings) (listed c.supplies) (listed c.declines) c.partition

-- the counts that are reached tell what was charged
pub counts_tell : CountsTell
unfolding served_c served_t
counts_tell c fit fresh i l b a below last =
    rw (run_left c fit fresh (listed c.supplies) (λ k m. refl), last)
    (balance_after c.plan fit (set_by c.settings) (listed c.supplies) (listed c.declines) i b a l below)

-- a run that is done has a plan that fits, and so a fresh start that is done
start_done : (setting : Setting) (plan : Plan) (supplies declines : List ℕ) (room : ℕ) →
    (ran setting plan (started plan).state supplies declines room).outcome ≡ done → (started plan).outcome ≡ done
unfolding ran ready started
start_done setting plan supplies declines room e =
    rw (left_true (is_fit plan) _ (done_tests plan (started plan).state (length supplies) (length declines) room e).0)

-- one run from a fresh start is one of runs and steps
pub one_run_too : OneRunToo
one_run_too c run =
    record {
      state = (ran run.setting c.plan (started c.plan).state c.supplies c.declines (length run.out)).state;
      answers = take (length c.supplies * c.plan.cores) after;
      beyond = drop (length c.supplies * c.plan.cores) after;
      reached =
          rw run.set
          (by_run (at_start (start_done run.setting c.plan c.supplies c.declines (length run.out) run.ends)) run.setting c.supplies
          c.declines run.out run.ends);
      holds = run.holds ∙ sym (take-append-drop (length c.supplies * c.plan.cores) after);
    }
  where
    after : List ℕ
    after = out_after run.setting c.plan (started c.plan).state c.supplies c.declines run.out
