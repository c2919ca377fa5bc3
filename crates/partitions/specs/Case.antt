-- The case that demand 3 speaks of, and its notions, each a sentence's part over that case. Only whether the bytes are accepted is not said here. Assumes
-- nothing.
use Rattle.std.specs.Prelude.{ℕ, ◌+◌, ◌*◌, ◌/◌, ◌≤◌, ◌<◌, Bool, true, false, ◌||◌, List, ◌++◌, ◌≡◌, eqb, length, get_or, replicate}
use Rattle.meaning.specs.Allocation.{Allocation, ones}
use Rattle.meaning.specs.Types.{Starts, Honours}
use Rattle.meaning.specs.Soft.{missed}
use Rattle.meaning.specs.declared.Misses.{Misses}
use Rattle.meaning.specs.declared.Kind.TheVariants.{Aligned}
use Rattle.plans.specs.Plan.{There, supply_at, kind_of, wanted_of, misses_of, served_of, wanted_as, is_host, is_soft}
use Rattle.plans.specs.Cores.{core_of}
use Rattle.plans.specs.declared.Parent.{Parent}
use Rattle.plans.specs.declared.Parent.TheVariants.{Supply, Node as Under}
use Rattle.plans.specs.declared.Plan.{Plan}
use Rattle.dispatch.specs.View.{bit_of}
use Rattle.dispatch.specs.Slot.{unsupplied}
use Rattle.dispatch.specs.Run.{done, Standing, started, ran, out_after}
use Rattle.dispatch.specs.Reached.{Reached}
use Rattle.dispatch.specs.declared.Setting.{Setting}
use Rattle.dispatch.specs.declared.Setting.TheVariants.{Off}
use Rattle.unending.specs.Unending.{passed_at, charged, may}

-- A plan, as bytes and as a value; an unending supply, of which `supply n` is the byte of supplied cores of slot n; a run, by its settings, one for each slot, its
-- supply bytes, its decline words and the buffer that has its answers; a partition, by its node's number; and the slot at which a window of it starts, the first
-- one where several are meant.
pub record Case : Type 0 where
  pub bytes : List ℕ
  pub plan : Plan
  pub supply : ℕ → ℕ
  pub settings : List Setting
  pub supplies : List ℕ
  pub declines : List ℕ
  pub buffer : List ℕ
  pub partition : ℕ
  pub window : ℕ

-- the slots in which core s is supplied
unfoldable pub slots_of : (ℕ → ℕ) → ℕ → Allocation
slots_of supply s n = bit_of (supply n) s

-- "any unending supply that gives each core its stated slots in every aligned period"
abbrev pub KeepsTypes : Case → Type 0
KeepsTypes c = (s : ℕ) → s < c.plan.cores → Honours Aligned (supply_at c.plan s) (slots_of c.supply s)

-- "In any run over its first part": the run's supply bytes are the first ones of the unending supply
abbrev pub OverFirstPart : Case → Type 0
OverFirstPart c = (k : ℕ) → k < length c.supplies → c.supply k ≡ get_or c.supplies k 0

-- "started fresh": the buffer begins with the answers of runs and steps, one after the other, from a fresh start and over these inputs, each call with a setting
-- of its own
pub record FromFresh (c : Case) : Type 0 where
  pub state : Standing
  pub answers : List ℕ
  pub beyond : List ℕ
  pub reached : Reached c.plan state c.settings c.supplies c.declines answers
  pub holds : c.buffer ≡ answers ++ beyond

-- the same by one run, with one setting, into a buffer `out`
pub record ByOneRun (c : Case) : Type 0 where
  pub setting : Setting
  pub out : List ℕ
  pub set : c.settings ≡ replicate (length c.supplies) setting
  pub ends : (ran setting c.plan (started c.plan).state c.supplies c.declines (length out)).outcome ≡ done
  pub holds : c.buffer ≡ out_after setting c.plan (started c.plan).state c.supplies c.declines out

-- "a partition": a node of the plan that is a leaf
pub record IsPartition (c : Case) : Type 0 where
  pub there : There c.plan c.partition
  pub leaf : is_host c.plan c.partition ≡ false

-- 02, request 6: "Leaves with D = 0 .. are treated as hard", and the others are soft
abbrev pub IsHard : Case → Type 0
IsHard c = is_soft c.plan c.partition ≡ false

abbrev pub IsSoft : Case → Type 0
IsSoft c = is_soft c.plan c.partition ≡ true

-- how many slots the partition asked for, and in how many
abbrev pub asked : Case → ℕ
asked c = (wanted_of c.plan c.partition).c

abbrev pub period : Case → ℕ
period c = (wanted_of c.plan c.partition).t

-- "every one of its windows": an aligned leaf's windows start at multiples of T', a sliding leaf's anywhere
abbrev pub ItsWindow : Case → Type 0
ItsWindow c = Starts (wanted_as (kind_of c.plan c.partition)) (period c) c.window

-- how many of its windows a soft partition may miss, D of each W
abbrev pub misses : Case → Misses
misses c = misses_of c.plan c.partition

-- how many slots a stretch of it has, W windows
abbrev pub stretch : Case → ℕ
stretch c = (misses c).w * period c

-- 02, request 6: "in every W wanted windows starting at a multiple of W·T'"
abbrev pub ItsStretch : Case → Type 0
ItsStretch c = Starts Aligned (stretch c) c.window

-- "that lies inside the run": so do the n slots of a window, or of a whole stretch
abbrev pub InsideRun : Case → ℕ → Type 0
InsideRun c n = c.window + n ≤ length c.supplies

-- "provided it declines in no slot of its served periods that touch that window", and with a soft leaf "that touch the stretch": no slot x of the run that lies in
-- the same served period as some slot y of the n slots of the window or the stretch has the partition's decline bit set
abbrev pub DeclinesNowhere : Case → ℕ → Type 0
DeclinesNowhere c n =
    let T : ℕ = (served_of c.plan c.partition).t in
    (x y : ℕ) → x < length c.declines → c.window ≤ y → y < c.window + n → x / T ≡ y / T → bit_of (get_or c.declines x 0) c.partition ≡ false

-- the slots that went to partition i, by a buffer: the answer of its own core is i
unfoldable pub receives : Plan → List ℕ → ℕ → Allocation
receives plan buffer i n = eqb (get_or buffer (n * plan.cores + core_of plan i) unsupplied) i

-- "a partition receives": how many slots went to it in the window
abbrev pub received : Case → ℕ
received c = ones (receives c.plan c.buffer c.partition) c.window (period c)

-- "windows short": how many windows of the stretch, whose first starts at slot v·T' and so has the number v, received fewer slots than the partition asked for
abbrev pub short : Case → ℕ
short c =
    missed Aligned (wanted_of c.plan c.partition) (receives c.plan c.buffer c.partition) (c.window / period c) (misses c).w

-- the slots in which node i, partition or host, is charged in the run
abbrev pub charges : Case → ℕ → Allocation
charges c i = charged c.plan (λ n. get_or c.settings n Off) (λ n. get_or c.supplies n 0) (λ n. get_or c.declines n 0) i

-- parent x has slot n for its children: it may give it, or it is a host that is passed over in it, since none of them takes it (02, request 12)
unfoldable pub offers : Plan → (ℕ → Setting) → (ℕ → ℕ) → (ℕ → ℕ) → Parent → ℕ → Bool
offers plan settings supply declines (Supply s) n = may plan settings supply declines (Supply s) n
offers plan settings supply declines (Under h) n = may plan settings supply declines (Under h) n || passed_at plan settings supply declines n h
