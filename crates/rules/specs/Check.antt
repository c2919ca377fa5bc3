-- The check of rules 11 to 14 and 20 as the code is held to it, in the documents' order. That it answers by Fit and Broken is promised in Promises.
-- Assumes nothing.
use Rattle.std.specs.Prelude.{ℕ, suc, ◌%◌, Bool, true, false, not, cond, ◌&&◌, ◌||◌, leb, eqb}
use Rattle.meaning.specs.declared.Kind.TheVariants.{Aligned}
use Rattle.soft.specs.Formula.{divided, allowed}
use Rattle.types.specs.Verdict.{Said, holds, short, refused, judged}
use Rattle.answers.specs.Answers.{accepts, first, test, each, nowhere}
use Rattle.answers.specs.Answers.{Answer}
use Rattle.answers.specs.Answers.{Accepted, Refused}
use Rattle.plans.specs.Plan.{kind_of, wanted_of, misses_of, served_of, wanted_as, is_soft, own_type, is_child, is_host}
use Rattle.plans.specs.Sound.{all, sound}
use Rattle.plans.specs.declared.NodeKind.{NodeKind}
use Rattle.plans.specs.declared.NodeKind.TheVariants.{AlignedLeaf, SlidingLeaf, Host}
use Rattle.plans.specs.declared.Parent.{Parent}
use Rattle.plans.specs.declared.Parent.TheVariants.{Supply, Node as Under}
use Rattle.plans.specs.declared.Plan.{Plan}
use Rattle.rules.specs.Fit.{is_whole, load_to, side}

unfoldable pub holding : Said → Bool
holding (holds m) = true
holding (short m) = false
holding (refused r p) = false

unfoldable pub aligns : NodeKind → Bool
aligns AlignedLeaf = true
aligns SlidingLeaf = false
aligns Host = false

-- whether node i is made as a soft leaf has to be, where it is one
unfoldable pub made : Plan → ℕ → Bool
made plan i = not (is_soft plan i) || (aligns (kind_of plan i) && divided (served_of plan i) (wanted_of plan i))

-- whether node i's served type stands in for its wanted one: by the formula for a soft leaf, and by the decision on pairs for another node
unfoldable pub meets : Plan → ℕ → Bool
meets plan i =
    cond (is_soft plan i)
    (allowed (served_of plan i) (wanted_of plan i) (misses_of plan i))
    (holding (judged Aligned (served_of plan i) (wanted_as (kind_of plan i)) (wanted_of plan i)))

-- 20 at node i, and then rule 11, which is asked where 20 is kept
unfoldable pub twenty_at : Plan → ℕ → Answer
twenty_at plan i = test (made plan i) 20 i

unfoldable pub eleven_at : Plan → ℕ → Answer
eleven_at plan i = test (not (made plan i) || meets plan i) 11 i

unfoldable pub node_alone : Plan → ℕ → Answer
node_alone plan i = first (twenty_at plan i) (eleven_at plan i)

-- rules 12, 13 and 14 at node i, which matter where it is a child of x
unfoldable pub twelve_at : Plan → Parent → ℕ → Answer
twelve_at plan x i = test (not (is_child plan x i) || (is_whole (own_type plan x) || eqb ((served_of plan i).t % (own_type plan x).t) 0)) 12 i

unfoldable pub alike : Plan → Parent → ℕ → ℕ → Bool
alike plan x i j =
    not (is_child plan x j) ||
    (eqb ((served_of plan i).t % (served_of plan j).t) 0 || eqb ((served_of plan j).t % (served_of plan i).t) 0)

unfoldable pub thirteen_at : Plan → Parent → ℕ → Answer
thirteen_at plan x i = test (not (is_child plan x i) || all (alike plan x i) i) 13 i

unfoldable pub fourteen_at : Plan → Parent → ℕ → Answer
fourteen_at plan x i = test (not (is_child plan x i) || leb (load_to plan x (suc i)) (side plan x)) 14 i

-- 12, then 13, then 14 over all children of x
unfoldable pub check_parent : Plan → Parent → Answer
check_parent plan x =
    first (each (twelve_at plan x) plan.size)
    (first (each (thirteen_at plan x) plan.size) (each (fourteen_at plan x) plan.size))

unfoldable pub check_supply : Plan → ℕ → Answer
check_supply plan s = check_parent plan (Supply s)

unfoldable pub check_host : Plan → ℕ → Answer
check_host plan h = cond (is_host plan h) (check_parent plan (Under h)) Accepted

-- rules 11 to 14 and 20, for a value that keeps 2 to 7 and 19
unfoldable pub rules : Plan → Answer
rules plan =
    first (each (node_alone plan) plan.size)
    (first (each (check_supply plan) plan.cores) (each (check_host plan) plan.size))

-- the first broken rule; 01, refusal 16: "plan value not fit", for a value that breaks one of 2 to 7 or 19
unfoldable pub checked : Plan → Answer
checked plan = cond (sound plan) (rules plan) (Refused 16 nowhere)

-- whether a value fits
unfoldable pub is_fit : Plan → Bool
is_fit plan = accepts (checked plan)
