-- What the calls that put node lines answer: a node's depth and its least ones. Assumes nothing.
use Rattle.std.proofs.Common.{ℕ, suc, ◌+◌, ◌-◌, ◌≤◌, ◌<◌, ◌≡◌, Bool, true, false, cond, leb, Result, Ok, Err, IsOk, refl, ◌∙◌, zero-add, arith}
use Rattle.meaning.specs.declared.Kind.{Kind}
use Rattle.meaning.specs.declared.Kind.TheVariants.{Aligned}
use Rattle.meaning.specs.Types.{well_formed}
use Rattle.types.specs.Least.{least_ones}
use Rattle.types.specs.Verdict.{holds, short, judged}
use Rattle.types.specs.Verdict as verdict
use Rattle.types.specs.declared.Verdict.{Verdict}
use Rattle.types.specs.declared.Verdict.TheVariants.{Holds, Short}
use Rattle.types.specs.declared.Refusal.{Refusal}
use Rattle.types.specs.declared.Refusal.TheVariants.{Giver, Wanted}
use Rattle.plans.proofs.Kept.{sound_kept}
use Rattle.plans.specs.Plan.{node_at, wanted_as}
use Rattle.plans.specs.Sound.{sound}
use Rattle.plans.specs.declared.Parent.TheVariants.{Supply, Node as Under}
use Rattle.plans.specs.declared.Node.{Node}
use Rattle.plans.specs.declared.Plan.{Plan}
use Rattle.listing.specs.Text.{above, depth_to, depth_of, least_of}

-- The walk up from node i: `at` was reached after some steps, of at most eight, and what is still above it makes up the depth of node i.
abbrev pub Climbed : Plan → ℕ → ℕ → ℕ → Type 0
Climbed plan i at steps = steps + depth_to plan (8 - steps) at ≡ depth_of plan i

-- before the first step
pub depth_none : (plan : Plan) (i : ℕ) → Climbed plan i i 0
unfolding depth_of
depth_none plan i = zero-add (depth_to plan 8 i)

-- eight steps are all
pub depth_done : (plan : Plan) (i at steps : ℕ) → Climbed plan i at steps → steps ≤ 8 → 8 ≤ steps → 8 ≡ depth_of plan i
unfolding depth_to
depth_done plan i at steps e l h =
    let all : steps ≡ 8 = omega arith in
    rw all at e

module _ (plan : Plan) (i at steps : ℕ) (e : Climbed plan i at steps) (l : steps < 8) (n : Node) (here : n ≡ node_at plan at) where
  -- one step more is what is above the parent
  climb : steps + suc (above (depth_to plan (8 - (steps + 1))) n.parent) ≡ depth_of plan i
  unfolding depth_to
  climb =
      let less : 8 - steps ≡ suc (8 - (steps + 1)) = omega arith in
      rw here (rw less at e)

  -- a supply is met
  pub depth_supply : (s : ℕ) → n.parent ≡ Supply s → steps + 1 ≡ depth_of plan i
  unfolding above
  depth_supply s up = rw up at climb

  -- or a host
  pub depth_host : (h w : ℕ) → n.parent ≡ Under h → w ≡ h → Climbed plan i w (steps + 1)
  unfolding above
  depth_host h w up wide = rw wide (omega (arith, rw up at climb))

-- an answer that is a verdict with these ones
abbrev Counts : ℕ → Result Verdict Refusal → Type 0
Counts least (Ok (Holds m)) = m ≡ least
Counts least (Ok (Short m)) = m ≡ least
Counts least (Err x) = ⊥

counts_lem : (least : ℕ) (b : Bool) (r : Result Verdict Refusal) → verdict.said r ≡ cond b (holds least) (short least) → Counts least r
counts_lem least true (Ok (Holds m)) k = cc
counts_lem least false (Ok (Holds m)) k = cc
counts_lem least true (Ok (Short m)) k = cc
counts_lem least false (Ok (Short m)) k = cc
counts_lem least true (Err Giver) k = cc
counts_lem least false (Err Giver) k = cc
counts_lem least true (Err Wanted) k = cc
counts_lem least false (Err Wanted) k = cc

-- The answer on the two types of node i, which are well formed in a sound plan, is a verdict.
module _ (plan : Plan) (i : ℕ) (keeps : sound plan ≡ true) (l : i < plan.size) (n : Node) (here : n ≡ node_at plan i)
    (gives wants : Kind) (r : Result Verdict Refusal) (e : verdict.said r ≡ judged gives n.served wants n.wanted) where
  counted : Counts (least_ones gives n.served wants n.wanted) r
  unfolding judged
  counted =
      let least = least_ones gives n.served wants n.wanted in
      let served : well_formed n.served ≡ true = rw here ((sound_kept plan keeps).served i l) in
      let wanted : well_formed n.wanted ≡ true = rw here ((sound_kept plan keeps).wanted i l) in
      counts_lem least (leb n.wanted.c least) r (rw (served, wanted) at e)

  pub least_judged : IsOk r
  least_judged = go r counted
    where
      go : (r : Result Verdict Refusal) → Counts (least_ones gives n.served wants n.wanted) r → IsOk r
      go (Ok v) k = refl
      go (Err x) k = absurd k

  -- with the node's least ones, where the kinds are those of document 01
  module _ (aligned : gives ≡ Aligned) (kind : wants ≡ wanted_as n.kind) where
    least_same : least_ones gives n.served wants n.wanted ≡ least_of plan i
    unfolding least_of
    least_same = rw (aligned, kind, here)

    pub least_holds : (v : Verdict) → r ≡ Ok v → (m : ℕ) → v ≡ Holds m → m ≡ least_of plan i
    least_holds v o m h = (rw (o, h) at counted) ∙ least_same

    pub least_short : (v : Verdict) → r ≡ Ok v → (m : ℕ) → v ≡ Short m → m ≡ least_of plan i
    least_short v o m h = (rw (o, h) at counted) ∙ least_same
