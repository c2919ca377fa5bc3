-- What specs/Promises.antt says of a listing holds. Assumes nothing.
use Prim.Native.Nat.{ℕ, zero, suc, ◌≤◌}
use mathlib.Core.List.{List}
use mathlib.Core.Path.{◌≡◌, refl, sym, ap, ◌∙◌}
use native.Mathlib.Omega.{arith}
use lib.ListN.{take}
use Rattle.std.specs.Prelude.{Ok, Err}
use lib.Seq.{take_all}
use Rattle.meaning.specs.declared.Kind.TheVariants.{Aligned}
use Rattle.meaning.proofs.WellFormed.{bounds}
use Rattle.types.proofs.KeptLeast.{least_of_lem}
use Rattle.answers.specs.Answers.{Answer, Accepted, Refused}
use Rattle.plans.proofs.Depth.{depth_positive}
use Rattle.plans.proofs.Parents.{node_depth}
use Rattle.plans.specs.Plan.{kind_of, wanted_of, served_of, wanted_as}
use Rattle.plans.specs.Sound.{Depth, top, under}
use Rattle.plans.specs.declared.Plan.{Plan}
use Rattle.reader.specs.Read.{read_plan}
use Rattle.layout.proofs.Reach.{accepted_short}
use Rattle.layout.proofs.Longer.{longer_alike}
use Rattle.listing.proofs.Texts.{text_most}
use Rattle.listing.specs.Promises.{Suffices, DepthPrinted, LeastPrinted, OneListing, LongerListed}
use Rattle.listing.specs.Text.{above, depth_to, depth_of, least_of, refused_text, text}

-- 3,708 bytes always suffice
pub suffices : Suffices
suffices = text_most

-- a depth of at most k is found within k steps
depth_found : (plan : Plan) (k : ℕ) {i d : ℕ} → Depth plan i d → d ≤ k → depth_to plan k i ≡ d
unfolding depth_to above
depth_found plan zero a l = absurd (omega (arith, depth_positive plan a))
depth_found plan (suc k) (top p) l = rw p
depth_found plan (suc k) (under p a) l = rw p (ap suc (depth_found plan k a (omega arith)))

-- the depth that is printed is the node's depth
pub depth_printed : DepthPrinted
unfolding depth_of
depth_printed plan sound i l =
    let found = node_depth plan sound i l in
    rw (depth_found plan 8 found.is found.most) found.is

-- the least ones that are printed are the least of the meaning
pub least_printed : LeastPrinted
unfolding least_of
least_printed plan sound i l =
    least_of_lem Aligned (wanted_as (kind_of plan i)) (wanted_of plan i) (bounds (served_of plan i) (sound.served i l))

-- two answers that say the same are the same
pub one_listing : OneListing
one_listing (Ok n) (Ok m) e = cc
one_listing (Ok n) (Err _) e = cc
one_listing (Err _) (Ok m) e = cc
one_listing (Err _) (Err _) e = refl

-- a refused plan is listed by its refusal alone
refused_text_lem : (s : List ℕ) (r k : ℕ) → (read_plan s).answer ≡ Refused r k → text s ≡ refused_text r k
unfolding text
refused_text_lem s r k e = rw e

-- what stands beyond byte 3,061 changes nothing: an accepted plan ends before it, and a refused one is answered alike
pub longer_listed : LongerListed
longer_listed s n l = go (read_plan s).answer refl
  where
    go : (a : Answer) → (read_plan s).answer ≡ a → text (take n s) ≡ text s
    go Accepted e = ap text (take_all n s (omega (arith, accepted_short s e)))
    go (Refused r k) e = refused_text_lem (take n s) r k (ap (λ x. x.answer) (longer_alike s n l) ∙ e) ∙ sym (refused_text_lem s r k e)
