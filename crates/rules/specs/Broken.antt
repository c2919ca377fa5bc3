-- Which rule is broken first, and where: document 01, the rows 11 to 14 of "Refusal numbers" and the order below them, and document 02, request 6, for 20.
-- Assumes nothing.
use Rattle.std.specs.Prelude.{ℕ, suc, ◌<◌, List, [], ◌∷◌, ◌⊎◌, ◌≡◌}
use Rattle.plans.specs.Plan.{There}
use Rattle.plans.specs.declared.Parent.{Parent}
use Rattle.plans.specs.declared.Parent.TheVariants.{Supply, Node as Under}
use Rattle.plans.specs.declared.Plan.{Plan}
use Rattle.rules.specs.Fit.{Child, Rule20, Rule11, Rule12, Rule13, load_to, side}

-- a way to break a rule: 20 or 11 at a node; 12, 13 or 14 under a parent, at a child
pub data Breach : Type 0 where
  twenty : ℕ → Breach
  eleven : ℕ → Breach
  twelve : Parent → ℕ → Breach
  thirteen : Parent → ℕ → Breach
  fourteen : Parent → ℕ → Breach

abbrev pub number : Breach → ℕ
number (twenty i) = 20
number (eleven i) = 11
number (twelve x i) = 12
number (thirteen x i) = 13
number (fourteen x i) = 14

abbrev pub place : Breach → ℕ
place (twenty i) = i
place (eleven i) = i
place (twelve x i) = i
place (thirteen x i) = i
place (fourteen x i) = i

-- 01: "rule 11 broken: node"; "lowest such child"; "lowest child at odds with an earlier sibling"; "lowest child at which the running sum, in node
-- order, passes the parent's side". That it is the lowest is the order's to say. 02: "20 at a soft leaf's node not so made, just before its 11": rule 11 is
-- asked of a node that keeps 20.
abbrev pub Broken : Plan → Breach → Type 0
Broken plan (twenty i) = There plan i × (Rule20 plan i → ⊥)
Broken plan (eleven i) = There plan i × (Rule20 plan i × (Rule11 plan i → ⊥))
Broken plan (twelve x i) = Child plan x i × (Rule12 plan x i → ⊥)
Broken plan (thirteen x i) = Child plan x i × ((j : ℕ) × (j < i) × Child plan x j × (Rule13 plan i j → ⊥))
Broken plan (fourteen x i) = Child plan x i × (side plan x < load_to plan x (suc i))

-- 01: "Then rule 11 over all nodes. Then, for each supply and each host in number order, rules 12, 13, 14": a breach's place in that order, as
-- stage, parent's number, rule and node; in rule 11's stage as node, and then 20 before 11
abbrev pub under : Parent → ℕ → ℕ → List ℕ
under (Supply s) rule i = 1 ∷ s ∷ rule ∷ i ∷ []
under (Under h) rule i = 2 ∷ h ∷ rule ∷ i ∷ []

abbrev pub rank : Breach → List ℕ
rank (twenty i) = 0 ∷ i ∷ 0 ∷ []
rank (eleven i) = 0 ∷ i ∷ 1 ∷ []
rank (twelve x i) = under x 12 i
rank (thirteen x i) = under x 13 i
rank (fourteen x i) = under x 14 i

-- one list of numbers comes before another: at the first number in which they differ it has the smaller
abbrev pub Earlier : List ℕ → List ℕ → Type 0
Earlier [] rest = ⊥
Earlier (a ∷ more) [] = ⊥
Earlier (a ∷ more) (b ∷ rest) = (a < b) ⊎ ((a ≡ b) × Earlier more rest)

-- the first breach of all
pub record FirstBroken (plan : Plan) (b : Breach) : Type 0 where
  pub broken : Broken plan b
  pub none_earlier : (a : Breach) → Earlier (rank a) (rank b) → Broken plan a → ⊥

-- rule r is the first broken one, at node k
abbrev pub FirstBrokenAt : Plan → ℕ → ℕ → Type 0
FirstBrokenAt plan r k = (b : Breach) × FirstBroken plan b × (number b ≡ r) × (place b ≡ k)
