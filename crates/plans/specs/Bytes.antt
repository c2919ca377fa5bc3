-- Which number stands for a kind and which for a parent: document 01, "The plan file". Assumes nothing.
use Rattle.std.specs.Prelude.{ℕ, ◌+◌, ◌-◌, cond, eqb, ltb}
use Rattle.plans.specs.declared.NodeKind.{NodeKind}
use Rattle.plans.specs.declared.NodeKind.TheVariants.{AlignedLeaf, SlidingLeaf, Host}
use Rattle.plans.specs.declared.Parent.{Parent}
use Rattle.plans.specs.declared.Parent.TheVariants.{Supply, Node as Under}

-- 01: "kind (0 aligned leaf, 1 sliding leaf, 2 virtual host)"
unfoldable pub kind_byte : NodeKind → ℕ
kind_byte AlignedLeaf = 0
kind_byte SlidingLeaf = 1
kind_byte Host = 2

-- the way back; another number is refused before it is looked at
unfoldable pub kind_named : ℕ → NodeKind
kind_named b = cond (eqb b 0) AlignedLeaf (cond (eqb b 1) SlidingLeaf Host)

-- 01: "A parent byte below 128 names a supply, and 128 and up names node (byte − 128)"
unfoldable pub parent_byte : Parent → ℕ
parent_byte (Supply s) = s
parent_byte (Under h) = 128 + h

-- the way back; whether that parent is there is not asked here
unfoldable pub parent_of_byte : ℕ → Parent
parent_of_byte b = cond (ltb b 128) (Supply b) (Under (b - 128))
