-- Which part of lent bytes a call hands out, and not only what the part holds: document 01, "A name is handed out as the very part of the plan bytes
-- that holds it". Assumes nothing.
use Rattle.std.specs.Prelude.{ℕ, ◌+◌, List, ◌≡◌}
use Rattle.std.specs.Borrow.{Bor}

-- `part` is the very part of `whole` from byte k on that holds x: it points into the same memory, k bytes further on
pub record PartAt (whole part : Bor (List ℕ)) (k : ℕ) (x : List ℕ) : Type 0 where
  pub block : part.ref_ptr.0 ≡ whole.ref_ptr.0
  pub offset : part.ref_ptr.1 ≡ whole.ref_ptr.1 + k
  pub holds : part.now ≡ x
