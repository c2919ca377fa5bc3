-- What the calls that put whole texts answer: every text fits on a page, and it is the one of the plan's reading. Assumes nothing.
use Rattle.std.proofs.Common.{ℕ, ◌≤◌, ◌<◌, ◌≡◌, true, List, ◌++◌, length, drop, Result, Ok, Err, refl, sym, ap, ◌∙◌, arith}
use borrow.Author.Tests.{le-leb, lt-leb}
use Rattle.answers.specs.Answers.{Answer, Accepted, Refused, number_of, place_in, spot}
use Rattle.answers.specs.declared.Refusal.{Refusal}
use Rattle.plans.specs.declared.Plan.{Plan}
use Rattle.rules.proofs.Kept.{fits_exactly}
use Rattle.rules.specs.Check.{is_fit}
use Rattle.reader.proofs.Kept.{accepted_fit}
use Rattle.reader.specs.Read.{reading_of, read_plan, name_of}
use Rattle.layout.proofs.Kept.{accepted_file, names_placed}
use Rattle.layout.proofs.Names.{names_of}
use Rattle.layout.specs.Promises.{Bytes}
use Rattle.listing.proofs.Sizes.{accepted_most, refused_most}
use Rattle.listing.specs.Page.{OnPage}
use Rattle.listing.specs.Text.{accepted_text, refused_text, text_by, text, wrote, refused, listed, out_after}

-- A plan's names have 32 bytes at most, where its bytes are bytes and it is accepted.
names_short : (s : List ℕ) → Bytes s → (read_plan s).answer ≡ Accepted → (i : ℕ) → i < (read_plan s).plan.size → length (name_of s i) ≤ 32
names_short s bytes e i l =
    let file = accepted_file s bytes e in
    rw (names_placed s (read_plan s).plan (names_of s) file (accepted_fit s e) i l) (file.named.short i l)

-- 3,708 bytes always suffice
pub text_most : (s : List ℕ) → Bytes s → length (text s) ≤ 3708
unfolding text
text_most s bytes = go (read_plan s).answer refl
  where
    go : (a : Answer) → (read_plan s).answer ≡ a → length (text_by s (read_plan s).plan a) ≤ 3708
    go Accepted e = accepted_most s (read_plan s).plan (accepted_fit s e).sound (names_short s bytes e)
    go (Refused r k) e = omega (arith, refused_most r k)

-- The text of a plan, where r is what its reading answers.
module _ (s : List ℕ) (r : Result Plan Refusal) (read : reading_of r ≡ read_plan s) where
  text_by_lem : text s ≡ text_by s (reading_of r).plan (reading_of r).answer
  unfolding text
  text_by_lem = ap (λ a. text_by s a.plan a.answer) (sym read)

  module _ (plan : Plan) (is : r ≡ Ok plan) where
    is_accepted : (read_plan s).answer ≡ Accepted
    is_accepted = ap (λ a. a.answer) (sym read ∙ ap reading_of is)

    -- an accepted plan fits,
    pub accepted_fits : is_fit plan ≡ true
    accepted_fits = rw (ap (λ a. a.plan) (sym read ∙ ap reading_of is)) at ((fits_exactly (read_plan s).plan).1 (accepted_fit s is_accepted))

    -- its text is that of its lines,
    pub text_accepted : accepted_text s plan ≡ text s
    text_accepted = rw (text_by_lem, is)

    -- which have their room,
    pub accepted_room : Bytes s → OnPage (accepted_text s plan)
    accepted_room bytes = omega (arith, rw (text_by_lem, is) at (text_most s bytes))

  -- and that of a refused one is its refusal
  pub text_refused : (e : Refusal) → r ≡ Err e → refused_text (number_of e) (spot (place_in e)) ≡ text s
  text_refused e is = rw (text_by_lem, is)

-- where there is too little room for a text, 17 is answered, and the buffer stays,
pub listed_short : (s : List ℕ) (room : ℕ) → room < length (text s) → listed s room ≡ refused 17
unfolding listed
listed_short s room l = rw (lt-leb (length (text s)) room l)

pub out_short : (s out : List ℕ) → length out < length (text s) → out_after s out ≡ out
unfolding out_after
out_short s out l = rw (lt-leb (length (text s)) (length out) l)

-- and otherwise it is written to the buffer's front
pub listed_written : (s : List ℕ) (room : ℕ) → length (text s) ≤ room → listed s room ≡ wrote (length (text s))
unfolding listed
listed_written s room l = rw (le-leb (length (text s)) room l)

pub out_written : (s out : List ℕ) → length (text s) ≤ length out → out_after s out ≡ text s ++ drop (length (text s)) out
unfolding out_after
out_written s out l = rw (le-leb (length (text s)) (length out) l)

pub ruleset by_room = (listed_short, out_short, listed_written, out_written)
