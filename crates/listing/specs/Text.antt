-- The text that `busplan` prints, as bytes: document 01, "Decisions to check against", last part. Assumes nothing.
use Rattle.std.specs.Prelude.{ℕ, zero, suc, ◌+◌, ◌*◌, ◌/◌, ◌%◌, cond, List, [], ◌∷◌, ◌++◌, ltb, leb, eqb, length, get_or, drop, replicate, Result, Ok, Err}
use Rattle.ticks.specs.Times.{begins}
use Rattle.meaning.specs.declared.Kind.TheVariants.{Aligned}
use Rattle.types.specs.Least.{least_ones}
use Rattle.answers.specs.Answers.{Answer, Accepted, Refused}
use Rattle.plans.specs.Plan.{parent_of, kind_of, wanted_of, served_of, wanted_as}
use Rattle.plans.specs.declared.Parent.{Parent}
use Rattle.plans.specs.declared.Parent.TheVariants.{Supply, Node as Under}
use Rattle.plans.specs.declared.Plan.{Plan}
use Rattle.reader.specs.Read.{read_plan, name_of}
use Rattle.layout.specs.Layout.{lays}
use Rattle.dispatch.specs.Run.{started, course}
use Rattle.dispatch.specs.Slot.{idle, unsupplied}
use Rattle.dispatch.specs.declared.Setting.TheVariants.{Off}
use Rattle.listing.specs.declared.Short.{Short}

-- a number in decimal, with no zeros in front; twenty digits hold every 64-bit number
unfoldable pub digits : ℕ → ℕ → List ℕ
digits zero n = []
digits (suc more) n = cond (ltb n 10) ((48 + n) ∷ []) (digits more (n / 10) ++ ((48 + n % 10) ∷ []))

unfoldable pub decimal : ℕ → List ℕ
decimal n = digits 20 n

abbrev pub space : List ℕ
space = 32 ∷ []

abbrev pub newline : List ℕ
newline = 10 ∷ []

abbrev pub slash : List ℕ
slash = 47 ∷ []

-- 01: "A node under a supply has depth 1": how many steps up, of at most so many, lead to a supply
unfoldable pub above : (ℕ → ℕ) → Parent → ℕ
above f (Supply s) = 0
above f (Under h) = f h

unfoldable pub depth_to : Plan → ℕ → ℕ → ℕ
depth_to plan zero i = 0
depth_to plan (suc k) i = suc (above (depth_to plan k) (parent_of plan i))

unfoldable pub depth_of : Plan → ℕ → ℕ
depth_of plan i = depth_to plan 8 i

-- 01: "least ones in a wanted window"
unfoldable pub least_of : Plan → ℕ → ℕ
least_of plan i = least_ones Aligned (served_of plan i) (wanted_as (kind_of plan i)) (wanted_of plan i)

-- 01: "Node lines: number, name, depth, served type, least ones in a wanted window"
unfoldable pub node_line : List ℕ → Plan → ℕ → List ℕ
node_line s plan i =
    decimal i ++ (space ++ (name_of s i ++ (space ++ (decimal (depth_of plan i) ++ (space ++
    (decimal (served_of plan i).c ++ (slash ++ (decimal (served_of plan i).t ++ (space ++ (decimal (least_of plan i) ++ newline))))))))))

-- 01: "all cores supplied and nobody declining", and 02, request 12: "off, as `busplan` has it": the answers of the first eight slots from a fresh start
unfoldable pub first_eight : Plan → List ℕ
first_eight plan = (course Off plan (started plan).state (replicate 8 255) (replicate 8 0)).answers

-- 01: "per supply the leaf, `-` idle or `x` not supplied"
unfoldable pub answer_text : ℕ → List ℕ
answer_text g = cond (eqb g idle) (45 ∷ []) (cond (eqb g unsupplied) (120 ∷ []) (decimal g))

unfoldable pub answer_part : List ℕ → ℕ → ℕ → ℕ → List ℕ
answer_part all cores n s = space ++ answer_text (get_or all (n * cores + s) unsupplied)

-- "slot "
abbrev pub slot_word : List ℕ
slot_word = 115 ∷ 108 ∷ 111 ∷ 116 ∷ 32 ∷ []

-- 01: "eight slot lines: number, start, and per supply the leaf"
unfoldable pub slot_line : Plan → List ℕ → ℕ → List ℕ
slot_line plan all n =
    slot_word ++ (decimal n ++ (space ++ (decimal (begins plan.tick n) ++ (lays (answer_part all plan.cores n) plan.cores ++ newline))))

-- "accepted " and "refused "
abbrev pub accepted_word : List ℕ
accepted_word = 97 ∷ 99 ∷ 99 ∷ 101 ∷ 112 ∷ 116 ∷ 101 ∷ 100 ∷ 32 ∷ []

abbrev pub refused_word : List ℕ
refused_word = 114 ∷ 101 ∷ 102 ∷ 117 ∷ 115 ∷ 101 ∷ 100 ∷ 32 ∷ []

-- 01: "First line: node count. Node lines .. Then eight slot lines"
unfoldable pub accepted_text : List ℕ → Plan → List ℕ
accepted_text s plan =
    accepted_word ++ (decimal plan.size ++ (newline ++
    (lays (node_line s plan) plan.size ++ lays (slot_line plan (first_eight plan)) 8)))

-- 01: "A refused plan prints only `refused`, number and place, with spaces between"
unfoldable pub refused_text : ℕ → ℕ → List ℕ
refused_text r k = refused_word ++ (decimal r ++ (space ++ (decimal k ++ newline)))

abbrev pub text_by : List ℕ → Plan → Answer → List ℕ
text_by s plan Accepted = accepted_text s plan
text_by s plan (Refused r k) = refused_text r k

-- the whole text for these plan bytes
unfoldable pub text : List ℕ → List ℕ
text s = text_by s (read_plan s).plan (read_plan s).answer

-- What an answer says in document 01's own terms: the length of the text that was written, or the number of a refusal, which has no place.
pub data Said : Type 0 where
  wrote : ℕ → Said
  refused : ℕ → Said

abbrev pub said : Result ℕ Short → Said
said (Ok n) = wrote n
said (Err _) = refused 17

-- the text, where there is room for it; else 17, and nothing is written
unfoldable pub listed : List ℕ → ℕ → Said
listed s room = cond (leb (length (text s)) room) (wrote (length (text s))) (refused 17)

-- the buffer after the listing
unfoldable pub out_after : List ℕ → List ℕ → List ℕ
out_after s out = cond (leb (length (text s)) (length out)) (text s ++ drop (length (text s)) out) out
