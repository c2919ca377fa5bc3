-- Document 02, request 6, at work: a plan of edition 2 with a soft leaf, run under a supply as bad as its types allow, and what demand 3 comes to; and what is
-- needed for it. Why each statement holds is in proofs/. Assumes nothing.
use Rattle.std.specs.Prelude.{ℕ, List, [], ◌∷◌, ◌++◌, ◌≡◌, length, get_or, take, replicate}
use Rattle.meaning.specs.Types.{◌of◌}
use Rattle.plans.specs.Plan.{zero_type, zero_node}
use Rattle.plans.specs.declared.NodeKind.TheVariants.{AlignedLeaf}
use Rattle.plans.specs.declared.Parent.TheVariants.{Supply}
use Rattle.plans.specs.declared.Plan.{Plan}
use Rattle.dispatch.specs.declared.Setting.{Setting}
use Rattle.dispatch.specs.declared.Setting.TheVariants.{Off, On}
use Rattle.partitions.specs.Case.{
  Case,
  KeepsTypes,
  IsHard,
  IsSoft,
  ItsWindow,
  ItsStretch,
  InsideRun,
  DeclinesNowhere,
  period,
  stretch,
  short,
}
use Rattle.guarantee.specs.Needed.{Basis}
use Rattle.guarantee.specs.Whole.{type_bytes, RefusedBy}

-- "(7,12) for (3,4) allows two misses in three and not one": one core of (7,12), all of it for the leaf `m` (node 0), which wants (3,4) and may miss so many in three.
abbrev pub radio_bytes : ℕ → List ℕ
radio_bytes misses =
    -- the tick, the spare bytes and the supply
    0x02 ∷ 0xE8 ∷ 0x03 ∷ 0x00 ∷ 0x00 ∷ 0x03 ∷ 0x00 ∷ 0x00 ∷ 0x00 ∷
    (replicate 8 0x00 ++ (0x01 ∷ (type_bytes (7 of 12) ++
    -- the node and its name
    (0x01 ∷ 0x00 ∷ 0x00 ∷ (type_bytes (3 of 4) ++ (misses ∷ 0x00 ∷ 0x03 ∷ 0x00 ∷ (type_bytes (7 of 12) ++
    (0x01 ∷ 0x01 ∷ 0x6D ∷ []))))))))

abbrev pub radio : Plan
radio =
    record {
      edition = 2;
      tick = record { p = 1_000; q = 3 };
      cores = 1;
      supplies = (7 of 12) ∷ replicate 7 zero_type;
      size = 1;
      nodes =
          record { kind = AlignedLeaf; parent = Supply 0; wanted = 3 of 4; misses = record { d = 2; w = 3 }; served = 7 of 12 } ∷
          replicate 63 zero_node;
    }

-- The core's slots: 4, 2 and 1 in the first three windows of `m`, and 2, 2 and 3 in the next three. Then it is supplied in every slot.
abbrev pub meagre : List ℕ
meagre =
    1 ∷ 1 ∷ 1 ∷ 1 ∷ 1 ∷ 1 ∷ 0 ∷ 0 ∷ 1 ∷ 0 ∷ 0 ∷ 0 ∷
    1 ∷ 1 ∷ 0 ∷ 0 ∷ 1 ∷ 1 ∷ 0 ∷ 0 ∷ 1 ∷ 1 ∷ 1 ∷ 0 ∷ []

abbrev pub meagre_first : ℕ → ℕ
meagre_first n = get_or meagre n 1

-- and what `m` makes of them: every slot that there is
abbrev pub all_taken : List ℕ
all_taken =
    0 ∷ 0 ∷ 0 ∷ 0 ∷ 0 ∷ 0 ∷ 255 ∷ 255 ∷ 0 ∷ 255 ∷ 255 ∷ 255 ∷
    0 ∷ 0 ∷ 255 ∷ 255 ∷ 0 ∷ 0 ∷ 255 ∷ 255 ∷ 0 ∷ 0 ∷ 0 ∷ 255 ∷ []

-- A run over a first part of that supply with one setting, and the windows of `m` from a slot on.
abbrev pub on_radio : Setting → List ℕ → List ℕ → List ℕ → ℕ → Case
on_radio setting supplies declines buffer window =
    record {
      bytes = radio_bytes 2;
      plan = radio;
      supply = meagre_first;
      settings = replicate (length supplies) setting;
      supplies = supplies;
      declines = declines;
      buffer = buffer;
      partition = 0;
      window = window;
    }

-- Nobody declines for 24 slots.
abbrev pub playing : Setting → ℕ → Case
playing setting = on_radio setting meagre (replicate 24 0) all_taken

-- a case that meets every hypothesis of `SoftGuarantee`; it also tells what the partition received in the first window of the stretch
pub record MeetsSoft (c : Case) (asks gets shorts : ℕ) : Type 0 where
  pub basis : Basis c asks gets
  pub supplied : KeepsTypes c
  pub soft : IsSoft c
  pub starts : ItsStretch c
  pub inside : InsideRun c (stretch c)
  pub nowhere : DeclinesNowhere c (stretch c)
  pub counting : short c ≡ shorts

-- Two windows of each of the two stretches are short, just as many as may be, under either setting.
abbrev pub SoftNotEmpty : Type 0
SoftNotEmpty = MeetsSoft (playing Off 0) 3 4 2 × MeetsSoft (playing On 12) 3 2 2

-- With one miss in three the same plan is refused by rule 11.
abbrev pub NotOneMiss : Type 0
NotOneMiss = RefusedBy (radio_bytes 1) 11 0

-- What is promised of a hard partition's window is not kept of `m`: in its window from slot 4 on it asked for 3 slots and receives 2.
abbrev pub HardOfSoft : Type 0
HardOfSoft =
    Basis (playing Off 4) 3 2 × KeepsTypes (playing Off 4) × (IsHard (playing Off 4) → ⊥) × ItsWindow (playing Off 4) ×
    InsideRun (playing Off 4) (period (playing Off 4)) × DeclinesNowhere (playing Off 4) (period (playing Off 4))

-- Three windows from there on are no stretch, and all three are short.
abbrev pub OffStretch : Type 0
OffStretch =
    Basis (playing Off 4) 3 2 × KeepsTypes (playing Off 4) × IsSoft (playing Off 4) × (ItsStretch (playing Off 4) → ⊥) ×
    InsideRun (playing Off 4) (stretch (playing Off 4)) × DeclinesNowhere (playing Off 4) (stretch (playing Off 4)) × (short (playing Off 4) ≡ 3)

-- The run ends after 22 slots, and the rest of the buffer is as it was: the last window of the second stretch, in part outside the run, is short too.
abbrev pub cut_off : Case
cut_off = on_radio Off (take 22 meagre) (replicate 22 0) (take 22 all_taken ++ (9 ∷ 9 ∷ [])) 12

abbrev pub StretchOutside : Type 0
StretchOutside =
    Basis cut_off 3 2 × KeepsTypes cut_off × IsSoft cut_off × ItsStretch cut_off ×
    (InsideRun cut_off (stretch cut_off) → ⊥) × DeclinesNowhere cut_off (stretch cut_off) × (short cut_off ≡ 3)

-- `m` declines in slot 20, in the last window of the second stretch, which is short then too.
abbrev pub pausing : Case
pausing = on_radio Off meagre (replicate 20 0 ++ (1 ∷ 0 ∷ 0 ∷ 0 ∷ [])) (take 20 all_taken ++ (254 ∷ 0 ∷ 0 ∷ 255 ∷ [])) 12

abbrev pub SoftDeclines : Type 0
SoftDeclines =
    Basis pausing 3 2 × KeepsTypes pausing × IsSoft pausing × ItsStretch pausing ×
    InsideRun pausing (stretch pausing) × (DeclinesNowhere pausing (stretch pausing) → ⊥) × (short pausing ≡ 3)
