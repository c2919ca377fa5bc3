-- `reader::name` hands out the very part that a name is: one law a return, and the part ends within the bytes.
use Rattle.std.proofs.Common.{rules}
use Rattle.reader.proofs.Handed.{name_none, place_none, name_ends, name_part_lem, place_part}
use Rattle.reader.proofs.name.Goals as goal

pub returns-else-has_name : goal.returns-else-has_name
returns-else-has_name c = record { block = search rules; offset = search (rules, place_none); holds = search (rules, name_none) }

pub slice_bounds-result-end : goal.slice_bounds-result-end
slice_bounds-result-end c = search (rules, name_ends)

pub returns-then-has_name : goal.returns-then-has_name
returns-then-has_name c = record { block = search rules; offset = search (rules, place_part); holds = search (rules, name_part_lem) }
