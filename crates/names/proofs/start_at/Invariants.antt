-- Where the names so far begin: k is where name j does, after j turns.
use Rattle.std.proofs.Common.{◌≡◌, ◌+◌, ◌*◌, ◌≤◌}
use Rattle.decode.specs.Positions.{name_start}
use Rattle.names.proofs.start_at.Given as goal

abbrev pub invariant-loop : goal.invariant-loop
invariant-loop l = (l.k ≡ name_start l.s l.counter) × (l.k ≤ 4610 + 256 * l.counter)
