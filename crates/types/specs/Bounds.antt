-- How far the numbers of a decision go, which is what keeps the code's sums within its machine types. Assumes nothing.
use Rattle.std.specs.Prelude.{ℕ, ◌+◌, ◌*◌}

-- the last start that can be looked at: at most 4,096 wanted windows are, and none begins more than 4,096 slots after the one before it
abbrev pub last_start : ℕ
last_start = 4096 * 4096

-- where the stretch of such a window can end: at most 4,096 slots of window and 4,096 more to a multiple of T
abbrev pub last_slot : ℕ
last_slot = last_start + 4096 + 4096
