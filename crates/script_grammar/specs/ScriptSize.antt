-- How large a script may be.
use Rattle.std.specs.Prelude.{ℕ}

-- a line has at most this many bytes, its LF not counted
abbrev pub line_limit : ℕ
line_limit = 1048576

-- a script has at most this many lines, empty ones and comments counted
abbrev pub line_count_limit : ℕ
line_count_limit = 1000000

-- a script has at most this many events
abbrev pub event_limit : ℕ
event_limit = 20000

-- and makes at most this many bytes of messages between nodes, their headers counted
abbrev pub message_bytes_limit : ℕ
message_bytes_limit = 268435456
