-- What a log that is compacted knows of its places, and what is left of it when more is compacted.
use Rattle.std.specs.Prelude.{ℕ, ◌-◌, ◌&&◌, cond, if◌then◌else◌, nat_le, min, Option, Some, None, length, drop}
use Rattle.raft_spec.specs.Log.{LogEnd, term_at}
use Rattle.raft_spec.specs.Compaction.{CutLog, whole_log}

-- the place at an index, if the log knows its term: at the cut, or at an entry past it
abbrev pub known_term : CutLog → ℕ → Option ℕ
known_term l i = if nat_le l.first.index i && nat_le i (length (whole_log l)) then Some (term_at (whole_log l) i) else None

-- the place at an index of the whole log
abbrev pub place_at : CutLog → ℕ → LogEnd
place_at l i = record { index = i; term = term_at (whole_log l) i }

-- the log without its entries up to the index; past its last index all go
abbrev pub cut_at : CutLog → ℕ → CutLog
cut_at l i = cond (nat_le i l.first.index) l (record { first = place_at l (min i (length (whole_log l))); entries = drop (i - l.first.index) l.entries })
