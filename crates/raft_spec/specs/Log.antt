-- A log as the list of its entries; indexes count from 1. The log of a node here is its whole log: what it has compacted is still in it.
use Rattle.std.specs.Prelude.{ℕ, zero, suc, ◌+◌, ◌-◌, Bool, cond, ◌&&◌, ◌||◌, ◌==◌, nat_lt, nat_le, List, [], ◌∷◌, ◌++◌, length, take, drop, max}

-- What an entry is for: a command to the databases, the entry that a new leader appends first, a change of the servers.
pub data EntryKind : Type 0 where
  Command Barrier Change : EntryKind

-- An entry: the term of the leader that appended it, what it is for, and its bytes.
pub record Entry : Type 0 where
  pub term : ℕ
  pub kind : EntryKind
  pub bytes : List ℕ

-- Where a log ends, or a place in it: the index and the term of the entry there; both are 0 where nothing is before.
pub record LogEnd : Type 0 where
  pub index : ℕ
  pub term : ℕ

-- The term of the k-th entry, from 0; 0 without one.
abbrev pub nth_term : List Entry → ℕ → ℕ
nth_term [] k = 0
nth_term (e ∷ es) zero = e.term
nth_term (e ∷ es) (suc k) = nth_term es k

-- The term of the entry at an index; 0 at the index 0 and if there is no entry. Terms of entries are at least 1.
unfoldable pub term_at : List Entry → ℕ → ℕ
term_at log zero = 0
term_at log (suc k) = nth_term log k

-- The end of a log: its last index, and the term there.
unfoldable pub log_end : List Entry → LogEnd
log_end log = record { index = length log; term = term_at log (length log) }

-- The consistency check of an Append: the log has an entry of that term at that index, or the index is 0.
unfoldable pub matches : List Entry → LogEnd → Bool
matches log prev = nat_le prev.index (length log) && (term_at log prev.index == prev.term)

-- New entries come to the rest of a log: at the first one whose term differs, the rest goes and the new ones stand; what agrees stays, whatever follows it.
unfoldable pub merged : List Entry → List Entry → List Entry
merged rest [] = rest
merged [] (e ∷ es) = e ∷ es
merged (r ∷ rs) (e ∷ es) = cond (r.term == e.term) (r ∷ merged rs es) (e ∷ es)

-- The place, from 1, of the first entry of the rest that a new one conflicts with; 0 where none does.
unfoldable pub conflict_place : List Entry → List Entry → ℕ
conflict_place rest [] = 0
conflict_place [] (e ∷ es) = 0
conflict_place (r ∷ rs) (e ∷ es) = cond (r.term == e.term) (cond (conflict_place rs es == 0) 0 (suc (conflict_place rs es))) 1

-- The log after it has taken the entries that follow the index `prev`.
unfoldable pub accept : List Entry → ℕ → List Entry → List Entry
accept log prev entries = take prev log ++ merged (drop prev log) entries

-- The first index whose entry is replaced then; 0 for none.
unfoldable pub first_replaced : List Entry → ℕ → List Entry → ℕ
first_replaced log prev entries = cond (conflict_place (drop prev log) entries == 0) 0 (prev + conflict_place (drop prev log) entries)

-- The election restriction: a log with this end is at least as up to date as the own one; the later last term wins, then the longer log.
unfoldable pub is_up_to_date : LogEnd → LogEnd → Bool
is_up_to_date last own = nat_lt own.term last.term || ((last.term == own.term) && nat_le own.index last.index)

-- `accept`, if entries at or below the floor (a snapshot's index) count as agreeing.
unfoldable pub accept_above : List Entry → ℕ → ℕ → List Entry → List Entry
accept_above log floor prev entries = accept log (max prev floor) (drop (max prev floor - prev) entries)

-- `first_replaced`, if entries at or below the floor count as agreeing.
unfoldable pub first_replaced_above : List Entry → ℕ → ℕ → List Entry → ℕ
first_replaced_above log floor prev entries = first_replaced log (max prev floor) (drop (max prev floor - prev) entries)
