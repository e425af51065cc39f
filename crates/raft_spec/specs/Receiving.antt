-- What a node does with a message, by its term.
use Rattle.std.specs.Prelude.{ℕ, ◌-◌, Bool, true, false, cond, ◌&&◌, nat_lt, nat_le, List, [], ◌∷◌, length}
use Rattle.raft_spec.specs.Log.{Entry}
use Rattle.raft_spec.specs.Node.{What, AskVote, Vote, Append, Ack, Install, TimeoutNow, Message, Node, Outcome}
use Rattle.raft_spec.specs.Outcomes.{quiet, says, answer, in_newer_term}
use Rattle.raft_spec.specs.Elections.{start_election, on_ask_vote, on_vote}
use Rattle.raft_spec.specs.Replication.{on_append, on_ack}
use Rattle.raft_spec.specs.Snapshots.{on_install}

-- A message of the node's own term. TimeoutNow acts as a timeout, except that the AskVotes say so.
abbrev pub on_own_term : (List Entry → List ℕ) → ℕ → Node → ℕ → What → Outcome
on_own_term voters_of me s from (AskVote last transfer) = on_ask_vote me s from last
on_own_term voters_of me s from (Vote granted) = on_vote voters_of me s from granted
on_own_term voters_of me s from (Append prev commit entries) = on_append me s from prev commit entries
on_own_term voters_of me s from (Ack good index) = on_ack me s from good index
on_own_term voters_of me s from (Install last front) = on_install me s from last front
on_own_term voters_of me s from TimeoutNow = start_election voters_of me s true

-- A message of a smaller term: a request is refused, and the answer carries the greater term; an answer is dropped.
abbrev pub on_older_term : ℕ → Node → ℕ → What → Outcome
on_older_term me s from (AskVote last transfer) = says s (answer me s from (Vote false))
on_older_term me s from (Append prev commit entries) = says s (answer me s from (Ack false (length s.log)))
on_older_term me s from (Install last front) = says s (answer me s from (Ack false (length s.log)))
on_older_term me s from (Vote granted) = quiet s
on_older_term me s from (Ack good index) = quiet s
on_older_term me s from TimeoutNow = quiet s

-- A term or an index that a message can carry: at most 4,294,967,295.
abbrev pub fits_the_wire : ℕ → Bool
fits_the_wire n = nat_le n 4294967295

-- All terms of these entries can be carried.
abbrev pub terms_fit_the_wire : List Entry → Bool
terms_fit_the_wire [] = true
terms_fit_the_wire (e ∷ es) = fits_the_wire e.term && terms_fit_the_wire es

-- The numbers of a message that are within their limits: terms and indexes, and at most 16 entries.
abbrev pub what_in_range : What → Bool
what_in_range (AskVote last transfer) = fits_the_wire last.index && fits_the_wire last.term
what_in_range (Vote granted) = true
what_in_range (Append prev commit entries) = fits_the_wire prev.index && fits_the_wire prev.term && fits_the_wire commit && nat_le (length entries) 16 && terms_fit_the_wire entries
what_in_range (Ack good index) = fits_the_wire index
what_in_range (Install last front) = fits_the_wire last.index && fits_the_wire last.term
what_in_range TimeoutNow = true

-- A message that a node of this term looks at: its term is at most 1,000,000 above the own one, it has a term and a sender, and its
-- numbers are in range. Another one counts as lost: it changes nothing and isn't answered.
unfoldable pub in_range : ℕ → Message → Bool
in_range own m = nat_le (m.term - own) 1000000 && nat_lt 0 m.term && nat_lt 0 m.from && fits_the_wire m.term && what_in_range m.what

-- A message comes: of a smaller term; of a greater one, which is taken first; or of the node's own.
unfoldable pub on_message : (List Entry → List ℕ) → ℕ → Node → Message → Outcome
on_message voters_of me s m = cond (in_range s.term m)
    (cond (nat_lt m.term s.term)
    (on_older_term me s m.from m.what)
    (cond (nat_lt s.term m.term) (on_own_term voters_of me (in_newer_term s m.term) m.from m.what) (on_own_term voters_of me s m.from m.what)))
    (quiet s)
