-- Elections: standing, granting votes, and winning. `voters_of` gives the voters by a log.
use Rattle.std.specs.Prelude.{ℕ, suc, Bool, true, false, cond, not, ◌&&◌, ◌||◌, ◌==◌, nat_lt, List, [], ◌∷◌, ◌++◌, length, map}
use Rattle.raft_spec.specs.Log.{Entry, LogEnd, log_end, is_up_to_date}
use Rattle.raft_spec.specs.Node.{AskVote, Vote, Message, Leader, Candidate, Node, among, others, peers, majority, is_leader, is_candidate, Nobody, Everyone, Outcome}
use Rattle.raft_spec.specs.Outcomes.{quiet, says, answer, in_newer_term, with_log, with_vote, with_grants, barrier}

-- A node stands for election in the next term, with its own vote.
abbrev pub as_candidate : ℕ → Node → Node
as_candidate me s = record s { term = suc s.term; vote = me; role = Candidate; leader = 0; grants = me ∷ [] }

-- A new leader: next of each peer is its last index + 1, match is 0. A node that is no peer has 1 and 0 at all times.
abbrev pub as_leader : ℕ → Node → Node
as_leader me s = record s { role = Leader; leader = me; next_of = λ p. cond (among (peers s.servers me) p) (suc (length s.log)) 1; match_of = λ p. 0 }

-- A candidate with the grants of a majority of the voters becomes leader, appends a barrier, and sends to all peers.
unfoldable pub on_grants : (List Entry → List ℕ) → ℕ → Node → List Message → Outcome
on_grants voters_of me s out = cond (majority (voters_of s.log) (among s.grants))
    (record { node = with_log (as_leader me s) (s.log ++ barrier s.term ∷ []) s.commit; out = out; recipients = Everyone })
    (record { node = s; out = out; recipients = Nobody })

-- A candidate's request for a vote, with the end of its log.
abbrev pub ask_vote : ℕ → Node → Bool → ℕ → Message
ask_vote me s transfer to = record { from = me; to = to; term = s.term; what = AskVote (log_end s.log) transfer }

-- Who may stand: a voter that doesn't lead, below the last term, 4,294,967,295, and the last index for it, 4,294,900,000.
unfoldable pub may_start_election : (List Entry → List ℕ) → ℕ → Node → Bool
may_start_election voters_of me s = among (voters_of s.log) me && nat_lt 0 me && not (is_leader s.role) && nat_lt s.term 4294967295 && nat_lt (length s.log) 4294900000

-- A timeout: who may stand does, and asks every other voter; an only voter wins at once. At others nothing happens. With transfer
-- it is a leader that handed its leadership over, and the AskVotes say so.
unfoldable pub start_election : (List Entry → List ℕ) → ℕ → Node → Bool → Outcome
start_election voters_of me s transfer = cond (may_start_election voters_of me s)
    (on_grants voters_of me (as_candidate me s) (map (ask_vote me (as_candidate me s) transfer) (others (voters_of s.log) me)))
    (quiet s)

-- A leader gives up: it takes the next term, as if it had heard of it. At the last term, and at other nodes, nothing happens.
unfoldable pub on_yield : Node → Outcome
on_yield s = cond (is_leader s.role && nat_lt s.term 4294967295) (quiet (in_newer_term s (suc s.term))) (quiet s)

-- The rule of votes: one vote a term, to a node whose log is at least as up to date as the own one.
unfoldable pub may_grant : ℕ → ℕ → LogEnd → LogEnd → Bool
may_grant vote from last own = ((vote == 0) || (vote == from)) && is_up_to_date last own

-- The rule of votes at a node, with the end of its log.
abbrev pub grants_vote : Node → ℕ → LogEnd → Bool
grants_vote s from last = may_grant s.vote from last (log_end s.log)

-- A request for a vote in the node's term: it is granted and noted, or refused. Any node that is asked answers, voter or not.
unfoldable pub on_ask_vote : ℕ → Node → ℕ → LogEnd → Outcome
on_ask_vote me s from last = cond (grants_vote s from last)
    (says (with_vote s from) (answer me s from (Vote true)))
    (says s (answer me s from (Vote false)))

-- The grants with one more, which counts once, and only of a voter.
unfoldable pub grants_with : List ℕ → List ℕ → ℕ → List ℕ
grants_with ids grants from = cond (among ids from && not (among grants from)) (grants ++ from ∷ []) grants

-- A vote comes: a candidate counts a granted one; else nothing happens.
unfoldable pub on_vote : (List Entry → List ℕ) → ℕ → Node → ℕ → Bool → Outcome
on_vote voters_of me s from granted = cond (granted && is_candidate s.role) (on_grants voters_of me (with_grants s (grants_with (voters_of s.log) s.grants from)) []) (quiet s)
