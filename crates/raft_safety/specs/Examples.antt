-- Runs that are computed: so no law is empty, and the rule of older terms is needed.
use Rattle.std.specs.Prelude.{◌≡◌, ℕ, Some, List, [], ◌∷◌, ◌++◌, length, map, replicate}
use Rattle.raft_spec.specs.Log.{Entry, Command, Barrier, Change, term_at}
use Rattle.raft_spec.specs.Node.{Role, Leader, Follower, Server, Node, Timeout, Beat, Yield, Propose, Transfer, Snapped, UseServers}
use Rattle.raft_spec.specs.Progress.{commit_of}
use Rattle.raft_safety.specs.Members.{Setup, voters_after}
use Rattle.raft_safety.specs.World.{Event, Acts, Stops, Start, Does, Takes, run}
use Rattle.raft_safety.specs.Laws.{node_at, log_at}
use Rattle.raft_safety.specs.Chosen.{chosen}
use Rattle.raft_safety.specs.Sources.{midway}

-- A server that votes.
abbrev pub voter : ℕ → Server
voter id = record { id = id; address = []; role = 0 }

-- In these runs a configuration's bytes are the ids of its voters.
abbrev pub opened_with : List ℕ → Setup
opened_with ids = record { read = λ bytes. Some (map voter bytes); opening = map voter ids }

-- Three voters open the cluster.
abbrev pub three : Setup
three = opened_with (1 ∷ 2 ∷ 3 ∷ [])

-- A request.
abbrev pub command : Entry
command = record { term = 0; kind = Command; bytes = 7 ∷ [] }

-- A change to four voters.
abbrev pub four_voters : Entry
four_voters = record { term = 0; kind = Change; bytes = 1 ∷ 2 ∷ 3 ∷ 4 ∷ [] }

-- What is seen of a node.
pub record Sight : Type 0 where
  pub role : Role
  pub term : ℕ
  pub last : ℕ
  pub commit : ℕ
  pub snapshot : ℕ
  pub base : ℕ

-- What is seen of this node.
abbrev pub sight : Node → Sight
sight s = record { role = s.role; term = s.term; last = length s.log; commit = s.commit; snapshot = s.snapshot.index; base = s.base }

-- Node 1 stands, 2 votes for it, 1 leads and appends its barrier, which 2 takes.
-- 1 commits it and appends a request in the same event; 2 takes that too, and 1 commits it.
unfoldable pub elected_and_committed : List Event
elected_and_committed =
    Acts 1 (Does Timeout ∷ []) (0 ∷ 1 ∷ [])
    ∷ Acts 2 (Takes 0 ∷ []) (0 ∷ [])
    ∷ Acts 1 (Takes 2 ∷ []) (0 ∷ 1 ∷ [])
    ∷ Acts 2 (Takes 3 ∷ []) (0 ∷ [])
    ∷ Acts 1 (Takes 5 ∷ Does (Propose (command ∷ [])) ∷ []) (2 ∷ 3 ∷ [])
    ∷ Acts 2 (Takes 6 ∷ []) (0 ∷ [])
    ∷ Acts 1 (Takes 8 ∷ []) (0 ∷ 1 ∷ [])
    ∷ []

-- Then 1 takes a fourth voter. The change is counted by the four, so it waits for 2 and 3.
unfoldable pub with_a_fourth : List Event
with_a_fourth =
    Acts 1 (Does (UseServers (map voter (1 ∷ 2 ∷ 3 ∷ 4 ∷ []))) ∷ Does (Propose (four_voters ∷ [])) ∷ []) (1 ∷ 2 ∷ 3 ∷ [])
    ∷ Acts 2 (Takes 11 ∷ []) (0 ∷ [])
    ∷ Acts 1 (Takes 14 ∷ []) []
    ∷ Acts 3 (Takes 10 ∷ Takes 12 ∷ []) (0 ∷ 1 ∷ [])
    ∷ Acts 1 (Takes 16 ∷ []) []
    ∷ []

-- Then 1 appends twenty requests, which 2 and 3 take in two pieces each; 1 commits them, takes a snapshot and cuts its log. So 4, which has taken
-- nothing yet, gets an Install. With it the four continue: 2 and 4 take one more request, which 1 commits.
unfoldable pub with_an_install : List Event
with_an_install =
    Acts 1 (Does (Propose (replicate 20 command)) ∷ []) (0 ∷ 1 ∷ [])
    ∷ Acts 2 (Takes 17 ∷ []) (0 ∷ [])
    ∷ Acts 3 (Takes 18 ∷ []) (0 ∷ [])
    ∷ Acts 1 (Takes 19 ∷ []) (0 ∷ [])
    ∷ Acts 1 (Takes 20 ∷ []) (1 ∷ [])
    ∷ Acts 2 (Takes 21 ∷ []) (0 ∷ [])
    ∷ Acts 3 (Takes 22 ∷ []) (0 ∷ [])
    ∷ Acts 1 (Takes 23 ∷ Takes 24 ∷ Does (Snapped 23) ∷ []) []
    ∷ Acts 1 (Does Beat ∷ []) (2 ∷ [])
    ∷ Acts 4 (Takes 25 ∷ []) (0 ∷ [])
    ∷ Acts 1 (Takes 26 ∷ []) []
    ∷ Acts 1 (Does (Propose (command ∷ [])) ∷ []) (0 ∷ 2 ∷ [])
    ∷ Acts 2 (Takes 27 ∷ []) (0 ∷ [])
    ∷ Acts 4 (Takes 28 ∷ []) (0 ∷ [])
    ∷ Acts 1 (Takes 29 ∷ Takes 30 ∷ []) []
    ∷ []

-- All three parts.
unfoldable pub whole_example : List Event
whole_example = elected_and_committed ++ (with_a_fourth ++ with_an_install)

-- After the first part 1 leads and has committed its barrier and the request.
abbrev pub LeaderCommits : Type 0
LeaderCommits = sight (node_at three elected_and_committed 1) ≡ record { role = Leader; term = 1; last = 2; commit = 2; snapshot = 0; base = 0 }

-- After the second part the change is committed, and the four vote.
abbrev pub FourthJoins : Type 0
FourthJoins = (sight (node_at three (elected_and_committed ++ with_a_fourth) 1) ≡ record { role = Leader; term = 1; last = 3; commit = 3; snapshot = 0; base = 0 })
    × (voters_after three (log_at three (elected_and_committed ++ with_a_fourth) 1) ≡ 1 ∷ 2 ∷ 3 ∷ 4 ∷ [])

-- At the end 1 has compacted its log at 7, 4 has the snapshot at 23, both have the last request, and 24 entries are chosen.
abbrev pub InstallServes : Type 0
InstallServes = (sight (node_at three whole_example 1) ≡ record { role = Leader; term = 1; last = 24; commit = 24; snapshot = 23; base = 7 })
    × (sight (node_at three whole_example 4) ≡ record { role = Follower; term = 1; last = 24; commit = 23; snapshot = 23; base = 23 })
    × (length (chosen three whole_example) ≡ 24)

-- Five nodes. Node 1 leads term 1; its barrier is at all five and committed, its entry 2 at itself and 2 alone. Node 5 leads term 2 by the votes of 3 and 4,
-- and stores its barrier as another entry 2 at itself alone. Node 1 leads term 3 by the votes of 2 and 3, and stores its entry 2 of term 1 at 3 too.
abbrev pub five : Setup
five = opened_with (1 ∷ 2 ∷ 3 ∷ 4 ∷ 5 ∷ [])

-- How that comes about, event by event.
unfoldable pub older_entry_spreads : List Event
older_entry_spreads =
    Acts 1 (Does Timeout ∷ []) (0 ∷ 1 ∷ 2 ∷ 3 ∷ [])
    ∷ Acts 2 (Takes 0 ∷ []) (0 ∷ [])
    ∷ Acts 3 (Takes 1 ∷ []) (0 ∷ [])
    ∷ Acts 1 (Takes 4 ∷ Takes 5 ∷ []) (0 ∷ 1 ∷ 2 ∷ 3 ∷ [])
    ∷ Acts 2 (Takes 6 ∷ []) (0 ∷ [])
    ∷ Acts 3 (Takes 7 ∷ []) (0 ∷ [])
    ∷ Acts 4 (Takes 8 ∷ []) []
    ∷ Acts 5 (Takes 9 ∷ []) []
    ∷ Acts 1 (Takes 10 ∷ Takes 11 ∷ Does (Propose (command ∷ [])) ∷ []) (4 ∷ [])
    ∷ Acts 2 (Takes 12 ∷ []) []
    ∷ Acts 5 (Does Timeout ∷ []) (0 ∷ 2 ∷ 3 ∷ [])
    ∷ Acts 3 (Takes 14 ∷ []) (0 ∷ [])
    ∷ Acts 4 (Takes 15 ∷ []) (0 ∷ [])
    ∷ Acts 5 (Takes 16 ∷ Takes 17 ∷ []) []
    ∷ Acts 1 (Takes 13 ∷ Does Timeout ∷ []) (1 ∷ 2 ∷ 4 ∷ [])
    ∷ Acts 2 (Takes 18 ∷ []) (0 ∷ [])
    ∷ Acts 3 (Takes 19 ∷ []) (0 ∷ [])
    ∷ Acts 1 (Takes 21 ∷ Takes 22 ∷ []) (1 ∷ [])
    ∷ Acts 3 (Takes 23 ∷ []) (0 ∷ [])
    ∷ Acts 1 (Takes 24 ∷ []) (0 ∷ [])
    ∷ Acts 3 (Takes 25 ∷ []) (0 ∷ [])
    ∷ Acts 1 (Takes 26 ∷ []) []
    ∷ []

-- Then node 5 leads term 4 by the votes of 2 and 4, and replaces the entry 2 at node 2.
unfoldable pub older_entry_replaced : List Event
older_entry_replaced =
    Acts 5 (Takes 20 ∷ Does Timeout ∷ []) (2 ∷ 4 ∷ [])
    ∷ Acts 2 (Takes 27 ∷ []) (0 ∷ [])
    ∷ Acts 4 (Takes 28 ∷ []) (0 ∷ [])
    ∷ Acts 5 (Takes 29 ∷ Takes 30 ∷ []) (1 ∷ [])
    ∷ Acts 2 (Takes 31 ∷ []) (0 ∷ [])
    ∷ Acts 5 (Takes 32 ∷ []) (0 ∷ [])
    ∷ Acts 2 (Takes 33 ∷ []) []
    ∷ []

-- The terms of a node's entry 2, node by node.
abbrev pub terms_at_two : List Event → List ℕ
terms_at_two events = map (λ n. term_at (log_at five events n) 2) (1 ∷ 2 ∷ 3 ∷ 4 ∷ 5 ∷ [])

-- Three of five have the entry 2 of term 1, and the leader of term 3 has not committed it: its commit index is 1.
abbrev pub OlderEntryWaits : Type 0
OlderEntryWaits = (terms_at_two older_entry_spreads ≡ 1 ∷ 1 ∷ 1 ∷ 0 ∷ 2 ∷ [])
    × (sight (node_at five older_entry_spreads 1) ≡ record { role = Leader; term = 3; last = 3; commit = 1; snapshot = 0; base = 0 })
    × (length (chosen five older_entry_spreads) ≡ 1)

-- And a later leader does replace it.
abbrev pub OlderEntryGoes : Type 0
OlderEntryGoes = (terms_at_two (older_entry_spreads ++ older_entry_replaced) ≡ 1 ∷ 2 ∷ 1 ∷ 0 ∷ 2 ∷ [])
    × (sight (node_at five (older_entry_spreads ++ older_entry_replaced) 5) ≡ record { role = Leader; term = 4; last = 3; commit = 0; snapshot = 0; base = 0 })

-- The commit index by counting alone: a leader of term 3 with entries of terms 1, 1 and 3, of which two peers have this many.
abbrev pub counted_by : ℕ → ℕ → ℕ
counted_by second third = commit_of
    (record {
      own = 1;
      voters = 1 ∷ 2 ∷ 3 ∷ 4 ∷ 5 ∷ [];
      rows = record { id = 2; next = 1; matched = second } ∷ record { id = 3; next = 1; matched = third } ∷ [];
    })
    (record { term = 1; kind = Barrier; bytes = [] } ∷ record { term = 1; kind = Command; bytes = 7 ∷ [] } ∷ record { term = 3; kind = Barrier; bytes = [] } ∷ [])
    3
    1

-- Three of five at index 2 move nothing, nor does the barrier at two of five; the barrier at three of five commits all three entries.
abbrev pub OlderTermsDontCount : Type 0
OlderTermsDontCount = (counted_by 2 2 ≡ 1) × (counted_by 3 2 ≡ 1) × (counted_by 3 3 ≡ 3)

-- After the whole example 1 hands its leadership over to 2, which 3 and 4 elect; 2 commits its barrier once 1 and 3 have it.
unfoldable pub handed_over : List Event
handed_over =
    Acts 1 (Does (Transfer 2) ∷ []) (0 ∷ [])
    ∷ Acts 2 (Takes 31 ∷ []) (1 ∷ 2 ∷ [])
    ∷ Acts 3 (Takes 32 ∷ []) (0 ∷ [])
    ∷ Acts 4 (Takes 33 ∷ []) (0 ∷ [])
    ∷ Acts 2 (Takes 34 ∷ Takes 35 ∷ []) (0 ∷ 1 ∷ [])
    ∷ Acts 1 (Takes 36 ∷ []) (0 ∷ [])
    ∷ Acts 3 (Takes 37 ∷ []) (0 ∷ [])
    ∷ Acts 2 (Takes 38 ∷ Takes 39 ∷ []) (0 ∷ [])
    ∷ Acts 3 (Takes 40 ∷ []) (0 ∷ [])
    ∷ Acts 2 (Takes 41 ∷ []) []
    ∷ []

-- Then 2 leads, and 1 follows it.
abbrev pub OfficePasses : Type 0
OfficePasses = (sight (node_at three (whole_example ++ handed_over) 2) ≡ record { role = Leader; term = 2; last = 25; commit = 25; snapshot = 0; base = 0 })
    × ((node_at three (whole_example ++ handed_over) 1).leader ≡ 2)

-- Node 3 takes the first two entries, is stopped after this many acts of that step, and starts again.
unfoldable pub stopped_after : ℕ → List Event
stopped_after acts = elected_and_committed ++ (Stops 3 (Takes 10 ∷ []) acts 2 0 ∷ Start 3 (map voter (1 ∷ 2 ∷ 3 ∷ [])) ∷ [])

-- Once its metadata is kept its log is empty, once its batch is kept it has both entries.
abbrev pub StopsKeep : Type 0
StopsKeep = (length (log_at three (stopped_after 1) 3) ≡ 0) × (length (log_at three (stopped_after 2) 3) ≡ 2)

-- An only voter that is stopped once it has kept its barrier: it led between two steps, and at no moment between events.
unfoldable pub stopped_alone : Event
stopped_alone = Stops 1 (Does Timeout ∷ []) 2 1 0

abbrev pub LeadsMidway : Type 0
LeadsMidway = ((midway (opened_with (1 ∷ [])) (run (opened_with (1 ∷ [])) []) stopped_alone 1).role ≡ Leader)
    × ((node_at (opened_with (1 ∷ [])) (stopped_alone ∷ []) 1).role ≡ Follower)
    × (length (log_at (opened_with (1 ∷ [])) (stopped_alone ∷ []) 1) ≡ 1)
