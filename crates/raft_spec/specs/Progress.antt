-- A leader's progress of its peers as the code holds it: rows, whose look-ups are a node's `next_of` and `match_of`.
use Rattle.std.specs.Prelude.{ℕ, suc, ◌-◌, Bool, true, false, cond, ◌==◌, min, max, List, [], ◌∷◌, length, map}
use Rattle.raft_spec.specs.Log.{Entry}
use Rattle.raft_spec.specs.Node.{among}
use Rattle.raft_spec.specs.Outcomes.{updated}
use Rattle.raft_spec.specs.Commitment.{commit_up_to}

-- One peer: the index of the next entry to send to it, and up to where its log is known to agree.
pub record PeerProgress : Type 0 where
  pub id : ℕ
  pub next : ℕ
  pub matched : ℕ

-- The next of a node; one that has no row has 1.
abbrev pub next_in : List PeerProgress → ℕ → ℕ
next_in [] p = 1
next_in (r ∷ rs) p = cond (p == r.id) r.next (next_in rs p)

-- The match of a node; one that has no row has 0.
abbrev pub match_in : List PeerProgress → ℕ → ℕ
match_in [] p = 0
match_in (r ∷ rs) p = cond (p == r.id) r.matched (match_in rs p)

-- The ids of the rows.
abbrev pub ids_in : List PeerProgress → List ℕ
ids_in [] = []
ids_in (r ∷ rs) = r.id ∷ ids_in rs

-- The rows as look-ups, so that two tables are equal where they answer the same.
pub record ProgressTable : Type 0 where
  pub ids : List ℕ
  pub next_of : ℕ → ℕ
  pub match_of : ℕ → ℕ

-- The rows as such look-ups.
abbrev pub progress_of : List PeerProgress → ProgressTable
progress_of rs = record { ids = ids_in rs; next_of = next_in rs; match_of = match_in rs }

-- An Ack of a peer. Good: match becomes the greater of itself and the index, next is match + 1. Else next becomes the smaller of next - 1 and
-- the index + 1, and at least match + 1. An Ack of another node changes nothing.
abbrev pub after_ack : ProgressTable → ℕ → Bool → ℕ → ProgressTable
after_ack t from true index = cond (among t.ids from) (record t { next_of = updated t.next_of from (suc (max (t.match_of from) index)); match_of = updated t.match_of from (max (t.match_of from) index) }) t
after_ack t from false index = cond (among t.ids from) (record t { next_of = updated t.next_of from (max (suc (t.match_of from)) (min (t.next_of from - 1) (suc index))) }) t

-- Other peers: those that stay keep next and match, a new one has the given next and match 0.
abbrev pub rows_for : List ℕ → ℕ → List PeerProgress → List PeerProgress
rows_for ids next rows = map (λ id. record { id = id; next = cond (among (ids_in rows) id) (next_in rows id) next; matched = match_in rows id }) ids

-- What a leader knows of all: its id, the voters, and the rows of its peers.
pub record LeaderProgress : Type 0 where
  pub own : ℕ
  pub voters : List ℕ
  pub rows : List PeerProgress

-- Up to which index a node has the leader's log: the leader all of it, another one what its Acks reported.
abbrev pub has_in : LeaderProgress → ℕ → ℕ → ℕ
has_in v last p = cond (p == v.own) last (match_in v.rows p)

-- The greatest index past the commit index that a majority of the voters has with an entry of the term; else the commit index.
abbrev pub commit_of : LeaderProgress → List Entry → ℕ → ℕ → ℕ
commit_of v log term commit = commit_up_to log term v.voters (has_in v (length log)) commit (length log)
