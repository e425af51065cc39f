-- What a node keeps on its disk, and the account of its steps: what is kept, then applied, then sent, in this order.
use Rattle.std.specs.Prelude.{ℕ, zero, suc, ◌-◌, Bool, true, cond, nat_lt, min, List, [], ◌∷◌, ◌++◌}
use Rattle.raft_spec.specs.Log.{Entry, LogEnd}
use Rattle.raft_spec.specs.Node.{Message, Follower, Node, Server, Input, Outcome}

-- What a node has stored, and up to which index it has applied its log.
pub record Stored : Type 0 where
  pub term : ℕ
  pub vote : ℕ
  pub log : List Entry
  pub snapshot : LogEnd
  pub base : ℕ
  pub applied : ℕ

-- What a node has stored, and its commit index as applied.
abbrev pub stored_of : Node → Stored
stored_of s = record { term = s.term; vote = s.vote; log = s.log; snapshot = s.snapshot; base = s.base; applied = s.commit }

-- One act of a node towards its disk, its databases or its peers.
pub data Act : Type 0 where
  -- term and vote are kept
  StoreMetadata : (term vote : ℕ) → Act
  -- a batch of entries is kept, which leaves this log; or a snapshot, with the entries that stay
  StoreLog : (log : List Entry) (snapshot : LogEnd) (base : ℕ) → Act
  -- the entry at the index is applied
  Apply : (index : ℕ) → Act
  -- the databases become those of the snapshot
  Restore : (index : ℕ) → Act
  -- a message is sent
  Send : (message : Message) → Act

-- What is stored and applied after an act.
abbrev pub enact : Stored → Act → Stored
enact x (StoreMetadata term vote) = record x { term = term; vote = vote }
enact x (StoreLog log snapshot base) = record x { log = log; snapshot = snapshot; base = base }
enact x (Apply index) = record x { applied = index }
enact x (Restore index) = record x { applied = index }
enact x (Send m) = x

-- What is stored and applied after several acts.
abbrev pub enacted : Stored → List Act → Stored
enacted x [] = x
enacted x (a ∷ acts) = enacted (enact x a) acts

-- The next this many indexes are applied, one after another.
abbrev pub applies : ℕ → ℕ → List Act
applies index zero = []
applies index (suc n) = Apply (suc index) ∷ applies (suc index) n

-- What a step applies: a snapshot past the commit index, which an Install brought; else the entries up to the new commit index.
abbrev pub applying : Node → Node → List Act
applying s t = cond (nat_lt s.commit t.snapshot.index) (Restore t.commit ∷ []) (applies s.commit (t.commit - s.commit))

-- The acts of one step, except for its messages: metadata, then batch or snapshot, then what is applied. To keep what is kept already is no disk
-- call.
unfoldable pub step_acts : Node → Node → List Act
step_acts s t = StoreMetadata t.term t.vote ∷ StoreLog t.log t.snapshot t.base ∷ applying s t

-- The node after several steps, one after another.
abbrev pub steps : (Node → Input → Outcome) → Node → List Input → Node
steps step s [] = s
steps step s (i ∷ is) = steps step (step s i).node is

-- All messages that these steps say.
abbrev pub said : (Node → Input → Outcome) → Node → List Input → List Message
said step s [] = []
said step s (i ∷ is) = (step s i).out ++ said step (step s i).node is

-- The account of several steps, except for their messages.
abbrev pub account : (Node → Input → Outcome) → Node → List Input → List Act
account step s [] = []
account step s (i ∷ is) = step_acts s (step s i).node ++ account step (step s i).node is

-- The node that has stored this, down or started again with these servers: a follower that has applied its snapshot alone.
abbrev pub loaded : Bool → List Server → Stored → Node
loaded up servers x = record {
  up = up;
  term = x.term;
  vote = x.vote;
  log = x.log;
  role = Follower;
  leader = 0;
  commit = x.snapshot.index;
  grants = [];
  servers = servers;
  next_of = λ p. 1;
  match_of = λ p. 0;
  snapshot = x.snapshot;
  base = x.base;
}

-- A loaded log may begin earlier than the one that was kept, with older entries that its whole log has.
abbrev pub older : ℕ → Stored → Stored
older base x = record x { base = min base x.base }

-- No more than this many indexes are applied.
abbrev pub applied_to : ℕ → Stored → Stored
applied_to index x = record x { applied = min index x.applied }

-- A node that has kept nothing.
abbrev pub fresh : List Server → Node
fresh servers = loaded true servers (record { term = 0; vote = 0; log = []; snapshot = record { index = 0; term = 0 }; base = 0; applied = 0 })
