-- The order in time of what nodes propose, for runs of whole nodes.
use Rattle.std.specs.Prelude.{◌≡◌, ℕ, ◌<◌, List, ◌++◌, take, Some}
use Rattle.sql_engine.specs.declared.kind.EngineKind.{EngineKind}
use Rattle.sql_engine.specs.Meanings.{Meaning}
use Rattle.session_spec.specs.Entries.{Entry as Line}
use Rattle.session_spec.specs.Sessions.{Flight}
use Rattle.session_safety.specs.Nodes.{Said}
use Rattle.raft_spec.specs.Node.{Leader}
use Rattle.raft_safety.specs.Members.{Setup}
use Rattle.cluster_model.specs.Laws.{AllBelow}
use Rattle.node_spec.specs.Nodes.{Node}
use Rattle.order_safety.specs.Order.{HasTerm}
use Rattle.cluster_safety.specs.Runs.{Run, Up, Event, first_run, run, AllHold}
use Rattle.cluster_safety.specs.Laws.{SafeRun, log_end}

-- A proposal of a connection is pending at a node that is up.
pub record IsPending (r : Run) (node conn : ℕ) (f : Flight) : Type 0 where
  pub value : Node
  pub up : r.places node ≡ Up value
  pub flight : (value.sessions.session conn).flight ≡ Some f

-- A node that is up leads the term, and its log ends before the index.
pub record MayPropose (r : Run) (node term index : ℕ) : Type 0 where
  pub value : Node
  pub up : r.places node ≡ Up value
  pub leads : value.raft.role ≡ Leader
  pub in_term : value.raft.term ≡ term
  pub ends : log_end value < index

-- Three moments of a run, by one list of entries and one account. What was pending or answered at the first moment is before each entry that a leader appends
-- after the second one, if both are in the list of the third.
pub record KeepsOrder (m : Meaning) (setup : Setup) (early middle late : List Event) : Type 0 where
  pub chosen : List Line
  pub said : List Said
  pub safe : SafeRun m setup (run (early ++ (middle ++ late))) chosen said
  pub size : ℕ
  pub count : ℕ
  pub before : SafeRun m setup (run early) (take size chosen) (take count said)
  pub pending : (n conn k term index : ℕ) (f : Flight) → IsPending (run early) n conn f → MayPropose (run (early ++ middle)) k term index → 0 < index →
      HasTerm chosen index term → HasTerm chosen f.last f.term → f.last < index
  pub answered : (k term index : ℕ) → MayPropose (run (early ++ middle)) k term index → 0 < index → HasTerm chosen index term →
      AllBelow index (take count said)

-- This holds of every run in which each call of a node met its clauses.
abbrev pub ProposalsKeepOrder : Meaning → EngineKind → Type 0
ProposalsKeepOrder m kind = (setup : Setup) (early middle late : List Event) → AllHold m kind setup first_run (early ++ (middle ++ late)) →
    KeepsOrder m setup early middle late
