-- The order in time of proposals: what was pending is applied before what is proposed later.
use Rattle.std.specs.Prelude.{◌≡◌, ℕ, ◌<◌, true, List, ◌++◌, length, Some}
use Rattle.sql_engine.specs.declared.kind.EngineKind.{EngineKind}
use Rattle.sql_engine.specs.Meanings.{Meaning}
use Rattle.session_spec.specs.Entries.{Content, Entry as Line}
use Rattle.session_spec.specs.Sessions.{Flight}
use Rattle.session_safety.specs.Replies.{StandsAt}
use Rattle.raft_safety.specs.Members.{Setup}
use Rattle.raft_safety.specs.Laws.{Leads, node_at, log_at}
use Rattle.cluster_model.specs.Clusters.{Cluster, Act, first_cluster, cluster, ActsFit}
use Rattle.cluster_model.specs.Laws.{AllBelow, chosen_seen}

-- at the index, from 1, is an entry of this term
abbrev pub HasTerm : List Line → ℕ → ℕ → Type 0
HasTerm log index term = (content : Content) × StandsAt log index term content

-- At the moment of a cluster a node leads the term, and its log ends before the index.
pub record MayAppend (setup : Setup) (c : Cluster) (node term index : ℕ) : Type 0 where
  pub leads : Leads setup c.raft node term
  pub ends : length (log_at setup c.raft node) < index

-- A proposal is pending at a running node at some moment. At this moment or a later one a leader's log ends before an index. If both are in the list that is
-- applied in the end, the last entry of the proposal, and at that index an entry of this leader's term, then the proposal is before the index. So a proposal
-- that is made later is applied later, also if the first one was refused by a loss of leadership and then brought through by another node.
abbrev pub PendingComesFirst : Meaning → EngineKind → Type 0
PendingComesFirst m kind =
    (setup : Setup) (acts more rest : List Act) (n conn k term index : ℕ) (f : Flight) → ActsFit m kind setup first_cluster acts →
    let c = cluster setup acts in
    let chosen = chosen_seen setup (cluster setup (acts ++ (more ++ rest))) in
    (node_at setup c.raft n).up ≡ true → ((c.lives n).gate.session conn).flight ≡ Some f →
    MayAppend setup (cluster setup (acts ++ more)) k term index → 0 < index →
    HasTerm chosen index term → HasTerm chosen f.last f.term → f.last < index

-- In the same way, each entry that a reply of any node waited for by some moment is before each entry that a leader appends after it.
abbrev pub AnsweredComesFirst : Meaning → EngineKind → Type 0
AnsweredComesFirst m kind =
    (setup : Setup) (acts more rest : List Act) (k term index : ℕ) → ActsFit m kind setup first_cluster acts →
    MayAppend setup (cluster setup (acts ++ more)) k term index → 0 < index →
    HasTerm (chosen_seen setup (cluster setup (acts ++ (more ++ rest)))) index term → AllBelow index (cluster setup acts).said
