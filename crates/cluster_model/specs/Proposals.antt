-- What a leader proposes, as entries of Raft and as contents that sessions see; and what others make of a node's log.
use Rattle.std.specs.Prelude.{◌≡◌, ◌⊎◌, ℕ, suc, ◌<◌, Bool, List, ◌++◌, length, take, drop, map}
use Rattle.std.specs.List.{AllByRecursion}
use Rattle.dq_base.specs.declared.pages.NumberedPage.{NumberedPage}
use Rattle.log_commands.specs.Splitting.{split}
use Rattle.session_spec.specs.Entries.{Content, Does, tx_of, entries_of, written}
use Rattle.session_spec.specs.Seen.{log_seen, HasSpelling}
use Rattle.session_safety.specs.Nodes.{Node as Life}
use Rattle.session_safety.specs.Life.{ArePlain}
use Rattle.raft_spec.specs.Log as raft
use Rattle.raft_spec.specs.Node.{Node, Local, Propose}
use Rattle.raft_spec.specs.Outcomes.{with_term}
use Rattle.raft_safety.specs.Laws.{SameUpTo}
use Rattle.raft_safety.specs.Properties.{ProposalKeeps}
use Rattle.cluster_model.specs.Weaving.{IsWoven}
use Rattle.cluster_model.specs.Clusters.{Coherent}

-- A leader that proposes contents as they are written adds them, in its term, to the log that sessions see, whatever term they
-- were written in.
abbrev pub ProposalsSeen : Type 0
ProposalsSeen = (log : List raft.Entry) (any term : ℕ) (contents : List Content) → AllByRecursion HasSpelling contents → log_seen (log ++ with_term term (written any contents)) ≡ log_seen log ++ entries_of term contents

-- the split pages of a write, numbered by the term and the index of the first
abbrev pub IsNumbered : Node → List Content → Type 0
IsNumbered s contents = (name : List ℕ) × (pages : List NumberedPage) × (length s.log < 4294900000) × (contents ≡ map Does (split name (record { tx = tx_of s.term (suc (length s.log)); pages = pages })))

-- A write's entries, split and numbered by the term and the index of the first, keep the log woven; so do contents without
-- pages.
abbrev pub ProposalsWeave : Type 0
ProposalsWeave =
    (s : Node) (any : ℕ) (contents : List Content) (serving : Bool) → AllByRecursion HasSpelling contents → ArePlain serving contents ⊎ IsNumbered s contents →
    ProposalKeeps IsWoven s (Local (Propose (written any contents)))

-- What others make of a node's log, by a step that keeps what it had applied, is what its life follows.
abbrev pub FollowsLog : Type 0
FollowsLog = (w : Life) (s t : Node) → Coherent w s → SameUpTo s.commit s.log t.log → log_seen t.log ≡ take w.applied w.log ++ drop w.applied (log_seen t.log)
