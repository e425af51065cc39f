-- Wrong proposals and replies, which the laws of this crate refuse.
use Rattle.std.specs.Prelude.{◌≡◌, ◌≢◌, ℕ, true, List, [], ◌∷◌, ◌++◌, Some, None}
use Rattle.dq_base.specs.declared.pages.NumberedPage.{NumberedPage}
use Rattle.log_commands.specs.declared.command.Command.TheVariants.{OpenDb, Frames}
use Rattle.sql_engine.specs.Replies.{Statement}
use Rattle.session_spec.specs.Causes.{Cause, LeadershipLost}
use Rattle.session_spec.specs.Entries.{Does, Entry}
use Rattle.session_spec.specs.Sessions.{Refusal, Querying, Flight, Session, Note, Refused, Proposes}
use Rattle.session_safety.specs.Life.{tells, says, called}
use Rattle.session_safety.specs.Nodes.{Node}
use Rattle.proposal_safety.specs.Proposing.{ProposesOneIfAny, AnswersProposal}

-- A request proposes two new databases.
abbrev pub NoTwoChanges : Type 0
NoTwoChanges = (s : Session) (first second : List ℕ) (note : Note) → ProposesOneIfAny (Proposes s (Does (OpenDb first) ∷ Does (OpenDb second) ∷ []) note) → ⊥

-- A request proposes a new database, and its session has nothing pending: no client is answered when the entry is applied.
abbrev pub NoLooseProposal : Type 0
NoLooseProposal = (s : Session) (name : List ℕ) (note : Note) → s.flight ≡ None → ProposesOneIfAny (Proposes s (Does (OpenDb name) ∷ []) note) → ⊥

-- What a session has pending is the barrier before a query, and its entry is a commit of pages.
abbrev pub NoChangeForQuery : Type 0
NoChangeForQuery =
    (s : Session) (f : Flight) (statement : Statement) (name : List ℕ) (tx truncate : ℕ) (pages : List NumberedPage) (note : Note) → s.flight ≡ Some f →
    f.kind ≡ Querying statement → ProposesOneIfAny (Proposes s (Does (Frames name tx truncate true pages) ∷ []) note) → ⊥

-- A request is refused at once, and the log has an entry more.
abbrev pub NoProposalForRefused : Type 0
NoProposalForRefused = (w : Node) (conn : ℕ) (cause : Cause) (x : Entry) → (called w conn (Refused cause)).log ≡ w.log ++ x ∷ [] → ⊥

-- A change is pending, and then its connection is sent a refusal for another cause than a loss of leadership, though the change may be applied.
abbrev pub NoRefusedChange : Type 0
NoRefusedChange = (w : Node) (conn : ℕ) (cause : Cause) → cause ≢ LeadershipLost → AnswersProposal conn w (says w (tells conn (Refusal cause) ∷ [])) → ⊥
