-- Wrong steps of a session, which the laws of this crate refuse.
use Rattle.std.specs.Prelude.{◌≡◌, ◌≢◌, ℕ, Bool, false, List, [], ◌∷◌, Some, None}
use Rattle.wire_msgs.specs.declared.response.Response.TheVariants as responses
use Rattle.sql_engine.specs.Replies.{Statement}
use Rattle.session_spec.specs.Asking.{Tells, Runs}
use Rattle.session_spec.specs.Entries.{Content}
use Rattle.session_spec.specs.Events.{landed}
use Rattle.session_spec.specs.Machine.{Machine}
use Rattle.session_spec.specs.Sessions.{result, empty, Prepared, Opening, Flight, Transaction, Session, Note, Answers, Proposes}
use Rattle.session_spec.specs.Statements.{prepared_at}
use Rattle.headline.specs.Clients.{Client}
use Rattle.headline.specs.Clients as client
use Rattle.client_view_safety.specs.Views.{IsAskedFor, KnowsAfter}

-- ---- what a node does for a message

-- A message asks for one statement, and the node runs another one.
abbrev pub NoOtherStatement : Type 0
NoOtherStatement = (m : Machine) (s t : Statement) → s ≢ t → IsAskedFor m (client.Runs false (s ∷ [])) (Runs (t ∷ [])) → ⊥

-- A message can't be right, and the node runs a statement for it.
abbrev pub NoStatementForWrongMessage : Type 0
NoStatementForWrongMessage = (m : Machine) (s : Statement) → IsAskedFor m client.Never (Runs (s ∷ [])) → ⊥

-- A message asks for the files of a database, and the node answers it by EMPTY.
abbrev pub NoEmptyForDump : Type 0
NoEmptyForDump = (m : Machine) (name : List ℕ) → IsAskedFor m (client.Dumps name) (Tells responses.Empty) → ⊥

-- ---- what a client knows after an answer

-- OPEN is proposed, and its entry leaves the session with another database than the client asked for.
abbrev pub NoOtherDatabase : Type 0
NoOtherDatabase =
    (k : Client) (place : ℕ) (name : List ℕ) (barriers : Bool) (s : Session) (contents : List Content) (note : Note) (f : Flight) → s.flight ≡ Some f →
    f.kind ≡ Opening → (landed s f Opening).database ≢ name → KnowsAfter k place (client.Opens name barriers) (Proposes s contents note) → ⊥

-- BEGIN is answered by RESULT, and the session has no transaction, nor has it lost one.
abbrev pub NoLostBegin : Type 0
NoLostBegin =
    (k : Client) (place : ℕ) (s : Session) (note : Note) → s.tx ≡ None → s.lost ≡ false →
    KnowsAfter k place client.Begins (Answers s (result 0) note) → ⊥

-- COMMIT is answered by RESULT, and the transaction is still open.
abbrev pub NoOpenAfterCommit : Type 0
NoOpenAfterCommit =
    (k : Client) (place : ℕ) (s : Session) (note : Note) (x : Transaction) → s.tx ≡ Some x → KnowsAfter k place client.Commits (Answers s (result 0) note) → ⊥

-- FINALIZE is answered by EMPTY, and the session still has the statement.
abbrev pub NoStatementAfterFinalize : Type 0
NoStatementAfterFinalize =
    (k : Client) (place id : ℕ) (s : Session) (note : Note) (p : Prepared) → prepared_at s.statements id ≡ Some p →
    KnowsAfter k place (client.Drops id) (Answers s empty note) → ⊥
