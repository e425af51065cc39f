-- What happens at a node between two moments of an event, a stretch. One stretch joins the next, and the whole is what an event has to
-- show, ended or stopped; so a turn of a node shows its own stretch alone.
use Rattle.std.specs.Prelude.{◌≡◌, ◌≢◌, ◌⊎◌, ℕ, ◌≤◌, Bool, true, false, ◌||◌, List, [], ◌∷◌, ◌++◌, map, Option, Some, None}
use Rattle.sql_engine.specs.declared.kind.EngineKind.{EngineKind}
use Rattle.sql_engine.specs.Meanings.{Meaning}
use Rattle.database_state.specs.Machines.{IsMachine}
use Rattle.wire_msgs.specs.declared.request.Request.{Request}
use Rattle.session_spec.specs.Engines.{Answer}
use Rattle.session_spec.specs.Machine.{machine_of}
use Rattle.session_spec.specs.Restarts.{restarted, shifted}
use Rattle.session_spec.specs.Seen.{log_seen}
use Rattle.session_spec.specs.Sessions.{Reply, Job, is_due, is_busy}
use Rattle.session_safety.specs.Nodes.{Said, Node as Life, databases}
use Rattle.session_safety.specs.Life.{Event as Doing, run_from as lives_on}
use Rattle.session_safety.specs.Answering.{Handled, handled_in, IsOpen}
use Rattle.session_safety.specs.Lending.{lent_in, answers_in}
use Rattle.raft_spec.specs.Log.{Entry}
use Rattle.raft_spec.specs.Node as raft
use Rattle.raft_spec.specs.Node.{is_leader}
use Rattle.raft_spec.specs.NodeValues.{IsCoherent, node_of}
use Rattle.raft_spec.specs.Outcomes.{with_term}
use Rattle.raft_spec.specs.Account.{stored_of, older, steps, said}
use Rattle.raft_spec.specs.Compaction.{compacted_step}
use Rattle.raft_safety.specs.Members.{Setup, member_step}
use Rattle.raft_safety.specs.Cuts.{Twin, Told}
use Rattle.raft_safety.specs.Properties.{ProposalKeeps, ProposalsKeep}
use Rattle.store_laws.specs.Store.{Kept}
use Rattle.cluster_model.specs.Clusters.{AllFitIn, InTerm, step_logs}
use Rattle.cluster_model.specs.Weaving.{IsWoven}
use Rattle.node_spec.specs.Nodes.{Node, KeptIs}
use Rattle.node_spec.specs.Steps.{Letter, Taken, TakesIn, told, JoinsOnly, calls, ArePartOf, ReadsIn, FlightsServed, AllSent, CompletesStep, StopsInStep}

-- ---- moments

-- A node at a moment of an event: the index up to which it has applied its log, and the proposals that Raft hasn't taken yet.
pub record Moment : Type 0 where
  pub node : Node
  pub applied : ℕ
  pub due : List (List Entry)

-- between two events all that is committed is applied, and nothing is left to propose
abbrev pub resting : Node → Moment
resting n = record { node = n; applied = n.raft.commit; due = [] }

-- a log after which these proposals are taken, in a term
abbrev pub with_due : ℕ → List Entry → List (List Entry) → List Entry
with_due term log [] = log
with_due term log (es ∷ due) = with_due term (log ++ with_term term es) due

-- each of them keeps the log woven
abbrev pub DueWeaves : ℕ → List Entry → List (List Entry) → Type 0
DueWeaves term log [] = Unit {0}
DueWeaves term log (es ∷ due) = (IsWoven log → IsWoven (log ++ with_term term es)) × DueWeaves term (log ++ with_term term es) due

-- A moment represents a node of Raft with its whole log, and a life, which has what is proposed after that log.
pub record StandsAt (setup : Setup) (a : Moment) (s : raft.Node) (w : Life) : Type 0 where
  pub twin : Twin s (node_of a.node.raft)
  pub raft : IsCoherent a.node.raft
  pub up : s.up ≡ true
  pub log : w.log ≡ log_seen (with_due s.term s.log a.due)
  pub weaves : DueWeaves s.term s.log a.due
  pub applied : w.applied ≡ a.applied
  pub within : a.applied ≤ s.commit
  pub term : w.term ≡ s.term
  pub leads : w.leads ≡ is_leader s.role
  pub serving : w.serving ≡ a.node.serving
  pub machine : IsMachine a.node.machine
  pub lacks : List ℕ → ℕ
  pub since : List ℕ → ℕ
  pub files : databases w ≡ restarted lacks since (machine_of a.node.machine)
  pub sessions : w.gate ≡ shifted lacks a.node.sessions
  pub kept : KeptIs setup a.node.kept (stored_of s)

-- ---- stretches

-- What comes of a stretch: what Raft takes in, what connections ask, what is said; the queries that are handed to readers, and the
-- answers that the engine answered; and whether a reply may be one that waited for a proposal.
pub record Piece : Type 0 where
  pub inputs : List raft.Input
  pub asks : ℕ → List Request
  pub letters : List Letter
  pub replies : List (ℕ × Reply)
  pub jobs : List (ℕ × Job)
  pub answers : List Answer
  pub late : Bool

abbrev pub no_piece : Piece
no_piece = record { inputs = []; asks = λ conn. []; letters = []; replies = []; jobs = []; answers = []; late = false }

-- one after the other
abbrev pub both : Piece → Piece → Piece
both p q = record {
  inputs = p.inputs ++ q.inputs;
  asks = λ conn. p.asks conn ++ q.asks conn;
  letters = p.letters ++ q.letters;
  replies = p.replies ++ q.replies;
  jobs = p.jobs ++ q.jobs;
  answers = p.answers ++ q.answers;
  late = p.late || q.late;
}

-- what is taken in, in an event with these bytes of a snapshot, and this connection that comes
abbrev pub taken_by : List ℕ → Option ℕ → Piece → Taken
taken_by bytes joins p = record { inputs = p.inputs; bytes = bytes; joins = joins; read = None; asks = p.asks }

-- and in one that begins with what a reader answers
abbrev pub read_by : List ℕ → Option ℕ → Option (ℕ × Reply) → Piece → Taken
read_by bytes joins read p = record { inputs = p.inputs; bytes = bytes; joins = joins; read = read; asks = p.asks }

-- none of these replies waited for a proposal
abbrev pub NoneWaited : List Said → Type 0
NoneWaited [] = Unit {0}
NoneWaited (x ∷ xs) = (x.index ≡ 0) × NoneWaited xs

-- Of a connection that is open at the end, and didn't come in between, each request is handled or waits still.
pub record AllKept (a b : Moment) (p : Piece) (w : Life) (life : List Doing) (conn : ℕ) : Type 0 where
  pub all : calls conn life ++ b.node.waiting conn ≡ a.node.waiting conn ++ p.asks conn
  pub handled : map (λ (h : Handled). h.request) (handled_in conn w life) ≡ calls conn life

-- The events of a life between two moments, beside the steps of these inputs.
pub record Lives (m : Meaning) (kind : EngineKind) (setup : Setup) (me : ℕ) (joins : Option ℕ) (a b : Moment) (p : Piece) (s : raft.Node) (w : Life) (is : List raft.Input) : Type 0 where
  pub life : List Doing
  pub said : List Said
  pub weaves : ProposalsKeep IsWoven setup me s is
  pub fits : AllFitIn m kind (step_logs setup me s is) w life
  pub stands : StandsAt setup b (steps (member_step setup me) s is) (lives_on w life)
  pub says : (lives_on w life).said ≡ w.said ++ said
  pub replies : p.replies ≡ map told said
  pub lends : p.jobs ≡ lent_in w life
  pub uses : p.answers ≡ answers_in w life
  pub terms : FlightsServed w → InTerm (lives_on w life) said
  pub early : p.late ≡ false → NoneWaited said
  pub joined : JoinsOnly joins life
  pub handles : (conn : ℕ) → ArePartOf (calls conn life ++ b.node.waiting conn) (a.node.waiting conn ++ p.asks conn)
  pub completes : (conn : ℕ) → IsOpen (b.node.sessions.session conn) → joins ≢ Some conn → AllKept a b p w life conn

-- From one moment to another: Raft's part makes the steps and says their messages; and for whatever the first one represented there
-- is such a life, after which the second represents what the steps and the life lead to.
pub record Goes (m : Meaning) (kind : EngineKind) (setup : Setup) (me : ℕ) (bytes : List ℕ) (joins : Option ℕ) (a b : Moment) (p : Piece) : Type 0 where
  pub made : node_of b.node.raft ≡ steps (compacted_step me) (node_of a.node.raft) p.inputs
  pub letters : map (λ (l : Letter). l.message) p.letters ≡ said (compacted_step me) (node_of a.node.raft) p.inputs
  pub lives : (s : raft.Node) (w : Life) (is : List raft.Input) → StandsAt setup a s w → TakesIn setup me a.node s is (taken_by bytes joins p) →
      Told setup me s is → Lives m kind setup me joins a b p s w is

-- This holds from an event's begin, if a reader may have told this: its life rests on what the reader answers being so.
pub record Begins (m : Meaning) (kind : EngineKind) (setup : Setup) (me : ℕ) (bytes : List ℕ) (joins : Option ℕ) (read : Option (ℕ × Reply)) (a b : Moment) (p : Piece) : Type 0 where
  pub made : node_of b.node.raft ≡ steps (compacted_step me) (node_of a.node.raft) p.inputs
  pub letters : map (λ (l : Letter). l.message) p.letters ≡ said (compacted_step me) (node_of a.node.raft) p.inputs
  pub lives : (s : raft.Node) (w : Life) (is : List raft.Input) → StandsAt setup a s w → TakesIn setup me a.node s is (taken_by bytes joins p) →
      Told setup me s is → ReadsIn m kind w read → Lives m kind setup me joins a b p s w is

-- term and leadership are the same at both moments
pub record SameTerm (a b : Moment) : Type 0 where
  pub term : b.node.raft.term ≡ a.node.raft.term
  pub leads : is_leader b.node.raft.role ≡ is_leader a.node.raft.role

-- ---- the laws

-- if nothing happens
abbrev pub NothingGoes : Meaning → EngineKind → Type 0
NothingGoes m kind = (setup : Setup) (me : ℕ) (bytes : List ℕ) (joins : Option ℕ) (a : Moment) → Goes m kind setup me bytes joins a a no_piece

-- One stretch more. What waited for a proposal is told in the term of the end: so a term may change only if nothing that waited
-- was told in this event before.
abbrev pub GoesOn : Meaning → EngineKind → Type 0
GoesOn m kind =
    (setup : Setup) (me : ℕ) (bytes : List ℕ) (joins : Option ℕ) (a b c : Moment) (p q : Piece) →
    Goes m kind setup me bytes joins a b p → Goes m kind setup me bytes joins b c q → (p.late ≡ false) ⊎ SameTerm b c →
    Goes m kind setup me bytes joins a c (both p q)

-- A stretch may be an event's first one, whatever a reader answered; and the event continues by any stretch.
abbrev pub GoesBegins : Meaning → EngineKind → Type 0
GoesBegins m kind =
    (setup : Setup) (me : ℕ) (bytes : List ℕ) (joins : Option ℕ) (read : Option (ℕ × Reply)) (a b : Moment) (p : Piece) →
    Goes m kind setup me bytes joins a b p → Begins m kind setup me bytes joins read a b p

abbrev pub BeginsOn : Meaning → EngineKind → Type 0
BeginsOn m kind =
    (setup : Setup) (me : ℕ) (bytes : List ℕ) (joins : Option ℕ) (read : Option (ℕ × Reply)) (a b c : Moment) (p q : Piece) →
    Begins m kind setup me bytes joins read a b p → Goes m kind setup me bytes joins b c q → (p.late ≡ false) ⊎ SameTerm b c →
    Begins m kind setup me bytes joins read a c (both p q)

-- What a snapshot that is sent is stays so, where what is kept changes in one of two stretches at most.
abbrev pub SentOn : Type 0
SentOn = (a b c : Kept) (xs ys : List Letter) → AllSent a b xs → AllSent b c ys → (a.snap ≡ b.snap) ⊎ (b.snap ≡ c.snap) → AllSent a c (xs ++ ys)

-- An event may end here: all that is committed is applied, nothing is left to propose, no request waits but after one that is yet
-- to be answered, and a query whose barrier is applied has been run.
pub record MayEnd (a : Moment) : Type 0 where
  pub applied : a.applied ≡ a.node.raft.commit
  pub due : a.due ≡ []
  pub waits : (conn : ℕ) → IsOpen (a.node.sessions.session conn) → is_busy (a.node.sessions.session conn) ≡ false → a.node.waiting conn ≡ []
  pub run : (conn : ℕ) → IsOpen (a.node.sessions.session conn) → is_due (a.node.sessions.session conn).later ≡ false

abbrev pub GoesToEnd : Meaning → EngineKind → Type 0
GoesToEnd m kind =
    (setup : Setup) (me : ℕ) (bytes : List ℕ) (joins : Option ℕ) (read : Option (ℕ × Reply)) (old : Node) (b : Moment) (p : Piece) →
    Begins m kind setup me bytes joins read (resting old) b p → MayEnd b → CompletesStep m kind setup me old b.node (read_by bytes joins read p) p.letters p.replies p.jobs p.answers

-- A stop between two stretches: what is kept is what the node had kept at this moment.
abbrev pub StopsBetween : Meaning → EngineKind → Type 0
StopsBetween m kind =
    (setup : Setup) (me : ℕ) (bytes : List ℕ) (joins : Option ℕ) (read : Option (ℕ × Reply)) (old : Node) (b : Moment) (p : Piece) →
    Begins m kind setup me bytes joins read (resting old) b p → StopsInStep m kind setup me old b.node.kept (read_by bytes joins read p)

-- what is taken in with one input more
abbrev pub with_input : Piece → raft.Input → Piece
with_input p i = record p { inputs = p.inputs ++ i ∷ [] }

-- What is kept between two nodes of Raft, in the step from one to the other: all of the first; term and vote of the second over the
-- log of the first; or all of the second; maybe with a longer old part of the log.
abbrev pub LeftBetween : Setup → Kept → raft.Node → raft.Node → Type 0
LeftBetween setup kept s t =
    (base : ℕ) × (KeptIs setup kept (older base (stored_of s)) ⊎
    (KeptIs setup kept (older base (record (stored_of s) { term = t.term; vote = t.vote })) ⊎ KeptIs setup kept (older base (stored_of t))))

-- so in the step of this input at whatever the moment represents
abbrev pub LeftBy : Setup → ℕ → List ℕ → Option ℕ → Moment → raft.Input → Kept → Type 0
LeftBy setup me bytes joins b i kept =
    (s : raft.Node) (w : Life) (j : raft.Input) → StandsAt setup b s w →
    TakesIn setup me b.node s (j ∷ []) (taken_by bytes joins (record no_piece { inputs = i ∷ [] })) → Told setup me s (j ∷ []) →
    ProposalKeeps IsWoven s j × LeftBetween setup kept s (member_step setup me s j).node

-- A stop within the step of one input more.
abbrev pub StopsWithin : Meaning → EngineKind → Type 0
StopsWithin m kind =
    (setup : Setup) (me : ℕ) (bytes : List ℕ) (joins : Option ℕ) (read : Option (ℕ × Reply)) (old : Node) (b : Moment) (p : Piece) (i : raft.Input) (kept : Kept) →
    Begins m kind setup me bytes joins read (resting old) b p → LeftBy setup me bytes joins b i kept →
    StopsInStep m kind setup me old kept (read_by bytes joins read (with_input p i))
