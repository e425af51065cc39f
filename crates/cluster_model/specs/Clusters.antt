-- A cluster of whole nodes: Raft's world, and beside it the life of each node since its last start.
use Rattle.std.specs.Prelude.{◌≡◌, ℕ, ◌<◌, true, false, cond, ◌==◌, List, [], ◌∷◌, ◌++◌, length, take, drop}
use Rattle.sql_engine.specs.declared.kind.EngineKind.{EngineKind}
use Rattle.sql_engine.specs.Meanings.{Meaning}
use Rattle.session_spec.specs.Entries.{Entry}
use Rattle.session_spec.specs.Seen.{log_seen}
use Rattle.session_safety.specs.Nodes.{Said, Node as Life, started, applied_entries}
use Rattle.session_safety.specs.Life.{Event as Doing, Connect, Hangup, Call, Resume, Done, Apply, Lose, Lead, Serve, Append, Follow, Fits, happens as goes_on, run_from as lives_on}
use Rattle.raft_spec.specs.Node.{Node, Server, Input, is_leader}
use Rattle.raft_spec.specs.Account.{Stored, stored_of, enacted, applied_to, steps, account}
use Rattle.raft_safety.specs.Members.{Setup, member_step}
use Rattle.raft_safety.specs.World.{Cause, Event, Acts, Stops, Crash, Start, inputs, run}
use Rattle.raft_safety.specs.Laws.{node_at}
use Rattle.raft_safety.specs.Properties.{ProposalsKeep}
use Rattle.cluster_model.specs.Weaving.{IsWoven}

-- The events of Raft so far, the life of each node, and all that was said to clients. The life of a node that is down is
-- the one that ended.
pub record Cluster : Type 0 where
  pub raft : List Event
  pub lives : ℕ → Life
  pub said : List Said

-- What happens at one node: an event of Raft, and what happens in its life by it. A stopped event says nothing, and its
-- life goes as far as the node came.
pub data Act : Type 0 where
  Moves : (node : ℕ) (causes : List Cause) (places : List ℕ) (life : List Doing) → Act
  Breaks : (node : ℕ) (causes : List Cause) (acts applied base : ℕ) (life : List Doing) → Act
  Crashes : (node : ℕ) → Act
  Starts : (node : ℕ) (servers : List Server) → Act

abbrev pub event_of : Act → Event
event_of (Moves n causes places life) = Acts n causes places
event_of (Breaks n causes acts applied base life) = Stops n causes acts applied base
event_of (Crashes n) = Crash n
event_of (Starts n servers) = Start n servers

-- the life that begins at a start: the log that was kept, no session
abbrev pub booted : Node → Life
booted s = started (log_seen s.log) s.commit s.term

-- the events of Raft with that of the act
abbrev pub raft_after : Cluster → Act → List Event
raft_after c a = c.raft ++ event_of a ∷ []

-- the cluster after the act, with this life of a node, and where so much more was said
abbrev pub with_life : Cluster → Act → ℕ → Life → List Said → Cluster
with_life c a n life more = record { raft = raft_after c a; lives = λ k. cond (k == n) life (c.lives k); said = c.said ++ more }

-- what is said in these events of a life
abbrev pub said_in : Life → List Doing → List Said
said_in w events = drop (length w.said) (lives_on w events).said

-- what is said in an act
abbrev pub said_of : Cluster → Act → List Said
said_of c (Moves n causes places life) = said_in (c.lives n) life
said_of c (Breaks n causes acts applied base life) = []
said_of c (Crashes n) = []
said_of c (Starts n servers) = []

-- what happens in a node's life by an act
abbrev pub doings : ℕ → Act → List Doing
doings k (Moves n causes places life) = cond (k == n) life []
doings k (Breaks n causes acts applied base life) = cond (k == n) life []
doings k (Crashes n) = []
doings k (Starts n servers) = []

abbrev pub all_doings : ℕ → List Act → List Doing
all_doings n [] = []
all_doings n (a ∷ acts) = doings n a ++ all_doings n acts

-- the cluster after an act
unfoldable pub acted : Setup → Cluster → Act → Cluster
acted setup c (Moves n causes places life) = with_life c (Moves n causes places life) n (lives_on (c.lives n) life) (said_in (c.lives n) life)
acted setup c (Breaks n causes acts applied base life) = with_life c (Breaks n causes acts applied base life) n (lives_on (c.lives n) life) []
acted setup c (Crashes n) = with_life c (Crashes n) n (c.lives n) []
acted setup c (Starts n servers) = with_life c (Starts n servers) n (cond (node_at setup c.raft n).up (c.lives n) (booted (node_at setup (raft_after c (Starts n servers)) n))) []

-- every node runs and has stored nothing
abbrev pub first_cluster : Cluster
first_cluster = record { raft = []; lives = λ n. started [] 0 0; said = [] }

abbrev pub cluster_from : Setup → Cluster → List Act → Cluster
cluster_from setup c [] = c
cluster_from setup c (a ∷ more) = cluster_from setup (acted setup c a) more

-- the cluster after these acts
unfoldable pub cluster : Setup → List Act → Cluster
cluster setup acts = cluster_from setup first_cluster acts

-- What a node sees to in its life. What others made of its log is a front of the log that the node has after some step
-- of the event.
abbrev pub FitsIn : Meaning → EngineKind → (ℕ → List Entry) → Life → Doing → Type 0
FitsIn m kind logs w (Connect conn) = Fits m kind w (Connect conn)
FitsIn m kind logs w (Hangup conn) = Fits m kind w (Hangup conn)
FitsIn m kind logs w (Call conn standing request answers) = Fits m kind w (Call conn standing request answers)
FitsIn m kind logs w (Resume conn standing answers) = Fits m kind w (Resume conn standing answers)
FitsIn m kind logs w (Done conn answers) = Fits m kind w (Done conn answers)
FitsIn m kind logs w Apply = Fits m kind w Apply
FitsIn m kind logs w (Lose term) = Fits m kind w (Lose term)
FitsIn m kind logs w (Lead term) = Fits m kind w (Lead term)
FitsIn m kind logs w Serve = Fits m kind w Serve
FitsIn m kind logs w (Append contents) = Fits m kind w (Append contents)
FitsIn m kind logs w (Follow entries) = (w.leads ≡ false) × (k : ℕ) × (rest : List Entry) × (logs k ≡ (take w.applied w.log ++ entries) ++ rest)

abbrev pub AllFitIn : Meaning → EngineKind → (ℕ → List Entry) → Life → List Doing → Type 0
AllFitIn m kind logs w [] = Unit {0}
AllFitIn m kind logs w (e ∷ events) = FitsIn m kind logs w e × AllFitIn m kind logs (goes_on w e) events

-- the log after the first k steps, as sessions see it
abbrev pub step_logs : Setup → ℕ → Node → List Input → ℕ → List Entry
step_logs setup me s is k = log_seen (steps (member_step setup me) s (take k is)).log

-- replies that waited are said in the term that the node still leads at the end of the act
abbrev pub InTerm : Life → List Said → Type 0
InTerm w [] = Unit {0}
InTerm w (x ∷ xs) = (0 < x.index → (x.term ≡ w.term) × (w.leads ≡ true)) × InTerm w xs

-- The life of a running node has the node's log and term, leads where the node does, and has applied what the node's commit
-- index says.
pub record Coherent (w : Life) (s : Node) : Type 0 where
  pub log : w.log ≡ log_seen s.log
  pub applied : w.applied ≡ s.commit
  pub term : w.term ≡ s.term
  pub leads : w.leads ≡ is_leader s.role

-- What a node shows of an event that ends well. The node, in Raft's state s, takes in these inputs, one step after
-- another, and beside them this happens in its life.
pub record StepFits (m : Meaning) (kind : EngineKind) (setup : Setup) (me : ℕ) (s : Node) (is : List Input) (w : Life) (life : List Doing) : Type 0 where
  -- each proposal keeps the log woven
  pub weaves : ProposalsKeep IsWoven setup me s is
  -- the events of the life fit
  pub fits : AllFitIn m kind (step_logs setup me s is) w life
  -- replies that waited are of the term at the end
  pub terms : InTerm (lives_on w life) (said_in w life)
  -- at the end the life has the node's log, applied index, term and leadership
  pub coherent : Coherent (lives_on w life) (steps (member_step setup me) s is)

-- The life of a stopped event has applied the entries that its acts applied.
pub record Ended (w : Life) (x : Stored) : Type 0 where
  pub applied : w.applied ≡ x.applied
  pub front : applied_entries w ≡ log_seen (take x.applied x.log)

-- what is after this many acts of these steps, if no more than this many indexes were applied
abbrev pub stands_after : Setup → ℕ → Node → List Input → ℕ → ℕ → Stored
stands_after setup me s is acts applied = applied_to applied (enacted (stored_of s) (take acts (account (member_step setup me) s is)))

-- What a node shows of an event that is stopped after this many acts: the life is a front of what it would have been.
pub record StopFits (m : Meaning) (kind : EngineKind) (setup : Setup) (me : ℕ) (s : Node) (is : List Input) (acts applied : ℕ) (w : Life) (life : List Doing) : Type 0 where
  pub weaves : ProposalsKeep IsWoven setup me s is
  pub fits : AllFitIn m kind (step_logs setup me s is) w life
  pub ended : Ended (lives_on w life) (stands_after setup me s is acts applied)

-- what the node takes in for these causes
abbrev pub taken_in : Setup → Cluster → ℕ → List Cause → List Input
taken_in setup c n causes = inputs n (run setup c.raft).messages causes

-- The premises of the laws: a node that runs makes its steps so, and one that is down has no life.
abbrev pub ActFits : Meaning → EngineKind → Setup → Cluster → Act → Type 0
ActFits m kind setup c (Moves n causes places life) = ((node_at setup c.raft n).up ≡ true) × StepFits m kind setup n (node_at setup c.raft n) (taken_in setup c n causes) (c.lives n) life
ActFits m kind setup c (Breaks n causes acts applied base life) =
    ((node_at setup c.raft n).up ≡ true → StopFits m kind setup n (node_at setup c.raft n) (taken_in setup c n causes) acts applied (c.lives n) life)
    × ((node_at setup c.raft n).up ≡ false → life ≡ [])
ActFits m kind setup c (Crashes n) = Unit {0}
ActFits m kind setup c (Starts n servers) = Unit {0}

abbrev pub ActsFit : Meaning → EngineKind → Setup → Cluster → List Act → Type 0
ActsFit m kind setup c [] = Unit {0}
ActsFit m kind setup c (a ∷ more) = ActFits m kind setup c a × ActsFit m kind setup (acted setup c a) more
