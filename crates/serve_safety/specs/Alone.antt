-- A node that was served alone, as a run.
use Rattle.std.specs.Prelude.{◌≡◌, ◌≢◌, ℕ, false, List, [], ◌∷◌, ◌++◌, map, Option, Some, None}
use Rattle.sql_engine.specs.declared.kind.EngineKind.{EngineKind}
use Rattle.sql_engine.specs.Meanings.{Meaning, Told}
use Rattle.session_spec.specs.Entries.{Entry as Line}
use Rattle.session_spec.specs.Sessions.{Reply, Job}
use Rattle.session_outcomes.specs.Reading.{read_named}
use Rattle.session_safety.specs.Lending.{handed_on, no_jobs}
use Rattle.session_safety.specs.Nodes.{Said as Spoke}
use Rattle.raft_spec.specs.Node.{Server}
use Rattle.raft_safety.specs.Members.{Setup}
use Rattle.node_spec.specs.Steps.{CompletesStart}
use Rattle.node_core.specs.declared.event.Event as core
use Rattle.node_core.specs.declared.event.Event.TheVariants as events
use Rattle.node_core.specs.declared.outs.StepOutputs.{StepOutputs}
use Rattle.node_core.specs.declared.running.Running.{Running}
use Rattle.node_core.specs.Account.{Sends}
use Rattle.node_core.specs.Values.{seen}
use Rattle.cluster_safety.specs.Laws.{SafeRun}
use Rattle.cluster_safety.specs.Runs.{Up, Down, Event, TellsOf, nothing_kept, spoken, first_run, run, AllHold}
use Rattle.serve_safety.specs.Paths.{PathSo}

-- ---- what reaches a node alone

-- what a reader answers is made of answers over the image of its job; one that gives its query back says nothing
abbrev pub TellsOver : Meaning → EngineKind → Option Job → Option Reply → Type 0
TellsOver m kind job None = Unit {0}
TellsOver m kind job (Some reply) = TellsOf m kind job reply

-- No message of a peer comes, and a reader says of the job that was handed out last for its connection.
abbrev pub ComesAlone : Meaning → EngineKind → (ℕ → Option Job) → core.Event → Type 0
ComesAlone m kind jobs (events.Peer message) = ⊥
ComesAlone m kind jobs (events.ReadDone conn read) = TellsOver m kind (jobs conn) (read_named read)
ComesAlone m kind jobs events.Timeout = Unit {0}
ComesAlone m kind jobs events.Beat = Unit {0}
ComesAlone m kind jobs events.Yield = Unit {0}
ComesAlone m kind jobs (events.Connect conn) = Unit {0}
ComesAlone m kind jobs (events.Bytes conn bytes) = Unit {0}
ComesAlone m kind jobs (events.Hangup conn) = Unit {0}

-- so at each step, by what the steps before it handed to readers
abbrev pub Orderly : Meaning → EngineKind → (ℕ → Option Job) → List core.Event → List StepOutputs → Type 0
Orderly m kind jobs [] outs = Unit {0}
Orderly m kind jobs (event ∷ events) [] = Unit {0}
Orderly m kind jobs (event ∷ events) (o ∷ more) = ComesAlone m kind jobs event × Orderly m kind (handed_on jobs o.reads.items) events more

-- ---- what was served

-- the replies of each step are sent by it, with the refusals of messages that read as no request between them
abbrev pub AllSend : List (List (ℕ × Reply)) → List StepOutputs → Type 0
AllSend [] [] = Unit {0}
AllSend [] (o ∷ more) = ⊥
AllSend (replies ∷ rest) [] = ⊥
AllSend (replies ∷ rest) (o ∷ more) = Sends replies o.replies.items × AllSend rest more

abbrev pub joined : List (List (ℕ × Reply)) → List (ℕ × Reply)
joined [] = []
joined (replies ∷ rest) = replies ++ joined rest

-- The node was served alone: there is a run whose clauses hold, in which it is so at the end and no other node has done anything; it
-- said what was said; and it is safe.
pub record Served (m : Meaning) (kind : EngineKind) (setup : Setup) (n : ℕ) (outs : List StepOutputs) (new : Running) : Type 0 where
  pub happened : List Event
  pub hold : AllHold m kind setup first_run happened
  pub up : (run happened).places n ≡ Up (seen new)
  pub others : (k : ℕ) → k ≢ n → (run happened).places k ≡ Down nothing_kept
  pub replies : List (List (ℕ × Reply))
  pub told : (run happened).said ≡ map (spoken n) (joined replies)
  pub sends : AllSend replies outs
  pub chosen : List Line
  pub said : List Spoke
  pub safe : SafeRun m setup (run happened) chosen said

-- From a start over nothing that was kept, of a node without peer connections: if the events were orderly, what was served is a run of it alone.
abbrev pub AloneIsSafe : Meaning → EngineKind → Type 0
AloneIsSafe m kind =
    (setup : Setup) (n : ℕ) (old new : Running) (servers : List Server) (before after : Option Told) (events : List core.Event) (outs : List StepOutputs) →
    CompletesStart setup nothing_kept (seen old) servers → (seen old).raft.id ≡ n → old.has_links ≡ false → PathSo m kind setup old before events outs new after →
    Orderly m kind no_jobs events outs → Served m kind setup n outs new
