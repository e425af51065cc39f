-- Properties of logs that every front of a log with the property has too, as that the entries of each transaction are in one piece.
use Rattle.std.specs.Prelude.{◌≡◌, ℕ, true, List, [], ◌∷◌, ◌++◌, take}
use Rattle.raft_spec.specs.Log.{Entry}
use Rattle.raft_spec.specs.Node.{Node, Input, Local, Receive, Timeout, Beat, Yield, Propose, Transfer, Snapped, UseServers, is_leader}
use Rattle.raft_spec.specs.Outcomes.{barrier, with_term}
use Rattle.raft_safety.specs.Members.{Setup, member_step}
use Rattle.raft_safety.specs.World.{World, Event, happens, start, run}
use Rattle.raft_safety.specs.Laws.{node_at, log_at}
use Rattle.raft_safety.specs.Chosen.{actor, chosen}
use Rattle.raft_safety.specs.Sources.{intake, midway}

-- The empty log has it, each front of a log that has it does, and a barrier at its end keeps it.
pub record IsFrontClosed (Q : List Entry → Type 0) : Type 0 where
  pub empty : Q []
  pub fronts : (log : List Entry) (k : ℕ) → Q log → Q (take k log)
  pub barriers : (log : List Entry) (term : ℕ) → Q log → Q (log ++ barrier term ∷ [])

-- What a leader proposes keeps the property of its log.
abbrev pub ProposalKeeps : (List Entry → Type 0) → Node → Input → Type 0
ProposalKeeps Q s (Local (Propose es)) = is_leader s.role ≡ true → Q s.log → Q (s.log ++ with_term s.term es)
ProposalKeeps Q s (Local Timeout) = Unit {0}
ProposalKeeps Q s (Local Beat) = Unit {0}
ProposalKeeps Q s (Local Yield) = Unit {0}
ProposalKeeps Q s (Local (Transfer to)) = Unit {0}
ProposalKeeps Q s (Local (Snapped i)) = Unit {0}
ProposalKeeps Q s (Local (UseServers servers)) = Unit {0}
ProposalKeeps Q s (Receive m) = Unit {0}

-- So at each of these steps.
abbrev pub ProposalsKeep : (List Entry → Type 0) → Setup → ℕ → Node → List Input → Type 0
ProposalsKeep Q setup n s [] = Unit {0}
ProposalsKeep Q setup n s (i ∷ is) = ProposalKeeps Q s i × ProposalsKeep Q setup n (member_step setup n s i).node is

-- So at each step of an event of a running node, a stopped event too.
abbrev pub EventKeeps : (List Entry → Type 0) → Setup → World → Event → Type 0
EventKeeps Q setup w e = (w.nodes (actor e)).up ≡ true → ProposalsKeep Q setup (actor e) (w.nodes (actor e)) (intake w e)

-- So in each of these events.
abbrev pub EventsKeep : (List Entry → Type 0) → Setup → World → List Event → Type 0
EventsKeep Q setup w [] = Unit {0}
EventsKeep Q setup w (e ∷ es) = EventKeeps Q setup w e × EventsKeep Q setup (happens setup w e) es

-- If each proposal of a leader keeps the property, all logs of all nodes have it, at all times.
abbrev pub LogsHave : (List Entry → Type 0) → Type 0
LogsHave Q = IsFrontClosed Q → (setup : Setup) (events : List Event) → EventsKeep Q setup (start setup) events → (n : ℕ) → Q (log_at setup events n)

-- So do they after each step of each event.
abbrev pub LogsMidwayHave : (List Entry → Type 0) → Type 0
LogsMidwayHave Q = IsFrontClosed Q → (setup : Setup) (events : List Event) (e : Event) →
    EventsKeep Q setup (start setup) events → EventKeeps Q setup (run setup events) e →
    ((run setup events).nodes (actor e)).up ≡ true → (k : ℕ) → Q (midway setup (run setup events) e k).log

-- And what was applied has it: the chosen entries, and what each node applied of them.
abbrev pub AppliedHas : (List Entry → Type 0) → Type 0
AppliedHas Q = IsFrontClosed Q → (setup : Setup) (events : List Event) → EventsKeep Q setup (start setup) events →
    Q (chosen setup events) × ((n : ℕ) → Q (take (node_at setup events n).commit (log_at setup events n)))
