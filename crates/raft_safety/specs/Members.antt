-- The voters that a log gives, by the changes in it. A reader that reads nothing gives fixed voters.
use Rattle.std.specs.Prelude.{◌≡◌, ℕ, zero, suc, Bool, true, false, cond, not, ◌&&◌, ◌||◌, ◌==◌, Option, Some, None, List, [], ◌∷◌, drop}
use Rattle.std.specs.List.{list_any}
use Rattle.raft_spec.specs.Log.{EntryKind, Command, Barrier, Change, Entry, term_at}
use Rattle.raft_spec.specs.Node.{Node, Server, voters, Outcome, Input, Local, Receive, Timeout, Beat, Yield, Propose, Transfer, Snapped, UseServers}
use Rattle.raft_spec.specs.Outcomes.{quiet}
use Rattle.raft_spec.specs.Steps.{raft_step}

-- what reads a configuration, and the opening one
pub record Setup : Type 0 where
  pub read : List ℕ → Option (List Server)
  pub opening : List Server

-- nothing reads: the configuration is fixed
abbrev pub fixed : List Server → Setup
fixed servers = record { read = λ b. None; opening = servers }

-- the entry is a change of the servers
abbrev pub is_change : EntryKind → Bool
is_change Command = false
is_change Barrier = false
is_change Change = true

-- the bytes read as a configuration
abbrev pub reads : Option (List Server) → Bool
reads None = false
reads (Some servers) = true

-- the servers that were read; none if nothing reads
abbrev pub servers_read : Option (List Server) → List Server
servers_read None = []
servers_read (Some servers) = servers

-- the voters among them
abbrev pub voters_read : Option (List Server) → List ℕ
voters_read r = voters (servers_read r)

-- a change entry that reads
abbrev pub changes : Setup → Entry → Bool
changes setup e = is_change e.kind && reads (setup.read e.bytes)

-- whether the k-th entry, from 0, is a change that reads
abbrev pub nth_change : Setup → List Entry → ℕ → Bool
nth_change setup [] k = false
nth_change setup (e ∷ es) zero = changes setup e
nth_change setup (e ∷ es) (suc k) = nth_change setup es k

-- whether the entry at the index changes the configuration
unfoldable pub change_at : Setup → List Entry → ℕ → Bool
change_at setup log zero = false
change_at setup log (suc k) = nth_change setup log k

-- the configuration after these entries, if these servers were before
abbrev pub configuration_from : Setup → List Server → List Entry → List Server
configuration_from setup servers [] = servers
configuration_from setup servers (e ∷ es) = configuration_from setup (cond (changes setup e) (servers_read (setup.read e.bytes)) servers) es

-- the configuration after these entries: that of the last change that reads, else the opening one
unfoldable pub configuration : Setup → List Entry → List Server
configuration setup log = configuration_from setup setup.opening log

-- its voters
unfoldable pub voters_after : Setup → List Entry → List ℕ
voters_after setup log = voters (configuration setup log)

-- two lists of ids are the same
abbrev pub same_ids : List ℕ → List ℕ → Bool
same_ids [] [] = true
same_ids [] (w ∷ ws) = false
same_ids (v ∷ ids) [] = false
same_ids (v ∷ ids) (w ∷ ws) = (v == w) && same_ids ids ws

-- the second list has one id more
abbrev pub one_more : List ℕ → List ℕ → Bool
one_more ids [] = false
one_more [] (w ∷ ws) = same_ids [] ws
one_more (v ∷ ids) (w ∷ ws) = cond (v == w) (one_more ids ws) (same_ids (v ∷ ids) ws)

-- one of these entries is a change that reads
abbrev pub any_change : Setup → List Entry → Bool
any_change setup es = list_any (λ e. changes setup e) es

-- a leader that has applied its barrier and every earlier change may propose one whose voters are those now, or one more or less
unfoldable pub may_change : Setup → Node → Entry → Bool
may_change setup s e = (term_at s.log s.commit == s.term) && not (any_change setup (drop s.commit s.log))
    && (same_ids (voters_after setup s.log) (voters_read (setup.read e.bytes))
    || one_more (voters_after setup s.log) (voters_read (setup.read e.bytes))
    || one_more (voters_read (setup.read e.bytes)) (voters_after setup s.log))

-- a change is alone
abbrev pub may_propose : Setup → Node → List Entry → Bool
may_propose setup s [] = true
may_propose setup s (e ∷ []) = not (changes setup e) || may_change setup s e
may_propose setup s (e ∷ f ∷ es) = not (any_change setup (e ∷ f ∷ es))

-- all else may be taken at any time
abbrev pub may_take : Setup → Node → Input → Bool
may_take setup s (Local (Propose es)) = may_propose setup s es
may_take setup s (Local Timeout) = true
may_take setup s (Local Beat) = true
may_take setup s (Local Yield) = true
may_take setup s (Local (Transfer to)) = true
may_take setup s (Local (Snapped i)) = true
may_take setup s (Local (UseServers servers)) = true
may_take setup s (Receive m) = true

-- one step of a running node, by the voters that its log gives
unfoldable pub member_step : Setup → ℕ → Node → Input → Outcome
member_step setup me s i = cond (may_take setup s i) (raft_step (voters_after setup) me s i) (quiet s)

-- if nothing reads, every log gives the opening configuration
abbrev pub FixedServers : Type 0
FixedServers = (servers : List Server) (log : List Entry) → configuration (fixed servers) log ≡ servers

-- and every proposal may be made
abbrev pub FixedProposals : Type 0
FixedProposals = (servers : List Server) (s : Node) (i : Input) → may_take (fixed servers) s i ≡ true
