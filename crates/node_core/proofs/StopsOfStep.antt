-- What is kept where a step was stopped, as what the acts of the rules leave.
use Rattle.std.proofs.Common.{Bool, false, true≢false, append_assoc, ◌≡◌, inl, inr, ℕ, cond, List, [], ◌∷◌, ◌++◌, Option, Some, None, Result, Ok, Err, refl, sym, ap, subst, ◌∙◌}
use Rattle.std.specs.Prelude.{◌==◌, OnErr}
use Rattle.std.proofs.lemmas.Bool.{cond-true, cond-false, eq-eqb, ne_eqb}
use Rattle.wire_msgs.specs.declared.request.Request.{Request}
use Rattle.database_state.specs.Machines.{IsMachine}
use Rattle.session_outcomes.specs.Reading.{read_named}
use Rattle.sql_engine.specs.declared.kind.EngineKind.{EngineKind}
use Rattle.sql_engine.specs.Meanings.{Meaning, Told}
use Rattle.raft_spec.specs.Node as raft
use Rattle.raft_core.specs.declared.event.RaftEvent.{RaftEvent}
use Rattle.raft_core.specs.declared.event.RaftEvent.TheVariants as raft_events
use Rattle.raft_core.specs.Events.{input_of}
use Rattle.raft_safety.specs.Members.{Setup}
use Rattle.store_laws.specs.Store.{Kept}
use Rattle.raft_on_disk.specs.Replicas.{kept_of}
use Rattle.node_spec.specs.Accounts.{Moment, both, read_by, with_input, MayEnd, LeftBy}
use Rattle.node_spec.specs.Steps.{TellsVoters}
use Rattle.node_spec.specs.RaftTurns.{IsFirst, StopLeaves}
use Rattle.node_core.specs.declared.event.Event.{Event}
use Rattle.node_core.specs.declared.event.Event.TheVariants as happens
use Rattle.node_core.specs.declared.running.Running.{Running}
use Rattle.node_core.specs.Account.{moment_of, Brought, Since, Begin, Happens, Comes, Compacts, BytesAsk, told_of, AtRest, Stopped, none_made, Between, Comes_in, IsOwn, IsMore, IsAlone, message_by, messages_of, Underway, AccountsForStop}
use Rattle.node_core.specs.Finding.{StopsIn, unchanged_yet, in_change, StopsOwn, before_own, in_own, StopsCompacting, BeganStops, at_once, later_on, StopsLetter, letter_stopped, no_letter}
use Rattle.node_core.specs.Posting.{told_inputs}
use Rattle.node_core.specs.Voters.{MayBe}
use Rattle.node_core.specs.Taking.{bytes_with, came_by}
use Rattle.node_core.specs.Values.{seen, clients_in, waiting_on}
use Rattle.node_core.specs.Whole.{IsOutside}
use Rattle.node_core.proofs.Accounting.{begun_stops, since_stops, since_within, begin_within, since_ends, went_on, went_stops, are_more, all_then, since_next, since_on, underway_stops}
use Rattle.node_core.specs.Carrying.{MovesLines}
use Rattle.node_core.proofs.Carried.{no_moves, none_yet, since_up_to}
use Rattle.node_core.proofs.Besides.{tells_stop, tells_begun}
use Rattle.node_core.proofs.Beginning.{BeginsWith, with_letter}
use Rattle.node_core.proofs.Bridges.{asked_more}
use Rattle.node_core.proofs.RaftAccounts.{told_turns}

pub always_err : {T F P : Type 0} (r : Result T F) → P → OnErr r P
always_err (Ok x) p = tt
always_err (Err f) p = p

-- an event from outside is none that is due
outside_first : (a : Moment) (event : RaftEvent) → IsOutside event → IsFirst a (input_of event)
outside_first a raft_events.Timeout o = tt
outside_first a raft_events.Beat o = tt
outside_first a raft_events.Yield o = tt
outside_first a (raft_events.Message m) o = tt
outside_first a (raft_events.Propose es) o = absurd o
outside_first a (raft_events.Transfer to) o = absurd o
outside_first a (raft_events.Snapped at) o = absurd o
outside_first a (raft_events.Servers servers) o = absurd o

module _ (law : StopLeaves) (m : Meaning) (kind : EngineKind) (setup : Setup) where
  -- ---- an act

  -- within the step of an input that the node added
  stops_in : {before now : Option Told} (x : Brought) (late : Bool) (from mid : Running) (begin : Begin) (i : raft.Input) (kept : Kept) → AtRest from → Comes_in from begin x → (since : Since m kind setup x late from mid before now) → IsOwn i → IsFirst (moment_of mid) i →
      TellsVoters setup from.replica.id (seen from) (read_by x.bytes x.joins x.read (with_input since.piece i)) → StopsIn setup x.bytes mid i kept → Stopped m kind setup from begin kept
  stops_in x late from mid begin i kept stood comes since own first tells s =
      since_within m kind setup x late from mid begin i kept stood comes since own tells
      (λ known. subst (λ me. LeftBy setup me x.bytes x.joins (moment_of mid) i kept) since.id (law setup mid.replica.id x.bytes x.joins (moment_of mid) i kept first s))

  -- with its event of Raft's
  pub began_stopped : (from : Running) (begin : Begin) (e : RaftEvent) (kept : Kept) → AtRest from → BeginsWith from begin e → IsOutside e → BeganStops m kind setup from e kept → Stopped m kind setup from begin kept
  began_stopped from begin e kept stood w outside (at_once may s) =
      begin_within m kind setup (came_by e) from begin (input_of e) kept stood (record { inputs = inl w.inputs; bytes = w.bytes; joins = w.joins; read = w.read; asks = w.asks }) refl (λ conn. refl) may
      (λ known. law setup from.replica.id (bytes_with e) None (moment_of from) (input_of e) kept (outside_first (moment_of from) e outside) s)
  began_stopped from begin e kept stood w outside (later_on mid i since own first may s) =
      stops_in (came_by e) _ from mid begin i kept stood (record { inputs = inl w.inputs; bytes = w.bytes; joins = w.joins; read = w.read; asks = w.asks }) since own first
      (tells_begun setup (bytes_with e) from None None (with_input since.piece i) may) s

  -- ---- a step under way

  module _ {before now : Option Told} (start : Running) (event : Event) (a : Running) (u : Underway m kind setup start a event before now) where
    -- between two turns
    pub stopped_here : AccountsForStop m kind setup start event (kept_of a.replica)
    stopped_here = underway_stops m kind setup start a event (kept_of a.replica) u (since_stops m kind setup u.so_far.brought u.so_far.late u.from a u.begin u.stood u.so_far.comes u.so_far.since u.so_far.beside)

    -- in a turn for what the node gave Raft itself
    pub stopped_own : (kept : Kept) → StopsOwn setup u.so_far.brought.bytes a kept → AccountsForStop m kind setup start event kept
    unfolding since_on
    stopped_own kept (before_own (unchanged_yet e)) = subst (AccountsForStop m kind setup start event) (sym e) stopped_here
    stopped_own kept (before_own (in_change servers may s)) =
        let x = u.so_far.brought in
        let i : raft.Input = raft.Local (raft.UseServers servers) in
        underway_stops m kind setup start a event kept u
        (stops_in u.so_far.brought u.so_far.late u.from a u.begin i kept u.stood u.so_far.comes u.so_far.since tt tt
        (tells_stop setup x.bytes u.from a x.joins x.read (with_input u.so_far.since.piece i) u.so_far.since.piece.inputs (i ∷ []) u.so_far.since.id u.so_far.beside may refl) s)
    stopped_own kept (in_own mid i told own first may s) =
        let x = u.so_far.brought in
        let t = told_turns m kind setup x.bytes x.joins a mid told in
        underway_stops m kind setup start a event kept u
        (stops_in x _ u.from mid u.begin i kept u.stood u.so_far.comes (since_on m kind setup x u.so_far.late u.from a mid u.so_far.since t.turns (inr t.same) (inr t.snap)) own first
        (tells_stop setup x.bytes u.from a x.joins x.read (with_input (both u.so_far.since.piece t.turns.piece) i) u.so_far.since.piece.inputs (told_inputs told ++ i ∷ []) u.so_far.since.id u.so_far.beside may
        (ap (λ (is : List raft.Input). (u.so_far.since.piece.inputs ++ is) ++ i ∷ []) t.is ∙ append_assoc u.so_far.since.piece.inputs (told_inputs told) (i ∷ []))) s)

    -- at the begin of another act
    pub stopped_next : (b : Running) (next : Begin) (kept : Kept) → MayEnd (moment_of a) → a.replica.raft.id ≡ a.replica.id → Between a b → IsMore next → (a.has_links ≡ false → IsAlone next) → MovesLines a b (message_by next) → Stopped m kind setup b next kept → AccountsForStop m kind setup start event kept
    stopped_next b next kept end id between more alone moves stopped =
        let f = u.so_far in
        let r = since_ends m kind setup f.brought f.late u.from a u.begin u.stood f.comes f.since f.beside end id in
        went_stops m kind setup start a b (u.begins ++ u.begin ∷ []) next event kept (are_more event u.begins u.begin next u.are more)
        (went_on m kind setup start u.mid u.from a u.begins u.begin r.0 u.went u.between r.1 r.2 r.3) between stopped
        (λ none. all_then (u.begins ++ u.begin ∷ []) next (u.alone none) (alone (u.links ∙ none)))
        (since_up_to event start b (messages_of ((u.begins ++ u.begin ∷ []) ++ next ∷ [])) (since_next event start a b (u.begins ++ u.begin ∷ []) next u.lines moves))

    -- in an own snapshot
    pub stopped_compacting : (kept : Kept) → MayEnd (moment_of a) → a.replica.raft.id ≡ a.replica.id → AtRest a → MayBe setup a [] (raft.Local (raft.Snapped a.applied.index) ∷ []) → StopsCompacting setup [] a kept → AccountsForStop m kind setup start event kept
    stopped_compacting kept end id stood may s =
        stopped_next a (Compacts a.applied.index) kept end id (record { same = refl; links = refl; mail = refl; replies = refl; reads = refl }) tt (λ none. tt) (no_moves a)
        (begin_within m kind setup (record { inputs = raft.Local (raft.Snapped a.applied.index) ∷ []; bytes = []; joins = None; read = None; asks = λ conn. [] }) a (Compacts a.applied.index) (raft.Local (raft.Snapped a.applied.index)) kept stood
        (record { inputs = inl refl; bytes = refl; joins = refl; read = refl; asks = λ conn. refl }) refl (λ conn. refl) may
        (λ known. law setup a.replica.id [] None (moment_of a) (raft.Local (raft.Snapped a.applied.index)) kept tt (s known)))

    -- at the begin of a message of a peer
    pub stopped_letter : (kept : Kept) → MayEnd (moment_of a) → a.replica.raft.id ≡ a.replica.id → AtRest a → StopsLetter m kind setup a kept → AccountsForStop m kind setup start event kept
    stopped_letter kept end id stood (no_letter e) = subst (AccountsForStop m kind setup start event) (sym e) stopped_here
    stopped_letter kept end id stood (letter_stopped message mid linked is moves s) =
        stopped_next mid (Comes message) kept end id
        (record { same = ap seen is; links = ap (λ (n : Running). n.has_links) is; mail = ap (λ (n : Running). n.mail) is; replies = ap (λ (n : Running). n.outs.replies.items) is; reads = ap (λ (n : Running). n.outs.reads.items) is }) tt
        (λ none. absurd (true≢false (sym linked ∙ none))) moves
        (began_stopped mid (Comes message) (raft_events.Message message) kept (subst AtRest (sym is) (record { rests = stood.rests; at = stood.at; id = stood.id })) (with_letter mid message) tt s)

-- ---- the begin of a step

-- what bytes ask on a connection, be they taken in or not
pub asked_bytes : (old : Running) (conn : ℕ) (bytes : List ℕ) → (asks : ℕ → List Request) × BytesAsk old conn bytes asks
asked_bytes old conn bytes =
    let more = asked_more ((clients_in old).streams conn) bytes in
    let asks : ℕ → List Request = λ other. cond (other == conn) more.0 [] in (
      asks,
      record {
        here = ap (λ (r : List Request). waiting_on ((clients_in old).streams conn) ++ r) (cond-true (conn == conn) more.0 [] (eq-eqb conn conn refl)) ∙ more.1;
        others = λ other apart. cond-false (other == conn) more.0 [] (ne_eqb other conn apart);
      },
    )

-- no input of Raft comes in by these
abbrev pub IsClients : Event → Type 0
IsClients (happens.Connect conn) = Unit {0}
IsClients (happens.Hangup conn) = Unit {0}
IsClients (happens.Bytes conn bytes) = Unit {0}
IsClients (happens.ReadDone conn read) = Unit {0}
IsClients event = ⊥

-- a client's event that failed has left what was kept
pub client_stopped : (m : Meaning) (kind : EngineKind) (setup : Setup) (old : Running) (event : Event) → IsMachine old.applied.machine → AtRest old → IsClients event → Stopped m kind setup old (Happens event) (kept_of old.replica)
client_stopped m kind setup old (happens.Connect conn) machine stood c =
    begun_stops m kind setup (record { inputs = []; bytes = []; joins = Some conn; read = None; asks = λ other. [] }) old (Happens (happens.Connect conn)) machine stood
    (record { inputs = inl refl; bytes = refl; joins = refl; read = refl; asks = λ other. refl }) refl
client_stopped m kind setup old (happens.Hangup conn) machine stood c =
    begun_stops m kind setup (record { inputs = []; bytes = []; joins = None; read = None; asks = λ other. [] }) old (Happens (happens.Hangup conn)) machine stood
    (record { inputs = inl refl; bytes = refl; joins = refl; read = refl; asks = λ other. refl }) refl
client_stopped m kind setup old (happens.Bytes conn bytes) machine stood c =
    let a = asked_bytes old conn bytes in
    begun_stops m kind setup (record { inputs = []; bytes = []; joins = None; read = None; asks = a.0 }) old (Happens (happens.Bytes conn bytes)) machine stood
    (record { inputs = inl refl; bytes = refl; joins = refl; read = refl; asks = a.1 }) refl
client_stopped m kind setup old (happens.ReadDone conn read) machine stood c =
    begun_stops m kind setup (record { inputs = []; bytes = []; joins = None; read = told_of conn (read_named read); asks = λ other. [] }) old (Happens (happens.ReadDone conn read)) machine stood
    (record { inputs = inl refl; bytes = refl; joins = refl; read = refl; asks = λ other. refl }) refl
client_stopped m kind setup old happens.Timeout machine stood c = absurd c
client_stopped m kind setup old happens.Beat machine stood c = absurd c
client_stopped m kind setup old happens.Yield machine stood c = absurd c
client_stopped m kind setup old (happens.Peer message) machine stood c = absurd c

-- the first act was stopped
pub first_stopped : (m : Meaning) (kind : EngineKind) (setup : Setup) (start from : Running) (event : Event) (kept : Kept) → Between start from → Stopped m kind setup from (Happens event) kept → AccountsForStop m kind setup start event kept
first_stopped m kind setup start from event kept between stopped = record {
  begins = [];
  last = Happens event;
  are = (refl, tt);
  mid = from;
  made = none_made;
  acts = (between.same, refl);
  stopped = stopped;
  alone = λ none. (tt, tt);
  lines = none_yet event start;
}
