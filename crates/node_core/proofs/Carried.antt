-- The connections of a node, and those that carry a peer's messages, in the turns of a step.
use Rattle.std.proofs.Common.{◌≡◌, ℕ, Bool, true, false, cond, List, [], ◌∷◌, ◌++◌, Option, Some, None, refl, sym, ap, subst, ◌∙◌, append_assoc, append-nil}
use Rattle.std.specs.Prelude.{◌==◌, is_none}
use Rattle.std.specs.List.{flat_map}
use Rattle.std.proofs.lemmas.Bool.{cond-true, eq-eqb}
use Rattle.std.proofs.lemmas.List.Concat.{flat_map-append}
use Rattle.wire_words.specs.declared.message.Message.{Message}
use Rattle.client_connection.specs.declared.connection.CloseReason.{CloseReason}
use Rattle.client_connection.specs.declared.connection.CloseReason.TheVariants.{Peer}
use Rattle.client_connection.specs.Connection.{Conn, received}
use Rattle.session_spec.specs.Machine.{machine_of}
use Rattle.session_statements.specs.Calls.{EngineCall}
use Rattle.raft_messages.specs.declared.message.RaftMessage.{RaftMessage}
use Rattle.client_sessions.specs.declared.act.Act.{Act}
use Rattle.client_sessions.specs.declared.act.Act.TheVariants as acts
use Rattle.client_sessions.specs.declared.connect_result.ConnectResult.{ConnectResult}
use Rattle.client_sessions.specs.Calls.{TookOffer, TookTurn}
use Rattle.client_sessions.specs.Clients.{Clients, IsOffered, with_stream, joining, joined, hung_up, closing, closed, heard, heard_on, without}
use Rattle.client_sessions.proofs.Offers.{next_is_first}
use Rattle.raft_on_disk.specs.Replicas.{ReplicaValue}
use Rattle.node_core.specs.declared.event.Event.{Event}
use Rattle.node_core.specs.declared.event.Event.TheVariants as events
use Rattle.node_core.specs.declared.links.Link.{Link}
use Rattle.node_core.specs.declared.outs.StepOutputs.{StepOutputs}
use Rattle.node_core.specs.declared.running.Running.{Running}
use Rattle.node_core.specs.Carrying.{Lines, lines_in, link_on, without_link, heard_link, close_of, full_for, came_unless, full_unless, heard_by_line, begun_by, closed_first, reason_at, gone_at}
use Rattle.node_core.specs.Carrying.{Move, TakesAsked, TakesConnect, TakesSent, FindsWrong, LooksAt, sent_by, closed_by, with_first, MovesBy, Runs, first_waiting}
use Rattle.node_core.specs.Carrying.{BeginsLines, MovesLines, LinesSince, ConnectionsOfStep, ConnectionsOfStop}
use Rattle.node_core.specs.Conns.{KeepsConns, LeavesConns, StreamsAfterMessage, link_for}
use Rattle.node_core.specs.Values.{clients_in}
use Rattle.node_core.proofs.PeerActs.{IfPeer, IsConnect, took_peer}

-- ---- moves, one after another

pub runs_on : (a b c : Lines) (xs ys : List Move) → Runs a b xs → Runs b c ys → Runs a c (xs ++ ys)
runs_on a b c [] ys x y = subst (λ (l : Lines). Runs l c ys) x y
runs_on a b c (move ∷ xs) ys x y = (x.0, x.1, runs_on x.0 b c xs ys x.2 y)

runs_to : (a b c : Lines) (xs : List Move) → Runs a b xs → c ≡ b → Runs a c xs
runs_to a b c xs x is = subst (λ (l : Lines). Runs a l xs) (sym is) x

pub kept_lines : (old new : Running) → KeepsConns old new → lines_in new ≡ lines_in old
kept_lines old new k = λ i. record {
  me = k.id i;
  takes = k.has_links i;
  allows = k.view i;
  streams = k.streams i;
  links = k.links i;
  heard = k.heard i;
}

pub kept_moves : (old new : Running) → KeepsConns old new → MovesLines old new []
kept_moves old new k = record {
  moves = [];
  runs = kept_lines old new k;
  sent_is = refl;
  closed = k.closed ∙ sym (append-nil old.outs.closed.items);
}

-- nothing has changed at the connections
pub same_moves : (old new : Running) → lines_in new ≡ lines_in old → new.outs.closed.items ≡ old.outs.closed.items → MovesLines old new []
same_moves old new same closed = record { moves = []; runs = same; sent_is = refl; closed = closed ∙ sym (append-nil old.outs.closed.items) }

pub no_moves : (n : Running) → MovesLines n n []
no_moves n = record { moves = []; runs = refl; sent_is = refl; closed = sym (append-nil n.outs.closed.items) }

closed_joined : (first : List (ℕ × CloseReason)) (xs ys : List Move) → (first ++ flat_map closed_by xs) ++ flat_map closed_by ys ≡ first ++ flat_map closed_by (xs ++ ys)
closed_joined first xs ys =
    append_assoc first (flat_map closed_by xs) (flat_map closed_by ys) ∙ ap (λ (l : List (ℕ × CloseReason)). first ++ l) (sym (flat_map-append closed_by xs ys))

pub moves_on : (a b c : Running) (xs ys : List RaftMessage) → MovesLines a b xs → MovesLines b c ys → MovesLines a c (xs ++ ys)
moves_on a b c xs ys x y = record {
  moves = x.moves ++ y.moves;
  runs = runs_on (lines_in a) (lines_in b) (lines_in c) x.moves y.moves x.runs y.runs;
  sent_is = (λ i. x.sent_is i ++ y.sent_is i) ∙ sym (flat_map-append sent_by x.moves y.moves);
  closed = y.closed ∙ ap (λ (l : List (ℕ × CloseReason)). l ++ flat_map closed_by y.moves) x.closed ∙ closed_joined a.outs.closed.items x.moves y.moves;
}

-- ---- since the event of a step

pub since_begins : (event : Event) (a b : Running) → BeginsLines event a b → LinesSince event a b []
since_begins event a b x = record { moves = []; runs = x.is; sent_is = refl; closed = x.closed ∙ sym (append-nil _) }

pub since_on : (event : Event) (a b c : Running) (xs ys : List RaftMessage) → LinesSince event a b xs → MovesLines b c ys → LinesSince event a c (xs ++ ys)
since_on event a b c xs ys x y =
    let begun = begun_by event (clients_in a) (lines_in a) in
    let first = a.outs.closed.items ++ closed_first event (clients_in a) (lines_in a) in
    record {
      moves = x.moves ++ y.moves;
      runs = runs_on begun (lines_in b) (lines_in c) x.moves y.moves x.runs y.runs;
      sent_is = (λ i. x.sent_is i ++ y.sent_is i) ∙ sym (flat_map-append sent_by x.moves y.moves);
      closed = y.closed ∙ ap (λ (l : List (ℕ × CloseReason)). l ++ flat_map closed_by y.moves) x.closed ∙ closed_joined first x.moves y.moves;
    }

-- where what is kept was counted again before
pub lines_counted : (a : Running) (replica : ReplicaValue) (event : Event) (b : Running) → BeginsLines event (record a { replica = replica }) b → LinesSince event a b []
lines_counted a replica event b x = since_begins event a b (record { is = x.is; closed = x.closed })

-- nothing more happened at Raft
pub since_still : (event : Event) (a b c : Running) (xs : List RaftMessage) → LinesSince event a b xs → MovesLines b c [] → LinesSince event a c xs
since_still event a b c xs x y = subst (LinesSince event a c) (append-nil xs) (since_on event a b c xs [] x y)

pub since_ends : (event : Event) (a b c : Running) (outs : StepOutputs) (xs : List RaftMessage) → LinesSince event a b xs → a.outs.closed.items ≡ [] → lines_in c ≡ lines_in b
    → outs.closed.items ≡ b.outs.closed.items → c.heard ≡ None → (c.has_links ≡ true → first_waiting c.links.all.items ≡ None) → ConnectionsOfStep event a c outs xs
since_ends event a b c outs xs x quiet same said looked none = record {
  moves = x.moves;
  runs = runs_to (begun_by event (clients_in a) (lines_in a)) (lines_in b) (lines_in c) x.moves x.runs same;
  sent_is = x.sent_is;
  closed = said ∙ x.closed ∙ (λ i. (quiet i ++ closed_first event (clients_in a) (lines_in a)) ++ flat_map closed_by x.moves);
  looked = looked;
  none_waits = none;
}

pub since_up_to : (event : Event) (a b : Running) (xs : List RaftMessage) → LinesSince event a b xs → ConnectionsOfStop event a xs
since_up_to event a b xs x = record { moves = x.moves; last = lines_in b; runs = x.runs; sent_is = x.sent_is }

-- none has happened yet
pub none_yet : (event : Event) (a : Running) → ConnectionsOfStop event a []
none_yet event a = record { moves = []; last = begun_by event (clients_in a) (lines_in a); runs = refl; sent_is = refl }

-- ---- a message of a client

hung_here : (k : Clients) (conn : ℕ) (stream : Conn) → k.streams conn ≡ Some stream → (hung_up k conn).streams ≡ with_stream k.streams conn None
unfolding hung_up
hung_here k conn stream is = ap (λ (o : Option Conn). (cond (is_none o) k (without k conn)).streams) is

twice : {X : Type 0} (b : Bool) (x y z : X) → cond b x (cond b y z) ≡ cond b x z
twice true x y z = refl
twice false x y z = refl

-- a stream at the place at which it was put
put_here : (streams : ℕ → Option Conn) (conn : ℕ) (stream : Option Conn) → with_stream streams conn stream conn ≡ stream
put_here streams conn stream = cond-true (conn == conn) stream (streams conn) (eq-eqb conn conn refl)

module _ (old mid new : Running) (message : Message) (conn : ℕ) (stream now : Conn) (opens : (clients_in old).streams conn ≡ Some stream)
    (first : stream ≡ with_first message now) (taken : (clients_in mid).streams ≡ with_stream (clients_in old).streams conn (Some now))
    (outs : mid.outs ≡ old.outs) (heard : mid.heard ≡ old.heard) (links : mid.links ≡ old.links) (view : mid.view ≡ old.view) (has_links : mid.has_links ≡ old.has_links) where
  here : (clients_in old).streams conn ≡ Some (with_first message now)
  here = opens ∙ ap (λ (c : Conn). Some c) first

  taken_lines : lines_in mid ≡ record (lines_in old) { streams = with_stream (clients_in old).streams conn (Some now) }
  taken_lines = λ i. record { me = (view i).id; takes = has_links i; allows = (view i).links; streams = taken i; links = (links i).all.items; heard = heard i }

  asked : KeepsConns mid new → MovesLines old new []
  asked k = record {
    moves = TakesAsked conn ∷ [];
    runs = (lines_in mid, record { message = message; now = now; opens = here; is = taken_lines }, kept_lines mid new k);
    sent_is = refl;
    closed = k.closed ∙ ap (λ (o : StepOutputs). o.closed.items) outs ∙ sym (append-nil old.outs.closed.items);
  }

  connected : (peer : ℕ) → IsConnect old.view conn message conn peer → LeavesConns mid new conn peer → MovesLines old new []
  connected peer c l =
      let there : (clients_in mid).streams conn ≡ Some now = ap (λ (s : ℕ → Option Conn). s conn) taken ∙ put_here (clients_in old).streams conn (Some now) in
      let streams : (clients_in new).streams ≡ with_stream (clients_in old).streams conn None =
      l.streams ∙ hung_here (clients_in mid) conn now there ∙ ap (λ (s : ℕ → Option Conn). with_stream s conn None) taken ∙ (λ i. λ other. twice (other == conn) None (Some now) ((clients_in old).streams other) i) in
      let joins : new.links.all.items ≡ old.links.all.items ++ (record { conn = conn; peer = peer; stream = now }) ∷ [] =
      l.links ∙ (λ i. (links i).all.items ++ link_for conn peer (there i)) in
      record {
        moves = TakesConnect conn peer ∷ [];
        runs = (
          lines_in new,
          record {
            message = message;
            now = now;
            opens = here;
            allowed = c.links;
            address = c.address;
            asks = c.asks;
            is = λ i. record {
              me = ((l.view ∙ view) i).id;
              takes = (l.has_links ∙ has_links) i;
              allows = ((l.view ∙ view) i).links;
              streams = streams i;
              links = joins i;
              heard = (l.heard ∙ heard) i;
            };
          },
          refl,
        );
        sent_is = refl;
        closed = l.closed ∙ ap (λ (o : StepOutputs). o.closed.items) outs ∙ sym (append-nil old.outs.closed.items);
      }

  came_to : (act : Act) → IfPeer (IsConnect old.view conn message) act → StreamsAfterMessage act mid new → MovesLines old new []
  came_to (acts.Reply other messages) p k = asked k
  came_to (acts.Propose other entries) p k = asked k
  came_to (acts.Lend other job) p k = asked k
  came_to (acts.Transfer other to reply) p k = asked k
  came_to (acts.Peer other peer reply) p l =
      let p2 : IsConnect old.view conn message conn peer = subst (λ (n : ℕ). IsConnect old.view conn message n peer) p.conn_is p in
      connected peer p2 (subst (λ (n : ℕ). LeavesConns mid new n peer) p.conn_is l)

-- A message was taken, and what came of it was done.
pub message_moves : (c : EngineCall) (old mid new : Running) (refused refused_now : ℕ) (given : Option Act) (act : Act)
    → TookTurn c old.view (machine_of old.applied.machine) (clients_in old) refused refused_now (clients_in mid) given → given ≡ Some act
    → mid.outs ≡ old.outs → mid.heard ≡ old.heard → mid.links ≡ old.links → mid.view ≡ old.view → mid.has_links ≡ old.has_links → StreamsAfterMessage act mid new → MovesLines old new []
message_moves c old mid new refused refused_now given act t is outs heard links view has_links done =
    let x : TookOffer c old.view (machine_of old.applied.machine) (clients_in old) refused refused_now (clients_in mid) act =
    subst (TookTurn c old.view (machine_of old.applied.machine) (clients_in old) refused refused_now (clients_in mid)) is t in
    let first : IsOffered (clients_in old) x.offer = next_is_first (clients_in old) x.offer x.next in
    came_to old mid new x.offer.message x.offer.conn first.stream x.offer.stream first.opens first.first (ap (λ (k : Clients). k.streams) x.rest) outs heard links view has_links
    act (took_peer c old.view (machine_of old.applied.machine) (clients_in old) refused refused_now (clients_in mid) act x) done

-- ---- a connection is looked at

-- the connection on which bytes came was looked at, and closed where there is a reason
pub looks_moves : (old mid new : Running) (conn : ℕ) (reason : Option CloseReason) → old.heard ≡ Some conn
    → reason ≡ reason_at (link_on conn old.links.all.items) ((clients_in old).streams conn)
    → lines_in mid ≡ gone_at (link_on conn old.links.all.items) (record (lines_in old) { heard = None }) conn reason → lines_in new ≡ lines_in mid
    → new.outs.closed.items ≡ old.outs.closed.items ++ close_of conn reason → MovesLines old new []
looks_moves old mid new conn reason heard why is same said = record {
  moves = LooksAt conn reason ∷ [];
  runs = (lines_in new, record { heard = heard; why = why; is = same ∙ is }, refl);
  sent_is = refl;
  closed = said ∙ ap (λ (l : List (ℕ × CloseReason)). old.outs.closed.items ++ l) (sym (append-nil (close_of conn reason)));
}

-- a client's, which carries no peer's messages
closed_streams : (k : Clients) (conn : ℕ) (reason : Option CloseReason) → closing (k.streams conn) ≡ reason → (closed k conn).streams ≡ (cond (is_none reason) k (without k conn)).streams
unfolding closed
closed_streams k conn reason is = ap (λ (o : Option CloseReason). (cond (is_none o) k (without k conn)).streams) is

pub client_gone : (old new : Running) (conn : ℕ) (reason : Option CloseReason) → link_on conn old.links.all.items ≡ None → reason ≡ closing ((clients_in old).streams conn)
    → clients_in new ≡ closed (clients_in old) conn → new.links ≡ old.links → new.view ≡ old.view → new.has_links ≡ old.has_links → new.heard ≡ old.heard
    → (reason ≡ reason_at (link_on conn old.links.all.items) ((clients_in old).streams conn)) × (lines_in new ≡ gone_at (link_on conn old.links.all.items) (lines_in old) conn reason)
client_gone old new conn reason none why is links view has_links heard = (
  why ∙ sym (ap (λ (o : Option Link). reason_at o ((clients_in old).streams conn)) none),
  by reason (ap (λ (k : Clients). k.streams) is ∙ closed_streams (clients_in old) conn reason (sym why)) ∙ sym (ap (λ (o : Option Link). gone_at o (lines_in old) conn reason) none),
)
  where
    by : (r : Option CloseReason) → (clients_in new).streams ≡ (cond (is_none r) (clients_in old) (without (clients_in old) conn)).streams → lines_in new ≡ gone_at None (lines_in old) conn r
    by None same = λ i. record { me = (view i).id; takes = has_links i; allows = (view i).links; streams = same i; links = (links i).all.items; heard = heard i }
    by (Some r) same = λ i. record { me = (view i).id; takes = has_links i; allows = (view i).links; streams = same i; links = (links i).all.items; heard = heard i }

-- a peer's: there is no reason
pub link_stays : (old : Running) (conn : ℕ) (link : Link) (reason : Option CloseReason) → link_on conn old.links.all.items ≡ Some link
    → reason ≡ reason_at (link_on conn old.links.all.items) ((clients_in old).streams conn) → reason ≡ None → lines_in old ≡ gone_at (link_on conn old.links.all.items) (lines_in old) conn reason
link_stays old conn link reason is why none = sym (ap (gone_at (link_on conn old.links.all.items) (lines_in old) conn) none)

pub link_gone : (old new : Running) (conn : ℕ) (link : Link) (reason : CloseReason) → link_on conn old.links.all.items ≡ Some link
    → new.links.all.items ≡ without_link conn old.links.all.items → clients_in new ≡ clients_in old → new.view ≡ old.view → new.has_links ≡ old.has_links → new.heard ≡ old.heard
    → lines_in new ≡ gone_at (link_on conn old.links.all.items) (lines_in old) conn (Some reason)
link_gone old new conn link reason is links same view has_links heard =
    (λ i. record { me = (view i).id; takes = has_links i; allows = (view i).links; streams = (same i).streams; links = links i; heard = heard i })
    ∙ sym (ap (λ (o : Option Link). gone_at o (lines_in old) conn (Some reason)) is)

-- ---- an event

pub timeout_lines : (old new : Running) → KeepsConns old new → BeginsLines events.Timeout old new
timeout_lines old new k = record { is = kept_lines old new k; closed = k.closed ∙ sym (append-nil old.outs.closed.items) }

pub beat_lines : (old new : Running) → KeepsConns old new → BeginsLines events.Beat old new
beat_lines old new k = record { is = kept_lines old new k; closed = k.closed ∙ sym (append-nil old.outs.closed.items) }

pub yield_lines : (old new : Running) → KeepsConns old new → BeginsLines events.Yield old new
yield_lines old new k = record { is = kept_lines old new k; closed = k.closed ∙ sym (append-nil old.outs.closed.items) }

pub peer_lines : (message : RaftMessage) (old new : Running) → KeepsConns old new → BeginsLines (events.Peer message) old new
peer_lines message old new k = record { is = kept_lines old new k; closed = k.closed ∙ sym (append-nil old.outs.closed.items) }

pub read_lines : (conn : ℕ) (read : _) (old new : Running) → KeepsConns old new → BeginsLines (events.ReadDone conn read) old new
read_lines conn read old new k = record { is = kept_lines old new k; closed = k.closed ∙ sym (append-nil old.outs.closed.items) }

pub comes_lines : (old new : Running) (conn : ℕ) (how : ConnectResult) → link_on conn old.links.all.items ≡ None → how ≡ joining (clients_in old).sessions conn
    → clients_in new ≡ joined (clients_in old) conn → new.outs.closed.items ≡ old.outs.closed.items ++ full_for conn how → new.heard ≡ old.heard → new.links ≡ old.links
    → new.view ≡ old.view → new.has_links ≡ old.has_links → BeginsLines (events.Connect conn) old new
comes_lines old new conn how none told is closed heard links view has_links = record {
  is = (λ i. record { me = (view i).id; takes = has_links i; allows = (view i).links; streams = (is i).streams; links = (links i).all.items; heard = heard i })
      ∙ sym (ap (λ (o : Option Link). came_unless o conn (clients_in old) (lines_in old)) none);
  closed = closed ∙ (λ i. old.outs.closed.items ++ full_for conn (told i)) ∙ sym (ap (λ (o : Option Link). old.outs.closed.items ++ full_unless o conn (clients_in old)) none);
}

pub carried_lines : (old : Running) (conn : ℕ) (link : Link) → link_on conn old.links.all.items ≡ Some link → BeginsLines (events.Connect conn) old old
carried_lines old conn link is = record {
  is = sym (ap (λ (o : Option Link). came_unless o conn (clients_in old) (lines_in old)) is);
  closed = sym (append-nil old.outs.closed.items) ∙ sym (ap (λ (o : Option Link). old.outs.closed.items ++ full_unless o conn (clients_in old)) is);
}

client_hears : (k : Clients) (conn : ℕ) (bytes : List ℕ) (stream : Conn) → k.streams conn ≡ Some stream → (heard k conn bytes).streams ≡ with_stream k.streams conn (Some (received stream bytes))
unfolding heard
client_hears k conn bytes stream is = ap (λ (o : Option Conn). (heard_on k conn bytes o).streams) is

pub hears_lines : (old new : Running) (conn : ℕ) (bytes : List ℕ) (stream : Conn) → (clients_in old).streams conn ≡ Some stream → clients_in new ≡ heard (clients_in old) conn bytes
    → new.outs ≡ old.outs → new.heard ≡ Some conn → new.links ≡ old.links → new.view ≡ old.view → new.has_links ≡ old.has_links → BeginsLines (events.Bytes conn bytes) old new
hears_lines old new conn bytes stream opens is outs heard links view has_links =
    let streams = ap (λ (k : Clients). k.streams) is ∙ client_hears (clients_in old) conn bytes stream opens in
    record {
      is = (λ i. record { me = (view i).id; takes = has_links i; allows = (view i).links; streams = streams i; links = (links i).all.items; heard = heard i })
          ∙ sym (ap (λ (o : Option Conn). heard_by_line o conn bytes (lines_in old)) opens);
      closed = ap (λ (o : StepOutputs). o.closed.items) outs ∙ sym (append-nil old.outs.closed.items);
    }

pub link_hears_lines : (old new : Running) (conn : ℕ) (bytes : List ℕ) → (clients_in old).streams conn ≡ None → clients_in new ≡ clients_in old → new.outs ≡ old.outs → new.heard ≡ Some conn
    → new.links.all.items ≡ heard_link conn bytes old.links.all.items → new.view ≡ old.view → new.has_links ≡ old.has_links → BeginsLines (events.Bytes conn bytes) old new
link_hears_lines old new conn bytes none same outs heard links view has_links = record {
  is = (λ i. record { me = (view i).id; takes = has_links i; allows = (view i).links; streams = (same i).streams; links = links i; heard = heard i })
      ∙ sym (ap (λ (o : Option Conn). heard_by_line o conn bytes (lines_in old)) none);
  closed = ap (λ (o : StepOutputs). o.closed.items) outs ∙ sym (append-nil old.outs.closed.items);
}

pub hangs_lines : (old new : Running) (conn : ℕ) → clients_in new ≡ hung_up (clients_in old) conn → new.outs ≡ old.outs → new.heard ≡ old.heard
    → new.links.all.items ≡ without_link conn old.links.all.items → new.view ≡ old.view → new.has_links ≡ old.has_links → BeginsLines (events.Hangup conn) old new
hangs_lines old new conn is outs heard links view has_links = record {
  is = λ i. record { me = (view i).id; takes = has_links i; allows = (view i).links; streams = (is i).streams; links = links i; heard = heard i };
  closed = ap (λ (o : StepOutputs). o.closed.items) outs ∙ sym (append-nil old.outs.closed.items);
}

-- ---- a message on a peer's connection

-- one of its peer: it happens at Raft, and nothing else is left
pub sent_moves : (old mid new : Running) (message : RaftMessage) → MovesBy (lines_in old) (lines_in mid) (TakesSent message) → mid.outs ≡ old.outs → KeepsConns mid new
    → MovesLines old new (message ∷ [])
sent_moves old mid new message x outs k = record {
  moves = TakesSent message ∷ [];
  runs = (lines_in mid, x, kept_lines mid new k);
  sent_is = refl;
  closed = k.closed ∙ ap (λ (o : StepOutputs). o.closed.items) outs ∙ sym (append-nil old.outs.closed.items);
}

pub wrong_moves : (old new : Running) (conn : ℕ) → MovesBy (lines_in old) (lines_in new) (FindsWrong conn)
    → new.outs.closed.items ≡ old.outs.closed.items ++ (conn, Peer) ∷ [] → MovesLines old new []
wrong_moves old new conn x said = record {
  moves = FindsWrong conn ∷ [];
  runs = (lines_in new, x, refl);
  sent_is = refl;
  closed = said;
}
