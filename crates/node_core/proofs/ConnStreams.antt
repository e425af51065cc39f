-- The streams of connections in a step, and which connections are closed.
use Rattle.std.proofs.Common.{◌≡◌, ◌⊎◌, inl, inr, ℕ, Bool, true, false, true≢false, cond, not, List, [], ◌∷◌, ◌++◌, Option, Some, None, refl, sym, ap, subst, ◌∙◌, append_assoc, append-nil}
use Rattle.std.specs.Prelude.{◌==◌, is_none, Result, Ok, Err, IfOk}
use Rattle.std.proofs.lemmas.Bool.{cond-true, eq-eqb, eqb-true}
use Rattle.wire_words.specs.declared.message.Message.{Message}
use Rattle.client_connection.specs.declared.connection.CloseReason.{CloseReason}
use Rattle.client_connection.specs.Connection.{Conn, opened, received, reason_of}
use Rattle.session_spec.specs.Machine.{machine_of}
use Rattle.session_spec.specs.Sessions.{Reply, Gateway, Session, View, later_query, responses_of}
use Rattle.sql_engine.specs.Replies.{Statement}
use Rattle.session_outcomes.specs.Scenes.{scene}
use Rattle.session_statements.specs.Calls.{EngineCall}
use Rattle.session_spec.specs.Events.{connects}
use Rattle.client_sessions.specs.declared.act.Act.{Act}
use Rattle.client_sessions.specs.declared.act.Act.TheVariants as acts
use Rattle.client_sessions.specs.declared.connect_result.ConnectResult.{ConnectResult}
use Rattle.client_sessions.specs.declared.connect_result.ConnectResult.TheVariants as joinings
use Rattle.client_sessions.specs.Clients.{Clients, Fits, Sound, Offer, IsOffered, with_stream, joining, joined, joined_as, hung_up, closing, closed, heard, heard_on, without, freed}
use Rattle.node_core.specs.declared.event.Event.{Event}
use Rattle.node_core.specs.declared.event.Event.TheVariants as events
use Rattle.node_core.specs.declared.outs.StepOutputs.{StepOutputs}
use Rattle.node_core.specs.declared.running.Running.{Running}
use Rattle.node_core.specs.declared.links.Link.{Link}
use Rattle.node_core.specs.Carrying.{BeginsLines, link_on, without_link, heard_link, close_of, full_for, reason_at}
use Rattle.node_core.specs.Conns.{StreamOn, StreamsOn, brought, come_by, heard_by, close_on, closes_by}
use Rattle.node_core.specs.Conns.{HasNoPeers, IsUnlinked, KeepsConns, StreamsClose, StreamsAfterMessage, ClosesConn, ConnsBegin, StreamsOfStep}
use Rattle.client_sessions.specs.Calls.{TookOffer, TookTurn, WasIdle, bytes_of}
use Rattle.client_sessions.specs.Later.{Resumes, Finishes, turn_for}
use Rattle.client_sessions.proofs.Offers.{next_is_first}
use Rattle.raft_on_disk.specs.Replicas.{ReplicaValue}
use Rattle.node_core.specs.Values.{clients_in}
use Rattle.node_core.specs.Whole.{IsQuiet}
use Rattle.node_core.proofs.Carried.{timeout_lines, beat_lines, yield_lines, peer_lines, read_lines, comes_lines, carried_lines, hears_lines, link_hears_lines, hangs_lines, client_gone, link_stays, link_gone}
use Rattle.node_core.proofs.PeerActs.{IfPeer, IsConnect, IsNoPeer, took_peer, resumed_none}

-- ---- one stream

pub stays_on : (o : Option Conn) → StreamOn o o
stays_on None = tt
stays_on (Some c) = ([], refl)

pub on_both : (a b c : Option Conn) → StreamOn a b → StreamOn b c → StreamOn a c
on_both a b None x y = tt
on_both a None (Some c) x y = absurd y
on_both None (Some b) (Some c) x y = absurd x
on_both (Some a) (Some b) (Some c) x y = (
  x.0 ++ y.0,
  x.1 ∙ ap (λ (s : Conn). record { end = s.end; waiting = x.0 ++ s.waiting; full = s.full }) y.1
      ∙ ap (λ (ws : List Message). record { end = c.end; waiting = ws; full = c.full }) (sym (append_assoc x.0 y.0 c.waiting)),
)

-- a stream of which messages were taken closes as before
closes_alike : (before now : Conn) (taken : List Message) → before ≡ record { end = now.end; waiting = taken ++ now.waiting; full = now.full } → reason_of now ≡ reason_of before
closes_alike before now taken is = sym (ap reason_of is)

-- ---- parts of a step

same_streams : (old new : ℕ → Option Conn) → new ≡ old → StreamsOn old new
same_streams old new is conn = subst (λ (s : ℕ → Option Conn). StreamOn (old conn) (s conn)) (sym is) (stays_on (old conn))

pub kept_on : (old new : Running) → KeepsConns old new → StreamsClose old new
kept_on old new k = record {
  streams = same_streams (clients_in old).streams (clients_in new).streams k.streams;
  closes = λ u. (record { links = k.links ∙ u.links; view = k.view ∙ u.view }, λ i. k.closed i ++ close_on (k.heard i) (k.streams i));
}

pub kept_both : (a b c : Running) → KeepsConns a b → KeepsConns b c → KeepsConns a c
kept_both a b c x y = record {
  streams = y.streams ∙ x.streams;
  heard = y.heard ∙ x.heard;
  closed = y.closed ∙ x.closed;
  links = y.links ∙ x.links;
  view = y.view ∙ x.view;
  id = y.id ∙ x.id;
  has_links = y.has_links ∙ x.has_links;
}

pub kept_same : (n : Running) → KeepsConns n n
kept_same n = record { streams = refl; heard = refl; closed = refl; links = refl; view = refl; id = refl; has_links = refl }

pub conns_both : (a b c : Running) → StreamsClose a b → StreamsClose b c → StreamsClose a c
conns_both a b c x y = record {
  streams = λ conn. on_both ((clients_in a).streams conn) ((clients_in b).streams conn) ((clients_in c).streams conn) (x.streams conn) (y.streams conn);
  closes = λ u. let one = x.closes u in let two = y.closes one.0 in (two.0, two.1 ∙ one.1);
}

-- a node that starts without peer connections is unlinked
pub starts_unlinked : (links : Bool) (n : Running) → HasNoPeers links n → HasNoPeers links n × (links ≡ false → IsUnlinked n)
starts_unlinked links n p = (p, λ none. record { links = p.links; view = p.view ∙ none })

pub conns_same : (n : Running) → StreamsClose n n
conns_same n = record { streams = λ conn. stays_on ((clients_in n).streams conn); closes = λ u. (u, refl) }

-- ---- an event

begins_on : (event : Event) (old new : Running) → ((conn : ℕ) → brought event conn ((clients_in old).streams conn) ≡ (clients_in old).streams conn)
    → closes_by event (clients_in old) ≡ [] → BeginsLines event old new → StreamsClose old new → ConnsBegin event old new
begins_on event old new same none lines on = record {
  lines = lines;
  streams = λ conn. subst (λ (s : Option Conn). StreamOn s ((clients_in new).streams conn)) (sym (same conn)) (on.streams conn);
  closes = λ said heard u. let x = on.closes u in (x.0, x.1 ∙ (λ i. said i ++ close_on (heard i) (clients_in old).streams) ∙ sym none);
}

pub timeout_begins : (old new : Running) → KeepsConns old new → ConnsBegin events.Timeout old new
timeout_begins old new k = begins_on events.Timeout old new (λ conn. refl) refl (timeout_lines old new k) (kept_on old new k)

pub beat_begins : (old new : Running) → KeepsConns old new → ConnsBegin events.Beat old new
beat_begins old new k = begins_on events.Beat old new (λ conn. refl) refl (beat_lines old new k) (kept_on old new k)

pub yield_begins : (old new : Running) → KeepsConns old new → ConnsBegin events.Yield old new
yield_begins old new k = begins_on events.Yield old new (λ conn. refl) refl (yield_lines old new k) (kept_on old new k)

pub peer_begins : (message : _) (old new : Running) → KeepsConns old new → ConnsBegin (events.Peer message) old new
peer_begins message old new k = begins_on (events.Peer message) old new (λ conn. refl) refl (peer_lines message old new k) (kept_on old new k)

pub read_begins : (conn : ℕ) (read : _) (old new : Running) → KeepsConns old new → ConnsBegin (events.ReadDone conn read) old new
read_begins conn read old new k = begins_on (events.ReadDone conn read) old new (λ other. refl) refl (read_lines conn read old new k) (kept_on old new k)

-- ---- connections that come

-- none is open that gets a session
free_stream : (o : Option Conn) (s : Session) → Fits o s → s.there ≡ false → o ≡ None
free_stream None s fits e = refl
free_stream (Some c) s fits e = absurd (true≢false (sym fits.0 ∙ e))

joins_free : (g : Gateway) (conn : ℕ) → joining g conn ≡ joinings.Joined → (g.session conn).there ≡ false
unfolding joining
joins_free g conn = by (g.session conn).there (connects g conn) refl
  where
    by : (there room : Bool) → (g.session conn).there ≡ there → cond there joinings.Taken (cond room joinings.Joined joinings.Full) ≡ joinings.Joined → (g.session conn).there ≡ false
    by true room is e = absurd cc
    by false room is e = is

none_some : (c : Conn) → Some c ≡ None → ⊥
none_some c e = cc

comes : (o : Option Conn) (conn other : ℕ) (b : Bool) → (other == conn) ≡ b → (b ≡ true → o ≡ None) → StreamOn (come_by o conn other) (cond b (Some opened) o)
comes None conn other true e free = subst (λ (x : Bool). StreamOn (cond x (Some opened) None) (Some opened)) (sym e) (stays_on (Some opened))
comes None conn other false e free = tt
comes (Some c) conn other true e free = absurd (none_some c (free refl))
comes (Some c) conn other false e free = stays_on (Some c)

-- or none comes
comes_not : (o : Option Conn) (conn other : ℕ) → StreamOn (come_by o conn other) o
comes_not None conn other = tt
comes_not (Some c) conn other = stays_on (Some c)

come_streams : (k : Clients) (conn : ℕ) (how : ConnectResult) → (how ≡ joinings.Joined → k.streams conn ≡ None)
    → (other : ℕ) → StreamOn (come_by (k.streams other) conn other) ((joined_as k conn how).streams other)
come_streams k conn joinings.Joined free other = comes (k.streams other) conn other (other == conn) refl (λ e. ap k.streams (eqb-true other conn e) ∙ free refl)
come_streams k conn joinings.Full free other = comes_not (k.streams other) conn other
come_streams k conn joinings.Taken free other = comes_not (k.streams other) conn other

pub not_full : (xs : List (ℕ × CloseReason)) (conn : ℕ) (how : ConnectResult) → (how ≡ joinings.Joined) ⊎ (how ≡ joinings.Taken) → xs ≡ xs ++ full_for conn how
not_full xs conn how (inl e) = sym (append-nil xs) ∙ ap (λ (h : ConnectResult). xs ++ full_for conn h) (sym e)
not_full xs conn how (inr e) = sym (append-nil xs) ∙ ap (λ (h : ConnectResult). xs ++ full_for conn h) (sym e)

-- A connection comes: it has a stream where it gets a session, and is closed where there is no room.
pub comes_begins : (old new : Running) (conn : ℕ) (how : ConnectResult) → Sound (clients_in old) → link_on conn old.links.all.items ≡ None → how ≡ joining (clients_in old).sessions conn
    → clients_in new ≡ joined (clients_in old) conn → new.outs.closed.items ≡ old.outs.closed.items ++ full_for conn how → new.heard ≡ old.heard → new.links ≡ old.links
    → new.view ≡ old.view → new.has_links ≡ old.has_links → ConnsBegin (events.Connect conn) old new
comes_begins old new conn how sound free_link told is closed heard links view has_links =
    let k = clients_in old in
    let free : joining k.sessions conn ≡ joinings.Joined → k.streams conn ≡ None = λ e. free_stream (k.streams conn) (k.sessions.session conn) (sound.fits conn) (joins_free k.sessions conn e) in
    record {
      lines = comes_lines old new conn how free_link told is closed heard links view has_links;
      streams = λ other. subst (λ (l : Clients). StreamOn (come_by (k.streams other) conn other) (l.streams other)) (sym is) (come_streams k conn (joining k.sessions conn) free other);
      closes = λ said none u. (
        record { links = ap (λ l. l.all.items) links ∙ u.links; view = ap (λ v. v.links) view ∙ u.view },
        (λ i. (closed ∙ (λ j. said j ++ full_for conn (told j))) i ++ close_on ((heard ∙ none) i) (clients_in new).streams) ∙ append-nil (full_for conn (joining k.sessions conn)),
      );
    }

-- a node without peer connections has no connection that carries a peer's messages
no_link : (conn : ℕ) (link : Link) (links : List Link) → links ≡ [] → link_on conn links ≡ Some link → ⊥
no_link conn link links none is = never (sym (ap (link_on conn) none) ∙ is)
  where
    never : None ≡ Some link → ⊥
    never e = cc

-- if it carries a peer's messages already nothing happens; a node without peer connections has no connection that does
pub carried_begins : (old : Running) (conn : ℕ) (link : Link) → link_on conn old.links.all.items ≡ Some link → ConnsBegin (events.Connect conn) old old
carried_begins old conn link is = record {
  lines = carried_lines old conn link is;
  streams = λ other. comes_not ((clients_in old).streams other) conn other;
  closes = λ said heard u. absurd (no_link conn link old.links.all.items u.links is);
}

-- ---- bytes

hears_not : (o : Option Conn) (conn other : ℕ) (bytes : List ℕ) (b : Bool) → (other == conn) ≡ b → (b ≡ true → o ≡ None) → StreamOn (heard_by o conn other bytes) o
hears_not None conn other bytes b e free = tt
hears_not (Some c) conn other bytes true e free = absurd (none_some c (free refl))
hears_not (Some c) conn other bytes false e free = subst (λ (x : Bool). StreamOn (Some (cond x (received c bytes) c)) (Some c)) (sym e) (stays_on (Some c))

hears : (stream : Conn) (o : Option Conn) (conn other : ℕ) (bytes : List ℕ) (b : Bool) → (other == conn) ≡ b → (b ≡ true → o ≡ Some stream)
    → StreamOn (heard_by o conn other bytes) (cond b (Some (received stream bytes)) o)
hears stream o conn other bytes true e is =
    subst (λ (x : Option Conn). StreamOn (heard_by x conn other bytes) (Some (received stream bytes))) (sym (is refl))
    (subst (λ (x : Bool). StreamOn (Some (cond x (received stream bytes) stream)) (Some (received stream bytes))) (sym e) (stays_on (Some (received stream bytes))))
hears stream None conn other bytes false e is = tt
hears stream (Some c) conn other bytes false e is = subst (λ (x : Bool). StreamOn (Some (cond x (received c bytes) c)) (Some c)) (sym e) (stays_on (Some c))

hear_streams : (k : Clients) (conn : ℕ) (bytes : List ℕ) (o : Option Conn) → k.streams conn ≡ o
    → (other : ℕ) → StreamOn (heard_by (k.streams other) conn other bytes) ((heard_on k conn bytes o).streams other)
hear_streams k conn bytes None is other = hears_not (k.streams other) conn other bytes (other == conn) refl (λ e. ap k.streams (eqb-true other conn e) ∙ is)
hear_streams k conn bytes (Some stream) is other = hears stream (k.streams other) conn other bytes (other == conn) refl (λ e. ap k.streams (eqb-true other conn e) ∙ is)

hear_here : (k : Clients) (conn : ℕ) (bytes : List ℕ) (o : Option Conn) → k.streams conn ≡ o → (heard_on k conn bytes o).streams conn ≡ heard_by o conn conn bytes
hear_here k conn bytes None is = is
hear_here k conn bytes (Some stream) is =
    let same = eq-eqb conn conn refl in
    cond-true (conn == conn) (Some (received stream bytes)) (k.streams conn) same ∙ ap (λ (c : Conn). Some c) (sym (cond-true (conn == conn) (received stream bytes) stream same))

heard_is : (k l : Clients) (conn : ℕ) (bytes : List ℕ) → l ≡ heard k conn bytes → l ≡ heard_on k conn bytes (k.streams conn)
unfolding heard
heard_is k l conn bytes is = is

-- Bytes come on a connection of a client, or on none that is open.
pub hears_begins : (old new : Running) (conn : ℕ) (bytes : List ℕ) → BeginsLines (events.Bytes conn bytes) old new → clients_in new ≡ heard (clients_in old) conn bytes → new.outs ≡ old.outs
    → new.heard ≡ Some conn → (old.links.all.items ≡ [] → new.links.all.items ≡ []) → new.view ≡ old.view → ConnsBegin (events.Bytes conn bytes) old new
hears_begins old new conn bytes lines came outs heard links view =
    let k = clients_in old in
    let is = heard_is k (clients_in new) conn bytes came in
    let here : (clients_in new).streams conn ≡ heard_by (k.streams conn) conn conn bytes = ap (λ (l : Clients). l.streams conn) is ∙ hear_here k conn bytes (k.streams conn) refl in
    record {
      lines = lines;
      streams = λ other. subst (λ (l : Clients). StreamOn (heard_by (k.streams other) conn other bytes) (l.streams other)) (sym is) (hear_streams k conn bytes (k.streams conn) refl other);
      closes = λ said none u. (
        record { links = links u.links; view = ap (λ v. v.links) view ∙ u.view },
        (λ i. (ap (λ o. o.closed.items) outs ∙ said) i ++ close_on (heard i) (clients_in new).streams) ∙ ap (λ (o : Option Conn). close_of conn (closing o)) here,
      );
    }

not_heard : (k : Clients) (conn : ℕ) (bytes : List ℕ) → k.streams conn ≡ None → k ≡ heard k conn bytes
unfolding heard
not_heard k conn bytes is = sym (ap (heard_on k conn bytes) is)

not_open : (o : Option Conn) (is_open : Bool) → is_open ≡ not (is_none o) → is_open ≡ false → o ≡ None
not_open None is_open e f = refl
not_open (Some c) is_open e f = absurd (cc (e, f))

pub stream_of : (o : Option Conn) (is_open : Bool) → is_open ≡ not (is_none o) → is_open ≡ true → (stream : Conn) × (o ≡ Some stream)
stream_of None is_open e f = absurd (cc (e, f))
stream_of (Some c) is_open e f = (c, refl)

-- on a client's
pub hears_open_begins : (old new : Running) (conn : ℕ) (bytes : List ℕ) (is_open : Bool) → is_open ≡ not (is_none ((clients_in old).streams conn)) → is_open ≡ true
    → clients_in new ≡ heard (clients_in old) conn bytes → new.outs ≡ old.outs → new.heard ≡ Some conn → new.links ≡ old.links → new.view ≡ old.view → new.has_links ≡ old.has_links
    → ConnsBegin (events.Bytes conn bytes) old new
hears_open_begins old new conn bytes is_open e f is outs heard links view has_links =
    let stream = stream_of ((clients_in old).streams conn) is_open e f in
    hears_begins old new conn bytes (hears_lines old new conn bytes stream.0 stream.1 is outs heard links view has_links) is outs heard (λ none. ap (λ l. l.all.items) links ∙ none) view

-- on a peer's, or on none that is open
pub hears_link_begins : (old new : Running) (conn : ℕ) (bytes : List ℕ) (is_open : Bool) → is_open ≡ not (is_none ((clients_in old).streams conn)) → is_open ≡ false
    → clients_in new ≡ clients_in old → new.outs ≡ old.outs → new.heard ≡ Some conn → (old.links.all.items ≡ [] → new.links.all.items ≡ [])
    → new.links.all.items ≡ heard_link conn bytes old.links.all.items → new.view ≡ old.view → new.has_links ≡ old.has_links → ConnsBegin (events.Bytes conn bytes) old new
hears_link_begins old new conn bytes is_open e f is outs heard none links view has_links =
    let closed = not_open ((clients_in old).streams conn) is_open e f in
    hears_begins old new conn bytes (link_hears_lines old new conn bytes closed is outs heard links view has_links) (is ∙ not_heard (clients_in old) conn bytes closed) outs heard none view

-- ---- connections that go

goes : (o : Option Conn) (b : Bool) → StreamOn o (cond b None o)
goes o true = tt
goes o false = stays_on o

without_streams : (k : Clients) (conn : ℕ) → StreamsOn k.streams (without k conn).streams
without_streams k conn other = goes (k.streams other) (other == conn)

unless_streams : (k : Clients) (conn : ℕ) (b : Bool) → StreamsOn k.streams (cond b k (without k conn)).streams
unless_streams k conn true other = stays_on (k.streams other)
unless_streams k conn false other = without_streams k conn other

hung_streams : (k : Clients) (conn : ℕ) → StreamsOn k.streams (hung_up k conn).streams
unfolding hung_up
hung_streams k conn = unless_streams k conn (is_none (k.streams conn))

closed_streams : (k : Clients) (conn : ℕ) → StreamsOn k.streams (closed k conn).streams
unfolding closed
closed_streams k conn = unless_streams k conn (is_none (closing (k.streams conn)))

pub gone_streams : (k l : Clients) (conn : ℕ) → l ≡ hung_up k conn → StreamsOn k.streams l.streams
gone_streams k l conn is other = subst (λ (x : Clients). StreamOn (k.streams other) (x.streams other)) (sym is) (hung_streams k conn other)

-- A connection hangs up.
pub hangs_begins : (old new : Running) (conn : ℕ) → clients_in new ≡ hung_up (clients_in old) conn → new.outs ≡ old.outs → new.heard ≡ old.heard
    → (old.links.all.items ≡ [] → new.links.all.items ≡ []) → new.links.all.items ≡ without_link conn old.links.all.items → new.view ≡ old.view → new.has_links ≡ old.has_links
    → ConnsBegin (events.Hangup conn) old new
hangs_begins old new conn is outs heard links left view has_links = record {
  lines = hangs_lines old new conn is outs heard left view has_links;
  streams = λ other. gone_streams (clients_in old) (clients_in new) conn is other;
  closes = λ said none u. (
    record { links = links u.links; view = ap (λ v. v.links) view ∙ u.view },
    λ i. (ap (λ o. o.closed.items) outs ∙ said) i ++ close_on ((heard ∙ none) i) (clients_in new).streams,
  );
}

-- One is closed, if it is a client's that is to be.
pub closed_conn : (old new : Running) (conn : ℕ) (reason : Option CloseReason) → link_on conn old.links.all.items ≡ None → clients_in new ≡ closed (clients_in old) conn → reason ≡ closing ((clients_in old).streams conn)
    → new.outs ≡ old.outs → new.links ≡ old.links → new.view ≡ old.view → new.has_links ≡ old.has_links → new.heard ≡ old.heard → ClosesConn old new conn reason
closed_conn old new conn reason none is told outs links view has_links heard =
    let gone = client_gone old new conn reason none told is links view has_links heard in record {
      why = gone.0;
      lines = gone.1;
      streams = λ other. subst (λ (x : Clients). StreamOn ((clients_in old).streams other) (x.streams other)) (sym is) (closed_streams (clients_in old) conn other);
      closed = ap (λ o. o.closed.items) outs;
      closes = λ u. (record { links = ap (λ l. l.all.items) links ∙ u.links; view = ap (λ v. v.links) view ∙ u.view }, told);
    }

-- one that carries a peer's messages, which a node without peer connections has none of: it stays where there is no reason
pub link_kept_conn : (old : Running) (conn : ℕ) (link : Link) (reason : Option CloseReason) → link_on conn old.links.all.items ≡ Some link
    → reason ≡ reason_at (link_on conn old.links.all.items) ((clients_in old).streams conn) → reason ≡ None → ClosesConn old old conn reason
link_kept_conn old conn link reason is why none = record {
  streams = λ other. stays_on ((clients_in old).streams other);
  closed = refl;
  closes = λ u. absurd (no_link conn link old.links.all.items u.links is);
  why = why;
  lines = link_stays old conn link reason is why none;
}

pub link_conn : (old new : Running) (conn : ℕ) (link : Link) (reason : CloseReason) → link_on conn old.links.all.items ≡ Some link
    → Some reason ≡ reason_at (link_on conn old.links.all.items) ((clients_in old).streams conn) → new.links.all.items ≡ without_link conn old.links.all.items
    → clients_in new ≡ clients_in old → new.outs ≡ old.outs → new.view ≡ old.view → new.has_links ≡ old.has_links → new.heard ≡ old.heard → ClosesConn old new conn (Some reason)
link_conn old new conn link reason is why left same outs view has_links heard = record {
  streams = same_streams (clients_in old).streams (clients_in new).streams (ap (λ (k : Clients). k.streams) same);
  closed = ap (λ o. o.closed.items) outs;
  closes = λ u. absurd (no_link conn link old.links.all.items u.links is);
  why = why;
  lines = link_gone old new conn link reason is left same view has_links heard;
}

-- the connection whose bytes came was looked at, and closed if it was to be
pub closes_heard : (old mid new : Running) (conn : ℕ) (reason : Option CloseReason) → old.heard ≡ Some conn → ClosesConn (record old { heard = None }) mid conn reason
    → clients_in new ≡ clients_in mid → new.links ≡ mid.links → new.view ≡ mid.view → new.heard ≡ None → new.outs.closed.items ≡ mid.outs.closed.items ++ close_of conn reason
    → StreamsClose old new
closes_heard old mid new conn reason heard x same links view none said = record {
  streams = λ other. subst (λ (k : Clients). StreamOn ((clients_in old).streams other) (k.streams other)) (sym same) (x.streams other);
  closes = λ u.
      let y = x.closes (record { links = u.links; view = u.view }) in (
        record { links = ap (λ l. l.all.items) links ∙ y.0.links; view = ap (λ v. v.links) view ∙ y.0.view },
        (λ i. said i ++ close_on (none i) (clients_in new).streams) ∙ append-nil (mid.outs.closed.items ++ close_of conn reason)
            ∙ (λ i. x.closed i ++ close_of conn (y.1 i)) ∙ sym (λ i. old.outs.closed.items ++ close_on (heard i) (clients_in old).streams),
      );
}

-- ---- messages

took : (o : Option Conn) (before now : Conn) (m : Message) (b : Bool) → (b ≡ true → o ≡ Some before)
    → before ≡ record { end = now.end; waiting = m ∷ now.waiting; full = now.full } → StreamOn o (cond b (Some now) o)
took o before now m true is first = subst (λ (x : Option Conn). StreamOn x (Some now)) (sym (is refl)) (m ∷ [], first)
took o before now m false is first = stays_on o

took_closes : (o : Option Conn) (before now : Conn) (m : Message) (b : Bool) → (b ≡ true → o ≡ Some before)
    → before ≡ record { end = now.end; waiting = m ∷ now.waiting; full = now.full } → closing (cond b (Some now) o) ≡ closing o
took_closes o before now m true is first = closes_alike before now (m ∷ []) first ∙ sym (ap closing (is refl))
took_closes o before now m false is first = refl

heard_same : (heard : Option ℕ) (old new : ℕ → Option Conn) → ((conn : ℕ) → closing (new conn) ≡ closing (old conn)) → close_on heard new ≡ close_on heard old
heard_same None old new same = refl
heard_same (Some conn) old new same = ap (close_of conn) (same conn)

-- The first message was taken of a stream.
pub takes_on : (old new : Running) (offer : Offer) → IsOffered (clients_in old) offer → (clients_in new).streams ≡ with_stream (clients_in old).streams offer.conn (Some offer.stream)
    → new.outs ≡ old.outs → new.heard ≡ old.heard → new.links ≡ old.links → new.view ≡ old.view → StreamsClose old new
takes_on old new offer first is outs heard links view =
    let k = clients_in old in
    let there : (other : ℕ) → (other == offer.conn) ≡ true → k.streams other ≡ Some first.stream = λ other e. ap k.streams (eqb-true other offer.conn e) ∙ first.opens in
    let same : (other : ℕ) → closing ((clients_in new).streams other) ≡ closing (k.streams other) =
    λ other. ap (λ (s : ℕ → Option Conn). closing (s other)) is ∙ took_closes (k.streams other) first.stream offer.stream offer.message (other == offer.conn) (there other) first.first in
    record {
      streams = λ other. subst (λ (s : ℕ → Option Conn). StreamOn (k.streams other) (s other)) (sym is)
          (took (k.streams other) first.stream offer.stream offer.message (other == offer.conn) (there other) first.first);
      closes = λ u. (
        record { links = ap (λ l. l.all.items) links ∙ u.links; view = ap (λ v. v.links) view ∙ u.view },
        (λ i. (outs i).closed.items ++ close_on (heard i) (clients_in new).streams) ∙ ap (λ xs. old.outs.closed.items ++ xs) (heard_same old.heard k.streams (clients_in new).streams same),
      );
    }

-- What came of it was done: a connection leaves the clients for a peer's messages only if the node has peer connections.
pub behind_on : (P : ℕ → ℕ → Type 0) (act : Act) (old new : Running) → IfPeer P act → ((conn id : ℕ) → P conn id → old.view.links ≡ true) → StreamsAfterMessage act old new → StreamsClose old new
behind_on P (acts.Reply conn messages) old new p links x = kept_on old new x
behind_on P (acts.Propose conn entries) old new p links x = kept_on old new x
behind_on P (acts.Lend conn job) old new p links x = kept_on old new x
behind_on P (acts.Transfer conn to reply) old new p links x = kept_on old new x
behind_on P (acts.Peer conn id reply) old new p links x = record {
  streams = λ other. subst (λ (s : ℕ → Option Conn). StreamOn ((clients_in old).streams other) (s other)) (sym x.streams) (hung_streams (clients_in old) conn other);
  closes = λ u. absurd (true≢false (sym (links conn id p) ∙ u.view));
}

-- no connection leaves them
pub behind_kept : (act : Act) (old new : Running) → IsNoPeer act → StreamsAfterMessage act old new → KeepsConns old new
behind_kept (acts.Reply conn messages) old new p x = x
behind_kept (acts.Propose conn entries) old new p x = x
behind_kept (acts.Lend conn job) old new p x = x
behind_kept (acts.Transfer conn to reply) old new p x = x
behind_kept (acts.Peer conn id reply) old new p x = absurd p

-- ---- a step

pub step_conns : (event : Event) (old mid last new : Running) (outs : StepOutputs) → old.outs.closed.items ≡ [] → old.heard ≡ None → ConnsBegin event old mid → StreamsClose mid last
    → last.heard ≡ None → outs.closed.items ≡ last.outs.closed.items → clients_in new ≡ clients_in last → new.links ≡ last.links → new.view ≡ last.view → StreamsOfStep event old new outs
step_conns event old mid last new outs closed heard begun ran none said same links view = record {
  streams = λ conn. subst (λ (k : Clients). StreamOn (brought event conn ((clients_in old).streams conn)) (k.streams conn)) (sym same)
      (on_both (brought event conn ((clients_in old).streams conn)) ((clients_in mid).streams conn) ((clients_in last).streams conn) (begun.streams conn) (ran.streams conn));
  closes = λ u.
      let one = begun.closes closed heard u in
      let two = ran.closes one.0 in (
        record { links = ap (λ l. l.all.items) links ∙ two.0.links; view = ap (λ v. v.links) view ∙ two.0.view },
        said ∙ sym (append-nil last.outs.closed.items) ∙ sym (λ i. last.outs.closed.items ++ close_on (none i) (clients_in last).streams) ∙ two.1 ∙ one.1,
      );
}

-- of what a step that ended well says
pub outs_conns : {F : Type 0} (r : Result StepOutputs F) (event : Event) (old : Running) (replica : ReplicaValue) (mid last new : Running) → IsQuiet old → old.heard ≡ None
    → ConnsBegin event (record old { replica = replica }) mid → StreamsClose mid last → last.heard ≡ None → new ≡ record last { outs = new.outs; mail = new.mail }
    → IfOk r (λ outs. (outs.replies.items ≡ last.outs.replies.items) × (outs.closed.items ≡ last.outs.closed.items)) → IfOk r (λ outs. StreamsOfStep event old new outs)
outs_conns (Ok outs) event old replica mid last new quiet heard begun ran none rest said =
    let start : ConnsBegin event old mid = record { streams = begun.streams; closes = λ c h u. begun.closes c h (record { links = u.links; view = u.view }); lines = record { is = begun.lines.is; closed = begun.lines.closed } } in
    step_conns event old mid last new outs quiet.closed heard start ran none said.1 (ap clients_in rest) (ap (λ (n : Running). n.links) rest) (ap (λ (n : Running). n.view) rest)
outs_conns (Err f) event old replica mid last new quiet heard begun ran none rest said = tt

-- ---- what comes of a message

-- A message was taken, and what came of it was done.
pub message_on : (c : EngineCall) (old mid new : Running) (refused refused_now : ℕ) (given : Option Act) (act : Act)
    → TookTurn c old.view (machine_of old.applied.machine) (clients_in old) refused refused_now (clients_in mid) given → given ≡ Some act
    → mid.outs ≡ old.outs → mid.heard ≡ old.heard → mid.links ≡ old.links → mid.view ≡ old.view → StreamsAfterMessage act mid new → StreamsClose old new
message_on c old mid new refused refused_now given act t is outs heard links view done =
    let x : TookOffer c old.view (machine_of old.applied.machine) (clients_in old) refused refused_now (clients_in mid) act =
    subst (TookTurn c old.view (machine_of old.applied.machine) (clients_in old) refused refused_now (clients_in mid)) is t in
    conns_both old mid new
    (takes_on old mid x.offer (next_is_first (clients_in old) x.offer x.next) (ap (λ (k : Clients). k.streams) x.rest) outs heard links view)
    (behind_on (IsConnect old.view x.offer.conn x.offer.message) act mid new (took_peer c old.view (machine_of old.applied.machine) (clients_in old) refused refused_now (clients_in mid) act x)
    (λ conn id p. ap (λ (v : View). v.links) view ∙ p.links) done)

-- or none was left
pub idle_kept : (c : EngineCall) (old new : Running) (refused refused_now : ℕ) (given : Option Act)
    → TookTurn c old.view (machine_of old.applied.machine) (clients_in old) refused refused_now (clients_in new) given → given ≡ None
    → new.outs ≡ old.outs → new.heard ≡ old.heard → new.links ≡ old.links → new.view ≡ old.view → new.has_links ≡ old.has_links → KeepsConns old new
idle_kept c old new refused refused_now given t is outs heard links view has_links =
    let x : WasIdle (clients_in old) c.told_before c.told_now (clients_in new) = subst (TookTurn c old.view (machine_of old.applied.machine) (clients_in old) refused refused_now (clients_in new)) is t in
    record {
      streams = ap (λ (k : Clients). k.streams) x.rest;
      heard = heard;
      closed = ap (λ (o : StepOutputs). o.closed.items) outs;
      links = ap (λ l. l.all.items) links;
      view = ap (λ (v : View). v.links) view;
      id = ap (λ (v : View). v.id) view;
      has_links = has_links;
    }

-- the sessions are others, and connections have a turn
pub freed_kept : (old mid : Running) (sessions : Gateway) (conns : List ℕ) → clients_in mid ≡ freed (clients_in old) sessions conns
    → mid.outs ≡ old.outs → mid.heard ≡ old.heard → mid.links ≡ old.links → mid.view ≡ old.view → mid.has_links ≡ old.has_links → KeepsConns old mid
freed_kept old mid sessions conns is outs heard links view has_links = record {
  streams = ap (λ (k : Clients). k.streams) is;
  heard = heard;
  closed = ap (λ (o : StepOutputs). o.closed.items) outs;
  links = ap (λ l. l.all.items) links;
  view = ap (λ (v : View). v.links) view;
  id = ap (λ (v : View). v.id) view;
  has_links = has_links;
}

-- A query that was yet to be answered was run.
pub later_kept : (c : EngineCall) (old mid new : Running) (conn refused refused_now : ℕ) (given : Option Act) (act : Act)
    → Resumes c (scene old.view (machine_of old.applied.machine) (clients_in old).sessions conn) (later_query ((clients_in old).sessions.session conn).later) refused refused_now (clients_in mid).sessions given
    → clients_in mid ≡ freed (clients_in old) (clients_in mid).sessions (turn_for conn given) → given ≡ Some act
    → mid.outs ≡ old.outs → mid.heard ≡ old.heard → mid.links ≡ old.links → mid.view ≡ old.view → mid.has_links ≡ old.has_links → StreamsAfterMessage act mid new → KeepsConns old new
later_kept c old mid new conn refused refused_now given act t rest is outs heard links view has_links done =
    let g = (clients_in old).sessions in
    let o = later_query (g.session conn).later in
    let x = subst (Resumes c (scene old.view (machine_of old.applied.machine) g conn) o refused refused_now (clients_in mid).sessions) is t in
    kept_both old mid new (freed_kept old mid (clients_in mid).sessions (turn_for conn given) rest outs heard links view has_links)
    (behind_kept act mid new (resumed_none c old.view (machine_of old.applied.machine) g conn o refused refused_now (clients_in mid).sessions act x) done)

pub none_later : (old mid : Running) (conn : ℕ) (given : Option Act) → clients_in mid ≡ freed (clients_in old) (clients_in mid).sessions (turn_for conn given)
    → mid.outs ≡ old.outs → mid.heard ≡ old.heard → mid.links ≡ old.links → mid.view ≡ old.view → mid.has_links ≡ old.has_links → KeepsConns old mid
none_later old mid conn given rest outs heard links view has_links = freed_kept old mid (clients_in mid).sessions (turn_for conn given) rest outs heard links view has_links

-- what a reader answers is a reply
reads_reply : (g : Gateway) (conn : ℕ) (o : Option Statement) (r : Option Reply) (now : Gateway) (given : Option Act) (act : Act) → Finishes g conn o r now given → given ≡ Some act → IsNoPeer act
reads_reply g conn None r now given act x is = absurd (cc (x.1, is))
reads_reply g conn (Some statement) None now given act x is = absurd (cc (x.1, is))
reads_reply g conn (Some statement) (Some reply) now given act x is =
    subst IsNoPeer (sym (some_act act (acts.Reply conn (bytes_of (responses_of reply))) (sym is ∙ x.1))) tt
  where
    some_act : (a b : Act) → Some a ≡ Some b → a ≡ b
    some_act a b e = cc

pub read_kept : (old mid new : Running) (conn : ℕ) (o : Option Statement) (r : Option Reply) (given : Option Act) (act : Act)
    → Finishes (clients_in old).sessions conn o r (clients_in mid).sessions given → clients_in mid ≡ freed (clients_in old) (clients_in mid).sessions (turn_for conn given) → given ≡ Some act
    → mid.outs ≡ old.outs → mid.heard ≡ old.heard → mid.links ≡ old.links → mid.view ≡ old.view → mid.has_links ≡ old.has_links → StreamsAfterMessage act mid new → KeepsConns old new
read_kept old mid new conn o r given act x rest is outs heard links view has_links done =
    kept_both old mid new (freed_kept old mid (clients_in mid).sessions (turn_for conn given) rest outs heard links view has_links)
    (behind_kept act mid new (reads_reply (clients_in old).sessions conn o r (clients_in mid).sessions given act x is) done)

-- a job is out no more
pub lent_kept : (old mid : Running) (lent : _) (readers : Bool) → mid ≡ record old { lent = lent; view = record old.view { readers = readers } } → KeepsConns old mid
lent_kept old mid lent readers is = record {
  streams = ap (λ (n : Running). (clients_in n).streams) is;
  heard = ap (λ (n : Running). n.heard) is;
  closed = ap (λ (n : Running). n.outs.closed.items) is;
  links = ap (λ (n : Running). n.links.all.items) is;
  view = ap (λ (n : Running). n.view.links) is;
  id = ap (λ (n : Running). n.view.id) is;
  has_links = ap (λ (n : Running). n.has_links) is;
}

-- ---- a peer's message on a connection

some_letter : {T : Type 0} (x : T) → None ≡ Some x → ⊥
some_letter x e = cc

-- a node without peer connections has none
pub letter_on : {T : Type 0} (given : Option T) (letter : T) (old new : Running) → (old.links.all.items ≡ [] → given ≡ None) → given ≡ Some letter
    → (clients_in new).streams ≡ (clients_in old).streams → StreamsClose old new
letter_on given letter old new none is streams = record {
  streams = same_streams (clients_in old).streams (clients_in new).streams streams;
  closes = λ u. absurd (some_letter letter (sym (none u.links) ∙ is));
}

-- or none waits on the others'
pub none_letter : (old new : Running) → (old.links.all.items ≡ [] → new.links.all.items ≡ []) → clients_in new ≡ clients_in old → new.outs ≡ old.outs → new.heard ≡ old.heard → new.view ≡ old.view → StreamsClose old new
none_letter old new links same outs heard view = record {
  streams = same_streams (clients_in old).streams (clients_in new).streams (ap (λ (k : Clients). k.streams) same);
  closes = λ u. (record { links = links u.links; view = ap (λ (v : View). v.links) view ∙ u.view }, λ i. (outs i).closed.items ++ close_on (heard i) (same i).streams);
}
