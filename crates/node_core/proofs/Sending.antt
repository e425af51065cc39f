-- What a peer has sent on a connection are the messages that its bytes encode.
use Rattle.std.proofs.Common.{◌≡◌, ◌≢◌, ℕ, Bool, true, false, true≢false, cond, not, List, [], ◌∷◌, ◌++◌, Option, Some, None, Result, Ok, Err, refl, sym, ap, subst, ◌∙◌}
use Rattle.std.specs.Prelude.{◌==◌, is_none}
use Rattle.std.proofs.lemmas.Bool.{cond-true, cond-false, eq-eqb, eqb-true, ne_eqb}
use Rattle.wire_words.specs.declared.message.Message.{Message}
use Rattle.wire_words.specs.Stream.{fault_in, going_on, peer_limit}
use Rattle.client_connection.specs.declared.connection.CloseReason.{CloseReason}
use Rattle.client_connection.specs.Connection.{Conn, HasTaken, PeerHasTaken, opened, peer_received, received, with_more}
use Rattle.client_sessions.specs.declared.connect_result.ConnectResult.{ConnectResult}
use Rattle.client_sessions.specs.declared.connect_result.ConnectResult.TheVariants as joinings
use Rattle.client_sessions.specs.Clients.{Clients, with_stream, joining, joined_as, hung_up, without}
use Rattle.database_state.specs.ByName.{change_first}
use Rattle.raft_messages.specs.declared.fault.PeerFault.{PeerFault}
use Rattle.raft_messages.specs.declared.message.RaftMessage.{RaftMessage}
use Rattle.raft_messages.specs.Reading.{peer_message_of}
use Rattle.node_core.specs.declared.event.Event.TheVariants as events
use Rattle.node_core.specs.declared.links.Link.{Link}
use Rattle.node_core.specs.Carrying.{Lines, Waiting, with_waiting, behind_link, waiting_of, first_waiting, is_of, link_on, without_link, heard_link, if_from, came_unless, heard_by_line, gone_at}
use Rattle.node_core.specs.Carrying.{TakesAsked, TakesConnect, TakesSent, FindsWrong, LooksAt, with_first, TookConnect}
use Rattle.node_core.specs.Sent.{IsOnce, Apart, BeginsApart, EventsStayApart, MovesStayApart, Carries, CarryingBegins, CarryingHears, CarryingSends, CarryingStays}

-- ---- connections by their numbers

-- none of these peer connections is of this connection
abbrev IsNot : ℕ → List Link → Type 0
IsNot conn [] = Unit {0}
IsNot conn (link ∷ links) = (is_of conn link ≡ false) × IsNot conn links

cond_none : {X : Type 0} (b : Bool) (x : X) (o : Option X) → cond b (Some x) o ≡ None → (b ≡ false) × (o ≡ None)
cond_none true x o e = absurd cc
cond_none false x o e = (refl, e)

not_on : (conn : ℕ) (links : List Link) → link_on conn links ≡ None → IsNot conn links
not_on conn [] e = tt
not_on conn (link ∷ links) e = let a = cond_none (is_of conn link) link (link_on conn links) e in (a.0, not_on conn links a.1)

on_not : (conn : ℕ) (links : List Link) → IsNot conn links → link_on conn links ≡ None
on_not conn [] h = refl
on_not conn (link ∷ links) h = cond-false (is_of conn link) (Some link) (link_on conn links) h.0 ∙ on_not conn links h.1

-- peer connections of the same connections, in order
abbrev AreAlike : List Link → List Link → Type 0
AreAlike [] [] = Unit {0}
AreAlike [] (y ∷ ys) = ⊥
AreAlike (x ∷ xs) [] = ⊥
AreAlike (x ∷ xs) (y ∷ ys) = (x.conn ≡ y.conn) × AreAlike xs ys

alike_same : (xs : List Link) → AreAlike xs xs
alike_same [] = tt
alike_same (x ∷ xs) = (refl, alike_same xs)

not_alike : (conn : ℕ) (xs ys : List Link) → AreAlike xs ys → IsNot conn xs → IsNot conn ys
not_alike conn [] [] a h = tt
not_alike conn [] (y ∷ ys) a h = absurd a
not_alike conn (x ∷ xs) [] a h = absurd a
not_alike conn (x ∷ xs) (y ∷ ys) a h = (subst (λ (n : ℕ). (n == conn) ≡ false) a.0 h.0, not_alike conn xs ys a.1 h.1)

none_alike : (conn : ℕ) (xs ys : List Link) → AreAlike xs ys → link_on conn xs ≡ None → link_on conn ys ≡ None
none_alike conn xs ys a e = on_not conn ys (not_alike conn xs ys a (not_on conn xs e))

once_alike : (xs ys : List Link) → AreAlike xs ys → IsOnce xs → IsOnce ys
once_alike [] [] a h = tt
once_alike [] (y ∷ ys) a h = absurd a
once_alike (x ∷ xs) [] a h = absurd a
once_alike (x ∷ xs) (y ∷ ys) a h = (subst (λ (n : ℕ). link_on n ys ≡ None) a.0 (none_alike x.conn xs ys a.1 h.0), once_alike xs ys a.1 h.1)

-- ---- peer connections that go, hear, and come

not_without : (conn gone : ℕ) (links : List Link) → IsNot conn links → IsNot conn (without_link gone links)
not_without conn gone [] h = tt
not_without conn gone (link ∷ links) h = by (is_of gone link) (not_without conn gone links h.1)
  where
    by : (b : Bool) → IsNot conn (without_link gone links) → IsNot conn (cond (not b) (link ∷ without_link gone links) (without_link gone links))
    by true r = r
    by false r = (h.0, r)

none_without : (conn gone : ℕ) (links : List Link) → link_on conn links ≡ None → link_on conn (without_link gone links) ≡ None
none_without conn gone links e = on_not conn (without_link gone links) (not_without conn gone links (not_on conn links e))

once_without : (gone : ℕ) (links : List Link) → IsOnce links → IsOnce (without_link gone links)
once_without gone [] h = tt
once_without gone (link ∷ links) h = by (is_of gone link) (once_without gone links h.1)
  where
    by : (b : Bool) → IsOnce (without_link gone links) → IsOnce (cond (not b) (link ∷ without_link gone links) (without_link gone links))
    by true r = r
    by false r = (none_without link.conn gone links h.0, r)

heard_alike : (conn : ℕ) (bytes : List ℕ) (links : List Link) → AreAlike links (heard_link conn bytes links)
unfolding change_first
heard_alike conn bytes [] = tt
heard_alike conn bytes (link ∷ links) = by (is_of conn link) (heard_alike conn bytes links)
  where
    by : (b : Bool) → AreAlike links (heard_link conn bytes links)
        → AreAlike (link ∷ links) (cond b (record link { stream = peer_received link.stream bytes } ∷ links) (link ∷ heard_link conn bytes links))
    by true r = (refl, alike_same links)
    by false r = (refl, r)

not_more : (conn : ℕ) (links : List Link) (link : Link) → IsNot conn links → is_of conn link ≡ false → IsNot conn (links ++ link ∷ [])
not_more conn [] link h e = (e, tt)
not_more conn (x ∷ links) link h e = (h.0, not_more conn links link h.1 e)

apart_from : (n conn : ℕ) → (n == conn) ≡ false → (conn == n) ≡ false
apart_from n conn e = ne_eqb conn n (λ is. true≢false (sym (eq-eqb n conn (sym is)) ∙ e))

once_more : (links : List Link) (link : Link) → IsOnce links → IsNot link.conn links → IsOnce (links ++ link ∷ [])
once_more [] link h n = (refl, tt)
once_more (x ∷ links) link h n =
    (on_not x.conn (links ++ link ∷ []) (not_more x.conn links link (not_on x.conn links h.0) (apart_from x.conn link.conn n.0)), once_more links link h.1 n.1)

-- ---- the first message that waits

waiting_is : (v w : Waiting) → Some v ≡ Some w → v ≡ w
waiting_is v w e = cc

-- Where it stands: after these peer connections and before those.
record Stands (links : List Link) (w : Waiting) : Type 0 where
  pub front : List Link
  pub rest : List Link
  pub left : List Message
  pub was : links ≡ front ++ w.link ∷ rest
  pub now : w.links ≡ front ++ with_waiting w.link left ∷ rest
  pub waits : w.link.stream.waiting ≡ w.message ∷ left

stands_later : (link : Link) (links : List Link) → ((v : Waiting) → first_waiting links ≡ Some v → Stands links v) → (w : Waiting) (o : Option Waiting) → first_waiting links ≡ o
    → behind_link link o ≡ Some w → Stands (link ∷ links) w
stands_later link links more w None f e = absurd cc
stands_later link links more w (Some v) f e =
    let s = more v f in
    let is : record { link = v.link; message = v.message; links = link ∷ v.links } ≡ w = waiting_is (record { link = v.link; message = v.message; links = link ∷ v.links }) w e in
    subst (Stands (link ∷ links)) is (record {
      front = link ∷ s.front;
      rest = s.rest;
      left = s.left;
      was = ap (λ (l : List Link). link ∷ l) s.was;
      now = ap (λ (l : List Link). link ∷ l) s.now;
      waits = s.waits;
    })

stands_here : (link : Link) (links : List Link) → ((v : Waiting) → first_waiting links ≡ Some v → Stands links v) → (w : Waiting) (waiting : List Message) → link.stream.waiting ≡ waiting
    → waiting_of link waiting links (first_waiting links) ≡ Some w → Stands (link ∷ links) w
stands_here link links more w [] f e = stands_later link links more w (first_waiting links) refl e
stands_here link links more w (m ∷ ms) f e =
    let is : record { link = link; message = m; links = with_waiting link ms ∷ links } ≡ w = waiting_is (record { link = link; message = m; links = with_waiting link ms ∷ links }) w e in
    subst (Stands (link ∷ links)) is (record { front = []; rest = links; left = ms; was = refl; now = refl; waits = f })

stands_in : (links : List Link) (w : Waiting) → first_waiting links ≡ Some w → Stands links w
unfolding first_waiting
stands_in [] w e = absurd cc
stands_in (link ∷ links) w e = stands_here link links (stands_in links) w link.stream.waiting refl e

alike_middle : (front rest : List Link) (x y : Link) → x.conn ≡ y.conn → AreAlike (front ++ x ∷ rest) (front ++ y ∷ rest)
alike_middle [] rest x y e = (e, alike_same rest)
alike_middle (l ∷ front) rest x y e = (refl, alike_middle front rest x y e)

stands_alike : (links : List Link) (w : Waiting) → Stands links w → AreAlike links w.links
stands_alike links w s =
    subst (λ (l : List Link). AreAlike l w.links) (sym s.was) (subst (AreAlike (s.front ++ w.link ∷ s.rest)) (sym s.now) (alike_middle s.front s.rest w.link (with_waiting w.link s.left) refl))

-- it is found there, as no peer connection before is of its connection
found_middle : (front rest : List Link) (x : Link) (conn : ℕ) → x.conn ≡ conn → IsNot conn front → link_on conn (front ++ x ∷ rest) ≡ Some x
found_middle [] rest x conn e n = cond-true (is_of conn x) (Some x) (link_on conn rest) (eq-eqb x.conn conn e)
found_middle (l ∷ front) rest x conn e n = cond-false (is_of conn l) (Some l) (link_on conn (front ++ x ∷ rest)) n.0 ∙ found_middle front rest x conn e n.1

front_not : (front rest : List Link) (x : Link) → IsOnce (front ++ x ∷ rest) → IsNot x.conn front
front_not [] rest x h = tt
front_not (l ∷ front) rest x h = (by front (not_on l.conn (front ++ x ∷ rest) h.0), front_not front rest x h.1)
  where
    by : (fs : List Link) → IsNot l.conn (fs ++ x ∷ rest) → is_of x.conn l ≡ false
    by [] n = apart_from x.conn l.conn n.0
    by (f ∷ fs) n = by fs n.1

other_middle : (front rest : List Link) (x y : Link) (conn : ℕ) → is_of conn x ≡ false → is_of conn y ≡ false → link_on conn (front ++ y ∷ rest) ≡ link_on conn (front ++ x ∷ rest)
other_middle [] rest x y conn e f = cond-false (is_of conn y) (Some y) (link_on conn rest) f ∙ sym (cond-false (is_of conn x) (Some x) (link_on conn rest) e)
other_middle (l ∷ front) rest x y conn e f = ap (cond (is_of conn l) (Some l)) (other_middle front rest x y conn e f)

-- ---- apart

pub begins_apart : BeginsApart
begins_apart l none = record {
  clients = λ conn stream is. ap (link_on conn) none;
  once = subst IsOnce (sym none) tt;
}

-- a stream is put where there was one, or if no peer connection is
put_apart : (l : Lines) (conn : ℕ) (stream : Option Conn) → link_on conn l.links ≡ None → Apart l → (other : ℕ) (c : Conn) → with_stream l.streams conn stream other ≡ Some c → link_on other l.links ≡ None
put_apart l conn stream free a other c e = by (other == conn) refl e
  where
    by : (b : Bool) → (other == conn) ≡ b → cond b stream (l.streams other) ≡ Some c → link_on other l.links ≡ None
    by true f e = subst (λ (n : ℕ). link_on n l.links ≡ None) (sym (eqb-true other conn f)) free
    by false f e = a.clients other c e

-- or taken away
gone_apart : (l : Lines) (conn : ℕ) → Apart l → (other : ℕ) (c : Conn) → with_stream l.streams conn None other ≡ Some c → l.streams other ≡ Some c
gone_apart l conn a other c e = by (other == conn) e
  where
    by : (b : Bool) → cond b None (l.streams other) ≡ Some c → l.streams other ≡ Some c
    by true e = absurd cc
    by false e = e

came_apart : (k : Clients) (l : Lines) (conn : ℕ) → l.streams ≡ k.streams → link_on conn l.links ≡ None → Apart l → (how : ConnectResult)
    → (other : ℕ) (c : Conn) → (joined_as k conn how).streams other ≡ Some c → link_on other l.links ≡ None
came_apart k l conn same free a joinings.Joined other c e = put_apart l conn (Some opened) free a other c (ap (λ (s : ℕ → Option Conn). with_stream s conn (Some opened) other) same ∙ e)
came_apart k l conn same free a joinings.Full other c e = a.clients other c (ap (λ (s : ℕ → Option Conn). s other) same ∙ e)
came_apart k l conn same free a joinings.Taken other c e = a.clients other c (ap (λ (s : ℕ → Option Conn). s other) same ∙ e)

connect_apart : (k : Clients) (l : Lines) (conn : ℕ) (link : Option Link) → link_on conn l.links ≡ link → l.streams ≡ k.streams → Apart l → Apart (came_unless link conn k l)
connect_apart k l conn None free same a = record { clients = came_apart k l conn same free a (joining k.sessions conn); once = a.once }
connect_apart k l conn (Some link) there same a = a

bytes_apart : (l : Lines) (conn : ℕ) (bytes : List ℕ) (stream : Option Conn) → l.streams conn ≡ stream → Apart l → Apart (heard_by_line stream conn bytes l)
bytes_apart l conn bytes None is a = record {
  clients = λ other c e. none_alike other l.links (heard_link conn bytes l.links) (heard_alike conn bytes l.links) (a.clients other c e);
  once = once_alike l.links (heard_link conn bytes l.links) (heard_alike conn bytes l.links) a.once;
}
bytes_apart l conn bytes (Some stream) is a = record { clients = put_apart l conn (Some (received stream bytes)) (a.clients conn stream is) a; once = a.once }

hung_streams : (k : Clients) (conn other : ℕ) (c : Conn) → (hung_up k conn).streams other ≡ Some c → k.streams other ≡ Some c
unfolding hung_up
hung_streams k conn other c e = by (is_none (k.streams conn)) e
  where
    here : (b : Bool) → cond b None (k.streams other) ≡ Some c → k.streams other ≡ Some c
    here true e = absurd cc
    here false e = e

    by : (b : Bool) → (cond b k (without k conn)).streams other ≡ Some c → k.streams other ≡ Some c
    by true e = e
    by false e = here (other == conn) e

pub events_stay_apart : EventsStayApart
events_stay_apart (events.Connect conn) k l same a = connect_apart k l conn (link_on conn l.links) refl same a
events_stay_apart (events.Bytes conn bytes) k l same a = bytes_apart l conn bytes (l.streams conn) refl a
events_stay_apart (events.Hangup conn) k l same a = record {
  clients = λ other c e. none_without other conn l.links (a.clients other c (ap (λ (s : ℕ → Option Conn). s other) same ∙ hung_streams k conn other c e));
  once = once_without conn l.links a.once;
}
events_stay_apart events.Timeout k l same a = a
events_stay_apart events.Beat k l same a = a
events_stay_apart events.Yield k l same a = a
events_stay_apart (events.Peer message) k l same a = a
events_stay_apart (events.ReadDone conn read) k l same a = a

connect_moves_apart : (old new : Lines) (conn peer : ℕ) → TookConnect old new conn peer → Apart old → Apart new
connect_moves_apart old new conn peer x a =
    let link : Link = record { conn = conn; peer = peer; stream = x.now } in
    let free = a.clients conn (with_first x.message x.now) x.opens in
    subst Apart (sym x.is) (record {
      clients = λ other c e. by other c (other == conn) refl e;
      once = once_more old.links link a.once (not_on conn old.links free);
    })
  where
    by : (other : ℕ) (c : Conn) (b : Bool) → (other == conn) ≡ b → cond b None (old.streams other) ≡ Some c
        → link_on other (old.links ++ (record { conn = conn; peer = peer; stream = x.now }) ∷ []) ≡ None
    by other c true f e = absurd cc
    by other c false f e =
        on_not other (old.links ++ (record { conn = conn; peer = peer; stream = x.now }) ∷ [])
        (not_more other old.links (record { conn = conn; peer = peer; stream = x.now }) (not_on other old.links (a.clients other c e)) (apart_from other conn f))

looks_apart : (l : Lines) (conn : ℕ) (link : Option Link) (reason : Option CloseReason) → Apart l → Apart (gone_at link l conn reason)
looks_apart l conn link None a = a
looks_apart l conn None (Some reason) a = record { clients = λ other c e. a.clients other c (gone_apart l conn a other c e); once = a.once }
looks_apart l conn (Some link) (Some reason) a = record {
  clients = λ other c e. none_without other conn l.links (a.clients other c e);
  once = once_without conn l.links a.once;
}

pub moves_stay_apart : MovesStayApart
moves_stay_apart old new (TakesAsked conn) x a =
    subst Apart (sym x.is) (record { clients = put_apart old conn (Some x.now) (a.clients conn (with_first x.message x.now) x.opens) a; once = a.once })
moves_stay_apart old new (TakesConnect conn peer) x a = connect_moves_apart old new conn peer x a
moves_stay_apart old new (TakesSent message) x a =
    let alike = stands_alike old.links x.first (stands_in old.links x.first x.waits) in
    subst Apart (sym x.is) (record {
      clients = λ other c e. none_alike other old.links x.first.links alike (a.clients other c e);
      once = once_alike old.links x.first.links alike a.once;
    })
moves_stay_apart old new (FindsWrong conn) x a =
    let alike = stands_alike old.links x.first (stands_in old.links x.first x.waits) in
    subst Apart (sym x.is) (record {
      clients = λ other c e. none_without other conn x.first.links (none_alike other old.links x.first.links alike (a.clients other c e));
      once = once_without conn x.first.links (once_alike old.links x.first.links alike a.once);
    })
moves_stay_apart old new (LooksAt conn reason) x a =
    subst Apart (sym x.is) (looks_apart (record old { heard = None }) conn (link_on conn old.links) reason (record { clients = a.clients; once = a.once }))

-- ---- bytes

module _
    (handed : (c : Conn) (bytes : List ℕ) (taken : List Message) → fault_in c.end ≡ None → HasTaken c bytes taken → PeerHasTaken c bytes taken)
    (more_taken : (old new : Conn) (bytes : List ℕ) (taken : List Message) (m : Message) → PeerHasTaken old bytes taken
    → old ≡ record { end = new.end; waiting = m ∷ new.waiting; full = new.full } → PeerHasTaken new bytes (taken ++ m ∷ []))
    (more_received : (c : Conn) (bytes piece : List ℕ) (taken : List Message) → c.full ≡ false → PeerHasTaken c bytes taken → PeerHasTaken (peer_received c piece) (bytes ++ piece) taken)
  where
    pub carrying_begins : CarryingBegins
    carrying_begins old new conn peer stream bytes taken x a is has whole fine =
        let link : Link = record { conn = conn; peer = peer; stream = x.now } in
        let same : stream ≡ with_first x.message x.now = some_of stream (with_first x.message x.now) (sym is ∙ x.opens) in
        let free = a.clients conn stream is in
        record {
          stream = x.now;
          there = ap (λ (l : Lines). link_on conn l.links) x.is ∙ found_middle old.links [] link conn refl (not_on conn old.links free);
          whole = sym (ap (λ (c : Conn). c.full) same) ∙ whole;
          has = more_taken stream x.now bytes taken x.message (handed stream bytes taken fine has) same;
        }
      where
        some_of : (b c : Conn) → Some b ≡ Some c → b ≡ c
        some_of b c e = cc

    heard_there : (conn peer : ℕ) (stream : Conn) (bytes : List ℕ) (links : List Link) → link_on conn links ≡ Some (record { conn = conn; peer = peer; stream = stream })
        → link_on conn (heard_link conn bytes links) ≡ Some (record { conn = conn; peer = peer; stream = peer_received stream bytes })
    unfolding change_first
    heard_there conn peer stream bytes [] e = absurd cc
    heard_there conn peer stream bytes (link ∷ links) e = by (is_of conn link) refl e (heard_there conn peer stream bytes links)
      where
        link_of : (a b : Link) → Some a ≡ Some b → a ≡ b
        link_of a b e = cc

        by : (b : Bool) → is_of conn link ≡ b → cond b (Some link) (link_on conn links) ≡ Some (record { conn = conn; peer = peer; stream = stream })
            → (link_on conn links ≡ Some (record { conn = conn; peer = peer; stream = stream }) → link_on conn (heard_link conn bytes links) ≡ Some (record { conn = conn; peer = peer; stream = peer_received stream bytes }))
            → link_on conn (cond b (record link { stream = peer_received link.stream bytes } ∷ links) (link ∷ heard_link conn bytes links)) ≡ Some (record { conn = conn; peer = peer; stream = peer_received stream bytes })
        by true f e r =
            cond-true (is_of conn link) (Some (record link { stream = peer_received link.stream bytes })) (link_on conn links) f
            ∙ ap (λ (x : Link). Some (record x { stream = peer_received x.stream bytes })) (link_of link (record { conn = conn; peer = peer; stream = stream }) e)
        by false f e r = cond-false (is_of conn link) (Some link) (link_on conn (heard_link conn bytes links)) f ∙ r e

    not_full : (c : Conn) (bytes : List ℕ) → c.full ≡ false → (peer_received c bytes).full ≡ false
    not_full c bytes e = ap (λ (b : Bool). (cond b c (with_more c (going_on peer_limit c.end bytes) false)).full) e

    pub carrying_hears : CarryingHears
    carrying_hears k l conn peer bytes more taken none c =
        subst (λ (o : Option Conn). Carries (heard_by_line o conn more l) conn peer (bytes ++ more) taken) (sym none)
        (record {
          stream = peer_received c.stream more;
          there = heard_there conn peer c.stream more l.links c.there;
          whole = not_full c.stream more c.whole;
          has = more_received c.stream bytes more taken c.whole c.has;
        })

    link_is : (a b : Link) → Some a ≡ Some b → a ≡ b
    link_is a b e = cc

    from_is : (peer : ℕ) (r : Result RaftMessage PeerFault) (m : RaftMessage) → if_from peer r ≡ Some m → m.from ≡ peer
    from_is peer (Err fault) m e = absurd cc
    from_is peer (Ok read) m e = by (read.from == peer) refl e
      where
        by : (b : Bool) → (read.from == peer) ≡ b → cond b (Some read) None ≡ Some m → m.from ≡ peer
        by true f e = let same : read ≡ m = cc in sym (ap (λ (x : RaftMessage). x.from) same) ∙ eqb-true read.from peer f
        by false f e = absurd cc

    pub carrying_sends : CarryingSends
    carrying_sends old new message conn peer bytes taken x a c here =
        let w = x.first in
        let s = stands_in old.links w x.waits in
        let once : IsOnce (s.front ++ w.link ∷ s.rest) = subst IsOnce s.was a.once in
        let clear : IsNot conn s.front = subst (λ (n : ℕ). IsNot n s.front) here (front_not s.front s.rest w.link once) in
        let found : link_on conn old.links ≡ Some w.link = ap (link_on conn) s.was ∙ found_middle s.front s.rest w.link conn here clear in
        let same : w.link ≡ record { conn = conn; peer = peer; stream = c.stream } = link_is w.link (record { conn = conn; peer = peer; stream = c.stream }) (sym found ∙ c.there) in
        let left : Conn = record { end = c.stream.end; waiting = s.left; full = c.stream.full } in
        let waits : c.stream.waiting ≡ w.message ∷ s.left = sym (ap (λ (l : Link). l.stream.waiting) same) ∙ s.waits in (
          from_is w.link.peer (peer_message_of old.me w.message) message x.reads ∙ ap (λ (l : Link). l.peer) same,
          record {
            stream = left;
            there = ap (λ (l : Lines). link_on conn l.links) x.is ∙ ap (link_on conn) s.now ∙ found_middle s.front s.rest (with_waiting w.link s.left) conn here clear
                ∙ ap (λ (l : Link). Some (with_waiting l s.left)) same;
            whole = c.whole;
            has = more_taken c.stream left bytes taken w.message c.has (λ i. record { end = c.stream.end; waiting = waits i; full = c.stream.full });
          },
        )

    pub carrying_stays : CarryingStays
    carrying_stays old new message conn peer bytes taken x c apart =
        let w = x.first in
        let s = stands_in old.links w x.waits in
        let far : is_of conn w.link ≡ false = ne_eqb w.link.conn conn apart in
        record {
          stream = c.stream;
          there = ap (λ (l : Lines). link_on conn l.links) x.is ∙ ap (link_on conn) s.now ∙ other_middle s.front s.rest w.link (with_waiting w.link s.left) conn far far ∙ sym (ap (link_on conn) s.was) ∙ c.there;
          whole = c.whole;
          has = c.has;
        }
