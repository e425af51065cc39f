-- What a connection has asked is what its bytes encode, step by step.
use Rattle.std.proofs.Common.{◌≡◌, ℕ, Bool, true, false, cond, List, [], ◌∷◌, ◌++◌, take, drop, Option, Some, None, refl, sym, ap, subst, ◌∙◌, append_assoc, append-nil}
use Rattle.std.specs.Prelude.{◌==◌, nat_lt, length}
use Rattle.std.proofs.lemmas.Bool.{cond-true, cond-false, eq-eqb, eqb-true, eqb-false}
use Rattle.std.proofs.lemmas.List.{take-append-drop}
use Rattle.wire_words.specs.declared.message.Message.{Message}
use Rattle.wire_words.specs.Stream.{stream, client_limit, going_on}
use Rattle.wire_msgs.specs.declared.request.Request.{Request}
use Rattle.client_connection.specs.Connection.{Conn, HasTaken, opened, received, read_of, room, with_more}
use Rattle.client_connection.proofs.Streams.{received_more, all_read}
use Rattle.node_core.specs.declared.event.Event.TheVariants as events
use Rattle.node_core.specs.declared.running.Running.{Running}
use Rattle.node_core.specs.Account.{BytesAsk, heard_on}
use Rattle.node_core.specs.Conns.{StreamOn, heard_by, come_by}
use Rattle.node_core.specs.Heard.{HasHeard, HeardBegins, HeardOn}
use Rattle.node_core.specs.Values.{clients_in, requests_in, waiting_on}
use Rattle.node_core.proofs.Bridges.{requests_append}

some_conn : (a b : Conn) → Some a ≡ Some b → a ≡ b
some_conn a b e = cc

-- messages were taken of a stream
took_more : (old new : Conn) (bytes : List ℕ) (taken more : List Message) → HasTaken old bytes taken → old ≡ record { end = new.end; waiting = more ++ new.waiting; full = new.full }
    → HasTaken new bytes (taken ++ more)
took_more old new bytes taken more h is = record {
  messages = h.messages ∙ ap (λ (c : Conn). taken ++ c.waiting) is ∙ sym (append_assoc taken more new.waiting);
  end = h.end ∙ ap (λ (c : Conn). c.end) is;
}

-- ---- it comes

nothing_taken : HasTaken opened [] []
unfolding stream
nothing_taken = record { messages = refl; end = refl }

nothing_asked : requests_in (stream client_limit []).messages ≡ []
unfolding stream
nothing_asked = refl

pub heard_begins : HeardBegins
heard_begins old new conn outs connection by none opens =
    let at = by.streams conn in
    let came : StreamOn (come_by None conn conn) (Some connection) =
    subst (λ (o : Option Conn). StreamOn (come_by o conn conn) (Some connection)) none (subst (λ (o : Option Conn). StreamOn (come_by ((clients_in old).streams conn) conn conn) o) opens at) in
    let first : StreamOn (Some opened) (Some connection) = subst (λ (o : Option Conn). StreamOn o (Some connection)) (cond-true (conn == conn) (Some opened) None (eq-eqb conn conn refl)) came in
    record {
      connection = connection;
      opens = opens;
      read = [];
      unread = [];
      all = refl;
      whole = λ e. refl;
      taken = first.0;
      has = took_more opened connection [] [] first.0 nothing_taken first.1;
      asks = sym nothing_asked;
    }

-- ---- a step in which it stays

-- no bytes come on it
stays_open : (old new : Running) (conn : ℕ) (connection : Conn) (bytes : List ℕ) (asked asks : List Request) → (h : HasHeard old conn bytes asked)
    → StreamOn (Some h.connection) (Some connection) → asks ≡ [] → (clients_in new).streams conn ≡ Some connection → HasHeard new conn (bytes ++ []) (asked ++ asks)
stays_open old new conn connection bytes asked asks h on none opens = record {
  connection = connection;
  opens = opens;
  read = h.read;
  unread = h.unread;
  all = append-nil bytes ∙ h.all;
  whole = λ e. h.whole (ap (λ (c : Conn). c.full) on.1 ∙ e);
  taken = h.taken ++ on.0;
  has = took_more h.connection connection h.read h.taken on.0 h.has on.1;
  asks = ap (λ (l : List Request). asked ++ l) none ∙ append-nil asked ∙ h.asks;
}

stays_at : (old new : Running) (conn : ℕ) (connection : Conn) (bytes : List ℕ) (asked asks : List Request) (o : Option Conn) → (h : HasHeard old conn bytes asked)
    → o ≡ Some h.connection → StreamOn o ((clients_in new).streams conn) → asks ≡ [] → (clients_in new).streams conn ≡ Some connection → HasHeard new conn (bytes ++ []) (asked ++ asks)
stays_at old new conn connection bytes asked asks o h is on none opens =
    stays_open old new conn connection bytes asked asks h (subst (λ (x : Option Conn). StreamOn x (Some connection)) is (subst (StreamOn o) opens on)) none opens

-- what is not read of a piece
abbrev rest_of : Conn → List ℕ → List ℕ
rest_of c piece = cond c.full piece (drop (room c) piece)

pieces : (full : Bool) (read unread bytes piece : List ℕ) (n : ℕ) → bytes ≡ read ++ unread → (full ≡ false → unread ≡ [])
    → bytes ++ piece ≡ (read ++ cond full [] (take n piece)) ++ (unread ++ cond full piece (drop n piece))
pieces true read unread bytes piece n all whole =
    ap (λ (l : List ℕ). l ++ piece) all ∙ append_assoc read unread piece ∙ ap (λ (l : List ℕ). l ++ (unread ++ piece)) (sym (append-nil read))
pieces false read unread bytes piece n all whole =
    ap (λ (l : List ℕ). l ++ piece) (all ∙ ap (λ (l : List ℕ). read ++ l) (whole refl) ∙ append-nil read)
    ∙ ap (λ (l : List ℕ). read ++ l) (sym (take-append-drop n piece)) ∙ sym (append_assoc read (take n piece) (drop n piece))
    ∙ ap (λ (l : List ℕ). (read ++ take n piece) ++ (l ++ drop n piece)) (sym (whole refl))

-- one that had no room for a byte stays so
full_stays : (c : Conn) (piece : List ℕ) (b : Bool) → c.full ≡ b → (received c piece).full ≡ false → b ≡ false
full_stays c piece true is e =
    sym is ∙ sym (ap (λ (x : Bool). (cond x c (with_more c (going_on client_limit c.end (take (room c) piece)) (nat_lt (room c) (length piece)))).full) is) ∙ e
full_stays c piece false is e = refl

no_more : (xs ys : List ℕ) → xs ++ ys ≡ xs → ys ≡ []
no_more [] ys e = e
no_more (x ∷ xs) ys e = no_more xs ys (ap (drop 1) e)

none_left : (n : ℕ) (xs : List ℕ) → take n xs ≡ xs → drop n xs ≡ []
none_left n xs e = no_more (take n xs) (drop n xs) (take-append-drop n xs ∙ sym e)

-- bytes come on it
hears_more : (old new : Running) (conn : ℕ) (connection : Conn) (bytes piece : List ℕ) (asked asks : List Request) → (h : HasHeard old conn bytes asked)
    → StreamOn (Some (received h.connection piece)) (Some connection) → requests_in h.connection.waiting ++ asks ≡ requests_in (received h.connection piece).waiting
    → (clients_in new).streams conn ≡ Some connection → HasHeard new conn (bytes ++ piece) (asked ++ asks)
hears_more old new conn connection bytes piece asked asks h on brings opens =
    let c = h.connection in
    let more : HasTaken (received c piece) (h.read ++ read_of c piece) h.taken = received_more c h.read piece h.taken h.has in
    record {
      connection = connection;
      opens = opens;
      read = h.read ++ read_of c piece;
      unread = h.unread ++ rest_of c piece;
      all = pieces c.full h.read h.unread bytes piece (room c) h.all h.whole;
      whole = λ e.
          let full : (received c piece).full ≡ false = ap (λ (x : Conn). x.full) on.1 ∙ e in
          let free : c.full ≡ false = full_stays c piece c.full refl full in
          let read : read_of c piece ≡ piece = all_read c piece full in
          ap (λ (l : List ℕ). l ++ rest_of c piece) (h.whole free) ∙ cond-false c.full piece (drop (room c) piece) free
          ∙ none_left (room c) piece (sym (cond-false c.full [] (take (room c) piece) free) ∙ read);
      taken = h.taken ++ on.0;
      has = took_more (received c piece) connection (h.read ++ read_of c piece) h.taken on.0 more on.1;
      asks =
          ap (λ (l : List Request). l ++ asks) (h.asks ∙ ap requests_in h.has.messages ∙ requests_append h.taken c.waiting)
          ∙ append_assoc (requests_in h.taken) (requests_in c.waiting) asks
          ∙ ap (λ (l : List Request). requests_in h.taken ++ l) brings
          ∙ sym (requests_append h.taken (received c piece).waiting) ∙ sym (ap requests_in more.messages);
    }

pub heard_on_holds : HeardOn
heard_on_holds events.Timeout old new conn outs connection bytes asked asks h by brings opens =
    stays_at old new conn connection bytes asked (asks conn) ((clients_in old).streams conn) h h.opens (by.streams conn) (brings conn) opens
heard_on_holds events.Beat old new conn outs connection bytes asked asks h by brings opens =
    stays_at old new conn connection bytes asked (asks conn) ((clients_in old).streams conn) h h.opens (by.streams conn) (brings conn) opens
heard_on_holds events.Yield old new conn outs connection bytes asked asks h by brings opens =
    stays_at old new conn connection bytes asked (asks conn) ((clients_in old).streams conn) h h.opens (by.streams conn) (brings conn) opens
heard_on_holds (events.Hangup other) old new conn outs connection bytes asked asks h by brings opens =
    stays_at old new conn connection bytes asked (asks conn) ((clients_in old).streams conn) h h.opens (by.streams conn) (brings conn) opens
heard_on_holds (events.Peer message) old new conn outs connection bytes asked asks h by brings opens =
    stays_at old new conn connection bytes asked (asks conn) ((clients_in old).streams conn) h h.opens (by.streams conn) (brings conn) opens
heard_on_holds (events.ReadDone other read) old new conn outs connection bytes asked asks h by brings opens =
    stays_at old new conn connection bytes asked (asks conn) ((clients_in old).streams conn) h h.opens (by.streams conn) (brings conn) opens
heard_on_holds (events.Connect other) old new conn outs connection bytes asked asks h by brings opens =
    stays_at old new conn connection bytes asked (asks conn) (come_by ((clients_in old).streams conn) other conn) h (ap (λ (o : Option Conn). come_by o other conn) h.opens) (by.streams conn) (brings conn) opens
heard_on_holds (events.Bytes other piece) old new conn outs connection bytes asked asks h by brings opens = at (conn == other) refl
  where
    at : (b : Bool) → (conn == other) ≡ b → HasHeard new conn (bytes ++ cond b piece []) (asked ++ asks conn)
    at true e =
        let same : conn ≡ other = eqb-true conn other e in
        let on : StreamOn (Some (received h.connection piece)) (Some connection) =
        subst (λ (x : Bool). StreamOn (Some (cond x (received h.connection piece) h.connection)) (Some connection)) e
        (subst (λ (o : Option Conn). StreamOn (heard_by o other conn piece) (Some connection)) h.opens (subst (StreamOn (heard_by ((clients_in old).streams conn) other conn piece)) opens (by.streams conn))) in
        let here : BytesAsk old conn piece asks = subst (λ (k : ℕ). BytesAsk old k piece asks) (sym same) brings in
        hears_more old new conn connection bytes piece asked (asks conn) h on
        (sym (ap (λ (o : Option Conn). waiting_on o ++ asks conn) h.opens) ∙ here.here ∙ ap (λ (o : Option Conn). heard_on o piece) h.opens) opens
    at false e =
        stays_at old new conn connection bytes asked (asks conn) (heard_by ((clients_in old).streams conn) other conn piece) h
        (ap (λ (o : Option Conn). heard_by o other conn piece) h.opens ∙ ap (λ (x : Bool). Some (cond x (received h.connection piece) h.connection)) e) (by.streams conn)
        (brings.others conn (eqb-false conn other e)) opens
