-- What the calls of clients answer is what their turns are as stretches of an event.
use Rattle.std.proofs.Common.{◌≡◌, ◌≢◌, ◌⊎◌, inl, inr, ⊎_elim, ℕ, Bool, true, false, true≢false, List, [], ◌∷◌, ◌++◌, length, take, refl, sym, ap, ◌∙◌, subst, append-nil, append_assoc}
use Rattle.std.specs.Prelude.{map, cond, not, is_none, ◌&&◌, ◌==◌, nat_lt, Option, Some, None, Result, Ok, Err}
use Rattle.std.specs.List.{flat_map}
use Rattle.std.proofs.lemmas.Bool.{cond-true, cond-false, cases_eq, eq-eqb, ne_eqb}
use Rattle.wire_words.specs.declared.message.Message.{Message}
use Rattle.wire_msgs.specs.declared.fault.MsgFault.{MsgFault}
use Rattle.wire_msgs.specs.declared.request.Request.{Request}
use Rattle.wire_msgs.specs.declared.response.Response.{Response}
use Rattle.wire_msgs.specs.Reading.{request_of}
use Rattle.wire_msgs.specs.Responses.{response_bytes}
use Rattle.sql_engine.specs.declared.kind.EngineKind.{EngineKind}
use Rattle.sql_engine.specs.Meanings.{Meaning, Told}
use Rattle.sql_engine.specs.Replies.{Statement}
use Rattle.session_spec.specs.Causes.{failure, unread_cause}
use Rattle.session_spec.specs.Engines.{AllowsFor, used_for}
use Rattle.session_spec.specs.Events.{on_hangup, connects, connected}
use Rattle.session_spec.specs.Machine.{machine_of}
use Rattle.session_spec.specs.Requests.{on_request, handed, on_later, handed_later, without_later}
use Rattle.session_spec.specs.Sessions.{Reply, Session, Gateway, View, HandsOver, JoinsPeer, Weighs, Turned, Refused, Lacks, Answers, Proposes, Lends, Affects, responses_of, may_ask, later_query, lent_query}
use Rattle.session_safety.specs.Answering.{comes}
use Rattle.session_safety.specs.Lending.{lends_by}
use Rattle.session_safety.specs.Nodes.{Standing}
use Rattle.session_safety.proofs.JobsKnown.{laters_stay_hold}
use Rattle.session_statements.specs.Running.{TellsAll}
use Rattle.raft_spec.specs.Node.{is_leader}
use Rattle.raft_spec.specs.NodeValues.{node_of}
use Rattle.client_connection.specs.Connection.{Conn, opened, with_more, room, received}
use Rattle.wire_words.specs.Stream.{going_on, client_limit}
use Rattle.session_gateway.specs.declared.act.Act.{Act as GatewayAct}
use Rattle.session_gateway.specs.Calls.{Is}
use Rattle.client_sessions.specs.declared.act.Act.{Act}
use Rattle.client_sessions.specs.declared.act.Act.TheVariants as acts
use Rattle.client_sessions.specs.declared.connect_result.ConnectResult.TheVariants.{Joined, Full, Taken}
use Rattle.client_sessions.specs.Calls.{bytes_of, act_on, Asked, Unread, Comes, TookOffer, sent_to, call_of, scene}
use Rattle.client_sessions.specs.Clients.{Clients, with_stream, joining, joined_as, joined, without, hung_up, closing, closed, heard_on, heard, Offer, IsOffered, Fits, Sound}
use Rattle.client_sessions.specs.Later.{RanLater, Finishes}
use Rattle.client_sessions.proofs.Asking.{offered_asks}
use Rattle.client_sessions.proofs.Offers.{next_is_first}
use Rattle.node_spec.specs.Accounts.{Moment}
use Rattle.node_spec.specs.ClientTurns.{Stays, Connects, HangsUp, Hears, Resumes, Reads}
use Rattle.node_spec.specs.Turns.{KeepsRaft, view_at, gate_after, told_at_once, due_by, MayPropose, AreSpelled, Handles}
use Rattle.node_spec.proofs.MayPropose.{requests_may_propose_hold, laters_may_propose_hold}
use Rattle.node_core.specs.Account.{heard_on as bytes_asked}
use Rattle.node_core.specs.Acts.{messages_by, proposals_by, jobs_by}
use Rattle.node_core.specs.Values.{request_in, requests_in, waiting_on}

-- ---- what replies are as they are sent

-- a reply, in the responses that it is sent in
abbrev told_in : ℕ × Reply → List (ℕ × Response)
told_in r = map (λ (response : Response). (r.0, response)) (responses_of r.1)

-- replies as they are sent
abbrev pub as_sent : List (ℕ × Reply) → List (ℕ × List ℕ)
as_sent replies = map sent_to (flat_map told_in replies)

told_bytes : (conn : ℕ) (rs : List Response) → map (λ (message : List ℕ). (conn, message)) (bytes_of rs) ≡ map sent_to (map (λ (response : Response). (conn, response)) rs)
told_bytes conn [] = refl
told_bytes conn (r ∷ rs) = ap (λ l. (conn, response_bytes r) ∷ l) (told_bytes conn rs)

one_sent : (conn : ℕ) (reply : Reply) → map (λ (message : List ℕ). (conn, message)) (bytes_of (responses_of reply)) ≡ as_sent ((conn, reply) ∷ [])
one_sent conn reply = told_bytes conn (responses_of reply) ∙ ap (map sent_to) (sym (append-nil (map (λ (response : Response). (conn, response)) (responses_of reply))))

-- ---- moments and clients

-- a moment whose sessions, and requests that wait, are those of clients
pub record Shows (a : Moment) (k : Clients) : Type 0 where
  pub sessions : a.node.sessions ≡ k.sessions
  pub waiting : (conn : ℕ) → a.node.waiting conn ≡ waiting_on (k.streams conn)

-- what a node is for its sessions is what it is at a moment
pub record Sees (v : View) (a : Moment) : Type 0 where
  pub serving : v.serving ≡ a.node.serving
  pub term : v.term ≡ a.node.raft.term
  pub last : v.last ≡ length (node_of a.node.raft).log

abbrev pub standing_of : View → Standing
standing_of v = record { id = v.id; leader = v.leader; servers = v.servers; links = v.links; readers = v.readers; even = v.even; near = v.near }

view_is : (v : View) (a : Moment) → Sees v a → view_at a (standing_of v) ≡ v
view_is v a s = λ i. record { id = v.id; leader = v.leader; serving = sym s.serving i; term = sym s.term i; last = sym s.last i; servers = v.servers; links = v.links; readers = v.readers; even = v.even; near = v.near }

-- ---- what comes of a request

-- what it leaves, as the rules tell it
record Came (v : View) (g : Gateway) (conn : ℕ) (t : Turned) (now : Gateway) (act : Act) : Type 0 where
  comes_so : comes t ≡ true
  sessions : now ≡ gate_after g conn t
  due : proposals_by act ≡ due_by v.term t
  says : messages_by act ≡ as_sent (told_at_once conn t)
  lends : jobs_by act ≡ lends_by conn t
  spelled : AreSpelled t

came : (v : View) (g : Gateway) (conn : ℕ) (t : Turned) (now : Gateway) (act : GatewayAct) → Is v g conn t now act → Came v g conn t now (act_on conn act)
came v g conn (Refused cause) now act h = record { comes_so = refl; sessions = h.0; due = ap (λ z. proposals_by (act_on conn z)) h.1; says = ap (λ z. messages_by (act_on conn z)) h.1; lends = ap (λ z. jobs_by (act_on conn z)) h.1; spelled = tt }
came v g conn Lacks now act h = absurd h
came v g conn (Answers s reply note) now act h = record { comes_so = refl; sessions = h.0; due = ap (λ z. proposals_by (act_on conn z)) h.1; says = ap (λ z. messages_by (act_on conn z)) h.1 ∙ one_sent conn reply; lends = ap (λ z. jobs_by (act_on conn z)) h.1; spelled = tt }
came v g conn (Proposes s contents note) now act h = record { comes_so = refl; sessions = h.0; due = ap (λ z. proposals_by (act_on conn z)) h.1; says = ap (λ z. messages_by (act_on conn z)) h.1; lends = ap (λ z. jobs_by (act_on conn z)) h.1; spelled = h.2 }
came v g conn (Lends s job) now act h = record { comes_so = refl; sessions = h.0; due = ap (λ z. proposals_by (act_on conn z)) h.1; says = ap (λ z. messages_by (act_on conn z)) h.1; lends = ap (λ z. jobs_by (act_on conn z)) h.1; spelled = tt }
came v g conn (Affects (HandsOver id)) now act h = record { comes_so = refl; sessions = h.0; due = ap (λ z. proposals_by (act_on conn z)) h.1; says = ap (λ z. messages_by (act_on conn z)) h.1; lends = ap (λ z. jobs_by (act_on conn z)) h.1; spelled = tt }
came v g conn (Affects (JoinsPeer id)) now act h = record { comes_so = refl; sessions = h.0; due = ap (λ z. proposals_by (act_on conn z)) h.1; says = ap (λ z. messages_by (act_on conn z)) h.1; lends = ap (λ z. jobs_by (act_on conn z)) h.1; spelled = tt }
came v g conn (Affects (Weighs weight)) now act h = record { comes_so = refl; sessions = h.0; due = ap (λ z. proposals_by (act_on conn z)) h.1; says = ap (λ z. messages_by (act_on conn z)) h.1; lends = ap (λ z. jobs_by (act_on conn z)) h.1; spelled = tt }

-- what waits before a message was taken
first_waits : (k l : Clients) (o : Offer) → IsOffered k o → ((other : ℕ) → l.streams other ≡ with_stream k.streams o.conn (Some o.stream) other) → (other : ℕ) → waiting_on (k.streams other) ≡ cond (o.conn == other) (request_in (request_of o.message)) [] ++ waiting_on (l.streams other)
first_waits k l o is streams other = ⊎_elim
    (λ (e : o.conn ≡ other).
    let old : k.streams other ≡ Some is.stream = ap k.streams (sym e) ∙ is.opens in
    let new : l.streams other ≡ Some o.stream = streams other ∙ cond-true (other == o.conn) (Some o.stream) (k.streams other) (eq-eqb other o.conn (sym e)) in
    ap waiting_on old ∙ ap (λ (c : Conn). requests_in c.waiting) is.first
    ∙ ap (λ (l : List Request). l ++ requests_in o.stream.waiting) (sym (cond-true (o.conn == other) (request_in (request_of o.message)) [] (eq-eqb o.conn other e)))
    ∙ ap (λ s. cond (o.conn == other) (request_in (request_of o.message)) [] ++ waiting_on s) (sym new))
    (λ (e : o.conn ≢ other).
    let new : l.streams other ≡ k.streams other = streams other ∙ cond-false (other == o.conn) (Some o.stream) (k.streams other) (ne_eqb other o.conn (λ q. e (sym q))) in
    ap waiting_on (sym new) ∙ ap (λ (l2 : List Request). l2 ++ waiting_on (l.streams other)) (sym (cond-false (o.conn == other) (request_in (request_of o.message)) [] (ne_eqb o.conn other e))))
    (cases_eq o.conn other)

module _ (m : Meaning) (kind : EngineKind) (a b : Moment) (k l : Clients) (v : View) (before now : Option Told) (refused refused_now : ℕ) (act : Act) where
  -- a message that reads as a request
  pub took_handles : Shows a k → Shows b l → KeepsRaft a b → Sees v a → Sound k → (v.serving ≡ true → is_leader a.node.raft.role ≡ true) → a.due ≡ [] → b.due ≡ proposals_by act →
      (x : TookOffer (call_of m kind before now) v (machine_of a.node.machine) k refused refused_now l act) (request : Request) → request_of x.offer.message ≡ Ok request →
      (replies : List (ℕ × Reply)) × (h : Handles m kind a b x.offer.conn request replies) × (messages_by act ≡ as_sent replies) × (jobs_by act ≡ lends_by x.offer.conn h.turned) × TellsAll h.answers before now
  took_handles sa sb rest sees sound leads idle due x request reads =
      let conn = x.offer.conn in
      let g = k.sessions in
      let mach = machine_of a.node.machine in
      let y : Asked (call_of m kind before now) (scene v mach g conn) request refused refused_now l.sessions act = subst (λ (r : Result Request MsgFault). Comes (call_of m kind before now) (scene v mach g conn) r refused refused_now l.sessions act) reads x.came in
      let t = on_request v mach g conn request y.turned.answers in
      let c = came v g conn t l.sessions y.gateway_act y.turned.is in
      let view = view_is v a sees in
      let o = next_is_first k x.offer x.next in
      let streams : (other : ℕ) → l.streams other ≡ with_stream k.streams conn (Some x.offer.stream) other = λ other. ap (λ (z : Clients). z.streams other) x.rest in (
        told_at_once conn t,
        record {
          standing = standing_of v;
          answers = y.turned.answers;
          idle = idle;
          ready = ap (λ (z : Gateway). may_ask (z.session conn)) sa.sessions ∙ offered_asks k x.offer o sound;
          allowed = subst (λ (z : View). AllowsFor m kind (handed z mach a.node.sessions conn request) y.turned.answers) (sym view) (subst (λ (z : Gateway). AllowsFor m kind (handed v mach z conn request) y.turned.answers) (sym sa.sessions) y.turned.allowed);
          exact = ap (λ (z : View). used_for (handed z mach a.node.sessions conn request) y.turned.answers) view ∙ ap (λ (z : Gateway). used_for (handed v mach z conn request) y.turned.answers) sa.sessions ∙ y.turned.exact;
          turned = t;
          is = ap (λ (z : View). on_request z mach a.node.sessions conn request y.turned.answers) view ∙ ap (λ (z : Gateway). on_request v mach z conn request y.turned.answers) sa.sessions;
          comes = c.comes_so;
          proposes = subst (λ (z : View). MayPropose z (is_leader a.node.raft.role) t) (sym view) (requests_may_propose_hold v (is_leader a.node.raft.role) mach g conn request y.turned.answers leads c.spelled);
          sessions = sb.sessions ∙ c.sessions ∙ ap (λ (z : Gateway). gate_after z conn t) (sym sa.sessions);
          due = due ∙ ap proposals_by y.act_is ∙ c.due ∙ ap (λ n. due_by n t) sees.term;
          says = refl;
          waits = λ other. sa.waiting other ∙ first_waits k l x.offer o streams other ∙ ap (λ (r : Result Request MsgFault). cond (conn == other) (request_in r) [] ++ waiting_on (l.streams other)) reads ∙ ap (λ (w : List Request). cond (conn == other) (request ∷ []) [] ++ w) (sym (sb.waiting other));
          rest = rest;
        },
        ap messages_by y.act_is ∙ c.says,
        ap jobs_by y.act_is ∙ c.lends,
        y.turned.told,
      )

  -- one that doesn't is refused
  pub took_stays : Shows a k → Shows b l → KeepsRaft a b → b.due ≡ a.due →
      (x : TookOffer (call_of m kind before now) v (machine_of a.node.machine) k refused refused_now l act) (fault : MsgFault) → request_of x.offer.message ≡ Err fault →
      Stays a b × (act ≡ acts.Reply x.offer.conn (bytes_of (failure (unread_cause fault) ∷ []))) × (now ≡ before)
  took_stays sa sb rest due x fault reads =
      let conn = x.offer.conn in
      let y : Unread k.sessions conn fault before now l.sessions act = subst (λ (r : Result Request MsgFault). Comes (call_of m kind before now) (scene v (machine_of a.node.machine) k.sessions conn) r refused refused_now l.sessions act) reads x.came in
      let o = next_is_first k x.offer x.next in
      let streams : (other : ℕ) → l.streams other ≡ with_stream k.streams conn (Some x.offer.stream) other = λ other. ap (λ (z : Clients). z.streams other) x.rest in (
        record {
          sessions = sb.sessions ∙ y.sessions_stay ∙ sym sa.sessions;
          same = record {
            waiting = λ other. sb.waiting other ∙ sym (sa.waiting other ∙ first_waits k l x.offer o streams other ∙ ap (λ (r : Result Request MsgFault). cond (conn == other) (request_in r) [] ++ waiting_on (l.streams other)) reads ∙ none (conn == other) (waiting_on (l.streams other)));
            due = due;
          };
          rest = rest;
        },
        y.act_is,
        y.untold,
      )
    where
      none : (b : Bool) (w : List Request) → cond b [] [] ++ w ≡ w
      none true w = refl
      none false w = refl

  -- a query that the node runs later than it was asked
  pub ran_resumes : (conn : ℕ) (statement : Statement) → Shows a k → Shows b l → ((other : ℕ) → l.streams other ≡ k.streams other) → KeepsRaft a b → Sees v a → (v.serving ≡ true → is_leader a.node.raft.role ≡ true) → a.due ≡ [] → b.due ≡ proposals_by act →
      later_query (k.sessions.session conn).later ≡ Some statement → RanLater (call_of m kind before now) (scene v (machine_of a.node.machine) k.sessions conn) statement refused refused_now l.sessions act →
      (replies : List (ℕ × Reply)) × (h : Resumes m kind a b conn replies) × (messages_by act ≡ as_sent replies) × (jobs_by act ≡ []) × TellsAll h.answers before now
  ran_resumes conn statement sa sb streams rest sees leads idle due later x =
      let mach = machine_of a.node.machine in
      let g = without_later k.sessions conn in
      let t = on_later v mach g conn statement x.ran.answers in
      let c = came v g conn t l.sessions x.gateway_act x.ran.is in
      let view = view_is v a sees in
      let gate : without_later a.node.sessions conn ≡ g = ap (λ (z : Gateway). without_later z conn) sa.sessions in (
        told_at_once conn t,
        record {
          standing = standing_of v;
          statement = statement;
          answers = x.ran.answers;
          idle = idle;
          later = ap (λ (z : Gateway). later_query (z.session conn).later) sa.sessions ∙ later;
          allowed = subst (λ (z : View). AllowsFor m kind (handed_later z mach (without_later a.node.sessions conn) conn statement) x.ran.answers) (sym view) (subst (λ (z : Gateway). AllowsFor m kind (handed_later v mach z conn statement) x.ran.answers) (sym gate) x.ran.allowed);
          exact = ap (λ (z : View). used_for (handed_later z mach (without_later a.node.sessions conn) conn statement) x.ran.answers) view ∙ ap (λ (z : Gateway). used_for (handed_later v mach z conn statement) x.ran.answers) gate ∙ x.ran.exact;
          turned = t;
          is = ap (λ (z : View). on_later z mach (without_later a.node.sessions conn) conn statement x.ran.answers) view ∙ ap (λ (z : Gateway). on_later v mach z conn statement x.ran.answers) gate;
          comes = c.comes_so;
          proposes = subst (λ (z : View). MayPropose z (is_leader a.node.raft.role) t) (sym view) (laters_may_propose_hold v (is_leader a.node.raft.role) mach g conn statement x.ran.answers leads c.spelled);
          sessions = sb.sessions ∙ c.sessions ∙ ap (λ (z : Gateway). gate_after z conn t) (sym gate);
          due = due ∙ ap proposals_by x.act_is ∙ c.due ∙ ap (λ n. due_by n t) sees.term;
          says = refl;
          waiting = λ other. sb.waiting other ∙ ap waiting_on (streams other) ∙ sym (sa.waiting other);
          rest = rest;
        },
        ap messages_by x.act_is ∙ c.says,
        ap jobs_by x.act_is ∙ c.lends ∙ laters_stay_hold v mach g conn statement x.ran.answers,
        x.ran.told,
      )

-- ---- connections

-- a number that has a session is taken
taken_away : (g : Gateway) (conn : ℕ) → (g.session conn).there ≡ true → connects g conn ≡ false
unfolding connects
taken_away g conn e = ap (λ (there : Bool). not there && nat_lt (length g.conns) 64) e

-- nothing waits on one that has none
none_there : (s : Session) (stream : Option Conn) → Fits stream s → s.there ≡ false → waiting_on stream ≡ []
none_there s None f away = refl
none_there s (Some c) f away = absurd (true≢false (sym f.0 ∙ away))

new_waits : (streams : ℕ → Option Conn) (conn other : ℕ) → waiting_on (streams conn) ≡ [] → waiting_on (with_stream streams conn (Some opened) other) ≡ waiting_on (streams other)
new_waits streams conn other old = ⊎_elim
    (λ (q : other ≡ conn). ap waiting_on (cond-true (other == conn) (Some opened) (streams other) (eq-eqb other conn q)) ∙ sym old ∙ ap (λ z. waiting_on (streams z)) (sym q))
    (λ (q : other ≢ conn). ap waiting_on (cond-false (other == conn) (Some opened) (streams other) (ne_eqb other conn q)))
    (cases_eq other conn)

pub requests_append : (xs ys : List Message) → requests_in (xs ++ ys) ≡ requests_in xs ++ requests_in ys
requests_append [] ys = refl
requests_append (x ∷ xs) ys = ap (λ l. request_in (request_of x) ++ l) (requests_append xs ys) ∙ sym (append_assoc (request_in (request_of x)) (requests_in xs) (requests_in ys))

-- what comes on a stream follows what waits
received_waits : (c : Conn) (bytes : List ℕ) → (more : List Message) × ((received c bytes).waiting ≡ c.waiting ++ more)
received_waits c bytes = by c.full
  where
    by : (full : Bool) → (more : List Message) × ((cond full c (with_more c (going_on client_limit c.end (take (room c) bytes)) (nat_lt (room c) (length bytes)))).waiting ≡ c.waiting ++ more)
    by true = ([], sym (append-nil c.waiting))
    by false = ((going_on client_limit c.end (take (room c) bytes)).messages, refl)

-- what bytes ask on a stream, after what waits there
pub asked_more : (o : Option Conn) (bytes : List ℕ) → (asks : List Request) × (waiting_on o ++ asks ≡ bytes_asked o bytes)
asked_more None bytes = ([], refl)
asked_more (Some stream) bytes = let more = received_waits stream bytes in (requests_in more.0, sym (ap requests_in more.1 ∙ requests_append stream.waiting more.0))

module _ (a b : Moment) (k l : Clients) (sa : Shows a k) (sb : Shows b l) (rest : KeepsRaft a b) (due : b.due ≡ a.due) where
  -- where clients have the sessions and streams that they had
  pub same_stays : l.sessions ≡ k.sessions → ((other : ℕ) → l.streams other ≡ k.streams other) → Stays a b
  same_stays sessions streams = record {
    sessions = sb.sessions ∙ sessions ∙ sym sa.sessions;
    same = record { waiting = λ other. sb.waiting other ∙ ap waiting_on (streams other) ∙ sym (sa.waiting other); due = due };
    rest = rest;
  }

  -- a reader answered a reply
  pub finished_reads : (conn : ℕ) (statement : Statement) (reply : Reply) (act : Option Act) → ((other : ℕ) → l.streams other ≡ k.streams other) → lent_query (k.sessions.session conn).later ≡ Some statement → Finishes k.sessions conn (Some statement) (Some reply) l.sessions act →
      Reads a b conn × ((given : Act) → act ≡ Some given → (messages_by given ≡ as_sent ((conn, reply) ∷ [])) × (jobs_by given ≡ []))
  finished_reads conn statement reply act streams lent x = (
    record {
      statement = statement;
      lent = ap (λ (z : Gateway). lent_query (z.session conn).later) sa.sessions ∙ lent;
      sessions = sb.sessions ∙ x.0 ∙ ap (λ (z : Gateway). without_later z conn) (sym sa.sessions);
      same = record { waiting = λ other. sb.waiting other ∙ ap waiting_on (streams other) ∙ sym (sa.waiting other); due = due };
      rest = rest;
    },
    λ given e. (ap messages_by (some_same (sym e ∙ x.1)) ∙ one_sent conn reply, ap jobs_by (some_same (sym e ∙ x.1))),
  )
    where
      some_same : {x y : Act} → Some x ≡ Some y → x ≡ y
      some_same e = cc

  -- a connection that is open went
  pub without_hangs : (conn : ℕ) → l ≡ without k conn → HangsUp a b conn
  without_hangs conn e = record {
    sessions = sb.sessions ∙ ap (λ (z : Clients). z.sessions) e ∙ ap (λ (z : Gateway). on_hangup z conn) (sym sa.sessions);
    gone = sb.waiting conn ∙ ap (λ (z : Clients). waiting_on (z.streams conn)) e ∙ ap waiting_on (cond-true (conn == conn) None (k.streams conn) (eq-eqb conn conn refl));
    others = λ other apart. sb.waiting other ∙ ap (λ (z : Clients). waiting_on (z.streams other)) e ∙ ap waiting_on (cond-false (other == conn) None (k.streams other) (ne_eqb other conn apart)) ∙ sym (sa.waiting other);
    due = due;
    rest = rest;
  }

  -- it may be none that is open, or one that isn't to be closed
  pub hung_up_goes : (conn : ℕ) → l ≡ hung_up k conn → Stays a b ⊎ HangsUp a b conn
  unfolding hung_up
  hung_up_goes conn e = by (is_none (k.streams conn)) e
    where
      by : (none : Bool) → l ≡ cond none k (without k conn) → Stays a b ⊎ HangsUp a b conn
      by true e = inl (same_stays (ap (λ (z : Clients). z.sessions) e) (λ other. ap (λ (z : Clients). z.streams other) e))
      by false e = inr (without_hangs conn e)

  pub closed_goes : (conn : ℕ) → l ≡ closed k conn → Stays a b ⊎ HangsUp a b conn
  unfolding closed
  closed_goes conn e = by (is_none (closing (k.streams conn))) e
    where
      by : (none : Bool) → l ≡ cond none k (without k conn) → Stays a b ⊎ HangsUp a b conn
      by true e = inl (same_stays (ap (λ (z : Clients). z.sessions) e) (λ other. ap (λ (z : Clients). z.streams other) e))
      by false e = inr (without_hangs conn e)

  -- a connection came, or found no room or its number taken
  pub joined_connects : (conn : ℕ) → Sound k → l ≡ joined k conn → Connects a b conn
  unfolding joining
  joined_connects conn sound e = by (k.sessions.session conn).there (connects k.sessions conn) refl refl e
    where
      stays : connects k.sessions conn ≡ false → l ≡ k → Connects a b conn
      stays none same = record {
        sessions = sb.sessions ∙ ap (λ (z : Clients). z.sessions) same ∙ sym (cond-false (connects k.sessions conn) (connected k.sessions conn) k.sessions none) ∙ ap (λ (z : Gateway). cond (connects z conn) (connected z conn) z) (sym sa.sessions);
        same = record { waiting = λ other. sb.waiting other ∙ ap (λ (z : Clients). waiting_on (z.streams other)) same ∙ sym (sa.waiting other); due = due };
        rest = rest;
      }

      by : (there comes : Bool) → (k.sessions.session conn).there ≡ there → connects k.sessions conn ≡ comes → l ≡ joined_as k conn (cond there Taken (cond comes Joined Full)) → Connects a b conn
      by true comes t q f = stays (taken_away k.sessions conn t) f
      by false false t q f = stays q f
      by false true t q f =
          let old : waiting_on (k.streams conn) ≡ [] = none_there (k.sessions.session conn) (k.streams conn) (sound.fits conn) t in
          record {
            sessions = sb.sessions ∙ ap (λ (z : Clients). z.sessions) f ∙ sym (cond-true (connects k.sessions conn) (connected k.sessions conn) k.sessions q) ∙ ap (λ (z : Gateway). cond (connects z conn) (connected z conn) z) (sym sa.sessions);
            same = record {
              waiting = λ other. sb.waiting other ∙ ap (λ (z : Clients). waiting_on (z.streams other)) f ∙ new_waits k.streams conn other old ∙ sym (sa.waiting other);
              due = due;
            };
            rest = rest;
          }

  -- bytes came, with this many more messages
  pub heard_hears : (conn : ℕ) (bytes : List ℕ) → l ≡ heard k conn bytes → (asks : ℕ → List Request) × Hears a b asks × ((other : ℕ) → other ≢ conn → asks other ≡ []) × ((stream : Conn) → k.streams conn ≡ Some stream → requests_in stream.waiting ++ asks conn ≡ requests_in (received stream bytes).waiting) × (k.streams conn ≡ None → asks conn ≡ [])
  unfolding heard
  heard_hears conn bytes e = by (k.streams conn) refl e
    where
      by : (o : Option Conn) → k.streams conn ≡ o → l ≡ heard_on k conn bytes o → (asks : ℕ → List Request) × Hears a b asks × ((other : ℕ) → other ≢ conn → asks other ≡ []) × ((stream : Conn) → k.streams conn ≡ Some stream → requests_in stream.waiting ++ asks conn ≡ requests_in (received stream bytes).waiting) × (k.streams conn ≡ None → asks conn ≡ [])
      by None o f = (
        (λ other. []),
        record {
          sessions = sb.sessions ∙ ap (λ (z : Clients). z.sessions) f ∙ sym sa.sessions;
          waiting = λ other. sb.waiting other ∙ ap (λ (z : Clients). waiting_on (z.streams other)) f ∙ sym (sa.waiting other) ∙ sym (append-nil (a.node.waiting other));
          due = due;
          rest = rest;
        },
        (λ other apart. refl),
        (λ stream q. absurd (none_some (sym o ∙ q))),
        (λ q. refl),
      )
        where
          none_some : {x : Conn} → None ≡ Some x → ⊥
          none_some e = cc
      by (Some stream) o f =
          let more = received_waits stream bytes in
          let asks : ℕ → List Request = λ other. cond (other == conn) (requests_in more.0) [] in
          let here : asks conn ≡ requests_in more.0 = cond-true (conn == conn) (requests_in more.0) [] (eq-eqb conn conn refl) in
          let whole : requests_in stream.waiting ++ asks conn ≡ requests_in (received stream bytes).waiting = ap (λ (r : List Request). requests_in stream.waiting ++ r) here ∙ sym (requests_append stream.waiting more.0) ∙ ap requests_in (sym more.1) in (
            asks,
            record {
              sessions = sb.sessions ∙ ap (λ (z : Clients). z.sessions) f ∙ sym sa.sessions;
              waiting = λ other. sb.waiting other ∙ ap (λ (z : Clients). waiting_on (z.streams other)) f ∙ ⊎_elim
                  (λ (q : other ≡ conn). ap waiting_on (cond-true (other == conn) (Some (received stream bytes)) (k.streams other) (eq-eqb other conn q)) ∙ sym whole ∙ ap (λ (s : Option Conn). waiting_on s ++ asks conn) (sym o) ∙ ap (λ z. waiting_on (k.streams z) ++ asks z) (sym q))
                  (λ (q : other ≢ conn). ap waiting_on (cond-false (other == conn) (Some (received stream bytes)) (k.streams other) (ne_eqb other conn q)) ∙ sym (append-nil (waiting_on (k.streams other))) ∙ ap (λ (r : List Request). waiting_on (k.streams other) ++ r) (sym (cond-false (other == conn) (requests_in more.0) [] (ne_eqb other conn q))))
                  (cases_eq other conn) ∙ ap (λ (r : List Request). r ++ asks other) (sym (sa.waiting other));
              due = due;
              rest = rest;
            },
            (λ other apart. cond-false (other == conn) (requests_in more.0) [] (ne_eqb other conn apart)),
            (λ given q. subst (λ (c : Conn). requests_in c.waiting ++ asks conn ≡ requests_in (received c bytes).waiting) (some_same (sym o ∙ q)) whole),
            (λ q. absurd (none_some (sym q ∙ o))),
          )
        where
          some_same : {x y : Conn} → Some x ≡ Some y → x ≡ y
          some_same e = cc

          none_some : {x : Conn} → None ≡ Some x → ⊥
          none_some e = cc
