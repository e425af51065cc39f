-- What a client's message, a query that is run later, and connections make of what decides at a node.
use Rattle.std.proofs.Common.{◌≡◌, inl, inr, ℕ, Bool, true, false, true≢false, cond, List, [], ◌∷◌, ◌++◌, Option, Some, None, Result, Ok, Err, refl, sym, ap, subst, ◌∙◌, append-nil}
use Rattle.std.specs.Prelude.{MatchOption, not, is_none, is_some}
use Rattle.std.proofs.lemmas.Bool.{cond-true, cond-false}
use Rattle.wire_msgs.specs.declared.fault.MsgFault.{MsgFault}
use Rattle.wire_msgs.specs.declared.request.Request.{Request}
use Rattle.wire_msgs.specs.declared.response.Response.TheVariants.{Empty}
use Rattle.wire_msgs.specs.Reading.{request_of}
use Rattle.client_connection.specs.declared.connection.CloseReason.{CloseReason}
use Rattle.client_connection.specs.Connection.{Conn}
use Rattle.sql_engine.specs.declared.kind.EngineKind.{EngineKind}
use Rattle.sql_engine.specs.Meanings.{Meaning, Told}
use Rattle.sql_engine.specs.Replies.{Statement}
use Rattle.session_statements.specs.Running.{TellsAll}
use Rattle.session_statements.proofs.Telling.{tells_none}
use Rattle.session_spec.specs.Causes.{failure, unread_cause}
use Rattle.session_spec.specs.Entries.{written}
use Rattle.session_spec.specs.Machine.{Machine, machine_of}
use Rattle.session_spec.specs.Requests.{with_session, without_later, affected_by, on_request, on_later}
use Rattle.session_spec.specs.Sessions.{Gateway, View, Later, Due, Lent, HandsOver, JoinsPeer, Weighs, Turned, Refused, Lacks, Answers, Proposes, Lends, Affects, is_due, later_query, responses_of}
use Rattle.session_gateway.specs.declared.act.Act.{Act as GatewayAct}
use Rattle.session_gateway.specs.Calls.{Is}
use Rattle.session_gateway.specs.Later.{first_due_in, first_due}
use Rattle.client_sessions.specs.declared.act.Act.{Act}
use Rattle.client_sessions.specs.declared.act.Act.TheVariants as acts
use Rattle.client_sessions.specs.declared.connect_result.ConnectResult.{ConnectResult}
use Rattle.client_sessions.specs.declared.connect_result.ConnectResult.TheVariants as joinings
use Rattle.client_sessions.specs.Calls.{call_of, scene, act_on, Comes, TookOffer, WasIdle, TookTurn}
use Rattle.client_sessions.specs.Clients.{Clients, Offer, joining, joined, joined_as, without, hung_up, closing, closed, heard, heard_on, next_offer, taken, with_sessions, freed}
use Rattle.client_sessions.specs.Seen.{clients_of}
use Rattle.client_sessions.specs.Later.{RanLater, Resumes, turn_for}
use Rattle.raft_core.specs.declared.event.RaftEvent.{RaftEvent}
use Rattle.raft_core.specs.declared.event.RaftEvent.TheVariants as due
use Rattle.node_core.specs.declared.outs.StepOutputs.{StepOutputs}
use Rattle.node_core.specs.declared.running.Running.{Running}
use Rattle.node_core.specs.declared.links.Link.{Link}
use Rattle.node_core.specs.Carrying.{close_of, full_for, link_on}
use Rattle.node_core.specs.Plain.{plain_session, plain_gate}
use Rattle.node_core.specs.Core.{Core, core_of, clients_at, giving, replied, taking, idle, joined_by, heard_by, hearing, gone, gone_by, hanging_up, closed_for}
use Rattle.node_core.specs.Exact.{TurnsTo, ExactMessage, resuming, ExactWaitingQuery, ExactWaitingQueries, OnHeard}
use Rattle.node_core.specs.ExactParts.{Answered, ExactResume, ExactPerform, ExactOffer, gone_for, ExactClose}
use Rattle.node_core.specs.Values.{clients_in}
use Rattle.node_core.proofs.PlainGates.{hangup_plain, connected_plain, joining_plain, with_plain, without_plain, due_plain, next_plain}

-- ---- what is due, and what is said

pub gave : (old new : Running) (event : RaftEvent) → new.due.items ≡ old.due.items ++ event ∷ [] → new ≡ record old { due = new.due } → core_of new ≡ giving event (core_of old)
unfolding core_of
gave old new event more is = ap core_of is ∙ (λ i. record (core_of old) { due = more i })

pub pushed : (old : Running) (outs : StepOutputs) (more : List (ℕ × List ℕ)) → outs.replies.items ≡ old.outs.replies.items ++ more → outs.closed.items ≡ old.outs.closed.items
    → core_of (record old { outs = outs }) ≡ record (core_of old) { replies = (core_of old).replies ++ more }
unfolding core_of
pushed old outs more said stays = λ i. record (core_of old) { replies = said i; closed = stays i }

-- what came of a message is done, by what it came to
pub performed : (act other : Act) (w v : Core) → act ≡ other → ExactPerform other w v → ExactPerform act w v
performed act other w v is done = subst (λ (a : Act). ExactPerform a w v) (sym is) done

-- a leadership is handed over after the reply
pub transferred : (old : Running) (outs : StepOutputs) (new : Running) (act : Act) (conn to : ℕ) (reply : List ℕ) → act ≡ acts.Transfer conn to reply
    → outs.replies.items ≡ old.outs.replies.items ++ (conn, reply) ∷ [] → outs.closed.items ≡ old.outs.closed.items
    → core_of new ≡ giving (due.Transfer to) (core_of (record old { outs = outs })) → ExactPerform act (core_of old) (core_of new)
transferred old outs new act conn to reply is said stays gives =
    performed act (acts.Transfer conn to reply) (core_of old) (core_of new) is (gives ∙ ap (giving (due.Transfer to)) (pushed old outs ((conn, reply) ∷ []) said stays))

-- ---- what comes of a request

module _ (conn : ℕ) (v : View) (g now : Gateway) (decided : GatewayAct) (act : Act) (w x : Core) (gate : w.sessions ≡ plain_gate g) (term : w.view.term ≡ v.term) where
  -- after what was decided
  abbrev behind : Core
  behind = record w { sessions = plain_gate now }

  by_act : (other : GatewayAct) → act ≡ act_on conn decided → decided ≡ other → ExactPerform act behind x → ExactPerform (act_on conn other) behind x
  by_act other on is done = subst (λ (a : Act). ExactPerform a behind x) (on ∙ ap (act_on conn) is) done

  pub turned : (t : Turned) → Is v g conn t now decided → act ≡ act_on conn decided → ExactPerform act behind x → TurnsTo conn t w x
  turned (Refused cause) is on done =
      by_act _ on is.1 done ∙ (λ i. replied conn (failure cause ∷ []) (record w { sessions = (ap plain_gate is.0 ∙ sym gate) i }))
  turned Lacks is on done = is
  turned (Answers s reply note) is on done =
      let same = ap plain_gate is.0 ∙ with_plain g conn s ∙ ap (λ (h : Gateway). with_session h conn (plain_session s)) (sym gate) in
      by_act _ on is.1 done ∙ (λ i. replied conn (responses_of reply) (record w { sessions = same i }))
  turned (Proposes s contents note) is on done =
      let same = ap plain_gate is.0 ∙ with_plain g conn s ∙ ap (λ (h : Gateway). with_session h conn (plain_session s)) (sym gate) in
      by_act _ on is.1 done ∙ (λ i. giving (due.Propose (written (sym term i) contents)) (record w { sessions = same i }))
  turned (Lends s job) is on done = tt
  turned (Affects (HandsOver id)) is on done =
      by_act _ on is.1 done ∙ (λ i. giving (due.Transfer id) (replied conn (Empty ∷ []) (record w { sessions = (ap plain_gate is.0 ∙ sym gate) i })))
  turned (Affects (JoinsPeer id)) is on done = tt
  turned (Affects (Weighs weight)) is on done =
      let same = ap plain_gate is.0 ∙ ap (λ (h : Gateway). affected_by h (Weighs weight)) (sym gate) in
      by_act _ on is.1 done ∙ (λ i. replied conn (Empty ∷ []) (record w { sessions = same i }))

-- ---- a client's message

-- the clients have changed, and the databases' marks with them
abbrev Moved : Running → Running → Type 0
Moved old mid = mid ≡ record old { clients = mid.clients; applied = record old.applied { machine = mid.applied.machine } }

abbrev KeepsFiles : Running → Running → Type 0
KeepsFiles old mid = machine_of mid.applied.machine ≡ machine_of old.applied.machine

pub offers_plain : (n : Running) → next_offer (clients_at (core_of n)) ≡ next_offer (clients_in n)
unfolding core_of
offers_plain n = next_plain (clients_in n)

took_core : (old mid : Running) (offer : Offer) → Moved old mid → KeepsFiles old mid → clients_in mid ≡ with_sessions (taken (clients_in old) (Some offer)) (clients_in mid).sessions
    → core_of mid ≡ record (taking offer (core_of old)) { sessions = plain_gate (clients_in mid).sessions }
unfolding core_of
took_core old mid offer is files rest = ap core_of is ∙ (λ i. record (core_of old) { files = files i; sessions = plain_gate (clients_in mid).sessions; streams = (rest i).streams; turns = (rest i).turns })

idle_core : (old mid : Running) → Moved old mid → KeepsFiles old mid → clients_in mid ≡ taken (clients_in old) None → core_of mid ≡ idle (core_of old)
unfolding core_of
idle_core old mid is files rest = ap core_of is ∙ (λ i. record (core_of old) { files = files i; sessions = plain_gate (rest i).sessions; streams = (rest i).streams; turns = (rest i).turns })

told_none : (before now : Option Told) → now ≡ before → TellsAll [] before now
told_none before now same = subst (λ (t : Option Told). TellsAll [] before t) (sym same) (tells_none before)

module _ (m : Meaning) (kind : EngineKind) (before now : Option Told) (refused refused_now : ℕ) (old mid new : Running) (act : Act) (done : ExactPerform act (core_of mid) (core_of new)) where
  -- a message of a connection, which ended with this
  came_by : (offer : Offer) (r : Result Request MsgFault) → core_of mid ≡ record (taking offer (core_of old)) { sessions = plain_gate (clients_in mid).sessions }
      → Comes (call_of m kind before now) (scene old.view (machine_of old.applied.machine) (clients_in old).sessions offer.conn) r refused refused_now (clients_in mid).sessions act
      → Answered before now (ExactMessage m kind offer.conn r (taking offer (core_of old)) (core_of new))
  unfolding core_of
  came_by offer (Ok request) is x = record {
    answers = x.turned.answers;
    told = x.turned.told;
    by = record {
      gate = (clients_in old).sessions;
      plain = refl;
      allowed = x.turned.allowed;
      exact = x.turned.exact;
      to = turned offer.conn old.view (clients_in old).sessions (clients_in mid).sessions x.gateway_act act (taking offer (core_of old)) (core_of new) refl refl
          (on_request old.view (machine_of old.applied.machine) (clients_in old).sessions offer.conn request x.turned.answers) x.turned.is x.act_is (subst (λ (c : Core). ExactPerform act c (core_of new)) is done);
    };
  }
  came_by offer (Err fault) is x =
      let w = taking offer (core_of old) in
      let d : ExactPerform act (record w { sessions = plain_gate (clients_in mid).sessions }) (core_of new) = subst (λ (c : Core). ExactPerform act c (core_of new)) is done in
      let e : core_of new ≡ replied offer.conn (failure (unread_cause fault) ∷ []) (record w { sessions = plain_gate (clients_in mid).sessions }) =
      subst (λ (a : Act). ExactPerform a (record w { sessions = plain_gate (clients_in mid).sessions }) (core_of new)) x.act_is d in
      record {
        answers = [];
        told = told_none before now x.untold;
        by = (e ∙ (λ i. replied offer.conn (failure (unread_cause fault) ∷ []) (record w { sessions = plain_gate (x.sessions_stay i) })), refl);
      }

  -- the first message in turn was taken
  took_by : Moved old mid → KeepsFiles old mid → TookOffer (call_of m kind before now) old.view (machine_of old.applied.machine) (clients_in old) refused refused_now (clients_in mid) act
      → Answered before now (ExactOffer m kind (next_offer (clients_at (core_of old))) (core_of old) (core_of new))
  took_by is files x =
      subst (λ (o : Option Offer). Answered before now (ExactOffer m kind o (core_of old) (core_of new))) (sym (offers_plain old ∙ x.next))
      (came_by x.offer (request_of x.offer.message) (took_core old mid x.offer is files x.rest) x.came)

  pub message_by : Moved old mid → KeepsFiles old mid → (given : Option Act) → TookTurn (call_of m kind before now) old.view (machine_of old.applied.machine) (clients_in old) refused refused_now (clients_in mid) given → given ≡ Some act
      → Answered before now (ExactOffer m kind (next_offer (clients_at (core_of old))) (core_of old) (core_of new))
  message_by is files given t e =
      took_by is files (subst (TookTurn (call_of m kind before now) old.view (machine_of old.applied.machine) (clients_in old) refused refused_now (clients_in mid)) e t)

-- whether there is one
some_offer : (m : Meaning) (kind : EngineKind) (v : View) (machine : Machine) (before now : Option Told) (refused refused_now : ℕ) (k l : Clients) (given : Option Act) → TookTurn (call_of m kind before now) v machine k refused refused_now l given → is_some given ≡ is_some (next_offer k)
some_offer m kind v machine before now refused refused_now k l None t = sym (ap is_some t.none)
some_offer m kind v machine before now refused refused_now k l (Some act) t = sym (ap is_some t.next)

pub offers_so : (m : Meaning) (kind : EngineKind) (before now : Option Told) (refused refused_now : ℕ) (old mid : Running) (given wanted : Option Act)
    → TookTurn (call_of m kind before now) old.view (machine_of old.applied.machine) (clients_in old) refused refused_now (clients_in mid) given → given ≡ wanted → is_some wanted ≡ is_some (next_offer (clients_at (core_of old)))
offers_so m kind before now refused refused_now old mid given wanted t e =
    sym (ap is_some e) ∙ some_offer m kind old.view (machine_of old.applied.machine) before now refused refused_now (clients_in old) (clients_in mid) given t ∙ sym (ap is_some (offers_plain old))

pub idle_by : (m : Meaning) (kind : EngineKind) (before now : Option Told) (refused refused_now : ℕ) (old mid : Running) (given : Option Act) → Moved old mid → KeepsFiles old mid
    → TookTurn (call_of m kind before now) old.view (machine_of old.applied.machine) (clients_in old) refused refused_now (clients_in mid) given → given ≡ None
    → Answered before now (ExactOffer m kind (next_offer (clients_at (core_of old))) (core_of old) (core_of mid))
idle_by m kind before now refused refused_now old mid given is files t e =
    let x : WasIdle (clients_in old) before now (clients_in mid) = subst (TookTurn (call_of m kind before now) old.view (machine_of old.applied.machine) (clients_in old) refused refused_now (clients_in mid)) e t in
    subst (λ (o : Option Offer). Answered before now (ExactOffer m kind o (core_of old) (core_of mid))) (sym (offers_plain old ∙ x.none))
    (record { answers = []; told = told_none before now x.untold; by = (idle_core old mid is files x.rest, refl) })

-- ---- a query that is run later

resumed_core : (old mid : Running) (conn : ℕ) → Moved old mid → KeepsFiles old mid → clients_in mid ≡ freed (clients_in old) (clients_in mid).sessions (conn ∷ [])
    → core_of mid ≡ record (resuming conn (core_of old)) { sessions = plain_gate (clients_in mid).sessions }
unfolding core_of
resumed_core old mid conn is files rest = ap core_of is ∙ (λ i. record (core_of old) { files = files i; sessions = plain_gate (clients_in mid).sessions; streams = (rest i).streams; turns = (rest i).turns })

unmoved_core : (old mid : Running) → Moved old mid → KeepsFiles old mid → clients_in mid ≡ freed (clients_in old) (clients_in mid).sessions [] → (clients_in mid).sessions ≡ (clients_in old).sessions → core_of mid ≡ core_of old
unfolding core_of
unmoved_core old mid is files rest same =
    ap core_of is ∙ (λ i. record (core_of old) { files = files i; sessions = plain_gate (same i); streams = (rest i).streams; turns = (ap (λ (k : Clients). k.turns) rest ∙ append-nil (clients_in old).turns) i })

module _ (m : Meaning) (kind : EngineKind) (before now : Option Told) (refused refused_now : ℕ) (old mid : Running) (conn : ℕ) where
  abbrev Given : Option Statement → Option Act → Type 0
  Given query given = Resumes (call_of m kind before now) (scene old.view (machine_of old.applied.machine) (clients_in old).sessions conn) query refused refused_now (clients_in mid).sessions given

  ran_by : (new : Running) (act : Act) (statement : Statement) → later_query ((clients_in old).sessions.session conn).later ≡ Some statement → core_of mid ≡ record (resuming conn (core_of old)) { sessions = plain_gate (clients_in mid).sessions }
      → RanLater (call_of m kind before now) (scene old.view (machine_of old.applied.machine) (clients_in old).sessions conn) statement refused refused_now (clients_in mid).sessions act → ExactPerform act (core_of mid) (core_of new)
      → Answered before now (ExactWaitingQuery m kind conn (core_of old) (core_of new))
  unfolding core_of
  ran_by new act statement later is x done = record {
    answers = x.ran.answers;
    told = x.ran.told;
    by = record {
      gate = (clients_in old).sessions;
      plain = refl;
      statement = statement;
      later = later;
      allowed = x.ran.allowed;
      exact = x.ran.exact;
      to = turned conn old.view (without_later (clients_in old).sessions conn) (clients_in mid).sessions x.gateway_act act (resuming conn (core_of old)) (core_of new) (sym (without_plain (clients_in old).sessions conn)) refl
          (on_later old.view (machine_of old.applied.machine) (without_later (clients_in old).sessions conn) conn statement x.ran.answers) x.ran.is x.act_is
          (subst (λ (c : Core). ExactPerform act c (core_of new)) is done);
    };
  }

  as_resumed : (new : Running) → Answered before now (ExactWaitingQuery m kind conn (core_of old) (core_of new)) → Answered before now (ExactResume m kind conn (core_of old) (core_of new))
  as_resumed new a = record { answers = a.answers; told = a.told; by = inl a.by }

  by_query : (new : Running) (act : Act) (query : Option Statement) → later_query ((clients_in old).sessions.session conn).later ≡ query → core_of mid ≡ record (resuming conn (core_of old)) { sessions = plain_gate (clients_in mid).sessions }
      → Given query (Some act) → ExactPerform act (core_of mid) (core_of new) → Answered before now (ExactResume m kind conn (core_of old) (core_of new))
  by_query new act None later is x done = absurd x
  by_query new act (Some statement) later is x done = as_resumed new (ran_by new act statement later is x done)

  pub later_by : (new : Running) (act : Act) (given : Option Act) → Moved old mid → KeepsFiles old mid → Given (later_query ((clients_in old).sessions.session conn).later) given
      → clients_in mid ≡ freed (clients_in old) (clients_in mid).sessions (turn_for conn given) → given ≡ Some act → ExactPerform act (core_of mid) (core_of new) → Answered before now (ExactResume m kind conn (core_of old) (core_of new))
  later_by new act given is files x rest e done =
      by_query new act (later_query ((clients_in old).sessions.session conn).later) refl
      (resumed_core old mid conn is files (subst (λ (g : Option Act). clients_in mid ≡ freed (clients_in old) (clients_in mid).sessions (turn_for conn g)) e rest))
      (subst (Given (later_query ((clients_in old).sessions.session conn).later)) e x) done

  none_query : (query : Option Statement) → later_query ((clients_in old).sessions.session conn).later ≡ query → Moved old mid → KeepsFiles old mid → clients_in mid ≡ freed (clients_in old) (clients_in mid).sessions [] → Given query None
      → Answered before now (ExactResume m kind conn (core_of old) (core_of mid))
  unfolding core_of
  none_query None later is files rest x = record { answers = []; told = told_none before now (sym x.1); by = inr (later, (unmoved_core old mid is files rest x.0, refl)) }
  none_query (Some statement) later is files rest x = absurd x

  pub no_later : (given : Option Act) → Moved old mid → KeepsFiles old mid → Given (later_query ((clients_in old).sessions.session conn).later) given
      → clients_in mid ≡ freed (clients_in old) (clients_in mid).sessions (turn_for conn given) → given ≡ None → Answered before now (ExactResume m kind conn (core_of old) (core_of mid))
  no_later given is files x rest e =
      none_query (later_query ((clients_in old).sessions.session conn).later) refl is files
      (subst (λ (g : Option Act). clients_in mid ≡ freed (clients_in old) (clients_in mid).sessions (turn_for conn g)) e rest)
      (subst (Given (later_query ((clients_in old).sessions.session conn).later)) e x)

-- ---- a query whose barrier is applied

first_is_due : (g : Gateway) (conns : List ℕ) (conn : ℕ) → first_due_in g conns ≡ Some conn → is_due (g.session conn).later ≡ true
first_is_due g [] conn e = absurd cc
first_is_due g (other ∷ conns) conn e = by (is_due (g.session other).later) refl (λ rest. first_is_due g conns conn rest)
  where
    by : (b : Bool) → is_due (g.session other).later ≡ b → (first_due_in g conns ≡ Some conn → is_due (g.session conn).later ≡ true) → is_due (g.session conn).later ≡ true
    by true d rest =
        let same : Some other ≡ Some conn = sym (cond-true (is_due (g.session other).later) (Some other) (first_due_in g conns) d) ∙ e in
        subst (λ (n : ℕ). is_due (g.session n).later ≡ true) (inside other conn same) d
      where
        inside : (a b : ℕ) → Some a ≡ Some b → a ≡ b
        inside a b same = cc
    by false d rest = rest (sym (cond-false (is_due (g.session other).later) (Some other) (first_due_in g conns) d) ∙ e)

no_query : (o : Option Later) → is_due o ≡ true → later_query o ≡ None → ⊥
no_query None d e = true≢false (sym d)
no_query (Some (Due statement)) d e = cc
no_query (Some (Lent statement)) d e = true≢false (sym d)

none_first : (g : Gateway) (conns : List ℕ) → ((conn : ℕ) → is_due (g.session conn).later ≡ false) → first_due_in g conns ≡ None
none_first g [] none = refl
none_first g (conn ∷ conns) none = cond-false (is_due (g.session conn).later) (Some conn) (first_due_in g conns) (none conn) ∙ none_first g conns none

due_core : (n : Running) → first_due (core_of n).sessions ≡ first_due (clients_in n).sessions
unfolding core_of
due_core n = due_plain (clients_in n).sessions

-- the session of a connection has a query exactly if its plain one has
later_core : (n : Running) (conn : ℕ) → ((core_of n).sessions.session conn).later ≡ ((clients_in n).sessions.session conn).later
unfolding core_of
later_core n conn = refl

pub first_found : (n : Running) (result : Option ℕ) (conn : ℕ) → MatchOption result ((other : ℕ) → is_due ((clients_in n).sessions.session other).later ≡ false) (λ other. first_due (clients_in n).sessions ≡ Some other) → result ≡ Some conn
    → first_due (core_of n).sessions ≡ Some conn
first_found n None conn found e = absurd cc
first_found n (Some other) conn found e = due_core n ∙ found ∙ e

pub none_found : (n : Running) (result : Option ℕ) → MatchOption result ((other : ℕ) → is_due ((clients_in n).sessions.session other).later ≡ false) (λ other. first_due (clients_in n).sessions ≡ Some other) → result ≡ None
    → first_due (core_of n).sessions ≡ None
none_found n None found e = due_core n ∙ none_first (clients_in n).sessions (clients_in n).sessions.conns found
none_found n (Some other) found e = absurd cc

pub due_by : (m : Meaning) (kind : EngineKind) (before now : Option Told) (old new : Running) (conn : ℕ) → first_due (core_of old).sessions ≡ Some conn → Answered before now (ExactResume m kind conn (core_of old) (core_of new))
    → Answered before now (ExactWaitingQueries m kind (first_due (core_of old).sessions) (core_of old) (core_of new))
due_by m kind before now old new conn first a =
    subst (λ (o : Option ℕ). Answered before now (ExactWaitingQueries m kind o (core_of old) (core_of new))) (sym first) (record { answers = a.answers; told = a.told; by = by a.by })
  where
    there : is_due ((core_of old).sessions.session conn).later ≡ true
    there = first_is_due (core_of old).sessions (core_of old).sessions.conns conn first

    by : ExactResume m kind conn (core_of old) (core_of new) a.answers → ExactWaitingQuery m kind conn (core_of old) (core_of new) a.answers
    by (inl x) = x
    by (inr x) = absurd (no_query ((core_of old).sessions.session conn).later there x.0)

pub none_due_by : (m : Meaning) (kind : EngineKind) (told : Option Told) (old : Running) → first_due (core_of old).sessions ≡ None
    → Answered told told (ExactWaitingQueries m kind (first_due (core_of old).sessions) (core_of old) (core_of old))
none_due_by m kind told old none =
    subst (λ (o : Option ℕ). Answered told told (ExactWaitingQueries m kind o (core_of old) (core_of old))) (sym none) (record { answers = []; told = tells_none told; by = (refl, refl) })

-- ---- connections

came_core : (old new : Running) (conn : ℕ) (how : ConnectResult) → clients_in new ≡ joined_as (clients_in old) conn how → new.outs.closed.items ≡ old.outs.closed.items ++ full_for conn how → new.outs.replies.items ≡ old.outs.replies.items
    → new ≡ record old { clients = new.clients; outs = new.outs } → core_of new ≡ joined_by how conn (core_of old)
unfolding core_of
came_core old new conn joinings.Joined joined closed said same =
    let j : clients_of new.clients old.applied.machine ≡ joined_as (clients_in old) conn joinings.Joined = sym (ap clients_in same) ∙ joined in
    ap core_of same
    ∙ (λ i. record (core_of old) {
      sessions = (ap (λ (k : Clients). plain_gate k.sessions) j ∙ connected_plain (clients_in old).sessions conn) i;
      streams = (j i).streams;
      turns = (j i).turns;
      closed = (closed ∙ append-nil old.outs.closed.items) i;
      replies = said i;
    })
came_core old new conn joinings.Full joined closed said same =
    let j : clients_of new.clients old.applied.machine ≡ clients_in old = sym (ap clients_in same) ∙ joined in
    ap core_of same ∙ (λ i. record (core_of old) { sessions = plain_gate (j i).sessions; streams = (j i).streams; turns = (j i).turns; closed = closed i; replies = said i })
came_core old new conn joinings.Taken joined closed said same =
    let j : clients_of new.clients old.applied.machine ≡ clients_in old = sym (ap clients_in same) ∙ joined in
    ap core_of same ∙ (λ i. record (core_of old) { sessions = plain_gate (j i).sessions; streams = (j i).streams; turns = (j i).turns; closed = (closed ∙ append-nil old.outs.closed.items) i; replies = said i })

how_core : (old : Running) (conn : ℕ) (how : ConnectResult) → how ≡ joining (clients_in old).sessions conn → how ≡ joining (core_of old).sessions conn
unfolding core_of
how_core old conn how is = is ∙ sym (joining_plain (clients_in old).sessions conn)

pub comes_exact : (old new : Running) (conn : ℕ) (how : ConnectResult) → clients_in new ≡ joined (clients_in old) conn → how ≡ joining (clients_in old).sessions conn → new.outs.closed.items ≡ old.outs.closed.items ++ full_for conn how
    → new.outs.replies.items ≡ old.outs.replies.items → new ≡ record old { clients = new.clients; outs = new.outs } → core_of new ≡ joined_by (joining (core_of old).sessions conn) conn (core_of old)
comes_exact old new conn how came told closed said same =
    came_core old new conn how (came ∙ ap (joined_as (clients_in old) conn) (sym told)) closed said same ∙ ap (λ (h : ConnectResult). joined_by h conn (core_of old)) (how_core old conn how told)

-- a node without peer connections has no connection that carries a peer's messages
links_core : (n : Running) → (core_of n).links ≡ [] → n.links.all.items ≡ []
unfolding core_of
links_core n e = e

none_carried : (links : List Link) (conn : ℕ) (has : Bool) → has ≡ is_some (link_on conn links) → links ≡ [] → has ≡ false
none_carried links conn has told none = told ∙ ap (λ (l : List Link). is_some (link_on conn l)) none

pub carried_exact : (n : Running) (conn : ℕ) (has : Bool) → has ≡ is_some (link_on conn n.links.all.items) → has ≡ true → (core_of n).links ≡ []
    → core_of n ≡ joined_by (joining (core_of n).sessions conn) conn (core_of n)
carried_exact n conn has told is links = absurd (true≢false (sym is ∙ none_carried n.links.all.items conn has told (links_core n links)))

-- bytes come on a client's connection
heard_core : (old new : Running) (conn : ℕ) (bytes : List ℕ) (o : Option Conn) → (clients_in old).streams conn ≡ o → clients_in new ≡ heard_on (clients_in old) conn bytes o → new ≡ record old { clients = new.clients; heard = Some conn }
    → core_of new ≡ heard_by o conn bytes (record (core_of old) { heard = Some conn })
unfolding core_of
heard_core old new conn bytes None at came same =
    let k : clients_of new.clients old.applied.machine ≡ heard_on (clients_in old) conn bytes None = sym (ap clients_in same) ∙ came in
    ap core_of same ∙ (λ i. record (core_of old) { heard = Some conn; sessions = plain_gate (k i).sessions; streams = (k i).streams; turns = (k i).turns })
heard_core old new conn bytes (Some stream) at came same =
    let k : clients_of new.clients old.applied.machine ≡ heard_on (clients_in old) conn bytes (Some stream) = sym (ap clients_in same) ∙ came in
    ap core_of same ∙ (λ i. record (core_of old) { heard = Some conn; sessions = plain_gate (k i).sessions; streams = (k i).streams; turns = (k i).turns })

heard_as : (k l : Clients) (conn : ℕ) (bytes : List ℕ) → l ≡ heard k conn bytes → l ≡ heard_on k conn bytes (k.streams conn)
unfolding heard
heard_as k l conn bytes is = is

hearing_is : (old new : Running) (conn : ℕ) (bytes : List ℕ) → core_of new ≡ heard_by ((clients_in old).streams conn) conn bytes (record (core_of old) { heard = Some conn }) → core_of new ≡ hearing conn bytes (core_of old)
unfolding core_of
hearing_is old new conn bytes is = is

pub hears_exact : (old new : Running) (conn : ℕ) (bytes : List ℕ) → clients_in new ≡ heard (clients_in old) conn bytes → new ≡ record old { clients = new.clients; heard = Some conn } → core_of new ≡ hearing conn bytes (core_of old)
hears_exact old new conn bytes came same =
    hearing_is old new conn bytes (heard_core old new conn bytes ((clients_in old).streams conn) refl (heard_as (clients_in old) (clients_in new) conn bytes came) same)

unheard_core : (old new : Running) (conn : ℕ) (bytes : List ℕ) → (clients_in old).streams conn ≡ None → new.links.all.items ≡ old.links.all.items → new ≡ record old { links = new.links; heard = Some conn }
    → core_of new ≡ hearing conn bytes (core_of old)
unfolding core_of
unheard_core old new conn bytes none links same =
    ap core_of same ∙ (λ i. record (core_of old) { heard = Some conn; links = links i }) ∙ sym (ap (λ (o : Option Conn). heard_by o conn bytes (record (core_of old) { heard = Some conn })) none)

not_open : (o : Option Conn) (is_open : Bool) → is_open ≡ not (is_none o) → is_open ≡ false → o ≡ None
not_open None is_open e f = refl
not_open (Some c) is_open e f = absurd (cc (e, f))

-- or on none that is a client's
pub unheard_exact : (old new : Running) (conn : ℕ) (bytes : List ℕ) (is_open : Bool) → is_open ≡ not (is_none ((clients_in old).streams conn)) → is_open ≡ false → (old.links.all.items ≡ [] → new.links.all.items ≡ [])
    → new ≡ record old { links = new.links; heard = Some conn } → (core_of old).links ≡ [] → core_of new ≡ hearing conn bytes (core_of old)
unheard_exact old new conn bytes is_open e f none same links =
    let l = links_core old links in
    unheard_core old new conn bytes (not_open ((clients_in old).streams conn) is_open e f) (none l ∙ sym l) same

-- a connection goes
gone_core : (old new : Running) (conn : ℕ) → clients_in new ≡ without (clients_in old) conn → KeepsFiles old new → new.links.all.items ≡ old.links.all.items
    → new ≡ record old { clients = new.clients; applied = record old.applied { machine = new.applied.machine }; links = new.links } → core_of new ≡ gone conn (core_of old)
unfolding core_of
gone_core old new conn left files links same =
    ap core_of same
    ∙ (λ i. record (core_of old) { files = files i; links = links i; sessions = (ap (λ (k : Clients). plain_gate k.sessions) left ∙ hangup_plain (clients_in old).sessions conn) i; streams = (left i).streams; turns = (left i).turns })

stood_core : (old new : Running) → clients_in new ≡ clients_in old → KeepsFiles old new → new.links.all.items ≡ old.links.all.items
    → new ≡ record old { clients = new.clients; applied = record old.applied { machine = new.applied.machine }; links = new.links } → core_of new ≡ core_of old
unfolding core_of
stood_core old new same files links is =
    ap core_of is ∙ (λ i. record (core_of old) { files = files i; links = links i; sessions = plain_gate (same i).sessions; streams = (same i).streams; turns = (same i).turns })

hung_core : (old new : Running) (conn : ℕ) (o : Option Conn) → clients_in new ≡ cond (is_none o) (clients_in old) (without (clients_in old) conn) → KeepsFiles old new → new.links.all.items ≡ old.links.all.items
    → new ≡ record old { clients = new.clients; applied = record old.applied { machine = new.applied.machine }; links = new.links } → core_of new ≡ gone_by o conn (core_of old)
hung_core old new conn None left files links same = stood_core old new left files links same
hung_core old new conn (Some stream) left files links same = gone_core old new conn left files links same

hung_as : (k l : Clients) (conn : ℕ) → l ≡ hung_up k conn → l ≡ cond (is_none (k.streams conn)) k (without k conn)
unfolding hung_up
hung_as k l conn is = is

hanging_is : (old new : Running) (conn : ℕ) → core_of new ≡ gone_by ((clients_in old).streams conn) conn (core_of old) → core_of new ≡ hanging_up conn (core_of old)
unfolding core_of
hanging_is old new conn is = is

pub hangs_exact : (old new : Running) (conn : ℕ) → clients_in new ≡ hung_up (clients_in old) conn → KeepsFiles old new → (old.links.all.items ≡ [] → new.links.all.items ≡ [])
    → new ≡ record old { clients = new.clients; applied = record old.applied { machine = new.applied.machine }; links = new.links } → (core_of old).links ≡ [] → core_of new ≡ hanging_up conn (core_of old)
hangs_exact old new conn left files none same links =
    let l = links_core old links in
    hanging_is old new conn (hung_core old new conn ((clients_in old).streams conn) (hung_as (clients_in old) (clients_in new) conn left) files (none l ∙ sym l) same)

-- ---- the close at the end

closed_as : (k l : Clients) (conn : ℕ) (reason : Option CloseReason) → l ≡ closed k conn → reason ≡ closing (k.streams conn) → l ≡ cond (is_none reason) k (without k conn)
unfolding closed
closed_as k l conn reason is told = is ∙ ap (λ (o : Option CloseReason). cond (is_none o) k (without k conn)) (sym told)

with_links : (old new : Running) → new ≡ record old { clients = new.clients; applied = record old.applied { machine = new.applied.machine } }
    → new ≡ record old { clients = new.clients; applied = record old.applied { machine = new.applied.machine }; links = new.links }
with_links old new same = same ∙ (λ i. record old { clients = new.clients; applied = record old.applied { machine = new.applied.machine }; links = sym (ap (λ (n : Running). n.links) same) i })

closed_core : (old new : Running) (conn : ℕ) (reason : Option CloseReason) → clients_in new ≡ cond (is_none reason) (clients_in old) (without (clients_in old) conn) → KeepsFiles old new
    → new ≡ record old { clients = new.clients; applied = record old.applied { machine = new.applied.machine } } → core_of new ≡ gone_for reason conn (core_of old)
closed_core old new conn None left files same = stood_core old new left files (ap (λ (n : Running). n.links.all.items) same) (with_links old new same)
closed_core old new conn (Some reason) left files same = gone_core old new conn left files (ap (λ (n : Running). n.links.all.items) same) (with_links old new same)

why_core : (old : Running) (conn : ℕ) (reason : Option CloseReason) → reason ≡ closing ((clients_in old).streams conn) → reason ≡ closing ((core_of old).streams conn)
unfolding core_of
why_core old conn reason told = told

pub closes_exact : (old new : Running) (conn : ℕ) (reason : Option CloseReason) → clients_in new ≡ closed (clients_in old) conn → reason ≡ closing ((clients_in old).streams conn) → KeepsFiles old new
    → new ≡ record old { clients = new.clients; applied = record old.applied { machine = new.applied.machine } } → ExactClose conn reason (core_of old) (core_of new)
closes_exact old new conn reason left told files same = record {
  why = why_core old conn reason told;
  by = closed_core old new conn reason (closed_as (clients_in old) (clients_in new) conn reason left told) files same;
}

pub link_exact : (old new : Running) (conn : ℕ) (reason : Option CloseReason) (has : Bool) → has ≡ is_some (link_on conn old.links.all.items) → has ≡ true → (core_of old).links ≡ []
    → ExactClose conn reason (core_of old) (core_of new)
link_exact old new conn reason has told is links = absurd (true≢false (sym is ∙ none_carried old.links.all.items conn has told (links_core old links)))

-- what was closed is said
closed_said : (conn : ℕ) (w mid v : Core) (reason why : Option CloseReason) → reason ≡ why → mid ≡ gone_for reason conn w → v ≡ record mid { closed = mid.closed ++ close_of conn reason } → v ≡ closed_for why conn w
closed_said conn w mid v reason None is by said =
    let e = said ∙ (λ i. record (by i) { closed = (by i).closed ++ close_of conn reason }) ∙ ap (λ (r : Option CloseReason). record (gone_for r conn w) { closed = (gone_for r conn w).closed ++ close_of conn r }) is in
    e ∙ ap (λ (c : List (ℕ × CloseReason)). record w { closed = c }) (append-nil w.closed)
closed_said conn w mid v reason (Some why) is by said =
    said ∙ (λ i. record (by i) { closed = (by i).closed ++ close_of conn reason }) ∙ ap (λ (r : Option CloseReason). record (gone_for r conn w) { closed = (gone_for r conn w).closed ++ close_of conn r }) is

unheard : (old : Running) → core_of (record old { heard = None }) ≡ record (core_of old) { heard = None }
unfolding core_of
unheard old = refl

same_streams : (old : Running) (conn : ℕ) → (core_of (record old { heard = None })).streams conn ≡ (core_of old).streams conn
unfolding core_of
same_streams old conn = refl

same_links : (old : Running) → (core_of old).links ≡ [] → (core_of (record old { heard = None })).links ≡ []
unfolding core_of
same_links old e = e

said_core : (mid new : Running) (conn : ℕ) (reason : Option CloseReason) → new.outs.closed.items ≡ mid.outs.closed.items ++ close_of conn reason → new.outs.replies.items ≡ mid.outs.replies.items → new ≡ record mid { outs = new.outs }
    → core_of new ≡ record (core_of mid) { closed = (core_of mid).closed ++ close_of conn reason }
unfolding core_of
said_core mid new conn reason closed said same = ap core_of same ∙ (λ i. record (core_of mid) { closed = closed i; replies = said i })

heard_is : (n : Running) → (core_of n).heard ≡ n.heard
unfolding core_of
heard_is n = refl

pub heard_closes : (old mid new : Running) (conn : ℕ) (reason : Option CloseReason) → old.heard ≡ Some conn
    → ((core_of (record old { heard = None })).links ≡ [] → ExactClose conn reason (core_of (record old { heard = None })) (core_of mid))
    → new.outs.closed.items ≡ mid.outs.closed.items ++ close_of conn reason → new.outs.replies.items ≡ mid.outs.replies.items → new ≡ record mid { outs = new.outs }
    → (core_of old).links ≡ [] → OnHeard (core_of old).heard (core_of old) (core_of new) true
heard_closes old mid new conn reason was closes closed said same links =
    let x = closes (same_links old links) in
    subst (λ (o : Option ℕ). OnHeard o (core_of old) (core_of new) true) (sym (heard_is old ∙ was)) (
      closed_said conn (record (core_of old) { heard = None }) (core_of mid) (core_of new) reason (closing ((core_of old).streams conn)) (x.why ∙ ap closing (same_streams old conn))
          (x.by ∙ ap (gone_for reason conn) (unheard old)) (said_core mid new conn reason closed said same),
      refl,
    )

pub none_heard : (n : Running) → n.heard ≡ None → (core_of n).links ≡ [] → OnHeard (core_of n).heard (core_of n) (core_of n) false
none_heard n none links = subst (λ (o : Option ℕ). OnHeard o (core_of n) (core_of n) false) (sym (heard_is n ∙ none)) (refl, refl)
