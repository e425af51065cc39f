-- What holds of the leadership between two turns, turn by turn.
use Rattle.std.proofs.Common.{◌≡◌, inl, inr, ⊎_elim, ℕ, Bool, true, false, true≢false, List, [], ◌++◌, Option, Some, None, Result, Ok, Err, refl, sym, ap, subst, ◌∙◌}
use Rattle.std.specs.Prelude.{◌&&◌, not, is_none}
use Rattle.std.proofs.lemmas.Bool.{cond_both, cond-true, cond-false}
use Rattle.wire_msgs.specs.declared.fault.MsgFault.{MsgFault}
use Rattle.wire_msgs.specs.declared.request.Request.{Request}
use Rattle.wire_msgs.specs.Reading.{request_of}
use Rattle.sql_engine.specs.declared.kind.EngineKind.{EngineKind}
use Rattle.sql_engine.specs.Meanings.{Meaning, Told}
use Rattle.sql_engine.specs.Replies.{Statement}
use Rattle.database_state.specs.Machines.{IsMachine}
use Rattle.session_spec.specs.Asking.{Asked, Never, Tells, Sets, Opens, Creates, Prepares, Drops, Forgets, Begins, Commits, RollsBack, Changes, Runs, Reads as ReadsRows, asked}
use Rattle.session_spec.specs.Engines.{Answer}
use Rattle.session_spec.specs.Events.{tidy, is_committing, still_lent, loses, lost, on_lost, connects, connected}
use Rattle.session_spec.specs.Machine.{Machine, machine_of}
use Rattle.session_spec.specs.Requests.{with_tx, with_flight, with_later, with_lost, with_statements, with_session, without_later, affected_by, does, on_request, on_later, run_in}
use Rattle.session_spec.specs.Causes.{NotLeader}
use Rattle.session_spec.specs.Sessions.{Prepared, Transaction, Session, Gateway, View, absent, Effect, HandsOver, JoinsPeer, Weighs, Turned, Refused, later_query}
use Rattle.session_safety.proofs.Asks.{IsIdle, request_idle}
use Rattle.raft_spec.specs.Log.{Entry}
use Rattle.raft_spec.specs.Node.{is_leader}
use Rattle.raft_spec.specs.NodeValues.{NodeValue}
use Rattle.client_sessions.specs.declared.act.Act.{Act}
use Rattle.client_sessions.specs.Calls.{TookOffer, WasIdle, TookTurn, call_of, scene}
use Rattle.client_sessions.specs.Clients.{Clients, freed}
use Rattle.client_sessions.specs.Later.{turn_for, Resumes as ResumesBy}
use Rattle.applied_state.specs.declared.leadership.Leadership.{Leadership}
use Rattle.raft_on_disk.specs.Replicas.{ReplicaValue, kept_of}
use Rattle.node_spec.specs.Accounts.{Moment}
use Rattle.node_spec.specs.ClientTurns.{Stays, Connects, HangsUp, Hears, Applies, Resumes, Reads}
use Rattle.node_spec.specs.RaftTurns.{HasEnded}
use Rattle.node_spec.specs.Turns.{KeepsRaft, view_at, gate_after, due_by, Handles}
use Rattle.node_spec.proofs.EndedSessions.{ends_on_holds}
use Rattle.node_core.specs.declared.running.Running.{Running}
use Rattle.node_core.specs.Account.{proposals_in, moment_of}
use Rattle.node_core.specs.Acts.{proposals_by}
use Rattle.node_core.specs.Performing.{Performed, MayConnect, MayClose, ClosesIfEnded, ReceivesBytes, DeliversRead}
use Rattle.node_core.specs.Values.{clients_in}
use Rattle.node_core.specs.Whole.{InOffice, LeadsInOffice, ServesLast, IsFree, IsGoing, IsLed}
use Rattle.node_core.proofs.Bridges.{took_handles, took_stays, ran_resumes}
use Rattle.node_core.proofs.ClientTurns.{serving_leads, sees_itself, gone, acting}

-- ---- a node that doesn't serve

session_at : (g : Gateway) → on_lost g ≡ g → (conn : ℕ) → lost (g.session conn) ≡ g.session conn
unfolding on_lost tidy
session_at g e conn = ap (λ (z : Gateway). z.session conn) e

weighed : (g : Gateway) (weight : _) → on_lost g ≡ g → on_lost (record { conns = g.conns; session = g.session; weight = weight }) ≡ record { conns = g.conns; session = g.session; weight = weight }
unfolding on_lost tidy
weighed g weight e = ap (λ (z : Gateway). record { conns = z.conns; session = z.session; weight = weight }) e

abbrev over : Session → Session
over s = with_lost (with_later (with_flight (with_tx s None) None) (still_lent s.later)) (loses s)

-- what of a session may be others where nothing is open
settled_with : (s : Session) (f : Session → Session) → ((z : Session) → (f z).hung ≡ z.hung) → ((z : Session) → over (f z) ≡ f (over z)) → lost s ≡ s → lost (f s) ≡ f s
settled_with s f hung same e = by s.hung refl
  where
    by : (b : Bool) → s.hung ≡ b → lost (f s) ≡ f s
    by true h = absurd (true≢false (sym h ∙ ap (λ (z : Session). z.hung) (sym e ∙ cond-true s.hung absent (over s) h)))
    by false h = cond-false (f s).hung absent (over (f s)) (hung s ∙ h) ∙ same s ∙ ap f (sym (cond-false s.hung absent (over s) h) ∙ e)

statements_settled : (s : Session) (statements : List (Option Prepared)) → lost s ≡ s → lost (with_statements s statements) ≡ with_statements s statements
statements_settled s statements e = settled_with s (λ z. with_statements z statements) (λ z. refl) (λ z. refl) e

forgets_settled : (s : Session) → lost s ≡ s → lost (with_lost s false) ≡ with_lost s false
forgets_settled s e = by s.hung refl
  where
    by : (b : Bool) → s.hung ≡ b → lost (with_lost s false) ≡ with_lost s false
    by true h = absurd (true≢false (sym h ∙ ap (λ (z : Session). z.hung) (sym e ∙ cond-true s.hung absent (over s) h)))
    by false h =
        let stays : over s ≡ s = sym (cond-false s.hung absent (over s) h) ∙ e in
        let none : s.tx ≡ None = sym (ap (λ (z : Session). z.tx) stays) in
        cond-false s.hung absent (over (with_lost s false)) h
        ∙ ap (with_lost (with_later (with_flight (with_tx s None) None) (still_lent s.later))) (ap (λ (o : Option Transaction). not (is_none o) && not (is_committing s.flight)) none)
        ∙ ap (λ (z : Session). with_lost z false) stays

later_settled : (s : Session) → lost s ≡ s → lost (with_later s None) ≡ with_later s None
later_settled s e = settled_with s (λ z. with_later z None) (λ z. refl) (λ z. refl) e

ended_without : (g : Gateway) (conn : ℕ) → HasEnded g → HasEnded (without_later g conn)
ended_without g conn h = ends_on_holds.session g conn (with_later (g.session conn) None) h (later_settled (g.session conn) (session_at g h.ended conn)) refl

abbrev Ends : Gateway → ℕ → ℕ → Turned → Type 0
Ends g conn term t = HasEnded (gate_after g conn t) × (due_by term t ≡ [])

affected : (g : Gateway) (effect : Effect) → HasEnded g → HasEnded (affected_by g effect)
affected g (HandsOver id) h = h
affected g (JoinsPeer id) h = h
affected g (Weighs weight) h = ends_on_holds.tells (affected_by g (Weighs weight)) (weighed g weight h.ended)

module _ (v : View) (m : Machine) (g : Gateway) (conn : ℕ) (term : ℕ) (h : HasEnded g) where
  kept : (s : Session) → lost s ≡ s → s.there ≡ (g.session conn).there → HasEnded (with_session g conn s)
  kept s e there = ends_on_holds.session g conn s h e there

  own : lost (g.session conn) ≡ g.session conn
  own = session_at g h.ended conn

  idle_ends : (x : Asked) (answers : List Answer) → IsIdle x → Ends g conn term (does v m g conn (g.session conn) x answers)
  unfolding does
  idle_ends (Never cause) answers i = (h, refl)
  idle_ends (Tells response) answers i = (kept (g.session conn) own refl, refl)
  idle_ends (Sets effect) answers i = (affected g effect h, refl)
  idle_ends (Opens name barriers) answers i = absurd i
  idle_ends (Creates name barriers) answers i = absurd i
  idle_ends (Prepares p tail) answers i = absurd i
  idle_ends (Drops id) answers i = (kept (with_statements (g.session conn) _) (statements_settled (g.session conn) _ own) refl, refl)
  idle_ends (Forgets response) answers i = (kept (with_lost (g.session conn) false) (forgets_settled (g.session conn) own) refl, refl)
  idle_ends (Begins at_once) answers i = absurd i
  idle_ends Commits answers i = absurd i
  idle_ends RollsBack answers i = absurd i
  idle_ends (Changes servers short) answers i = absurd i
  idle_ends (Runs ss) answers i = absurd i
  idle_ends (ReadsRows statement) answers i = absurd i

  request_ends : (request : Request) (answers : List Answer) → v.serving ≡ false → Ends g conn term (on_request v m g conn request answers)
  unfolding on_request
  request_ends request answers off = idle_ends (asked v m g conn request) answers (request_idle v m g conn (g.session conn) off request)

  later_ends : (statement : Statement) (answers : List Answer) → v.serving ≡ false → Ends g conn term (on_later v m g conn statement answers)
  unfolding on_later
  later_ends statement answers off = subst (Ends g conn term) (sym (cond-false v.serving (run_in v m g conn (g.session conn) (g.session conn).tx _ true answers) (Refused NotLeader) off)) (h, refl)

-- ---- moments

abbrev Free : Moment → Type 0
Free a = HasEnded a.node.sessions × (a.due ≡ [])

handled_free : (m : Meaning) (kind : EngineKind) (a b : Moment) (conn : ℕ) (request : Request) (replies : List _) → Handles m kind a b conn request replies → a.node.serving ≡ false → HasEnded a.node.sessions → Free b
handled_free m kind a b conn request replies x off h =
    let e = subst (Ends a.node.sessions conn a.node.raft.term) x.is (request_ends (view_at a x.standing) (machine_of a.node.machine) a.node.sessions conn a.node.raft.term h request x.answers off) in
    (subst HasEnded (sym x.sessions) e.0, x.due ∙ e.1)

resumed_free : (m : Meaning) (kind : EngineKind) (a b : Moment) (conn : ℕ) (replies : List _) → Resumes m kind a b conn replies → a.node.serving ≡ false → HasEnded a.node.sessions → Free b
resumed_free m kind a b conn replies x off h =
    let e = subst (Ends (without_later a.node.sessions conn) conn a.node.raft.term) x.is
    (later_ends (view_at a x.standing) (machine_of a.node.machine) (without_later a.node.sessions conn) conn a.node.raft.term (ended_without a.node.sessions conn h) x.statement x.answers off) in
    (subst HasEnded (sym x.sessions) e.0, x.due ∙ e.1)

free_stays : (o : Option Leadership) (a b : Moment) → Stays a b → IsFree o a → IsFree o b
free_stays None a b x f = (subst HasEnded (sym x.sessions) f.0, x.same.due ∙ f.1)
free_stays (Some office) a b x f = tt

free_connects : (o : Option Leadership) (a b : Moment) (conn : ℕ) → Connects a b conn → IsFree o a → IsFree o b
free_connects None a b conn x f =
    (subst HasEnded (sym x.sessions) (cond_both (connects a.node.sessions conn) (connected a.node.sessions conn) a.node.sessions HasEnded (λ e. ends_on_holds.joined a.node.sessions conn f.0) (λ e. f.0)), x.same.due ∙ f.1)
free_connects (Some office) a b conn x f = tt

free_hangs : (o : Option Leadership) (a b : Moment) (conn : ℕ) → HangsUp a b conn → IsFree o a → IsFree o b
free_hangs None a b conn x f = (subst HasEnded (sym x.sessions) (ends_on_holds.gone a.node.sessions conn f.0), x.due ∙ f.1)
free_hangs (Some office) a b conn x f = tt

free_hears : (o : Option Leadership) (a b : Moment) (asks : ℕ → List Request) → Hears a b asks → IsFree o a → IsFree o b
free_hears None a b asks x f = (subst HasEnded (sym x.sessions) f.0, x.due ∙ f.1)
free_hears (Some office) a b asks x f = tt

free_reads : (o : Option Leadership) (a b : Moment) (conn : ℕ) → Reads a b conn → IsFree o a → IsFree o b
free_reads None a b conn x f = (subst HasEnded (sym x.sessions) (ended_without a.node.sessions conn f.0), x.same.due ∙ f.1)
free_reads (Some office) a b conn x f = tt

free_applies : (o : Option Leadership) (a b : Moment) (replies : List _) → Applies a b replies → IsFree o a → IsFree o b
free_applies None a b replies x f = (subst HasEnded (sym x.sessions) (ends_on_holds.applied _ a.node.sessions f.0), x.same.due ∙ f.1)
free_applies (Some office) a b replies x f = tt

-- ---- nodes

-- the leadership stays, and so do Raft's part and service
pub led_by : (old new : Running) → IsLed old → new.office ≡ old.office → new.replica.raft ≡ old.replica.raft → new.view.serving ≡ old.view.serving → IsFree old.office (moment_of new) → IsLed new
led_by old new led office raft serving free = record {
  leads = subst (λ (o : Option Leadership). LeadsInOffice o new.replica.raft) (sym office) (subst (LeadsInOffice old.office) (sym raft) led.leads);
  serves = subst (λ (o : Option Leadership). ServesLast o new.view.serving) (sym office) (subst (ServesLast old.office) (sym serving) led.serves);
  free = subst (λ (o : Option Leadership). IsFree o (moment_of new)) (sym office) free;
}

-- only what the rules don't see has changed
pub led_same : (old new : Running) → IsLed old → new.office ≡ old.office → moment_of new ≡ moment_of old → IsLed new
led_same old new led office same =
    led_by old new led office (ap (λ (a : Moment). a.node.raft) same) (ap (λ (a : Moment). a.node.serving) same) (subst (IsFree old.office) (sym same) led.free)

pub led_stays : (old new : Running) → IsLed old → new.office ≡ old.office → Stays (moment_of old) (moment_of new) → IsLed new
led_stays old new led office x = led_by old new led office x.rest.raft x.rest.serving (free_stays old.office (moment_of old) (moment_of new) x led.free)

pub led_comes : (old new : Running) (conn : ℕ) → IsLed old → new.office ≡ old.office → MayConnect old new conn → IsLed new
led_comes old new conn led office (inl x) = led_stays old new led office x
led_comes old new conn led office (inr x) = led_by old new led office x.rest.raft x.rest.serving (free_connects old.office (moment_of old) (moment_of new) conn x led.free)

pub led_goes : (old new : Running) (conn : ℕ) → IsLed old → new.office ≡ old.office → MayClose old new conn → IsLed new
led_goes old new conn led office (inl x) = led_stays old new led office x
led_goes old new conn led office (inr x) = led_by old new led office x.rest.raft x.rest.serving (free_hangs old.office (moment_of old) (moment_of new) conn x led.free)

pub led_closes : (old new : Running) → IsLed old → new.office ≡ old.office → ClosesIfEnded old new → IsLed new
led_closes old new led office (inl x) = led_stays old new led office x
led_closes old new led office (inr x) = led_goes old new x.0 led office x.1.1

pub led_hears : (old new : Running) (conn : ℕ) (bytes : List ℕ) → IsLed old → new.office ≡ old.office → ReceivesBytes old new conn bytes → IsLed new
led_hears old new conn bytes led office x = led_by old new led office x.1.rest.raft x.1.rest.serving (free_hears old.office (moment_of old) (moment_of new) x.0 x.1 led.free)

pub led_reads : (old new : Running) (conn : ℕ) (told : Option _) → IsLed old → new.office ≡ old.office → DeliversRead old new conn told → IsLed new
led_reads old new conn told led office (inl x) = led_stays old new led office x.0
led_reads old new conn told led office (inr x) = led_by old new led office x.1.1.0.rest.raft x.1.1.0.rest.serving (free_reads old.office (moment_of old) (moment_of new) conn x.1.1.0 led.free)

pub led_applies : (old new : Running) (replies : List _) → IsLed old → new.office ≡ old.office → new.replica ≡ old.replica → Applies (moment_of old) (moment_of new) replies → IsLed new
led_applies old new replies led office replica x =
    led_by old new led office (ap (λ (r : ReplicaValue). r.raft) replica) x.serving (free_applies old.office (moment_of old) (moment_of new) replies x led.free)

-- which jobs are out has no part in it
pub led_lent : (old mid : Running) → IsLed old → mid ≡ record old { lent = mid.lent; view = record old.view { readers = mid.view.readers } } → IsLed mid
led_lent old mid led is = led_same old mid led (ap (λ (n : Running). n.office) is) (ap moment_of is)

-- ---- a client's message, and a query that is run later

unserved_in : (o : Option Leadership) (serving : Bool) (h : NodeValue) → InOffice o serving h → o ≡ None → serving ≡ false
unserved_in None serving h g e = g
unserved_in (Some office) serving h g e = absurd cc

by_office : (o : Option Leadership) (b : Moment) → (o ≡ None → Free b) → IsFree o b
by_office None b f = f refl
by_office (Some office) b f = tt

module _ (m : Meaning) (kind : EngineKind) (old mid : Running) (going : IsGoing old) (led : IsLed old) (idle : old.due.items ≡ [])
    (is : mid ≡ record old { clients = mid.clients; applied = record old.applied { machine = mid.applied.machine } })
    (machine : IsMachine mid.applied.machine) (files : machine_of mid.applied.machine ≡ machine_of old.applied.machine) where
  office : mid.office ≡ old.office
  office = ap (λ (n : Running). n.office) is

  keeps : (due : List (List Entry)) → KeepsRaft (moment_of old) (record { node = (moment_of mid).node; applied = (moment_of mid).applied; due = due })
  keeps due = record {
    raft = ap (λ (n : Running). n.replica.raft) is;
    kept = ap (λ (n : Running). (moment_of n).node.kept) is;
    applied = ap (λ (n : Running). n.applied.index) is;
    serving = ap (λ (n : Running). n.view.serving) is;
    machine = machine;
    files = files;
  }

  none_due : proposals_in old.due.items ≡ []
  none_due = ap proposals_in idle

  leads : old.view.serving ≡ true → is_leader old.replica.raft.role ≡ true
  leads = serving_leads old.office old.view.serving old.replica.raft going.office

  ended : old.office ≡ None → HasEnded (clients_in old).sessions
  ended e = (subst (λ (o : Option Leadership). IsFree o (moment_of old)) e led.free).0

  off : old.office ≡ None → old.view.serving ≡ false
  off e = unserved_in old.office old.view.serving old.replica.raft going.office e

  -- the act is done
  done_free : (new : Running) (act : Act) → Performed mid new act → IsFree old.office (acting mid act) → IsLed new
  done_free new act done free =
      let rest : KeepsRaft (acting mid act) (moment_of new) = record {
        raft = ap (λ (r : ReplicaValue). r.raft) done.replica;
        kept = ap kept_of done.replica;
        applied = done.index;
        serving = done.serving;
        machine = done.machine;
        files = done.files;
      } in
      let due : (moment_of new).due ≡ proposals_by act = done.due ∙ ap (λ (l : List (List Entry)). l ++ proposals_by act) (ap (λ (n : Running). proposals_in n.due.items) is ∙ none_due) in
      let went = gone act (acting mid act) (moment_of new) (clients_in mid) (clients_in new) (record { sessions = refl; waiting = λ conn. refl }) (record { sessions = refl; waiting = λ conn. refl }) rest due done.clients in
      led_by old new led (done.office ∙ office) (ap (λ (r : ReplicaValue). r.raft) (done.replica ∙ ap (λ (n : Running). n.replica) is)) (done.serving ∙ ap (λ (n : Running). n.view.serving) is)
      (⊎_elim
      (λ (x : Stays (acting mid act) (moment_of new)). free_stays old.office (acting mid act) (moment_of new) x free)
      (λ (x : (conn : ℕ) × HangsUp (acting mid act) (moment_of new) conn). free_hangs old.office (acting mid act) (moment_of new) x.0 x.1 free)
      went)

  module _ (before now : Option Told) (refused refused_now : ℕ) (act : Act) where
    took_free : (x : TookOffer (call_of m kind before now) old.view (machine_of old.applied.machine) (clients_in old) refused refused_now (clients_in mid) act) (r : Result Request MsgFault) → request_of x.offer.message ≡ r → old.office ≡ None → Free (acting mid act)
    took_free x (Ok request) reads e =
        let h = took_handles m kind (moment_of old) (acting mid act) (clients_in old) (clients_in mid) old.view before now refused refused_now act (record { sessions = refl; waiting = λ conn. refl }) (record { sessions = refl; waiting = λ conn. refl })
        (keeps (proposals_by act)) (sees_itself old going) going.holds.clients.sound leads none_due refl x request reads in
        handled_free m kind (moment_of old) (acting mid act) x.offer.conn request h.0 h.1 (off e) (ended e)
    took_free x (Err fault) reads e =
        let s = took_stays m kind (moment_of old) (moment_of mid) (clients_in old) (clients_in mid) old.view before now refused refused_now act (record { sessions = refl; waiting = λ conn. refl }) (record { sessions = refl; waiting = λ conn. refl })
        (keeps (proposals_in mid.due.items)) (ap (λ (n : Running). proposals_in n.due.items) is) x fault reads in
        (subst HasEnded (sym s.0.sessions) (ended e), ap proposals_by s.1)

    took_given : (new : Running) → TookOffer (call_of m kind before now) old.view (machine_of old.applied.machine) (clients_in old) refused refused_now (clients_in mid) act → Performed mid new act → IsLed new
    took_given new x done = done_free new act done (by_office old.office (acting mid act) (took_free x (request_of x.offer.message) refl))

    pub took_led : (new : Running) (result : Option Act) → TookTurn (call_of m kind before now) old.view (machine_of old.applied.machine) (clients_in old) refused refused_now (clients_in mid) result → result ≡ Some act → Performed mid new act → IsLed new
    took_led new result t e done =
        took_given new (subst (λ (r : Option Act). TookTurn (call_of m kind before now) old.view (machine_of old.applied.machine) (clients_in old) refused refused_now (clients_in mid) r) e t) done

    by_query : (new : Running) (conn : ℕ) (query : Option Statement) → later_query ((clients_in old).sessions.session conn).later ≡ query → ((other : ℕ) → (clients_in mid).streams other ≡ (clients_in old).streams other)
        → ResumesBy (call_of m kind before now) (scene old.view (machine_of old.applied.machine) (clients_in old).sessions conn) query refused refused_now (clients_in mid).sessions (Some act) → Performed mid new act → IsLed new
    by_query new conn None later streams r done = absurd r
    by_query new conn (Some statement) later streams r done = done_free new act done (by_office old.office (acting mid act) (λ e.
        let h = ran_resumes m kind (moment_of old) (acting mid act) (clients_in old) (clients_in mid) old.view before now refused refused_now act conn statement (record { sessions = refl; waiting = λ other. refl }) (record { sessions = refl; waiting = λ other. refl })
        streams (keeps (proposals_by act)) (sees_itself old going) leads none_due refl later r in
        resumed_free m kind (moment_of old) (acting mid act) conn h.0 h.1 (off e) (ended e)))

    pub ran_led : (new : Running) (conn : ℕ) (result : Option Act) → ResumesBy (call_of m kind before now) (scene old.view (machine_of old.applied.machine) (clients_in old).sessions conn) (later_query ((clients_in old).sessions.session conn).later) refused refused_now (clients_in mid).sessions result
        → clients_in mid ≡ freed (clients_in old) (clients_in mid).sessions (turn_for conn result) → result ≡ Some act → Performed mid new act → IsLed new
    ran_led new conn result r rest e done =
        by_query new conn (later_query ((clients_in old).sessions.session conn).later) refl (λ other. ap (λ (k : Clients). k.streams other) rest)
        (subst (λ (x : Option Act). ResumesBy (call_of m kind before now) (scene old.view (machine_of old.applied.machine) (clients_in old).sessions conn) (later_query ((clients_in old).sessions.session conn).later) refused refused_now (clients_in mid).sessions x) e r) done

  -- nothing was done
  module _ (before now : Option Told) (refused refused_now : ℕ) where
    unchanged : (clients_in mid).sessions ≡ (clients_in old).sessions → IsLed mid
    unchanged same =
        led_by old mid led office (ap (λ (n : Running). n.replica.raft) is) (ap (λ (n : Running). n.view.serving) is)
        (by_office old.office (moment_of mid) (λ e. (subst HasEnded (sym same) (ended e), ap (λ (n : Running). proposals_in n.due.items) is ∙ none_due)))

    pub idle_sessions : (result : Option Act) → TookTurn (call_of m kind before now) old.view (machine_of old.applied.machine) (clients_in old) refused refused_now (clients_in mid) result → result ≡ None → (clients_in mid).sessions ≡ (clients_in old).sessions
    idle_sessions result t e =
        let idle : WasIdle (clients_in old) before now (clients_in mid) = subst (λ (r : Option Act). TookTurn (call_of m kind before now) old.view (machine_of old.applied.machine) (clients_in old) refused refused_now (clients_in mid) r) e t in
        ap (λ (k : Clients). k.sessions) idle.rest

    pub idle_led : (result : Option Act) → TookTurn (call_of m kind before now) old.view (machine_of old.applied.machine) (clients_in old) refused refused_now (clients_in mid) result → result ≡ None → IsLed mid
    idle_led result t e = unchanged (idle_sessions result t e)

    none_by : (conn : ℕ) (query : Option Statement) → ResumesBy (call_of m kind before now) (scene old.view (machine_of old.applied.machine) (clients_in old).sessions conn) query refused refused_now (clients_in mid).sessions None → IsLed mid
    none_by conn None r = unchanged r.0
    none_by conn (Some statement) r = absurd r

    pub none_led : (conn : ℕ) (result : Option Act) → ResumesBy (call_of m kind before now) (scene old.view (machine_of old.applied.machine) (clients_in old).sessions conn) (later_query ((clients_in old).sessions.session conn).later) refused refused_now (clients_in mid).sessions result → result ≡ None → IsLed mid
    none_led conn result r e =
        none_by conn (later_query ((clients_in old).sessions.session conn).later)
        (subst (λ (x : Option Act). ResumesBy (call_of m kind before now) (scene old.view (machine_of old.applied.machine) (clients_in old).sessions conn) (later_query ((clients_in old).sessions.session conn).later) refused refused_now (clients_in mid).sessions x) e r)
