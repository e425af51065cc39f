-- The turns of clients, as stretches of an act.
use Rattle.std.proofs.Common.{◌≡◌, ◌⊎◌, inl, inr, ⊎_elim, ℕ, Bool, true, List, [], ◌∷◌, ◌++◌, map, Option, Some, None, Result, Ok, Err, refl, sym, ap, subst, ◌∙◌, append-nil}
use Rattle.std.specs.List.{flat_map}
use Rattle.wire_msgs.specs.declared.fault.MsgFault.{MsgFault}
use Rattle.wire_msgs.specs.declared.request.Request.{Request}
use Rattle.wire_msgs.specs.declared.response.Response.{Response}
use Rattle.wire_msgs.specs.Reading.{request_of}
use Rattle.sql_engine.specs.declared.kind.EngineKind.{EngineKind}
use Rattle.sql_engine.specs.Meanings.{Meaning, Told}
use Rattle.sql_engine.specs.Replies.{Statement}
use Rattle.database_state.specs.Machines.{IsMachine}
use Rattle.session_spec.specs.Machine.{machine_of}
use Rattle.session_spec.specs.Engines.{Answer}
use Rattle.session_spec.specs.Sessions.{Reply, Job, responses_of, later_query, lent_query}
use Rattle.session_safety.specs.Lending.{lends_by}
use Rattle.session_statements.specs.Running.{TellsAll}
use Rattle.session_statements.proofs.Telling.{tells_none}
use Rattle.raft_spec.specs.Log.{Entry}
use Rattle.raft_spec.specs.Node.{is_leader}
use Rattle.raft_spec.specs.NodeValues.{NodeValue}
use Rattle.raft_core.specs.declared.event.RaftEvent.{RaftEvent}
use Rattle.raft_safety.specs.Members.{Setup}
use Rattle.client_sessions.specs.declared.act.Act.{Act}
use Rattle.client_sessions.specs.declared.act.Act.TheVariants as acts
use Rattle.client_sessions.specs.Calls.{TookOffer, WasIdle, TookTurn, sent_to, bytes_of, call_of, scene}
use Rattle.client_sessions.specs.Clients.{Clients, freed}
use Rattle.client_sessions.specs.Later.{RanLater, turn_for, Resumes as ResumesBy, Finishes}
use Rattle.raft_on_disk.specs.Replicas.{ReplicaValue, kept_of}
use Rattle.applied_state.specs.declared.leadership.Leadership.{Leadership}
use Rattle.node_spec.specs.Accounts.{Moment, Piece, no_piece, both, Goes, GoesOn, NothingGoes}
use Rattle.node_spec.specs.ClientTurns.{Stays, HangsUp, StayingGoes, HangingGoes, ResumingGoes}
use Rattle.node_spec.specs.Turns.{KeepsRaft, HandlingGoes}
use Rattle.node_core.specs.declared.running.Running.{Running}
use Rattle.node_core.specs.Account.{proposals_in, moment_of, Item, Lived, Unread, lived, responses_in, Sends}
use Rattle.node_core.specs.Performing.{SaysNothing, gone_by, Performed, DeliversRead}
use Rattle.node_core.specs.Acts.{messages_by, proposals_by, jobs_by}
use Rattle.node_core.specs.Values.{clients_in}
use Rattle.node_core.specs.Whole.{InOffice, IsGoing}
use Rattle.node_core.proofs.Accounting.{QuietTurns}
use Rattle.node_core.proofs.Bridges.{as_sent, Shows, Sees, took_handles, took_stays, ran_resumes, finished_reads, same_stays, hung_up_goes}

-- ---- what is said

abbrev as_items : List (ℕ × Reply) → List Item
as_items [] = []
as_items (r ∷ rs) = Lived r.0 r.1 ∷ as_items rs

all_lived : (rs : List (ℕ × Reply)) → rs ≡ flat_map lived (as_items rs)
all_lived [] = refl
all_lived (r ∷ rs) = ap (λ (l : List (ℕ × Reply)). r ∷ l) (all_lived rs)

all_told : (rs : List (ℕ × Reply)) → flat_map (λ (r : ℕ × Reply). map (λ (response : Response). (r.0, response)) (responses_of r.1)) rs ≡ flat_map responses_in (as_items rs)
all_told [] = refl
all_told (r ∷ rs) = ap (λ (l : List (ℕ × Response)). map (λ (response : Response). (r.0, response)) (responses_of r.1) ++ l) (all_told rs)

pub sends_so : (rs : List (ℕ × Reply)) (bytes : List (ℕ × List ℕ)) → bytes ≡ as_sent rs → Sends rs bytes
sends_so rs bytes is = record { items = as_items rs; lives = all_lived rs; sends = is ∙ ap (map sent_to) (all_told rs) }

-- a message that doesn't read as a request is refused
refused_so : (conn : ℕ) (fault : MsgFault) (bytes : List (ℕ × List ℕ)) → bytes ≡ map sent_to (responses_in (Unread conn fault)) → Sends [] bytes
refused_so conn fault bytes is = record { items = Unread conn fault ∷ []; lives = refl; sends = is ∙ ap (map sent_to) (sym (append-nil (responses_in (Unread conn fault)))) }

-- ---- what leaves Raft

pub keeps_raft : (old new : Running) → new.replica ≡ old.replica → new.applied.index ≡ old.applied.index → new.view.serving ≡ old.view.serving → IsMachine new.applied.machine → machine_of new.applied.machine ≡ machine_of old.applied.machine
    → KeepsRaft (moment_of old) (moment_of new)
keeps_raft old new replica index serving machine files = record {
  raft = ap (λ (r : ReplicaValue). r.raft) replica;
  kept = ap kept_of replica;
  applied = index;
  serving = serving;
  machine = machine;
  files = files;
}

-- who serves leads
pub serving_leads : (o : Option Leadership) (serving : Bool) (h : NodeValue) → InOffice o serving h → serving ≡ true → is_leader h.role ≡ true
serving_leads None serving h g e = absurd cc
serving_leads (Some o) serving h g e = g.0

pub sees_itself : (n : Running) → IsGoing n → Sees n.view (moment_of n)
sees_itself n g = record { serving = refl; term = g.in_term; last = g.last }

-- ---- an act was done

pub gone : (act : Act) (a b : Moment) (k l : Clients) → Shows a k → Shows b l → KeepsRaft a b → b.due ≡ a.due → l ≡ gone_by act k → Stays a b ⊎ ((conn : ℕ) × HangsUp a b conn)
gone (acts.Reply conn messages) a b k l sa sb rest due is = inl (same_stays a b k l sa sb rest due (ap (λ (z : Clients). z.sessions) is) (λ other. ap (λ (z : Clients). z.streams other) is))
gone (acts.Propose conn entries) a b k l sa sb rest due is = inl (same_stays a b k l sa sb rest due (ap (λ (z : Clients). z.sessions) is) (λ other. ap (λ (z : Clients). z.streams other) is))
gone (acts.Lend conn job) a b k l sa sb rest due is = inl (same_stays a b k l sa sb rest due (ap (λ (z : Clients). z.sessions) is) (λ other. ap (λ (z : Clients). z.streams other) is))
gone (acts.Transfer conn to reply) a b k l sa sb rest due is = inl (same_stays a b k l sa sb rest due (ap (λ (z : Clients). z.sessions) is) (λ other. ap (λ (z : Clients). z.streams other) is))
gone (acts.Peer conn id reply) a b k l sa sb rest due is =
    ⊎_elim (λ (s : Stays a b). inl s) (λ (h : HangsUp a b conn). inr (conn, h)) (hung_up_goes a b k l sa sb rest due conn is)

-- the moment before an act is done, at which its proposal counts as due
abbrev pub acting : Running → Act → Moment
acting n act = record { node = (moment_of n).node; applied = (moment_of n).applied; due = proposals_by act }

module _ (m : Meaning) (kind : EngineKind) (on : GoesOn m kind) (staying : StayingGoes m kind) (hanging : HangingGoes m kind) (setup : Setup) (bytes : List ℕ) (joins : Option ℕ) where
  stays_or_hangs : (me : ℕ) (a b : Moment) → Stays a b ⊎ ((conn : ℕ) × HangsUp a b conn) → Goes m kind setup me bytes joins a b no_piece
  stays_or_hangs me a b e = ⊎_elim (λ (s : Stays a b). staying setup me bytes joins a b s) (λ (h : (conn : ℕ) × HangsUp a b conn). hanging setup me bytes joins a b h.0 h.1) e

  -- what is decided
  abbrev decides : List (ℕ × Reply) → List (ℕ × Job) → List Answer → Piece
  decides replies jobs answers = record no_piece { replies = replies; jobs = jobs; answers = answers }

  -- what was decided, and then done
  pub decided_turns : (old mid new : Running) (before now : Option Told) (act : Act) (replies : List (ℕ × Reply)) (jobs : List (ℕ × Job)) (answers : List Answer) → Goes m kind setup old.replica.id bytes joins (moment_of old) (acting mid act) (decides replies jobs answers)
      → mid.replica ≡ old.replica → mid.due.items ≡ old.due.items → mid.outs ≡ old.outs → mid.mail ≡ old.mail → proposals_in old.due.items ≡ [] → Performed mid new act → Sends replies (messages_by act) → jobs_by act ≡ jobs → TellsAll answers before now
      → QuietTurns m kind setup bytes joins old new before now
  decided_turns old mid new before now act replies jobs answers goes replica due outs mail idle done sends lends heard =
      let rest : KeepsRaft (acting mid act) (moment_of new) = record {
        raft = ap (λ (r : ReplicaValue). r.raft) done.replica;
        kept = ap kept_of done.replica;
        applied = done.index;
        serving = done.serving;
        machine = done.machine;
        files = done.files;
      } in
      let same : (moment_of new).due ≡ proposals_by act = done.due ∙ ap (λ (es : List RaftEvent). proposals_in es ++ proposals_by act) due ∙ ap (λ (l : List (List Entry)). l ++ proposals_by act) idle in
      let later = stays_or_hangs old.replica.id (acting mid act) (moment_of new)
      (gone act (acting mid act) (moment_of new) (clients_in mid) (clients_in new) (record { sessions = refl; waiting = λ conn. refl }) (record { sessions = refl; waiting = λ conn. refl }) rest same done.clients) in (
        record {
          piece = both (decides replies jobs answers) no_piece;
          goes = on setup old.replica.id bytes joins (moment_of old) (acting mid act) (moment_of new) (decides replies jobs answers) no_piece goes later (inl refl);
          says = record {
            posted = [];
            letters_are = refl;
            mail = done.mail ∙ mail;
            told = messages_by act;
            outs = done.replies ∙ ap (λ o. o.replies.items ++ messages_by act) outs;
            tells = subst (λ (rs : List (ℕ × Reply)). Sends rs (messages_by act)) (sym (append-nil replies)) sends;
            reads = done.reads ∙ ap (λ o. o.reads.items ++ jobs_by act) outs ∙ ap (λ (js : List (ℕ × Job)). old.outs.reads.items ++ js) (lends ∙ sym (append-nil jobs));
          };
          heard = subst (λ (all : List Answer). TellsAll all before now) (sym (append-nil answers)) heard;
          inputs = record { own = []; each = tt; is = refl };
          asks = λ conn. refl;
          sent = tt;
          id = ap (λ (r : ReplicaValue). r.id) (done.replica ∙ replica);
        },
        refl,
      )

  -- ---- nothing was decided

  stays_turns : {told : Option Told} (old new : Running) → new.replica ≡ old.replica → Stays (moment_of old) (moment_of new) → SaysNothing old new → QuietTurns m kind setup bytes joins old new told told
  stays_turns old new replica s quiet = (
    record {
      piece = no_piece;
      goes = staying setup old.replica.id bytes joins (moment_of old) (moment_of new) s;
      says = record { posted = []; letters_are = refl; mail = quiet.mail; told = []; outs = quiet.replies ∙ sym (append-nil old.outs.replies.items); tells = record { items = []; lives = refl; sends = refl }; reads = quiet.reads ∙ sym (append-nil old.outs.reads.items) };
      heard = tells_none _;
      inputs = record { own = []; each = tt; is = refl };
      asks = λ conn. refl;
      sent = tt;
      id = ap (λ (r : ReplicaValue). r.id) replica;
    },
    refl,
  )

  -- the clients have changed, and the databases' marks with them
  abbrev Moved : Running → Running → Type 0
  Moved old mid = mid ≡ record old { clients = mid.clients; applied = record old.applied { machine = mid.applied.machine } }

  moved_keeps : (old mid : Running) → Moved old mid → IsMachine mid.applied.machine → machine_of mid.applied.machine ≡ machine_of old.applied.machine → KeepsRaft (moment_of old) (moment_of mid)
  moved_keeps old mid is machine files =
      keeps_raft old mid (ap (λ (n : Running). n.replica) is) (ap (λ (n : Running). n.applied.index) is) (ap (λ (n : Running). n.view.serving) is) machine files

  pub same_turns : {told : Option Told} (old new : Running) → Moved old new → IsMachine new.applied.machine → machine_of new.applied.machine ≡ machine_of old.applied.machine
      → (clients_in new).sessions ≡ (clients_in old).sessions → ((conn : ℕ) → (clients_in new).streams conn ≡ (clients_in old).streams conn) → QuietTurns m kind setup bytes joins old new told told
  same_turns old new is machine files sessions streams =
      stays_turns old new (ap (λ (n : Running). n.replica) is)
      (same_stays (moment_of old) (moment_of new) (clients_in old) (clients_in new) (record { sessions = refl; waiting = λ conn. refl }) (record { sessions = refl; waiting = λ conn. refl }) (moved_keeps old new is machine files)
      (ap (λ (n : Running). proposals_in n.due.items) is) sessions streams)
      (record {
        mail = ap (λ (n : Running). n.mail) is;
        replies = ap (λ (n : Running). n.outs.replies.items) is;
        reads = ap (λ (n : Running). n.outs.reads.items) is;
        members = ap (λ (n : Running). n.members) is;
        links = ap (λ (n : Running). n.has_links) is;
      })

  pub idle_turns_on : (old new : Running) (before now : Option Told) → Moved old new → IsMachine new.applied.machine → machine_of new.applied.machine ≡ machine_of old.applied.machine → (refused refused_now : ℕ) (result : Option Act)
      → TookTurn (call_of m kind before now) old.view (machine_of old.applied.machine) (clients_in old) refused refused_now (clients_in new) result → result ≡ None → QuietTurns m kind setup bytes joins old new before now
  idle_turns_on old new before now is machine files refused refused_now result t e =
      let idle : WasIdle (clients_in old) before now (clients_in new) = subst (λ (r : Option Act). TookTurn (call_of m kind before now) old.view (machine_of old.applied.machine) (clients_in old) refused refused_now (clients_in new) r) e t in
      subst (λ (t : Option Told). QuietTurns m kind setup bytes joins old new before t) (sym idle.untold)
      (same_turns old new is machine files (ap (λ (k : Clients). k.sessions) idle.rest) (λ conn. ap (λ (k : Clients). k.streams conn) idle.rest))

  -- ---- a client's message

  module _ (handling : HandlingGoes m kind) (resuming : ResumingGoes m kind) (old mid : Running) (going : IsGoing old) (idle : old.due.items ≡ []) (is : Moved old mid) (machine : IsMachine mid.applied.machine)
      (files : machine_of mid.applied.machine ≡ machine_of old.applied.machine) (before now : Option Told) (refused refused_now : ℕ) (act : Act) where
    keeps : KeepsRaft (moment_of old) (acting mid act)
    keeps = let k = moved_keeps old mid is machine files in record { raft = k.raft; kept = k.kept; applied = k.applied; serving = k.serving; machine = k.machine; files = k.files }

    none_due : proposals_in old.due.items ≡ []
    none_due = ap proposals_in idle

    leads : old.view.serving ≡ true → is_leader old.replica.raft.role ≡ true
    leads = serving_leads old.office old.view.serving old.replica.raft going.office

    -- what was decided, as a stretch up to where the act is done
    abbrev Decided : Type 0
    Decided =
        (replies : List (ℕ × Reply)) × (jobs : List (ℕ × Job)) × (answers : List Answer) × Goes m kind setup old.replica.id bytes joins (moment_of old) (acting mid act) (decides replies jobs answers)
        × Sends replies (messages_by act) × (jobs_by act ≡ jobs) × TellsAll answers before now

    took_decided : (x : TookOffer (call_of m kind before now) old.view (machine_of old.applied.machine) (clients_in old) refused refused_now (clients_in mid) act) (r : Result Request MsgFault) → request_of x.offer.message ≡ r → Decided
    took_decided x (Ok request) reads =
        let h = took_handles m kind (moment_of old) (acting mid act) (clients_in old) (clients_in mid) old.view before now refused refused_now act (record { sessions = refl; waiting = λ conn. refl }) (record { sessions = refl; waiting = λ conn. refl })
        keeps (sees_itself old going) going.holds.clients.sound leads none_due refl x request reads in
        (h.0, lends_by x.offer.conn h.1.turned, h.1.answers, handling setup old.replica.id bytes joins (moment_of old) (acting mid act) x.offer.conn request h.0 h.1, sends_so h.0 (messages_by act) h.2, h.3, h.4)
    took_decided x (Err fault) reads =
        let s = took_stays m kind (moment_of old) (moment_of mid) (clients_in old) (clients_in mid) old.view before now refused refused_now act (record { sessions = refl; waiting = λ conn. refl }) (record { sessions = refl; waiting = λ conn. refl })
        (moved_keeps old mid is machine files) (ap (λ (n : Running). proposals_in n.due.items) is) x fault reads in
        let due : proposals_in mid.due.items ≡ proposals_by act = ap (λ (n : Running). proposals_in n.due.items) is ∙ none_due ∙ sym (ap proposals_by s.1) in
        let same : moment_of mid ≡ acting mid act = λ i. record { node = (moment_of mid).node; applied = (moment_of mid).applied; due = due i } in (
          [],
          [],
          [],
          subst (λ (b : Moment). Goes m kind setup old.replica.id bytes joins (moment_of old) b no_piece) same (staying setup old.replica.id bytes joins (moment_of old) (moment_of mid) s.0),
          refused_so x.offer.conn fault (messages_by act) (ap messages_by s.1),
          ap jobs_by s.1,
          subst (λ (t : Option Told). TellsAll [] before t) (sym s.2) (tells_none before),
        )

    decided : (new : Running) → Decided → Performed mid new act → QuietTurns m kind setup bytes joins old new before now
    decided new d done =
        decided_turns old mid new before now act d.0 d.1 d.2 d.3 (ap (λ (n : Running). n.replica) is) (ap (λ (n : Running). n.due.items) is) (ap (λ (n : Running). n.outs) is) (ap (λ (n : Running). n.mail) is) none_due done d.4 d.5 d.6

    took_given : (new : Running) → TookOffer (call_of m kind before now) old.view (machine_of old.applied.machine) (clients_in old) refused refused_now (clients_in mid) act → Performed mid new act → QuietTurns m kind setup bytes joins old new before now
    took_given new x done = decided new (took_decided x (request_of x.offer.message) refl) done

    pub took_turns_on : (new : Running) (result : Option Act) → TookTurn (call_of m kind before now) old.view (machine_of old.applied.machine) (clients_in old) refused refused_now (clients_in mid) result → result ≡ Some act → Performed mid new act
        → QuietTurns m kind setup bytes joins old new before now
    took_turns_on new result t e done =
        took_given new (subst (λ (r : Option Act). TookTurn (call_of m kind before now) old.view (machine_of old.applied.machine) (clients_in old) refused refused_now (clients_in mid) r) e t) done

    -- ---- a query that is answered later than it was asked

    ran_decided : (conn : ℕ) (statement : Statement) → ((other : ℕ) → (clients_in mid).streams other ≡ (clients_in old).streams other) → later_query ((clients_in old).sessions.session conn).later ≡ Some statement
        → RanLater (call_of m kind before now) (scene old.view (machine_of old.applied.machine) (clients_in old).sessions conn) statement refused refused_now (clients_in mid).sessions act → Decided
    ran_decided conn statement streams later x =
        let h = ran_resumes m kind (moment_of old) (acting mid act) (clients_in old) (clients_in mid) old.view before now refused refused_now act conn statement (record { sessions = refl; waiting = λ other. refl }) (record { sessions = refl; waiting = λ other. refl })
        streams keeps (sees_itself old going) leads none_due refl later x in
        (h.0, [], h.1.answers, resuming setup old.replica.id bytes joins (moment_of old) (acting mid act) conn h.0 h.1, sends_so h.0 (messages_by act) h.2, h.3, h.4)

    by_query : (new : Running) (conn : ℕ) (query : Option Statement) → later_query ((clients_in old).sessions.session conn).later ≡ query → ((other : ℕ) → (clients_in mid).streams other ≡ (clients_in old).streams other)
        → ResumesBy (call_of m kind before now) (scene old.view (machine_of old.applied.machine) (clients_in old).sessions conn) query refused refused_now (clients_in mid).sessions (Some act) → Performed mid new act → QuietTurns m kind setup bytes joins old new before now
    by_query new conn None later streams r done = absurd r
    by_query new conn (Some statement) later streams r done = decided new (ran_decided conn statement streams later r) done

    pub ran_turns_on : (new : Running) (conn : ℕ) (result : Option Act) → ResumesBy (call_of m kind before now) (scene old.view (machine_of old.applied.machine) (clients_in old).sessions conn) (later_query ((clients_in old).sessions.session conn).later) refused refused_now (clients_in mid).sessions result
        → clients_in mid ≡ freed (clients_in old) (clients_in mid).sessions (turn_for conn result) → result ≡ Some act → Performed mid new act → QuietTurns m kind setup bytes joins old new before now
    ran_turns_on new conn result r rest e done =
        by_query new conn (later_query ((clients_in old).sessions.session conn).later) refl (λ other. ap (λ (k : Clients). k.streams other) rest)
        (subst (λ (x : Option Act). ResumesBy (call_of m kind before now) (scene old.view (machine_of old.applied.machine) (clients_in old).sessions conn) (later_query ((clients_in old).sessions.session conn).later) refused refused_now (clients_in mid).sessions x) e r) done

  none_by : (old new : Running) (conn : ℕ) (query : Option Statement) (before now : Option Told) (refused refused_now : ℕ) → Moved old new → IsMachine new.applied.machine → machine_of new.applied.machine ≡ machine_of old.applied.machine
      → ResumesBy (call_of m kind before now) (scene old.view (machine_of old.applied.machine) (clients_in old).sessions conn) query refused refused_now (clients_in new).sessions None
      → clients_in new ≡ freed (clients_in old) (clients_in new).sessions (turn_for conn None) → QuietTurns m kind setup bytes joins old new before now
  none_by old new conn None before now refused refused_now is machine files r rest =
      subst (λ (t : Option Told). QuietTurns m kind setup bytes joins old new before t) r.1 (same_turns old new is machine files r.0 (λ other. ap (λ (k : Clients). k.streams other) rest))
  none_by old new conn (Some statement) before now refused refused_now is machine files r rest = absurd r

  pub none_turns_on : (old new : Running) (conn : ℕ) (before now : Option Told) (refused refused_now : ℕ) → Moved old new → IsMachine new.applied.machine → machine_of new.applied.machine ≡ machine_of old.applied.machine
      → (result : Option Act) → ResumesBy (call_of m kind before now) (scene old.view (machine_of old.applied.machine) (clients_in old).sessions conn) (later_query ((clients_in old).sessions.session conn).later) refused refused_now (clients_in new).sessions result
      → clients_in new ≡ freed (clients_in old) (clients_in new).sessions (turn_for conn result) → result ≡ None → QuietTurns m kind setup bytes joins old new before now
  none_turns_on old new conn before now refused refused_now is machine files result r rest e =
      none_by old new conn (later_query ((clients_in old).sessions.session conn).later) before now refused refused_now is machine files
      (subst (λ (x : Option Act). ResumesBy (call_of m kind before now) (scene old.view (machine_of old.applied.machine) (clients_in old).sessions conn) (later_query ((clients_in old).sessions.session conn).later) refused refused_now (clients_in new).sessions x) e r)
      (subst (λ (x : Option Act). clients_in new ≡ freed (clients_in old) (clients_in new).sessions (turn_for conn x)) e rest)

-- ---- what a reader answers

module _ (old mid new : Running) (conn : ℕ) (is : mid ≡ record old { clients = mid.clients }) (machine : IsMachine old.applied.machine) where
  mid_turn : KeepsRaft (moment_of old) (moment_of mid)
  mid_turn = keeps_raft old mid (ap (λ (n : Running). n.replica) is) (ap (λ (n : Running). n.applied.index) is) (ap (λ (n : Running). n.view.serving) is)
      (subst (λ (n : Running). IsMachine n.applied.machine) (sym is) machine) (ap (λ (n : Running). machine_of n.applied.machine) is)

  told_nothing : (clients_in mid).sessions ≡ (clients_in old).sessions → ((other : ℕ) → (clients_in mid).streams other ≡ (clients_in old).streams other) → Stays (moment_of old) (moment_of mid)
  told_nothing sessions streams =
      same_stays (moment_of old) (moment_of mid) (clients_in old) (clients_in mid) (record { sessions = refl; waiting = λ other. refl }) (record { sessions = refl; waiting = λ other. refl }) mid_turn
      (ap (λ (n : Running). proposals_in n.due.items) is) sessions streams

  none_told : (query : Option Statement) (told : Option Reply) (act : Option Act) → Finishes (clients_in old).sessions conn query told (clients_in mid).sessions act → act ≡ None → (clients_in mid).sessions ≡ (clients_in old).sessions
  none_told None told act f none = f.0
  none_told (Some statement) None act f none = f.0
  none_told (Some statement) (Some reply) act f none = let same = sym f.1 ∙ none in absurd cc

  -- nothing was reported
  pub reads_nothing : (told : Option Reply) (act : Option Act) → Finishes (clients_in old).sessions conn (lent_query ((clients_in old).sessions.session conn).later) told (clients_in mid).sessions act
      → clients_in mid ≡ freed (clients_in old) (clients_in mid).sessions (turn_for conn act) → act ≡ None → DeliversRead old mid conn told
  reads_nothing told act f rest none =
      inl (
        told_nothing (none_told (lent_query ((clients_in old).sessions.session conn).later) told act f none) (λ other. ap (λ (k : Clients). k.streams other) rest),
        record {
          mail = ap (λ (n : Running). n.mail) is;
          replies = ap (λ (n : Running). n.outs.replies.items) is;
          reads = ap (λ (n : Running). n.outs.reads.items) is;
          members = ap (λ (n : Running). n.members) is;
          links = ap (λ (n : Running). n.has_links) is;
        },
      )

  -- a reply was told
  told_by : (query : Option Statement) (told : Option Reply) (result : Option Act) (act : Act) → lent_query ((clients_in old).sessions.session conn).later ≡ query → Finishes (clients_in old).sessions conn query told (clients_in mid).sessions result
      → clients_in mid ≡ freed (clients_in old) (clients_in mid).sessions (turn_for conn result) → result ≡ Some act → Performed mid new act → DeliversRead old new conn told
  told_by None told result act lent f rest some done = let same = sym f.1 ∙ some in absurd cc
  told_by (Some statement) None result act lent f rest some done = let same = sym f.1 ∙ some in absurd cc
  told_by (Some statement) (Some reply) result act lent f rest some done =
      let given : act ≡ acts.Reply conn (bytes_of (responses_of reply)) = inside (sym some ∙ f.1) in
      let same : clients_in new ≡ clients_in mid = done.clients ∙ ap (λ (a : Act). gone_by a (clients_in mid)) given in
      let keeps : KeepsRaft (moment_of old) (moment_of new) =
      keeps_raft old new (done.replica ∙ ap (λ (n : Running). n.replica) is) (done.index ∙ ap (λ (n : Running). n.applied.index) is) (done.serving ∙ ap (λ (n : Running). n.view.serving) is) done.machine
      (done.files ∙ ap (λ (n : Running). machine_of n.applied.machine) is) in
      let due : proposals_in new.due.items ≡ proposals_in old.due.items =
      done.due ∙ ap (λ (a : Act). proposals_in mid.due.items ++ proposals_by a) given ∙ append-nil (proposals_in mid.due.items) ∙ ap (λ (n : Running). proposals_in n.due.items) is in
      let now : Finishes (clients_in old).sessions conn (Some statement) (Some reply) (clients_in new).sessions result = (ap (λ (k : Clients). k.sessions) same ∙ f.0, f.1) in
      let h = finished_reads (moment_of old) (moment_of new) (clients_in old) (clients_in new) (record { sessions = refl; waiting = λ other. refl }) (record { sessions = refl; waiting = λ other. refl }) keeps due conn statement reply result
      (λ other. ap (λ (k : Clients). k.streams other) (same ∙ rest)) lent now in
      inr (
        reply,
        (
          refl,
          (
            h.0,
            record {
              posted = [];
              letters_are = refl;
              mail = done.mail ∙ ap (λ (n : Running). n.mail) is;
              told = messages_by act;
              outs = done.replies ∙ ap (λ (n : Running). n.outs.replies.items ++ messages_by act) is;
              tells = sends_so ((conn, reply) ∷ []) (messages_by act) (h.1 act some).0;
              reads = done.reads ∙ ap (λ (n : Running). n.outs.reads.items ++ jobs_by act) is ∙ ap (λ (js : List (ℕ × Job)). old.outs.reads.items ++ js) (h.1 act some).1;
            },
            record { members = done.members ∙ ap (λ (n : Running). n.members) is; links = done.links ∙ ap (λ (n : Running). n.has_links) is },
          ),
        ),
      )
    where
      inside : {x y : Act} → Some x ≡ Some y → x ≡ y
      inside e = cc

  pub reads_reply : (told : Option Reply) (result : Option Act) (act : Act) → Finishes (clients_in old).sessions conn (lent_query ((clients_in old).sessions.session conn).later) told (clients_in mid).sessions result
      → clients_in mid ≡ freed (clients_in old) (clients_in mid).sessions (turn_for conn result) → result ≡ Some act → Performed mid new act → DeliversRead old new conn told
  reads_reply told result act f rest some done = told_by (lent_query ((clients_in old).sessions.session conn).later) told result act refl f rest some done

-- nothing happened
pub nothing_turns : {told : Option Told} (m : Meaning) (kind : EngineKind) → NothingGoes m kind → (setup : Setup) (bytes : List ℕ) (joins : Option ℕ) (n : Running) → QuietTurns m kind setup bytes joins n n told told
nothing_turns m kind nothing setup bytes joins n = (
  record {
    piece = no_piece;
    goes = nothing setup n.replica.id bytes joins (moment_of n);
    inputs = record { own = []; each = tt; is = refl };
    asks = λ conn. refl;
    says = record { posted = []; letters_are = refl; mail = refl; told = []; outs = sym (append-nil n.outs.replies.items); tells = record { items = []; lives = refl; sends = refl }; reads = sym (append-nil n.outs.reads.items) };
    heard = tells_none _;
    sent = tt;
    id = refl;
  },
  refl,
)
