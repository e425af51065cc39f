-- Turns of a step join, and lead a step that is under way to its end.
use Rattle.std.proofs.Common.{◌≡◌, inl, inr, ℕ, Bool, true, false, true≢false, List, [], ◌∷◌, ◌++◌, Option, Some, None, Result, Ok, Err, refl, sym, ap, subst, ◌∙◌, append-nil}
use Rattle.std.specs.Prelude.{OnOk, IfOk}
use Rattle.sql_engine.specs.declared.kind.EngineKind.{EngineKind}
use Rattle.sql_engine.specs.Meanings.{Meaning, Told}
use Rattle.client_connection.specs.Connection.{Conn}
use Rattle.session_statements.proofs.Telling.{tells_none}
use Rattle.session_spec.specs.Events.{told_applied}
use Rattle.session_spec.specs.Sessions.{Gateway, is_due}
use Rattle.raft_spec.specs.Node.{is_leader}
use Rattle.raft_core.specs.declared.event.RaftEvent.TheVariants as raft_events
use Rattle.raft_safety.specs.Members.{Setup}
use Rattle.client_sessions.specs.Calls.{told_at}
use Rattle.client_sessions.specs.Clients.{offered_on}
use Rattle.store_laws.specs.Store.{Kept}
use Rattle.raft_on_disk.specs.Mails.{sent}
use Rattle.raft_on_disk.specs.Replicas.{ReplicaValue, kept_of}
use Rattle.node_spec.specs.Accounts.{Moment, no_piece, Goes, MayEnd}
use Rattle.node_spec.specs.ClientTurns.{Stays}
use Rattle.node_spec.specs.RaftTurns.{SnapshotGoes}
use Rattle.node_spec.proofs.Stretches.{nothing_goes_holds}
use Rattle.node_core.specs.declared.event.Event.{Event}
use Rattle.node_core.specs.declared.outs.StepOutputs.{StepOutputs}
use Rattle.node_core.specs.declared.running.Running.{Running}
use Rattle.node_core.specs.Account.{proposals_in, moment_of, Comes, Compacts, AtRest, Fresh, Underway, AccountsForStep, messages_of}
use Rattle.node_core.specs.Applying.{AppliesEntry}
use Rattle.node_core.specs.Duties.{PerformsDuty}
use Rattle.node_core.specs.Performing.{SaysNothing, MayClose, ClosesIfEnded}
use Rattle.node_core.specs.Posting.{HadNoneDue}
use Rattle.node_core.specs.Taking.{TurnsInTerm, TookLetter, came, none_came, KeepsSnapshot}
use Rattle.node_core.specs.Values.{seen, clients_in, waiting_on}
use Rattle.node_core.specs.Waiting.{is_among, NoneIsDue}
use Rattle.node_core.specs.Whole.{IsGoing, IsQuiet}
use Rattle.node_core.specs.Voters.{Beside, RestsBeside}
use Rattle.node_core.proofs.Accounting.{QuietTurns, turns_both, says_none, adds_none, underway_on, underway_next, underway_ends}
use Rattle.node_core.proofs.Besides.{rests_same, beside_rest, beside_none, beside_on, beside_then}
use Rattle.node_core.specs.Carrying.{MovesLines, lines_in, first_waiting}
use Rattle.node_core.specs.Conns.{KeepsConns}
use Rattle.node_core.proofs.Carried.{kept_moves, same_moves, since_ends}
use Rattle.node_core.proofs.Beginning.{begins_raft, begins_compact, with_letter}
use Rattle.node_core.proofs.ClientTurns.{sends_so}
use Rattle.node_core.proofs.TurnsOf.{turns_stays, turns_hangs, turns_applies, turns_owes, turns_serves}

pub on_ok_then : {T F P Q : Type 0} (r : Result T F) → (P → Q) → OnOk r P → OnOk r Q
on_ok_then (Ok x) f p = f p
on_ok_then (Err e) f p = tt

-- ---- turns

module _ (m : Meaning) (kind : EngineKind) (setup : Setup) (bytes : List ℕ) (joins : Option ℕ) where
  -- a turn without a step of Raft
  turns_rest : {before now : Option Told} (a b : Running) → b.replica ≡ a.replica → RestsBeside a b → QuietTurns m kind setup bytes joins a b before now → TurnsInTerm m kind setup bytes joins a b before now
  turns_rest a b replica rests t = record {
    turns = t.0;
    same = record { term = ap (λ (r : ReplicaValue). r.raft.term) replica; leads = ap (λ (r : ReplicaValue). is_leader r.raft.role) replica };
    snap = ap (λ (r : ReplicaValue). (kept_of r).snap) (sym replica);
    beside = subst (Beside setup a b bytes) (sym t.1) (beside_rest setup bytes a b rests);
  }

  pub turns_kept : {before now : Option Told} (a b : Running) → b.replica ≡ a.replica → b.members ≡ a.members → b.has_links ≡ a.has_links → QuietTurns m kind setup bytes joins a b before now → TurnsInTerm m kind setup bytes joins a b before now
  turns_kept a b replica members links t = turns_rest a b replica (rests_same a b replica members links) t

  pub turns_join : {before mid now : Option Told} (a b c : Running) → TurnsInTerm m kind setup bytes joins a b before mid →
      TurnsInTerm m kind setup bytes joins b c mid now → TurnsInTerm m kind setup bytes joins a c before now
  unfolding turns_both
  turns_join a b c x y = record {
    turns = turns_both m kind setup bytes joins a b c x.turns y.turns y.same x.snap;
    same = record { term = y.same.term ∙ x.same.term; leads = y.same.leads ∙ x.same.leads };
    snap = x.snap ∙ y.snap;
    beside = beside_on setup bytes a b c x.turns.piece.inputs y.turns.piece.inputs x.turns.id x.beside y.beside;
  }

  id_stays : (a b : Running) → b.replica ≡ a.replica → b.replica.id ≡ a.replica.id
  id_stays a b replica = ap (λ (r : ReplicaValue). r.id) replica

  pub fresh_turn : {told : Option Told} (a b : Running) → Fresh a b → TurnsInTerm m kind setup bytes joins a b told told
  fresh_turn a b f = record {
    turns = record {
      piece = no_piece;
      goes = subst (λ z. Goes m kind setup a.replica.id bytes joins (moment_of a) z no_piece) (sym f.moment) (nothing_goes_holds m kind setup a.replica.id bytes joins (moment_of a));
      inputs = adds_none [];
      asks = λ conn. refl;
      says = says_none a b f.mail f.replies f.reads;
      heard = tells_none _;
      sent = tt;
      id = f.id;
    };
    same = record { term = ap (λ (z : Moment). z.node.raft.term) f.moment; leads = ap (λ (z : Moment). is_leader z.node.raft.role) f.moment };
    snap = ap (λ (k : Kept). k.snap) (sym f.kept);
    beside = beside_then setup bytes a a b [] (beside_none setup bytes a) f;
  }

  -- nothing that the rules see
  pub stays_turn : {told : Option Told} (a b : Running) → b.replica ≡ a.replica → Stays (moment_of a) (moment_of b) → SaysNothing a b → TurnsInTerm m kind setup bytes joins a b told told
  stays_turn a b replica x quiet = turns_kept a b replica quiet.members quiet.links (turns_stays m kind setup a b (id_stays a b replica) bytes joins x (says_none a b quiet.mail quiet.replies quiet.reads))

  goes_turn : {told : Option Told} (a b : Running) (conn : ℕ) → b.replica ≡ a.replica → MayClose a b conn → SaysNothing a b → TurnsInTerm m kind setup bytes joins a b told told
  goes_turn a b conn replica (inl x) quiet = stays_turn a b replica x quiet
  goes_turn a b conn replica (inr x) quiet = turns_kept a b replica quiet.members quiet.links (turns_hangs m kind setup a b (id_stays a b replica) bytes joins conn x (says_none a b quiet.mail quiet.replies quiet.reads))

  pub closes_turn : {told : Option Told} (a b : Running) → b.replica ≡ a.replica → ClosesIfEnded a b → SaysNothing a b → TurnsInTerm m kind setup bytes joins a b told told
  closes_turn a b replica (inl x) quiet = stays_turn a b replica x quiet
  closes_turn a b replica (inr x) quiet = goes_turn a b x.0 replica x.1.1 quiet

  -- an entry is applied, and what a leader owes after it
  applies_turn : {told : Option Told} (a b : Running) → b.replica ≡ a.replica → AppliesEntry a b → TurnsInTerm m kind setup bytes joins a b told told
  applies_turn a b replica x =
      let replies = told_applied _ (clients_in a).sessions in
      turns_rest a b replica x.beside (turns_applies m kind setup a b (id_stays a b replica) bytes joins replies x.applies
      (record { posted = []; letters_are = refl; mail = x.mail; told = told_at _ (clients_in a); outs = x.outs; tells = sends_so replies (told_at _ (clients_in a)) refl; reads = x.reads ∙ sym (append-nil a.outs.reads.items) }))

  duties_turn : {told : Option Told} (a b : Running) → b.replica ≡ a.replica → PerformsDuty a b → SaysNothing a b → TurnsInTerm m kind setup bytes joins a b told told
  duties_turn a b replica (inl x) quiet = stays_turn a b replica x quiet
  duties_turn a b replica (inr (inl x)) quiet = turns_kept a b replica quiet.members quiet.links (turns_serves m kind setup a b (id_stays a b replica) bytes joins x (says_none a b quiet.mail quiet.replies quiet.reads))
  duties_turn a b replica (inr (inr x)) quiet = turns_kept a b replica quiet.members quiet.links (turns_owes m kind setup a b (id_stays a b replica) bytes joins x.0 x.1 (says_none a b quiet.mail quiet.replies quiet.reads))

  pub entry_turn : {before now : Option Told} (a b c d : Running) → b.replica ≡ a.replica → d.replica ≡ c.replica → AppliesEntry a b → TurnsInTerm m kind setup bytes joins b c before now → PerformsDuty c d → SaysNothing c d → TurnsInTerm m kind setup bytes joins a d before now
  entry_turn a b c d first last x t duty quiet = turns_join a b d (applies_turn a b first x) (turns_join b c d t (duties_turn c d last duty quiet))

-- ---- the end of an act

waits_none : (conn : ℕ) (busy : Bool) (stream : Option Conn) → offered_on conn [] busy stream ≡ None → busy ≡ false → waiting_on stream ≡ []
waits_none conn true stream none idle = absurd cc
waits_none conn false None none idle = refl
waits_none conn false (Some stream) none idle = by stream.waiting none
  where
    by : (waiting : List _) → offered_on conn [] false (Some (record stream { waiting = waiting })) ≡ None → waiting_on (Some (record stream { waiting = waiting })) ≡ []
    by [] e = refl
    by (x ∷ xs) e = absurd cc

-- if nothing is left to do, an act may end
pub may_end : (n : Running) → IsGoing n → n.applied.index ≡ n.replica.raft.commit → n.due.items ≡ [] → (clients_in n).turns ≡ [] → NoneIsDue (clients_in n) → MayEnd (moment_of n)
may_end n going applied due turns none = record {
  applied = applied;
  due = ap proposals_in due;
  waits = λ conn open_ idle. waits_none conn _ ((clients_in n).streams conn) (going.holds.turns conn (subst (λ (l : List ℕ). is_among conn l ≡ false) (sym turns) refl)) idle;
  run = λ conn open_. none conn;
}

-- and the node rests
pub at_rest : (n : Running) → IsGoing n → n.applied.index ≡ n.replica.raft.commit → n.due.items ≡ [] → AtRest n
at_rest n going applied due = record {
  rests = λ i. record { node = seen n; applied = applied i; due = ap proposals_in due i };
  at = going.holds.at;
  id = going.holds.replica.id;
}

-- ---- a step under way

module _ (m : Meaning) (kind : EngineKind) (setup : Setup) (start : Running) (event : Event) (told : Option Told) where
  abbrev So : Running → Option Told → Type 0
  So n now = Underway m kind setup start n event told now

  pub goes_further : {mid now : Option Told} (a b : Running) → So a mid → MovesLines a b [] → ((bytes : List ℕ) (joins : Option ℕ) → TurnsInTerm m kind setup bytes joins a b mid now) → So b now
  goes_further a b u moves t = underway_on m kind setup start a b event u moves t

  -- nothing was due
  pub had_none : {now : Option Told} (a b : Running) → So a now → HadNoneDue a b → So b now
  had_none a b u h = goes_further a b u (same_moves a b (ap lines_in h.is) (ap (λ (n : Running). n.outs.closed.items) h.is)) (λ bytes joins. fresh_turn m kind setup bytes joins a b (record {
    moment = ap moment_of h.is ∙ (λ i. record { node = seen a; applied = a.applied.index; due = (ap proposals_in h.now ∙ sym (ap proposals_in h.was)) i });
    mail = ap (λ (n : Running). n.mail) h.is;
    replies = ap (λ (n : Running). n.outs.replies.items) h.is;
    reads = ap (λ (n : Running). n.outs.reads.items) h.is;
    kept = ap (λ (n : Running). kept_of n.replica) h.is;
    id = ap (λ (n : Running). n.replica.id) h.is;
    links = ap (λ (n : Running). n.has_links) h.is;
  }))

  -- an own snapshot is its own act
  pub compacts : {now : Option Told} → SnapshotGoes m kind → (a b : Running) → So a now → IsGoing a → MayEnd (moment_of a) → AtRest a → KeepsConns a b → KeepsSnapshot setup a b → So b now
  compacts law a b u going end rest keeps c =
      underway_next m kind setup start a a b event u end going.holds.replica.id (record { same = refl; links = refl; mail = refl; replies = refl; reads = refl }) rest (Compacts a.applied.index) tt (λ none. tt) (kept_moves a b keeps) (begins_compact m kind setup a b law c)

  -- and the same holds for a message of a peer that came on a connection
  pub letter_came : {mid now : Option Told} (a b : Running) → So a mid → IsGoing a → MayEnd (moment_of a) → AtRest a → TookLetter m kind setup a b mid now → So b now
  letter_came a b u going end rest (none_came f same moves) = subst (So b) same (goes_further a b u moves (λ bytes joins. fresh_turn m kind setup bytes joins a b f))
  letter_came a b u going end rest (came message mid linked is began moves) =
      underway_next m kind setup start a mid b event u end going.holds.replica.id
      (record { same = ap seen is; links = ap (λ (n : Running). n.has_links) is; mail = ap (λ (n : Running). n.mail) is; replies = ap (λ (n : Running). n.outs.replies.items) is; reads = ap (λ (n : Running). n.outs.reads.items) is })
      (subst AtRest (sym is) (record { rests = rest.rests; at = rest.at; id = rest.id })) (Comes message) tt (λ none. absurd (true≢false (sym linked ∙ u.links ∙ none))) moves (begins_raft m kind setup mid b (Comes message) (raft_events.Message message) (with_letter mid message) began)

-- ---- along an engine, whose kind stays

module _ (M : EngineKind → Meaning) (setup : Setup) (start : Running) (event : Event) (told : Option Told) (k : EngineKind) where
  abbrev On : EngineKind → Running → Option Told → Type 0
  On l n now = Underway (M l) l setup start n event told now

  pub further_at : {mid now : Option Told} (l : EngineKind) (a b : Running) → l ≡ k → On k a mid → MovesLines a b [] → ((bytes : List ℕ) (joins : Option ℕ) → TurnsInTerm (M l) l setup bytes joins a b mid now) → On k b now
  further_at {mid} {now} l a b e u moves t = subst (λ z. On z b now) e (goes_further (M l) l setup start event told a b (subst (λ z. On z a mid) (sym e) u) moves t)

  pub letter_at : {mid now : Option Told} (l : EngineKind) (a b : Running) → l ≡ k → On k a mid → IsGoing a → MayEnd (moment_of a) → AtRest a → TookLetter (M l) l setup a b mid now → On k b now
  letter_at {mid} {now} l a b e u going end rest t = subst (λ z. On z b now) e (letter_came (M l) l setup start event told a b (subst (λ z. On z a mid) (sym e) u) going end rest t)

  pub closed_at : {F : Type 0} {now : Option Told} (r : Result Bool F) (a b : Running) → On k a now → b.replica ≡ a.replica → OnOk r (ClosesIfEnded a b) → OnOk r (MovesLines a b []) → SaysNothing a b → OnOk r (On k b now)
  closed_at (Ok more) a b u replica c moves quiet = goes_further (M k) k setup start event told a b u moves (λ bytes joins. closes_turn (M k) k setup bytes joins a b replica c quiet)
  closed_at (Err f) a b u replica c moves quiet = tt

-- if nothing was left but to look at a connection
pub ends_closed : {F : Type 0} (r : Result Bool F) (a b : Running) → MayEnd (moment_of a) → IfOk r (λ more. more ≡ false → (b ≡ a) × (b.heard ≡ None)) → IfOk r (λ more. more ≡ false → MayEnd (moment_of b))
ends_closed (Ok more) a b end f = λ q. subst (λ (n : Running). MayEnd (moment_of n)) (sym (f q).0) end
ends_closed (Err f) a b end none = tt

-- after the last of clients' messages
pub ends_behind : (old a b : Running) → a ≡ old → IsGoing b → old.applied.index ≡ old.replica.raft.commit → old.due.items ≡ [] → b.replica ≡ a.replica → b.applied.index ≡ a.applied.index → b.due.items ≡ a.due.items → (clients_in b).turns ≡ []
    → NoneIsDue (clients_in a) → (clients_in b).sessions ≡ (clients_in a).sessions → MayEnd (moment_of b) × AtRest b
ends_behind old a b same going applied due replica index dues turns none sessions =
    let at : b.applied.index ≡ b.replica.raft.commit = index ∙ ap (λ (n : Running). n.applied.index) same ∙ applied ∙ ap (λ (n : Running). n.replica.raft.commit) (sym same) ∙ ap (λ (r : ReplicaValue). r.raft.commit) (sym replica) in
    let idle : b.due.items ≡ [] = dues ∙ ap (λ (n : Running). n.due.items) same ∙ due in
    (may_end b going at idle turns (λ conn. ap (λ (g : Gateway). is_due (g.session conn).later) sessions ∙ none conn), at_rest b going at idle)

-- ---- what the step says

pub steps_said : {F : Type 0} {before now : Option Told} (m : Meaning) (kind : EngineKind) (setup : Setup) (a b c : Running) (event : Event) (r : Result StepOutputs F) → Underway m kind setup a b event before now → MayEnd (moment_of b) → b.replica.raft.id ≡ b.replica.id → IsQuiet a → b.heard ≡ None → (b.has_links ≡ true → first_waiting b.links.all.items ≡ None)
    → c ≡ record b { outs = c.outs; mail = c.mail } → IfOk r (λ outs. (outs.replies.items ≡ b.outs.replies.items) × (outs.closed.items ≡ b.outs.closed.items)) → IfOk r (λ outs. outs.messages.items ≡ sent b.mail)
    → IfOk r (λ outs. outs.reads.items ≡ b.outs.reads.items) → IfOk r (λ outs. AccountsForStep m kind setup a c event outs before now)
steps_said m kind setup a b c event (Ok outs) u end id quiet heard none rest said messages reads =
    underway_ends m kind setup a b c event outs u end id quiet.mail quiet.replies quiet.reads (ap seen rest) messages said.0 reads (ap (λ (n : Running). n.has_links) rest)
    (since_ends event a b c outs (messages_of (u.begins ++ u.begin ∷ [])) u.lines quiet.closed (ap lines_in rest) said.1 (ap (λ (n : Running). n.heard) rest ∙ heard)
    (subst (λ (n : Running). n.has_links ≡ true → first_waiting n.links.all.items ≡ None) (sym rest) none))
steps_said m kind setup a b c event (Err f) u end id quiet heard none rest said messages reads = tt
