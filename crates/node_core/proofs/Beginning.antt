-- What an event brings, as the beginning of its act.
use Rattle.std.proofs.Common.{◌≡◌, inl, inr, ⊎_elim, ℕ, Bool, false, List, [], ◌∷◌, Option, Some, None, refl, sym, ap, subst}
use Rattle.sql_engine.specs.declared.kind.EngineKind.{EngineKind}
use Rattle.sql_engine.specs.Meanings.{Meaning, Told}
use Rattle.session_outcomes.specs.declared.job.Read.{Read}
use Rattle.session_outcomes.specs.Reading.{read_named}
use Rattle.raft_spec.specs.Node.{Input, Local, Snapped}
use Rattle.raft_messages.specs.declared.message.RaftMessage.{RaftMessage}
use Rattle.raft_core.specs.declared.event.RaftEvent.{RaftEvent}
use Rattle.raft_core.specs.declared.event.RaftEvent.TheVariants as raft_events
use Rattle.raft_core.specs.Events.{input_of}
use Rattle.raft_safety.specs.Members.{Setup}
use Rattle.raft_on_disk.specs.Replicas.{ReplicaValue, kept_of}
use Rattle.node_spec.specs.ClientTurns.{Stays, Connects, HangsUp}
use Rattle.node_spec.specs.RaftTurns.{SnapshotGoes}
use Rattle.node_core.specs.declared.event.Event.TheVariants as happens
use Rattle.node_core.specs.declared.running.Running.{Running}
use Rattle.node_core.specs.Account.{moment_of, Brought, Begin, Happens, Comes, Compacts, inputs_of, bytes_of, joins_of, read_of, IsLost, Brings, told_of, Comes_in, Fresh, SoFar}
use Rattle.node_core.specs.Taking.{TurnsInTerm, bytes_with, came_by, IsLostBy, BeganStep, takes, loses, KeepsSnapshot}
use Rattle.node_core.specs.Performing.{SaysNothing, MayConnect, MayClose, ReceivesBytes, DeliversRead}
use Rattle.node_core.specs.Voters.{Beside}
use Rattle.node_core.proofs.Accounting.{SinceIn, says_none, nothing_since, since_fresh}
use Rattle.node_core.proofs.Besides.{beside_none, beside_same, beside_from}
use Rattle.node_core.proofs.TurnsOf.{turns_stays, turns_hangs, since_turn, since_connects, since_hears, since_reads, since_snapshot}

made : {m : Meaning} {kind : EngineKind} {setup : Setup} {a b : Running} {begin : Begin} {late : Bool} {before now : Option Told} {inputs : List Input} (x : Brought) → Comes_in a begin x → SinceIn m kind setup x late a b before now inputs →
    Beside setup a b x.bytes inputs → SoFar m kind setup a b begin before now
made {setup = setup} {a = a} {b = b} {late = late} x comes s beside = record { brought = x; late = late; comes = comes; since = s.0; beside = subst (Beside setup a b x.bytes) (sym s.1) beside }

-- ---- an event of Raft's

-- an act begins with it
pub record BeginsWith (old : Running) (begin : Begin) (e : RaftEvent) : Type 0 where
  pub inputs : input_of e ∷ [] ≡ inputs_of begin
  pub bytes : bytes_with e ≡ bytes_of begin
  pub joins : None ≡ joins_of begin
  pub read : None ≡ read_of begin
  pub asks : Brings old begin (λ conn. [])
  pub lost : IsLostBy old e → IsLost old begin

pub begins_raft : {before now : Option Told} (m : Meaning) (kind : EngineKind) (setup : Setup) (old new : Running) (begin : Begin) (e : RaftEvent) → BeginsWith old begin e → BeganStep m kind setup old new e before now → SoFar m kind setup old new begin before now
begins_raft m kind setup old new begin e w (takes since beside) = record {
  brought = came_by e;
  late = false;
  comes = record { inputs = inl w.inputs; bytes = w.bytes; joins = w.joins; read = w.read; asks = w.asks };
  since = since;
  beside = beside;
}
begins_raft {before} {now} m kind setup old new begin e w (loses lost same told) =
    let x : Brought = record { inputs = []; bytes = bytes_with e; joins = None; read = None; asks = λ conn. [] } in
    let s = subst (λ (now : Option Told). SinceIn m kind setup x false old new before now []) told (subst (λ (n : Running). SinceIn m kind setup x false old n before before []) (sym same) (nothing_since m kind setup x old refl (λ conn. refl))) in
    record {
      brought = x;
      late = false;
      comes = record { inputs = inr (w.lost lost, refl); bytes = w.bytes; joins = w.joins; read = w.read; asks = w.asks };
      since = s.0;
      beside = subst (Beside setup old new x.bytes) (sym s.1) (subst (λ (n : Running). Beside setup old n x.bytes []) (sym same) (beside_none setup x.bytes old));
    }

pub with_timeout : (old : Running) → BeginsWith old (Happens happens.Timeout) raft_events.Timeout
with_timeout old = record { inputs = refl; bytes = refl; joins = refl; read = refl; asks = λ conn. refl; lost = λ h. h }

pub with_beat : (old : Running) → BeginsWith old (Happens happens.Beat) raft_events.Beat
with_beat old = record { inputs = refl; bytes = refl; joins = refl; read = refl; asks = λ conn. refl; lost = λ h. h }

pub with_yield : (old : Running) → BeginsWith old (Happens happens.Yield) raft_events.Yield
with_yield old = record { inputs = refl; bytes = refl; joins = refl; read = refl; asks = λ conn. refl; lost = λ h. h }

pub with_peer : (old : Running) (message : RaftMessage) → BeginsWith old (Happens (happens.Peer message)) (raft_events.Message message)
with_peer old message = record { inputs = refl; bytes = refl; joins = refl; read = refl; asks = λ conn. refl; lost = λ h. h }

pub with_letter : (old : Running) (message : RaftMessage) → BeginsWith old (Comes message) (raft_events.Message message)
with_letter old message = record { inputs = refl; bytes = refl; joins = refl; read = refl; asks = λ conn. refl; lost = λ h. h }

-- ---- an own snapshot

pub begins_compact : {told : Option Told} (m : Meaning) (kind : EngineKind) (setup : Setup) (old new : Running) → SnapshotGoes m kind → KeepsSnapshot setup old new → SoFar m kind setup old new (Compacts old.applied.index) told told
begins_compact m kind setup old new law c =
    let s = since_snapshot m kind setup old new c.id [] law old.applied.index c.letters c.takes c.says c.sent in
    record {
      brought = record { inputs = Local (Snapped old.applied.index) ∷ []; bytes = []; joins = None; read = None; asks = λ conn. [] };
      late = false;
      comes = record { inputs = inl refl; bytes = refl; joins = refl; read = refl; asks = λ conn. refl };
      since = s.0;
      beside = subst (Beside setup old new []) (sym s.1) c.beside;
    }

-- ---- a client's events

module _ (m : Meaning) (kind : EngineKind) (setup : Setup) (old new : Running) where
  pub begins_connect : {told : Option Told} → (conn : ℕ) → MayConnect old new conn → SaysNothing old new → new.replica ≡ old.replica → SoFar m kind setup old new (Happens (happens.Connect conn)) told told
  begins_connect conn c quiet replica =
      let id = ap (λ (r : ReplicaValue). r.id) replica in
      let says = says_none old new quiet.mail quiet.replies quiet.reads in
      let same = beside_same setup [] old new replica quiet.members quiet.links in
      let x : Brought = record { inputs = []; bytes = []; joins = Some conn; read = None; asks = λ other. [] } in
      let comes : Comes_in old (Happens (happens.Connect conn)) x = record { inputs = inl refl; bytes = refl; joins = refl; read = refl; asks = λ other. refl } in
      ⊎_elim
      (λ (s : Stays (moment_of old) (moment_of new)). made x comes (since_turn m kind setup old new id x [] refl (λ other. refl) (turns_stays m kind setup old new id [] (Some conn) s says)) same)
      (λ (s : Connects (moment_of old) (moment_of new) conn). made x comes (since_connects m kind setup old new id conn s says) same)
      c

  pub begins_hangup : {told : Option Told} → (conn : ℕ) → MayClose old new conn → SaysNothing old new → new.replica ≡ old.replica → SoFar m kind setup old new (Happens (happens.Hangup conn)) told told
  begins_hangup conn c quiet replica =
      let id = ap (λ (r : ReplicaValue). r.id) replica in
      let says = says_none old new quiet.mail quiet.replies quiet.reads in
      let same = beside_same setup [] old new replica quiet.members quiet.links in
      let x : Brought = record { inputs = []; bytes = []; joins = None; read = None; asks = λ other. [] } in
      let comes : Comes_in old (Happens (happens.Hangup conn)) x = record { inputs = inl refl; bytes = refl; joins = refl; read = refl; asks = λ other. refl } in
      ⊎_elim
      (λ (s : Stays (moment_of old) (moment_of new)). made x comes (since_turn m kind setup old new id x [] refl (λ other. refl) (turns_stays m kind setup old new id [] None s says)) same)
      (λ (s : HangsUp (moment_of old) (moment_of new) conn). made x comes (since_turn m kind setup old new id x [] refl (λ other. refl) (turns_hangs m kind setup old new id [] None conn s says)) same)
      c

  pub begins_bytes : {told : Option Told} → (conn : ℕ) (bytes : List ℕ) → ReceivesBytes old new conn bytes → SaysNothing old new → new.replica ≡ old.replica → SoFar m kind setup old new (Happens (happens.Bytes conn bytes)) told told
  begins_bytes conn bytes h quiet replica =
      let id = ap (λ (r : ReplicaValue). r.id) replica in
      let says = says_none old new quiet.mail quiet.replies quiet.reads in
      let same = beside_same setup [] old new replica quiet.members quiet.links in
      let x : Brought = record { inputs = []; bytes = []; joins = None; read = None; asks = h.0 } in
      let comes : Comes_in old (Happens (happens.Bytes conn bytes)) x = record { inputs = inl refl; bytes = refl; joins = refl; read = refl; asks = h.2 } in
      made x comes (since_hears m kind setup old new id h.0 h.1 says) same

-- ---- a reader is done

-- only which jobs are out has changed
fresh_lent : (old mid : Running) → mid ≡ record old { lent = mid.lent; view = record old.view { readers = mid.view.readers } } → Fresh old mid
fresh_lent old mid is = record {
  moment = ap moment_of is;
  mail = ap (λ (n : Running). n.mail) is;
  replies = ap (λ (n : Running). n.outs.replies.items) is;
  reads = ap (λ (n : Running). n.outs.reads.items) is;
  kept = ap (λ (n : Running). kept_of n.replica) is;
  id = ap (λ (n : Running). n.replica.id) is;
  links = ap (λ (n : Running). n.has_links) is;
}

module _ (m : Meaning) (kind : EngineKind) (setup : Setup) (old mid : Running) (conn : ℕ) (read : Read) (is : mid ≡ record old { lent = mid.lent; view = record old.view { readers = mid.view.readers } }) where
  abbrev told : Brought
  told = record { inputs = []; bytes = []; joins = None; read = told_of conn (read_named read); asks = λ other. [] }

  comes_told : Comes_in old (Happens (happens.ReadDone conn read)) told
  comes_told = record { inputs = inl refl; bytes = refl; joins = refl; read = refl; asks = λ other. refl }

  -- what only changes before it doesn't count
  told_fresh : {late : Bool} {before now : Option Told} (new : Running) (x : Brought) (inputs : List Input) → SinceIn m kind setup x late mid new before now inputs → SinceIn m kind setup x late old new before now inputs
  unfolding since_fresh
  told_fresh {late} new x inputs s = (since_fresh m kind setup x late old mid new (fresh_lent old mid is) s.0, s.1)

  told_beside : (new : Running) (inputs : List Input) → Beside setup mid new [] inputs → Beside setup old new [] inputs
  told_beside new inputs beside = beside_from setup [] old mid new inputs (fresh_lent old mid is) beside

  -- no job of the connection was out
  pub begins_unread : {told : Option Told} → SoFar m kind setup old mid (Happens (happens.ReadDone conn read)) told told
  begins_unread = made told comes_told (told_fresh mid told [] (nothing_since m kind setup told mid refl (λ other. refl))) (told_beside mid [] (beside_none setup [] mid))

  -- the query was run here
  pub begins_given_back : {before now : Option Told} → (new : Running) → TurnsInTerm m kind setup [] None mid new before now → new.replica ≡ mid.replica → SoFar m kind setup old new (Happens (happens.ReadDone conn read)) before now
  begins_given_back new t replica =
      let inputs = t.turns.piece.inputs in
      made told comes_told (told_fresh new told inputs (since_turn m kind setup mid new (ap (λ (r : ReplicaValue). r.id) replica) told inputs refl (λ other. refl) (t.turns, refl))) (told_beside new inputs t.beside)

  pub begins_told : {told : Option Told} → (new : Running) → DeliversRead mid new conn (read_named read) → new.replica ≡ mid.replica → SoFar m kind setup old new (Happens (happens.ReadDone conn read)) told told
  begins_told new (inl s) replica =
      let id = ap (λ (r : ReplicaValue). r.id) replica in
      made told comes_told
      (told_fresh new told [] (since_turn m kind setup mid new id told [] refl (λ other. refl) (turns_stays m kind setup mid new id [] None s.0 (says_none mid new s.1.mail s.1.replies s.1.reads))))
      (told_beside new [] (beside_same setup [] mid new replica s.1.members s.1.links))
  begins_told new (inr r) replica =
      let reply = r.0 in
      let x : Brought = record { inputs = []; bytes = []; joins = None; read = Some (conn, reply); asks = λ other. [] } in
      let comes : Comes_in old (Happens (happens.ReadDone conn read)) x = record { inputs = inl refl; bytes = refl; joins = refl; read = sym (ap (told_of conn) r.1.0); asks = λ other. refl } in
      made x comes (told_fresh new x [] (since_reads m kind setup mid new (ap (λ (q : ReplicaValue). q.id) replica) conn reply r.1.1.0 r.1.1.1)) (told_beside new [] (beside_same setup [] mid new replica r.1.1.2.members r.1.1.2.links))
