-- The turn in which a snapshot came, as the account has it.
use Rattle.std.proofs.Common.{◌≡◌, ◌⊎◌, inl, inr, ℕ, ◌≤◌, ◌<◌, Bool, true, false, true≢false, List, [], ◌∷◌, ◌++◌, refl, sym, ap, subst, ◌∙◌, append_assoc}
use Rattle.std.specs.Prelude.{◌≢◌, Option, Some, None}
use Rattle.std.proofs.lemmas.Bool.{ltb-true}
use Rattle.database_state.specs.Machines.{IsMachine}
use Rattle.session_spec.specs.Events.{on_lost, told_lost}
use Rattle.session_spec.specs.Machine.{files}
use Rattle.session_spec.specs.Seen.{log_seen}
use Rattle.session_spec.specs.Sessions.{Reply}
use Rattle.raft_spec.specs.Log.{LogEnd}
use Rattle.raft_spec.specs.Node as raft
use Rattle.raft_spec.specs.Node.{Server, Follower, is_leader}
use Rattle.raft_spec.specs.NodeValues.{NodeValue, node_of}
use Rattle.raft_messages.specs.declared.message.RaftMessage.{RaftMessage}
use Rattle.raft_messages.specs.declared.message.Snapshot.{Snapshot}
use Rattle.raft_messages.specs.declared.message.MessageBody.{MessageBody}
use Rattle.raft_messages.specs.declared.message.MessageBody.TheVariants as whats
use Rattle.raft_messages.specs.Messages.{message_value}
use Rattle.raft_messages.specs.Servers as servers
use Rattle.wire_words.specs.Reading as reading
use Rattle.raft_core.specs.declared.event.RaftEvent.{RaftEvent}
use Rattle.raft_core.specs.declared.event.RaftEvent.TheVariants as events
use Rattle.raft_core.specs.Events.{input_of, offered}
use Rattle.raft_membership.specs.Members.{read_setup}
use Rattle.client_sessions.specs.Calls.{told_all_lost}
use Rattle.client_sessions.specs.Clients.{Clients}
use Rattle.client_sessions.specs.Seen.{clients_of}
use Rattle.database_state.specs.Machines.{names_of}
use Rattle.raft_on_disk.specs.Looking.{puts_snapshot}
use Rattle.node_core.specs.Taking.{IsLostBy}
use Rattle.store_laws.specs.Store.{Snap}
use Rattle.applied_state.specs.declared.applied.Applied.{Applied}
use Rattle.applied_state.specs.declared.leadership.Leadership.{Leadership as Held}
use Rattle.applied_state.specs.Applied.{ShowsFiles}
use Rattle.applied_state.specs.Snapshot.{snapshot_body, snapshot_in, offered_to, SpellsSnapshot, made_by, commits_of}
use Rattle.raft_on_disk.specs.Replicas as replicas
use Rattle.raft_on_disk.specs.Replicas.{ReplicaValue, IsIntake, stepped}
use Rattle.node_spec.specs.RaftTurns.{HasEnded, LeadershipFollows, in_office, loses, has_none}
use Rattle.node_spec.proofs.EndedSessions.{ends_on_holds}
use Rattle.node_core.specs.declared.running.Running.{Running}
use Rattle.node_core.specs.Account as account
use Rattle.node_core.specs.Account.{proposals_in, moment_of}
use Rattle.node_core.specs.Posting.{Posts, MaybeToldServers, told_inputs, LosesLeadership, FollowsLeadership, StepsWithSnapshot, TurnsWithSnapshot}
use Rattle.node_core.specs.Stepping.{Brings, HasStepped, HasTold, KeepsRest}
use Rattle.node_core.specs.Values.{clients_in, waiting_on}
use Rattle.node_core.specs.Voters.{Beside}
use Rattle.node_core.specs.Whole.{InOffice, LeadsInOffice, ServesLast, IsFree, IsLed, IsGoing}
use Rattle.node_core.proofs.Accounting.{sends_join}
use Rattle.node_core.proofs.ClientTurns.{sends_so}
use Rattle.node_core.proofs.Installing.{brought}
use Rattle.node_core.proofs.OfficeBridges.{lost_sessions, lost_streams, ends_once}
use Rattle.node_core.proofs.OwnTurns.{told_same}
use Rattle.node_core.proofs.Posting.{shows, posts_on}
use Rattle.node_core.proofs.RaftBridges.{brings_so}
use Rattle.node_core.proofs.SnapshotMoves.{comes_to_none}
use Rattle.node_core.proofs.Stepped.{fresh_view}

-- ---- the leadership

-- sessions and replies after Raft's step
ways : (old step : Running) (replies : List (ℕ × Reply)) → LeadershipFollows (moment_of old) (moment_of step) replies →
    (((clients_in step).sessions ≡ (clients_in old).sessions) × (replies ≡ [])) ⊎ (((clients_in step).sessions ≡ on_lost (clients_in old).sessions) × (replies ≡ told_lost (clients_in old).sessions))
ways old step replies (in_office a b t s v r) = inl (s, r)
ways old step replies (loses a b s v r) = inr (s, r)
ways old step replies (has_none a h s u v r) = inl (s, r)

ended_by : (o : Option Held) (n : Running) → InOffice o n.view.serving n.replica.raft → IsFree o (moment_of n) → is_leader n.replica.raft.role ≡ false → HasEnded (clients_in n).sessions
ended_by None n office free down = free.0
ended_by (Some o) n office free down = absurd (true≢false (sym office.0 ∙ down))

unserved_by : (o : Option Held) (serving : Bool) (h : NodeValue) → InOffice o serving h → is_leader h.role ≡ false → serving ≡ false
unserved_by None serving h office down = office
unserved_by (Some o) serving h office down = absurd (true≢false (sym office.0 ∙ down))

-- ---- what came

-- a message that brings none of the snapshots that can be read counts as lost
none_in : snapshot_in [] ≡ None
unfolding snapshot_in snapshot_body servers.servers_at reading.word_at
none_in = refl

none_of : (w : MessageBody) → ((s : Snapshot) → w ≢ whats.Install s) → account.bytes_in w ≡ []
none_of (whats.Install s) other = absurd (other s refl)
none_of (whats.AskVote last transfer) other = refl
none_of (whats.Vote granted) other = refl
none_of (whats.Append prev commit entries) other = refl
none_of (whats.Ack good index) other = refl
none_of whats.TimeoutNow other = refl

pub lost_other : (n : Running) (m : RaftMessage) (event : RaftEvent) → event ≡ events.Message m → puts_snapshot n.replica m ≡ true → ((s : Snapshot) → m.what ≢ whats.Install s) → IsLostBy n event
lost_other n m event is puts other = subst (IsLostBy n) (sym is) (record {
  puts = puts;
  unread = ap (λ (l : List ℕ). offered_to (names_of n.applied.machine) (snapshot_in l)) (none_of m.what other) ∙ ap (offered_to (names_of n.applied.machine)) none_in;
})

pub placed_clients : (lost placed : Running) (a : Applied) → placed ≡ record lost { members = placed.members; applied = placed.applied } → placed.applied ≡ a → clients_of lost.clients a.machine ≡ clients_of lost.clients lost.applied.machine → clients_in placed ≡ clients_in lost
placed_clients lost placed a is applied same = ap clients_in is ∙ ap (λ (x : Applied). clients_of lost.clients x.machine) applied ∙ same

-- the snapshot is past the commit index
comes : (old step : Running) (event : RaftEvent) (a : Applied) → Brings old.replica event a → node_of step.replica.raft ≡ stepped old.replica event → old.replica.raft.commit < step.replica.raft.snapshot.index
comes old step event a b node =
    subst (λ (s : raft.Node). old.replica.raft.commit < s.snapshot.index) (sym node) (subst (λ (e : RaftEvent). old.replica.raft.commit < (stepped old.replica e).snapshot.index) (sym b.event_is) (ltb-true _ _ b.puts))

bytes_of_offer : (event : RaftEvent) (r : ReplicaValue) (a : Applied) (b : Brings r event a) → replicas.bytes_in (offered event) ≡ account.bytes_in b.message.what
bytes_of_offer event r a b =
    ap (λ (e : RaftEvent). replicas.bytes_in (offered e)) b.event_is ∙ ap (λ (w : MessageBody). replicas.bytes_in (offered (events.Message (record b.message { what = w })))) b.what_is ∙ sym (ap account.bytes_in b.what_is)

pub follows_behind_snapshot : (old step : Running) (event : RaftEvent) (a : Applied) → IsGoing old → Brings old.replica event a → node_of step.replica.raft ≡ stepped old.replica event → step.replica.raft.role ≡ Follower
follows_behind_snapshot old step event a g b node =
    let h = old.replica.raft in
    let low : h.snapshot.index ≤ h.commit = g.holds.replica.coherent.applied in
    ap (λ (s : raft.Node). s.role) node ∙ ap (λ (e : RaftEvent). (stepped old.replica e).role) b.event_is
    ∙ comes_to_none h.id (node_of h) (message_value b.message) low (ltb-true _ _ b.puts)

pub brings_intake : (r : ReplicaValue) (event : RaftEvent) (a : Applied) → Brings r event a → IsIntake event
brings_intake r event a b = subst IsIntake (sym b.event_is) tt

-- ---- the turn

pub installs_so : (opening : List Server) (old step lost placed : Running) (event : RaftEvent) (batch : Option ℕ) (a : Applied) → IsGoing old → IsLed old → old.due.items ≡ [] → (b : Brings old.replica event a) → HasStepped old step event batch →
    Posts old step (input_of event) → FollowsLeadership old step → LosesLeadership step lost → KeepsRest step lost → lost.replica ≡ step.replica → lost.mail ≡ step.mail → lost.view.serving ≡ step.view.serving →
    placed ≡ record lost { members = placed.members; applied = placed.applied } → placed.applied ≡ a → IsMachine placed.applied.machine → clients_in placed ≡ clients_in lost →
    StepsWithSnapshot (read_setup opening) old placed (account.bytes_in b.message.what) (message_value b.message)
installs_so opening old step lost placed event batch a g led idle b s posts offices ends rest replica mail serving is applied machine clients =
    let p = posts_on old step placed (input_of event) placed_replica placed_mail posts in
    let q : Posts old placed (raft.Receive (message_value b.message)) = subst (λ (e : RaftEvent). Posts old placed (input_of e)) b.event_is p in
    let once = ends_once (clients_in old).sessions (clients_in step).sessions (clients_in placed).sessions offices.replies (ways old step offices.replies offices.office)
    (ap (λ (k : Clients). k.sessions) clients ∙ lost_sessions (clients_in step) (clients_in lost) ends.clients) in
    record {
      posts = q;
      replies = offices.replies ++ told_lost (clients_in step).sessions;
      installs = record {
        idle = ap proposals_in idle;
        due = ap proposals_in (ap (λ (n : Running). n.due.items) is ∙ rest.due ∙ s.rest.due ∙ idle);
        step = q.steps;
        comes = subst (λ (r : ReplicaValue). old.replica.raft.commit < r.raft.snapshot.index) (sym placed_replica) past;
        kept = ap (λ (r : ReplicaValue). r.snap.bytes) placed_replica ∙ brings_so (moment_of step) old.replica step.replica event (shows step) (subst (λ (n : raft.Node). old.replica.raft.commit < n.snapshot.index) s.node past) s.snap
            ∙ bytes_of_offer event old.replica a b;
        applied = ap (λ (x : Applied). x.index) applied ∙ sym index;
        shows = λ front long spells.
            subst (ShowsFiles (commits_of front) (files (log_seen front))) (sym (ap (λ (x : Applied). x.machine) applied))
            (b.shows opening front (long ∙ index ∙ b.restored.index_is) (subst (SpellsSnapshot (made_by opening front)) (ap account.bytes_in b.what_is) spells)).databases;
        machine = machine;
        sessions = once.0;
        tells = once.1;
        ended = ended_by old.office old g.office led.free;
        unserved = unserved_by old.office old.view.serving old.replica.raft g.office;
        serving = λ down. ap (λ (n : Running). n.view.serving) is ∙ serving ∙ unserved_by step.office step.view.serving step.replica.raft s.office (ap (λ (r : ReplicaValue). is_leader r.raft.role) (sym placed_replica) ∙ down);
        waiting = λ conn. ap (λ (k : Clients). waiting_on (k.streams conn)) clients ∙ ap waiting_on (lost_streams (clients_in step) (clients_in lost) ends.clients conn) ∙ offices.waiting conn;
      };
      told = offices.told ++ told_all_lost (clients_in step);
      outs = ap (λ (n : Running). n.outs.replies.items) is ∙ ends.told ∙ ap (λ l. l ++ told_all_lost (clients_in step)) offices.outs ∙ append_assoc old.outs.replies.items offices.told (told_all_lost (clients_in step));
      tells = sends_join offices.replies (told_lost (clients_in step).sessions) offices.told (told_all_lost (clients_in step)) offices.tells (sends_so (told_lost (clients_in step).sessions) (told_all_lost (clients_in step)) refl);
      reads = ap (λ (n : Running). n.outs.reads.items) is ∙ ends.reads ∙ offices.reads;
    }
  where
    placed_replica : placed.replica ≡ step.replica
    placed_replica = ap (λ (n : Running). n.replica) is ∙ replica

    placed_mail : placed.mail ≡ step.mail
    placed_mail = ap (λ (n : Running). n.mail) is ∙ mail

    past : old.replica.raft.commit < step.replica.raft.snapshot.index
    past = comes old step event a b s.node

    index : placed.replica.raft.snapshot.index ≡ a.index
    index = ap (λ (r : ReplicaValue). r.raft.snapshot.index) placed_replica ∙ ap (λ (l : LogEnd). l.index) s.whole.snap ∙ ap (λ (x : Snap). x.index) s.snap ∙ brought old.replica event a b

pub installs_on : (opening : List Server) (old placed last new : Running) (event : RaftEvent) (a : Applied) (b : Brings old.replica event a) → StepsWithSnapshot (read_setup opening) old placed (account.bytes_in b.message.what) (message_value b.message) → (tells : MaybeToldServers placed last) →
    Beside (read_setup opening) old last (account.bytes_in b.message.what) (raft.Receive (message_value b.message) ∷ told_inputs tells) → new ≡ record last { view = new.view } → new.view.serving ≡ last.view.serving → TurnsWithSnapshot (read_setup opening) old new event
installs_on opening old placed last new event a b i tells beside is same = record {
  beside = beside;
  message = b.message;
  event_is = b.event_is;
  mid = placed;
  installs = i;
  last = last;
  tells = tells;
  fresh = fresh_view last new last.office new.view is same;
}

leads_not : (o : Option Held) (h : NodeValue) → is_leader h.role ≡ false → LeadsInOffice o h
leads_not None h down = down
leads_not (Some o) h down = tt

free_lost : (o : Option Held) (step new : Running) → (clients_in new).sessions ≡ on_lost (clients_in step).sessions → new.due.items ≡ [] → IsFree o (moment_of new)
free_lost None step new sessions due = (subst HasEnded (sym sessions) (ends_on_holds.lost_all (clients_in step).sessions), ap proposals_in due)
free_lost (Some o) step new sessions due = tt

pub installed_led : (old step lost placed last new : Running) (event : RaftEvent) (batch : Option ℕ) (a : Applied) → IsGoing old → old.due.items ≡ [] → Brings old.replica event a → HasStepped old step event batch → ServesLast step.office step.view.serving →
    LosesLeadership step lost → KeepsRest step lost → lost.replica ≡ step.replica → (lost.office ≡ step.office) × (lost.view.serving ≡ step.view.serving) → placed ≡ record lost { members = placed.members; applied = placed.applied } → clients_in placed ≡ clients_in lost →
    HasTold placed last → MaybeToldServers placed last → new ≡ record last { view = new.view } → new.view.serving ≡ last.view.serving → IsLed new
installed_led old step lost placed last new event batch a g idle b s serves ends rest replica office is clients t tells new_is same = record {
  leads = leads_not new.office new.replica.raft (ap (λ (n : Running). is_leader n.replica.raft.role) new_is ∙ (told_same placed last tells).leads ∙ ap (λ (n : Running). is_leader n.replica.raft.role) is ∙ ap (λ (r : ReplicaValue). is_leader r.raft.role) replica
      ∙ ap is_leader (follows_behind_snapshot old step event a g b s.node));
  serves = subst (λ (o : Option Held). ServesLast o new.view.serving) (sym (behind ∙ office.0)) (subst (ServesLast step.office) (sym serving) serves);
  free = free_lost new.office step new
      (ap (λ (n : Running). (clients_in n).sessions) new_is ∙ ap (λ (n : Running). (clients_in n).sessions) t.is ∙ ap (λ (k : Clients). k.sessions) clients ∙ lost_sessions (clients_in step) (clients_in lost) ends.clients)
      (ap (λ (n : Running). n.due.items) new_is ∙ ap (λ (n : Running). n.due.items) t.is ∙ ap (λ (n : Running). n.due.items) is ∙ rest.due ∙ s.rest.due ∙ idle);
}
  where
    behind : new.office ≡ lost.office
    behind = ap (λ (n : Running). n.office) new_is ∙ ap (λ (n : Running). n.office) t.is ∙ ap (λ (n : Running). n.office) is

    serving : new.view.serving ≡ step.view.serving
    serving = same ∙ ap (λ (n : Running). n.view.serving) t.is ∙ ap (λ (n : Running). n.view.serving) is ∙ office.1
