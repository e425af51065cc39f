-- What the parts of a turn in which an event of Raft happens make of a node, exactly.
use Rattle.std.proofs.Common.{◌≡◌, ◌≢◌, ◌≤◌, ◌<◌, ℕ, suc, Bool, true, false, true≢false, cond, option_map, List, [], ◌∷◌, ◌++◌, length, map, get_or, take, drop, refl, sym, ap, subst, ◌∙◌, arith}
use Rattle.std.specs.List.{filter}
use Rattle.std.specs.Prelude.{Option, Some, None, is_some, ◌&&◌, ◌||◌, ◌+◌, ◌-◌, nat_lt}
use Rattle.std.proofs.lemmas.List.{map-append, take_more}
use Rattle.std.proofs.lemmas.List.Elements.{filter-append}
use Rattle.std.proofs.lemmas.Bool.{cond-true, cond-false, lt-ltb, le-ltb, or_parts}
use Rattle.database_state.specs.declared.database.Database.{Database}
use Rattle.database_state.specs.Machines.{names_of}
use Rattle.database_state.specs.Restoring.{restored}
use Rattle.session_spec.specs.Machine.{machine_of}
use Rattle.session_spec.specs.Sessions.{Reply, View}
use Rattle.session_table.specs.Sweeping.{all_told}
use Rattle.raft_spec.specs.Compaction.{compacted_step}
use Rattle.raft_spec.specs.Log.{Entry, LogEnd, log_end}
use Rattle.raft_spec.specs.Node.{Role, Leader, Candidate, Follower, Node, Server, is_leader}
use Rattle.raft_spec.specs.NodeValues.{NodeValue, node_of}
use Rattle.raft_safety.specs.Members.{any_change, changes, is_change, reads}
use Rattle.raft_membership.specs.Members.{Configurations, all_changed, configuration_in, cut_at, first_of, last_servers, read_setup}
use Rattle.raft_messages.specs.Servers.{configuration_of}
use Rattle.raft_messages.specs.declared.message.RaftMessage.{RaftMessage}
use Rattle.raft_messages.specs.declared.message.Snapshot.{Snapshot}
use Rattle.raft_messages.specs.declared.message.MessageBody.{MessageBody}
use Rattle.raft_messages.specs.declared.message.MessageBody.TheVariants as whats
use Rattle.raft_core.specs.Events.{brought, input_of, offered}
use Rattle.raft_core.specs.Queries.{leader_at}
use Rattle.raft_core.specs.declared.event.RaftEvent.{RaftEvent}
use Rattle.raft_core.specs.declared.event.RaftEvent.TheVariants as due
use Rattle.client_sessions.specs.Calls.{lost_all, sent, told_all_lost, told_conns}
use Rattle.client_sessions.specs.Clients.{Clients}
use Rattle.client_sessions.specs.Seen.{clients_of}
use Rattle.client_sessions.specs.declared.clients.Clients.{Clients as Held}
use Rattle.raft_on_disk.specs.Letters.{Tells}
use Rattle.raft_on_disk.specs.Looking.{puts_snapshot}
use Rattle.raft_on_disk.specs.Mails.{MailValue, all_posted}
use Rattle.raft_on_disk.specs.Replicas.{ReplicaValue, IsWhole, HasMoved, said, snap_after, stepped}
use Rattle.applied_state.specs.Snapshot.{IsRestored, NodeSnapshot, offered_to, snapshot_in, snapshot_value}
use Rattle.applied_state.specs.declared.applied.Applied.{Applied}
use Rattle.applied_state.specs.declared.leadership.Leadership.{Leadership}
use Rattle.applied_state.specs.declared.leadership.LeadershipPhase.TheVariants.{Barrier}
use Rattle.node_core.specs.declared.outs.StepOutputs.{StepOutputs}
use Rattle.node_core.specs.declared.running.Running.{Running}
use Rattle.node_core.specs.Core.{Core, are_others, core_of, ended, evens, followed, has_lost, is_even, leaving, looked, losing, nears, replaced, showing_servers, won, won_by}
use Rattle.node_core.specs.Exact.{ChangesFrom, ExactDue, ExactInstall, OnOffered, OnPut, ExactOwnStep, ExactRaft, ExactStep, ExactTold, brings, change_for, change_in, index_of, is_follower, puts, told_behind}
use Rattle.node_core.specs.Exact as exactly
use Rattle.node_core.specs.ExactRaft.{ExactSnapshot, ExactLeadershipEnd, ExactMembersFollow, IsFrom}
use Rattle.node_core.specs.Plain.{plain_gate}
use Rattle.node_core.specs.Posting.{MayTake, ends_office}
use Rattle.node_core.specs.Values.{clients_in}
use Rattle.node_core.proofs.PlainGates.{lost_gate_plain, told_lost_plain}

-- ---- a step

changes_from : (s t : Node) (batch : Option ℕ) (installed : Bool) → s.snapshot.index ≤ s.commit → HasMoved s t batch installed → ChangesFrom (nat_lt s.commit t.snapshot.index) s t batch
changes_from s t batch true low m = subst (λ (b : Bool). ChangesFrom b s t batch) (sym (lt-ltb s.commit t.snapshot.index m.0)) m.1
changes_from s t batch false low m =
    let index : t.snapshot.index ≡ s.snapshot.index = ap (λ (e : LogEnd). e.index) m.0 in
    let past : t.snapshot.index ≤ s.commit = omega (arith, index, low) in
    subst (λ (b : Bool). ChangesFrom b s t batch) (sym (le-ltb s.commit t.snapshot.index past)) m.1

with_me : ℕ → Core → Core
with_me me w = record w { me = me }

pub step_by : (old : Running) (replica : ReplicaValue) (mail : MailValue) (event : RaftEvent) (batch : Option ℕ) (installed : Bool) (posted : List RaftMessage) → IsWhole old.replica
    → replica.id ≡ old.replica.id → node_of replica.raft ≡ stepped old.replica event → replica.snap ≡ snap_after old.replica event → Tells (said old.replica event) replica.snap posted
    → HasMoved (node_of old.replica.raft) (node_of replica.raft) batch installed → mail ≡ all_posted old.mail posted
    → ExactStep event batch (core_of old) (core_of (record old { replica = replica; mail = mail }))
unfolding core_of with_me
step_by old replica mail event batch installed posted was id made snap tells moved mails =
    let new : Running = record old { replica = replica; mail = mail } in
    let low : old.replica.raft.snapshot.index ≤ old.replica.raft.commit = was.coherent.applied in
    let mine : ExactStep event batch (with_me old.replica.raft.id (core_of old)) (with_me old.replica.raft.id (core_of new)) = record {
      posted = posted;
      tells = subst (λ s. Tells (said old.replica event) s posted) snap tells;
      moved = changes_from (node_of old.replica.raft) (stepped old.replica event) batch installed low (subst (λ (t : Node). HasMoved (node_of old.replica.raft) t batch installed) made moved);
      is = λ i. record (with_me old.replica.raft.id (core_of old)) { raft = made i; snap = snap i; mail = mails i };
    } in
    let same : ExactStep event batch (core_of old) (with_me old.replica.id (core_of new)) =
    subst (λ (me : ℕ). ExactStep event batch (with_me me (core_of old)) (with_me me (core_of new))) was.id mine in
    subst (λ (me : ℕ). ExactStep event batch (core_of old) (with_me me (core_of new))) (sym id) same

-- ---- leadership lost

pub losing_is : (old : Running) (clients : Held) (machine : List Database) (outs : StepOutputs) → clients_of clients machine ≡ lost_all (clients_in old)
    → machine_of machine ≡ machine_of old.applied.machine → outs.replies.items ≡ old.outs.replies.items ++ told_all_lost (clients_in old) → outs.closed.items ≡ old.outs.closed.items
    → core_of (record old { clients = clients; applied = record old.applied { machine = machine }; outs = outs }) ≡ losing (core_of old)
unfolding core_of
losing_is old clients machine outs lost files said closed =
    let g = (clients_in old).sessions in
    let told = sym (told_lost_plain g) in
    let sessions = ap (λ (k : Clients). plain_gate k.sessions) lost ∙ lost_gate_plain g in
    let turns = ap (λ (k : Clients). k.turns) lost ∙ ap (λ (t : List (ℕ × Reply)). (clients_in old).turns ++ told_conns (all_told t)) told in
    let replies = said ∙ ap (λ (t : List (ℕ × Reply)). old.outs.replies.items ++ sent (all_told t)) told in
    λ i. record (core_of old) {
      files = files i;
      sessions = sessions i;
      streams = (lost i).streams;
      turns = turns i;
      replies = replies i;
      closed = closed i;
    }

has_lost_is : (o : Option Leadership) (h : NodeValue) → has_lost o (node_of h) ≡ ends_office o h
has_lost_is None h = refl
has_lost_is (Some office) h = refl

pub lost_not : (old : Running) → ends_office old.office old.replica.raft ≡ false → core_of old ≡ ended (core_of old)
unfolding core_of
lost_not old stays = sym (cond-false (has_lost old.office (node_of old.replica.raft)) (losing (leaving (core_of old))) (core_of old) (has_lost_is old.office old.replica.raft ∙ stays))

pub lost_so : (old left new : Running) → ends_office old.office old.replica.raft ≡ true → left ≡ record old { office = None; view = record old.view { serving = false } }
    → core_of new ≡ losing (core_of left) → core_of new ≡ ended (core_of old)
unfolding core_of
lost_so old left new ends is lost =
    lost ∙ ap (λ (n : Running). losing (core_of n)) is
    ∙ sym (cond-true (has_lost old.office (node_of old.replica.raft)) (losing (leaving (core_of old))) (core_of old) (has_lost_is old.office old.replica.raft ∙ ends))

-- ---- configurations

pub followed_is : (old : Running) (first : ℕ) (members : Configurations) → members ≡ all_changed (cut_at old.members first) first (drop (first - 1) (node_of old.replica.raft).log)
    → core_of (record old { members = members }) ≡ followed (Some first) (core_of old)
unfolding core_of
followed_is old first members is = λ i. record (core_of old) { members = is i }

pub others_are : (old : Running) (first : ℕ) (others : Bool)
    → others ≡ (nat_lt (length (cut_at old.members first).later) (length old.members.later) || any_change (read_setup []) (drop (first - 1) (node_of old.replica.raft).log))
    → others ≡ are_others (Some first) (core_of old)
unfolding core_of
others_are old first others is = is

pub followed_untold : (old mid : Running) (batch : Option ℕ) (others : Bool) → others ≡ are_others batch (core_of old) → others ≡ false → core_of mid ≡ followed batch (core_of old)
    → ExactMembersFollow batch (core_of old) (core_of mid)
followed_untold old mid batch others is stays follows =
    subst (λ (b : Bool). ExactTold (told_behind b (followed batch (core_of old))) (followed batch (core_of old)) (core_of mid)) (sym stays ∙ is) follows

pub followed_told : (old mid new : Running) (batch : Option ℕ) (others : Bool) → others ≡ are_others batch (core_of old) → others ≡ true → core_of mid ≡ followed batch (core_of old)
    → ExactTold (told_behind true (core_of mid)) (core_of mid) (core_of new) → ExactMembersFollow batch (core_of old) (core_of new)
followed_told old mid new batch others is differs follows tells =
    subst (λ (b : Bool). ExactTold (told_behind b (followed batch (core_of old))) (followed batch (core_of old)) (core_of new)) (sym differs ∙ is)
    (subst (λ (w : Core). ExactTold (told_behind true w) w (core_of new)) follows tells)

no_follower : (r : Role) → r ≢ Follower → is_follower r ≡ false
no_follower Leader n = refl
no_follower Candidate n = refl
no_follower Follower n = absurd (n refl)

pub untold_by : (n : Running) → n.replica.raft.role ≢ Follower → ExactTold (told_behind true (core_of n)) (core_of n) (core_of n)
unfolding core_of
untold_by n other = subst (λ (b : Bool). ExactTold (cond b (Some (last_servers n.members)) None) (core_of n) (core_of n)) (sym (no_follower n.replica.raft.role other)) refl

pub told_by : (old new : Running) (servers : List Server) → old.replica.raft.role ≡ Follower → servers ≡ last_servers old.members → ExactTold (Some servers) (core_of old) (core_of new)
    → ExactTold (told_behind true (core_of old)) (core_of old) (core_of new)
unfolding core_of
told_by old new servers follows current tells =
    subst (λ (b : Bool). ExactTold (cond b (Some (last_servers old.members)) None) (core_of old) (core_of new)) (sym (ap is_follower follows))
    (subst (λ (s : List Server). ExactTold (Some s) (core_of old) (core_of new)) current tells)

-- ---- leadership won

won_some : (o : Option Leadership) (r : Node) → is_some o ≡ true → o ≡ won_by o r
won_some None r is = absurd (true≢false (sym is))
won_some (Some office) r is = refl

pub win_kept : (n : Running) → is_some n.office ≡ true → core_of n ≡ won (core_of n)
unfolding core_of
win_kept n is = λ i. record (core_of n) { office = won_some n.office (node_of n.replica.raft) is i }

won_none : (o new : Option Leadership) (r : Node) → is_some o ≡ false → new ≡ cond (is_leader r.role) (Some (record { term = r.term; phase = Barrier (length r.log) })) None → new ≡ won_by o r
won_none None new r none is = is
won_none (Some office) new r none is = absurd (true≢false none)

none_is : (o : Option Leadership) → is_some o ≡ false → o ≡ None
none_is None none = refl
none_is (Some office) none = absurd (true≢false none)

pub win_not : (n : Running) → is_some n.office ≡ false → is_leader n.replica.raft.role ≡ false → core_of n ≡ won (core_of n)
unfolding core_of
win_not n none follows =
    let r = node_of n.replica.raft in
    let is = won_none n.office n.office r none (none_is n.office none ∙ sym (cond-false (is_leader r.role) (Some (record { term = r.term; phase = Barrier (length r.log) })) None follows)) in
    λ i. record (core_of n) { office = is i }

pub ends_at : (log : List Entry) (last : LogEnd) → last ≡ log_end log → last.index ≡ length log
unfolding log_end
ends_at log last is = ap (λ (e : LogEnd). e.index) is

pub win_so : (n : Running) (office : Leadership) (term index : ℕ) → is_some n.office ≡ false → is_leader n.replica.raft.role ≡ true → term ≡ n.replica.raft.term
    → index ≡ length (node_of n.replica.raft).log → office ≡ record { term = term; phase = Barrier index } → core_of (record n { office = Some office }) ≡ won (core_of n)
unfolding core_of
win_so n office term index none leads in_term ends value =
    let r = node_of n.replica.raft in
    let so : office ≡ record { term = r.term; phase = Barrier (length r.log) } = value ∙ (λ i. record { term = in_term i; phase = Barrier (ends i) }) in
    let is = won_none n.office (Some office) r none (ap Some so ∙ sym (cond-true (is_leader r.role) (Some (record { term = r.term; phase = Barrier (length r.log) })) None leads)) in
    λ i. record (core_of n) { office = is i }

-- ---- what it is for its sessions

-- only these of its view have changed
pub looked_is : (old new : Running) (view : View) → new ≡ record old { view = view } → view.id ≡ old.view.id → view.serving ≡ old.view.serving → view.servers ≡ old.view.servers
    → view.links ≡ old.view.links → view.readers ≡ old.view.readers → view.leader ≡ leader_at old.replica.raft.leader → view.term ≡ old.replica.raft.term
    → view.last ≡ length (node_of old.replica.raft).log → view.even ≡ evens (node_of old.replica.raft) old.view.servers
    → view.near ≡ nears old.replica.id (node_of old.replica.raft) old.view.servers → core_of new ≡ looked (core_of old)
unfolding core_of
looked_is old new view is id serving servers links readers leader term last even near =
    ap core_of is ∙ (λ i. record (core_of old) {
      view = record { id = id i; leader = leader i; serving = serving i; term = term i; last = last i; servers = servers i; links = links i; readers = readers i; even = even i; near = near i };
    })

-- the applied servers are seen first
pub shown_is : (old mid new : Running) → mid ≡ record old { view = record old.view { servers = old.applied.servers } } → core_of new ≡ looked (core_of mid) → core_of new ≡ showing_servers (core_of old)
unfolding core_of
shown_is old mid new is looks = looks ∙ ap (λ (n : Running). looked (core_of n)) is

-- ---- a step, and what follows

pub follows_exactly : (event : RaftEvent) (batch : Option ℕ) (old kept told led new : Running) → ExactLeadershipEnd event batch (core_of old) (core_of kept) → ExactMembersFollow batch (core_of kept) (core_of told)
    → core_of led ≡ won (core_of told) → core_of new ≡ looked (core_of led) → exactly.ExactFollow event (core_of old) (core_of new)
follows_exactly event batch old kept told led new ends follows wins looks = record {
  batch = batch;
  mid = ends.mid;
  steps = ends.steps;
  last = core_of told;
  tells = subst (λ (w : Core). ExactMembersFollow batch w (core_of told)) ends.is follows;
  is = looks ∙ ap looked wins;
}

replaced_is : (lost put : Running) (s : NodeSnapshot) (a : Applied) → put ≡ record lost { members = put.members; applied = put.applied } → put.applied ≡ a
    → clients_of lost.clients a.machine ≡ clients_in lost
    → put.members ≡ all_changed (first_of a.servers lost.replica.snap.index) (suc lost.replica.snap.index) (drop lost.replica.snap.index (node_of lost.replica.raft).log)
    → IsFrom s a → core_of put ≡ replaced a.index s (core_of lost)
unfolding core_of
replaced_is lost put s a is applied same members from =
    let from_servers = from.servers in
    let files = from.files in
    let all = members ∙ ap (λ (servers : List Server). all_changed (first_of servers lost.replica.snap.index) (suc lost.replica.snap.index) (drop lost.replica.snap.index (node_of lost.replica.raft).log)) from_servers in
    ap core_of is ∙ ap (λ (b : Applied). core_of (record lost { members = put.members; applied = b })) applied
    ∙ (λ i. record (core_of lost) {
      members = all i;
      applied = a.index;
      servers = from_servers i;
      files = files i;
      sessions = plain_gate (same i).sessions;
      streams = (same i).streams;
      turns = (same i).turns;
    })

pub installs_exactly : (event : RaftEvent) (batch : Option ℕ) (s : NodeSnapshot) (a : Applied) (old kept lost put told new : Running) → ExactLeadershipEnd event batch (core_of old) (core_of kept)
    → core_of lost ≡ losing (core_of kept) → put ≡ record lost { members = put.members; applied = put.applied } → put.applied ≡ a → clients_of lost.clients a.machine ≡ clients_in lost
    → put.members ≡ all_changed (first_of a.servers lost.replica.snap.index) (suc lost.replica.snap.index) (drop lost.replica.snap.index (node_of lost.replica.raft).log)
    → ExactTold (told_behind true (core_of put)) (core_of put) (core_of told) → core_of new ≡ showing_servers (core_of told) → IsFrom s a
    → ExactInstall event a.index s (core_of old) (core_of new)
installs_exactly event batch s a old kept lost put told new ends loses is applied same members tells shows from =
    let placed : core_of put ≡ replaced a.index s (losing (ended ends.mid)) =
    replaced_is lost put s a is applied same members from ∙ ap (λ (w : Core). replaced a.index s w) loses ∙ ap (λ (w : Core). replaced a.index s (losing w)) ends.is in
    record {
      batch = batch;
      mid = ends.mid;
      steps = ends.steps;
      last = core_of told;
      tells = subst (λ (w : Core). ExactTold (told_behind true w) w (core_of told)) placed tells;
      is = shows;
    }

-- ---- an event from outside

pub takes_plain : (event : RaftEvent) (w v : Core) → puts event w ≡ false → exactly.ExactFollow event w v → ExactRaft event w v
takes_plain event w v none follows = subst (λ (b : Bool). OnPut event b w v) (sym none) follows

pub takes_snapshot : (event : RaftEvent) (a : Applied) (w v : Core) → (b : ExactSnapshot event w a) → ExactInstall event a.index b.state w v → ExactRaft event w v
takes_snapshot event a w v b installs =
    subst (λ (put : Bool). OnPut event put w v) (sym b.put)
    (subst (λ (state : Option NodeSnapshot). OnOffered event state w v) (sym b.found)
    (subst (λ (index : ℕ). ExactInstall event index b.state w v) b.index installs))

pub takes_none : (event : RaftEvent) (w : Core) → (puts event w ≡ true) × (brings w (offered event) ≡ None) → ExactRaft event w w
takes_none event w lost =
    subst (λ (put : Bool). OnPut event put w w) (sym lost.0) (subst (λ (state : Option NodeSnapshot). OnOffered event state w w) (sym lost.1) refl)

-- ---- what comes with an event

pub puts_nothing : (event : RaftEvent) (w : Core) → ((m : RaftMessage) → event ≢ due.Message m) → puts event w ≡ false
puts_nothing (due.Message m) w none = absurd (none m refl)
puts_nothing due.Timeout w none = refl
puts_nothing due.Beat w none = refl
puts_nothing due.Yield w none = refl
puts_nothing (due.Propose entries) w none = refl
puts_nothing (due.Transfer to) w none = refl
puts_nothing (due.Snapped at) w none = refl
puts_nothing (due.Servers servers) w none = refl

-- whether a message puts a snapshot in the place of entries, as the replica tells it
pub puts_is : (n : Running) (event : RaftEvent) (m : RaftMessage) (b : Bool) → IsWhole n.replica → event ≡ due.Message m → b ≡ puts_snapshot n.replica m → puts event (core_of n) ≡ b
unfolding core_of
puts_is n event m b whole is told =
    ap (λ (e : RaftEvent). puts e (core_of n)) is
    ∙ ap (λ (me : ℕ). nat_lt n.replica.raft.commit (compacted_step me (node_of n.replica.raft) (input_of (due.Message m))).node.snapshot.index) (sym whole.id)
    ∙ sym told

none_brought : (what : MessageBody) → ((s : Snapshot) → what ≢ whats.Install s) → brought what ≡ None
none_brought (whats.Install s) other = absurd (other s refl)
none_brought (whats.AskVote last transfer) other = refl
none_brought (whats.Vote granted) other = refl
none_brought (whats.Append prev commit entries) other = refl
none_brought (whats.Ack good index) other = refl
none_brought whats.TimeoutNow other = refl

pub brings_nothing : (event : RaftEvent) (m : RaftMessage) (w : Core) → event ≡ due.Message m → ((s : Snapshot) → m.what ≢ whats.Install s) → brings w (offered event) ≡ None
brings_nothing event m w is other = ap (λ (e : RaftEvent). brings w (offered e)) is ∙ ap (brings w) (none_brought m.what other)

-- what a message's snapshot brings
pub brings_is : (n : Running) (event : RaftEvent) (m : RaftMessage) (s : Snapshot) (bytes : List ℕ) (read : Option NodeSnapshot) → event ≡ due.Message m → m.what ≡ whats.Install s → bytes ≡ s.bytes
    → read ≡ offered_to (names_of n.applied.machine) (snapshot_in bytes) → brings (core_of n) (offered event) ≡ read
unfolding core_of
brings_is n event m s bytes read is what of told =
    ap (λ (e : RaftEvent). brings (core_of n) (offered e)) is ∙ ap (λ (x : MessageBody). brings (core_of n) (brought x)) what
    ∙ ap (λ (l : List ℕ). offered_to (names_of n.applied.machine) (snapshot_in l)) (sym of) ∙ sym told

pub brings_so : (n : Running) (event : RaftEvent) (m : RaftMessage) (s : Snapshot) (bytes : List ℕ) (a : Applied) → IsWhole n.replica → event ≡ due.Message m → m.what ≡ whats.Install s → bytes ≡ s.bytes
    → puts event (core_of n) ≡ true → option_map snapshot_value (Some a) ≡ offered_to (names_of n.applied.machine) (snapshot_in bytes) → IsRestored s.index bytes a
    → ExactSnapshot event (core_of n) a
brings_so n event m s bytes a whole is what of put told restored = record {
  state = snapshot_value a;
  put = put;
  found = brings_is n event m s bytes (Some (snapshot_value a)) is what of told;
  index = restored.index_is ∙ sym (ap (λ (e : RaftEvent). index_of (offered e)) is ∙ ap (λ (x : MessageBody). index_of (brought x)) what);
  from = record { servers = refl; files = ap machine_of restored.fresh };
}

-- ---- what the node gives Raft

pub own_exactly : (event : RaftEvent) (batch : Option ℕ) (old told made follows new : Running) → ExactTold (change_for event old.replica.raft.role) (core_of old) (core_of told)
    → ExactStep event batch (core_of told) (core_of made) → core_of follows ≡ followed batch (core_of made) → core_of new ≡ looked (core_of follows) → ExactOwnStep event (core_of old) (core_of new)
unfolding core_of
own_exactly event batch old told made follows new tells steps goes looks = record {
  mid = core_of told;
  tells = tells;
  batch = batch;
  last = core_of made;
  steps = steps;
  is = looks ∙ ap looked goes;
}

pub none_left : (xs ys : List RaftEvent) → xs ≡ ys → ys ≡ drop 1 xs → xs ≡ []
none_left [] ys same rest = refl
none_left (x ∷ xs) ys same rest = let e : length (x ∷ xs) ≡ length xs = ap length (same ∙ rest) in absurd (omega (arith, e))

pub due_none : (old popped : Running) → old.due.items ≡ [] → popped ≡ record old { due = popped.due } → popped.due.items ≡ [] → ExactDue old.due.items (core_of old) (core_of popped) false
unfolding core_of
due_none old popped none is empty =
    subst (λ (events : List RaftEvent). ExactDue events (core_of old) (core_of popped) false) (sym none)
    (ap core_of is ∙ (λ i. record (core_of old) { due = (empty ∙ sym none) i }), refl)

pub due_some : (old popped new : Running) (event : RaftEvent) → old.due.items ≡ event ∷ popped.due.items → popped ≡ record old { due = popped.due } → ExactOwnStep event (core_of popped) (core_of new)
    → ExactDue old.due.items (core_of old) (core_of new) true
unfolding core_of
due_some old popped new event first is owns =
    subst (λ (events : List RaftEvent). ExactDue events (core_of old) (core_of new) true) (sym first)
    (subst (λ (w : Core). ExactOwnStep event w (core_of new)) (ap core_of is) owns, refl)

-- ---- a change of servers

changes_nothing : (e : Entry) → changes (read_setup []) e ≡ false → configuration_in e ≡ None
changes_nothing e none = plain_read (is_change e.kind) (configuration_of e.bytes) none where
  plain_read : (b : Bool) (read : Option (List Server)) → (b && reads read) ≡ false → cond b read None ≡ None
  plain_read false read none = refl
  plain_read true None none = refl
  plain_read true (Some servers) none = absurd (true≢false none)

pub change_none : (role : Role) (entries : List Entry) → any_change (read_setup []) entries ≡ false → change_in role entries ≡ None
change_none role [] none = refl
change_none role (e ∷ []) none = chosen (is_leader role) (configuration_in e) (changes_nothing e (or_parts (changes (read_setup []) e) false none).0) where
  chosen : (b : Bool) (read : Option (List Server)) → read ≡ None → cond b read None ≡ None
  chosen true read none = none
  chosen false read none = refl
change_none role (e ∷ other ∷ entries) none = refl

change_other : (event : RaftEvent) (role : Role) → ((es : List Entry) → event ≢ due.Propose es) → change_for event role ≡ None
change_other (due.Propose es) role none = absurd (none es refl)
change_other (due.Transfer to) role none = refl
change_other due.Timeout role none = refl
change_other due.Beat role none = refl
change_other due.Yield role none = refl
change_other (due.Message m) role none = refl
change_other (due.Snapped at) role none = refl
change_other (due.Servers servers) role none = refl

untold_change : (n : Running) (servers : Option (List Server)) → servers ≡ None → ExactTold servers (core_of n) (core_of n)
untold_change n servers none = subst (λ (s : Option (List Server)). ExactTold s (core_of n) (core_of n)) (sym none) refl

pub untold_other : (n : Running) (event : RaftEvent) → ((es : List Entry) → event ≢ due.Propose es) → ExactTold (change_for event n.replica.raft.role) (core_of n) (core_of n)
untold_other n event none = untold_change n (change_for event n.replica.raft.role) (change_other event n.replica.raft.role none)

pub untold_plain : (n : Running) (event : RaftEvent) (entries slice : List Entry) → event ≡ due.Propose entries → slice ≡ entries → any_change (read_setup []) slice ≡ false
    → ExactTold (change_for event n.replica.raft.role) (core_of n) (core_of n)
untold_plain n event entries slice is of none =
    untold_change n (change_for event n.replica.raft.role)
    (ap (λ (e : RaftEvent). change_for e n.replica.raft.role) is ∙ change_none n.replica.raft.role entries (subst (λ (es : List Entry). any_change (read_setup []) es ≡ false) of none))

pub told_change : (old new : Running) (event : RaftEvent) (entry : Entry) (servers : List Server) → event ≡ due.Propose (entry ∷ []) → MayTake event old.replica.raft
    → configuration_in entry ≡ Some servers → ExactTold (Some servers) (core_of old) (core_of new) → ExactTold (change_for event old.replica.raft.role) (core_of old) (core_of new)
told_change old new event entry servers is takes reads tells =
    let leads : is_leader old.replica.raft.role ≡ true = subst (λ (e : RaftEvent). MayTake e old.replica.raft) is takes in
    let change : change_for event old.replica.raft.role ≡ Some servers =
    ap (λ (e : RaftEvent). change_for e old.replica.raft.role) is ∙ cond-true (is_leader old.replica.raft.role) (configuration_in entry) None leads ∙ reads in
    subst (λ (s : Option (List Server)). ExactTold s (core_of old) (core_of new)) (sym change) tells

-- ---- even peers

evens_append : (r : Node) (front back : List Server) → evens r (front ++ back) ≡ evens r front ++ evens r back
evens_append r front back =
    ap (map (λ (server : Server). server.id)) (filter-append (is_even r) front back) ∙ map-append (λ (server : Server). server.id) (filter (is_even r) front) (filter (is_even r) back)

pub evens_more : (r : Node) (servers : List Server) (ids new : List ℕ) (i : ℕ) (s : Server) → i < length servers → ids ≡ evens r (take i servers) → s ≡ get_or servers i s
    → new ≡ ids ++ evens r (s ∷ []) → new ≡ evens r (take (i + 1) servers)
evens_more r servers ids new i s lt so is made =
    made ∙ ap (λ (l : List ℕ). l ++ evens r (s ∷ [])) so ∙ sym (evens_append r (take i servers) (s ∷ []))
    ∙ ap (λ (x : Server). evens r (take i servers ++ x ∷ [])) is ∙ ap (evens r) (sym (take_more servers i s lt))
