-- What is kept where a turn of Raft's was stopped.
use Rattle.std.proofs.Common.{◌≡◌, ◌≢◌, ℕ, List, [], ◌∷◌, ◌++◌, refl, sym, ap, subst, ◌∙◌, None}
use Rattle.sql_engine.specs.declared.kind.EngineKind.{EngineKind}
use Rattle.sql_engine.specs.Meanings.{Meaning}
use Rattle.raft_spec.specs.Node as raft
use Rattle.raft_spec.specs.NodeValues.{node_of}
use Rattle.raft_messages.specs.declared.message.RaftMessage.{RaftMessage}
use Rattle.raft_messages.specs.Messages.{message_value}
use Rattle.raft_messages.specs.declared.message.MessageBody.{MessageBody}
use Rattle.raft_messages.specs.declared.message.MessageBody.TheVariants as whats
use Rattle.raft_core.specs.declared.event.RaftEvent.{RaftEvent}
use Rattle.raft_core.specs.declared.event.RaftEvent.TheVariants as events
use Rattle.raft_core.specs.Events.{input_of, offered}
use Rattle.raft_membership.specs.Members.{Configurations, read_setup}
use Rattle.raft_safety.specs.Members.{Setup}
use Rattle.store_laws.specs.Snapshots.{Longer, given}
use Rattle.store_laws.specs.Store.{Snap, Kept}
use Rattle.raft_on_disk.specs.Replicas as replicas
use Rattle.raft_on_disk.specs.Replicas.{kept_of}
use Rattle.node_spec.specs.Accounts.{Moment}
use Rattle.node_spec.specs.RaftTurns.{raft_after, IsFirst, KeepsSnapshot, BytesAfter, kept_bytes, brought_bytes, own_bytes, at_first, at_vote, at_end}
use Rattle.node_spec.specs.RaftTurns as turns
use Rattle.node_core.specs.declared.running.Running.{Running}
use Rattle.node_core.specs.Account as account
use Rattle.node_core.specs.Account.{proposals_in, moment_of, IsOwn}
use Rattle.node_core.specs.Finding.{StopsIn, StopsTelling, untold_yet, in_telling, StopsBehind, StopsFollowing, in_step, behind_step, StopsInstalling, in_install, behind_install, StopsChanging, unchanged_yet, in_change, StopsOwn, before_own, in_own, BeganStops, at_once, later_on}
use Rattle.node_core.specs.Posting.{Posts, MaybeToldServers, untold, told_servers, told_inputs, StepsWithoutSnapshot, StepsWithSnapshot, TookFirstDue}
use Rattle.node_core.specs.Stepping.{HasTold}
use Rattle.node_core.specs.Taking.{bytes_with}
use Rattle.node_core.specs.Voters.{MayBe}
use Rattle.node_core.specs.Whole.{IsOwnDue, IsOutside}
use Rattle.node_core.proofs.Besides.{may_outside, may_outside_told}
use Rattle.node_core.proofs.OwnTurns.{before_is, told_due, due_inputs}
use Rattle.node_core.proofs.RaftAccounts.{since_followed, since_installed}
use Rattle.node_core.proofs.RaftBridges.{longer_self}

-- ---- the bytes of a snapshot

-- those that come with an event are those that it offers
pub with_offer : (event : RaftEvent) → replicas.bytes_in (offered event) ≡ bytes_with event
with_offer (events.Message m) = of_what m.what
  where
    of_what : (w : MessageBody) → replicas.bytes_in (offered (events.Message (record m { what = w }))) ≡ account.bytes_in w
    of_what (whats.Install s) = refl
    of_what (whats.AskVote last transfer) = refl
    of_what (whats.Vote granted) = refl
    of_what (whats.Append prev commit entries) = refl
    of_what (whats.Ack good index) = refl
    of_what whats.TimeoutNow = refl
with_offer events.Timeout = refl
with_offer events.Beat = refl
with_offer events.Yield = refl
with_offer (events.Propose es) = refl
with_offer (events.Transfer to) = refl
with_offer (events.Snapped at) = refl
with_offer (events.Servers servers) = refl

bytes_other : (setup : Setup) (me : ℕ) (came others : List ℕ) (a : Moment) (i : raft.Input) (bytes : List ℕ) → ((m : raft.Message) → i ≢ raft.Receive m) → BytesAfter setup me came a i bytes → BytesAfter setup me others a i bytes
bytes_other setup me came others a i bytes none (kept_bytes s b) = kept_bytes s b
bytes_other setup me came others a i bytes none (brought_bytes m e past b) = absurd (none m e)
bytes_other setup me came others a i bytes none (own_bytes index e s) = own_bytes index e s

-- of an input that is no message, whatever came with the act
pub stops_other : (setup : Setup) (came others : List ℕ) (old : Running) (i : raft.Input) (kept : Kept) → ((m : raft.Message) → i ≢ raft.Receive m) → StopsIn setup came old i kept → StopsIn setup others old i kept
stops_other setup came others old i kept none (at_first e) = at_first e
stops_other setup came others old i kept none (at_vote e) = at_vote e
stops_other setup came others old i kept none (at_end bytes b l) = at_end bytes (bytes_other setup old.replica.id came others (moment_of old) i bytes none b) l

-- ---- after a step

pub left_behind : (setup : Setup) (came : List ℕ) (old new : Running) (i : raft.Input) → Posts old new i → BytesAfter setup old.replica.id came (moment_of old) i new.replica.snap.bytes → StopsIn setup came old i (kept_of new.replica)
left_behind setup came old new i p whose =
    let bytes : List ℕ = new.replica.snap.bytes in
    let same : node_of new.replica.raft ≡ raft_after old.replica.id (moment_of old) i = p.steps.made in
    at_end bytes whose (record {
      term = ap (λ (n : raft.Node). n.term) same;
      vote = ap (λ (n : raft.Node). n.vote) same;
      snap = ap (λ (n : raft.Node). (turns.kept_of n bytes).snap) same;
      longer = subst (λ (n : raft.Node). Longer (kept_of new.replica).log (turns.kept_of n bytes).log) same (longer_self (kept_of new.replica).log);
      left = given (ap (λ (n : raft.Node). (turns.kept_of n bytes).log) same);
    })

-- one that keeps the snapshot
pub keeps_left : (setup : Setup) (came : List ℕ) (old new : Running) (i : raft.Input) → Posts old new i → KeepsSnapshot (moment_of old) (moment_of new) → StopsIn setup came old i (kept_of new.replica)
keeps_left setup came old new i p keeps =
    left_behind setup came old new i p (kept_bytes (sym (ap (λ (n : raft.Node). n.snapshot) p.steps.made) ∙ keeps.snapshot) (ap (λ (s : Snap). s.bytes) keeps.bytes))

-- ---- after an event from outside

pub behind_telling : (setup : Setup) (old step : Running) (event : RaftEvent) (kept : Kept) → ((c : Configurations) → StepsWithoutSnapshot old (record step { members = c }) (input_of event)) → StopsBehind setup (bytes_with event) step kept → StopsFollowing setup old event kept
behind_telling setup old step event kept follows (c, untold_yet e) =
    let f : StepsWithoutSnapshot old (record step { members = c }) (input_of event) = follows c in
    in_step (subst (StopsIn setup (bytes_with event) old (input_of event)) (sym e) (keeps_left setup (bytes_with event) old (record step { members = c }) (input_of event) f.posts f.follows.snapshot))
behind_telling setup old step event kept follows (c, in_telling servers x) = behind_step (record step { members = c }) servers (follows c) x

pub behind_following : (setup : Setup) (old mid last : Running) (event : RaftEvent) → StepsWithoutSnapshot old mid (input_of event) → MaybeToldServers mid last → StopsFollowing setup old event (kept_of last.replica)
behind_following setup old mid last event f (untold e) =
    in_step (subst (λ (n : Running). StopsIn setup (bytes_with event) old (input_of event) (kept_of n.replica)) (sym e) (keeps_left setup (bytes_with event) old mid (input_of event) f.posts f.follows.snapshot))
behind_following setup old mid last event f (told_servers servers l) = behind_step mid servers f (keeps_left setup (bytes_with event) mid last (raft.Local (raft.UseServers servers)) l.posts l.leaves.snapshot)

-- configurations have followed in between
pub telling_from : (setup : Setup) (came : List ℕ) (old mid : Running) (kept : Kept) → mid ≡ record old { members = mid.members } → StopsTelling setup came mid kept → StopsBehind setup came old kept
telling_from setup came old mid kept is x = (mid.members, subst (λ (n : Running). StopsTelling setup came n kept) is x)

pub untold_behind : (setup : Setup) (came : List ℕ) (old : Running) → StopsBehind setup came old (kept_of old.replica)
untold_behind setup came old = (old.members, untold_yet refl)

-- ---- after a snapshot that came

pub behind_placing : (setup : Setup) (old placed : Running) (event : RaftEvent) (message : RaftMessage) (kept : Kept) → event ≡ events.Message message → StepsWithSnapshot setup old placed (account.bytes_in message.what) (message_value message) →
    StopsIn setup (bytes_with event) old (input_of event) (kept_of placed.replica) → StopsTelling setup (account.bytes_in message.what) placed kept → StopsInstalling setup old event kept
behind_placing setup old placed event message kept is i here (untold_yet e) = in_install (subst (StopsIn setup (bytes_with event) old (input_of event)) (sym e) here)
behind_placing setup old placed event message kept is i here (in_telling servers x) = behind_install message placed servers is i x

pub behind_placed : (setup : Setup) (old placed last : Running) (event : RaftEvent) (message : RaftMessage) → event ≡ events.Message message → StepsWithSnapshot setup old placed (account.bytes_in message.what) (message_value message) →
    StopsIn setup (bytes_with event) old (input_of event) (kept_of placed.replica) → MaybeToldServers placed last → StopsInstalling setup old event (kept_of last.replica)
behind_placed setup old placed last event message is i here (untold e) = in_install (subst (λ (n : Running). StopsIn setup (bytes_with event) old (input_of event) (kept_of n.replica)) (sym e) here)
behind_placed setup old placed last event message is i here (told_servers servers l) =
    behind_install message placed servers is i (keeps_left setup (account.bytes_in message.what) placed last (raft.Local (raft.UseServers servers)) l.posts l.leaves.snapshot)

-- ---- what the node gave Raft itself

no_message : (i : raft.Input) → IsOwn i → (m : raft.Message) → i ≢ raft.Receive m
no_message i own m e = subst IsOwn e own

-- with what was due before
stops_due : (setup : Setup) (came : List ℕ) (a w : Running) (i : raft.Input) (kept : Kept) → IsOwn i → StopsIn setup came a i kept → StopsIn setup came (record a { due = w.due }) i kept
stops_due setup came a w i kept own (at_first e) = at_first e
stops_due setup came a w i kept own (at_vote e) = at_vote e
stops_due setup came a w i kept own (at_end bytes b l) = at_end bytes (by b) (record { term = l.term; vote = l.vote; snap = l.snap; longer = l.longer; left = l.left })
  where
    by : BytesAfter setup a.replica.id came (moment_of a) i bytes → BytesAfter setup a.replica.id came (moment_of (record a { due = w.due })) i bytes
    by (kept_bytes s e) = kept_bytes s e
    by (brought_bytes m e past q) = brought_bytes m e past q
    by (own_bytes index e s) = absurd (subst IsOwn e own)

-- what the node may be told doesn't hang on what is due
may_before : (setup : Setup) (came : List ℕ) (before popped : Running) (event : RaftEvent) (is : List raft.Input) → TookFirstDue event before popped → MayBe setup popped came is → MayBe setup before came is
may_before setup came before popped event is was may = subst (λ (n : Running). MayBe setup n came is) (before_is before popped event was) may

-- where Raft was given servers before
pub own_telling : (setup : Setup) (came : List ℕ) (before popped : Running) (event : RaftEvent) (kept : Kept) → TookFirstDue event before popped → StopsChanging setup came popped kept → StopsOwn setup came before kept
own_telling setup came before popped event kept was (unchanged_yet e) = before_own (unchanged_yet (e ∙ ap (λ (n : Running). kept_of n.replica) was.is))
own_telling setup came before popped event kept was (in_change servers may x) =
    before_own (in_change servers (may_before setup came before popped event (raft.Local (raft.UseServers servers) ∷ []) was may) (subst (λ (n : Running). StopsIn setup came n (raft.Local (raft.UseServers servers)) kept) (before_is before popped event was) (stops_due setup came popped before (raft.Local (raft.UseServers servers)) kept tt x)))

own_input : (event : RaftEvent) → IsOwnDue event → IsOwn (input_of event)
own_input (events.Propose es) own = tt
own_input (events.Transfer to) own = tt
own_input events.Timeout own = absurd own
own_input events.Beat own = absurd own
own_input events.Yield own = absurd own
own_input (events.Message m) own = absurd own
own_input (events.Snapped at) own = absurd own
own_input (events.Servers servers) own = absurd own

is_first : (event : RaftEvent) (told w : Running) → IsOwnDue event → w.due.items ≡ event ∷ told.due.items → IsFirst (moment_of (record told { due = w.due })) (input_of event)
is_first (events.Propose es) told w own due = (proposals_in told.due.items, ap proposals_in due)
is_first (events.Transfer to) told w own due = tt
is_first events.Timeout told w own due = absurd own
is_first events.Beat told w own due = absurd own
is_first events.Yield told w own due = absurd own
is_first (events.Message m) told w own due = absurd own
is_first (events.Snapped at) told w own due = absurd own
is_first (events.Servers servers) told w own due = absurd own

pub own_making : (setup : Setup) (came : List ℕ) (before popped told : Running) (event : RaftEvent) (kept : Kept) → IsOwnDue event → TookFirstDue event before popped → HasTold popped told → (tells : MaybeToldServers popped told) → MayBe setup popped came (told_inputs tells ++ input_of event ∷ []) → StopsIn setup (bytes_with event) told (input_of event) kept → StopsOwn setup came before kept
own_making setup came before popped told event kept own was t tells may x =
    let mid : Running = record told { due = before.due } in
    subst (λ (n : Running). StopsOwn setup came n kept) (before_is before popped event was) (in_own mid (input_of event) (told_due popped told before tells) (own_input event own)
    (is_first event told before own (was.first ∙ ap (λ l. event ∷ l) (sym (ap (λ (n : Running). n.due.items) t.is))))
    (subst (λ (is : List raft.Input). MayBe setup (record popped { due = before.due }) came (is ++ input_of event ∷ [])) (sym (due_inputs popped told before tells)) may)
    (stops_due setup came told before (input_of event) kept (own_input event own) (stops_other setup (bytes_with event) came told (input_of event) kept (no_message (input_of event) (own_input event own)) x)))

-- ---- an act that began with an event

module _ (m : Meaning) (kind : EngineKind) (opening : List raft.Server) (old : Running) where
  abbrev setup : Setup
  setup = read_setup opening

  pub following_stops : (event : RaftEvent) (kept : Kept) → IsOutside event → StopsFollowing setup old event kept → BeganStops m kind setup old event kept
  following_stops event kept outside (in_step x) = at_once (may_outside opening (bytes_with event) old event outside) x
  following_stops event kept outside (behind_step mid servers f x) =
      let i : raft.Input = raft.Local (raft.UseServers servers) in
      let s = since_followed m kind setup {told = None} old mid event f in
      later_on mid i s.0 tt tt (subst (λ (is : List raft.Input). MayBe setup old (bytes_with event) (is ++ i ∷ [])) (sym s.1) (may_outside_told opening (bytes_with event) old event servers outside)) x

  pub installing_stops : (event : RaftEvent) (kept : Kept) → IsOutside event → StopsInstalling setup old event kept → BeganStops m kind setup old event kept
  installing_stops event kept outside (in_install x) = at_once (may_outside opening (bytes_with event) old event outside) x
  installing_stops event kept outside (behind_install message mid servers is i x) =
      let own : raft.Input = raft.Local (raft.UseServers servers) in
      let s = since_installed m kind setup {told = None} old mid message i in
      let bytes : List ℕ = account.bytes_in message.what in
      subst (λ (e : RaftEvent). BeganStops m kind setup old e kept) (sym is)
      (later_on mid own s.0 tt tt (subst (λ (is : List raft.Input). MayBe setup old bytes (is ++ own ∷ [])) (sym s.1) (may_outside_told opening bytes old (events.Message message) servers tt)) x)
