-- What a node learns of its voters in a turn of Raft's: the configurations follow its log, and Raft is given the current one.
use Rattle.std.proofs.Common.{◌≡◌, ◌≢◌, ◌≤◌, ◌<◌, ◌⊎◌, inl, inr, ℕ, suc, Bool, true, false, List, [], ◌∷◌, ◌++◌, length, drop, refl, sym, ap, subst, ◌∙◌, arith}
use Rattle.std.specs.Prelude.{Result, Ok, Err, OnOk, Option, Some, None, not, ◌&&◌, ◌==◌}
use Rattle.std.proofs.lemmas.Bool.{cond_both}
use Rattle.database_state.specs.Databases.{contents_of}
use Rattle.raft_spec.specs.Compaction.{compacted, compacted_step}
use Rattle.raft_spec.specs.Log.{Entry, LogEnd, term_at}
use Rattle.raft_spec.specs.Node as raft
use Rattle.raft_spec.specs.Node.{Role, Leader, Candidate, Follower, Node, Outcome, is_leader, voters}
use Rattle.raft_spec.specs.NodeValues.{NodeValue, IsCoherent, node_of}
use Rattle.raft_spec.specs.Replication.{on_transfer}
use Rattle.raft_spec.specs.Steps.{finish, raft_step}
use Rattle.raft_spec.specs.Todo.{Begins}
use Rattle.raft_spec.proofs.NodeValues.{compact_node}
use Rattle.raft_messages.specs.Messages.{message_value}
use Rattle.raft_core.specs.declared.event.RaftEvent.{RaftEvent}
use Rattle.raft_core.specs.declared.event.RaftEvent.TheVariants as events
use Rattle.raft_core.specs.Events.{input_of}
use Rattle.raft_membership.specs.Members.{Configurations, last_servers, read_setup, IsOf}
use Rattle.raft_on_disk.specs.Replicas.{ReplicaValue, IsWhole, HasMoved, stepped, snap_after}
use Rattle.raft_on_disk.specs.Twins.{TwinsFollow}
use Rattle.applied_state.specs.declared.applied.Applied.{Applied}
use Rattle.applied_state.specs.Snapshot.{SpellsSnapshot}
use Rattle.node_spec.specs.Nodes as rules
use Rattle.node_spec.specs.Voting.{Tells, FollowLog, FromSnapshot, TellsLast, with_same, with_own, with_told}
use Rattle.node_spec.proofs.VoterTurns.{follow_tells, change_tells, change_stops, install_tells}
use Rattle.node_core.specs.declared.running.Running.{Running}
use Rattle.node_core.specs.Account as account
use Rattle.node_core.specs.Posting.{Posts, KeepsAllButLog, MaybeToldServers, untold, told_servers, told_inputs, ToldServersAfter, same_members, own_log, told_current, TellsCurrentServers, stays_own, tells_current, ToldChange, no_change, change_told, MayTake, StepsWithSnapshot}
use Rattle.node_core.specs.Stepping.{Brings, PutsNone, HasMade, HasStepped, HasFollowed, HasTold}
use Rattle.node_core.specs.Values.{seen}
use Rattle.node_core.specs.Voters.{Beside, BesideAll, MayBe, FollowsBy}
use Rattle.node_core.specs.Whole.{IsGoing, IsOutside, IsOwnDue}
use Rattle.node_core.proofs.Besides.{outside_plain, may_plain}
use Rattle.node_core.proofs.OwnTurns.{both_same}
use Rattle.node_core.proofs.RaftTurns.{keeps_snapshot}

pub ok_both : {T F P Q R : Type 0} (r : Result T F) → (P → Q → R) → OnOk r P → OnOk r Q → OnOk r R
ok_both (Ok x) f p q = f p q
ok_both (Err e) f p q = tt

-- ---- the configurations follow the log

-- They follow the whole log, whatever it is, if they follow the entries that a node holds.
follow_log : (law : TwinsFollow) (old new : NodeValue) (m n : Configurations) (batch : Option ℕ) → IsCoherent old → new.base ≤ old.commit → HasMoved (node_of old) (node_of new) batch false → FollowsBy m n (node_of new).log batch →
    FollowLog old new m n
follow_log law old new m n None co low moved by opening s t one two kept of =
    let base : old.base ≤ old.commit = (let a = co.low in let b = co.applied in omega (arith, a, b)) in
    let same = law s (node_of old) t (node_of new) None one two base low kept moved in
    subst (IsOf (read_setup opening) t.log) (sym by) (subst (λ l. IsOf (read_setup opening) l m) (sym same) of)
follow_log law old new m n (Some first) co low moved by opening s t one two kept of =
    let base : old.base ≤ old.commit = (let a = co.low in let b = co.applied in omega (arith, a, b)) in
    let same = law s (node_of old) t (node_of new) (Some first) one two base low kept moved in
    subst (λ l. IsOf (read_setup opening) l n) (sym same.1) (by opening s.log of same.0)

-- a step by which no snapshot comes
moved_plain : (r q : ReplicaValue) (batch : Option ℕ) (installed : Bool) → IsWhole r → q.raft.snapshot ≡ r.raft.snapshot → HasMoved (node_of r.raft) (node_of q.raft) batch installed → HasMoved (node_of r.raft) (node_of q.raft) batch false
moved_plain r q batch false whole same moved = moved
moved_plain r q batch true whole same moved =
    let past : r.raft.commit < q.raft.snapshot.index = moved.0 in
    let i : q.raft.snapshot.index ≡ r.raft.snapshot.index = ap (λ (e : LogEnd). e.index) same in
    let low : r.raft.snapshot.index ≤ r.raft.commit = whole.coherent.applied in
    absurd (omega (arith, past, i, low))

follows_log : (law : TwinsFollow) (r q : ReplicaValue) (event : RaftEvent) (batch : Option ℕ) (installed : Bool) (m n : Configurations) → IsWhole r → IsWhole q → node_of q.raft ≡ stepped r event → q.snap ≡ snap_after r event → PutsNone r event →
    HasMoved (node_of r.raft) (node_of q.raft) batch installed → FollowsBy m n (node_of q.raft).log batch → FollowLog r.raft q.raft m n
follows_log law r q event batch installed m n v w node snap none moved by =
    let same = keeps_snapshot r q event v w node snap none in
    let i : q.raft.snapshot.index ≡ r.raft.snapshot.index = ap (λ (e : LogEnd). e.index) same in
    let base : q.raft.base ≤ q.raft.snapshot.index = w.coherent.low in
    let low : r.raft.snapshot.index ≤ r.raft.commit = v.coherent.applied in
    follow_log law r.raft q.raft m n batch v.coherent (omega (arith, i, base, low)) (moved_plain r q batch installed v same moved) by

-- ---- what Raft was told after its step

pub told_or : (old new : Running) → ToldServersAfter old new → MaybeToldServers (record old { members = new.members }) new
told_or old new (same_members e) = untold (e ∙ ap (λ (c : Configurations). record old { members = c }) (sym (ap (λ (n : Running). n.members) e)))
told_or old new (own_log is role) = untold is
told_or old new (told_current l) = told_servers (last_servers new.members) l

pub tells_or : (old new : Running) → TellsCurrentServers old new → MaybeToldServers old new
tells_or old new (stays_own e role) = untold e
tells_or old new (tells_current l) = told_servers (last_servers old.members) l

pub told_by : (old new : Running) (event : RaftEvent) → ToldChange old new event → MaybeToldServers old new
told_by old new event (no_change plain e) = untold e
told_by old new event (change_told entry servers is may l) = told_servers servers l

-- the configurations have followed before
pub tells_behind : (old mid new : Running) → mid ≡ record old { members = mid.members } → HasTold mid new → TellsCurrentServers mid new → ToldServersAfter old new
tells_behind old mid new is told (stays_own e role) =
    own_log (e ∙ is ∙ ap (λ (c : Configurations). record old { members = c }) (sym (ap (λ (n : Running). n.members) e))) (subst (λ (n : Running). n.replica.raft.role ≢ Follower) is role)
tells_behind old mid new is told (tells_current l) =
    let same : new.members ≡ mid.members = ap (λ (n : Running). n.members) told.is in
    told_current (subst (λ (c : Configurations). KeepsAllButLog (record old { members = c }) new (raft.Local (raft.UseServers (last_servers c)))) (sym same)
    (subst (λ (n : Running). KeepsAllButLog n new (raft.Local (raft.UseServers (last_servers mid.members)))) is l))

pub follows_behind : (old mid new : Running) (batch : Option ℕ) → HasTold mid new → FollowsBy old.members mid.members (node_of old.replica.raft).log batch → FollowsBy old.members new.members (node_of old.replica.raft).log batch
follows_behind old mid new batch told by = subst (λ (c : Configurations). FollowsBy old.members c (node_of old.replica.raft).log batch) (sym (ap (λ (n : Running). n.members) told.is)) by

-- how the turn ends
behind_last : (me : ℕ) (a : rules.Node) (step followed : Running) → step.members ≡ a.members → step.replica.id ≡ me → (x : ToldServersAfter step followed) → TellsLast me a (seen followed) step.replica.raft (told_inputs (told_or step followed x))
unfolding told_or
behind_last me a step followed same id (same_members e) = with_same (ap (λ (n : Running). n.replica.raft) e) (ap (λ (n : Running). n.members) e ∙ same) refl
behind_last me a step followed same id (own_log is role) = with_own (ap (λ (n : Running). n.replica.raft) is) role refl
behind_last me a step followed same id (told_current l) =
    with_told (last_servers followed.members) refl (subst (λ (own : ℕ). node_of followed.replica.raft ≡ (compacted_step own (node_of step.replica.raft) (raft.Local (raft.UseServers (last_servers followed.members)))).node) id l.posts.steps.made) refl

-- ---- an event from outside

pub beside_followed : (law : TwinsFollow) (old step followed : Running) (event : RaftEvent) (batch : Option ℕ) → IsGoing old → IsOutside event → PutsNone old.replica event → HasStepped old step event batch → Posts old step (input_of event) →
    HasFollowed step followed → FollowsBy step.members followed.members (node_of step.replica.raft).log batch → (x : ToldServersAfter step followed) → BesideAll old followed (input_of event ∷ told_inputs (told_or step followed x))
beside_followed law old step followed event batch g outside none s posts f by x opening bytes = record {
  voters = follow_tells opening old.replica.id bytes (seen old) (seen followed) (input_of event) (told_inputs (told_or step followed x)) (record {
    plain = outside_plain event outside;
    coherent = g.holds.replica.coherent;
    mid = step.replica.raft;
    made = posts.steps.made;
    follow = subst (λ (c : Configurations). FollowLog old.replica.raft step.replica.raft c followed.members) s.rest.members
        (follows_log law old.replica step.replica event batch s.installed step.members followed.members g.holds.replica s.whole s.node s.snap none s.moved by);
    last = behind_last old.replica.id (seen old) step followed s.rest.members posts.id x;
  });
  links = ap (λ (n : Running). n.has_links) f.is ∙ s.rest.links;
}

-- ---- what the node gives Raft itself

pub leader_follows_not : (r : Role) → is_leader r ≡ true → r ≢ Follower
leader_follows_not Leader e q = absurd cc
leader_follows_not Candidate e q = absurd cc
leader_follows_not Follower e q = absurd cc

-- a leadership that is handed over leaves the log, and what is compacted of it
KeepsLog : Node → Outcome → Type 0
KeepsLog s d = (d.node.log ≡ s.log) × (d.node.snapshot ≡ s.snapshot) × (d.node.base ≡ s.base)

ends_log : (voters_of : List Entry → List ℕ) (me : ℕ) (s : Node) (d : Outcome) → KeepsLog s d → KeepsLog s (finish voters_of me d)
unfolding finish KeepsLog
ends_log voters_of me s d k = cond_both (is_leader d.node.role) _ _ (KeepsLog s) (λ e. k) (λ e. k)

hands_log : (me : ℕ) (s : Node) (to : ℕ) → KeepsLog s (on_transfer me s to)
unfolding on_transfer KeepsLog
hands_log me s to = cond_both (is_leader s.role && not (to == me)) _ _ (KeepsLog s) (λ e. (refl, refl, refl)) (λ e. (refl, refl, refl))

transfer_log : (me : ℕ) (h : NodeValue) (to : ℕ) → (compacted_step me (node_of h) (raft.Local (raft.Transfer to))).node.log ≡ (node_of h).log
unfolding compacted_step raft_step KeepsLog
transfer_log me h to =
    let s : Node = node_of h in
    let k = ends_log (λ log. voters s.servers) me s (on_transfer me s to) (hands_log me s to) in
    (λ i. compacted (k.1 i) (k.2 i) ++ drop (k.2 i) (k.0 i)) ∙ ap (λ (n : Node). n.log) (compact_node h)

-- so there is no batch
none_moved : (s t : Node) (batch : Option ℕ) → t.log ≡ s.log → HasMoved s t batch false → batch ≡ None
none_moved s t None same moved = refl
none_moved s t (Some first) same moved = absurd (none_begins s.commit s.log t.log first same moved.1)
  where
    none_begins : (commit : ℕ) (old new : List Entry) (first : ℕ) → new ≡ old → Begins commit old new first → ⊥
    none_begins commit old new first same b = by b.differs
      where
        by : (first ≡ suc (length old)) ⊎ (term_at old first ≢ term_at new first) → ⊥
        by (inl e) = let within = b.within in let long : length new ≡ length old = ap length same in omega (arith, e, within, long)
        by (inr d) = d (ap (λ (l : List Entry). term_at l first) (sym same))

pub own_puts : (r : ReplicaValue) (event : RaftEvent) → IsOwnDue event → PutsNone r event
own_puts r (events.Propose es) own = tt
own_puts r (events.Transfer to) own = tt
own_puts r events.Timeout own = absurd own
own_puts r events.Beat own = absurd own
own_puts r events.Yield own = absurd own
own_puts r (events.Message m) own = absurd own
own_puts r (events.Snapped at) own = absurd own
own_puts r (events.Servers servers) own = absurd own

module _ (law : TwinsFollow) (popped told made followed : Running) where
  own_follows : (event : RaftEvent) (batch : Option ℕ) → IsOwnDue event → HasTold popped told → HasMade told made event batch → FollowsBy made.members followed.members (node_of made.replica.raft).log batch →
      FollowLog told.replica.raft made.replica.raft popped.members followed.members
  own_follows event batch own t m by =
      let members : made.members ≡ popped.members = ap (λ (n : Running). n.members) m.is ∙ ap (λ (n : Running). n.members) t.is in
      subst (λ (c : Configurations). FollowLog told.replica.raft made.replica.raft c followed.members) members
      (follows_log law told.replica made.replica event batch m.installed made.members followed.members t.whole m.whole m.node m.snap (own_puts told.replica event own) m.moved by)

  -- how an own step without a change ends: a leader stays one, and a leadership that is handed over leaves the configurations
  own_last : (event : RaftEvent) (batch : Option ℕ) → IsOwnDue event → MayTake event popped.replica.raft → (e : told ≡ popped) → HasTold popped told → HasMade told made event batch → Posts told made (input_of event) →
      followed ≡ record made { members = followed.members } → FollowsBy made.members followed.members (node_of made.replica.raft).log batch → TellsLast popped.replica.id (seen popped) (seen followed) made.replica.raft []
  own_last (events.Propose es) batch own takes e t m p is by =
      with_own (ap (λ (n : Running). n.replica.raft) is) (leader_follows_not made.replica.raft.role ((both_same popped told made (events.Propose es) own (untold e) p).leads ∙ takes)) refl
  own_last (events.Transfer to) batch own takes e t m p is by =
      let log : (node_of made.replica.raft).log ≡ (node_of told.replica.raft).log =
      ap (λ (n : Node). n.log) p.steps.made ∙ transfer_log told.replica.id told.replica.raft to in
      let same = keeps_snapshot told.replica made.replica (events.Transfer to) t.whole m.whole m.node m.snap tt in
      let none : batch ≡ None = none_moved (node_of told.replica.raft) (node_of made.replica.raft) batch log (moved_plain told.replica made.replica batch m.installed t.whole same m.moved) in
      let stays : followed.members ≡ made.members = subst (FollowsBy made.members followed.members (node_of made.replica.raft).log) none by in
      with_same (ap (λ (n : Running). n.replica.raft) is) (stays ∙ ap (λ (n : Running). n.members) m.is ∙ ap (λ (n : Running). n.members) t.is) refl
  own_last events.Timeout batch own takes e t m p is by = absurd own
  own_last events.Beat batch own takes e t m p is by = absurd own
  own_last events.Yield batch own takes e t m p is by = absurd own
  own_last (events.Message x) batch own takes e t m p is by = absurd own
  own_last (events.Snapped at) batch own takes e t m p is by = absurd own
  own_last (events.Servers servers) batch own takes e t m p is by = absurd own

  pub beside_own : (event : RaftEvent) (batch : Option ℕ) → IsOwnDue event → MayTake event popped.replica.raft → IsGoing popped → HasTold popped told → (x : ToldChange popped told event) → HasMade told made event batch → Posts told made (input_of event) →
      followed ≡ record made { members = followed.members } → FollowsBy made.members followed.members (node_of made.replica.raft).log batch → BesideAll popped followed (told_inputs (told_by popped told event x) ++ input_of event ∷ [])
  unfolding told_by
  beside_own event batch own takes g t (no_change plain e) m p is by opening bytes = record {
    voters = follow_tells opening popped.replica.id bytes (seen popped) (seen followed) (input_of event) [] (record {
      plain = plain;
      coherent = g.holds.replica.coherent;
      mid = made.replica.raft;
      made = subst (λ (n : Running). node_of made.replica.raft ≡ (compacted_step n.replica.id (node_of n.replica.raft) (input_of event)).node) e p.steps.made;
      follow = subst (λ (n : Running). FollowLog n.replica.raft made.replica.raft popped.members followed.members) e (own_follows event batch own t m by);
      last = own_last event batch own takes e t m p is by;
    });
    links = ap (λ (n : Running). n.has_links) is ∙ ap (λ (n : Running). n.has_links) m.is ∙ ap (λ (n : Running). n.has_links) t.is;
  }
  beside_own event batch own takes g t (change_told entry servers what may l) m p is by opening bytes = record {
    voters = subst (λ (last : raft.Input). Tells (read_setup opening) popped.replica.id bytes (seen popped) (seen followed) (raft.Local (raft.UseServers servers) ∷ last ∷ [])) (sym (ap input_of what))
        (change_tells opening popped.replica.id bytes (seen popped) (seen followed) entry servers (record {
          may = may;
          mid = told.replica.raft;
          told = l.posts.steps.made;
          made = ap (λ (n : Running). node_of n.replica.raft) is
              ∙ subst (λ (own : ℕ). node_of made.replica.raft ≡ (compacted_step own (node_of told.replica.raft) (raft.Local (raft.Propose (entry ∷ [])))).node) l.posts.id
              (subst (λ (i : raft.Input). node_of made.replica.raft ≡ (compacted_step told.replica.id (node_of told.replica.raft) i).node) (ap input_of what) p.steps.made);
          follow = subst (λ (n : Running). FollowLog told.replica.raft n.replica.raft popped.members followed.members) (sym is) (own_follows event batch own t m by);
        }));
    links = ap (λ (n : Running). n.has_links) is ∙ ap (λ (n : Running). n.has_links) m.is ∙ ap (λ (n : Running). n.has_links) t.is;
  }

-- the voters of an own step may be told, be it stopped or not
pub own_may : (opening : List raft.Server) (came : List ℕ) (popped told : Running) (event : RaftEvent) (x : ToldChange popped told event) → MayBe (read_setup opening) popped came (told_inputs (told_by popped told event x) ++ input_of event ∷ [])
unfolding told_by
own_may opening came popped told event (no_change plain e) = may_plain opening came popped (input_of event) plain
own_may opening came popped told event (change_told entry servers what may l) =
    subst (λ (last : raft.Input). MayBe (read_setup opening) popped came (raft.Local (raft.UseServers servers) ∷ last ∷ [])) (sym (ap input_of what)) (change_stops opening popped.replica.id came (seen popped) entry servers may).1

-- ---- a snapshot that comes

-- the node follows after it, so it was given the current servers
pub beside_installed : (opening : List raft.Server) (old step lost placed last : Running) (event : RaftEvent) (batch : Option ℕ) (a : Applied) → IsGoing old → (b : Brings old.replica event a) → HasStepped old step event batch →
    lost.replica ≡ step.replica → lost.has_links ≡ step.has_links → placed ≡ record lost { members = placed.members; applied = placed.applied } → FromSnapshot a.servers lost.replica.snap.index (node_of lost.replica.raft).log placed.members →
    StepsWithSnapshot (read_setup opening) old placed (account.bytes_in b.message.what) (message_value b.message) → step.replica.raft.role ≡ Follower → HasTold placed last → (x : TellsCurrentServers placed last) →
    Beside (read_setup opening) old last (account.bytes_in b.message.what) (raft.Receive (message_value b.message) ∷ told_inputs (tells_or placed last x))
unfolding tells_or
beside_installed opening old step lost placed last event batch a g b s replica links is from i follows t (stays_own e role) =
    absurd (role (ap (λ (r : ReplicaValue). r.raft.role) (ap (λ (n : Running). n.replica) is ∙ replica) ∙ follows))
beside_installed opening old step lost placed last event batch a g b s replica links is from i follows t (tells_current l) = record {
  voters = install_tells opening old.replica.id (account.bytes_in b.message.what) (seen old) (seen last) (message_value b.message) (last_servers placed.members) (record {
    coherent = g.holds.replica.coherent;
    mid = placed.replica.raft;
    made = i.posts.steps.made;
    mid_coherent = subst (λ (r : ReplicaValue). IsCoherent r.raft) (sym same) s.whole.coherent;
    comes = i.installs.comes;
    first = a.servers;
    contents = contents_of a.machine;
    spelled = subst (SpellsSnapshot (record { servers = a.servers; contents = contents_of a.machine })) (sym (ap account.bytes_in b.what_is)) b.restored.spelled;
    members = subst (λ (c : Configurations). FromSnapshot a.servers placed.replica.raft.snapshot.index (node_of placed.replica.raft).log c) (sym members)
        (subst (λ (n : ℕ). FromSnapshot a.servers n (node_of placed.replica.raft).log placed.members) (sym index)
        (subst (λ (r : ReplicaValue). FromSnapshot a.servers r.snap.index (node_of r.raft).log placed.members) (sym (ap (λ (n : Running). n.replica) is)) from));
    current = ap last_servers (sym members);
    told = subst (λ (own : ℕ). node_of last.replica.raft ≡ (compacted_step own (node_of placed.replica.raft) (raft.Local (raft.UseServers (last_servers placed.members)))).node) i.posts.id l.posts.steps.made;
  });
  links = ap (λ (n : Running). n.has_links) t.is ∙ ap (λ (n : Running). n.has_links) is ∙ links ∙ s.rest.links;
}
  where
    same : placed.replica ≡ step.replica
    same = ap (λ (n : Running). n.replica) is ∙ replica

    members : last.members ≡ placed.members
    members = ap (λ (n : Running). n.members) t.is

    index : placed.replica.raft.snapshot.index ≡ placed.replica.snap.index
    index = subst (λ (r : ReplicaValue). r.raft.snapshot.index ≡ r.snap.index) (sym same) (ap (λ (e : LogEnd). e.index) s.whole.snap)
