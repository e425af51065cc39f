-- A turn in which Raft makes a step.
use Rattle.std.proofs.Common.{◌≡◌, ◌≤◌, ◌<◌, ℕ, Bool, true, false, cond, refl, sym, ap, subst, ◌∙◌, arith}
use Rattle.std.specs.Prelude.{◌≢◌, Option, Some, None, nat_lt, MatchOption}
use Rattle.std.specs.List.{AllByRecursion}
use Rattle.std.proofs.lemmas.Bool.{ltb-true}
use Rattle.raft_spec.specs.Log.{LogEnd}
use Rattle.raft_spec.specs.Laws as raft
use Rattle.raft_spec.specs.Node.{Node, Role, Leader, Candidate, Follower, is_leader}
use Rattle.applied_state.specs.declared.leadership.Leadership.{Leadership}
use Rattle.raft_spec.specs.NodeValues.{NodeValue, node_of}
use Rattle.raft_messages.specs.Servers.{IsConfiguration}
use Rattle.raft_membership.specs.Members.{Configurations, AllStand}
use Rattle.raft_core.specs.declared.event.RaftEvent.{RaftEvent}
use Rattle.raft_core.specs.declared.event.RaftEvent.TheVariants as events
use Rattle.raft_core.specs.Events.{EventFits, offered}
use Rattle.store_laws.specs.Store.{no_snap}
use Rattle.store_format.specs.FilesRead.{snap_kept}
use Rattle.client_sessions.specs.Seen.{AreValidOver}
use Rattle.raft_on_disk.specs.Replicas.{ReplicaValue, IsWhole, HasMoved, end_of, stepped, snap_after}
use Rattle.node_core.specs.declared.running.Running.{Running}
use Rattle.node_core.specs.Stepping.{PutsNone, HasStepped, HasFollowed, HasTold}
use Rattle.node_core.specs.Values.{clients_in}
use Rattle.node_core.specs.Waiting.{HasTurns}
use Rattle.node_core.specs.Whole.{IsOwnDue, InOffice, Holds, IsGoing}

-- ---- the snapshot stays where none comes

-- a snapshot past the commit index that an event without one would leave
none_comes : (r q : ReplicaValue) (event : RaftEvent) → IsWhole q → node_of q.raft ≡ stepped r event → q.snap ≡ no_snap → nat_lt r.raft.commit (stepped r event).snapshot.index ≡ true → ⊥
none_comes r q event w node snap b =
    let i : q.raft.snapshot.index ≡ 0 = ap (λ (e : LogEnd). e.index) (w.snap ∙ ap end_of snap) in
    let j : q.raft.snapshot.index ≡ (stepped r event).snapshot.index = ap (λ (s : Node). s.snapshot.index) node in
    let lt : r.raft.commit < (stepped r event).snapshot.index = ltb-true _ _ b in
    omega (arith, i, j, lt)

pub same_snap : (r q : ReplicaValue) (event : RaftEvent) (b : Bool) → nat_lt r.raft.commit (stepped r event).snapshot.index ≡ b → IsWhole q → node_of q.raft ≡ stepped r event → q.snap ≡ cond b (snap_kept (offered event)) r.snap → PutsNone r event → q.snap ≡ r.snap
same_snap r q event false e w node snap none = snap
same_snap r q (events.Message m) true e w node snap none = absurd cc
same_snap r q events.Timeout true e w node snap none = absurd (none_comes r q events.Timeout w node snap e)
same_snap r q events.Beat true e w node snap none = absurd (none_comes r q events.Beat w node snap e)
same_snap r q events.Yield true e w node snap none = absurd (none_comes r q events.Yield w node snap e)
same_snap r q (events.Propose es) true e w node snap none = absurd (none_comes r q (events.Propose es) w node snap e)
same_snap r q (events.Transfer to) true e w node snap none = absurd (none_comes r q (events.Transfer to) w node snap e)
same_snap r q (events.Snapped end) true e w node snap none = absurd (none_comes r q (events.Snapped end) w node snap e)
same_snap r q (events.Servers servers) true e w node snap none = absurd (none_comes r q (events.Servers servers) w node snap e)

pub keeps_snapshot : (r q : ReplicaValue) (event : RaftEvent) → IsWhole r → IsWhole q → node_of q.raft ≡ stepped r event → q.snap ≡ snap_after r event → PutsNone r event → q.raft.snapshot ≡ r.raft.snapshot
keeps_snapshot r q event v w node snap none = w.snap ∙ ap end_of (same_snap r q event _ refl w node snap none) ∙ sym v.snap

-- ---- where the log is another one

pub past_commit : (r q : ReplicaValue) (batch : Option ℕ) (installed : Bool) (at : ℕ) → IsWhole r → IsWhole q → q.raft.snapshot ≡ r.raft.snapshot → at ≤ r.raft.commit → HasMoved (node_of r.raft) (node_of q.raft) batch installed → MatchOption batch (Unit {0}) (λ first. (q.raft.base < first) × (at < first))
past_commit r q None installed at v w same high m = tt
past_commit r q (Some first) true at v w same high m = absurd cc
past_commit r q (Some first) false at v w same high m =
    let past : r.raft.commit < first = m.1.past in
    let base : q.raft.base ≤ q.raft.snapshot.index = w.coherent.low in
    let i : q.raft.snapshot.index ≡ r.raft.snapshot.index = ap (λ (e : LogEnd). e.index) same in
    let low : r.raft.snapshot.index ≤ r.raft.commit = v.coherent.applied in
    (omega (arith, past, base, i, low), omega (arith, past, high))

-- ---- Raft was given servers

pub told : (old new : Running) (servers : _) → IsWhole old.replica → IsWhole new.replica → raft.HasShortTerm (node_of new.replica.raft) → node_of new.replica.raft ≡ stepped old.replica (events.Servers servers) → new.replica.snap ≡ snap_after old.replica (events.Servers servers)
    → old.replica.raft.commit ≤ new.replica.raft.commit → new ≡ record old { replica = new.replica; mail = new.mail } → HasTold old new
told old new servers v w short node snap commit is = record {
  whole = w;
  short = short;
  snapshot = keeps_snapshot old.replica new.replica (events.Servers servers) v w node snap tt;
  snap = same_snap old.replica new.replica (events.Servers servers) _ refl w node snap tt;
  commit = commit;
  is = is;
}

pub told_fits : (h : NodeValue) (servers : _) → IsConfiguration servers → h.role ≢ Candidate → EventFits h (events.Servers servers)
told_fits h servers c settled = (c, λ e. absurd (settled e))

-- ---- the turn ends

pub holds_after : (old told stepped followed : Running) (event : RaftEvent) (batch : Option ℕ) → IsGoing old → HasTold old told → PutsNone told.replica event → HasStepped told stepped event batch → HasFollowed stepped followed → Holds followed
holds_after old told stepped followed event batch g t none s f =
    let h = g.holds in
    let members : told.members ≡ old.members = ap (λ (n : Running). n.members) t.is in
    let index : told.applied.index ≡ old.applied.index = ap (λ (n : Running). n.applied.index) t.is in
    let servers : told.applied.servers ≡ old.applied.servers = ap (λ (n : Running). n.applied.servers) t.is in
    let due : told.due.items ≡ old.due.items = ap (λ (n : Running). n.due.items) t.is in
    let snap1 : told.replica.raft.snapshot.index ≡ old.replica.raft.snapshot.index = ap (λ (e : LogEnd). e.index) t.snapshot in
    let snap2 : stepped.replica.raft.snapshot.index ≡ told.replica.raft.snapshot.index = ap (λ (e : LogEnd). e.index) (keeps_snapshot told.replica stepped.replica event t.whole s.whole s.node s.snap none) in
    let snap3 : followed.replica.raft.snapshot.index ≡ stepped.replica.raft.snapshot.index = ap (λ (e : LogEnd). e.index) f.snapshot in
    let index2 : stepped.applied.index ≡ told.applied.index = s.rest.index in
    let index3 : followed.applied.index ≡ stepped.applied.index = ap (λ (n : Running). n.applied.index) f.is in
    let low : old.replica.raft.snapshot.index ≤ old.applied.index = h.low in
    let high : old.applied.index ≤ old.replica.raft.commit = h.high in
    let commit1 : old.replica.raft.commit ≤ told.replica.raft.commit = t.commit in
    let commit2 : told.replica.raft.commit ≤ stepped.replica.raft.commit = s.commit in
    let commit3 : stepped.replica.raft.commit ≤ followed.replica.raft.commit = f.commit in
    record {
      replica = f.whole;
      short = f.short;
      clients = subst (λ (n : Running). AreValidOver n.clients n.applied.machine) (sym f.is) s.stand;
      turns = subst (λ (n : Running). HasTurns (clients_in n)) (sym f.is) s.turns;
      servers = subst IsConfiguration (sym (ap (λ (n : Running). n.applied.servers) f.is ∙ s.rest.servers ∙ servers)) h.servers;
      members = f.stand;
      at = f.at ∙ ap (λ (m : Configurations). m.at) (s.rest.members ∙ members) ∙ h.at ∙ sym (index3 ∙ index2 ∙ index);
      low = omega (arith, snap1, snap2, snap3, index, index2, index3, low);
      high = omega (arith, index, index2, index3, high, commit1, commit2, commit3);
      due = subst (AllByRecursion IsOwnDue) (sym (ap (λ (n : Running). n.due.items) f.is ∙ s.rest.due ∙ due)) h.due;
    }

-- the leadership has no part in it
pub reoffice : (n : Running) (o : Option Leadership) → Holds n → Holds (record n { office = o })
reoffice n o h = record { replica = h.replica; short = h.short; clients = h.clients; turns = h.turns; servers = h.servers; members = h.members; at = h.at; low = h.low; high = h.high; due = h.due }

pub seen_after : (old told stepped followed : Running) (event : RaftEvent) (batch : Option ℕ) → IsGoing old → HasTold old told → HasStepped told stepped event batch → HasFollowed stepped followed → followed.view.servers ≡ followed.applied.servers
seen_after old told stepped followed event batch g t s f =
    ap (λ (n : Running). n.view.servers) f.is ∙ s.rest.seen ∙ ap (λ (n : Running). n.view.servers) t.is ∙ g.seen
    ∙ sym (ap (λ (n : Running). n.applied.servers) f.is ∙ s.rest.servers ∙ ap (λ (n : Running). n.applied.servers) t.is)

-- a node that was in no leadership without serving
pub unserved : (o : Option Leadership) (serving : Bool) (h : NodeValue) → InOffice o serving h → o ≡ None → serving ≡ false
unserved None serving h g e = g
unserved (Some o) serving h g e = absurd cc

-- one that follows is in none
pub follows_on : (o : Option Leadership) (serving : Bool) (h i : NodeValue) → h.role ≡ Follower → InOffice o serving h → InOffice o serving i
follows_on None serving h i e g = g
follows_on (Some o) serving h i e g = absurd cc

pub not_candidate : (r : Role) → r ≡ Follower → r ≢ Candidate
not_candidate r e q = absurd cc

pub leader_settled : (r : Role) → is_leader r ≡ true → r ≢ Candidate
leader_settled Leader e q = absurd cc
leader_settled Candidate e q = absurd cc
leader_settled Follower e q = absurd cc

-- nothing was reported
pub told_none : (n : Running) → IsWhole n.replica → raft.HasShortTerm (node_of n.replica.raft) → HasTold n n
told_none n w s = record { whole = w; short = s; snapshot = refl; snap = refl; commit = omega arith; is = refl }

pub followed_none : (n m : Running) → IsWhole n.replica → raft.HasShortTerm (node_of n.replica.raft) → AllStand m.members → m.members.at ≡ n.members.at → InOffice n.office n.view.serving n.replica.raft → m ≡ record n { members = m.members } → HasFollowed n m
followed_none n m w s stand at o is = subst (λ (x : Running). HasFollowed n x) (sym is) (record { whole = w; short = s; snapshot = refl; commit = omega arith; stand = stand; at = at; office = o; is = refl })

pub followed_told : (n m t : Running) → m ≡ record n { members = m.members } → AllStand m.members → m.members.at ≡ n.members.at → HasTold m t → InOffice t.office t.view.serving t.replica.raft → HasFollowed n t
followed_told n m t is stand at told o =
    let members : t.members ≡ m.members = ap (λ (x : Running). x.members) told.is in
    record {
      whole = told.whole;
      short = told.short;
      snapshot = told.snapshot ∙ ap (λ (x : Running). x.replica.raft.snapshot) is;
      commit = subst (λ (x : Running). x.replica.raft.commit ≤ t.replica.raft.commit) is told.commit;
      stand = subst AllStand (sym members) stand;
      at = ap (λ (x : Configurations). x.at) members ∙ at;
      office = o;
      is = told.is ∙ ap (λ (x : Running). record x { replica = t.replica; mail = t.mail }) is ∙ ap (λ (c : Configurations). record n { replica = t.replica; members = c; mail = t.mail }) (sym members);
    }
