-- A turn of Raft's, from its step to its end.
use Rattle.std.proofs.Common.{◌≡◌, ◌≤◌, ℕ, List, [], ◌∷◌, refl, sym, ap, subst, ◌∙◌}
use Rattle.std.specs.Prelude.{Option, Some, None}
use Rattle.database_state.specs.Machines.{IsMachine}
use Rattle.raft_spec.specs.Laws.{HasShortTerm}
use Rattle.raft_spec.specs.Node as raft
use Rattle.raft_spec.specs.NodeValues.{node_of}
use Rattle.raft_core.specs.declared.event.RaftEvent.{RaftEvent}
use Rattle.raft_core.specs.declared.event.RaftEvent.TheVariants as events
use Rattle.raft_core.specs.Events.{input_of}
use Rattle.raft_membership.specs.Members.{Configurations}
use Rattle.client_sessions.specs.Seen.{AreValidOver}
use Rattle.session_spec.specs.Sessions.{View}
use Rattle.applied_state.specs.declared.leadership.Leadership.{Leadership as Held}
use Rattle.raft_on_disk.specs.Replicas.{ReplicaValue, IsWhole, HasMoved}
use Rattle.node_spec.specs.RaftTurns.{HasEnded}
use Rattle.node_core.specs.declared.running.Running.{Running}
use Rattle.node_core.specs.Account.{proposals_in, moment_of, Fresh}
use Rattle.node_core.specs.Posting.{Posts, KeepsAllButLog, MaybeToldServers, told_inputs, FollowsLeadership, StepsWithoutSnapshot, TurnsWithoutSnapshot}
use Rattle.node_core.specs.Stepping.{PutsNone, HasMade, HasStepped, HasFollowed, HasTold, KeepsRest}
use Rattle.node_core.specs.Values.{clients_in, seen}
use Rattle.node_core.specs.Voters.{BesideAll}
use Rattle.node_core.specs.Waiting.{HasTurns}
use Rattle.node_core.specs.Whole.{InOffice, LeadsInOffice, ServesLast, IsFree, IsLed, IsGoing, IsOutside, Holds}
use Rattle.node_core.proofs.Posting.{leaves_so, follows_so}
use Rattle.node_core.proofs.RaftTurns.{same_snap, keeps_snapshot, told, told_none, holds_after}

-- ---- after Raft's step

pub stepped_so : (old mid new : Running) (event : RaftEvent) (batch : Option ℕ) → HasMade old mid event batch → HasShortTerm (node_of old.replica.raft) → new.replica ≡ mid.replica → KeepsRest mid new → AreValidOver new.clients new.applied.machine →
    HasTurns (clients_in new) → InOffice new.office new.view.serving new.replica.raft → HasStepped old new event batch
stepped_so old mid new event batch m short replica rest stand turns office = record {
  whole = subst IsWhole (sym replica) m.whole;
  short = subst (λ (r : ReplicaValue). HasShortTerm (node_of r.raft)) (sym replica) (m.short short);
  node = ap (λ (r : ReplicaValue). node_of r.raft) replica ∙ m.node;
  snap = ap (λ (r : ReplicaValue). r.snap) replica ∙ m.snap;
  bytes = ap (λ (r : ReplicaValue). r.snap.bytes) replica ∙ m.bytes;
  commit = subst (λ (r : ReplicaValue). old.replica.raft.commit ≤ r.raft.commit) (sym replica) m.commit;
  installed = m.installed;
  moved = subst (λ (r : ReplicaValue). HasMoved (node_of old.replica.raft) (node_of r.raft) batch m.installed) (sym replica) m.moved;
  stand = stand;
  turns = turns;
  office = office;
  rest = record {
    members = rest.members ∙ ap (λ (n : Running). n.members) m.is;
    index = rest.index ∙ ap (λ (n : Running). n.applied.index) m.is;
    servers = rest.servers ∙ ap (λ (n : Running). n.applied.servers) m.is;
    seen = rest.seen ∙ ap (λ (n : Running). n.view.servers) m.is;
    due = rest.due ∙ ap (λ (n : Running). n.due.items) m.is;
    links = rest.links ∙ ap (λ (n : Running). n.has_links) m.is;
  };
}

-- ---- Raft was given servers

pub told_so : (old new : Running) (servers : List raft.Server) (batch : Option ℕ) → IsWhole old.replica → HasShortTerm (node_of old.replica.raft) → HasMade old new (events.Servers servers) batch → HasTold old new
told_so old new servers batch whole short m = told old new servers whole m.whole (m.short short) m.node m.snap m.commit m.is

pub tells_so : (old new : Running) (servers : List raft.Server) (batch : Option ℕ) → IsWhole old.replica → HasMade old new (events.Servers servers) batch → Posts old new (raft.Local (raft.UseServers servers)) → IsMachine old.applied.machine →
    KeepsAllButLog old new (raft.Local (raft.UseServers servers))
tells_so old new servers batch whole m posts machine =
    leaves_so old new (raft.Local (raft.UseServers servers)) tt tt posts m.is (keeps_snapshot old.replica new.replica (events.Servers servers) whole m.whole m.node m.snap tt)
    (same_snap old.replica new.replica (events.Servers servers) _ refl m.whole m.node m.snap tt) machine

-- ---- the turn ends

pub fresh_view : (n m : Running) (o : Option Held) (v : View) → m ≡ record n { office = o; view = v } → v.serving ≡ n.view.serving → Fresh n m
fresh_view n m o v is same = subst (Fresh n) (sym is) (record { moment = λ i. record (moment_of n) { node = record (seen n) { serving = same i } }; mail = refl; replies = refl; reads = refl; kept = refl; id = refl; links = refl })

pub fresh_won : (followed won new : Running) → won ≡ record followed { office = won.office } → new ≡ record won { view = new.view } → new.view.serving ≡ won.view.serving → Fresh followed new
fresh_won followed won new won_is is same =
    fresh_view followed new won.office new.view (is ∙ ap (λ (n : Running). record n { view = new.view }) won_is) (same ∙ ap (λ (n : Running). n.view.serving) won_is)

pub holds_behind : (old step followed : Running) (event : RaftEvent) (batch : Option ℕ) → IsGoing old → PutsNone old.replica event → HasStepped old step event batch → HasFollowed step followed → Holds followed
holds_behind old step followed event batch g none s f = holds_after old old step followed event batch g (told_none old g.holds.replica g.holds.short) none s f

-- the step, whatever configurations follow it
pub follows_step : (old step : Running) (event : RaftEvent) (batch : Option ℕ) → IsGoing old → IsOutside event → PutsNone old.replica event → old.due.items ≡ [] → HasStepped old step event batch → Posts old step (input_of event) → FollowsLeadership old step →
    (c : Configurations) → StepsWithoutSnapshot old (record step { members = c }) (input_of event)
follows_step old step event batch g outside none idle s posts offices c =
    follows_so old step event c outside posts offices idle s.rest.due s.rest.index (keeps_snapshot old.replica step.replica event g.holds.replica s.whole s.node s.snap none)
    (same_snap old.replica step.replica event _ refl s.whole s.node s.snap none)

pub began_so : (old step followed new : Running) (event : RaftEvent) (batch : Option ℕ) → IsGoing old → IsOutside event → PutsNone old.replica event → old.due.items ≡ [] → HasStepped old step event batch → Posts old step (input_of event) →
    FollowsLeadership old step → (tells : MaybeToldServers (record step { members = followed.members }) followed) → BesideAll old followed (input_of event ∷ told_inputs tells) → Fresh followed new → TurnsWithoutSnapshot old new event
began_so old step followed new event batch g outside none idle s posts offices tells beside fresh = record {
  mid = record step { members = followed.members };
  follows = follows_step old step event batch g outside none idle s posts offices followed.members;
  last = followed;
  tells = tells;
  beside = beside;
  fresh = fresh;
}

-- ---- the leadership

free_behind : (step new : Running) → (clients_in new).sessions ≡ (clients_in step).sessions → new.due.items ≡ step.due.items → IsFree None (moment_of step) → IsFree None (moment_of new)
free_behind step new sessions due free = (subst HasEnded (sym sessions) free.0, ap proposals_in due ∙ free.1)

pub led_so : (step followed won new : Running) → followed ≡ record step { replica = followed.replica; members = followed.members; mail = followed.mail } → won ≡ record followed { office = won.office } → new ≡ record won { view = new.view } →
    new.view.serving ≡ won.view.serving → ServesLast step.office step.view.serving → IsFree step.office (moment_of step) → LeadsInOffice won.office won.replica.raft →
    (ServesLast followed.office followed.view.serving → ServesLast won.office won.view.serving) → (won.office ≡ None → followed.office ≡ None) → IsLed new
led_so step followed won new f_is w_is is same serves free leads on back = record {
  leads = subst (λ (n : Running). LeadsInOffice n.office n.replica.raft) (sym is) leads;
  serves = subst (λ (o : Option Held). ServesLast o new.view.serving) (sym office) (subst (ServesLast won.office) (sym same) (on (subst (λ (n : Running). ServesLast n.office n.view.serving) (sym f_is) serves)));
  free = subst (λ (o : Option Held). IsFree o (moment_of new)) (sym office) (by won.office refl);
}
  where
    office : new.office ≡ won.office
    office = ap (λ (n : Running). n.office) is

    by : (o : Option Held) → won.office ≡ o → IsFree o (moment_of new)
    by (Some o) e = tt
    by None e =
        free_behind step new
        (ap (λ (n : Running). (clients_in n).sessions) is ∙ ap (λ (n : Running). (clients_in n).sessions) w_is ∙ ap (λ (n : Running). (clients_in n).sessions) f_is)
        (ap (λ (n : Running). n.due.items) is ∙ ap (λ (n : Running). n.due.items) w_is ∙ ap (λ (n : Running). n.due.items) f_is)
        (subst (λ (o : Option Held). IsFree o (moment_of step)) (sym (ap (λ (n : Running). n.office) f_is) ∙ back e) free)
