-- A node between two turns of a step.
use Rattle.std.proofs.Common.{◌≡◌, ◌≤◌, ◌∷◌, ◌++◌, Bool, true, List, [], refl, sym, ap, subst, ◌∙◌, arith}
use Rattle.std.specs.Prelude.{◌≢◌, length, Option, Some, None}
use Rattle.std.specs.List.{AllByRecursion}
use Rattle.raft_spec.specs.Laws as raft
use Rattle.raft_spec.specs.Node.{Role, Leader, Candidate, Follower, is_leader}
use Rattle.raft_spec.specs.NodeValues as values
use Rattle.raft_spec.specs.NodeValues.{NodeValue}
use Rattle.raft_messages.specs.Servers.{IsConfiguration}
use Rattle.raft_membership.specs.Members.{Configurations, AllStand}
use Rattle.raft_core.specs.declared.event.RaftEvent.{RaftEvent}
use Rattle.raft_core.specs.declared.event.RaftEvent.TheVariants as events
use Rattle.raft_core.specs.Events.{EventFits}
use Rattle.session_gateway.specs.Calls.{HasShortTerm, IsConfigured}
use Rattle.client_sessions.specs.Seen.{AreValidOver}
use Rattle.applied_state.specs.declared.leadership.Leadership.{Leadership}
use Rattle.raft_on_disk.specs.Replicas.{ReplicaValue, IsIntake, IsWhole}
use Rattle.node_core.specs.declared.running.Running.{Running}
use Rattle.node_core.specs.Values.{clients_in}
use Rattle.node_core.specs.Waiting.{HasTurns}
use Rattle.node_core.specs.Whole.{IsDue, IsOwnDue, IsOutside, InOffice, IsGoing, IsLed, IsQuiet, Rests}

-- ---- what its sessions are told

pub leads_not_follows : (r : Role) → is_leader r ≡ true → r ≢ Follower
leads_not_follows Leader e q = absurd cc
leads_not_follows Candidate e q = absurd cc
leads_not_follows Follower e q = absurd cc

pub short_view : (n : Running) → IsGoing n → HasShortTerm n.view
short_view n g = by n.office g.office
  where
    by : (o : Option Leadership) → InOffice o n.view.serving n.replica.raft → n.view.serving ≡ true → n.view.term ≤ 4294967295
    by None e s = absurd cc
    by (Some o) e s =
        let t : n.replica.raft.term ≤ 4294967295 = g.holds.short (leads_not_follows n.replica.raft.role e.0) in
        let i : n.view.term ≡ n.replica.raft.term = g.in_term in
        omega (arith, t, i)

pub configured : (n : Running) → IsGoing n → IsConfigured n.view
configured n g = subst IsConfiguration (sym g.seen) g.holds.servers

-- ---- what is due

pub due_fits : (h : NodeValue) (event : RaftEvent) → IsDue event → EventFits h event
due_fits h events.Timeout d = tt
due_fits h events.Beat d = tt
due_fits h events.Yield d = tt
due_fits h (events.Message m) d = tt
due_fits h (events.Propose es) d = tt
due_fits h (events.Transfer to) d = tt
due_fits h (events.Snapped at) d = absurd d
due_fits h (events.Servers s) d = absurd d

pub due_intake : (event : RaftEvent) → IsDue event → IsIntake event
due_intake events.Timeout d = tt
due_intake events.Beat d = tt
due_intake events.Yield d = tt
due_intake (events.Message m) d = tt
due_intake (events.Propose es) d = tt
due_intake (events.Transfer to) d = tt
due_intake (events.Snapped at) d = absurd d
due_intake (events.Servers s) d = tt

pub own_is_due : (event : RaftEvent) → IsOwnDue event → IsDue event
own_is_due events.Timeout d = absurd d
own_is_due events.Beat d = absurd d
own_is_due events.Yield d = absurd d
own_is_due (events.Message m) d = absurd d
own_is_due (events.Propose es) d = tt
own_is_due (events.Transfer to) d = tt
own_is_due (events.Snapped at) d = absurd d
own_is_due (events.Servers s) d = absurd d

pub outside_is_due : (event : RaftEvent) → IsOutside event → IsDue event
outside_is_due events.Timeout d = tt
outside_is_due events.Beat d = tt
outside_is_due events.Yield d = tt
outside_is_due (events.Message m) d = tt
outside_is_due (events.Propose es) d = absurd d
outside_is_due (events.Transfer to) d = absurd d
outside_is_due (events.Snapped at) d = absurd d
outside_is_due (events.Servers s) d = absurd d

pub one_more_due : (es : List RaftEvent) (e : RaftEvent) → AllByRecursion IsOwnDue es → IsOwnDue e → AllByRecursion IsOwnDue (es ++ e ∷ [])
one_more_due [] e a d = (d, tt)
one_more_due (x ∷ es) e a d = (a.0, one_more_due es e a.1 d)

-- ---- what else may change

-- all that `IsGoing` speaks of except for the clients and what is due is the
-- same
pub record SameRest (old new : Running) : Type 0 where
  pub replica : new.replica ≡ old.replica
  pub members : new.members ≡ old.members
  pub index : new.applied.index ≡ old.applied.index
  pub servers : new.applied.servers ≡ old.applied.servers
  pub office : new.office ≡ old.office
  pub serving : new.view.serving ≡ old.view.serving
  pub seen : new.view.servers ≡ old.view.servers
  pub term : new.view.term ≡ old.view.term
  pub last : new.view.last ≡ old.view.last

pub in_same_office : (o p : Option Leadership) (b c : Bool) (h i : NodeValue) → InOffice o b h → p ≡ o → c ≡ b → i ≡ h → InOffice p c i
in_same_office o p b c h i g oe be he =
    subst (λ (x : NodeValue). InOffice p c x) (sym he) (subst (λ (x : Bool). InOffice p x h) (sym be) (subst (λ (x : Option Leadership). InOffice x b h) (sym oe) g))

pub still_going : (old new : Running) → IsGoing old → SameRest old new → AllByRecursion IsOwnDue new.due.items → AreValidOver new.clients new.applied.machine → HasTurns (clients_in new) → IsGoing new
still_going old new g s due stand turns =
    let same : new.replica.raft ≡ old.replica.raft = ap (λ (r : ReplicaValue). r.raft) s.replica in
    let snap : new.replica.raft.snapshot.index ≡ old.replica.raft.snapshot.index = ap (λ (h : NodeValue). h.snapshot.index) same in
    let commit : new.replica.raft.commit ≡ old.replica.raft.commit = ap (λ (h : NodeValue). h.commit) same in
    let index : new.applied.index ≡ old.applied.index = s.index in
    let low : old.replica.raft.snapshot.index ≤ old.applied.index = g.holds.low in
    let high : old.applied.index ≤ old.replica.raft.commit = g.holds.high in
    record {
      holds = record {
        replica = subst IsWhole (sym s.replica) g.holds.replica;
        short = subst (λ (h : NodeValue). raft.HasShortTerm (values.node_of h)) (sym same) g.holds.short;
        clients = stand;
        turns = turns;
        servers = subst IsConfiguration (sym s.servers) g.holds.servers;
        members = subst AllStand (sym s.members) g.holds.members;
        at = ap (λ (m : Configurations). m.at) s.members ∙ g.holds.at ∙ sym s.index;
        low = omega (arith, snap, index, low);
        high = omega (arith, commit, index, high);
        due = due;
      };
      office = in_same_office old.office new.office old.view.serving new.view.serving old.replica.raft new.replica.raft g.office s.office s.serving same;
      seen = s.seen ∙ g.seen ∙ sym s.servers;
      in_term = s.term ∙ g.in_term ∙ ap (λ (h : NodeValue). h.term) (sym same);
      last = s.last ∙ g.last ∙ ap (λ (h : NodeValue). length (values.node_of h).log) (sym same);
    }

-- only what is said, or on which connections, has changed
pub says_more : (old new : Running) → IsGoing old → new ≡ record old { outs = new.outs; links = new.links; lent = new.lent; heard = new.heard; mail = new.mail } → IsGoing new
says_more old new g is = subst IsGoing (sym is) (still_going old (record old { outs = new.outs; links = new.links; lent = new.lent; heard = new.heard; mail = new.mail }) g
    (record { replica = refl; members = refl; index = refl; servers = refl; office = refl; serving = refl; seen = refl; term = refl; last = refl }) g.holds.due g.holds.clients g.holds.turns)

-- something is due after what was due
pub more_due : (old new : Running) (e : RaftEvent) → IsGoing old → IsOwnDue e → new.due.items ≡ old.due.items ++ e ∷ [] → new ≡ record old { due = new.due } → IsGoing new
more_due old new e g d is rest = subst IsGoing (sym rest) (still_going old (record old { due = new.due }) g
    (record { replica = refl; members = refl; index = refl; servers = refl; office = refl; serving = refl; seen = refl; term = refl; last = refl })
    (subst (AllByRecursion IsOwnDue) (sym is) (one_more_due old.due.items e g.holds.due d)) g.holds.clients g.holds.turns)

-- the clients have changed, and the marks of the databases with them
pub clients_moved : (old new : Running) → IsGoing old → AreValidOver new.clients new.applied.machine → HasTurns (clients_in new)
    → new ≡ record old { clients = new.clients; applied = record old.applied { machine = new.applied.machine }; outs = new.outs; links = new.links; heard = new.heard } → IsGoing new
clients_moved old new g stand turns is =
    subst IsGoing (sym is) (still_going old (record old { clients = new.clients; applied = record old.applied { machine = new.applied.machine }; outs = new.outs; links = new.links; heard = new.heard }) g
    (record { replica = refl; members = refl; index = refl; servers = refl; office = refl; serving = refl; seen = refl; term = refl; last = refl }) g.holds.due stand turns)

-- ---- between two steps

pub rests_then : (n m : Running) → IsGoing n → IsLed n → n.applied.index ≡ n.replica.raft.commit → n.due.items ≡ [] → (clients_in n).turns ≡ [] → n.heard ≡ None → m ≡ record n { outs = m.outs; mail = m.mail } → IsQuiet m → Rests m
rests_then n m g led applied idle turns heard is quiet = record {
  led = subst IsLed (sym is) (record { leads = led.leads; serves = led.serves; free = led.free });
  going = subst IsGoing (sym is) (says_more n (record n { outs = m.outs; mail = m.mail }) g refl);
  applied = subst (λ (x : Running). x.applied.index ≡ x.replica.raft.commit) (sym is) applied;
  idle = subst (λ (x : Running). x.due.items ≡ []) (sym is) idle;
  turns = subst (λ (x : Running). (clients_in x).turns ≡ []) (sym is) turns;
  heard = subst (λ (x : Running). x.heard ≡ None) (sym is) heard;
  quiet = quiet;
}

pub counted_led : (n m : Running) → IsLed n → m ≡ record n { replica = record n.replica { keeps = 0 } } → IsLed m
counted_led n m led is = subst IsLed (sym is) (record { leads = led.leads; serves = led.serves; free = led.free })

-- the count of keeps has no part in what holds
pub counted_anew : (n m : Running) → IsGoing n → m ≡ record n { replica = record n.replica { keeps = 0 } } → IsGoing m
counted_anew n m g is = subst IsGoing (sym is) (record {
  holds = record {
    replica = record { id = g.holds.replica.id; coherent = g.holds.replica.coherent; snap = g.holds.replica.snap; none = g.holds.replica.none; has_term = g.holds.replica.has_term };
    short = g.holds.short;
    clients = g.holds.clients;
    turns = g.holds.turns;
    servers = g.holds.servers;
    members = g.holds.members;
    at = g.holds.at;
    low = g.holds.low;
    high = g.holds.high;
    due = g.holds.due;
  };
  office = g.office;
  seen = g.seen;
  in_term = g.in_term;
  last = g.last;
})
