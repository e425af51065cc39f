-- The turn of what the node gave Raft itself.
use Rattle.std.proofs.Common.{◌≡◌, ◌≤◌, ℕ, Bool, true, List, [], ◌∷◌, ◌++◌, refl, sym, ap, subst, ◌∙◌, arith}
use Rattle.std.specs.Prelude.{map, Option, Some, None, MatchOption, ◌<◌}
use Rattle.database_state.specs.Machines.{IsMachine}
use Rattle.raft_spec.specs.Log.{Entry}
use Rattle.raft_spec.specs.Node as raft
use Rattle.raft_spec.specs.Node.{is_leader}
use Rattle.raft_spec.specs.NodeValues.{NodeValue, IsCoherent}
use Rattle.raft_core.specs.declared.event.RaftEvent.{RaftEvent}
use Rattle.raft_core.specs.declared.event.RaftEvent.TheVariants as events
use Rattle.raft_core.specs.Events.{input_of}
use Rattle.raft_membership.specs.Members.{Configurations, AllStand}
use Rattle.client_sessions.specs.Seen.{AreValidOver}
use Rattle.applied_state.specs.declared.leadership.Leadership.{Leadership as Held}
use Rattle.raft_on_disk.specs.Mails.{MailValue}
use Rattle.raft_on_disk.specs.Replicas.{ReplicaValue}
use Rattle.node_spec.specs.Accounts.{SameTerm}
use Rattle.node_spec.specs.RaftTurns.{HasEnded}
use Rattle.node_spec.proofs.RaftGoes.{proposals_taken_hold}
use Rattle.node_core.specs.declared.running.Running.{Running}
use Rattle.node_core.specs.Account.{proposals_in, moment_of, letter_of, Fresh}
use Rattle.node_core.specs.Posting.{Posts, KeepsAllButLog, MaybeToldServers, untold, told_servers, told_inputs, ProposesFirst, TakesOwnStep, owns_proposal, owns_transfer, TookFirstDue, MayTake}
use Rattle.node_core.specs.Stepping.{PutsNone, HasMade, HasStepped, HasTold}
use Rattle.node_core.specs.Values.{clients_in, seen}
use Rattle.node_core.specs.Voters.{BesideAll}
use Rattle.node_core.specs.Waiting.{HasTurns}
use Rattle.node_core.specs.Whole.{InOffice, LeadsInOffice, ServesLast, IsFree, IsLed, IsGoing, IsOwnDue, Holds}
use Rattle.node_core.proofs.Posting.{posts_on, kept_snap, same_term, leaves_so}
use Rattle.node_core.proofs.RaftTurns.{same_snap, keeps_snapshot, past_commit, holds_after, followed_none}
use Rattle.node_core.proofs.Stepped.{stepped_so, fresh_view}

-- ---- the event

puts_none : (r : ReplicaValue) (event : RaftEvent) → IsOwnDue event → PutsNone r event
puts_none r (events.Propose es) own = tt
puts_none r (events.Transfer to) own = tt
puts_none r events.Timeout own = absurd own
puts_none r events.Beat own = absurd own
puts_none r events.Yield own = absurd own
puts_none r (events.Message m) own = absurd own
puts_none r (events.Snapped at) own = absurd own
puts_none r (events.Servers servers) own = absurd own

-- ---- term and leadership

pub told_same : (a b : Running) → MaybeToldServers a b → SameTerm (moment_of a) (moment_of b)
told_same a b (untold e) = subst (λ (n : Running). SameTerm (moment_of a) (moment_of n)) (sym e) (record { term = refl; leads = refl })
told_same a b (told_servers servers l) = l.same

made_same : (told made : Running) (event : RaftEvent) → IsOwnDue event → Posts told made (input_of event) → SameTerm (moment_of told) (moment_of made)
made_same told made (events.Propose es) own p = same_term told made (raft.Local (raft.Propose es)) tt p
made_same told made (events.Transfer to) own p = same_term told made (raft.Local (raft.Transfer to)) tt p
made_same told made events.Timeout own p = absurd own
made_same told made events.Beat own p = absurd own
made_same told made events.Yield own p = absurd own
made_same told made (events.Message m) own p = absurd own
made_same told made (events.Snapped at) own p = absurd own
made_same told made (events.Servers servers) own p = absurd own

pub both_same : (popped told made : Running) (event : RaftEvent) → IsOwnDue event → MaybeToldServers popped told → Posts told made (input_of event) → SameTerm (moment_of popped) (moment_of made)
both_same popped told made event own tells p =
    let a = told_same popped told tells in
    let b = made_same told made event own p in
    record { term = b.term ∙ a.term; leads = b.leads ∙ a.leads }

pub same_office : (o : Option Held) (serving : Bool) (h i : NodeValue) → i.term ≡ h.term → is_leader i.role ≡ is_leader h.role → InOffice o serving h → InOffice o serving i
same_office None serving h i term leads g = g
same_office (Some o) serving h i term leads g = (leads ∙ g.0, g.1 ∙ sym term)

leads_same : (o : Option Held) (h i : NodeValue) → is_leader i.role ≡ is_leader h.role → LeadsInOffice o h → LeadsInOffice o i
leads_same None h i leads g = leads ∙ g
leads_same (Some o) h i leads g = g

-- ---- what holds after it

pub office_made : (popped told made : Running) (event : RaftEvent) (batch : Option ℕ) → IsOwnDue event → MaybeToldServers popped told → HasTold popped told → HasMade told made event batch → Posts told made (input_of event) → InOffice popped.office popped.view.serving popped.replica.raft →
    InOffice made.office made.view.serving made.replica.raft
office_made popped told made event batch own tells t m p g =
    let s = both_same popped told made event own tells p in
    let is : made ≡ record popped { replica = made.replica; mail = made.mail } = m.is ∙ ap (λ (n : Running). record n { replica = made.replica; mail = made.mail }) t.is in
    subst (λ (n : Running). InOffice n.office n.view.serving made.replica.raft) (sym is) (same_office popped.office popped.view.serving popped.replica.raft made.replica.raft s.term s.leads g)

made_is_stepped : (popped told made : Running) (event : RaftEvent) (batch : Option ℕ) → IsGoing popped → HasTold popped told → HasMade told made event batch → InOffice made.office made.view.serving made.replica.raft → HasStepped told made event batch
made_is_stepped popped told made event batch g t m office =
    let is : made ≡ record popped { replica = made.replica; mail = made.mail } = m.is ∙ ap (λ (n : Running). record n { replica = made.replica; mail = made.mail }) t.is in
    stepped_so told made made event batch m t.short refl (record { members = refl; index = refl; servers = refl; seen = refl; due = refl; links = refl })
    (subst (λ (n : Running). AreValidOver n.clients n.applied.machine) (sym is) g.holds.clients) (subst (λ (n : Running). HasTurns (clients_in n)) (sym is) g.holds.turns) office

pub own_past : (popped told made : Running) (event : RaftEvent) (batch : Option ℕ) → IsOwnDue event → IsGoing popped → HasTold popped told → HasMade told made event batch →
    MatchOption batch (Unit {0}) (λ first. (made.replica.raft.base < first) × (made.members.at < first))
own_past popped told made event batch own g t m =
    let is : made ≡ record popped { replica = made.replica; mail = made.mail } = m.is ∙ ap (λ (n : Running). record n { replica = made.replica; mail = made.mail }) t.is in
    let at : made.members.at ≡ popped.applied.index = ap (λ (n : Running). n.members.at) is ∙ g.holds.at in
    let high : popped.applied.index ≤ popped.replica.raft.commit = g.holds.high in
    let commit : popped.replica.raft.commit ≤ told.replica.raft.commit = t.commit in
    past_commit told.replica made.replica batch m.installed made.members.at t.whole m.whole (keeps_snapshot told.replica made.replica event t.whole m.whole m.node m.snap (puts_none told.replica event own))
    (omega (arith, at, high, commit)) m.moved

pub own_stand : (popped told made : Running) (event : RaftEvent) (batch : Option ℕ) → IsGoing popped → HasTold popped told → HasMade told made event batch → AllStand made.members
own_stand popped told made event batch g t m =
    let is : made ≡ record popped { replica = made.replica; mail = made.mail } = m.is ∙ ap (λ (n : Running). record n { replica = made.replica; mail = made.mail }) t.is in
    subst (λ (n : Running). AllStand n.members) (sym is) g.holds.members

pub own_holds : (popped told made followed : Running) (event : RaftEvent) (batch : Option ℕ) → IsOwnDue event → IsGoing popped → HasTold popped told → MaybeToldServers popped told → HasMade told made event batch → Posts told made (input_of event) →
    AllStand followed.members → followed.members.at ≡ made.members.at → followed ≡ record made { members = followed.members } → Holds followed
own_holds popped told made followed event batch own g t tells m p stand at is =
    let office = office_made popped told made event batch own tells t m p g.office in
    let s = made_is_stepped popped told made event batch g t m office in
    holds_after popped told made followed event batch g t (puts_none told.replica event own) s (followed_none made followed s.whole s.short stand at office is)

pub own_office_behind : (popped told made followed : Running) (event : RaftEvent) (batch : Option ℕ) → IsOwnDue event → IsGoing popped → HasTold popped told → MaybeToldServers popped told → HasMade told made event batch → Posts told made (input_of event) →
    followed ≡ record made { members = followed.members } → InOffice followed.office followed.view.serving followed.replica.raft
own_office_behind popped told made followed event batch own g t tells m p is =
    subst (λ (n : Running). InOffice n.office n.view.serving n.replica.raft) (sym is) (office_made popped told made event batch own tells t m p g.office)

pub own_seen : (popped told made followed : Running) (event : RaftEvent) (batch : Option ℕ) → IsGoing popped → HasTold popped told → HasMade told made event batch → followed ≡ record made { members = followed.members } → followed.view.servers ≡ followed.applied.servers
own_seen popped told made followed event batch g t m is =
    let all : followed ≡ record popped { replica = made.replica; mail = made.mail; members = followed.members } =
    is ∙ ap (λ (n : Running). record n { members = followed.members }) (m.is ∙ ap (λ (n : Running). record n { replica = made.replica; mail = made.mail }) t.is) in
    subst (λ (n : Running). n.view.servers ≡ n.applied.servers) (sym all) g.seen

free_still : (o : Option Held) (a b : Running) → (clients_in b).sessions ≡ (clients_in a).sessions → b.due.items ≡ a.due.items → IsFree o (moment_of a) → IsFree o (moment_of b)
free_still None a b sessions due free = (subst HasEnded (sym sessions) free.0, ap proposals_in due ∙ free.1)
free_still (Some o) a b sessions due free = tt

pub own_led : (popped told made followed new : Running) (event : RaftEvent) (batch : Option ℕ) → IsOwnDue event → IsLed popped → HasTold popped told → MaybeToldServers popped told → HasMade told made event batch → Posts told made (input_of event) →
    followed ≡ record made { members = followed.members } → new ≡ record followed { view = new.view } → new.view.serving ≡ followed.view.serving → IsLed new
own_led popped told made followed new event batch own led t tells m p f_is is same = subst IsLed (sym all) (record {
  leads = leads_same popped.office popped.replica.raft made.replica.raft (both_same popped told made event own tells p).leads led.leads;
  serves = subst (ServesLast popped.office) (sym serving) led.serves;
  free = free_still popped.office popped (record popped { replica = made.replica; mail = made.mail; members = followed.members; view = new.view }) refl refl led.free;
})
  where
    behind : followed ≡ record popped { replica = made.replica; mail = made.mail; members = followed.members }
    behind = f_is ∙ ap (λ (n : Running). record n { members = followed.members }) (m.is ∙ ap (λ (n : Running). record n { replica = made.replica; mail = made.mail }) t.is)

    all : new ≡ record popped { replica = made.replica; mail = made.mail; members = followed.members; view = new.view }
    all = is ∙ ap (λ (n : Running). record n { view = new.view }) behind

    serving : new.view.serving ≡ popped.view.serving
    serving = same ∙ ap (λ (n : Running). n.view.serving) behind

-- ---- what the rules see of it

-- with what was due before
posts_due : (a b w : Running) (i : raft.Input) → Posts a b i → Posts (record a { due = w.due }) b i
posts_due a b w i p = record {
  posted = p.posted;
  steps = record { made = p.steps.made; says = p.steps.says; coherent = p.steps.coherent; kept = p.steps.kept };
  mail = p.mail;
  sent = p.sent;
  id = p.id;
}

leaves_due : (a b w : Running) (i : raft.Input) → KeepsAllButLog a b i → KeepsAllButLog (record a { due = w.due }) (record b { due = w.due }) i
leaves_due a b w i l = record {
  posts = posts_on (record a { due = w.due }) b (record b { due = w.due }) i refl refl (posts_due a b w i l.posts);
  leaves = record {
    leaves = l.leaves.leaves;
    step = (posts_on (record a { due = w.due }) b (record b { due = w.due }) i refl refl (posts_due a b w i l.posts)).steps;
    snapshot = record { snapshot = l.leaves.snapshot.snapshot; bytes = l.leaves.snapshot.bytes };
    due = refl;
    rest = record { sessions = l.leaves.rest.sessions; waiting = l.leaves.rest.waiting; machine = l.leaves.rest.machine; files = l.leaves.rest.files; serving = l.leaves.rest.serving; applied = l.leaves.rest.applied };
  };
  outs = l.outs;
  same = record { term = l.same.term; leads = l.same.leads };
  snap = l.snap;
}

pub told_due : (a b w : Running) → MaybeToldServers a b → MaybeToldServers (record a { due = w.due }) (record b { due = w.due })
told_due a b w (untold e) = untold (ap (λ (n : Running). record n { due = w.due }) e)
told_due a b w (told_servers servers l) = told_servers servers (leaves_due a b w (raft.Local (raft.UseServers servers)) l)

proposes_at : (told w : Running) (r : ReplicaValue) (mail : MailValue) (c : Configurations) (es : List Entry) → Posts told (record told { replica = r; mail = mail }) (raft.Local (raft.Propose es)) → IsCoherent told.replica.raft → is_leader told.replica.raft.role ≡ true →
    w.due.items ≡ events.Propose es ∷ told.due.items → r.raft.snapshot ≡ told.replica.raft.snapshot → r.snap ≡ told.replica.snap → IsMachine told.applied.machine →
    ProposesFirst (record told { due = w.due }) (record told { replica = r; mail = mail; members = c }) es
proposes_at told w r mail c es p coherent leads due snapshot snap machine =
    let a : Running = record told { due = w.due } in
    let b : Running = record told { replica = r; mail = mail; members = c } in
    let q = posts_on a (record told { replica = r; mail = mail }) b (raft.Local (raft.Propose es)) refl refl (posts_due told (record told { replica = r; mail = mail }) w (raft.Local (raft.Propose es)) p) in
    record {
      posts = q;
      proposes = proposals_taken_hold told.replica.id (moment_of a) (moment_of b) es (map letter_of q.posted) q.steps coherent leads (ap proposals_in due)
          (record { snapshot = snapshot; bytes = kept_snap told.replica r snapshot snap })
          (record { sessions = refl; waiting = λ conn. refl; machine = machine; files = refl; serving = refl; applied = refl });
      outs = refl;
      same = (let s = same_term a b (raft.Local (raft.Propose es)) tt q in record { term = s.term; leads = s.leads });
      snap = sym (kept_snap told.replica r snapshot snap);
    }

-- what Raft was told stays
pub due_inputs : (a b w : Running) (e : MaybeToldServers a b) → told_inputs (told_due a b w e) ≡ told_inputs e
unfolding told_due
due_inputs a b w (untold e) = refl
due_inputs a b w (told_servers servers l) = refl

-- whatever configurations follow
leaves_members : (a b : Running) (c : Configurations) (i : raft.Input) → KeepsAllButLog a b i → KeepsAllButLog a (record b { members = c }) i
leaves_members a b c i l = record {
  posts = posts_on a b (record b { members = c }) i refl refl l.posts;
  leaves = record {
    leaves = l.leaves.leaves;
    step = (posts_on a b (record b { members = c }) i refl refl l.posts).steps;
    snapshot = record { snapshot = l.leaves.snapshot.snapshot; bytes = l.leaves.snapshot.bytes };
    due = l.leaves.due;
    rest = record { sessions = l.leaves.rest.sessions; waiting = l.leaves.rest.waiting; machine = l.leaves.rest.machine; files = l.leaves.rest.files; serving = l.leaves.rest.serving; applied = l.leaves.rest.applied };
  };
  outs = l.outs;
  same = record { term = l.same.term; leads = l.same.leads };
  snap = l.snap;
}

fresh_due : (w n new : Running) → new ≡ record n { view = new.view } → new.view.serving ≡ n.view.serving → proposals_in n.due.items ≡ proposals_in w.due.items → Fresh (record n { due = w.due }) new
fresh_due w n new is same due = subst (Fresh (record n { due = w.due })) (sym is) (record {
  moment = λ i. record { node = record (seen n) { serving = same i }; applied = n.applied.index; due = due i };
  mail = refl;
  replies = refl;
  reads = refl;
  kept = refl;
  id = refl;
  links = refl;
})

pub before_is : (before popped : Running) (event : RaftEvent) → TookFirstDue event before popped → record popped { due = before.due } ≡ before
before_is before popped event was = ap (λ (n : Running). record n { due = before.due }) was.is

-- what is due has no part in what voters are told
due_before : (w a b : Running) (is : List raft.Input) → BesideAll a b is → BesideAll (record a { due = w.due }) b is
due_before w a b is beside opening bytes = let x = beside opening bytes in record { voters = x.voters; links = x.links }

due_behind : (w a b : Running) (is : List raft.Input) → BesideAll a b is → BesideAll a (record b { due = w.due }) is
due_behind w a b is beside opening bytes = let x = beside opening bytes in record { voters = x.voters; links = x.links }

-- the two ends of the turn, by what it was
pub owns_so : (before popped told made followed new : Running) (event : RaftEvent) (batch : Option ℕ) → IsOwnDue event → MayTake event popped.replica.raft → TookFirstDue event before popped → IsGoing popped → HasTold popped told → (tells : MaybeToldServers popped told) →
    HasMade told made event batch → Posts told made (input_of event) → followed ≡ record made { members = followed.members } → new ≡ record followed { view = new.view } → new.view.serving ≡ followed.view.serving → IsMachine popped.applied.machine →
    BesideAll popped followed (told_inputs tells ++ input_of event ∷ []) → TakesOwnStep before new
owns_so before popped told made followed new (events.Propose es) batch own takes was g t tells m p f_is is same machine beside =
    let i : raft.Input = raft.Local (raft.Propose es) in
    let first : Running = record popped { due = before.due } in
    let behind : followed ≡ record told { replica = made.replica; mail = made.mail; members = followed.members } = f_is ∙ ap (λ (n : Running). record n { members = followed.members }) m.is in
    let due : before.due.items ≡ events.Propose es ∷ told.due.items = was.first ∙ ap (λ l. events.Propose es ∷ l) (sym (ap (λ (n : Running). n.due.items) t.is)) in
    let proposed = proposes_at told before made.replica made.mail followed.members es (subst (λ (n : Running). Posts told n i) m.is p) t.whole.coherent ((told_same popped told tells).leads ∙ takes) due
    (keeps_snapshot told.replica made.replica (events.Propose es) t.whole m.whole m.node m.snap tt) (same_snap told.replica made.replica (events.Propose es) _ refl m.whole m.node m.snap tt)
    (subst (λ (n : Running). IsMachine n.applied.machine) (sym t.is) machine) in
    subst (λ (n : Running). TakesOwnStep n new) (before_is before popped (events.Propose es) was)
    (owns_proposal (record told { due = before.due }) followed es (told_due popped told before tells) (subst (λ (n : Running). ProposesFirst (record told { due = before.due }) n es) (sym behind) proposed)
    (subst (λ (told_is : List raft.Input). BesideAll first followed (told_is ++ i ∷ [])) (sym (due_inputs popped told before tells)) (due_before before popped followed (told_inputs tells ++ i ∷ []) beside))
    (fresh_view followed new followed.office new.view is same))
owns_so before popped told made followed new (events.Transfer to) batch own takes was g t tells m p f_is is same machine beside =
    let i : raft.Input = raft.Local (raft.Transfer to) in
    let first : Running = record popped { due = before.due } in
    let l = leaves_so told made i tt tt p m.is (keeps_snapshot told.replica made.replica (events.Transfer to) t.whole m.whole m.node m.snap tt)
    (same_snap told.replica made.replica (events.Transfer to) _ refl m.whole m.node m.snap tt) (subst (λ (n : Running). IsMachine n.applied.machine) (sym t.is) machine) in
    let own_beside = due_before before popped (record made { members = followed.members }) (told_inputs tells ++ i ∷ []) (subst (λ (n : Running). BesideAll popped n (told_inputs tells ++ i ∷ [])) f_is beside) in
    subst (λ (n : Running). TakesOwnStep n new) (before_is before popped (events.Transfer to) was)
    (owns_transfer (record told { due = before.due }) (record (record made { members = followed.members }) { due = before.due }) to (told_due popped told before tells)
    (leaves_due told (record made { members = followed.members }) before i (leaves_members told made followed.members i l))
    (subst (λ (told_is : List raft.Input). BesideAll first (record (record made { members = followed.members }) { due = before.due }) (told_is ++ i ∷ [])) (sym (due_inputs popped told before tells))
    (due_behind before first (record made { members = followed.members }) (told_inputs tells ++ i ∷ []) own_beside))
    (fresh_due before (record made { members = followed.members }) new (is ∙ ap (λ (n : Running). record n { view = new.view }) f_is) (same ∙ ap (λ (n : Running). n.view.serving) f_is)
    (ap proposals_in (ap (λ (n : Running). n.due.items) (m.is ∙ ap (λ (n : Running). record n { replica = made.replica; mail = made.mail }) t.is)) ∙ sym (ap proposals_in was.first))))
owns_so before popped told made followed new events.Timeout batch own takes was g t tells m p f_is is same machine beside = absurd own
owns_so before popped told made followed new events.Beat batch own takes was g t tells m p f_is is same machine beside = absurd own
owns_so before popped told made followed new events.Yield batch own takes was g t tells m p f_is is same machine beside = absurd own
owns_so before popped told made followed new (events.Message x) batch own takes was g t tells m p f_is is same machine beside = absurd own
owns_so before popped told made followed new (events.Snapped at) batch own takes was g t tells m p f_is is same machine beside = absurd own
owns_so before popped told made followed new (events.Servers servers) batch own takes was g t tells m p f_is is same machine beside = absurd own
