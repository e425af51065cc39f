-- What a replica's call says of its step is a step of Raft that is kept and posted, and what its turn leaves.
use Rattle.std.proofs.Common.{◌≡◌, ℕ, Bool, true, false, not, List, [], refl, sym, ap, subst, ◌∙◌, append-nil}
use Rattle.std.specs.Prelude.{map, ◌&&◌, ◌==◌, Option, Some, None}
use Rattle.database_state.specs.Machines.{IsMachine}
use Rattle.session_spec.specs.Machine.{machine_of}
use Rattle.session_spec.specs.Events.{told_lost}
use Rattle.raft_spec.specs.Node as raft
use Rattle.raft_spec.specs.Node.{is_leader}
use Rattle.raft_spec.specs.NodeValues.{IsCoherent, node_of}
use Rattle.raft_messages.specs.declared.message.RaftMessage.{RaftMessage}
use Rattle.raft_core.specs.declared.event.RaftEvent.{RaftEvent}
use Rattle.raft_core.specs.declared.event.RaftEvent.TheVariants as events
use Rattle.raft_core.specs.Events.{input_of}
use Rattle.client_sessions.specs.Calls.{told_all_lost}
use Rattle.raft_membership.specs.Members.{Configurations}
use Rattle.applied_state.specs.declared.leadership.Leadership.{Leadership as Held}
use Rattle.raft_on_disk.specs.Letters.{Tells}
use Rattle.raft_on_disk.specs.Mails.{MailValue, all_posted}
use Rattle.raft_on_disk.specs.Replicas.{ReplicaValue, IsWhole, kept_of, stepped, said}
use Rattle.node_spec.specs.Accounts.{SameTerm}
use Rattle.node_spec.specs.Steps.{AllSent}
use Rattle.node_spec.specs.Turns.{KeepsAll}
use Rattle.node_spec.specs.RaftTurns.{RaftSteps, LeavesLog, HasEnded, LeadershipFollows, in_office, loses, has_none, IsNoProposal}
use Rattle.node_spec.proofs.EndedSessions.{ends_on_holds}
use Rattle.node_core.specs.declared.running.Running.{Running}
use Rattle.node_core.specs.Account.{proposals_in, moment_of, letter_of, IsOwn}
use Rattle.node_core.specs.Posting.{Posts, KeepsAllButLog, ends_office, LosesLeadership, FollowsLeadership, StepsWithoutSnapshot}
use Rattle.node_core.specs.Values.{clients_in, waiting_on}
use Rattle.node_core.specs.Whole.{IsOutside, InOffice, LeadsInOffice, ServesLast, IsFree, IsLed}
use Rattle.node_core.proofs.Accounting.{sends_none}
use Rattle.node_core.proofs.ClientTurns.{sends_so}
use Rattle.node_core.proofs.OfficeBridges.{office_stays, office_ends, office_lacks, lost_sessions, lost_streams}
use Rattle.node_core.proofs.OwnSteps.{own_office}
use Rattle.node_core.proofs.RaftBridges.{ShowsRaft, steps_so, sent_so}

pub shows : (n : Running) → ShowsRaft (moment_of n) n.replica
shows n = record { raft = refl; kept = refl }

-- ---- a step

pub posts_so : (old new : Running) (event : RaftEvent) (messages : List RaftMessage) → IsWhole old.replica → node_of new.replica.raft ≡ stepped old.replica event → IsWhole new.replica →
    Tells (said old.replica event) new.replica.snap messages → new.mail ≡ all_posted old.mail messages → new.replica.id ≡ old.replica.id → Posts old new (input_of event)
posts_so old new event messages was made whole tells mail id = record {
  posted = messages;
  steps = subst (λ me. RaftSteps me (moment_of old) (moment_of new) (input_of event) (map letter_of messages)) was.id
      (steps_so (moment_of old) (moment_of new) old.replica new.replica event messages (shows old) (shows new) made whole tells);
  mail = mail;
  sent = sent_so (moment_of old) (moment_of new) new.replica messages (shows new) whole tells.carries;
  id = id;
}

-- what follows the step, where Raft's part and the mail stay
pub posts_on : (old mid new : Running) (i : raft.Input) → new.replica ≡ mid.replica → new.mail ≡ mid.mail → Posts old mid i → Posts old new i
posts_on old mid new i replica mail p = record {
  posted = p.posted;
  steps = record {
    made = ap (λ (r : ReplicaValue). node_of r.raft) replica ∙ p.steps.made;
    says = p.steps.says;
    coherent = subst (λ (r : ReplicaValue). IsCoherent r.raft) (sym replica) p.steps.coherent;
    kept = subst (λ (r : ReplicaValue). KeepsAll (kept_of r) r.raft) (sym replica) p.steps.kept;
  };
  mail = mail ∙ p.mail;
  sent = subst (λ (r : ReplicaValue). AllSent (kept_of old.replica) (kept_of r) (map letter_of p.posted)) (sym replica) p.sent;
  id = ap (λ (r : ReplicaValue). r.id) replica ∙ p.id;
}

-- ---- a step that leaves the log

pub kept_snap : (r q : ReplicaValue) → q.raft.snapshot ≡ r.raft.snapshot → q.snap ≡ r.snap → (kept_of q).snap ≡ (kept_of r).snap
kept_snap r q same snap = λ i. record { index = (same i).index; term = (same i).term; bytes = (snap i).bytes }

pub same_term : (old new : Running) (i : raft.Input) → IsOwn i → Posts old new i → SameTerm (moment_of old) (moment_of new)
same_term old new i own p =
    let kept = own_office old.replica.id (node_of old.replica.raft) i own in
    record {
      term = ap (λ (n : raft.Node). n.term) p.steps.made ∙ kept.0;
      leads = ap is_leader (ap (λ (n : raft.Node). n.role) p.steps.made ∙ kept.1);
    }

leaves_at : (old : Running) (q : ReplicaValue) (mail : MailValue) (i : raft.Input) → LeavesLog i → IsOwn i → Posts old (record old { replica = q; mail = mail }) i → q.raft.snapshot ≡ old.replica.raft.snapshot → q.snap ≡ old.replica.snap →
    IsMachine old.applied.machine → KeepsAllButLog old (record old { replica = q; mail = mail }) i
leaves_at old q mail i leaves own p snapshot snap machine = record {
  posts = p;
  leaves = record {
    leaves = leaves;
    step = p.steps;
    snapshot = record { snapshot = snapshot; bytes = kept_snap old.replica q snapshot snap };
    due = refl;
    rest = record { sessions = refl; waiting = λ conn. refl; machine = machine; files = refl; serving = refl; applied = refl };
  };
  outs = refl;
  same = same_term old (record old { replica = q; mail = mail }) i own p;
  snap = sym (kept_snap old.replica q snapshot snap);
}

pub leaves_so : (old new : Running) (i : raft.Input) → LeavesLog i → IsOwn i → Posts old new i → new ≡ record old { replica = new.replica; mail = new.mail } → new.replica.raft.snapshot ≡ old.replica.raft.snapshot → new.replica.snap ≡ old.replica.snap →
    IsMachine old.applied.machine → KeepsAllButLog old new i
leaves_so old new i leaves own p is snapshot snap machine =
    subst (λ (n : Running). KeepsAllButLog old n i) (sym is) (leaves_at old new.replica new.mail i leaves own (subst (λ (n : Running). Posts old n i) is p) snapshot snap machine)

-- ---- a leadership that is lost

not_false : (b : Bool) → not b ≡ false → b ≡ true
not_false true e = refl
not_false false e = absurd cc

not_true : (b : Bool) → not b ≡ true → b ≡ false
not_true true e = absurd cc
not_true false e = refl

office_kept : (old new : Running) → new.outs.replies.items ≡ old.outs.replies.items → new.outs.reads.items ≡ old.outs.reads.items → ((conn : ℕ) → (moment_of new).node.waiting conn ≡ (moment_of old).node.waiting conn) → IsMachine new.applied.machine →
    machine_of new.applied.machine ≡ machine_of old.applied.machine → LeadershipFollows (moment_of old) (moment_of new) [] → FollowsLeadership old new
office_kept old new outs reads waiting machine files office = record {
  replies = [];
  office = office;
  told = [];
  outs = outs ∙ sym (append-nil old.outs.replies.items);
  tells = sends_none;
  reads = reads;
  waiting = waiting;
  machine = machine;
  files = files;
}

-- After Raft's step a leadership was kept or lost.
offices_at : (old : Running) (q : ReplicaValue) (mail : MailValue) (new : Running) (o : Option Held) → InOffice o old.view.serving old.replica.raft → LeadsInOffice o old.replica.raft → IsFree o (moment_of old) → IsMachine old.applied.machine →
    (ends_office o q.raft ≡ false → new ≡ record old { replica = q; mail = mail }) → (ends_office o q.raft ≡ true → LosesLeadership (record old { replica = q; mail = mail }) new × (new.view.serving ≡ false)) →
    new.replica ≡ q → (b : Bool) → ends_office o q.raft ≡ b → FollowsLeadership old new
offices_at old q mail new None office led free machine stays lost same true e = absurd cc
offices_at old q mail new None office led free machine stays lost same false e =
    subst (FollowsLeadership old) (sym (stays e)) (office_kept old (record old { replica = q; mail = mail }) refl refl (λ conn. refl) machine refl
    (office_lacks (moment_of old) (moment_of (record old { replica = q; mail = mail })) led free.0 refl office office))
offices_at old q mail new (Some o) office led free machine stays lost same false e =
    subst (FollowsLeadership old) (sym (stays e)) (office_kept old (record old { replica = q; mail = mail }) refl refl (λ conn. refl) machine refl
    (office_stays (moment_of old) (moment_of (record old { replica = q; mail = mail })) o.term office.0 office.1 (not_false (is_leader q.raft.role && (o.term == q.raft.term)) e) refl refl))
offices_at old q mail new (Some o) office led free machine stays lost same true e =
    let l = (lost e).0 in
    record {
      replies = told_lost (clients_in old).sessions;
      office = office_ends (moment_of old) (moment_of new) o.term office.0 office.1
          (subst (λ (r : ReplicaValue). (is_leader r.raft.role && (o.term == r.raft.term)) ≡ false) (sym same) (not_true (is_leader q.raft.role && (o.term == q.raft.term)) e))
          (lost_sessions (clients_in old) (clients_in new) l.clients) (lost e).1;
      told = told_all_lost (clients_in old);
      outs = l.told;
      tells = sends_so (told_lost (clients_in old).sessions) (told_all_lost (clients_in old)) refl;
      reads = l.reads;
      waiting = λ conn. ap waiting_on (lost_streams (clients_in old) (clients_in new) l.clients conn);
      machine = l.machine;
      files = l.files;
    }

pub offices_so : (old mid new : Running) → InOffice old.office old.view.serving old.replica.raft → IsLed old → IsMachine old.applied.machine → mid ≡ record old { replica = mid.replica; mail = mid.mail } →
    (ends_office mid.office mid.replica.raft ≡ false → new ≡ mid) → (ends_office mid.office mid.replica.raft ≡ true → LosesLeadership mid new) → (ends_office mid.office mid.replica.raft ≡ true → (new.office ≡ None) × (new.view.serving ≡ false)) →
    new.replica ≡ mid.replica → FollowsLeadership old new
offices_so old mid new office led machine is stays lost left same =
    let same_office : mid.office ≡ old.office = ap (λ (n : Running). n.office) is in
    let ends : (b : Bool) → ends_office old.office mid.replica.raft ≡ b → ends_office mid.office mid.replica.raft ≡ b = λ b e. ap (λ (o : Option Held). ends_office o mid.replica.raft) same_office ∙ e in
    offices_at old mid.replica mid.mail new old.office office led.leads led.free machine (λ e. stays (ends false e) ∙ is)
    (λ e. (subst (λ (n : Running). LosesLeadership n new) is (lost (ends true e)), (left (ends true e)).1)) same (ends_office old.office mid.replica.raft) refl

-- who is in no leadership after it has nothing open or pending
free_at : (old : Running) (q : ReplicaValue) (mail : MailValue) (new : Running) (o : Option Held) → IsFree o (moment_of old) → old.due.items ≡ [] →
    (ends_office o q.raft ≡ false → new ≡ record old { replica = q; mail = mail }) → (ends_office o q.raft ≡ true → LosesLeadership (record old { replica = q; mail = mail }) new × (new.due.items ≡ old.due.items)) →
    (b : Bool) → ends_office o q.raft ≡ b → (p : Option Held) → (b ≡ false → p ≡ o) → IsFree p (moment_of new)
free_at old q mail new o free idle stays lost b e (Some p) which = tt
free_at old q mail new None free idle stays lost true e None which = absurd cc
free_at old q mail new None free idle stays lost false e None which = subst (λ (n : Running). IsFree None (moment_of n)) (sym (stays e)) free
free_at old q mail new (Some o) free idle stays lost false e None which = absurd (let z = which refl in cc)
free_at old q mail new (Some o) free idle stays lost true e None which =
    let l = lost e in
    (subst HasEnded (sym (lost_sessions (clients_in old) (clients_in new) l.0.clients)) (ends_on_holds.lost_all (clients_in old).sessions), ap proposals_in (l.1 ∙ idle))

pub free_so : (old mid new : Running) → IsLed old → old.due.items ≡ [] → mid ≡ record old { replica = mid.replica; mail = mid.mail } →
    (ends_office mid.office mid.replica.raft ≡ false → new ≡ mid) → (ends_office mid.office mid.replica.raft ≡ true → LosesLeadership mid new) → new.due.items ≡ mid.due.items → IsFree new.office (moment_of new)
free_so old mid new led idle is stays lost due =
    let same_office : mid.office ≡ old.office = ap (λ (n : Running). n.office) is in
    let ends : (b : Bool) → ends_office old.office mid.replica.raft ≡ b → ends_office mid.office mid.replica.raft ≡ b = λ b e. ap (λ (o : Option Held). ends_office o mid.replica.raft) same_office ∙ e in
    free_at old mid.replica mid.mail new old.office led.free idle (λ e. stays (ends false e) ∙ is)
    (λ e. (subst (λ (n : Running). LosesLeadership n new) is (lost (ends true e)), due ∙ ap (λ (n : Running). n.due.items) is)) (ends_office old.office mid.replica.raft) refl new.office
    (λ e. ap (λ (n : Running). n.office) (stays (ends false e)) ∙ same_office)

pub serves_so : (old mid new : Running) → IsLed old → mid ≡ record old { replica = mid.replica; mail = mid.mail } → (ends_office mid.office mid.replica.raft ≡ false → new ≡ mid) →
    (ends_office mid.office mid.replica.raft ≡ true → (new.office ≡ None) × (new.view.serving ≡ false)) → ServesLast new.office new.view.serving
serves_so old mid new led is stays left = by (ends_office mid.office mid.replica.raft) refl
  where
    by : (b : Bool) → ends_office mid.office mid.replica.raft ≡ b → ServesLast new.office new.view.serving
    by true e = subst (λ (o : Option Held). ServesLast o new.view.serving) (sym (left e).0) tt
    by false e = subst (λ (n : Running). ServesLast n.office n.view.serving) (sym (stays e ∙ is)) led.serves

-- ---- the turn of an event from outside

outside_plain : (event : RaftEvent) → IsOutside event → IsNoProposal (input_of event)
outside_plain events.Timeout o = tt
outside_plain events.Beat o = tt
outside_plain events.Yield o = tt
outside_plain (events.Message m) o = tt
outside_plain (events.Propose es) o = absurd o
outside_plain (events.Transfer to) o = absurd o
outside_plain (events.Snapped at) o = absurd o
outside_plain (events.Servers servers) o = absurd o

-- after Raft's step, whatever configurations follow it
pub follows_so : (old step : Running) (event : RaftEvent) (c : Configurations) → IsOutside event → Posts old step (input_of event) → FollowsLeadership old step → old.due.items ≡ [] → step.due.items ≡ old.due.items →
    step.applied.index ≡ old.applied.index → step.replica.raft.snapshot ≡ old.replica.raft.snapshot → step.replica.snap ≡ old.replica.snap → StepsWithoutSnapshot old (record step { members = c }) (input_of event)
follows_so old step event c outside p o idle due index snapshot snap = record {
  posts = posts_on old step (record step { members = c }) (input_of event) refl refl p;
  replies = o.replies;
  follows = record {
    other = outside_plain event outside;
    idle = ap proposals_in idle;
    due = ap proposals_in (due ∙ idle);
    step = (posts_on old step (record step { members = c }) (input_of event) refl refl p).steps;
    snapshot = record { snapshot = snapshot; bytes = kept_snap old.replica step.replica snapshot snap };
    office = same_office o.office;
    waiting = o.waiting;
    machine = o.machine;
    files = o.files;
    applied = index;
  };
  told = o.told;
  outs = o.outs;
  tells = o.tells;
  reads = o.reads;
}
  where
    same_office : LeadershipFollows (moment_of old) (moment_of step) o.replies → LeadershipFollows (moment_of old) (moment_of (record step { members = c })) o.replies
    same_office (in_office a b t s v r) = in_office a b t s v r
    same_office (loses a b s v r) = loses a b s v r
    same_office (has_none a h s u v r) = has_none a h s u v r
