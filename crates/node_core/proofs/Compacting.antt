-- An own snapshot, as the account has it.
use Rattle.std.proofs.Common.{◌≡◌, ℕ, ◌+◌, ◌<◌, ◌≤◌, arith, Bool, true, List, [], refl, sym, ap, subst, ◌∙◌, append-nil}
use Rattle.std.specs.Prelude.{map, Option, Some, None}
use Rattle.database_state.specs.Machines.{IsMachine}
use Rattle.session_spec.specs.Sessions.{View}
use Rattle.std.proofs.lemmas.Bool.{leb-true}
use Rattle.raft_spec.specs.Log.{Entry, LogEnd}
use Rattle.raft_log.specs.Compacting.{is_due}
use Rattle.raft_spec.specs.Node as raft
use Rattle.raft_spec.specs.Node.{Server, is_leader}
use Rattle.raft_spec.specs.NodeValues.{NodeValue, node_of}
use Rattle.raft_messages.specs.declared.message.RaftMessage.{RaftMessage}
use Rattle.raft_membership.specs.Members.{read_setup}
use Rattle.store_laws.specs.Store.{Snap}
use Rattle.applied_state.specs.declared.leadership.Leadership.{Leadership as Held}
use Rattle.applied_state.specs.Applied.{HasApplied}
use Rattle.applied_state.specs.Snapshot.{SpellsSnapshot, made_by}
use Rattle.raft_on_disk.specs.Letters.{Tells}
use Rattle.raft_on_disk.specs.Mails.{MailValue, all_posted}
use Rattle.raft_on_disk.specs.Replicas.{ReplicaValue, IsWhole, stepped, said, snapped, own_snap}
use Rattle.node_spec.specs.RaftTurns.{HasEnded, SpellsApplied}
use Rattle.node_spec.proofs.VoterTurns.{compact_tells}
use Rattle.node_core.specs.declared.running.Running.{Running}
use Rattle.node_core.specs.Account.{proposals_in, moment_of, letter_of, KnowsServers}
use Rattle.node_core.specs.Posting.{Posts}
use Rattle.node_core.specs.Taking.{KeepsSnapshot}
use Rattle.node_core.specs.Values.{seen, clients_in}
use Rattle.node_core.specs.Whole.{LeadsInOffice, ServesLast, IsFree, IsLed}
use Rattle.node_core.proofs.Accounting.{sends_none}
use Rattle.node_core.proofs.Posting.{posts_so, posts_on}
use Rattle.node_core.proofs.SnapshotOffice.{snapped_office}

-- it is past the last one, if it is due
pub is_past : (last : LogEnd) (applied : ℕ) (b : Bool) → b ≡ is_due last applied → b ≡ true → last.index < applied
is_past last applied b e t = let h : last.index + 64 ≤ applied = leb-true _ _ (sym e ∙ t) in omega (arith, h)

-- it is one of what is applied
pub spells_so : (opening : List Server) (old : Running) (bytes : List ℕ) → old.replica.raft.snapshot.index < old.applied.index → old.members.servers ≡ old.applied.servers →
    ((lacks : List ℕ → ℕ) (front : List Entry) → HasApplied opening lacks front old.applied → SpellsSnapshot (made_by opening front) bytes) → KnowsServers (read_setup opening) old →
    SpellsApplied (read_setup opening) (moment_of old) old.applied.index bytes
spells_so opening old bytes past same spelled known = record {
  at = refl;
  past = past;
  servers = old.members.servers;
  has = known;
  front = λ lacks front long conf shows. spelled lacks front (record { index = long; servers = sym same ∙ conf; databases = shows });
}

compacts_at : (opening : List Server) (old : Running) (r : ReplicaValue) (mail : MailValue) (v : View) (bytes : List ℕ) (messages : List RaftMessage) → IsWhole old.replica → old.replica.raft.snapshot.index < old.applied.index →
    node_of r.raft ≡ stepped old.replica (snapped old.replica old.applied.index) → IsWhole r → r.snap ≡ own_snap old.replica old.applied.index bytes → Tells (said old.replica (snapped old.replica old.applied.index)) r.snap messages →
    mail ≡ all_posted old.mail messages → r.id ≡ old.replica.id → v.serving ≡ old.view.serving → IsMachine old.applied.machine → old.members.servers ≡ old.applied.servers →
    ((lacks : List ℕ → ℕ) (front : List Entry) → HasApplied opening lacks front old.applied → SpellsSnapshot (made_by opening front) bytes) → KeepsSnapshot (read_setup opening) old (record old { replica = r; mail = mail; view = v })
compacts_at opening old r mail v bytes messages was past made whole snap tells posted id serving machine same spelled =
    let mid : Running = record old { replica = r; mail = mail } in
    let new : Running = record old { replica = r; mail = mail; view = v } in
    let p : Posts old mid (raft.Local (raft.Snapped old.applied.index)) = posts_so old mid (snapped old.replica old.applied.index) messages was made whole tells posted id in
    let q : Posts old new (raft.Local (raft.Snapped old.applied.index)) = posts_on old mid new (raft.Local (raft.Snapped old.applied.index)) refl refl p in
    record {
      letters = map letter_of q.posted;
      takes = λ known. record {
        step = q.steps;
        spells = record {
          at = refl;
          past = past;
          servers = old.members.servers;
          has = known;
          front = λ lacks front long conf shows.
              subst (SpellsSnapshot (made_by opening front)) (sym (ap (λ (s : Snap). s.bytes) snap)) (spelled lacks front (record { index = long; servers = sym same ∙ conf; databases = shows }));
        };
        due = refl;
        rest = record { sessions = refl; waiting = λ conn. refl; machine = machine; files = refl; serving = serving; applied = refl };
      };
      says = record { posted = q.posted; letters_are = refl; mail = q.mail; told = []; outs = sym (append-nil old.outs.replies.items); tells = sends_none; reads = sym (append-nil old.outs.reads.items) };
      sent = q.sent;
      id = q.id;
      beside = record { voters = compact_tells opening old.replica.id [] (seen old) (seen new) old.applied.index (record { made = q.steps.made; members = refl }); links = refl };
    }

pub compacts_so : (opening : List Server) (old new : Running) (r : ReplicaValue) (mail : MailValue) (bytes : List ℕ) (messages : List RaftMessage) → IsWhole old.replica → old.replica.raft.snapshot.index < old.applied.index →
    node_of r.raft ≡ stepped old.replica (snapped old.replica old.applied.index) → IsWhole r → r.snap ≡ own_snap old.replica old.applied.index bytes → Tells (said old.replica (snapped old.replica old.applied.index)) r.snap messages →
    mail ≡ all_posted old.mail messages → r.id ≡ old.replica.id → new ≡ record old { replica = r; mail = mail; view = new.view } → new.view.serving ≡ old.view.serving → IsMachine old.applied.machine → old.members.servers ≡ old.applied.servers →
    ((lacks : List ℕ → ℕ) (front : List Entry) → HasApplied opening lacks front old.applied → SpellsSnapshot (made_by opening front) bytes) → KeepsSnapshot (read_setup opening) old new
compacts_so opening old new r mail bytes messages was past made whole snap tells posted id is serving machine same spelled =
    subst (KeepsSnapshot (read_setup opening) old) (sym is) (compacts_at opening old r mail new.view bytes messages was past made whole snap tells posted id serving machine same spelled)

leads_on : (o : Option Held) (h i : NodeValue) → i.role ≡ h.role → LeadsInOffice o h → LeadsInOffice o i
leads_on None h i role g = ap is_leader role ∙ g
leads_on (Some o) h i role g = g

free_on : (o : Option Held) (a b : Running) → (clients_in b).sessions ≡ (clients_in a).sessions → b.due.items ≡ a.due.items → IsFree o (moment_of a) → IsFree o (moment_of b)
free_on None a b sessions due free = (subst HasEnded (sym sessions) free.0, ap proposals_in due ∙ free.1)
free_on (Some o) a b sessions due free = tt

pub compact_led : (old new : Running) (r : ReplicaValue) (mail : MailValue) → IsLed old → node_of r.raft ≡ stepped old.replica (snapped old.replica old.applied.index) → new ≡ record old { replica = r; mail = mail; view = new.view } → new.view.serving ≡ old.view.serving → IsLed new
compact_led old new r mail led made is serving = subst IsLed (sym is) (record {
  leads = leads_on old.office old.replica.raft r.raft (ap (λ (s : raft.Node). s.role) made ∙ (snapped_office old.replica.raft.id (node_of old.replica.raft) old.applied.index).1) led.leads;
  serves = subst (ServesLast old.office) (sym serving) led.serves;
  free = free_on old.office old (record old { replica = r; mail = mail; view = new.view }) refl refl led.free;
})
