-- An act for a client is done.
use Rattle.std.proofs.Common.{◌≡◌, ℕ, List, [], ◌∷◌, ◌++◌, refl, sym, ap, subst, ◌∙◌, append-nil}
use Rattle.database_state.specs.Machines.{IsMachine}
use Rattle.session_spec.specs.Machine.{machine_of}
use Rattle.raft_spec.specs.Log.{Entry}
use Rattle.raft_core.specs.declared.event.RaftEvent.{RaftEvent}
use Rattle.raft_core.specs.declared.event.RaftEvent.TheVariants as raft_events
use Rattle.client_sessions.specs.declared.act.Act.{Act}
use Rattle.client_sessions.specs.declared.act.Act.TheVariants as acts
use Rattle.node_core.specs.declared.outs.StepOutputs.{StepOutputs}
use Rattle.node_core.specs.declared.running.Running.{Running}
use Rattle.node_core.specs.Account.{proposals_in}
use Rattle.node_core.specs.Performing.{Performed}
use Rattle.node_core.specs.Values.{clients_in}

-- one event more is due
pub proposals_more : (es : List RaftEvent) (e : RaftEvent) → proposals_in (es ++ e ∷ []) ≡ proposals_in es ++ proposals_in (e ∷ [])
proposals_more [] e = refl
proposals_more (raft_events.Propose entries ∷ es) e = ap (λ (l : List (List Entry)). entries ∷ l) (proposals_more es e)
proposals_more (raft_events.Timeout ∷ es) e = proposals_more es e
proposals_more (raft_events.Beat ∷ es) e = proposals_more es e
proposals_more (raft_events.Yield ∷ es) e = proposals_more es e
proposals_more (raft_events.Message m ∷ es) e = proposals_more es e
proposals_more (raft_events.Transfer to ∷ es) e = proposals_more es e
proposals_more (raft_events.Snapped at ∷ es) e = proposals_more es e
proposals_more (raft_events.Servers servers ∷ es) e = proposals_more es e

pub due_more : (old new : Running) (e : RaftEvent) → new.due.items ≡ old.due.items ++ e ∷ [] → proposals_in new.due.items ≡ proposals_in old.due.items ++ proposals_in (e ∷ [])
due_more old new e is = ap proposals_in is ∙ proposals_more old.due.items e

pub performed_propose : (old new : Running) (act : Act) (conn : ℕ) (entries : List Entry) → act ≡ acts.Propose conn entries → IsMachine old.applied.machine → new.due.items ≡ old.due.items ++ raft_events.Propose entries ∷ [] → new ≡ record old { due = new.due } → Performed old new act
performed_propose old new act conn entries kind machine due is = subst (λ (a : Act). Performed old new a) (sym kind) (record {
  replies = ap (λ (n : Running). n.outs.replies.items) is ∙ sym (append-nil old.outs.replies.items);
  reads = ap (λ (n : Running). n.outs.reads.items) is ∙ sym (append-nil old.outs.reads.items);
  mail = ap (λ (n : Running). n.mail) is;
  due = due_more old new (raft_events.Propose entries) due;
  clients = ap clients_in is;
  replica = ap (λ (n : Running). n.replica) is;
  members = ap (λ (n : Running). n.members) is;
  links = ap (λ (n : Running). n.has_links) is;
  index = ap (λ (n : Running). n.applied.index) is;
  serving = ap (λ (n : Running). n.view.serving) is;
  office = ap (λ (n : Running). n.office) is;
  machine = subst (λ (n : Running). IsMachine n.applied.machine) (sym is) machine;
  files = ap (λ (n : Running). machine_of n.applied.machine) is;
})

pub performed_transfer : (old new : Running) (outs : StepOutputs) (act : Act) (conn to : ℕ) (reply : List ℕ) → act ≡ acts.Transfer conn to reply → IsMachine old.applied.machine → outs.replies.items ≡ old.outs.replies.items ++ (conn, reply) ∷ [] → outs.reads.items ≡ old.outs.reads.items
    → new.due.items ≡ old.due.items ++ raft_events.Transfer to ∷ [] → new ≡ record old { outs = outs; due = new.due } → Performed old new act
performed_transfer old new outs act conn to reply kind machine said unread due is = subst (λ (a : Act). Performed old new a) (sym kind) (record {
  replies = ap (λ (n : Running). n.outs.replies.items) is ∙ said;
  reads = ap (λ (n : Running). n.outs.reads.items) is ∙ unread ∙ sym (append-nil old.outs.reads.items);
  mail = ap (λ (n : Running). n.mail) is;
  due = due_more old new (raft_events.Transfer to) due;
  clients = ap clients_in is;
  replica = ap (λ (n : Running). n.replica) is;
  members = ap (λ (n : Running). n.members) is;
  links = ap (λ (n : Running). n.has_links) is;
  index = ap (λ (n : Running). n.applied.index) is;
  serving = ap (λ (n : Running). n.view.serving) is;
  office = ap (λ (n : Running). n.office) is;
  machine = subst (λ (n : Running). IsMachine n.applied.machine) (sym is) machine;
  files = ap (λ (n : Running). machine_of n.applied.machine) is;
})
