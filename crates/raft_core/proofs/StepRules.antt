-- A whole step, as the code's node makes it.
use Rattle.std.proofs.Common.{◌≡◌, ◌⊎◌, inl, inr, ℕ, ◌<◌, ◌≤◌, List, [], ◌∷◌, length, refl, sym, ap, subst, ◌∙◌, ⊎_elim, arith}
use Rattle.std.specs.Prelude.{false, Option, Some, None, option_map, map}
use Rattle.std.specs.List.{AllByRecursion}
use Rattle.raft_spec.specs.Log.{LogEnd}
use Rattle.raft_spec.specs.Node as rules
use Rattle.raft_spec.specs.Elections.{on_yield, start_election}
use Rattle.raft_spec.specs.Replication.{on_propose, on_beat, on_transfer}
use Rattle.raft_spec.specs.Receiving.{on_message}
use Rattle.raft_spec.specs.Steps.{raft_step, finish, serve}
use Rattle.raft_spec.specs.Membership.{on_servers}
use Rattle.raft_spec.specs.Compaction.{compacted_step, compact_what, compact_message}
use Rattle.raft_spec.specs.Laws.{BringsSnapshot}
use Rattle.raft_spec.specs.Todo.{IsLogWrite}
use Rattle.raft_spec.specs.NodeValues.{NodeValue, node_of}
use Rattle.raft_spec.proofs.NodeValues.{compacted_length}
use Rattle.raft_spec.proofs.SnapshotEnds.{message_snapshot, stands_snapshot, proposes_snapshot, beats_snapshot, yields_snapshot, hands_snapshot, ends_snapshot}
use Rattle.raft_messages.specs.declared.message.Snapshot.{Snapshot}
use Rattle.raft_messages.specs.declared.message.MessageBody.{MessageBody}
use Rattle.raft_messages.specs.declared.message.MessageBody.TheVariants as whats
use Rattle.raft_messages.specs.Messages.{snapshot_end, what_value, message_value}
use Rattle.raft_core.specs.declared.event.RaftEvent.{RaftEvent}
use Rattle.raft_core.specs.declared.event.RaftEvent.TheVariants as events
use Rattle.raft_core.specs.declared.effects.Effects.{Effects}
use Rattle.raft_core.specs.declared.effects.LogChange.{LogChange}
use Rattle.raft_core.specs.declared.effects.LogChange.TheVariants as changes
use Rattle.raft_core.specs.declared.sending.Outgoing.{Outgoing}
use Rattle.raft_core.specs.declared.sending.Outgoing.TheVariants as sendings
use Rattle.raft_core.specs.Effects.{outcome_of, ChangesLog}
use Rattle.raft_core.specs.Events.{input_of, IsRuled, rule_at, ChangesAt, brought, offered, first_at, kept_at, IsOffered, WritesLog}
use Rattle.raft_core.specs.Messages.{IsBare, IsBareWhat, sent_what, sent_value, sents_value, sending_value, sendings_value}
use Rattle.raft_core.specs.Nodes.{told}
use Rattle.raft_core.specs.Steps.{compact_outcome, Ends}

-- the step of an event is its rule, and then the end of a step
pub step_is : (h : NodeValue) (event : RaftEvent) → IsRuled event → compacted_step h.id (node_of h) (input_of event) ≡ compact_outcome (finish (told h) h.id (rule_at h event))
unfolding compacted_step raft_step
step_is h events.Timeout r = refl
step_is h events.Beat r = refl
step_is h events.Yield r = refl
step_is h (events.Message message) r = refl
step_is h (events.Propose entries) r = refl
step_is h (events.Transfer to) r = refl
step_is h (events.Snapped end) r = refl
step_is h (events.Servers servers) r = absurd r

-- except for other servers
pub servers_step_is : (h : NodeValue) (servers : List rules.Server) → compacted_step h.id (node_of h) (rules.Local (rules.UseServers servers)) ≡ compact_outcome (serve h.id (on_servers h.id (node_of h) servers))
unfolding compacted_step raft_step
servers_step_is h servers = refl

-- the code's node after the rule ends the step
ended : (h now : NodeValue) (event : RaftEvent) (e : Effects) → IsRuled event → Ends h (rule_at h event) now e → compact_outcome (finish (told now) now.id (outcome_of now e)) ≡ compacted_step h.id (node_of h) (input_of event)
ended h now event e r x = (λ k. compact_outcome (finish (λ log. rules.voters (x.servers k)) (x.id k) (outcome_of now e))) ∙ sym x.same ∙ sym (step_is h event r)

pub step_node : (h now : NodeValue) (event : RaftEvent) (e : Effects) (node : rules.Node) → IsRuled event → Ends h (rule_at h event) now e → node ≡ (compact_outcome (finish (told now) now.id (outcome_of now e))).node → node ≡ (compacted_step h.id (node_of h) (input_of event)).node
step_node h now event e node r x is = is ∙ ap (λ (d : rules.Outcome). d.node) (ended h now event e r x)

pub step_sends : (h now : NodeValue) (event : RaftEvent) (e : Effects) (sends : List Outgoing) → IsRuled event → Ends h (rule_at h event) now e → sents_value now.id sends ≡ (compact_outcome (finish (told now) now.id (outcome_of now e))).out → sents_value h.id sends ≡ (compacted_step h.id (node_of h) (input_of event)).out
step_sends h now event e sends r x is = ap (λ n. sents_value n sends) (sym x.id) ∙ is ∙ ap (λ (d : rules.Outcome). d.out) (ended h now event e r x)

-- ---- what is to be kept

-- the event is another one than that of an own snapshot
abbrev NoSnap : RaftEvent → Type 0
NoSnap (events.Snapped end) = ⊥
NoSnap event = Unit {0}

-- a rule keeps the snapshot of the node that ends its step
stays : (h now : NodeValue) (d : rules.Outcome) (e : Effects) → Ends h d now e → now.snapshot ≡ d.node.snapshot
stays h now d e y = sym (ends_snapshot (told h) h.id (outcome_of now e)) ∙ ap (λ (o : rules.Outcome). o.node.snapshot) (sym y.same) ∙ ends_snapshot (told h) h.id d

-- a message brings the snapshot with this end
brings : (w : MessageBody) (end : LogEnd) → BringsSnapshot (what_value w) end → option_map snapshot_end (brought w) ≡ Some end
brings (whats.Install snapshot) end b = ap (λ l. Some l) (sym b)
brings (whats.AskVote l transfer) end b = absurd b
brings (whats.Vote granted) end b = absurd b
brings (whats.Append prev commit entries) end b = absurd b
brings (whats.Ack good index) end b = absurd b
brings whats.TimeoutNow end b = absurd b

-- so a snapshot stays, or is the one that an event brings
snapshot_from : (h now : NodeValue) (event : RaftEvent) (e : Effects) → Ends h (rule_at h event) now e → IsRuled event → NoSnap event → (now.snapshot ≡ h.snapshot) ⊎ (option_map snapshot_end (offered event) ≡ Some now.snapshot)
snapshot_from h now events.Timeout e y r n = inl (stays h now (start_election (told h) h.id (node_of h) false) e y ∙ stands_snapshot false (told h) h.id (node_of h))
snapshot_from h now events.Beat e y r n = inl (stays h now (on_beat (node_of h)) e y ∙ beats_snapshot (node_of h))
snapshot_from h now events.Yield e y r n = inl (stays h now (on_yield (node_of h)) e y ∙ yields_snapshot (node_of h))
snapshot_from h now (events.Message m) e y r n =
    let d = on_message (told h) h.id (node_of h) (message_value m) in
    let same = stays h now d e y in
    ⊎_elim
    (λ (z : d.node.snapshot ≡ h.snapshot). inl (same ∙ z))
    (λ (z : BringsSnapshot (what_value m.what) d.node.snapshot). inr (brings m.what d.node.snapshot z ∙ ap (λ l. Some l) (sym same)))
    (message_snapshot (told h) h.id (node_of h) (message_value m))
snapshot_from h now (events.Propose entries) e y r n = inl (stays h now (on_propose (node_of h) entries) e y ∙ proposes_snapshot (node_of h) entries)
snapshot_from h now (events.Transfer to) e y r n = inl (stays h now (on_transfer h.id (node_of h) to) e y ∙ hands_snapshot h.id (node_of h) to)
snapshot_from h now (events.Snapped end) e y r n = absurd n
snapshot_from h now (events.Servers servers) e y r n = absurd r

-- one that is past what was committed is one that a message brings
came_with : (h now : NodeValue) (event : RaftEvent) (e : Effects) (last : LogEnd) → h.snapshot.index ≤ h.commit → Ends h (rule_at h event) now e → h.commit < now.snapshot.index → last ≡ now.snapshot → IsRuled event → NoSnap event → option_map snapshot_end (offered event) ≡ Some last
came_with h now event e last low y past is r n = ⊎_elim
    (λ (z : now.snapshot ≡ h.snapshot). let i = ap (λ (l : LogEnd). l.index) z in absurd (omega arith))
    (λ (z : option_map snapshot_end (offered event) ≡ Some now.snapshot). z ∙ ap (λ l. Some l) (sym is))
    (snapshot_from h now event e y r n)

-- a batch or a snapshot makes the new log of the old one
abbrev Writes : NodeValue → NodeValue → ℕ → RaftEvent → LogChange → Type 0
Writes h now commit event change = IsLogWrite (node_of h) (node_of (record now { commit = commit })) (option_map snapshot_end (kept_at change (offered event))) (first_at change)

writes_at : (h now : NodeValue) (event : RaftEvent) (e : Effects) (commit : ℕ) (change : LogChange) → h.snapshot.index ≤ h.commit → Ends h (rule_at h event) now e → IsRuled event → NoSnap event → ChangesLog (node_of h) (node_of now) change → Writes h now commit event change
writes_at h now event e commit changes.Nothing low x r n y = y
writes_at h now event e commit (changes.From k) low x r n y = (y.0, y.2)
writes_at h now event e commit (changes.Installed last) low x r n y = subst (λ s. IsLogWrite (node_of h) (node_of (record now { commit = commit })) s None) (sym (came_with h now event e last low x y.0 y.1 r n)) (y.0, y.1, refl)

writes_log : (h now : NodeValue) (event : RaftEvent) (e : Effects) (commit : ℕ) (came install : Option Snapshot) (batch : Option ℕ) → h.snapshot.index ≤ h.commit → Ends h (rule_at h event) now e → IsRuled event → NoSnap event → ChangesLog (node_of h) (node_of now) e.change → came ≡ offered event → batch ≡ first_at e.change → install ≡ kept_at e.change came → IsLogWrite (node_of h) (node_of (record now { commit = commit })) (option_map snapshot_end install) batch
writes_log h now event e commit came install batch low x r n log c b i =
    subst (λ s. IsLogWrite (node_of h) (node_of (record now { commit = commit })) (option_map snapshot_end s) batch) (sym (i ∙ ap (kept_at e.change) c))
    (subst (λ f. IsLogWrite (node_of h) (node_of (record now { commit = commit })) (option_map snapshot_end (kept_at e.change (offered event))) f) (sym b) (writes_at h now event e commit e.change low x r n log))

pub writes : (event : RaftEvent) (h now new : NodeValue) (e : Effects) (came install : Option Snapshot) (batch : Option ℕ) → IsRuled event → h.snapshot.index ≤ h.commit → Ends h (rule_at h event) now e → ChangesAt event (node_of h) (node_of now) e.change → came ≡ offered event → batch ≡ first_at e.change → install ≡ kept_at e.change came → new ≡ record now { commit = new.commit } → WritesLog event (node_of h) (node_of new) install batch
writes event h now new e came install batch r low x log c b i is = subst (λ (m : NodeValue). WritesLog event (node_of h) (node_of m) install batch) (sym is) (by event r x log c)
  where
    by : (event : RaftEvent) → IsRuled event → Ends h (rule_at h event) now e → ChangesAt event (node_of h) (node_of now) e.change → came ≡ offered event → WritesLog event (node_of h) (node_of (record now { commit = new.commit })) install batch
    by events.Timeout r x log c = writes_log h now events.Timeout e new.commit came install batch low x r tt log c b i
    by events.Beat r x log c = writes_log h now events.Beat e new.commit came install batch low x r tt log c b i
    by events.Yield r x log c = writes_log h now events.Yield e new.commit came install batch low x r tt log c b i
    by (events.Message m) r x log c = writes_log h now (events.Message m) e new.commit came install batch low x r tt log c b i
    by (events.Propose es) r x log c = writes_log h now (events.Propose es) e new.commit came install batch low x r tt log c b i
    by (events.Transfer to) r x log c = writes_log h now (events.Transfer to) e new.commit came install batch low x r tt log c b i
    by (events.Snapped end) r x log c = (i ∙ ap (λ k. kept_at k came) log, b ∙ ap first_at log)
    by (events.Servers servers) r x log c = absurd r

-- what is to be kept of a snapshot is what the event brings
pub offers : (event : RaftEvent) (change : LogChange) (came install : Option Snapshot) → came ≡ offered event → install ≡ kept_at change came → IsOffered event install
offers event change came install c i = subst (IsOffered event) (sym i) (by change)
  where
    this : (o : Option Snapshot) → o ≡ offered event → IsOffered event o
    this None e = tt
    this (Some s) e = sym e

    by : (change : LogChange) → IsOffered event (kept_at change came)
    by changes.Nothing = tt
    by (changes.From k) = tt
    by (changes.Installed last) = this came c

-- ---- what is sent

-- the length of the front of an Install, and its end
abbrev front_size : rules.What → ℕ
front_size (rules.Install last front) = length front
front_size (rules.AskVote last transfer) = 0
front_size (rules.Vote granted) = 0
front_size (rules.Append prev commit entries) = 0
front_size (rules.Ack good index) = 0
front_size rules.TimeoutNow = 0

abbrev end_size : rules.What → ℕ
end_size (rules.Install last front) = last.index
end_size (rules.AskVote last transfer) = 0
end_size (rules.Vote granted) = 0
end_size (rules.Append prev commit entries) = 0
end_size (rules.Ack good index) = 0
end_size rules.TimeoutNow = 0

-- the fronts that the code's node sends are as long as their ends say
same_size : (w : rules.What) → front_size (compact_what w) ≡ end_size (compact_what w)
same_size (rules.Install last front) = compacted_length last last.index
same_size (rules.AskVote last transfer) = refl
same_size (rules.Vote granted) = refl
same_size (rules.Append prev commit entries) = refl
same_size (rules.Ack good index) = refl
same_size rules.TimeoutNow = refl

bare_what : (w : MessageBody) (v : rules.What) → sent_what w ≡ compact_what v → IsBareWhat w × (what_value w ≡ compact_what v)
bare_what (whats.Install snapshot) v e = absurd (let a = ap front_size e in let b = ap end_size e in let c = same_size v in omega arith)
bare_what (whats.AskVote last transfer) v e = (tt, e)
bare_what (whats.Vote granted) v e = (tt, e)
bare_what (whats.Append prev commit entries) v e = (tt, e)
bare_what (whats.Ack good index) v e = (tt, e)
bare_what whats.TimeoutNow v e = (tt, e)

bare_one : (me : ℕ) (s : Outgoing) (m : rules.Message) → sent_value me s ≡ compact_message m → IsBare s × (sending_value me s ≡ compact_message m)
bare_one me (sendings.Message message) m e =
    let w = bare_what message.what m.what (ap (λ (x : rules.Message). x.what) e) in
    (w.0, λ k. record { from = (e k).from; to = (e k).to; term = (e k).term; what = w.1 k })
bare_one me (sendings.Install to term last) m e = (tt, e)

head_or : rules.Message → List rules.Message → rules.Message
head_or d [] = d
head_or d (x ∷ xs) = x

tail_of : List rules.Message → List rules.Message
tail_of [] = []
tail_of (x ∷ xs) = xs

all_bare : (me : ℕ) (sends : List Outgoing) (ms : List rules.Message) → sents_value me sends ≡ map compact_message ms → AllByRecursion IsBare sends × (sendings_value me sends ≡ map compact_message ms)
unfolding head_or tail_of
all_bare me [] [] e = (tt, refl)
all_bare me [] (m ∷ ms) e = absurd cc
all_bare me (s ∷ sends) [] e = absurd cc
all_bare me (s ∷ sends) (m ∷ ms) e =
    let one = bare_one me s m (ap (head_or (compact_message m)) e) in
    let rest = all_bare me sends ms (ap tail_of e) in
    ((one.0, rest.0), λ k. one.1 k ∷ rest.1 k)

-- so of a whole step
pub step_bare : (h : NodeValue) (event : RaftEvent) (sends : List Outgoing) → sents_value h.id sends ≡ (compacted_step h.id (node_of h) (input_of event)).out → AllByRecursion IsBare sends × (sendings_value h.id sends ≡ (compacted_step h.id (node_of h) (input_of event)).out)
unfolding compacted_step
step_bare h event sends e = all_bare h.id sends (raft_step (λ log. rules.voters h.servers) h.id (node_of h) (input_of event)).out e
