use Rattle.std.proofs.Common.{◌≡◌, ◌+◌, ◌-◌, ◌<◌, ◌≤◌, ℕ, suc, List, drop, sym, ap, subst, ◌∙◌, arith, Ok, Err}
use Rattle.std.proofs.lemmas.Result.{err_from_is_err_and}
use Rattle.raft_spec.specs.Log.{LogEnd, term_at}
use Rattle.raft_spec.specs.Node.{Node}
use Rattle.raft_spec.specs.NodeValues.{node_of}
use Rattle.store_laws.specs.Store.{Snap, Log}
use Rattle.segment_store.specs.declared.fault.StoreFault.{StoreFault}
use Rattle.segment_store.specs.Keeping.{CanKeep, snap_value}
use Rattle.raft_on_disk.specs.Terms.{HasTerm}
use Rattle.raft_on_disk.specs.Keeping.{kept_at, log_from, Has, StoresSnapshot}
use Rattle.raft_on_disk.specs.Replicas.{ReplicaValue, IsWhole, IsKept, kept_of, end_of, stepped, snapped, own_snap, said}
use Rattle.raft_on_disk.specs.Stops.{Stops}
use Rattle.raft_on_disk.specs.Letters.{letter, Tells}
use Rattle.raft_on_disk.proofs.StepShapes.{SpeakOf}
use Rattle.raft_on_disk.proofs.Steps.{stops_after, tells_of}
use Rattle.raft_on_disk.proofs.OwnSnapshots.{Own, own_step, own_speaks, cut, own_stops, own_stands, own_votes, own_has_term}
use Rattle.std.specs.Prelude.{map}
use Rattle.raft_core.specs.Events.{input_of}
use Rattle.raft_on_disk.proofs.CommitRises.{commit_rises}
use Rattle.raft_on_disk.proofs.replica.Replica.snapshot.Goals as goal

pub returns-in_err-keep_snapshot-clause-stopped : goal.returns-in_err-keep_snapshot-clause-stopped
returns-in_err-keep_snapshot-clause-stopped g c =
    let r : ReplicaValue = record { id = c.self.inside.id; raft = c.self.inside.raft; snap = snap_value c.self.inside.keeper.snapshot; store = c.self.inside.keeper.store; keeps = c.self.inside.keeper.keeps } in
    let h = c.self.inside.raft in
    let i = c.args.index in
    let whole : IsWhole r = subst IsWhole (sym c.self.view_is) c.requires.whole in
    let lt : h.snapshot.index < i = subst (λ (v : ReplicaValue). v.raft.snapshot.index < i) (sym c.self.view_is) c.requires.past in
    let le : i ≤ h.commit = subst (λ (v : ReplicaValue). i ≤ v.raft.commit) (sym c.self.view_is) c.requires.applied in
    let t = stepped r (snapped r i) in
    let o : Own (node_of h) i t = own_step h.id (node_of h) i lt le in
    let term : c.applied_term-term.result ≡ term_at (node_of h).log i = c.applied_term-term.ensures ∙ ap (λ (v : ReplicaValue). term_at (node_of v.raft).log i) (sym c.self.view_is) in
    let made : Snap = record { index = i; term = c.applied_term-term.result; bytes = c.args.bytes } in
    let snap : made ≡ own_snap r i c.args.bytes = λ k. record { index = i; term = term k; bytes = c.args.bytes } in
    let first : c.kept_from-first.result ≡ suc (cut h i whole.coherent whole.has_term lt le) = c.kept_from-first.ensures in
    let one : c.kept_from-first.result - 1 ≡ cut h i whole.coherent whole.has_term lt le = omega arith in
    let rest = c.tail.ensures ∙ ap (λ (k : ℕ). drop k (node_of h).log) one in
    let lent : Log = record { first = c.kept_from-first.result; entries = c.tail.result.now } in
    let log : lent ≡ log_from (cut h i whole.coherent whole.has_term lt le) (node_of h).log = λ k. record { first = first k; entries = rest k } in
    let stores = subst (λ (s : Snap). CanKeep (kept_of r) s (log_from (cut h i whole.coherent whole.has_term lt le) (node_of h).log) → StoresSnapshot {E = StoreFault} g.D.Disk.tells (g.D.Disk.states c.args.disk.now) (g.D.Disk.states c.keep_snapshot.new.disk) r.store c.keep_snapshot.new.self.store (kept_of r) s (log_from (cut h i whole.coherent whole.has_term lt le) (node_of h).log) (Err c.in_err-keep_snapshot.field-0.0)) snap
    (subst (λ (l : Log). CanKeep (kept_of r) made l → StoresSnapshot {E = StoreFault} g.D.Disk.tells (g.D.Disk.states c.args.disk.now) (g.D.Disk.states c.keep_snapshot.new.disk) r.store c.keep_snapshot.new.self.store (kept_of r) made l (Err c.in_err-keep_snapshot.field-0.0)) log (c.in_err-keep_snapshot.ensures.kept (kept_of r))) in
    let p = err_from_is_err_and c.from_residual.result c.from_residual.ensures.1 in
    rw p.1 (subst (λ (v : ReplicaValue). IsKept g.D.Disk.tells (g.D.Disk.states c.args.disk.now) v → Stops g.D.Disk.tells (g.D.Disk.states c.keep_snapshot.new.disk) (node_of v.raft) (stepped v (snapped v i)) v.snap.bytes c.args.bytes v.keeps c.keep_snapshot.new.self.keeps) c.self.view_is
    (λ has. own_stops h i whole.coherent whole.has_term lt le g.D.Disk.tells (g.D.Disk.states c.args.disk.now) (g.D.Disk.states c.keep_snapshot.new.disk) r.store c.keep_snapshot.new.self.store r.snap.bytes c.args.bytes t c.in_err-keep_snapshot.field-0.0 r.keeps c.keep_snapshot.new.self.keeps o c.in_err-keep_snapshot.ensures.counts.1 stores has))

pub returns-in_err-todo-clause-stopped : goal.returns-in_err-todo-clause-stopped
returns-in_err-todo-clause-stopped g c =
    let r : ReplicaValue = record { id = c.self.inside.id; raft = c.self.inside.raft; snap = snap_value c.self.inside.keeper.snapshot; store = c.self.inside.keeper.store; keeps = c.self.inside.keeper.keeps } in
    let h = c.self.inside.raft in
    let i = c.args.index in
    let whole : IsWhole r = subst IsWhole (sym c.self.view_is) c.requires.whole in
    let lt : h.snapshot.index < i = subst (λ (v : ReplicaValue). v.raft.snapshot.index < i) (sym c.self.view_is) c.requires.past in
    let le : i ≤ h.commit = subst (λ (v : ReplicaValue). i ≤ v.raft.commit) (sym c.self.view_is) c.requires.applied in
    let t = stepped r (snapped r i) in
    let o : Own (node_of h) i t = own_step h.id (node_of h) i lt le in
    let term : c.applied_term-term.result ≡ term_at (node_of h).log i = c.applied_term-term.ensures ∙ ap (λ (v : ReplicaValue). term_at (node_of v.raft).log i) (sym c.self.view_is) in
    let made : Snap = record { index = i; term = c.applied_term-term.result; bytes = c.args.bytes } in
    let snap : made ≡ own_snap r i c.args.bytes = λ k. record { index = i; term = term k; bytes = c.args.bytes } in
    let first : c.kept_from-first.result ≡ suc (cut h i whole.coherent whole.has_term lt le) = c.kept_from-first.ensures in
    let one : c.kept_from-first.result - 1 ≡ cut h i whole.coherent whole.has_term lt le = omega arith in
    let rest = c.tail.ensures ∙ ap (λ (k : ℕ). drop k (node_of h).log) one in
    let lent : Log = record { first = c.kept_from-first.result; entries = c.tail.result.now } in
    let log : lent ≡ log_from (cut h i whole.coherent whole.has_term lt le) (node_of h).log = λ k. record { first = first k; entries = rest k } in
    let stores = subst (λ (s : Snap). CanKeep (kept_of r) s (log_from (cut h i whole.coherent whole.has_term lt le) (node_of h).log) → StoresSnapshot {E = StoreFault} g.D.Disk.tells (g.D.Disk.states c.args.disk.now) (g.D.Disk.states c.keep_snapshot.new.disk) r.store c.keep_snapshot.new.self.store (kept_of r) s (log_from (cut h i whole.coherent whole.has_term lt le) (node_of h).log) (Ok c.in_ok-keep_snapshot.field-0)) snap
    (subst (λ (l : Log). CanKeep (kept_of r) made l → StoresSnapshot {E = StoreFault} g.D.Disk.tells (g.D.Disk.states c.args.disk.now) (g.D.Disk.states c.keep_snapshot.new.disk) r.store c.keep_snapshot.new.self.store (kept_of r) made l (Ok c.in_ok-keep_snapshot.field-0)) log (c.in_ok-keep_snapshot.ensures.kept (kept_of r))) in
    let p = err_from_is_err_and c.from_residual-in_err-todo.result c.from_residual-in_err-todo.ensures.1 in
    let count : c.keep_snapshot.new.self.keeps ≡ r.keeps + 1 = c.in_ok-keep_snapshot.ensures.counts.0 in
    let votes = own_votes h i whole.coherent whole.has_term lt le t r.keeps o in
    rw p.1 (subst (λ (v : ReplicaValue). IsKept g.D.Disk.tells (g.D.Disk.states c.args.disk.now) v → Stops g.D.Disk.tells (g.D.Disk.states c.keep_snapshot.new.disk) (node_of v.raft) (stepped v (snapped v i)) v.snap.bytes c.args.bytes v.keeps c.keep_snapshot.new.self.keeps) c.self.view_is
    (λ has. stops_after g.D.Disk.tells (g.D.Disk.states c.keep_snapshot.new.disk) c.keep_snapshot.new.self.store (node_of h) t r.snap.bytes c.args.bytes r.keeps c.keep_snapshot.new.self.keeps (omega arith) (own_stands h i whole.coherent whole.has_term lt le g.D.Disk.tells (g.D.Disk.states c.args.disk.now) (g.D.Disk.states c.keep_snapshot.new.disk) r.store c.keep_snapshot.new.self.store r.snap.bytes c.args.bytes t o stores has)))

pub returns-in_err-messages-clause-stopped : goal.returns-in_err-messages-clause-stopped
returns-in_err-messages-clause-stopped g c =
    let r : ReplicaValue = record { id = c.self.inside.id; raft = c.self.inside.raft; snap = snap_value c.self.inside.keeper.snapshot; store = c.self.inside.keeper.store; keeps = c.self.inside.keeper.keeps } in
    let h = c.self.inside.raft in
    let i = c.args.index in
    let whole : IsWhole r = subst IsWhole (sym c.self.view_is) c.requires.whole in
    let lt : h.snapshot.index < i = subst (λ (v : ReplicaValue). v.raft.snapshot.index < i) (sym c.self.view_is) c.requires.past in
    let le : i ≤ h.commit = subst (λ (v : ReplicaValue). i ≤ v.raft.commit) (sym c.self.view_is) c.requires.applied in
    let t = stepped r (snapped r i) in
    let o : Own (node_of h) i t = own_step h.id (node_of h) i lt le in
    let term : c.applied_term-term.result ≡ term_at (node_of h).log i = c.applied_term-term.ensures ∙ ap (λ (v : ReplicaValue). term_at (node_of v.raft).log i) (sym c.self.view_is) in
    let made : Snap = record { index = i; term = c.applied_term-term.result; bytes = c.args.bytes } in
    let snap : made ≡ own_snap r i c.args.bytes = λ k. record { index = i; term = term k; bytes = c.args.bytes } in
    let first : c.kept_from-first.result ≡ suc (cut h i whole.coherent whole.has_term lt le) = c.kept_from-first.ensures in
    let one : c.kept_from-first.result - 1 ≡ cut h i whole.coherent whole.has_term lt le = omega arith in
    let rest = c.tail.ensures ∙ ap (λ (k : ℕ). drop k (node_of h).log) one in
    let lent : Log = record { first = c.kept_from-first.result; entries = c.tail.result.now } in
    let log : lent ≡ log_from (cut h i whole.coherent whole.has_term lt le) (node_of h).log = λ k. record { first = first k; entries = rest k } in
    let stores = subst (λ (s : Snap). CanKeep (kept_of r) s (log_from (cut h i whole.coherent whole.has_term lt le) (node_of h).log) → StoresSnapshot {E = StoreFault} g.D.Disk.tells (g.D.Disk.states c.args.disk.now) (g.D.Disk.states c.keep_snapshot.new.disk) r.store c.keep_snapshot.new.self.store (kept_of r) s (log_from (cut h i whole.coherent whole.has_term lt le) (node_of h).log) (Ok c.in_ok-keep_snapshot.field-0)) snap
    (subst (λ (l : Log). CanKeep (kept_of r) made l → StoresSnapshot {E = StoreFault} g.D.Disk.tells (g.D.Disk.states c.args.disk.now) (g.D.Disk.states c.keep_snapshot.new.disk) r.store c.keep_snapshot.new.self.store (kept_of r) made l (Ok c.in_ok-keep_snapshot.field-0)) log (c.in_ok-keep_snapshot.ensures.kept (kept_of r))) in
    let p = err_from_is_err_and c.from_residual-in_err-messages.result c.from_residual-in_err-messages.ensures.1 in
    let count : c.keep_snapshot.new.self.keeps ≡ r.keeps + 1 = c.in_ok-keep_snapshot.ensures.counts.0 in
    let votes = own_votes h i whole.coherent whole.has_term lt le t r.keeps o in
    rw p.1 (subst (λ (v : ReplicaValue). IsKept g.D.Disk.tells (g.D.Disk.states c.args.disk.now) v → Stops g.D.Disk.tells (g.D.Disk.states c.keep_snapshot.new.disk) (node_of v.raft) (stepped v (snapped v i)) v.snap.bytes c.args.bytes v.keeps c.keep_snapshot.new.self.keeps) c.self.view_is
    (λ has. stops_after g.D.Disk.tells (g.D.Disk.states c.keep_snapshot.new.disk) c.keep_snapshot.new.self.store (node_of h) t r.snap.bytes c.args.bytes r.keeps c.keep_snapshot.new.self.keeps (omega arith) (own_stands h i whole.coherent whole.has_term lt le g.D.Disk.tells (g.D.Disk.states c.args.disk.now) (g.D.Disk.states c.keep_snapshot.new.disk) r.store c.keep_snapshot.new.self.store r.snap.bytes c.args.bytes t o stores has)))

pub returns-clause-whole : goal.returns-clause-whole
returns-clause-whole g c =
    let r : ReplicaValue = record { id = c.self.inside.id; raft = c.self.inside.raft; snap = snap_value c.self.inside.keeper.snapshot; store = c.self.inside.keeper.store; keeps = c.self.inside.keeper.keeps } in
    let h = c.self.inside.raft in
    let i = c.args.index in
    let whole : IsWhole r = subst IsWhole (sym c.self.view_is) c.requires.whole in
    let lt : h.snapshot.index < i = subst (λ (v : ReplicaValue). v.raft.snapshot.index < i) (sym c.self.view_is) c.requires.past in
    let le : i ≤ h.commit = subst (λ (v : ReplicaValue). i ≤ v.raft.commit) (sym c.self.view_is) c.requires.applied in
    let t = stepped r (snapped r i) in
    let o : Own (node_of h) i t = own_step h.id (node_of h) i lt le in
    let term : c.applied_term-term.result ≡ term_at (node_of h).log i = c.applied_term-term.ensures ∙ ap (λ (v : ReplicaValue). term_at (node_of v.raft).log i) (sym c.self.view_is) in
    let made : Snap = record { index = i; term = c.applied_term-term.result; bytes = c.args.bytes } in
    let snap : made ≡ own_snap r i c.args.bytes = λ k. record { index = i; term = term k; bytes = c.args.bytes } in
    let first : c.kept_from-first.result ≡ suc (cut h i whole.coherent whole.has_term lt le) = c.kept_from-first.ensures in
    let one : c.kept_from-first.result - 1 ≡ cut h i whole.coherent whole.has_term lt le = omega arith in
    let rest = c.tail.ensures ∙ ap (λ (k : ℕ). drop k (node_of h).log) one in
    let lent : Log = record { first = c.kept_from-first.result; entries = c.tail.result.now } in
    let log : lent ≡ log_from (cut h i whole.coherent whole.has_term lt le) (node_of h).log = λ k. record { first = first k; entries = rest k } in
    let kept : snap_value c.keep_snapshot.new.self.snapshot ≡ own_snap r i c.args.bytes = ap snap_value c.in_ok-keep_snapshot.ensures.snapshot ∙ snap in
    let end : c.step.new.self.snapshot ≡ end_of (snap_value c.keep_snapshot.new.self.snapshot) = ap (λ (s : Node). s.snapshot) c.in_ok-todo.ensures.node ∙ o.snapshot ∙ ap end_of (sym kept) in
    record {
      id = c.in_ok-todo.ensures.id ∙ whole.id;
      coherent = c.in_ok-todo.ensures.coherent;
      snap = end;
      has_term = subst HasTerm (sym c.in_ok-todo.ensures.node) (own_has_term h i whole.coherent whole.has_term lt le t o);
      none = λ z. let at : c.keep_snapshot.new.self.snapshot.index ≡ i = ap (λ (x : Snap). x.index) kept in absurd (omega arith);
    }

pub returns-clause-tells : goal.returns-clause-tells
returns-clause-tells g c =
    let r : ReplicaValue = record { id = c.self.inside.id; raft = c.self.inside.raft; snap = snap_value c.self.inside.keeper.snapshot; store = c.self.inside.keeper.store; keeps = c.self.inside.keeper.keeps } in
    let h = c.self.inside.raft in
    let i = c.args.index in
    let whole : IsWhole r = subst IsWhole (sym c.self.view_is) c.requires.whole in
    let lt : h.snapshot.index < i = subst (λ (v : ReplicaValue). v.raft.snapshot.index < i) (sym c.self.view_is) c.requires.past in
    let le : i ≤ h.commit = subst (λ (v : ReplicaValue). i ≤ v.raft.commit) (sym c.self.view_is) c.requires.applied in
    let t = stepped r (snapped r i) in
    let o : Own (node_of h) i t = own_step h.id (node_of h) i lt le in
    let term : c.applied_term-term.result ≡ term_at (node_of h).log i = c.applied_term-term.ensures ∙ ap (λ (v : ReplicaValue). term_at (node_of v.raft).log i) (sym c.self.view_is) in
    let made : Snap = record { index = i; term = c.applied_term-term.result; bytes = c.args.bytes } in
    let snap : made ≡ own_snap r i c.args.bytes = λ k. record { index = i; term = term k; bytes = c.args.bytes } in
    let first : c.kept_from-first.result ≡ suc (cut h i whole.coherent whole.has_term lt le) = c.kept_from-first.ensures in
    let one : c.kept_from-first.result - 1 ≡ cut h i whole.coherent whole.has_term lt le = omega arith in
    let rest = c.tail.ensures ∙ ap (λ (k : ℕ). drop k (node_of h).log) one in
    let lent : Log = record { first = c.kept_from-first.result; entries = c.tail.result.now } in
    let log : lent ≡ log_from (cut h i whole.coherent whole.has_term lt le) (node_of h).log = λ k. record { first = first k; entries = rest k } in
    let kept : snap_value c.keep_snapshot.new.self.snapshot ≡ own_snap r i c.args.bytes = ap snap_value c.in_ok-keep_snapshot.ensures.snapshot ∙ snap in
    let end : c.step.new.self.snapshot ≡ end_of (snap_value c.keep_snapshot.new.self.snapshot) = ap (λ (s : Node). s.snapshot) c.in_ok-todo.ensures.node ∙ o.snapshot ∙ ap end_of (sym kept) in
    let speak = subst (λ (l : LogEnd). SpeakOf l (said r (snapped r i))) (ap (λ (s : Node). s.snapshot) (sym c.in_ok-todo.ensures.node) ∙ end) (own_speaks h.id (node_of h) i lt le) in
    let messages = c.in_ok-messages.ensures ∙ ap (map (letter c.self.inside.id c.keep_snapshot.new.self.snapshot)) c.sends_of.ensures in
    subst (λ (v : ReplicaValue). Tells (said v (snapped v i)) (snap_value c.keep_snapshot.new.self.snapshot) c.in_ok-messages.messages.items) c.self.view_is
    (tells_of h.id c.self.inside.id (said r (snapped r i)) c.keep_snapshot.new.self.snapshot c.in_ok-todo.todo.sends c.in_ok-messages.messages.items whole.id speak c.in_ok-todo.ensures.sends c.in_ok-todo.ensures.installs messages)

pub returns-clause-kept : goal.returns-clause-kept
returns-clause-kept g c =
    let r : ReplicaValue = record { id = c.self.inside.id; raft = c.self.inside.raft; snap = snap_value c.self.inside.keeper.snapshot; store = c.self.inside.keeper.store; keeps = c.self.inside.keeper.keeps } in
    let h = c.self.inside.raft in
    let i = c.args.index in
    let whole : IsWhole r = subst IsWhole (sym c.self.view_is) c.requires.whole in
    let lt : h.snapshot.index < i = subst (λ (v : ReplicaValue). v.raft.snapshot.index < i) (sym c.self.view_is) c.requires.past in
    let le : i ≤ h.commit = subst (λ (v : ReplicaValue). i ≤ v.raft.commit) (sym c.self.view_is) c.requires.applied in
    let t = stepped r (snapped r i) in
    let o : Own (node_of h) i t = own_step h.id (node_of h) i lt le in
    let term : c.applied_term-term.result ≡ term_at (node_of h).log i = c.applied_term-term.ensures ∙ ap (λ (v : ReplicaValue). term_at (node_of v.raft).log i) (sym c.self.view_is) in
    let made : Snap = record { index = i; term = c.applied_term-term.result; bytes = c.args.bytes } in
    let snap : made ≡ own_snap r i c.args.bytes = λ k. record { index = i; term = term k; bytes = c.args.bytes } in
    let first : c.kept_from-first.result ≡ suc (cut h i whole.coherent whole.has_term lt le) = c.kept_from-first.ensures in
    let one : c.kept_from-first.result - 1 ≡ cut h i whole.coherent whole.has_term lt le = omega arith in
    let rest = c.tail.ensures ∙ ap (λ (k : ℕ). drop k (node_of h).log) one in
    let lent : Log = record { first = c.kept_from-first.result; entries = c.tail.result.now } in
    let log : lent ≡ log_from (cut h i whole.coherent whole.has_term lt le) (node_of h).log = λ k. record { first = first k; entries = rest k } in
    let stores = subst (λ (s : Snap). CanKeep (kept_of r) s (log_from (cut h i whole.coherent whole.has_term lt le) (node_of h).log) → StoresSnapshot {E = StoreFault} g.D.Disk.tells (g.D.Disk.states c.args.disk.now) (g.D.Disk.states c.keep_snapshot.new.disk) r.store c.keep_snapshot.new.self.store (kept_of r) s (log_from (cut h i whole.coherent whole.has_term lt le) (node_of h).log) (Ok c.in_ok-keep_snapshot.field-0)) snap
    (subst (λ (l : Log). CanKeep (kept_of r) made l → StoresSnapshot {E = StoreFault} g.D.Disk.tells (g.D.Disk.states c.args.disk.now) (g.D.Disk.states c.keep_snapshot.new.disk) r.store c.keep_snapshot.new.self.store (kept_of r) made l (Ok c.in_ok-keep_snapshot.field-0)) log (c.in_ok-keep_snapshot.ensures.kept (kept_of r))) in
    let kept : snap_value c.keep_snapshot.new.self.snapshot ≡ own_snap r i c.args.bytes = ap snap_value c.in_ok-keep_snapshot.ensures.snapshot ∙ snap in
    let end : c.step.new.self.snapshot ≡ end_of (snap_value c.keep_snapshot.new.self.snapshot) = ap (λ (s : Node). s.snapshot) c.in_ok-todo.ensures.node ∙ o.snapshot ∙ ap end_of (sym kept) in
    subst (λ (v : ReplicaValue). IsKept g.D.Disk.tells (g.D.Disk.states c.args.disk.now) v → Has g.D.Disk.tells (g.D.Disk.states c.keep_snapshot.new.disk) c.keep_snapshot.new.self.store (kept_at (node_of c.step.new.self) c.keep_snapshot.new.self.snapshot.bytes)) c.self.view_is
    (λ has. subst (λ (b : List ℕ). Has g.D.Disk.tells (g.D.Disk.states c.keep_snapshot.new.disk) c.keep_snapshot.new.self.store (kept_at (node_of c.step.new.self) b)) (sym (ap (λ (s : Snap). s.bytes) kept))
    (subst (λ (n : Node). Has g.D.Disk.tells (g.D.Disk.states c.keep_snapshot.new.disk) c.keep_snapshot.new.self.store (kept_at n c.args.bytes)) (sym c.in_ok-todo.ensures.node) (own_stands h i whole.coherent whole.has_term lt le g.D.Disk.tells (g.D.Disk.states c.args.disk.now) (g.D.Disk.states c.keep_snapshot.new.disk) r.store c.keep_snapshot.new.self.store r.snap.bytes c.args.bytes t o stores has)))

pub returns-clause-commit : goal.returns-clause-commit
returns-clause-commit g c =
    let h = c.self.inside.raft in
    subst (λ (v : ReplicaValue). v.raft.commit ≤ c.step.new.self.commit) c.self.view_is
    (subst (λ (n : Node). h.commit ≤ n.commit) (sym c.in_ok-todo.ensures.node) (commit_rises h.id (node_of h) (input_of (snapped (record { id = c.self.inside.id; raft = h; snap = snap_value c.self.inside.keeper.snapshot; store = c.self.inside.keeper.store; keeps = c.self.inside.keeper.keeps }) c.args.index))))
