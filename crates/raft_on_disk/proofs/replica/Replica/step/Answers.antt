use Rattle.std.proofs.Common.{◌≡◌, ◌≤◌, ◌+◌, refl, sym, ap, subst, ◌∙◌}
use Rattle.std.proofs.lemmas.Result.{err_from_is_err_and}
use Rattle.raft_spec.specs.NodeValues.{node_of}
use Rattle.raft_core.specs.Messages.{sendings_value}
use Rattle.segment_store.specs.Keeping.{snap_value}
use Rattle.raft_on_disk.specs.Keeping.{kept_at, one_of, writes_of, kept_snapshot, Has}
use Rattle.raft_on_disk.specs.Replicas.{ReplicaValue, IsWhole, IsKept, kept_of, stepped, said, bytes_after, snap_after}
use Rattle.raft_on_disk.specs.Stops.{Stops}
use Rattle.raft_on_disk.specs.Letters.{Tells}
use Rattle.raft_on_disk.proofs.Steps.{Made, stops_none, stops_at_vote, stops_at_log, stops_at_end, stands, whole_after, snap_comes, snap_kept_as, commit_up, bytes_kept, all_told}
use Rattle.raft_on_disk.proofs.replica.Replica.step.Goals as goal

pub returns-in_err-meta-clause-stopped : goal.returns-in_err-meta-clause-stopped
returns-in_err-meta-clause-stopped g c =
    let r : ReplicaValue = record { id = c.self.inside.id; raft = c.self.inside.raft; snap = snap_value c.self.inside.keeper.snapshot; store = c.self.inside.keeper.store; keeps = c.self.inside.keeper.keeps } in
    let p = err_from_is_err_and c.from_residual.result c.from_residual.ensures.1 in
    rw p.1 (subst (λ (v : ReplicaValue). IsKept g.D.Disk.tells (g.D.Disk.states c.args.disk.now) v → Stops g.D.Disk.tells (g.D.Disk.states c.args.disk.now) (node_of v.raft) (stepped v c.args.event) v.snap.bytes (bytes_after v c.args.event) v.keeps r.keeps) c.self.view_is
    (λ has. stops_none g.D.Disk.tells (g.D.Disk.states c.args.disk.now) r.store (node_of r.raft) (stepped r c.args.event) r.snap.bytes (bytes_after r c.args.event) r.keeps has))

pub returns-in_err-keep_vote-clause-stopped : goal.returns-in_err-keep_vote-clause-stopped
returns-in_err-keep_vote-clause-stopped g c =
    let r : ReplicaValue = record { id = c.self.inside.id; raft = c.self.inside.raft; snap = snap_value c.self.inside.keeper.snapshot; store = c.self.inside.keeper.store; keeps = c.self.inside.keeper.keeps } in
    let m : Made r c.args.event c.step.new.self c.in_ok-meta.field-0.meta c.in_ok-meta.field-0.install c.in_ok-meta.field-0.batch = record {
      whole = subst IsWhole (sym c.self.view_is) c.requires.whole;
      intake = c.requires.intake;
      coherent = c.in_ok-meta.ensures.coherent;
      node = c.in_ok-meta.ensures.node;
      meta_is = c.in_ok-meta.ensures.meta;
      log = c.in_ok-meta.ensures.log;
      offers = c.in_ok-meta.ensures.install;
    } in
    let p = err_from_is_err_and c.from_residual-in_err-keep_vote.result c.from_residual-in_err-keep_vote.ensures.1 in
    rw p.1 (subst (λ (v : ReplicaValue). IsKept g.D.Disk.tells (g.D.Disk.states c.args.disk.now) v → Stops g.D.Disk.tells (g.D.Disk.states c.keep_vote.new.disk) (node_of v.raft) (stepped v c.args.event) v.snap.bytes (bytes_after v c.args.event) v.keeps c.keep_vote.new.self.keeps) c.self.view_is
    (λ has. stops_at_vote r c.args.event c.step.new.self c.in_ok-meta.field-0.meta c.in_ok-meta.field-0.install c.in_ok-meta.field-0.batch m g.D.Disk.tells (g.D.Disk.states c.args.disk.now) (g.D.Disk.states c.keep_vote.new.disk) c.keep_vote.new.self.store c.in_err-keep_vote.field-0.0 c.keep_vote.new.self.keeps c.in_err-keep_vote.ensures.counts.1 (c.in_err-keep_vote.ensures.kept (kept_of r)) has))

pub returns-in_err-keep_log-clause-stopped : goal.returns-in_err-keep_log-clause-stopped
returns-in_err-keep_log-clause-stopped g c =
    let r : ReplicaValue = record { id = c.self.inside.id; raft = c.self.inside.raft; snap = snap_value c.self.inside.keeper.snapshot; store = c.self.inside.keeper.store; keeps = c.self.inside.keeper.keeps } in
    let m : Made r c.args.event c.step.new.self c.in_ok-meta.field-0.meta c.in_ok-meta.field-0.install c.in_ok-meta.field-0.batch = record {
      whole = subst IsWhole (sym c.self.view_is) c.requires.whole;
      intake = c.requires.intake;
      coherent = c.in_ok-meta.ensures.coherent;
      node = c.in_ok-meta.ensures.node;
      meta_is = c.in_ok-meta.ensures.meta;
      log = c.in_ok-meta.ensures.log;
      offers = c.in_ok-meta.ensures.install;
    } in
    let votes : c.keep_vote.new.self.keeps ≡ r.keeps + one_of c.in_ok-meta.field-0.meta = c.in_ok-keep_vote.ensures.counts.0 in
    let p = err_from_is_err_and c.from_residual-in_err-keep_log.result c.from_residual-in_err-keep_log.ensures.1 in
    rw p.1 (subst (λ (v : ReplicaValue). IsKept g.D.Disk.tells (g.D.Disk.states c.args.disk.now) v → Stops g.D.Disk.tells (g.D.Disk.states c.keep_log.new.disk) (node_of v.raft) (stepped v c.args.event) v.snap.bytes (bytes_after v c.args.event) v.keeps c.keep_log.new.self.keeps) c.self.view_is
    (λ has. stops_at_log r c.args.event c.step.new.self c.in_ok-meta.field-0.meta c.in_ok-meta.field-0.install c.in_ok-meta.field-0.batch m g.D.Disk.tells (g.D.Disk.states c.args.disk.now) (g.D.Disk.states c.keep_vote.new.disk) (g.D.Disk.states c.keep_log.new.disk) c.keep_vote.new.self.store c.keep_log.new.self.store c.in_err-keep_log.field-0.0 c.keep_log.new.self.keeps (c.in_err-keep_log.ensures.counts.1 ∙ votes) (c.in_ok-keep_vote.ensures.kept (kept_of r)) (λ k. c.in_err-keep_log.ensures.kept k) has))

pub returns-in_err-messages-clause-stopped : goal.returns-in_err-messages-clause-stopped
returns-in_err-messages-clause-stopped g c =
    let r : ReplicaValue = record { id = c.self.inside.id; raft = c.self.inside.raft; snap = snap_value c.self.inside.keeper.snapshot; store = c.self.inside.keeper.store; keeps = c.self.inside.keeper.keeps } in
    let m : Made r c.args.event c.step.new.self c.in_ok-meta.field-0.meta c.in_ok-meta.field-0.install c.in_ok-meta.field-0.batch = record {
      whole = subst IsWhole (sym c.self.view_is) c.requires.whole;
      intake = c.requires.intake;
      coherent = c.in_ok-meta.ensures.coherent;
      node = c.in_ok-meta.ensures.node;
      meta_is = c.in_ok-meta.ensures.meta;
      log = c.in_ok-meta.ensures.log;
      offers = c.in_ok-meta.ensures.install;
    } in
    let votes : c.keep_vote.new.self.keeps ≡ r.keeps + one_of c.in_ok-meta.field-0.meta = c.in_ok-keep_vote.ensures.counts.0 in
    let p = err_from_is_err_and c.from_residual-in_err-messages.result c.from_residual-in_err-messages.ensures.1 in
    rw p.1 (subst (λ (v : ReplicaValue). IsKept g.D.Disk.tells (g.D.Disk.states c.args.disk.now) v → Stops g.D.Disk.tells (g.D.Disk.states c.keep_log.new.disk) (node_of v.raft) (stepped v c.args.event) v.snap.bytes (bytes_after v c.args.event) v.keeps c.keep_log.new.self.keeps) c.self.view_is
    (λ has. stops_at_end r c.args.event c.step.new.self c.in_ok-meta.field-0.meta c.in_ok-meta.field-0.install c.in_ok-meta.field-0.batch m g.D.Disk.tells (g.D.Disk.states c.keep_log.new.disk) c.keep_log.new.self.store c.keep_log.new.self.keeps (writes_of c.in_ok-meta.field-0.install c.in_ok-meta.field-0.batch) (c.in_ok-keep_log.ensures.counts.0 ∙ ap (λ k. k + writes_of c.in_ok-meta.field-0.install c.in_ok-meta.field-0.batch) votes)
    (stands r c.args.event c.step.new.self c.in_ok-meta.field-0.meta c.in_ok-meta.field-0.install c.in_ok-meta.field-0.batch m g.D.Disk.tells (g.D.Disk.states c.args.disk.now) (g.D.Disk.states c.keep_vote.new.disk) (g.D.Disk.states c.keep_log.new.disk) c.keep_vote.new.self.store c.keep_log.new.self.store (c.in_ok-keep_vote.ensures.kept (kept_of r)) (λ k. c.in_ok-keep_log.ensures.kept k) has)))

pub returns-clause-whole : goal.returns-clause-whole
returns-clause-whole g c =
    let r : ReplicaValue = record { id = c.self.inside.id; raft = c.self.inside.raft; snap = snap_value c.self.inside.keeper.snapshot; store = c.self.inside.keeper.store; keeps = c.self.inside.keeper.keeps } in
    let m : Made r c.args.event c.step.new.self c.in_ok-meta.field-0.meta c.in_ok-meta.field-0.install c.in_ok-meta.field-0.batch = record {
      whole = subst IsWhole (sym c.self.view_is) c.requires.whole;
      intake = c.requires.intake;
      coherent = c.in_ok-meta.ensures.coherent;
      node = c.in_ok-meta.ensures.node;
      meta_is = c.in_ok-meta.ensures.meta;
      log = c.in_ok-meta.ensures.log;
      offers = c.in_ok-meta.ensures.install;
    } in
    let snapshot : c.keep_log.new.self.snapshot ≡ kept_snapshot c.self.inside.keeper.snapshot c.in_ok-meta.field-0.install = c.in_ok-keep_log.ensures.snapshot ∙ ap (λ s. kept_snapshot s c.in_ok-meta.field-0.install) c.in_ok-keep_vote.ensures.snapshot in
    whole_after r c.args.event c.step.new.self c.in_ok-meta.field-0.meta c.in_ok-meta.field-0.install c.in_ok-meta.field-0.batch m c.self.inside.keeper.snapshot c.keep_log.new.self.snapshot c.keep_log.new.self.store c.keep_log.new.self.keeps refl snapshot c.in_ok-meta.ensures.id

pub returns-clause-tells : goal.returns-clause-tells
returns-clause-tells g c =
    let r : ReplicaValue = record { id = c.self.inside.id; raft = c.self.inside.raft; snap = snap_value c.self.inside.keeper.snapshot; store = c.self.inside.keeper.store; keeps = c.self.inside.keeper.keeps } in
    let m : Made r c.args.event c.step.new.self c.in_ok-meta.field-0.meta c.in_ok-meta.field-0.install c.in_ok-meta.field-0.batch = record {
      whole = subst IsWhole (sym c.self.view_is) c.requires.whole;
      intake = c.requires.intake;
      coherent = c.in_ok-meta.ensures.coherent;
      node = c.in_ok-meta.ensures.node;
      meta_is = c.in_ok-meta.ensures.meta;
      log = c.in_ok-meta.ensures.log;
      offers = c.in_ok-meta.ensures.install;
    } in
    let snapshot : c.keep_log.new.self.snapshot ≡ kept_snapshot c.self.inside.keeper.snapshot c.in_ok-meta.field-0.install = c.in_ok-keep_log.ensures.snapshot ∙ ap (λ s. kept_snapshot s c.in_ok-meta.field-0.install) c.in_ok-keep_vote.ensures.snapshot in
    let whole = whole_after r c.args.event c.step.new.self c.in_ok-meta.field-0.meta c.in_ok-meta.field-0.install c.in_ok-meta.field-0.batch m c.self.inside.keeper.snapshot c.keep_log.new.self.snapshot c.keep_log.new.self.store c.keep_log.new.self.keeps refl snapshot c.in_ok-meta.ensures.id in
    let says : sendings_value r.raft.id c.in_ok-meta.field-0.sends ≡ said r c.args.event = c.in_ok-meta.ensures.sends in
    subst (λ (v : ReplicaValue). Tells (said v c.args.event) (snap_value c.keep_log.new.self.snapshot) c.in_ok-messages.messages.items) c.self.view_is
    (all_told r c.args.event c.step.new.self c.in_ok-meta.field-0.meta c.in_ok-meta.field-0.install c.in_ok-meta.field-0.batch m c.keep_log.new.self.snapshot c.in_ok-meta.field-0.sends c.in_ok-messages.messages.items whole.snap says c.in_ok-meta.ensures.installs c.in_ok-messages.ensures)

pub returns-clause-kept : goal.returns-clause-kept
returns-clause-kept g c =
    let r : ReplicaValue = record { id = c.self.inside.id; raft = c.self.inside.raft; snap = snap_value c.self.inside.keeper.snapshot; store = c.self.inside.keeper.store; keeps = c.self.inside.keeper.keeps } in
    let m : Made r c.args.event c.step.new.self c.in_ok-meta.field-0.meta c.in_ok-meta.field-0.install c.in_ok-meta.field-0.batch = record {
      whole = subst IsWhole (sym c.self.view_is) c.requires.whole;
      intake = c.requires.intake;
      coherent = c.in_ok-meta.ensures.coherent;
      node = c.in_ok-meta.ensures.node;
      meta_is = c.in_ok-meta.ensures.meta;
      log = c.in_ok-meta.ensures.log;
      offers = c.in_ok-meta.ensures.install;
    } in
    let snapshot : c.keep_log.new.self.snapshot ≡ kept_snapshot c.self.inside.keeper.snapshot c.in_ok-meta.field-0.install = c.in_ok-keep_log.ensures.snapshot ∙ ap (λ s. kept_snapshot s c.in_ok-meta.field-0.install) c.in_ok-keep_vote.ensures.snapshot in
    subst (λ (v : ReplicaValue). IsKept g.D.Disk.tells (g.D.Disk.states c.args.disk.now) v → Has g.D.Disk.tells (g.D.Disk.states c.keep_log.new.disk) c.keep_log.new.self.store (kept_at (node_of c.step.new.self) c.keep_log.new.self.snapshot.bytes)) c.self.view_is
    (λ has. subst (λ b. Has g.D.Disk.tells (g.D.Disk.states c.keep_log.new.disk) c.keep_log.new.self.store (kept_at (node_of c.step.new.self) b)) (sym (bytes_kept r c.args.event c.step.new.self c.in_ok-meta.field-0.meta c.in_ok-meta.field-0.install c.in_ok-meta.field-0.batch m c.self.inside.keeper.snapshot c.keep_log.new.self.snapshot refl snapshot))
    (stands r c.args.event c.step.new.self c.in_ok-meta.field-0.meta c.in_ok-meta.field-0.install c.in_ok-meta.field-0.batch m g.D.Disk.tells (g.D.Disk.states c.args.disk.now) (g.D.Disk.states c.keep_vote.new.disk) (g.D.Disk.states c.keep_log.new.disk) c.keep_vote.new.self.store c.keep_log.new.self.store (c.in_ok-keep_vote.ensures.kept (kept_of r)) (λ k. c.in_ok-keep_log.ensures.kept k) has))

pub returns-clause-commit : goal.returns-clause-commit
returns-clause-commit g c =
    let r : ReplicaValue = record { id = c.self.inside.id; raft = c.self.inside.raft; snap = snap_value c.self.inside.keeper.snapshot; store = c.self.inside.keeper.store; keeps = c.self.inside.keeper.keeps } in
    let m : Made r c.args.event c.step.new.self c.in_ok-meta.field-0.meta c.in_ok-meta.field-0.install c.in_ok-meta.field-0.batch = record {
      whole = subst IsWhole (sym c.self.view_is) c.requires.whole;
      intake = c.requires.intake;
      coherent = c.in_ok-meta.ensures.coherent;
      node = c.in_ok-meta.ensures.node;
      meta_is = c.in_ok-meta.ensures.meta;
      log = c.in_ok-meta.ensures.log;
      offers = c.in_ok-meta.ensures.install;
    } in
    subst (λ (v : ReplicaValue). v.raft.commit ≤ c.step.new.self.commit) c.self.view_is (commit_up r c.args.event c.step.new.self c.in_ok-meta.field-0.meta c.in_ok-meta.field-0.install c.in_ok-meta.field-0.batch m)

pub returns-clause-snap : goal.returns-clause-snap
returns-clause-snap g c =
    let r : ReplicaValue = record { id = c.self.inside.id; raft = c.self.inside.raft; snap = snap_value c.self.inside.keeper.snapshot; store = c.self.inside.keeper.store; keeps = c.self.inside.keeper.keeps } in
    let m : Made r c.args.event c.step.new.self c.in_ok-meta.field-0.meta c.in_ok-meta.field-0.install c.in_ok-meta.field-0.batch = record {
      whole = subst IsWhole (sym c.self.view_is) c.requires.whole;
      intake = c.requires.intake;
      coherent = c.in_ok-meta.ensures.coherent;
      node = c.in_ok-meta.ensures.node;
      meta_is = c.in_ok-meta.ensures.meta;
      log = c.in_ok-meta.ensures.log;
      offers = c.in_ok-meta.ensures.install;
    } in
    let snapshot : c.keep_log.new.self.snapshot ≡ kept_snapshot c.self.inside.keeper.snapshot c.in_ok-meta.field-0.install = c.in_ok-keep_log.ensures.snapshot ∙ ap (λ s. kept_snapshot s c.in_ok-meta.field-0.install) c.in_ok-keep_vote.ensures.snapshot in
    subst (λ (v : ReplicaValue). snap_value c.keep_log.new.self.snapshot ≡ snap_after v c.args.event) c.self.view_is
    (snap_kept_as r c.args.event c.step.new.self c.in_ok-meta.field-0.meta c.in_ok-meta.field-0.install c.in_ok-meta.field-0.batch m c.self.inside.keeper.snapshot c.keep_log.new.self.snapshot refl snapshot ∙ sym (snap_comes r c.args.event c.step.new.self c.in_ok-meta.field-0.meta c.in_ok-meta.field-0.install c.in_ok-meta.field-0.batch m))
