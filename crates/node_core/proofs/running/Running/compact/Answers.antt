use Rattle.node_core.proofs.CoreEntries.{compacts_exact, none_due_yet, servers_differ}
use Rattle.std.proofs.Common.{sym, ap, subst, ◌∙◌, refl}
use Rattle.raft_spec.specs.Node.{Node, Local, Snapped}
use Rattle.raft_spec.specs.NodeValues.{node_of}
use Rattle.applied_state.specs.Snapshot.{SpellsSnapshot, made_by}
use Rattle.raft_on_disk.specs.Replicas.{ReplicaValue, IsKept}
use Rattle.node_core.specs.declared.running.Running.{Running}
use Rattle.node_core.proofs.Compacting.{compacts_so, compact_led, is_past, spells_so}
use Rattle.node_core.proofs.SnapshotOffice.{snapped_office, office_kept}
use Rattle.raft_membership.specs.Members.{read_setup}
use Rattle.store_laws.specs.Store.{Snap, Kept}
use Rattle.node_spec.specs.RaftTurns.{at_first}
use Rattle.node_core.specs.Account.{KnowsServers}
use Rattle.node_core.specs.Finding.{StopsIn}
use Rattle.node_core.proofs.Finding.{failed, kept_finds, own_finds, own_left}
use Rattle.node_core.proofs.running.Running.compact.Goals as goal

pub look-requires-clause-office : goal.look-requires-clause-office
look-requires-clause-office g c =
    let h = c.args.self.now.replica.raft in
    let kept = snapped_office h.id (node_of h) c.args.self.now.applied.index in
    office_kept c.args.self.now.office c.args.self.now.view.serving h c.snapshot-2.new.self.raft c.requires.going.office (ap (λ (s : Node). s.term) c.in_ok-messages.ensures.raft ∙ kept.0) (ap (λ (s : Node). s.role) c.in_ok-messages.ensures.raft ∙ kept.1)

pub returns-clause-stored : goal.returns-clause-stored
returns-clause-stored g c = λ has. subst (λ (r : ReplicaValue). IsKept g.D.Disk.tells (g.D.Disk.states c.snapshot-2.new.disk) r) (sym (ap (λ (n : Running). n.replica) c.look.ensures.rest)) (c.in_ok-messages.ensures.kept has)

pub returns-clause-led : goal.returns-clause-led
returns-clause-led g c = compact_led c.args.self.now c.look.new.self c.snapshot-2.new.self _ c.requires.led c.in_ok-messages.ensures.raft c.look.ensures.rest c.look.ensures.serving

pub returns-clause-takes : goal.returns-clause-takes
returns-clause-takes g c = λ opening more.
    compacts_so opening c.args.self.now c.look.new.self c.snapshot-2.new.self _ _ _ c.requires.going.holds.replica
    (is_past c.args.self.now.replica.raft.snapshot c.args.self.now.applied.index c.is_due.result c.is_due.ensures c.if-not-is_due.false) c.in_ok-messages.ensures.raft c.in_ok-messages.ensures.whole c.in_ok-messages.ensures.snap
    c.in_ok-messages.ensures.tells c.in_ok-post_all.ensures c.snapshot-2.ensures.id c.look.ensures.rest c.look.ensures.serving c.holds_machine.ensures
    (sym c.applied.ensures.value ∙ c.are_same.ensures.is c.if-not-are_same.false ∙ c.as_slice.ensures)
    (λ lacks front has. subst (SpellsSnapshot (made_by opening front)) (sym c.in_ok-bytes.ensures) (c.in_ok-snapshot.ensures.front opening lacks front has))

pub returns-in_err-snapshot-clause-stops : goal.returns-in_err-snapshot-clause-stops
returns-in_err-snapshot-clause-stops g c = λ opening came has.
    failed c.from_residual.result (kept_finds g.D.Disk.tells (g.D.Disk.states c.args.disk.now) c.args.self.now.replica (λ (k : Kept). KnowsServers (read_setup opening) c.args.self.now → StopsIn (read_setup opening) came c.args.self.now (Local (Snapped c.args.self.now.applied.index)) k) (λ known. at_first refl) has)

pub returns-in_err-bytes-clause-stops : goal.returns-in_err-bytes-clause-stops
returns-in_err-bytes-clause-stops g c = λ opening came has.
    failed c.from_residual-in_err-bytes.result (kept_finds g.D.Disk.tells (g.D.Disk.states c.args.disk.now) c.args.self.now.replica (λ (k : Kept). KnowsServers (read_setup opening) c.args.self.now → StopsIn (read_setup opening) came c.args.self.now (Local (Snapped c.args.self.now.applied.index)) k) (λ known. at_first refl) has)

pub returns-in_err-messages-clause-stops : goal.returns-in_err-messages-clause-stops
returns-in_err-messages-clause-stops g c = λ opening came has.
    failed c.from_residual-in_err-messages.result
    (own_finds (KnowsServers (read_setup opening) c.args.self.now) (read_setup opening) came c.args.self.now c.args.self.now.applied.index _ g.D.Disk.tells (g.D.Disk.states c.snapshot-2.new.disk) _ _ c.requires.going.holds.replica
    (spells_so opening c.args.self.now _ (is_past c.args.self.now.replica.raft.snapshot c.args.self.now.applied.index c.is_due.result c.is_due.ensures c.if-not-is_due.false)
    (sym c.applied.ensures.value ∙ c.are_same.ensures.is c.if-not-are_same.false ∙ c.as_slice.ensures)
    (λ lacks front has. subst (SpellsSnapshot (made_by opening front)) (sym c.in_ok-bytes.ensures) (c.in_ok-snapshot.ensures.front opening lacks front has)))
    (c.in_err-messages.ensures.stopped has))

pub returns-in_err-post_all-clause-stops : goal.returns-in_err-post_all-clause-stops
returns-in_err-post_all-clause-stops g c = λ opening came has.
    failed c.from_residual-in_err-post_all.result
    (kept_finds g.D.Disk.tells (g.D.Disk.states c.snapshot-2.new.disk) c.snapshot-2.new.self (λ (k : Kept). KnowsServers (read_setup opening) c.args.self.now → StopsIn (read_setup opening) came c.args.self.now (Local (Snapped c.args.self.now.applied.index)) k)
    (λ known. own_left (read_setup opening) came c.args.self.now c.snapshot-2.new.self c.args.self.now.applied.index c.requires.going.holds.replica
    (spells_so opening c.args.self.now c.snapshot-2.new.self.snap.bytes (is_past c.args.self.now.replica.raft.snapshot c.args.self.now.applied.index c.is_due.result c.is_due.ensures c.if-not-is_due.false)
    (sym c.applied.ensures.value ∙ c.are_same.ensures.is c.if-not-are_same.false ∙ c.as_slice.ensures)
    (λ lacks front has. subst (SpellsSnapshot (made_by opening front)) (sym (ap (λ (s : Snap). s.bytes) c.in_ok-messages.ensures.snap ∙ c.in_ok-bytes.ensures)) (c.in_ok-snapshot.ensures.front opening lacks front has)) known)
    c.in_ok-messages.ensures.raft)
    (c.in_ok-messages.ensures.kept has))

pub returns-in_err-look-clause-stops : goal.returns-in_err-look-clause-stops
returns-in_err-look-clause-stops g c = λ opening came has.
    failed c.from_residual-in_err-look.result
    (kept_finds g.D.Disk.tells (g.D.Disk.states c.snapshot-2.new.disk) c.snapshot-2.new.self (λ (k : Kept). KnowsServers (read_setup opening) c.args.self.now → StopsIn (read_setup opening) came c.args.self.now (Local (Snapped c.args.self.now.applied.index)) k)
    (λ known. own_left (read_setup opening) came c.args.self.now c.snapshot-2.new.self c.args.self.now.applied.index c.requires.going.holds.replica
    (spells_so opening c.args.self.now c.snapshot-2.new.self.snap.bytes (is_past c.args.self.now.replica.raft.snapshot c.args.self.now.applied.index c.is_due.result c.is_due.ensures c.if-not-is_due.false)
    (sym c.applied.ensures.value ∙ c.are_same.ensures.is c.if-not-are_same.false ∙ c.as_slice.ensures)
    (λ lacks front has. subst (SpellsSnapshot (made_by opening front)) (sym (ap (λ (s : Snap). s.bytes) c.in_ok-messages.ensures.snap ∙ c.in_ok-bytes.ensures)) (c.in_ok-snapshot.ensures.front opening lacks front has)) known)
    c.in_ok-messages.ensures.raft)
    (c.in_ok-messages.ensures.kept has))

pub returns-then-not-is_due-clause-exact : goal.returns-then-not-is_due-clause-exact
returns-then-not-is_due-clause-exact g c = none_due_yet c.args.self.now c.is_due.result c.is_due.ensures c.if-not-is_due.true

pub returns-then-not-are_same-clause-exact : goal.returns-then-not-are_same-clause-exact
returns-then-not-are_same-clause-exact g c =
    servers_differ c.args.self.now (λ same. c.are_same.ensures.differ c.if-not-are_same.true (c.applied.ensures.value ∙ same ∙ sym c.as_slice.ensures))

pub returns-clause-exact : goal.returns-clause-exact
returns-clause-exact g c =
    compacts_exact c.args.self.now c.look.new.self c.snapshot-2.new.self c.post_all.new.self _ _ c.is_due.result c.requires.going.holds.replica c.is_due.ensures c.if-not-is_due.false
    (sym c.applied.ensures.value ∙ c.are_same.ensures.is c.if-not-are_same.false ∙ c.as_slice.ensures) (c.in_ok-bytes.ensures ∙ c.in_ok-snapshot.ensures.exact)
    c.in_ok-messages.ensures.raft c.in_ok-messages.ensures.id c.in_ok-messages.ensures.snap c.in_ok-messages.ensures.tells c.in_ok-post_all.ensures c.in_ok-look.ensures.exact
