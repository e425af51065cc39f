use Rattle.std.proofs.lemmas.Result.{err_from_is_err_and}
use Rattle.node_core.proofs.ConnStreams.{starts_unlinked}
use Rattle.node_core.proofs.Starts.{starts_over}
use Rattle.std.proofs.Common.{sym, subst}
use Rattle.store_laws.specs.Store.{Kept}
use Rattle.node_core.specs.Core.{core_of}
use Rattle.node_core.specs.ExactStart.{StartsExactly}
use Rattle.node_core.proofs.ExactStarts.{core_files}
use Rattle.node_core.proofs.node.Node.start.Goals as goal

pub returns-in_err-running-clause-starts : goal.returns-in_err-running-clause-starts
returns-in_err-running-clause-starts g c =
    let p = err_from_is_err_and c.from_residual-in_err-running.result c.from_residual-in_err-running.ensures.1 in
    rw (p.1, p.2) (starts_over (g.D.Disk.states c.args.disk.now) (g.D.Disk.states c.load.new.disk) c.in_err-running.field-0.0 c.in_ok-store.store c.in_ok-store.kept
    c.in_err-running.ensures.unread c.in_ok-store.ensures.loads)

pub returns-clause-unlinked : goal.returns-clause-unlinked
returns-clause-unlinked g c = starts_unlinked c.args.spec.links c.in_ok-running.running c.in_ok-running.ensures.peers

pub returns-clause-exact : goal.returns-clause-exact
returns-clause-exact g c =
    subst (λ (kept : Kept). StartsExactly c.args.spec.id c.args.spec.links c.args.spec.readers c.args.spec.servers kept (core_of c.in_ok-running.running)) (sym c.in_ok-running.ensures.kept) c.in_ok-running.ensures.exact

pub returns-clause-files : goal.returns-clause-files
returns-clause-files g c = core_files c.in_ok-running.running c.databases_stand.ensures
