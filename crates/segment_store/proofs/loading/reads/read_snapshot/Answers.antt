use Rattle.std.proofs.Common.{◌<◌, arith}
use Rattle.segment_store.specs.Keeps.{folder}
use Rattle.segment_store.proofs.LoadSees.{sees_now}
use Rattle.segment_store.proofs.LoadSnaps.{same_read}
use Rattle.std.proofs.Common.{◌≤◌}
use Rattle.std.proofs.lemmas.Result.{err_from_is_err_and}
use Rattle.segment_store.proofs.LoadCounting.{counts_nothing, counts_err, counts_stop, counts_ok}
use Rattle.segment_store.proofs.LoadCountLists.{older_reads, newer_reads}
use Rattle.segment_store.proofs.loading.reads.read_snapshot.Goals as goal

pub returns-then-index-snapshot_index-clause-told : goal.returns-then-index-snapshot_index-clause-told
returns-then-index-snapshot_index-clause-told g c =
    let low : c.args.index < c.args.read.now.snap.index = omega (arith, c.if-index-snapshot_index.true, c.snapshot_index.ensures.index) in
    sees_now _ _ _ (λ d. same_read (folder d) c.args.index c.args.read.now low)

pub returns-then-index-snapshot_index-clause-count : goal.returns-then-index-snapshot_index-clause-count
returns-then-index-snapshot_index-clause-count g c =
    let low : c.args.index < c.args.read.now.snap.index = omega (arith, c.if-index-snapshot_index.true, c.snapshot_index.ensures.index) in
    counts_nothing _ _ _ _ (λ d. older_reads (folder d).read _ c.args.index low)

pub returns-in_err-bytes-clause-count : goal.returns-in_err-bytes-clause-count
returns-in_err-bytes-clause-count g c =
    let p = err_from_is_err_and c.from_residual.result c.from_residual.ensures.1 in
    let high : c.args.read.now.snap.index ≤ c.args.index = omega (arith, c.if-index-snapshot_index.false, c.snapshot_index.ensures.index) in
    rw p.1 (counts_err _ _ _ _ _ _ _ (λ d. let z = newer_reads (folder d).read _ c.args.index high in omega (arith, z)) c.in_err-bytes.ensures.count)

pub returns-in_err-add_snapshot-clause-count : goal.returns-in_err-add_snapshot-clause-count
returns-in_err-add_snapshot-clause-count g c =
    let p = err_from_is_err_and c.from_residual-in_err-add_snapshot.result c.from_residual-in_err-add_snapshot.ensures.1 in
    let high : c.args.read.now.snap.index ≤ c.args.index = omega (arith, c.if-index-snapshot_index.false, c.snapshot_index.ensures.index) in
    rw p.1 (counts_stop _ _ _ _ _ _ _ (λ d. let z = newer_reads (folder d).read _ c.args.index high in omega (arith, z)) c.in_ok-bytes.ensures.count)

pub returns-clause-count : goal.returns-clause-count
returns-clause-count g c =
    let high : c.args.read.now.snap.index ≤ c.args.index = omega (arith, c.if-index-snapshot_index.false, c.snapshot_index.ensures.index) in
    counts_ok _ _ _ _ _ _ _ (λ d. newer_reads (folder d).read _ c.args.index high) c.in_ok-bytes.ensures.count
