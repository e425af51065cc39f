use Rattle.segment_store.specs.Keeps.{folder}
use Rattle.segment_store.proofs.LoadSees.{sees_now}
use Rattle.segment_store.proofs.LoadSnaps.{no_metadata}
use Rattle.std.proofs.Common.{Bool, ap, arith}
use Rattle.std.proofs.lemmas.Result.{err_from_is_err_and}
use Rattle.segment_store.specs.LoadCounts.{meta_count}
use Rattle.store_laws.specs.Meta.{file_of}
use Rattle.segment_store.proofs.LoadCountLists.{meta_is}
use Rattle.segment_store.proofs.LoadCounting.{counts_nothing, counts_err, counts_ok}
use Rattle.segment_store.proofs.loading.reads.read_metadata.Goals as goal

pub returns-then-not-is_there-clause-told : goal.returns-then-not-is_there-clause-told
returns-then-not-is_there-clause-told g c = sees_now _ _ _ (λ d. no_metadata c.args.first c.args.is_there (folder d) c.args.read.now c.if-not-is_there.true)

pub returns-then-not-is_there-clause-count : goal.returns-then-not-is_there-clause-count
returns-then-not-is_there-clause-count g c = counts_nothing _ _ _ _ (λ d. ap (λ (b : Bool). meta_count b ((folder d).read (file_of c.args.first))) c.if-not-is_there.true)

pub returns-in_err-bytes-clause-count : goal.returns-in_err-bytes-clause-count
returns-in_err-bytes-clause-count g c =
    let p = err_from_is_err_and c.from_residual.result c.from_residual.ensures.1 in
    rw p.1 (counts_err _ _ _ _ _ _ _ (λ d. let z = meta_is c.args.is_there c.args.first (folder d) _ c.if-not-is_there.false c.metadata_name.ensures.file in omega (arith, z)) c.in_err-bytes.ensures.count)

pub returns-clause-count : goal.returns-clause-count
returns-clause-count g c = counts_ok _ _ _ _ _ _ _ (λ d. meta_is c.args.is_there c.args.first (folder d) _ c.if-not-is_there.false c.metadata_name.ensures.file) c.in_ok-bytes.ensures.count
