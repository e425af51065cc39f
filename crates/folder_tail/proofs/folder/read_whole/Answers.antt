use Rattle.std.proofs.Common.{arith}
use Rattle.std.proofs.lemmas.Result.{err_from_is_err_and}
use Rattle.segment_store.proofs.LoadSees.{reading_none, reading_more, reading_all, reading_err, reading_stop}
use Rattle.folder_tail.proofs.folder.read_whole.Goals as goal

pub reads-init : goal.reads-init
reads-init g c = (reading_none c.args.name.now (g.D.Disk.states c.args.disk.now) c.args.bytes.now.items c.requires.empty, omega arith)

pub reads-preserved : goal.reads-preserved
reads-preserved g c = (
  reading_more c.args.name.now _ _ _ c.reads.bytes.items c.read_more.new.bytes.items c.in_ok-more.more c.if-not-more.false c.reads.invariant.0 c.in_ok-more.ensures.told,
  omega (arith, c.reads.invariant.1, c.in_ok-more.ensures.cause.never_falls),
)

pub returns-in_err-more-clause-told : goal.returns-in_err-more-clause-told
returns-in_err-more-clause-told g c =
    let p = err_from_is_err_and c.from_residual.result c.from_residual.ensures.1 in
    rw p.1 (reading_err c.args.name.now _ _ _ c.reads.bytes.items _ _ _ _ c.reads.invariant.0 c.in_err-more.ensures.told)

pub returns-then-not-more-clause-told : goal.returns-then-not-more-clause-told
returns-then-not-more-clause-told g c = reading_all c.args.name.now _ _ _ c.reads.bytes.items c.read_more.new.bytes.items c.in_ok-more.more _ c.if-not-more.true c.reads.invariant.0 c.in_ok-more.ensures.told

pub returns-clause-told : goal.returns-clause-told
returns-clause-told g c = reading_stop c.args.name.now _ _ c.reads.bytes.items _ _ c.reads.invariant.0
