use Rattle.std.proofs.Common.{◌≡◌, length, arith}
use Rattle.std.proofs.lemmas.Result.{err_from_is_err_and}
use Rattle.segment_store.proofs.LoadSees.{reading_none, reading_more, reading_all, reading_err, reading_stop}
use Rattle.segment_store.proofs.LoadCounting.{piecewise_none, piecewise_more, piecewise_all, piecewise_err, piecewise_stop}
use Rattle.segment_store.proofs.loading.reads.read_whole.Goals as goal

pub reads-init : goal.reads-init
reads-init g c = (reading_none c.args.name.now (g.D.Disk.states c.args.disk.now) c.args.bytes.now.items c.requires.empty, (omega arith, piecewise_none c.args.name.now (g.D.Disk.states c.args.disk.now) c.args.bytes.now.items (g.D.Disk.made c.args.disk.now) c.requires.empty))

pub reads-preserved : goal.reads-preserved
reads-preserved g c =
    let room : length c.reads.chunk ≡ 65536 = omega (arith, c.reads.long-chunk, c.requires.room) in (
      reading_more c.args.name.now _ _ _ c.reads.bytes.items c.read_more.new.bytes.items c.in_ok-more.more c.if-not-more.false c.reads.invariant.0 c.in_ok-more.ensures.told,
      (
        omega (arith, c.reads.invariant.1.0, c.in_ok-more.ensures.cause.never_falls),
        piecewise_more c.args.name.now _ _ _ c.reads.bytes.items c.read_more.new.bytes.items _ _ _ _ c.in_ok-more.more c.if-not-more.false room c.in_ok-more.ensures.count c.reads.invariant.0 c.in_ok-more.ensures.piece c.reads.invariant.1.1,
      ),
    )

pub returns-in_err-more-clause-told : goal.returns-in_err-more-clause-told
returns-in_err-more-clause-told g c =
    let p = err_from_is_err_and c.from_residual.result c.from_residual.ensures.1 in
    rw p.1 (reading_err c.args.name.now _ _ _ c.reads.bytes.items _ _ _ _ c.reads.invariant.0 c.in_err-more.ensures.told)

pub returns-then-not-more-clause-told : goal.returns-then-not-more-clause-told
returns-then-not-more-clause-told g c = reading_all c.args.name.now _ _ _ c.reads.bytes.items c.read_more.new.bytes.items c.in_ok-more.more _ c.if-not-more.true c.reads.invariant.0 c.in_ok-more.ensures.told

pub returns-clause-told : goal.returns-clause-told
returns-clause-told g c = reading_stop c.args.name.now _ _ c.reads.bytes.items _ _ c.reads.invariant.0

pub returns-in_err-more-clause-count : goal.returns-in_err-more-clause-count
returns-in_err-more-clause-count g c =
    let p = err_from_is_err_and c.from_residual.result c.from_residual.ensures.1 in
    rw p.1 (piecewise_err c.args.name.now _ c.reads.bytes.items _ _ _ _ c.in_err-more.ensures.count c.reads.invariant.1.1)

pub returns-then-not-more-clause-count : goal.returns-then-not-more-clause-count
returns-then-not-more-clause-count g c = piecewise_all c.args.name.now _ _ _ c.reads.bytes.items c.read_more.new.bytes.items _ _ _ _ c.in_ok-more.more _ c.if-not-more.true c.in_ok-more.ensures.count c.reads.invariant.0 c.in_ok-more.ensures.piece c.reads.invariant.1.1

pub returns-clause-count : goal.returns-clause-count
returns-clause-count g c = piecewise_stop c.args.name.now _ c.reads.bytes.items _ _ _ c.reads.invariant.1.1
