use Rattle.wal_frames.proofs.LogLaws.{Wrote-begin}
use Rattle.wal_frames.proofs.writer.WalWriter.begin.Goals as goal

pub returns-clause-ok : goal.returns-clause-ok
returns-clause-ok c =
    Wrote-begin c.args.out.now.items c.args.sequence c.written-header.result c.fields-fields.result c.pair.result c.append_both.new.out.items c.checksum-sums.result
    c.written-header.ensures c.fields-fields.ensures c.checksum-sums.ensures c.pair.ensures c.in_ok-append_both.ensures.ok
