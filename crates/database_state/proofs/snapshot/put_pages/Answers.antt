use Rattle.database_state.proofs.WrittenLogs.{pending_blob}
use Rattle.database_state.proofs.snapshot.put_pages.Goals as goal

pub returns-clause-bytes : goal.returns-clause-bytes
returns-clause-bytes c =
    pending_blob c.put_pending_log.result c.args.out.now.items c.put_word.new.out.items c.reserve.new.self.items c.put_pending_log.new.out.items c.args.pages.now c.wal_length-length.result
    c.in_ok-put_word.ensures.bytes c.in_ok-reserve.ensures.items c.wal_length-length.ensures c.requires c.put_pending_log.ensures.log c.put_pending_log.ensures.sizes
