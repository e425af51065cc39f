use Rattle.dq_base.specs.Images.{page_count}
use Rattle.page_store.specs.Store.{newest_image}
use Rattle.database_state.specs.Logs.{image_log}
use Rattle.database_state.proofs.WalTexts.{image_log_length}
use Rattle.database_state.proofs.WrittenLogs.{blob_written}
use Rattle.database_state.proofs.snapshot.put_image.Goals as goal

pub returns : goal.returns
returns c =
    let image = newest_image c.args.store.now in
    blob_written c.put_image_log.result c.args.out.now.items c.put_word.new.out.items c.reserve.new.self.items c.put_image_log.new.out.items (image_log image) c.image_log_length-length.result (page_count image)
    c.in_ok-put_word.ensures.bytes c.in_ok-reserve.ensures.items c.image_log_length-length.ensures (image_log_length image c.requires) c.put_image_log.ensures
