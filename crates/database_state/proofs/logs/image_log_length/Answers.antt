use Rattle.std.proofs.Common.{arith}
use Rattle.page_store.specs.Store.{newest_image}
use Rattle.database_state.proofs.WalTexts.{image_log_length}
use Rattle.database_state.proofs.logs.image_log_length.Goals as goal

pub returns : goal.returns
returns c = omega (arith, c.wal_length.ensures, c.page_count.ensures, image_log_length (newest_image c.args.store.now) c.requires)
