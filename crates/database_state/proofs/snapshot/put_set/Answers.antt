use Rattle.wire_words.specs.Items.{word, blob}
use Rattle.database_state.specs.Logs.{pending_log}
use Rattle.database_state.proofs.WrittenLogs.{behind_two}
use Rattle.database_state.proofs.snapshot.put_set.Goals as goal

pub returns-clause-bytes : goal.returns-clause-bytes
returns-clause-bytes c =
    behind_two c.put_pages.result c.args.out.now.items c.put_word.new.out.items c.put_pages.new.out.items (word c.args.set.now.tx) (blob (pending_log c.args.set.now.pages))
    c.in_ok-put_word.ensures.bytes (rw c.as_slice.ensures at c.put_pages.ensures.bytes)
