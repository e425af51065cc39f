use Rattle.sqlite.specs.Files.{file_state}
use Rattle.sqlite_engine.proofs.Standing.{shown_open}
use Rattle.sqlite_engine.proofs.again.show_again.Goals as goal

pub query-requires : goal.query-requires
query-requires c it none = absurd cc

pub returns-in-Ok : goal.returns-in-Ok
returns-in-Ok c sure = shown_open (file_state c.args.conn.value) (file_state c.in-Ok.conn.value) c.requires _ _ _ c.in-Ok.ensures.ok
