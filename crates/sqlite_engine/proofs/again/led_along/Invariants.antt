use Rattle.std.proofs.Common.{◌≡◌, false, IsTrue}
use Rattle.sqlite.specs.Files.{file_state}
use Rattle.sqlite_engine.proofs.again.led_along.Given as goal

-- it is open, and in no transaction
abbrev pub invariant-loop-write : goal.invariant-loop-write
invariant-loop-write l = IsTrue (file_state l.conn.value).is_open × ((file_state l.conn.value).in_transaction ≡ false)
