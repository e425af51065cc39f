use Rattle.std.proofs.Common.{take}
use Rattle.sha2.specs.Hashers.{Holds256}
use Rattle.database_state.specs.Databases.{contents_of}
use Rattle.file_digest.specs.Digest.{message}
use Rattle.file_digest.proofs.hashing.digest.Given as goal

abbrev pub invariant-loop-database : goal.invariant-loop-database
invariant-loop-database l = Holds256 l.hasher (message (contents_of (take l.database-index l.databases)))
