-- What the answers to an Append say.
use Rattle.std.specs.Prelude.{List}
use Rattle.raft_spec.specs.Log.{Entry, LogEnd}
use Rattle.raft_spec.specs.Compaction.{CutLog, Differs, Matches}
use Rattle.raft_log.specs.declared.log.Accepted.{Accepted}
use Rattle.raft_log.specs.declared.log.Accepted.TheVariants as answers

-- the answer to an Append of these entries after the place `prev`, by the log before and after it
abbrev pub Answers : Accepted → CutLog → CutLog → LogEnd → List Entry → Type 0
Answers (answers.Differs last) old new prev entries = Differs old new prev last
Answers (answers.Match index from) old new prev entries = Matches old new prev entries index from
