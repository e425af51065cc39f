-- A batch that is written reads back.
use Rattle.std.specs.Prelude.{ℕ, ◌<◌, ◌^◌, List, length}
use Rattle.wire_words.specs.Items.{word}
use Rattle.raft_messages.specs.Entries.{HaveHeads}
use Rattle.store_laws.specs.Store.{Log}
use Rattle.store_laws.specs.Append.{Writes}
use Rattle.store_format.specs.Batches.{batch_bytes}
use Rattle.store_format.specs.NodeFormat.{node_format}

-- the first word of a segment that is written
abbrev pub segment_word : List ℕ
segment_word = word 3

-- a batch whose numbers fit into their words
pub record Fits (b : Log) : Type 0 where
  pub some : 0 < b.first
  pub first : b.first < 2 ^ 64
  pub count : length b.entries < 2 ^ 64
  pub heads : HaveHeads b.entries

-- in a segment with this first word it reads as it, with all of its bytes
abbrev pub BatchesReadBack : Type 0
BatchesReadBack = (b : Log) → Fits b → Writes node_format b segment_word (batch_bytes b)
