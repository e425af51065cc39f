-- The text of a state machine's snapshot, and which bytes are one.
use Rattle.std.specs.Prelude.{◌≡◌, ℕ, ◌<◌, ◌^◌, List, [], ◌∷◌, ◌++◌, length, Option, Some, None}
use Rattle.std.specs.List.{AllByRecursion}
use Rattle.dq_base.specs.declared.pages.PageSet.{PageSet}
use Rattle.wire_words.specs.Items.{word, text, blob}
use Rattle.log_commands.specs.Numbers.{AreLow}
use Rattle.log_commands.specs.Spelling.{IsTextName, HaveSizes}
use Rattle.database_state.specs.AsMap.{AreInOrder}
use Rattle.database_state.specs.Files.{Content}
use Rattle.database_state.specs.Logs.{IsShort, image_log, pending_log}

-- If pages are pending, 1, their transaction, and the blob of their log; else 0.
abbrev pub pending_text : Option PageSet → List ℕ
pending_text None = word 0
pending_text (Some set) = word 1 ++ (word set.tx ++ blob (pending_log set.pages))

-- a database: its name, the blob of its image's log, and what is pending
abbrev pub content_text : Content → List ℕ
content_text content = text content.name ++ (blob (image_log content.image) ++ pending_text content.pending)

abbrev pub contents_text : List Content → List ℕ
contents_text [] = []
contents_text (content ∷ contents) = content_text content ++ contents_text contents

-- the snapshot of these databases: the format 1, their number, and each of them
abbrev pub snapshot_text : List Content → List ℕ
snapshot_text contents = word 1 ++ (word (length contents) ++ contents_text contents)

-- what may be pending: a transaction of 64 bits, and pages of 4,096 bytes with numbers of 32 bits, not more than a blob holds
pub record IsKeptSet (set : PageSet) : Type 0 where
  pub tx : set.tx < 2 ^ 64
  pub low : AreLow set.pages
  pub sizes : HaveSizes set.pages
  pub fits : length (pending_log set.pages) < 2 ^ 64

abbrev pub IsKeptPending : Option PageSet → Type 0
IsKeptPending None = Unit {0}
IsKeptPending (Some set) = IsKeptSet set

-- what a database of a state machine is: a name in UTF-8, files that are not too long, and what may be pending
pub record IsKept (content : Content) : Type 0 where
  pub name : IsTextName content.name
  pub image : IsShort content.image
  pub pending : IsKeptPending content.pending

-- The bytes are the snapshot of a state machine with these databases, which stand by their names, each once.
pub record IsSnapshot (contents : List Content) (bytes : List ℕ) : Type 0 where
  pub kept : AllByRecursion IsKept contents
  pub in_order : AreInOrder contents
  pub count : length contents < 2 ^ 64
  pub parts : bytes ≡ snapshot_text contents
