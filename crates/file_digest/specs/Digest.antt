-- The digest of a state machine's files.
use Rattle.std.specs.Prelude.{ℕ, List, ◌++◌, length}
use Rattle.std.specs.List.{flat_map}
use Rattle.sha2.specs.Sha256.{sha256}
use Rattle.wire_words.specs.Items.{word, text}
use Rattle.database_state.specs.Files.{Content}

-- a file after the word of its length
abbrev pub file_message : List ℕ → List ℕ
file_message file = word (length file) ++ file

-- a database: its name as a text of the wire, and its two files
unfoldable pub message_of : Content → List ℕ
message_of content = text content.name ++ (file_message content.image.main ++ file_message content.image.side)

-- all databases, in their order
abbrev pub message : List Content → List ℕ
message contents = flat_map message_of contents

-- the SHA-256 of them
unfoldable pub digest : List Content → List ℕ
digest contents = sha256 (message contents)
