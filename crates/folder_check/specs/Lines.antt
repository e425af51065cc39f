-- The lines that say what a node has kept.
use Rattle.std.specs.Prelude.{ℕ, ◌+◌, ◌-◌, ◌==◌, cond, List, [], ◌++◌, length, codes, Option}
use Rattle.std.specs.Option.{option_map}
use Rattle.std.specs.Fmt.{decimal}
use Rattle.hex.specs.Hex.{encode_lower}
use Rattle.database_state.specs.Files.{Content}
use Rattle.file_digest.specs.Digest.{digest}
use Rattle.store_laws.specs.Store.{Snap, Log, Kept}
use Rattle.folder_check.specs.Files.{databases_at, after_entries, entries_behind}

-- term and vote
abbrev pub term_line : ℕ → ℕ → List ℕ
term_line term vote = codes "term " ++ (decimal term ++ (codes " vote " ++ (decimal vote ++ codes "\n")))

-- two numbers after a word
abbrev pub numbers_line : List ℕ → ℕ → ℕ → List ℕ
numbers_line word first second = word ++ (decimal first ++ (codes " " ++ (decimal second ++ codes "\n")))

-- index and term of the snapshot; index 0 is no snapshot
abbrev pub snapshot_line : Snap → List ℕ
snapshot_line snap = cond (snap.index == 0) (codes "snapshot none\n") (numbers_line (codes "snapshot ") snap.index snap.term)

-- the index of the last entry of a log that has some
abbrev pub last_index : Log → ℕ
last_index log = log.first + (length log.entries - 1)

-- the indexes of the first and the last entry
abbrev pub log_line : Log → List ℕ
log_line log = cond (length log.entries == 0) (codes "log none\n") (numbers_line (codes "log ") log.first (last_index log))

-- an index after a word, and the digest of databases
abbrev pub digest_line : List ℕ → ℕ → List ℕ → List ℕ
digest_line word index bytes = word ++ (decimal index ++ (codes " " ++ (encode_lower bytes ++ codes "\n")))

-- if the log has entries, the files after all of them, from those at the snapshot of this index on
abbrev pub end_line : ℕ → Log → List Content → List ℕ
end_line index log contents =
    cond (length log.entries == 0) [] (digest_line (codes "end ") (last_index log) (digest (after_entries contents (entries_behind index log))))

-- the lines of the files at the snapshot and after the log
abbrev pub digest_lines : ℕ → Log → List Content → List ℕ
digest_lines index log contents = digest_line (codes "files ") index (digest contents) ++ end_line index log contents

-- the lines before them
abbrev pub head_lines : Kept → List ℕ
head_lines k = term_line k.term k.vote ++ (snapshot_line k.snap ++ log_line k.log)

-- all lines, with the databases at the snapshot
unfoldable pub text_with : Kept → List Content → List ℕ
text_with k contents = head_lines k ++ digest_lines k.snap.index k.log contents

-- the lines, unless the kept snapshot isn't one of a node
abbrev pub lines_of : Kept → Option (List ℕ)
lines_of k = option_map (text_with k) (databases_at k.snap)
