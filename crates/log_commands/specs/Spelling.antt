-- The one encoding of each command, and which bytes represent it.
use Rattle.std.specs.Prelude.{◌≡◌, ℕ, ◌<◌, ◌^◌, Bool, true, false, List, [], ◌∷◌, ◌++◌, length, IsUtf8}
use Rattle.std.specs.List.{AllByRecursion}
use Rattle.dq_base.specs.declared.pages.NumberedPage.{NumberedPage}
use Rattle.dq_base.specs.Names.{IsName}
use Rattle.wire_words.specs.Items.{word, pair, text, raw}
use Rattle.log_commands.specs.declared.command.Command.{Command}
use Rattle.log_commands.specs.declared.command.Command.TheVariants.{OpenDb, Frames, Undo, Checkpoint}
use Rattle.log_commands.specs.Numbers.{numbers_fit}

-- the format 1, the type, and six zeros
abbrev pub head : ℕ → List ℕ
head kind = 1 ∷ kind ∷ 0 ∷ 0 ∷ 0 ∷ 0 ∷ 0 ∷ 0 ∷ []

-- 1 for a commit, else 0
abbrev pub flag : Bool → ℕ
flag true = 1
flag false = 0

-- the numbers of the pages, a word each
abbrev pub number_words : List NumberedPage → List ℕ
number_words [] = []
number_words (p ∷ ps) = word p.number ++ number_words ps

-- the bytes of the pages
abbrev pub page_bytes : List NumberedPage → List ℕ
page_bytes [] = []
page_bytes (p ∷ ps) = raw p.page ++ page_bytes ps

-- What follows the name of a Frames command: the transaction; the page count and in the same word the flag, one byte and
-- three zeros; the number of pages and in the same word their size, two bytes and two zeros; their numbers; the pages.
abbrev pub frames_bytes : ℕ → ℕ → Bool → List NumberedPage → List ℕ
frames_bytes tx truncate commit pages =
    word tx ++ (pair truncate (flag commit) ++ (pair (length pages) 4096 ++ (number_words pages ++ page_bytes pages)))

-- the one encoding of a command
abbrev pub command_bytes : Command → List ℕ
command_bytes (OpenDb name) = head 1 ++ text name
command_bytes (Frames name tx truncate commit pages) = head 2 ++ (text name ++ frames_bytes tx truncate commit pages)
command_bytes (Undo tx) = head 3 ++ word tx
command_bytes (Checkpoint name) = head 4 ++ text name

-- each number has 64 bits
abbrev pub HaveNumbers : List NumberedPage → Type 0
HaveNumbers pages = AllByRecursion (λ p. p.number < 2 ^ 64) pages

-- each page has 4,096 bytes
abbrev pub HaveSizes : List NumberedPage → Type 0
HaveSizes pages = AllByRecursion (λ p. length p.page ≡ 4096) pages

-- the name of a database, in UTF-8
abbrev pub IsTextName : List ℕ → Type 0
IsTextName name = IsName name × IsUtf8 name

-- what the types of a command hold
abbrev pub IsInRange : Command → Type 0
IsInRange (OpenDb name) = IsTextName name
IsInRange (Frames name tx truncate commit pages) = IsTextName name × (tx < 2 ^ 64) × (truncate < 2 ^ 32) × HaveNumbers pages × HaveSizes pages
IsInRange (Undo tx) = tx < 2 ^ 64
IsInRange (Checkpoint name) = IsTextName name

-- The bytes represent the command: its numbers are in range, and it is encoded so.
pub record Writes (command : Command) (bytes : List ℕ) : Type 0 where
  pub in_range : IsInRange command
  pub fits : numbers_fit command ≡ true
  pub parts : bytes ≡ command_bytes command
