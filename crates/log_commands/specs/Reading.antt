-- Reading a command, with the first fault that is met: its format, its type, its items from left to right, the size of
-- its pages, its numbers, its end.
use Rattle.std.specs.Prelude.{◌≡◌, ℕ, zero, suc, Bool, true, ◌&&◌, ◌==◌, nat_le, if◌then◌else◌, List, [], ◌∷◌, length, drop, slice_index, Option, Some, None, Result, Ok, Err, MatchResult}
use Rattle.std.specs.List.{position}
use Rattle.byteorder.specs.Endian.{little_number}
use Rattle.dq_base.specs.declared.pages.NumberedPage.{NumberedPage}
use Rattle.wire_words.specs.declared.fault.WordFault.{WordFault}
use Rattle.wire_words.specs.declared.fault.WordFault.TheVariants as word_faults
use Rattle.wire_words.specs.Items.{is_zero}
use Rattle.wire_words.specs.Reading.{◌>>=◌, Unread, unread, word_at, raw_at, text_at}
use Rattle.log_commands.specs.declared.command.Command.{Command}
use Rattle.log_commands.specs.declared.command.Command.TheVariants.{OpenDb, Frames, Undo, Checkpoint}
use Rattle.log_commands.specs.declared.items.FrameItems.{FrameItems}
use Rattle.log_commands.specs.declared.kind.CommandKind.{CommandKind}
use Rattle.log_commands.specs.declared.kind.CommandKind.TheVariants as kinds
use Rattle.log_commands.specs.declared.fault.CommandFault.{CommandFault}
use Rattle.log_commands.specs.declared.fault.CommandFault.TheVariants.{Format, Kind, Word, PageSize, Number, Tail, NoMemory}
use Rattle.log_commands.specs.Numbers.{frames_fit}

-- the fault of a command, if an item has this one
abbrev pub of_word : WordFault → CommandFault
of_word word_faults.NoMemory = NoMemory
of_word fault = Word fault

abbrev pub in_command : {X : Type 0} → Result X WordFault → Result X CommandFault
in_command (Ok x) = Ok x
in_command (Err fault) = Err (of_word fault)

-- the type of command that a number represents
abbrev pub command_kind : ℕ → Option CommandKind
command_kind n = if n == 1 then Some kinds.OpenDb else if n == 2 then Some kinds.Frames else if n == 3 then Some kinds.Undo else if n == 4 then Some kinds.Checkpoint else None

abbrev pub known : Option CommandKind → Result CommandKind CommandFault
known None = Err Kind
known (Some kind) = Ok kind

-- the fault if the format or the type isn't there
abbrev pub no_head : Result CommandKind CommandFault
no_head = Err (Word (word_faults.Short 0))

-- the type of the command that begins so: its first byte is the format 1, and its second represents the type
abbrev pub kind_of : List ℕ → Result CommandKind CommandFault
kind_of [] = no_head
kind_of (format ∷ []) = if format == 1 then no_head else Err Format
kind_of (format ∷ kind ∷ others) = if format == 1 then known (command_kind kind) else Err Format

-- the head: these two bytes, and zeros to a whole word
unfoldable pub kind_at : Unread → Result (CommandKind × Unread) CommandFault
kind_at left = do
  kind ← kind_of left.bytes
  head ← in_command (raw_at 2 left)
  Ok (kind, head.1)

-- whether a text with its first NUL at this place may be a name: 1 to 255 bytes come before it, or there is none
abbrev pub may_be_name : Option ℕ → Bool
may_be_name None = true
may_be_name (Some len) = nat_le 1 len && nat_le len 255

-- a name: a text of 1 to 255 bytes; one of another length is Short, whatever its bytes are
unfoldable pub name_at : Unread → Result (List ℕ × Unread) WordFault
name_at left = if may_be_name (position is_zero left.bytes) then text_at left else Err (word_faults.Short left.at)

-- a number of 32 bits, a byte, and three zeros
unfoldable pub flagged_at : Unread → Result ((ℕ × ℕ) × Unread) WordFault
flagged_at left = do
  item ← raw_at 5 left
  Ok ((little_number 4 item.0, slice_index item.0 4), item.1)

-- a number of 32 bits, one of 16 bits, and two zeros
unfoldable pub sized_at : Unread → Result ((ℕ × ℕ) × Unread) WordFault
sized_at left = do
  item ← raw_at 6 left
  Ok ((little_number 4 item.0, little_number 2 (drop 4 item.0)), item.1)

-- this many numbers
unfoldable pub numbers_at : ℕ → Unread → Result (List ℕ × Unread) WordFault
numbers_at zero left = Ok ([], left)
numbers_at (suc count) left = do
  first ← word_at left
  others ← numbers_at count first.1
  Ok (first.0 ∷ others.0, others.1)

-- the page of a number
unfoldable pub page_at : ℕ → Unread → Result (NumberedPage × Unread) WordFault
page_at number left = do
  page ← raw_at 4096 left
  Ok (record { number = number; page = page.0 }, page.1)

-- the pages of these numbers
unfoldable pub pages_at : List ℕ → Unread → Result (List NumberedPage × Unread) WordFault
pages_at [] left = Ok ([], left)
pages_at (number ∷ numbers) left = do
  first ← page_at number left
  others ← pages_at numbers first.1
  Ok (first.0 ∷ others.0, others.1)

-- what follows the name of a Frames command
unfoldable pub frame_items_at : Unread → Result (FrameItems × Unread) WordFault
frame_items_at left = do
  tx ← word_at left
  flagged ← flagged_at tx.1
  sized ← sized_at flagged.1
  numbers ← numbers_at sized.0.0 sized.1
  pages ← pages_at numbers.0 numbers.1
  Ok (record { tx = tx.0; truncate = flagged.0.0; flag = flagged.0.1; size = sized.0.1; pages = pages.0 }, pages.1)

-- the command of these items
abbrev pub frames_of : List ℕ → FrameItems → Result Command CommandFault
frames_of name items =
    if items.size == 4096 then
    (if nat_le items.flag 1 && frames_fit items.truncate (items.flag == 1) items.pages
    then Ok (Frames name items.tx items.truncate (items.flag == 1) items.pages)
    else Err Number)
    else Err PageSize

-- the rest of a Frames command of this name
unfoldable pub frames_at : List ℕ → Unread → Result (Command × Unread) CommandFault
frames_at name left = do
  items ← in_command (frame_items_at left)
  command ← frames_of name items.0
  Ok (command, items.1)

-- what follows the head of a Frames command
unfoldable pub named_frames_at : Unread → Result (Command × Unread) CommandFault
named_frames_at left = do
  name ← in_command (name_at left)
  frames_at name.0 name.1

-- a command that has a name alone
unfoldable pub named_at : (List ℕ → Command) → Unread → Result (Command × Unread) CommandFault
named_at make left = do
  name ← in_command (name_at left)
  Ok (make name.0, name.1)

-- what follows the head of an Undo command
unfoldable pub undo_at : Unread → Result (Command × Unread) CommandFault
undo_at left = do
  tx ← in_command (word_at left)
  Ok (Undo tx.0, tx.1)

-- what follows the head of a command of this type
abbrev pub command_after : CommandKind → Unread → Result (Command × Unread) CommandFault
command_after kinds.OpenDb left = named_at (λ name. OpenDb name) left
command_after kinds.Frames left = named_frames_at left
command_after kinds.Undo left = undo_at left
command_after kinds.Checkpoint left = named_at (λ name. Checkpoint name) left

-- a command, whatever follows it
unfoldable pub command_at : Unread → Result (Command × Unread) CommandFault
command_at left = do
  kind ← kind_at left
  command_after kind.0 kind.1

-- what was read, if nothing is left
abbrev pub ended : Command × Unread → Result Command CommandFault
ended x = if length x.1.bytes == 0 then Ok x.0 else Err Tail

-- the command of these bytes, or the first fault
unfoldable pub command_of : List ℕ → Result Command CommandFault
command_of bytes = command_at (unread bytes) >>= ended

-- A fault is the one that reading gives, unless memory ran out.
abbrev pub Fails : {X : Type 0} → CommandFault → Result X CommandFault → Type 0
Fails NoMemory reading = Unit {0}
Fails fault reading = reading ≡ Err fault

-- What a call gave is what reading gives, unless memory ran out.
abbrev pub Gives : {X : Type 0} → Result X CommandFault → Result X CommandFault → Type 0
Gives reading result = MatchResult result (λ x. reading ≡ Ok x) (λ fault. Fails fault reading)

-- What a reader of a part gave is what reading gives; nothing is said of where a fault leaves the reader.
abbrev pub Finds : {X : Type 0} → (Unread → Result (X × Unread) CommandFault) → Unread → Unread → Result X CommandFault → Type 0
Finds read old new result = MatchResult result (λ x. read old ≡ Ok (x, new)) (λ fault. Fails fault (read old))
