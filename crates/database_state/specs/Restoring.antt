-- Reading a snapshot from left to right, with the first fault that is met.
use Rattle.std.specs.Prelude.{◌≡◌, ℕ, zero, suc, ◌-◌, ◌/◌, Bool, true, false, ◌&&◌, ◌==◌, nat_le, bytes_eq, if◌then◌else◌, List, [], ◌∷◌, length, take, drop, map, slice_get, Option, Some, None, Result, Ok, Err, MatchResult}
use Rattle.std.specs.Option.{option_map}
use Rattle.std.specs.Ordering.{nat_cmp, match_ordering}
use Rattle.std.specs.Cmp.Lexicographic.{slice_cmp}
use Rattle.dq_base.specs.declared.images.Image.{Image}
use Rattle.dq_base.specs.declared.pages.NumberedPage.{NumberedPage}
use Rattle.dq_base.specs.declared.pages.PageSet.{PageSet}
use Rattle.dq_base.specs.declared.page_fault.PageFault.{PageFault}
use Rattle.dq_base.specs.declared.page_fault.PageFault.TheVariants as page_faults
use Rattle.dq_base.specs.Applying.{applied, page_fault}
use Rattle.wire_words.specs.declared.fault.WordFault.{WordFault}
use Rattle.wire_words.specs.declared.fault.WordFault.TheVariants as word_faults
use Rattle.wire_words.specs.declared.value.Dialect.TheVariants.{Exact}
use Rattle.wire_words.specs.Reading.{◌>>=◌, Unread, unread, word_at, text_at, blob_at}
use Rattle.wal_frames.specs.declared.fault.WalFault.{WalFault}
use Rattle.wal_frames.specs.declared.fault.WalFault.TheVariants as wal_faults
use Rattle.wal_frames.specs.declared.frame.Frame.{Frame}
use Rattle.wal_frames.specs.declared.header.WalHeader.{WalHeader}
use Rattle.wal_frames.specs.Headers.{header_of}
use Rattle.wal_frames.specs.Text.{wal}
use Rattle.wal_frames.specs.Valid.{Reading, TookAll, stated_frame}
use Rattle.page_store.specs.Store.{fresh_store}
use Rattle.database_state.specs.declared.database.Database.{Database}
use Rattle.database_state.specs.declared.fault.SnapFault.{SnapFault}
use Rattle.database_state.specs.declared.fault.SnapFault.TheVariants.{Format, Word, Order, Wal, Pages, Tail, NoMemory}
use Rattle.database_state.specs.Files.{Content, empty_image}
use Rattle.database_state.specs.Logs.{image_log, pending_log}

-- the fault of a snapshot where an item, a log's header or the pages of an image have this one
abbrev pub of_word : WordFault → SnapFault
of_word word_faults.NoMemory = NoMemory
of_word fault = Word fault

abbrev pub of_wal : WalFault → SnapFault
of_wal wal_faults.NoMemory = NoMemory
of_wal fault = Wal fault

abbrev pub of_pages : PageFault → SnapFault
of_pages page_faults.NoMemory = NoMemory
of_pages fault = Pages fault

abbrev pub in_snapshot : {X : Type 0} → Result X WordFault → Result X SnapFault
in_snapshot (Ok x) = Ok x
in_snapshot (Err fault) = Err (of_word fault)

-- ---- logs

-- this many frames that bytes state, without a test
unfoldable pub stated_frames : ℕ → List ℕ → List Frame
stated_frames zero bytes = []
stated_frames (suc count) bytes = stated_frame (take 4120 bytes) ∷ stated_frames count (drop 4120 bytes)

-- the whole frames that a log states after its header, without a test
abbrev pub frames_in : List ℕ → List Frame
frames_in log = stated_frames ((length log - 32) / 4120) (drop 32 log)

-- the pages of frames
abbrev pub pages_of : List Frame → List NumberedPage
pages_of frames = map (λ (f : Frame). record { number = f.number; page = f.page }) frames

-- what lies between two states of a reader are frames with these pages
abbrev pub TookPages : Reading → List NumberedPage → Reading → Type 0
TookPages old pages new = (frames : List Frame) × TookAll old frames new × (pages ≡ pages_of frames)

-- the pages of a log that is written so of its frames, with the sequence number 0
abbrev pub checked_pages : ℕ → List ℕ → Result WalHeader WalFault → Result (List NumberedPage) SnapFault
checked_pages at log (Err fault) = Err (of_wal fault)
checked_pages at log (Ok header) = if bytes_eq log (wal 0 (frames_in log)) then Ok (pages_of (frames_in log)) else Err (Order at)

-- The pages of a log that begins at this place: a fault of its header comes first, and then that it isn't written so.
unfoldable pub log_pages : ℕ → List ℕ → Result (List NumberedPage) SnapFault
log_pages at log = checked_pages at log (header_of log)

-- two empty files after these pages, of which this is the first fault
abbrev pub applied_or : Option PageFault → List NumberedPage → Result Image SnapFault
applied_or None pages = Ok (applied empty_image pages)
applied_or (Some fault) pages = Err (of_pages fault)

-- the image of pages
unfoldable pub image_of : List NumberedPage → Result Image SnapFault
image_of pages = applied_or (page_fault pages) pages

-- The image of a log that begins at this place: its pages, applied to two empty files. It has to be the log of that image.
unfoldable pub log_image : ℕ → List ℕ → Result Image SnapFault
log_image at log = do
  pages ← log_pages at log
  image ← image_of pages
  if bytes_eq log (image_log image) then Ok image else Err (Order at)

-- the pending pages of a log that begins at this place, in which no frame has a commit size
unfoldable pub log_pending : ℕ → List ℕ → Result (List NumberedPage) SnapFault
log_pending at log = do
  pages ← log_pages at log
  if bytes_eq log (pending_log pages) then Ok pages else Err (Order at)

-- ---- items

-- the name of the last database, if there is one
abbrev pub last_name : List Database → Option (List ℕ)
last_name databases = option_map (λ (database : Database). database.name) (slice_get databases (length databases - 1))

-- a name has 1 to 255 bytes
abbrev pub has_name_length : List ℕ → Bool
has_name_length name = nat_le 1 (length name) && nat_le (length name) 255

-- a name is above the one before, if there is one
abbrev pub is_above : Option (List ℕ) → List ℕ → Bool
is_above None name = true
is_above (Some before) name = match_ordering (slice_cmp nat_cmp before name) true false false

-- a name of 1 to 255 bytes, above the one before
unfoldable pub name_at : Option (List ℕ) → Unread → Result (List ℕ × Unread) SnapFault
name_at before left = do
  name ← in_snapshot (text_at left)
  if has_name_length name.0 && is_above before name.0 then Ok name else Err (Order left.at)

-- the image of the log in a blob
unfoldable pub image_at : Unread → Result (Image × Unread) SnapFault
image_at left = do
  log ← in_snapshot (blob_at Exact left)
  image ← log_image left.at log.0
  Ok (image, log.1)

-- the pages of the log in a blob
unfoldable pub pages_at : Unread → Result (List NumberedPage × Unread) SnapFault
pages_at left = do
  log ← in_snapshot (blob_at Exact left)
  pages ← log_pending left.at log.0
  Ok (pages, log.1)

-- a transaction and its pages
unfoldable pub set_at : Unread → Result (PageSet × Unread) SnapFault
set_at left = do
  tx ← in_snapshot (word_at left)
  pages ← pages_at tx.1
  Ok (record { tx = tx.0; pages = pages.0 }, pages.1)

-- what follows a flag that is at this place
abbrev pub flagged : ℕ → ℕ → Unread → Result (Option PageSet × Unread) SnapFault
flagged at flag left =
    if flag == 0 then Ok (None, left)
    else if flag == 1 then (set_at left >>= λ set. Ok (Some set.0, set.1))
    else Err (Order at)

-- what is pending: a flag, and if it is 1 a transaction and its pages
unfoldable pub pending_at : Unread → Result (Option PageSet × Unread) SnapFault
pending_at left = do
  flag ← in_snapshot (word_at left)
  flagged left.at flag.0 flag.1

-- a database, whose name is above the one before
unfoldable pub content_at : Option (List ℕ) → Unread → Result (Content × Unread) SnapFault
content_at before left = do
  name ← name_at before left
  image ← image_at name.1
  pending ← pending_at image.1
  Ok (record { name = name.0; image = image.0; pending = pending.0 }, pending.1)

-- this many databases, of which the first name is above the one before
unfoldable pub contents_at : ℕ → Option (List ℕ) → Unread → Result (List Content × Unread) SnapFault
contents_at zero before left = Ok ([], left)
contents_at (suc count) before left = do
  first ← content_at before left
  others ← contents_at count (Some first.0.name) first.1
  Ok (first.0 ∷ others.0, others.1)

-- the format 1, and the number of databases
unfoldable pub head_at : Unread → Result (ℕ × Unread) SnapFault
head_at left = do
  format ← in_snapshot (word_at left)
  if format.0 == 1 then in_snapshot (word_at format.1) else Err Format

-- what was read, if nothing is left
abbrev pub ended : List Content × Unread → Result (List Content) SnapFault
ended read = if length read.1.bytes == 0 then Ok read.0 else Err Tail

-- the databases of the snapshot that these bytes are, or the first fault
unfoldable pub snapshot_of : List ℕ → Result (List Content) SnapFault
snapshot_of bytes = do
  count ← head_at (unread bytes)
  contents ← contents_at count.0 None count.1
  ended contents

-- ---- what calls give

-- A fault is the one that reading gives, unless memory ran out.
abbrev pub Fails : {Y : Type 0} → SnapFault → Result Y SnapFault → Type 0
Fails NoMemory reading = Unit {0}
Fails fault reading = reading ≡ Err fault

-- What a call gave, seen by view, is what reading gives, unless memory ran out.
abbrev pub Gives : {X Y : Type 0} → (X → Y) → Result Y SnapFault → Result X SnapFault → Type 0
Gives view reading result = MatchResult result (λ x. reading ≡ Ok (view x)) (λ fault. Fails fault reading)

-- What a reader of a part gave is what reading gives; nothing is said of where a fault leaves the reader.
abbrev pub Finds : {X Y : Type 0} → (X → Y) → (Unread → Result (Y × Unread) SnapFault) → Unread → Unread → Result X SnapFault → Type 0
Finds view read old new result = MatchResult result (λ x. read old ≡ Ok (view x, new)) (λ fault. Fails fault (read old))

-- ---- state machines

-- a database as a snapshot gives it: no commits and no live marks
abbrev pub restored_at : ℕ → Content → Database
restored_at place content = record { name = content.name; place = place; store = fresh_store content.image; pending = content.pending; since = 0 }

abbrev pub restored_from : ℕ → List Content → List Database
restored_from place [] = []
restored_from place (content ∷ contents) = restored_at place content ∷ restored_from (suc place) contents

-- the databases of a state machine as a snapshot gives them, opened in the order of their names
abbrev pub restored : List Content → List Database
restored contents = restored_from 0 contents
