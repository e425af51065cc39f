-- The valid frames of a log, and reading them one after the other.
use Rattle.std.specs.Prelude.{◌≡◌, ℕ, ◌&&◌, Bool, true, List, ◌++◌, length, take, drop, Ok}
use Rattle.std.specs.List.{AllByRecursion}
use Rattle.wal_frames.specs.declared.frame.Frame.{Frame}
use Rattle.wal_frames.specs.declared.header.WalHeader.{WalHeader}
use Rattle.wal_frames.specs.declared.reading.WalRead.{WalRead}
use Rattle.wal_frames.specs.Text.{IsFrame, IsHeader, pair_of, header, header_sums, frame, frame_sums, frames, sums_after, log}
use Rattle.wal_frames.specs.Headers.{header_of, same_pair}

abbrev pub AreFrames : List Frame → Type 0
AreFrames fs = AllByRecursion IsFrame fs

-- one list is a front of another
abbrev pub IsFront : List Frame → List Frame → Type 0
IsFront front whole = (more : List Frame) × (whole ≡ front ++ more)

-- the bytes begin with the log of these frames: the salts and the checksum of each frame match, and those of all before
abbrev pub Begins : List ℕ → WalHeader → List Frame → Type 0
Begins bytes h fs = (rest : List ℕ) × (bytes ≡ log h fs ++ rest)

-- the longest list of frames that match after a header: every other one is a front of it
pub record AreValid (bytes : List ℕ) (h : WalHeader) (fs : List Frame) : Type 0 where
  pub fit : AreFrames fs
  pub begins : Begins bytes h fs
  pub longest : (others : List Frame) → AreFrames others → Begins bytes h others → IsFront others fs

-- what reading some bytes gave: their header's sequence number, their valid frames, and the place where these end
pub record Reads (bytes : List ℕ) (read : WalRead) : Type 0 where
  pub header : WalHeader
  pub stated : header_of bytes ≡ Ok header
  pub sequence : read.sequence ≡ header.sequence
  pub valid : AreValid bytes header read.frames
  pub end : read.end ≡ length (log header read.frames)

-- a reader between two frames: the header, the checksum of the last frame, and the bytes that are left
pub record Reading : Type 0 where
  pub header : WalHeader
  pub sums : ℕ × ℕ
  pub rest : List ℕ

-- a frame matches at the front of what is left
pub record Matches (old : Reading) (f : Frame) (rest : List ℕ) : Type 0 where
  pub fits : IsFrame f
  pub parts : old.rest ≡ frame old.header old.sums f ++ rest

-- no frame matches at the front of what is left
abbrev pub NoneMatches : Reading → Type 0
NoneMatches old = (f : Frame) (rest : List ℕ) → Matches old f rest → ⊥

-- the reader after a frame that matched
abbrev pub behind : Reading → Frame → List ℕ → Reading
behind old f rest = record { header = old.header; sums = frame_sums old.header old.sums f; rest = rest }

-- what lies between two states of a reader is a frame that matches
pub record Took (old : Reading) (f : Frame) (new : Reading) : Type 0 where
  pub matched : Matches old f new.rest
  pub now : new ≡ behind old f new.rest

-- a reader after the header of these bytes
pub record Opened (bytes : List ℕ) (new : Reading) : Type 0 where
  pub stated : header_of bytes ≡ Ok new.header
  pub fits : IsHeader new.header
  pub parts : bytes ≡ header new.header ++ new.rest
  pub sums : new.sums ≡ header_sums new.header

-- what lies between two states of a reader are frames that match
pub record TookAll (old : Reading) (fs : List Frame) (new : Reading) : Type 0 where
  pub fit : AreFrames fs
  pub parts : old.rest ≡ frames old.header old.sums fs ++ new.rest
  pub now : new ≡ record { header = old.header; sums = sums_after old.header old.sums fs; rest = new.rest }

-- the frame that the bytes state, without a test
unfoldable pub stated_frame : List ℕ → Frame
stated_frame bytes = record { number = (pair_of bytes).0; commit = (pair_of bytes).1; page = take 4096 (drop 24 bytes) }

-- whether the salts of that frame are those of the header, and its checksum continues from the one before it
unfoldable pub is_match : WalHeader → ℕ × ℕ → List ℕ → Bool
is_match h before bytes = same_pair (pair_of (drop 8 bytes)) h.salts && same_pair (pair_of (drop 16 bytes)) (frame_sums h before (stated_frame bytes))

-- the frame that the bytes state matches, and this is its checksum
pub record Stands (h : WalHeader) (before : ℕ × ℕ) (bytes : List ℕ) (sums : ℕ × ℕ) : Type 0 where
  pub test : is_match h before bytes ≡ true
  pub fits : IsFrame (stated_frame bytes)
  pub text : bytes ≡ frame h before (stated_frame bytes)
  pub sum : sums ≡ frame_sums h before (stated_frame bytes)
