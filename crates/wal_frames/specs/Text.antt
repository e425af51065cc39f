-- The text of a write-ahead log in the SQLite file format: a header of 32 bytes, and frames of 24 bytes and a page each.
use Rattle.std.specs.Prelude.{◌≡◌, ◌<◌, ◌^◌, ℕ, ◌+◌, ◌*◌, List, [], ◌∷◌, ◌++◌, length, drop, fold, slice_index}
use Rattle.byteorder.specs.Endian.{big_bytes, big_number}
use Rattle.wal_frames.specs.declared.checksums.WordOrder.{WordOrder}
use Rattle.wal_frames.specs.declared.checksums.WordOrder.TheVariants.{Big, Little}
use Rattle.wal_frames.specs.declared.frame.Frame.{Frame}
use Rattle.wal_frames.specs.declared.header.WalHeader.{WalHeader}
use Rattle.wal_frames.specs.Checksum.{checksum}

-- two numbers of 32 bits, big-endian
unfoldable pub pair : ℕ × ℕ → List ℕ
pair numbers = big_bytes 4 numbers.0 ++ big_bytes 4 numbers.1

-- the two numbers in the first eight bytes
unfoldable pub pair_of : List ℕ → ℕ × ℕ
pair_of bytes = (big_number 4 bytes, big_number 4 (drop 4 bytes))

-- the magic number, which tells in which order the checksum reads words
abbrev pub magic : WordOrder → ℕ
magic Big = 0x377f0683
magic Little = 0x377f0682

-- The first 24 bytes of a header: the magic number, the version 3007000, the page size 4096, the number of the
-- checkpoint sequence, and two salts.
unfoldable pub fields : WalHeader → List ℕ
fields h = pair (magic h.order, 3007000) ++ (pair (4096, h.sequence) ++ pair h.salts)

-- the checksum of a header, which the first frame continues from
unfoldable pub header_sums : WalHeader → ℕ × ℕ
header_sums h = checksum h.order (0, 0) (fields h)

-- a header: its fields, and their checksum
unfoldable pub header : WalHeader → List ℕ
header h = fields h ++ pair (header_sums h)

-- the checksum of a frame: that of its page number, its commit size and its page, going on from the one before it
unfoldable pub frame_sums : WalHeader → ℕ × ℕ → Frame → ℕ × ℕ
frame_sums h before f = checksum h.order before (pair (f.number, f.commit) ++ f.page)

-- a frame: page number and commit size, the salts of the header, the checksum, and the page
unfoldable pub frame : WalHeader → ℕ × ℕ → Frame → List ℕ
frame h before f = pair (f.number, f.commit) ++ (pair h.salts ++ (pair (frame_sums h before f) ++ f.page))

-- the checksum of the last of some frames
unfoldable pub sums_after : WalHeader → ℕ × ℕ → List Frame → ℕ × ℕ
sums_after h before fs = fold (frame_sums h) before fs

-- frames one after the other, the checksum of each going on from the one before it
unfoldable pub frames : WalHeader → ℕ × ℕ → List Frame → List ℕ
frames h before [] = []
frames h before (f ∷ fs) = frame h before f ++ frames h (frame_sums h before f) fs

-- a log with this header and these frames
unfoldable pub log : WalHeader → List Frame → List ℕ
log h fs = header h ++ frames h (header_sums h) fs

-- the header that is written here: words in big-endian order, the first salt the sequence number, the second 0
abbrev pub written_header : ℕ → WalHeader
written_header sequence = record { order = Big; sequence = sequence; salts = (sequence, 0) }

-- the text that is written of a sequence number and frames
abbrev pub wal : ℕ → List Frame → List ℕ
wal sequence fs = log (written_header sequence) fs

-- how long the text of this many frames is, in bytes
abbrev pub wal_length : ℕ → ℕ
wal_length n = 32 + 4120 * n

-- both numbers have 32 bits
abbrev pub ArePair : ℕ × ℕ → Type 0
ArePair numbers = (numbers.0 < 2 ^ 32) × (numbers.1 < 2 ^ 32)

-- what a frame may hold: numbers of 32 bits, and a page of 4,096 bytes
pub record IsFrame (f : Frame) : Type 0 where
  pub number : f.number < 2 ^ 32
  pub commit : f.commit < 2 ^ 32
  pub page : length f.page ≡ 4096

-- what a header may hold: numbers of 32 bits
pub record IsHeader (h : WalHeader) : Type 0 where
  pub sequence : h.sequence < 2 ^ 32
  pub salts : ArePair h.salts

-- each is a byte
abbrev pub AreBytes : List ℕ → Type 0
AreBytes bytes = (i : ℕ) → slice_index bytes i < 256
