-- The header that is at the front of some bytes, or the first reason for which none does.
use Rattle.std.specs.Prelude.{◌≡◌, ℕ, ◌==◌, ◌&&◌, Bool, not, nat_lt, if◌then◌else◌, List, length, take, drop, Option, Some, None, Result, Ok, Err, IsOk}
use Rattle.wal_frames.specs.declared.checksums.WordOrder.{WordOrder}
use Rattle.wal_frames.specs.declared.checksums.WordOrder.TheVariants.{Big, Little}
use Rattle.wal_frames.specs.declared.fault.WalFault.{WalFault}
use Rattle.wal_frames.specs.declared.fault.WalFault.TheVariants.{Short, Magic, Version, PageSize, HeaderSum, NoMemory}
use Rattle.wal_frames.specs.declared.header.WalHeader.{WalHeader}
use Rattle.wal_frames.specs.Checksum.{checksum}
use Rattle.wal_frames.specs.Text.{pair_of}

-- whether two pairs of numbers are the same
abbrev pub same_pair : ℕ × ℕ → ℕ × ℕ → Bool
same_pair a b = (a.0 == b.0) && (a.1 == b.1)

-- the order that a magic number tells
abbrev pub order_of : ℕ → Option WordOrder
order_of number = if number == 0x377f0683 then Some Big else if number == 0x377f0682 then Some Little else None

-- the header that the bytes state, without a test
unfoldable pub stated : WordOrder → List ℕ → WalHeader
stated order bytes = record { order = order; sequence = (pair_of (drop 8 bytes)).1; salts = pair_of (drop 16 bytes) }

-- what follows the magic number: the version, the page size, the checksum of the first 24 bytes
unfoldable pub header_with : Option WordOrder → List ℕ → Result WalHeader WalFault
header_with None bytes = Err Magic
header_with (Some order) bytes =
    if not ((pair_of bytes).1 == 3007000) then Err Version
    else if not ((pair_of (drop 8 bytes)).0 == 4096) then Err PageSize
    else if same_pair (checksum order (0, 0) (take 24 bytes)) (pair_of (drop 24 bytes)) then Ok (stated order bytes)
    else Err HeaderSum

-- The header at the front of the bytes, or the first fault: too few bytes, then another magic number, another version,
-- another page size, another checksum.
unfoldable pub header_of : List ℕ → Result WalHeader WalFault
header_of bytes =
    if nat_lt (length bytes) 32 then Err Short
    else header_with (order_of (pair_of bytes).0) bytes

-- what a fault says of the bytes: out of memory comes only after a header, and any other is the first fault
abbrev pub IsRefusal : WalFault → List ℕ → Type 0
IsRefusal NoMemory bytes = IsOk (header_of bytes)
IsRefusal fault bytes = header_of bytes ≡ Err fault
