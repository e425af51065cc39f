-- Writing a log frame by frame, after bytes that are already.
use Rattle.std.specs.Prelude.{◌≡◌, ℕ, List, ◌++◌}
use Rattle.wal_frames.specs.declared.frame.Frame.{Frame}
use Rattle.wal_frames.specs.declared.header.WalHeader.{WalHeader}
use Rattle.wal_frames.specs.Text.{wal, written_header, header_sums, sums_after}

-- a writer between two frames: the header, and the checksum of the last frame
pub record Place : Type 0 where
  pub header : WalHeader
  pub sums : ℕ × ℕ

-- the writer after these frames
abbrev pub place_after : ℕ → List Frame → Place
place_after sequence fs =
    let h = written_header sequence in
    record { header = h; sums = sums_after h (header_sums h) fs }

-- the bytes are those of the start and then the log of these frames, and the writer follows it
pub record Wrote (start : List ℕ) (sequence : ℕ) (fs : List Frame) (bytes : List ℕ) (writer : Place) : Type 0 where
  pub text : bytes ≡ start ++ wal sequence fs
  pub place : writer ≡ place_after sequence fs
