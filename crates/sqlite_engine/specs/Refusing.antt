-- That an opening is refused, for another cause than out of memory.
use Rattle.std.specs.Prelude.{◌≡◌, Bool, true, false}
use Rattle.sqlite_disk.specs.declared.Files.{Files}
use Rattle.sqlite.specs.declared.error.Error.{Error}
use Rattle.sqlite.specs.declared.error.Error.TheVariants.{SqliteFailure}
use Rattle.sqlite.specs.declared.error.ErrorCode.{ErrorCode}
use Rattle.sqlite.specs.declared.error.ErrorCode.TheVariants as code
use Rattle.sqlite.specs.declared.file.Leftover.{Leftover}
use Rattle.sqlite.specs.Files.{image_of, FailsToOpenFiles}
use Rattle.dq_base.specs.declared.images.Image.{Image}
use Rattle.sqlite_files.specs.Recording.{Recorded}
use Rattle.sqlite_engine.specs.Sql.{files_of, over_memory}

-- whether an error of an opening means out of memory: over memory a call of a disk fails for it
-- alone
abbrev pub is_of_memory_code : ErrorCode → Bool
is_of_memory_code code.OutOfMemory = true
is_of_memory_code code.SystemIoFailure = true
is_of_memory_code _ = false

abbrev pub is_of_memory : Error → Bool
is_of_memory (SqliteFailure c) = is_of_memory_code c
is_of_memory _ = false

-- the crate refuses to open two fresh files with the bytes of the image, and not because memory ran
-- out
pub record IsRefusedOpening (image : Image) : Type 0 where
  pub files : Files Recorded
  pub left : Leftover Recorded over_memory
  pub error : Error
  pub over : image_of over_memory files ≡ files_of image
  pub fails : FailsToOpenFiles files left error
  pub other : is_of_memory error ≡ false
