-- The files of an image by their pages.
use Rattle.std.specs.Prelude.{ℕ, ◌+◌, ◌*◌, List}
use Rattle.dq_base.specs.declared.images.Image.{Image}
use Rattle.dq_base.specs.declared.sizes.Lengths.{Lengths}
use Rattle.file_digest.specs.declared.file.File.{File}
use Rattle.file_digest.specs.declared.file.File.TheVariants.{Main, Side}

-- the number of the page at a place of a file, counted from 0
abbrev pub page_number : File → ℕ → ℕ
page_number Main place = 2 * place + 2
page_number Side place = 2 * place + 3

-- the bytes of a file of an image
abbrev pub bytes_of : File → Image → List ℕ
bytes_of Main image = image.main
bytes_of Side image = image.side

-- its length among those of both
abbrev pub length_of : File → Lengths → ℕ
length_of Main lengths = lengths.main
length_of Side lengths = lengths.side
