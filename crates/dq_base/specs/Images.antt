-- The pages of an image: their numbers, and their bytes.
use Rattle.std.specs.Prelude.{ℕ, ◌+◌, ◌-◌, ◌*◌, ◌/◌, ◌%◌, Bool, ◌&&◌, ◌==◌, nat_lt, if◌then◌else◌, List, ◌++◌, length, take, drop, replicate, Option, Some, None}
use Rattle.byteorder.specs.Endian.{little_bytes}
use Rattle.dq_base.specs.declared.images.Image.{Image}
use Rattle.dq_base.specs.declared.sizes.Lengths.{Lengths}

-- this many zeros
unfoldable pub zeros : ℕ → List ℕ
zeros n = replicate n 0

-- a file cut at n bytes, or grown to them with zeros
unfoldable pub resized : ℕ → List ℕ → List ℕ
resized n file = take n file ++ zeros (n - length file)

-- the 4,096 bytes of a file from a place on, with zeros past the file's end
unfoldable pub page_from : List ℕ → ℕ → List ℕ
page_from file start = resized 4096 (drop start file)

-- the lengths of the main and the side file, little-endian in 8 bytes each, and zeros
unfoldable pub sizes_page : ℕ → ℕ → List ℕ
sizes_page main side = (little_bytes 8 main ++ little_bytes 8 side) ++ zeros 4080

-- the lengths of an image's files
abbrev pub lengths_of : Image → Lengths
lengths_of image = record { main = length image.main; side = length image.side }

-- if a page begins in its file: page k of a file, from k = 1, has the number 2k or 2k + 1
abbrev pub page_start : ℕ → ℕ
page_start number = 4096 * (number / 2 - 1)

-- whether a number names a page of a file: above 1, the even numbers are the main file's, the odd ones the side file's
abbrev pub is_page_of : ℕ → ℕ → Bool
is_page_of parity number = nat_lt 1 number && (number % 2 == parity)

abbrev pub is_main : ℕ → Bool
is_main number = is_page_of 0 number

abbrev pub is_side : ℕ → Bool
is_side number = is_page_of 1 number

-- the file that the page of a number lies in
abbrev pub file_of : Image → ℕ → List ℕ
file_of image number = if number % 2 == 0 then image.main else image.side

-- whether one of the files reaches into the page of a number
abbrev pub reaches : Image → ℕ → Bool
reaches image number = nat_lt 1 number && nat_lt (page_start number) (length (file_of image number))

-- the page of a number, if the image has one: page 1 is the sizes page
unfoldable pub page_at : Image → ℕ → Option (List ℕ)
page_at image number =
    if number == 1 then Some (sizes_page (length image.main) (length image.side))
    else if reaches image number then Some (page_from (file_of image number) (page_start number))
    else None

-- how many pages this many bytes fill, the last of them maybe in part
abbrev pub pages_of : ℕ → ℕ
pages_of bytes = (bytes + 4095) / 4096

-- how many pages the bytes of a file fill, the last of them maybe in part
abbrev pub pages_in : List ℕ → ℕ
pages_in file = pages_of (length file)

-- how many pages an image has, the sizes page included
abbrev pub page_count : Image → ℕ
page_count image = 1 + pages_in image.main + pages_in image.side
