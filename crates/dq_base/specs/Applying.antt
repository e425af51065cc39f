-- What applying a list of pages does to an image, and why a list is refused.
use Rattle.std.specs.Prelude.{◌≡◌, ℕ, ◌+◌, ◌-◌, ◌%◌, Bool, ◌&&◌, ◌==◌, nat_le, if◌then◌else◌, List, [], ◌∷◌, ◌++◌, length, take, drop, Option, Some, None, slice_get}
use Rattle.std.specs.List.{list_all}
use Rattle.byteorder.specs.Endian.{little_number}
use Rattle.dq_base.specs.declared.images.Image.{Image}
use Rattle.dq_base.specs.declared.pages.NumberedPage.{NumberedPage}
use Rattle.dq_base.specs.declared.page_fault.PageFault.{PageFault}
use Rattle.dq_base.specs.declared.page_fault.PageFault.TheVariants.{NoSizes, Order, NotInLength, NoMemory}
use Rattle.dq_base.specs.declared.sizes.Lengths.{Lengths}
use Rattle.dq_base.specs.Images.{resized, page_start, is_main, is_side}

-- the lengths that the bytes of a sizes page state
unfoldable pub stated_main : List ℕ → ℕ
stated_main page = little_number 8 page

unfoldable pub stated_side : List ℕ → ℕ
stated_side page = little_number 8 (drop 8 page)

-- a file with the bytes of a page from a place on, as far as they lie inside it
unfoldable pub replaced : List ℕ → ℕ → List ℕ → List ℕ
replaced file start page = (take start file ++ take (length file - start) page) ++ drop (start + 4096) file

-- a file after the pages of a list in turn, of which mine tells those of this file
unfoldable pub put_pages : (ℕ → Bool) → List NumberedPage → List ℕ → List ℕ
put_pages mine [] file = file
put_pages mine (p ∷ ps) file = put_pages mine ps (if mine p.number then replaced file (page_start p.number) p.page else file)

-- the last page of a list
abbrev pub last_page : List NumberedPage → Option NumberedPage
last_page pages = slice_get pages (length pages - 1)

-- an image with both files resized to these lengths, and then the pages put into them
abbrev pub applied_at : ℕ → ℕ → List NumberedPage → Image → Image
applied_at main side pages image = record { main = put_pages is_main pages (resized main image.main); side = put_pages is_side pages (resized side image.side) }

-- the same, as a sizes page states the lengths
abbrev pub applied_with : Option NumberedPage → List NumberedPage → Image → Image
applied_with None pages image = image
applied_with (Some sizes) pages image = applied_at (stated_main sizes.page) (stated_side sizes.page) pages image

-- Applying pages: both files are truncated to the lengths that the last page states or grown to them with zeros, and then
-- each page's bytes replace those of its file, as far as they lie inside it.
unfoldable pub applied : Image → List NumberedPage → Image
applied image pages = applied_with (last_page pages) pages image

-- the longest file that a sizes page may state, in bytes
abbrev pub longest_file : ℕ
longest_file = 67108864

-- a sizes page: number 1, zeros past the two lengths, and no length above the longest
unfoldable pub is_sizes : NumberedPage → Bool
is_sizes p = (p.number == 1) && list_all (λ b. b == 0) (drop 16 p.page) && nat_le (stated_main p.page) longest_file && nat_le (stated_side p.page) longest_file

-- the first number that isn't above the one before it
unfoldable pub order_fault : ℕ → List NumberedPage → Option PageFault
order_fault before [] = None
order_fault before (p ∷ ps) = if nat_le p.number before then Some (Order p.number) else order_fault p.number ps

-- the first page that lies wholly past its file's length
unfoldable pub length_fault : ℕ → ℕ → List NumberedPage → Option PageFault
length_fault main side [] = None
length_fault main side (p ∷ ps) = if nat_le (if p.number % 2 == 0 then main else side) (page_start p.number) then Some (NotInLength p.number) else length_fault main side ps

-- the first of two faults
abbrev pub earlier : Option PageFault → Option PageFault → Option PageFault
earlier None later = later
earlier (Some fault) later = Some fault

-- the first fault of the pages before a last one
unfoldable pub fault_before : Option NumberedPage → List NumberedPage → Option PageFault
fault_before None front = Some NoSizes
fault_before (Some last) front =
    if is_sizes last then earlier (order_fault 1 front) (length_fault (stated_main last.page) (stated_side last.page) front)
    else Some NoSizes

-- The first fault of a list of pages: that its last is no sizes page, then the first number before it that isn't above
-- the one before or is 0 or 1, then the first page that lies wholly past its file's stated length.
abbrev pub page_fault : List NumberedPage → Option PageFault
page_fault pages = fault_before (last_page pages) (take (length pages - 1) pages)

-- what a refusal says of the list: out of memory comes only if there is no fault, and any other is the first fault
abbrev pub IsRefusal : PageFault → Option PageFault → Type 0
IsRefusal NoMemory found = found ≡ None
IsRefusal fault found = found ≡ Some fault

-- the pages state these lengths: applying them resizes to them
abbrev pub StateLengths : List NumberedPage → ℕ → ℕ → Type 0
StateLengths pages main side = (image : Image) → applied image pages ≡ applied_at main side pages image

-- the lengths that a sizes page states
abbrev pub lengths_stated : Option NumberedPage → Lengths
lengths_stated None = record { main = 0; side = 0 }
lengths_stated (Some sizes) = record { main = stated_main sizes.page; side = stated_side sizes.page }

-- the lengths that a set states
abbrev pub lengths_in : List NumberedPage → Lengths
lengths_in set = lengths_stated (last_page set)
