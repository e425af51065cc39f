-- The pages of a file, and what the first of them hold of it.
use Rattle.std.proofs.Common.{◌≡◌, ℕ, ◌+◌, ◌-◌, ◌*◌, ◌/◌, ◌%◌, ◌<◌, ◌≤◌, min, Bool, cond, List, ◌++◌, length, take, drop, Some, sym, ap, ◌∙◌, arith}
use Rattle.std.proofs.lemmas.Bool.{eq-eqb, ne_eqb}
use Rattle.std.specs.Int.{div_ceil}
use Rattle.std.proofs.Math.Seq.{take-add}
use Rattle.std.proofs.lemmas.List.{take-append-le, take-take, take_all, take_min, length-take, length-drop}
use Rattle.dq_base.specs.declared.images.Image.{Image}
use Rattle.dq_base.specs.Images.{resized, zeros, page_start, page_from, page_at, file_of}
use Rattle.dq_base.proofs.ChangedPages.{page_at_inside}
use Rattle.file_digest.specs.declared.file.File.{File}
use Rattle.file_digest.specs.declared.file.File.TheVariants.{Main, Side}
use Rattle.file_digest.specs.Pages.{page_number, bytes_of}

start_is : (file : File) (place : ℕ) → page_start (page_number file place) ≡ 4096 * place
start_is Main place = let half : (2 * place + 2) / 2 ≡ place + 1 = omega arith in omega (arith, half)
start_is Side place = let half : (2 * place + 3) / 2 ≡ place + 1 = omega arith in omega (arith, half)

above_one : (file : File) (place : ℕ) → 1 < page_number file place
above_one Main place = omega arith
above_one Side place = omega arith

file_is : (file : File) (place : ℕ) (image : Image) → file_of image (page_number file place) ≡ bytes_of file image
file_is Main place image = ap (λ (b : Bool). cond b image.main image.side) (eq-eqb ((2 * place + 2) % 2) 0 (omega arith))
file_is Side place image = ap (λ (b : Bool). cond b image.main image.side) (ne_eqb ((2 * place + 3) % 2) 0 (omega arith))

-- the page at a place that the file reaches
pub page_is : (file : File) (place : ℕ) (image : Image) → 4096 * place < length (bytes_of file image) → page_at image (page_number file place) ≡ Some (page_from (bytes_of file image) (4096 * place))
page_is file place image lt =
    let number = page_number file place in
    let start : page_start number ≡ 4096 * place = start_is file place in
    let whole : length (file_of image number) ≡ length (bytes_of file image) = ap length (file_is file place image) in
    page_at_inside image number (above_one file place) (omega (arith, start, whole, lt))
    ∙ (λ i. Some (page_from (file_is file place image i) (start i)))

-- the first bytes of a page are those of its file
pub first_bytes : (bytes : List ℕ) (start count : ℕ) → count ≤ 4096 → start + count ≤ length bytes → take count (page_from bytes start) ≡ take count (drop start bytes)
unfolding page_from resized
first_bytes bytes start count few within =
    let rest : List ℕ = drop start bytes in
    let left : length rest ≡ length bytes - start = length-drop start bytes in
    let front : length (take 4096 rest) ≡ min 4096 (length rest) = length-take 4096 rest in
    take-append-le count (take 4096 rest) (zeros (4096 - length rest)) (omega (arith, left, front, few, within))
    ∙ take-take count 4096 rest few

-- so much of a file was added, and then the first bytes of its next page
pub page_more : (bytes : List ℕ) (place count : ℕ) → 4096 * place < length bytes → count ≡ min 4096 (length bytes - place * 4096) → take (4096 * place) bytes ++ take count (drop (4096 * place) bytes) ≡ take (4096 * (place + 1)) bytes
page_more bytes place count lt e =
    let start : ℕ = 4096 * place in
    let rest : List ℕ = drop start bytes in
    let left : length rest ≡ length bytes - start = length-drop start bytes in
    let cut : count ≡ min 4096 (length rest) = omega (arith, e, left) in
    let next : 4096 * (place + 1) ≡ start + 4096 = omega arith in
    ap (λ (k : ℕ). take start bytes ++ take k rest) cut
    ∙ ap (λ (xs : List ℕ). take start bytes ++ xs) (take_min 4096 rest)
    ∙ sym (take-add start 4096 bytes)
    ∙ ap (λ (k : ℕ). take k bytes) (sym next)

-- all pages were added
pub pages_all : (bytes : List ℕ) (place : ℕ) → length bytes ≤ 4096 * place → take (4096 * place) bytes ≡ bytes
pages_all bytes place past = take_all (4096 * place) bytes past

pub page_in : (len place : ℕ) → place < div_ceil len 4096 → 4096 * place < len
page_in len place lt = omega (arith, lt)

pub pages_past : (len place : ℕ) → div_ceil len 4096 ≤ place → len ≤ 4096 * place
pages_past len place le = omega (arith, le)
