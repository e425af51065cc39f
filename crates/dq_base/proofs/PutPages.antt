-- A file into which pages of another file were put: a byte that a page covers, and a byte that was right before.
use Rattle.std.proofs.Common.{◌≡◌, ℕ, ◌+◌, ◌-◌, ◌<◌, ◌≤◌, ◌⊎◌, Bool, true, false, cond, List, [], ◌∷◌, ◌++◌, length, get_or, refl, sym, ap, ◌∙◌, arith, inl, inr}
use Rattle.std.specs.List.{AllByRecursion}
use Rattle.std.proofs.lemmas.Bool.{cases_lt, cond-true}
use Rattle.dq_base.specs.declared.pages.NumberedPage.{NumberedPage}
use Rattle.dq_base.specs.Images.{page_start}
use Rattle.dq_base.specs.Applying.{replaced, put_pages}
use Rattle.dq_base.proofs.FileBytes.{length-replaced, get_or-replaced_inside, get_or-replaced_before, get_or-replaced_after}

-- P holds of some element
abbrev pub SomeOf : {X : Type 0} → (X → Type 0) → List X → Type 0
SomeOf P [] = ⊥
SomeOf P (x ∷ xs) = P x ⊎ SomeOf P xs

pub SomeOf-append_left : {X : Type 0} (P : X → Type 0) (xs ys : List X) → SomeOf P xs → SomeOf P (xs ++ ys)
SomeOf-append_left P [] ys h = absurd h
SomeOf-append_left P (x ∷ xs) ys (inl h) = inl h
SomeOf-append_left P (x ∷ xs) ys (inr h) = inr (SomeOf-append_left P xs ys h)

pub SomeOf-append_right : {X : Type 0} (P : X → Type 0) (xs ys : List X) → SomeOf P ys → SomeOf P (xs ++ ys)
SomeOf-append_right P [] ys h = h
SomeOf-append_right P (x ∷ xs) ys h = inr (SomeOf-append_right P xs ys h)

pub All-append : {X : Type 0} (P : X → Type 0) (xs ys : List X) → AllByRecursion P xs → AllByRecursion P ys → AllByRecursion P (xs ++ ys)
All-append P [] ys h k = k
All-append P (x ∷ xs) ys h k = (h.0, All-append P xs ys h.1 k)

-- the page is one of a file: 4,096 bytes that are those of the file where it is one of this file's pages
pub record Shows (mine : ℕ → Bool) (file : List ℕ) (p : NumberedPage) : Type 0 where
  pub size : length p.page ≡ 4096
  pub bytes : mine p.number ≡ true → (j : ℕ) → j < 4096 → get_or p.page j 0 ≡ get_or file (page_start p.number + j) 0

-- the page is one of this file's, and the byte lies in it
pub record Covers (mine : ℕ → Bool) (i : ℕ) (p : NumberedPage) : Type 0 where
  pub is_mine : mine p.number ≡ true
  pub from : page_start p.number ≤ i
  pub to : i < page_start p.number + 4096

-- a file with one page put into it, if it is one of this file's
abbrev put_page : Bool → NumberedPage → List ℕ → List ℕ
put_page mine p file = cond mine (replaced file (page_start p.number) p.page) file

length-put_page : (mine : Bool) (p : NumberedPage) (file : List ℕ) → length p.page ≡ 4096 → length (put_page mine p file) ≡ length file
length-put_page true p file size = length-replaced file (page_start p.number) p.page size
length-put_page false p file size = refl

covered : (file target : List ℕ) (start i : ℕ) (page : List ℕ) → length page ≡ 4096 → ((j : ℕ) → j < 4096 → get_or page j 0 ≡ get_or target (start + j) 0)
    → start ≤ i → i < start + 4096 → i < length file → get_or (replaced file start page) i 0 ≡ get_or target i 0
covered file target start i page size bytes from to inside =
    let j : ℕ = i - start in
    let place : start + j ≡ i = omega arith in
    ap (λ (k : ℕ). get_or (replaced file start page) k 0) (sym place)
    ∙ get_or-replaced_inside file start page j size (omega arith) (omega arith)
    ∙ bytes j (omega arith)
    ∙ ap (λ (k : ℕ). get_or target k 0) place

put_page_covered : (mine : ℕ → Bool) (p : NumberedPage) (file target : List ℕ) (i : ℕ) → Shows mine target p → Covers mine i p → i < length file → get_or (put_page (mine p.number) p file) i 0 ≡ get_or target i 0
put_page_covered mine p file target i shows covers inside =
    ap (λ (f : List ℕ). get_or f i 0) (cond-true (mine p.number) (replaced file (page_start p.number) p.page) file covers.is_mine)
    ∙ covered file target (page_start p.number) i p.page shows.size (shows.bytes covers.is_mine) covers.from covers.to inside

put_page_kept : (mine : Bool) (p : NumberedPage) (file target : List ℕ) (i : ℕ) → length p.page ≡ 4096 → (mine ≡ true → (j : ℕ) → j < 4096 → get_or p.page j 0 ≡ get_or target (page_start p.number + j) 0)
    → get_or file i 0 ≡ get_or target i 0 → i < length file → get_or (put_page mine p file) i 0 ≡ get_or target i 0
put_page_kept false p file target i size bytes right inside = right
put_page_kept true p file target i size bytes right inside =
    elim (cases_lt i (page_start p.number)) [
      | inl before ↦ get_or-replaced_before file (page_start p.number) p.page i before inside ∙ right
      | inr from ↦ elim (cases_lt i (page_start p.number + 4096)) [
        | inl to ↦ covered file target (page_start p.number) i p.page size (bytes refl) from to inside
        | inr after ↦ get_or-replaced_after file (page_start p.number) p.page i size after inside ∙ right
      ]
    ]

pub length-put_pages : (mine : ℕ → Bool) (ps : List NumberedPage) (file : List ℕ) → AllByRecursion (λ p. length p.page ≡ 4096) ps → length (put_pages mine ps file) ≡ length file
unfolding put_pages
length-put_pages mine [] file sizes = refl
length-put_pages mine (p ∷ ps) file sizes =
    length-put_pages mine ps (put_page (mine p.number) p file) sizes.1 ∙ length-put_page (mine p.number) p file sizes.0

-- after pages of a target are put into a file, a byte is the target's where some page covers it or it was so before
pub get_or-put_pages : (mine : ℕ → Bool) (ps : List NumberedPage) (file target : List ℕ) (i : ℕ) → AllByRecursion (Shows mine target) ps → i < length file
    → SomeOf (Covers mine i) ps ⊎ (get_or file i 0 ≡ get_or target i 0) → get_or (put_pages mine ps file) i 0 ≡ get_or target i 0
unfolding put_pages
get_or-put_pages mine [] file target i shows inside (inl h) = absurd h
get_or-put_pages mine [] file target i shows inside (inr right) = right
get_or-put_pages mine (p ∷ ps) file target i shows inside (inl (inl covers)) =
    let len = length-put_page (mine p.number) p file shows.0.size in
    get_or-put_pages mine ps (put_page (mine p.number) p file) target i shows.1 (omega arith) (inr (put_page_covered mine p file target i shows.0 covers inside))
get_or-put_pages mine (p ∷ ps) file target i shows inside (inl (inr later)) =
    let len = length-put_page (mine p.number) p file shows.0.size in
    get_or-put_pages mine ps (put_page (mine p.number) p file) target i shows.1 (omega arith) (inl later)
get_or-put_pages mine (p ∷ ps) file target i shows inside (inr right) =
    let len = length-put_page (mine p.number) p file shows.0.size in
    get_or-put_pages mine ps (put_page (mine p.number) p file) target i shows.1 (omega arith) (inr (put_page_kept (mine p.number) p file target i shows.0.size shows.0.bytes right inside))
