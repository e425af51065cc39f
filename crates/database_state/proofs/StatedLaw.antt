-- The files that commands make are no longer than a command states.
use Rattle.std.proofs.Common.{◌≡◌, ℕ, ◌+◌, ◌-◌, ◌≤◌, max, Bool, true, false, cond, eqb, List, [], ◌∷◌, ◌++◌, length, take, map, fold, Option, Some, None, refl, sym, ap, ◌∙◌, arith, append_assoc, bytes_eq, Ordering, Less, Equal, Greater}
use Rattle.std.specs.Prelude.{is_none}
use Rattle.std.specs.List.{AllByRecursion}
use Rattle.std.specs.Ordering.{match_ordering}
use Rattle.std.proofs.lemmas.Slice.Eq.{bytes_eq-Decides}
use Rattle.dq_base.specs.declared.images.Image.{Image}
use Rattle.dq_base.specs.declared.pages.NumberedPage.{NumberedPage}
use Rattle.dq_base.specs.declared.pages.PageSet.{PageSet}
use Rattle.dq_base.specs.declared.page_fault.PageFault.TheVariants.{NoSizes}
use Rattle.dq_base.specs.declared.page_fault.PageFault.{PageFault}
use Rattle.dq_base.specs.Images.{resized, is_main, is_side}
use Rattle.dq_base.specs.Applying.{is_sizes, stated_main, stated_side, last_page, applied, applied_with, order_fault, length_fault, earlier, page_fault, fault_before}
use Rattle.dq_base.proofs.FileBytes.{length-resized}
use Rattle.dq_base.proofs.PutPages.{length-put_pages}
use Rattle.dq_base.proofs.PageFaults.{last_page-push}
use Rattle.log_commands.specs.declared.command.Command.{Command}
use Rattle.log_commands.specs.declared.command.Command.TheVariants.{OpenDb, Frames, Undo, Checkpoint}
use Rattle.log_commands.specs.Numbers.{numbers_fit}
use Rattle.log_commands.specs.Spelling.{HaveSizes}
use Rattle.log_commands.proofs.InOtherWords.{has_last, in_range_of}
use Rattle.database_state.specs.ByName.{at_name}
use Rattle.database_state.specs.Files.{Content, new_content, pending_of, pending_without, image_after, frames, undone, changed, act, files}
use Rattle.database_state.specs.Stated.{length_stated, stated_for, greatest_stated, length_of_files, IsSpelled}
use Rattle.database_state.proofs.Named.{compare, compare_tie}

-- ---- pages that are applied

-- the last of pages after others
last_behind : (front pages : List NumberedPage) → 1 ≤ length pages → last_page (front ++ pages) ≡ last_page pages
last_behind front pages some =
    let h = has_last pages some in
    ap (λ (ps : List NumberedPage). last_page (front ++ ps)) h.parts
    ∙ ap last_page (sym (append_assoc front h.front (h.last ∷ [])))
    ∙ last_page-push (front ++ h.front) h.last
    ∙ sym (ap last_page h.parts ∙ last_page-push h.front h.last)

not_refused : (sizes : Bool) (rest : Option PageFault) → cond sizes rest (Some NoSizes) ≡ None → sizes ≡ true
not_refused true rest e = refl
not_refused false rest e = absurd cc

-- pages without a fault end in a sizes page
pub fault_free : (last : Option NumberedPage) (front : List NumberedPage) → fault_before last front ≡ None → (p : NumberedPage) × (last ≡ Some p) × (is_sizes p ≡ true)
unfolding fault_before
fault_free None front e = absurd cc
fault_free (Some p) front e = (p, refl, not_refused (is_sizes p) (earlier (order_fault 1 front) (length_fault (stated_main p.page) (stated_side p.page) front)) e)

applied_length : (last : Option NumberedPage) (pages : List NumberedPage) (image : Image) (p : NumberedPage) → last ≡ Some p → is_sizes p ≡ true → HaveSizes pages → length_of_files (applied_with last pages image) ≡ length_stated last
applied_length None pages image p e sizes sized = absurd cc
applied_length (Some q) pages image p e sizes sized =
    let same : q ≡ p = some_is q p e in
    let main = length-put_pages is_main pages (resized (stated_main q.page) image.main) sized ∙ length-resized (stated_main q.page) image.main in
    let side = length-put_pages is_side pages (resized (stated_side q.page) image.side) sized ∙ length-resized (stated_side q.page) image.side in
    (λ i. main i + side i) ∙ sym (ap (λ (b : Bool). cond b (stated_main q.page + stated_side q.page) 0) (ap is_sizes same ∙ sizes))
  where
    some_is : (a b : NumberedPage) → Some a ≡ Some b → a ≡ b
    some_is a b e = cc

after_length : (image : Image) (pages : List NumberedPage) → HaveSizes pages → length_of_files (image_after image pages) ≤ max (length_of_files image) (length_stated (last_page pages))
unfolding applied
after_length image pages sized = by (page_fault pages) refl
  where
    by : (o : Option PageFault) → page_fault pages ≡ o → length_of_files (cond (is_none o) (applied image pages) image) ≤ max (length_of_files image) (length_stated (last_page pages))
    by None e =
        let f = fault_free (last_page pages) (take (length pages - 1) pages) e in
        let len : length_of_files (applied image pages) ≡ length_stated (last_page pages) = applied_length (last_page pages) pages image f.0 f.1 f.2 sized in
        omega (arith, len)
    by (Some fault) e = omega arith

-- ---- one database

abbrev PendingSized : Option PageSet → Type 0
PendingSized None = Unit {0}
PendingSized (Some set) = HaveSizes set.pages

-- its files are at most as long as a bound for its name, and the pages that are pending have their size
record Sound (bound : List ℕ → ℕ) (c : Content) : Type 0 where
  short : length_of_files c.image ≤ bound c.name
  sized : PendingSized c.pending

abbrev AllSound : (List ℕ → ℕ) → List Content → Type 0
AllSound bound cs = AllByRecursion (Sound bound) cs

sized_both : (first second : List NumberedPage) → HaveSizes first → HaveSizes second → HaveSizes (first ++ second)
sized_both [] second a b = b
sized_both (p ∷ first) second a b = (a.0, sized_both first second a.1 b)

pending_sized : (tx : ℕ) (pending : Option PageSet) → PendingSized pending → HaveSizes (pending_of tx pending)
pending_sized tx None s = tt
pending_sized tx (Some set) s = by (eqb set.tx tx)
  where
    by : (b : Bool) → HaveSizes (cond b set.pages [])
    by true = s
    by false = tt

without_sized : (tx : ℕ) (pending : Option PageSet) → PendingSized pending → PendingSized (pending_without tx pending)
without_sized tx None s = tt
without_sized tx (Some set) s = by (eqb set.tx tx)
  where
    by : (b : Bool) → PendingSized (cond b None (Some set))
    by true = tt
    by false = s

wider : (g h : List ℕ → ℕ) → ((n : List ℕ) → g n ≤ h n) → (c : Content) → Sound g c → Sound h c
wider g h le c s = record { short = omega (arith, s.short, le c.name); sized = s.sized }

all_wider : (g h : List ℕ → ℕ) → ((n : List ℕ) → g n ≤ h n) → (cs : List Content) → AllSound g cs → AllSound h cs
all_wider g h le [] s = tt
all_wider g h le (c ∷ cs) s = (wider g h le c s.0, all_wider g h le cs s.1)

-- ---- one command

-- the bound after a command
abbrev raised : (List ℕ → ℕ) → Command → List ℕ → ℕ
raised bound command name = max (bound name) (stated_for name command)

at_sound : (g h : List ℕ → ℕ) (name : List ℕ) (f : Content → Content) → ((n : List ℕ) → g n ≤ h n) → Sound h (f (new_content name)) → ((c : Content) → c.name ≡ name → Sound g c → Sound h (f c)) → (cs : List Content) → AllSound g cs → AllSound h (changed name f cs)
unfolding at_name
at_sound g h name f le first each [] s = (first, tt)
at_sound g h name f le first each (c ∷ cs) s = by (at_sound g h name f le first each cs s.1) (compare name c.name) refl
  where
    by : AllSound h (at_name (λ content. content.name) (new_content name) name f cs) → (o : Ordering) → compare name c.name ≡ o → AllSound h (match_ordering o (f (new_content name) ∷ c ∷ cs) (f c ∷ cs) (c ∷ at_name (λ content. content.name) (new_content name) name f cs))
    by later Less e = (first, all_wider g h le (c ∷ cs) s)
    by later Equal e = (each c (sym (compare_tie name c.name e)) s.0, all_wider g h le cs s.1)
    by later Greater e = (wider g h le c s.0, later)

new_sound : (g : List ℕ → ℕ) (name : List ℕ) → Sound g (new_content name)
new_sound g name = record { short = omega arith; sized = tt }

same_bytes : (x : List ℕ) → bytes_eq x x ≡ true
same_bytes x = (bytes_eq-Decides x x).1 refl

frames_sound : (g : List ℕ → ℕ) (name : List ℕ) (tx truncate : ℕ) (commit : Bool) (pages : List NumberedPage) → 1 ≤ length pages → HaveSizes pages → (c : Content) → c.name ≡ name → Sound g c
    → Sound (raised g (Frames name tx truncate commit pages)) (frames tx commit pages c)
unfolding frames
frames_sound g name tx truncate true pages some sized c is s =
    let all : List NumberedPage = pending_of tx c.pending ++ pages in
    let all_sized : HaveSizes all = sized_both (pending_of tx c.pending) pages (pending_sized tx c.pending s.sized) sized in
    let len : length_of_files (image_after c.image all) ≤ max (length_of_files c.image) (length_stated (last_page all)) = after_length c.image all all_sized in
    let last : length_stated (last_page all) ≡ length_stated (last_page pages) = ap length_stated (last_behind (pending_of tx c.pending) pages some) in
    let own : stated_for c.name (Frames name tx truncate true pages) ≡ length_stated (last_page pages) = ap (λ (b : Bool). cond b (length_stated (last_page pages)) 0) (ap (bytes_eq name) is ∙ same_bytes name) in
    let before : length_of_files c.image ≤ g c.name = s.short in
    record { short = omega (arith, len, last, own, before); sized = tt }
frames_sound g name tx truncate false pages some sized c is s =
    record { short = omega (arith, s.short); sized = sized_both (pending_of tx c.pending) pages (pending_sized tx c.pending s.sized) sized }

each_sound : (g : List ℕ → ℕ) (tx : ℕ) (cs : List Content) → AllSound g cs → AllSound g (map (undone tx) cs)
each_sound g tx [] s = tt
each_sound g tx (c ∷ cs) s = (record { short = s.0.short; sized = without_sized tx c.pending s.0.sized }, each_sound g tx cs s.1)

some_of : (name : List ℕ) (tx truncate : ℕ) (commit : Bool) (pages : List NumberedPage) → numbers_fit (Frames name tx truncate commit pages) ≡ true → 1 ≤ length pages
some_of name tx truncate commit pages fits = (in_range_of truncate commit pages fits).some

act_sound : (g : List ℕ → ℕ) (cs : List Content) (command : Command) → IsSpelled command → AllSound g cs → AllSound (raised g command) (act cs command)
unfolding act
act_sound g cs (OpenDb name) spelled s =
    at_sound g (raised g (OpenDb name)) name (λ c. c) (λ n. omega arith) (new_sound (raised g (OpenDb name)) name) (λ c is h. wider g (raised g (OpenDb name)) (λ n. omega arith) c h) cs s
act_sound g cs (Frames name tx truncate commit pages) spelled s =
    let command : Command = Frames name tx truncate commit pages in
    let some = some_of name tx truncate commit pages spelled.1.fits in
    let sized : HaveSizes pages = spelled.1.in_range.4 in
    at_sound g (raised g command) name (frames tx commit pages) (λ n. omega arith)
    (frames_sound g name tx truncate commit pages some sized (new_content name) refl (new_sound g name))
    (λ c is h. frames_sound g name tx truncate commit pages some sized c is h) cs s
act_sound g cs (Undo tx) spelled s = all_wider g (raised g (Undo tx)) (λ n. omega arith) (map (undone tx) cs) (each_sound g tx cs s)
act_sound g cs (Checkpoint name) spelled s = all_wider g (raised g (Checkpoint name)) (λ n. omega arith) cs s

-- ---- a list of commands

fold_sound : (g : List ℕ → ℕ) (cs : List Content) (commands : List Command) → AllByRecursion IsSpelled commands → AllSound g cs → AllSound (λ n. max (g n) (greatest_stated commands n)) (fold act cs commands)
fold_sound g cs [] spelled s = all_wider g (λ n. max (g n) 0) (λ n. omega arith) cs s
fold_sound g cs (command ∷ commands) spelled s =
    all_wider (λ n. max (raised g command n) (greatest_stated commands n)) (λ n. max (g n) (greatest_stated (command ∷ commands) n)) (λ n. omega arith) (fold act (act cs command) commands)
    (fold_sound (raised g command) (act cs command) commands spelled.1 (act_sound g cs command spelled.0 s))

short_of : (commands : List Command) (cs : List Content) → AllSound (λ n. max 0 (greatest_stated commands n)) cs → AllByRecursion (λ c. length_of_files c.image ≤ greatest_stated commands c.name) cs
short_of commands [] s = tt
short_of commands (c ∷ cs) s =
    let short : length_of_files c.image ≤ max 0 (greatest_stated commands c.name) = s.0.short in
    (omega (arith, short), short_of commands cs s.1)

pub files_short : (commands : List Command) → AllByRecursion IsSpelled commands → AllByRecursion (λ c. length_of_files c.image ≤ greatest_stated commands c.name) (files commands)
files_short commands spelled = short_of commands (files commands) (fold_sound (λ n. 0) [] commands spelled tt)
