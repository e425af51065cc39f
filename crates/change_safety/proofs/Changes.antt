-- The databases of a log are its changes, one after another.
use Rattle.std.proofs.Common.{◌≡◌, ◌≢◌, ℕ, zero, suc, ◌≤◌, Bool, true, false, cond, List, [], ◌∷◌, ◌++◌, length, map, take, drop, refl, sym, ap, ◌∙◌, subst, ⊎_elim, arith, length-append, append_assoc, Ordering, Less, Equal, Greater}
use Rattle.std.specs.Prelude.{not, ◌||◌, bytes_eq, Option, Some, None}
use Rattle.std.specs.Option.{option_or}
use Rattle.std.specs.Ordering.{nat_cmp, match_ordering, is_eq}
use Rattle.std.specs.Cmp.Lexicographic.{slice_cmp}
use Rattle.std.proofs.lemmas.Bool.{cond-true, cond-false}
use Rattle.std.proofs.lemmas.List.{take-append-drop, take_at, take-take}
use Rattle.std.proofs.lemmas.Map.Text.{is_eq-slice_cmp}
use Rattle.dq_base.specs.declared.images.Image.{Image}
use Rattle.dq_base.specs.declared.pages.NumberedPage.{NumberedPage}
use Rattle.log_commands.specs.declared.command.Command.TheVariants.{OpenDb, Frames, Undo, Checkpoint}
use Rattle.page_store.specs.Store.{newest_image}
use Rattle.database_state.specs.ByName.{at_name}
use Rattle.database_state.specs.Databases.{contents_of, named}
use Rattle.database_state.specs.Machines.{names_of}
use Rattle.session_spec.specs.Entries.{Content, Does, Configures, Other, Entry}
use Rattle.session_spec.specs.Machine.{Base, Machine, is_named, nothing, base_of, machine_of, with_name, changed_at, framed, checked, act, done, files_from, files}
use Rattle.session_spec.proofs.Names.{same_name, name_is, names_apart, other_name, one_or_other}
use Rattle.headline.specs.Headline.{Change, image_in, shown_image}
use Rattle.change_safety.specs.Changes.{NewImage, new_image, image_of, when, change_by, changes_by, changes_from, changes_of, changes_at, ChangesGrow, FilesAreChanges, ShownAreFiles}

-- ---- the image after changes

abbrev image_after : List NewImage → List ℕ → Option Image
image_after [] name = None
image_after (c ∷ cs) name = option_or (image_after cs name) (cond (bytes_eq c.name name) (Some c.after) None)

in_after : (order : List Change) (name : List ℕ) → image_in order name ≡ image_after (map new_image order) name
in_after [] name = refl
in_after (c ∷ cs) name = ap (λ (o : Option Image). option_or o (cond (bytes_eq c.name name) (Some c.after) None)) (in_after cs name)

or_none : (o : Option Image) → option_or o None ≡ o
or_none None = refl
or_none (Some x) = refl

or_assoc : (o p q : Option Image) → option_or (option_or o p) q ≡ option_or o (option_or p q)
or_assoc None p q = refl
or_assoc (Some x) p q = refl

after_append : (xs ys : List NewImage) (name : List ℕ) → image_after (xs ++ ys) name ≡ option_or (image_after ys name) (image_after xs name)
after_append [] ys name = sym (or_none (image_after ys name))
after_append (x ∷ xs) ys name =
    let one = cond (bytes_eq x.name name) (Some x.after) None in
    ap (λ (o : Option Image). option_or o one) (after_append xs ys name) ∙ or_assoc (image_after ys name) (image_after xs name) one

-- ---- names

or_twice : (b c : Bool) → (b || (b || c)) ≡ (b || c)
or_twice true c = refl
or_twice false c = refl

or_swap : (b c d : Bool) → (b || (c || d)) ≡ (c || (b || d))
or_swap true true d = refl
or_swap true false d = refl
or_swap false true d = refl
or_swap false false d = refl

named_with : (names : List (List ℕ)) (k n : List ℕ) → is_named (with_name k names) n ≡ (bytes_eq n k || is_named names n)
unfolding at_name
named_with [] k n = refl
named_with (x ∷ names) k n =
    let go : (o : Ordering) → slice_cmp nat_cmp k x ≡ o → is_named (match_ordering o (k ∷ x ∷ names) (x ∷ names) (x ∷ with_name k names)) n ≡
    (bytes_eq n k || is_named (x ∷ names) n) =
    λ o. elim o as (λ o. slice_cmp nat_cmp k x ≡ o → is_named (match_ordering o (k ∷ x ∷ names) (x ∷ names) (x ∷ with_name k names)) n ≡
    (bytes_eq n k || is_named (x ∷ names) n)) [
      | Less ↦ λ e. refl
      | Equal ↦ λ e.
          let same : k ≡ x = name_is k x (sym (is_eq-slice_cmp k x) ∙ ap is_eq e) in
          sym (ap (λ z. bytes_eq n z || (bytes_eq n x || is_named names n)) same ∙ or_twice (bytes_eq n x) (is_named names n))
      | Greater ↦ λ e. ap (λ b. bytes_eq n x || b) (named_with names k n) ∙ or_swap (bytes_eq n x) (bytes_eq n k) (is_named names n)
    ] in
    go (slice_cmp nat_cmp k x) refl

-- ---- one entry

-- what an entry leaves of the image of a database
abbrev Leaves : Machine → Machine → List NewImage → List ℕ → Type 0
Leaves m new changes name = image_of new name ≡ option_or (image_after changes name) (image_of m name)

open_leaves : (m : Machine) (k name : List ℕ) (same old : Bool) → bytes_eq k name ≡ same → is_named m.names k ≡ old → Leaves m (act m (OpenDb k))
    (change_by m (OpenDb k)) name
unfolding act
open_leaves m k name true old e f =
    let is : k ≡ name = name_is k name e in
    let there : is_named (with_name k m.names) name ≡ true = named_with m.names k name ∙ ap (λ n. bytes_eq n k || is_named m.names n) (sym is)
    ∙ ap (λ b. b || is_named m.names k) (same_name k) in
    let left : image_of (act m (OpenDb k)) name ≡ Some (m.base name).image = ap (λ b. cond b (Some (m.base name).image) None) there in
    left ∙ by old f is
  where
    by : (b : Bool) → is_named m.names k ≡ b → k ≡ name → Some (m.base name).image ≡ option_or
        (image_after (when (not (is_named m.names k)) (record { name = k; after = (m.base k).image })) name) (image_of m name)
    by true f is = sym (ap (λ b. option_or (image_after (when (not b) (record { name = k; after = (m.base k).image })) name) (image_of m name)) f
        ∙ ap (λ b. cond b (Some (m.base name).image) None) (ap (is_named m.names) (sym is) ∙ f))
    by false f is = sym (ap (λ b. option_or (image_after (when (not b) (record { name = k; after = (m.base k).image })) name) (image_of m name)) f
        ∙ ap (λ b. option_or (cond b (Some (m.base k).image) None) (image_of m name)) e ∙ ap (λ n. Some (m.base n).image) is)
open_leaves m k name false old e f =
    let apart : bytes_eq name k ≡ false = names_apart name k (λ q. other_name k name e (sym q)) in
    let there : is_named (with_name k m.names) name ≡ is_named m.names name = named_with m.names k name ∙ ap (λ b. b || is_named m.names name) apart in
    ap (λ b. cond b (Some (m.base name).image) None) there ∙ by (is_named m.names k)
  where
    by : (b : Bool) → image_of m name ≡ option_or (image_after (when (not b) (record { name = k; after = (m.base k).image })) name) (image_of m name)
    by true = refl
    by false = sym (ap (λ b. option_or (cond b (Some (m.base k).image) None) (image_of m name)) e)

-- pages that do not commit leave the image
pending_image : (tx : ℕ) (pages : List NumberedPage) (b : Base) → (framed tx false pages b).image ≡ b.image
unfolding framed
pending_image tx pages b = refl

frames_leave : (m : Machine) (k : List ℕ) (tx truncate : ℕ) (commit : Bool) (pages : List NumberedPage) (name : List ℕ) (same : Bool) → bytes_eq k name ≡ same →
    Leaves m (act m (Frames k tx truncate commit pages)) (change_by m (Frames k tx truncate commit pages)) name
unfolding act
frames_leave m k tx truncate commit pages name true e =
    let is : k ≡ name = name_is k name e in
    let new = framed tx commit pages (m.base k) in
    let here : changed_at k (framed tx commit pages) m.base k ≡ new = cond-true (bytes_eq k k) (framed tx commit pages (m.base k)) (m.base k) (same_name k) in
    let there : is_named (with_name k m.names) k ≡ true = named_with m.names k k ∙ ap (λ b. b || is_named m.names k) (same_name k) in
    subst (λ n. Leaves m (act m (Frames k tx truncate commit pages)) (change_by m (Frames k tx truncate commit pages)) n) is
    (ap (λ b. cond b (Some (changed_at k (framed tx commit pages) m.base k).image) None) there ∙ by commit (is_named m.names k) refl refl here)
  where
    by : (c b : Bool) → commit ≡ c → is_named m.names k ≡ b → changed_at k (framed tx commit pages) m.base k ≡ framed tx commit pages (m.base k) →
        Some (changed_at k (framed tx commit pages) m.base k).image ≡ option_or
        (image_after (when (commit || not (is_named m.names k)) (record { name = k; after = (changed_at k (framed tx commit pages) m.base k).image })) k)
        (image_of m k)
    by true b q f here =
        let now = changed_at k (framed tx commit pages) m.base k in
        sym (ap (λ z. option_or (image_after (when (z || not (is_named m.names k)) (record { name = k; after = now.image })) k) (image_of m k)) q
        ∙ ap (λ z. option_or (cond z (Some now.image) None) (image_of m k)) (same_name k))
    by false false q f here =
        let now = changed_at k (framed tx commit pages) m.base k in
        sym (ap (λ z. option_or (image_after (when (z || not (is_named m.names k)) (record { name = k; after = now.image })) k) (image_of m k)) q
        ∙ ap (λ z. option_or (image_after (when (not z) (record { name = k; after = now.image })) k) (image_of m k)) f
        ∙ ap (λ z. option_or (cond z (Some now.image) None) (image_of m k)) (same_name k))
    by false true q f here =
        let now = changed_at k (framed tx commit pages) m.base k in
        let same : now.image ≡ (m.base k).image = ap (λ (z : Base). z.image) here ∙ ap (λ z. (framed tx z pages (m.base k)).image) q ∙ pending_image tx pages
        (m.base k) in
        ap Some same ∙ sym (ap (λ z. option_or (image_after (when (z || not (is_named m.names k)) (record { name = k; after = now.image })) k) (image_of m k)) q
        ∙ ap (λ z. option_or (image_after (when (not z) (record { name = k; after = now.image })) k) (image_of m k)) f
        ∙ ap (λ z. cond z (Some (m.base k).image) None) f)
frames_leave m k tx truncate commit pages name false e =
    let apart : bytes_eq name k ≡ false = names_apart name k (λ q. other_name k name e (sym q)) in
    let there : is_named (with_name k m.names) name ≡ is_named m.names name = named_with m.names k name ∙ ap (λ b. b || is_named m.names name) apart in
    let here : changed_at k (framed tx commit pages) m.base name ≡ m.base name = cond-false (bytes_eq name k) (framed tx commit pages (m.base name))
    (m.base name) apart in
    ap (λ b. cond b (Some (changed_at k (framed tx commit pages) m.base name).image) None) there ∙ ap (λ (z : Base). cond (is_named m.names name)
    (Some z.image) None) here ∙ by (commit || not (is_named m.names k))
  where
    by : (b : Bool) → image_of m name ≡ option_or
        (image_after (when b (record { name = k; after = (changed_at k (framed tx commit pages) m.base k).image })) name) (image_of m name)
    by false = refl
    by true = sym (ap (λ b. option_or (cond b (Some (changed_at k (framed tx commit pages) m.base k).image) None) (image_of m name)) e)

checked_leaves : (m : Machine) (k name : List ℕ) → image_of (act m (Checkpoint k)) name ≡ image_of m name
unfolding act
checked_leaves m k name = by (bytes_eq name k)
  where
    by : (b : Bool) → cond (is_named m.names name) (Some (cond b (checked (m.base name)) (m.base name)).image) None ≡ image_of m name
    by true = refl
    by false = refl

undone_leaves : (m : Machine) (tx : ℕ) (name : List ℕ) → image_of (act m (Undo tx)) name ≡ image_of m name
unfolding act
undone_leaves m tx name = refl

entry_leaves : (m : Machine) (content : Content) (name : List ℕ) → Leaves m (done m content) (changes_by m content) name
entry_leaves m (Does (OpenDb k)) name = open_leaves m k name (bytes_eq k name) (is_named m.names k) refl refl
entry_leaves m (Does (Frames k tx truncate commit pages)) name = frames_leave m k tx truncate commit pages name (bytes_eq k name) refl
entry_leaves m (Does (Undo tx)) name = undone_leaves m tx name
entry_leaves m (Does (Checkpoint k)) name = checked_leaves m k name
entry_leaves m (Configures servers) name = refl
entry_leaves m Other name = refl

-- ---- a list of entries

entries_leave : (m : Machine) (es : List Entry) (name : List ℕ) → Leaves m (files_from m es) (changes_from m es) name
entries_leave m [] name = refl
entries_leave m (e ∷ es) name =
    let one = changes_by m e.content in
    let rest = changes_from (done m e.content) es in
    entries_leave (done m e.content) es name ∙ ap (option_or (image_after rest name)) (entry_leaves m e.content name)
    ∙ sym (or_assoc (image_after rest name) (image_after one name) (image_of m name)) ∙ ap (λ (o : Option Image). option_or o (image_of m name))
    (sym (after_append one rest name))

changes_append : (m : Machine) (xs ys : List Entry) → changes_from m (xs ++ ys) ≡ changes_from m xs ++ changes_from (files_from m xs) ys
changes_append m [] ys = refl
changes_append m (x ∷ xs) ys =
    let one = changes_by m x.content in
    let next = done m x.content in
    ap (λ l. one ++ l) (changes_append next xs ys) ∙ sym (append_assoc one (changes_from next xs) (changes_from (files_from next xs) ys))

fronts_make : (xs ys : List Entry) → length (changes_of xs) ≤ length (changes_of (xs ++ ys))
fronts_make xs ys =
    let e = ap length (changes_append nothing xs ys) in
    let f = length-append (changes_of xs) (changes_from (files_from nothing xs) ys) in
    omega (arith, e, f)

pub changes_grow_holds : ChangesGrow
changes_grow_holds es a b le =
    let front : take a es ≡ take a (take b es) = sym (take-take a b es le) in
    let whole : take a (take b es) ++ drop a (take b es) ≡ take b es = take-append-drop a (take b es) in
    let r = fronts_make (take a (take b es)) (drop a (take b es)) in
    subst (λ l. length (changes_of l) ≤ changes_at es b) (sym front) (subst (λ l. length (changes_of (take a (take b es))) ≤ length (changes_of l)) whole r)

map_take : (n : ℕ) (cs : List Change) → map new_image (take n cs) ≡ take n (map new_image cs)
map_take zero cs = refl
map_take (suc n) [] = refl
map_take (suc n) (c ∷ cs) = ap (λ l. new_image c ∷ l) (map_take n cs)

pub files_are_changes_holds : FilesAreChanges
unfolding files
files_are_changes_holds es order same k name =
    let front = changes_of (take k es) in
    let rest = changes_from (files_from nothing (take k es)) (drop k es) in
    let split : changes_of es ≡ front ++ rest = ap changes_of (sym (take-append-drop k es)) ∙ changes_append nothing (take k es) (drop k es) in
    let all : map new_image (take (length front) order) ≡ front = map_take (length front) order ∙ ap (take (length front)) (same ∙ split)
    ∙ take_at front rest (length front) refl in
    in_after (take (length front) order) name ∙ ap (λ l. image_after l name) all ∙ sym (entries_leave nothing (take k es) name ∙ or_none
    (image_after front name))

-- ---- what a node shows

same_way : (x y : List ℕ) → bytes_eq x y ≡ bytes_eq y x
same_way x y = ⊎_elim
    (λ (e : x ≡ y). ap (λ z. bytes_eq z y) e ∙ ap (bytes_eq y) (sym e))
    (λ (e : x ≢ y). names_apart x y e ∙ sym (names_apart y x (λ q. e (sym q))))
    (one_or_other x y)

pub shown_are_files_holds : ShownAreFiles
shown_are_files_holds [] name = refl
shown_are_files_holds (d ∷ ds) name = by (bytes_eq d.name name) refl (shown_are_files_holds ds name)
  where
    by : (b : Bool) → bytes_eq d.name name ≡ b → shown_image (contents_of ds) name ≡ image_of (machine_of ds) name →
        cond (bytes_eq d.name name) (Some (newest_image d.store)) (shown_image (contents_of ds) name) ≡ image_of (machine_of (d ∷ ds)) name
    by true e rest =
        let f : bytes_eq name d.name ≡ true = same_way name d.name ∙ e in
        ap (λ b. cond b (Some (newest_image d.store)) (shown_image (contents_of ds) name)) e
        ∙ sym (ap (λ b. cond (b || is_named (names_of ds) name) (Some (base_of (cond b (Some d) (named name ds))).image) None) f)
    by false e rest =
        let f : bytes_eq name d.name ≡ false = same_way name d.name ∙ e in
        ap (λ b. cond b (Some (newest_image d.store)) (shown_image (contents_of ds) name)) e ∙ rest
        ∙ sym (ap (λ b. cond (b || is_named (names_of ds) name) (Some (base_of (cond b (Some d) (named name ds))).image) None) f)
