-- The names of the files that are there.
use Rattle.std.proofs.Common.{◌≡◌, ◌⊎◌, inl, inr, ⊎_elim, ℕ, suc, ◌+◌, ◌<◌, Bool, true, false, ◌||◌, List, [], ◌∷◌, ◌++◌, length, get_or, refl, sym, ap, ◌∙◌, subst, arith}
use Rattle.std.specs.Str.{bytes_eq}
use Rattle.std.proofs.lemmas.Bool.{cases_Bool, cases_lt, cond-false, or_parts}
use Rattle.std.proofs.lemmas.List.{get_or_read}
use Rattle.std.proofs.lemmas.Slice.Eq.{bytes_eq-Decides}
use Rattle.disk_model.specs.Disk.{missing}
use Rattle.disk_model.specs.SyncAll.{Among}
use Rattle.disk_model.specs.Trait.{Text, Once}
use Rattle.disk_model.specs.Folder.{file_of, has_name, ListsFiles}
use Rattle.disk_model.specs.MemFiles.{MemFile}
use Rattle.disk_model.proofs.Effects.{eq_here}

-- the first this many files of a list are looked at
pub record Listing (files : List MemFile) (i : ℕ) (names : List Text) : Type 0 where
  pub there : (n : Text) → Among n names → (file_of files n).read.there ≡ true
  pub so_far : (k : ℕ) → k < i → (d : MemFile) → (file_of files (get_or files k d).name).read.there ≡ true → Among (get_or files k d).name names
  pub once : Once names

pub listing_none : (files : List MemFile) → Listing files 0 []
listing_none files = record { there = λ n a. absurd a; so_far = λ k l d t. absurd (omega arith); once = tt }

among_front : (n : Text) (ms : List Text) (x : Text) → Among n ms → Among n (ms ++ x ∷ [])
among_front n (m ∷ ms) x (inl e) = inl e
among_front n (m ∷ ms) x (inr a) = inr (among_front n ms x a)
among_front n [] x a = absurd a

among_last : (ms : List Text) (x : Text) → Among x (ms ++ x ∷ [])
among_last [] x = inl refl
among_last (m ∷ ms) x = inr (among_last ms x)

among_cases : (n : Text) (ms : List Text) (x : Text) → Among n (ms ++ x ∷ []) → Among n ms ⊎ (n ≡ x)
among_cases n [] x (inl e) = inr e
among_cases n [] x (inr a) = absurd a
among_cases n (m ∷ ms) x (inl e) = inl (inl e)
among_cases n (m ∷ ms) x (inr a) = ⊎_elim (λ b. inl (inr b)) (λ e. inr e) (among_cases n ms x a)

once_more : (ms : List Text) (x : Text) → Once ms → (Among x ms → ⊥) → Once (ms ++ x ∷ [])
once_more [] x o new = (λ a. absurd a, tt)
once_more (m ∷ ms) x o new = (λ a. ⊎_elim (λ b. o.0 b) (λ e. new (inl (sym e))) (among_cases m ms x a), once_more ms x o.1 (λ a. new (inr a)))

not_named : (n : Text) (ms : List Text) → has_name n ms ≡ false → Among n ms → ⊥
not_named n [] h a = a
not_named n (m ∷ ms) h (inl e) = let z : true ≡ false = sym (ap (λ (k : Text). bytes_eq k n) (sym e) ∙ eq_here n) ∙ (or_parts (bytes_eq m n) (has_name n ms) h).0 in absurd cc
not_named n (m ∷ ms) h (inr a) = not_named n ms (or_parts (bytes_eq m n) (has_name n ms) h).1 a

is_named : (n : Text) (ms : List Text) → has_name n ms ≡ true → Among n ms
is_named n [] h = absurd cc
is_named n (m ∷ ms) h = step (bytes_eq m n) refl h (λ t. is_named n ms t)
  where
    step : (b : Bool) → bytes_eq m n ≡ b → (b || has_name n ms) ≡ true → (has_name n ms ≡ true → Among n ms) → Among n (m ∷ ms)
    step true e h later = inl (sym ((bytes_eq-Decides m n).0 e))
    step false e h later = inr (later h)

-- the next file is not there, or its name is listed
pub listing_kept : (files : List MemFile) (i : ℕ) (names : List Text) (x : MemFile) → Listing files i names → i < length files → x ≡ get_or files i x → ((file_of files x.name).read.there ≡ false) ⊎ (has_name x.name names ≡ true) → Listing files (i + 1) names
listing_kept files i names x l lt is why = record {
  there = l.there;
  so_far = λ k h d t. elim (cases_lt k i) [
    | inl q ↦ l.so_far k q d t
    | inr q ↦
        let same : k ≡ i = omega arith in
        let here : x ≡ get_or files k d = get_or_read files i x lt is d ∙ ap (λ (j : ℕ). get_or files j d) (sym same) in
        ⊎_elim
        (λ none. let z : true ≡ false = sym t ∙ ap (λ (y : MemFile). (file_of files y.name).read.there) (sym here) ∙ none in absurd cc)
        (λ listed. subst (λ (y : MemFile). Among y.name names) here (is_named x.name names listed))
        why
  ];
  once = l.once;
}

-- the next file is there, and its name isn't listed
pub listing_more : (files : List MemFile) (i : ℕ) (names : List Text) (x : MemFile) → Listing files i names → i < length files → x ≡ get_or files i x → (file_of files x.name).read.there ≡ true → has_name x.name names ≡ false → Listing files (i + 1) (names ++ x.name ∷ [])
listing_more files i names x l lt is t new = record {
  there = λ n a. ⊎_elim (λ b. l.there n b) (λ e. ap (λ (m : Text). (file_of files m).read.there) e ∙ t) (among_cases n names x.name a);
  so_far = λ k h d y. elim (cases_lt k i) [
    | inl q ↦ among_front (get_or files k d).name names x.name (l.so_far k q d y)
    | inr q ↦
        let same : k ≡ i = omega arith in
        let here : x ≡ get_or files k d = get_or_read files i x lt is d ∙ ap (λ (j : ℕ). get_or files j d) (sym same) in
        subst (λ (y : MemFile). Among y.name (names ++ x.name ∷ [])) here (among_last names x.name)
  ];
  once = once_more names x.name l.once (not_named x.name names new);
}

-- all files are looked at
pub listing_done : (files : List MemFile) (names : List Text) → Listing files (length files) names → ListsFiles files names
listing_done files names l = record { there = l.there; all = λ n t. found_name files n (λ k h d e. all_at k h d n e t) (λ z. absurd (nowhere_there n z t)); once = l.once }
  where
    all_at : (k : ℕ) → k < length files → (d : MemFile) → (n : Text) → (get_or files k d).name ≡ n → (file_of files n).read.there ≡ true → Among n names
    all_at k h d n e t = subst (λ (m : Text). Among m names) e (l.so_far k h d (ap (λ (m : Text). (file_of files m).read.there) e ∙ t))

    nowhere_there : (n : Text) → file_of files n ≡ record { name = n; read = missing; base = missing } → (file_of files n).read.there ≡ true → ⊥
    nowhere_there n z t = let y : false ≡ true = sym (ap (λ (f : MemFile). f.read.there) z) ∙ t in absurd cc

    found_name : (fs : List MemFile) (n : Text) → ((k : ℕ) → k < length fs → (d : MemFile) → (get_or fs k d).name ≡ n → Among n names) → (file_of fs n ≡ record { name = n; read = missing; base = missing } → Among n names) → Among n names
    found_name [] n at none = none refl
    found_name (f ∷ fs) n at none = elim (cases_Bool (bytes_eq f.name n)) [
      | inl q ↦ at 0 (omega arith) f ((bytes_eq-Decides f.name n).0 q)
      | inr q ↦ found_name fs n (λ k h d e. at (suc k) (omega arith) d e) (λ z. none (cond-false (bytes_eq f.name n) f (file_of fs n) q ∙ z))
    ]
