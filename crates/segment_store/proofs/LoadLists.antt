-- The files of a node among the names of a folder.
use Rattle.std.proofs.Common.{◌≡◌, ◌≢◌, inl, inr, ℕ, zero, suc, ◌+◌, ◌<◌, ◌≤◌, Bool, true, false, cond, List, [], ◌∷◌, ◌++◌, length, take, drop, get_or, Option, Some, None, Result, Ok, Err, refl, sym, ap, ◌∙◌, subst, arith, append_assoc, length-append, ◌⊎◌}
use Rattle.std.specs.Prelude.{OnOk, ◌||◌, ◌==◌, nat_lt}
use Rattle.std.specs.List.{insert}
use Rattle.std.specs.Str.{bytes_eq}
use Rattle.std.proofs.lemmas.Bool.{cases_Bool, cases_eq, cases_lt, cond-true, cond-false, eqb-true, eq-eqb, ne_eqb, ltb-true, ltb-false}
use Rattle.std.proofs.lemmas.List.{append-nil, take_more, take_all}
use Rattle.std.proofs.lemmas.List.Folds.{list_any-append}
use Rattle.std.proofs.lemmas.Slice.Eq.{bytes_eq-Decides}
use Rattle.dq_base.specs.Names.{IsName}
use Rattle.disk_model.specs.Disk.{Disk}
use Rattle.disk_model.specs.SyncAll.{Among}
use Rattle.disk_model.specs.Trait.{Text, Lists}
use Rattle.store_laws.specs.Names.{Name, First, Second, Segment, Snapshot}
use Rattle.segment_store.specs.declared.names.File.{File}
use Rattle.segment_store.specs.declared.names.File.TheVariants as files
use Rattle.segment_store.specs.FileNames.{file_name, name_of, number_of}
use Rattle.segment_store.specs.Open.{is_listed, segment_numbers, snapshot_numbers}
use Rattle.segment_store.specs.Keeps.{folder}
use Rattle.segment_store.specs.Listed.{numbered, IsFile, place_for, with_number, FolderList, nothing_listed, with_file, lists, added, files_listed, named, IsListed, is_named, AllNames, From, SortedOut, TakesName, Below, FilesBelow}
use Rattle.segment_store.proofs.NoTwoAlike.{no_two_alike, beyond_digits}

same_test : (b c : Bool) → (b ≡ true → c ≡ true) → (c ≡ true → b ≡ true) → b ≡ c
same_test true true f g = refl
same_test true false f g = sym (f refl)
same_test false true f g = g refl
same_test false false f g = refl

not_true : (b : Bool) → (b ≡ true → ⊥) → b ≡ false
not_true true h = absurd (h refl)
not_true false h = refl

-- ---- ascending numbers

listed_insert : (n : ℕ) (xs : List ℕ) (j : ℕ) → is_listed j (insert xs (place_for n xs) n) ≡ (is_listed j xs || (n == j))
unfolding place_for
listed_insert n [] j = or_false (n == j)
  where
    or_false : (b : Bool) → (b || false) ≡ (false || b)
    or_false true = refl
    or_false false = refl
listed_insert n (x ∷ xs) j = elim (cases_Bool (nat_lt x n)) [
  | inl t ↦
      ap (λ (p : ℕ). is_listed j (insert (x ∷ xs) p n)) (cond-true _ _ _ t) ∙ ap (λ (b : Bool). (x == j) || b) (listed_insert n xs j) ∙ assoc (x == j) (is_listed j xs) (n == j)
  | inr f ↦
      ap (λ (p : ℕ). is_listed j (insert (x ∷ xs) p n)) (cond-false _ _ _ f) ∙ swap (n == j) (x == j) (is_listed j xs)
]
  where
    assoc : (a b c : Bool) → (a || (b || c)) ≡ ((a || b) || c)
    assoc true b c = refl
    assoc false b c = refl

    swap : (a b c : Bool) → (a || (b || c)) ≡ ((b || c) || a)
    swap true true c = refl
    swap true false true = refl
    swap true false false = refl
    swap false true c = refl
    swap false false true = refl
    swap false false false = refl

listed_with : (n : ℕ) (xs : List ℕ) (j : ℕ) → is_listed j (with_number n xs) ≡ (is_listed j xs || (n == j))
unfolding with_number
listed_with n xs j = elim (cases_Bool (is_listed n xs)) [
  | inl t ↦ ap (is_listed j) (cond-true _ xs (insert xs (place_for n xs) n) t) ∙ there t
  | inr f ↦ ap (is_listed j) (cond-false _ xs (insert xs (place_for n xs) n) f) ∙ listed_insert n xs j
]
  where
    absorbed : (b c : Bool) → (c ≡ true → b ≡ true) → b ≡ (b || c)
    absorbed true c h = refl
    absorbed false true h = h refl
    absorbed false false h = refl

    there : is_listed n xs ≡ true → is_listed j xs ≡ (is_listed j xs || (n == j))
    there t = absorbed (is_listed j xs) (n == j) (λ e. ap (λ (k : ℕ). is_listed k xs) (sym (eqb-true n j e)) ∙ t)

from_insert : (a n : ℕ) (xs : List ℕ) → From a xs → a ≤ n → is_listed n xs ≡ false → From a (insert xs (place_for n xs) n)
unfolding place_for
from_insert a n [] f h none = (h, tt)
from_insert a n (x ∷ xs) (low, rest) h none = elim (cases_Bool (nat_lt x n)) [
  | inl t ↦
      let less : x < n = ltb-true _ _ t in
      subst (λ (p : ℕ). From a (insert (x ∷ xs) p n)) (sym (cond-true _ (suc (place_for n xs)) 0 t)) (low, from_insert (suc x) n xs rest (omega (arith, less)) (second (x == n) (is_listed n xs) none))
  | inr f ↦
      let more : n ≤ x = ltb-false _ _ f in
      let other : x ≢ n = λ q. let z : true ≡ false = sym (eq-eqb x n q) ∙ first (x == n) (is_listed n xs) none in absurd cc in
      subst (λ (p : ℕ). From a (insert (x ∷ xs) p n)) (sym (cond-false _ (suc (place_for n xs)) 0 f)) (h, (omega (arith, more, other), rest))
]
  where
    second : (a b : Bool) → (a || b) ≡ false → b ≡ false
    second true b e = absurd cc
    second false b e = e

    first : (a b : Bool) → (a || b) ≡ false → a ≡ false
    first true b e = absurd cc
    first false b e = refl

from_with : (n : ℕ) (xs : List ℕ) → From 0 xs → From 0 (with_number n xs)
unfolding with_number
from_with n xs f = elim (cases_Bool (is_listed n xs)) [
  | inl t ↦ subst (From 0) (sym (cond-true _ xs (insert xs (place_for n xs) n) t)) f
  | inr no_one ↦ subst (From 0) (sym (cond-false _ xs (insert xs (place_for n xs) n) no_one)) (from_insert 0 n xs f (omega arith) no_one)
]

-- ---- one file more

abbrev same_name : Name → Name → Bool
same_name First First = true
same_name First n = false
same_name Second Second = true
same_name Second n = false
same_name (Segment j) (Segment k) = j == k
same_name (Segment j) n = false
same_name (Snapshot j) (Snapshot k) = j == k
same_name (Snapshot j) n = false

same_is : (m n : Name) → same_name m n ≡ true → m ≡ n
same_is First First e = refl
same_is First Second e = absurd cc
same_is First (Segment k) e = absurd cc
same_is First (Snapshot k) e = absurd cc
same_is Second First e = absurd cc
same_is Second Second e = refl
same_is Second (Segment k) e = absurd cc
same_is Second (Snapshot k) e = absurd cc
same_is (Segment j) First e = absurd cc
same_is (Segment j) Second e = absurd cc
same_is (Segment j) (Segment k) e = ap Segment (eqb-true j k e)
same_is (Segment j) (Snapshot k) e = absurd cc
same_is (Snapshot j) First e = absurd cc
same_is (Snapshot j) Second e = absurd cc
same_is (Snapshot j) (Segment k) e = absurd cc
same_is (Snapshot j) (Snapshot k) e = ap Snapshot (eqb-true j k e)

same_self : (n : Name) → same_name n n ≡ true
same_self First = refl
same_self Second = refl
same_self (Segment k) = eq-eqb k k refl
same_self (Snapshot k) = eq-eqb k k refl

or_false : (b : Bool) → b ≡ (b || false)
or_false true = refl
or_false false = refl

or_true : (b : Bool) → true ≡ (b || true)
or_true true = refl
or_true false = refl

lists_with : (file : File) (l : FolderList) (n : Name) → lists (with_file file l) n ≡ (lists l n || same_name (name_of file) n)
lists_with files.First l First = or_true l.first
lists_with files.First l Second = or_false l.second
lists_with files.First l (Segment k) = or_false (is_listed k l.segments)
lists_with files.First l (Snapshot j) = or_false (is_listed j l.snapshots)
lists_with files.Second l First = or_false l.first
lists_with files.Second l Second = or_true l.second
lists_with files.Second l (Segment k) = or_false (is_listed k l.segments)
lists_with files.Second l (Snapshot j) = or_false (is_listed j l.snapshots)
lists_with (files.Segment i) l First = or_false l.first
lists_with (files.Segment i) l Second = or_false l.second
lists_with (files.Segment i) l (Segment k) = listed_with i l.segments k
lists_with (files.Segment i) l (Snapshot j) = or_false (is_listed j l.snapshots)
lists_with (files.Snapshot i) l First = or_false l.first
lists_with (files.Snapshot i) l Second = or_false l.second
lists_with (files.Snapshot i) l (Segment k) = or_false (is_listed k l.segments)
lists_with (files.Snapshot i) l (Snapshot j) = listed_with i l.snapshots j

files_with : (file : File) (l : FolderList) → (with_file file l).files ≡ l.files ++ file ∷ []
files_with files.First l = refl
files_with files.Second l = refl
files_with (files.Segment k) l = refl
files_with (files.Snapshot k) l = refl

segments_from : (file : File) (l : FolderList) → From 0 l.segments → From 0 (with_file file l).segments
segments_from files.First l f = f
segments_from files.Second l f = f
segments_from (files.Segment k) l f = from_with k l.segments f
segments_from (files.Snapshot k) l f = f

snapshots_from : (file : File) (l : FolderList) → From 0 l.snapshots → From 0 (with_file file l).snapshots
snapshots_from files.First l f = f
snapshots_from files.Second l f = f
snapshots_from (files.Segment k) l f = f
snapshots_from (files.Snapshot k) l f = from_with k l.snapshots f

pub below_insert : (i n : ℕ) (xs : List ℕ) → n < 10000000000000000 → Below xs → Below (insert xs i n)
below_insert zero n xs h b = (h, b)
below_insert (suc i) n [] h b = (h, tt)
below_insert (suc i) n (x ∷ xs) h b = (b.0, below_insert i n xs h b.1)

below_with : (n : ℕ) (xs : List ℕ) → n < 10000000000000000 → Below xs → Below (with_number n xs)
unfolding with_number
below_with n xs h b = which (is_listed n xs)
  where
    which : (c : Bool) → Below (cond c xs (insert xs (place_for n xs) n))
    which true = b
    which false = below_insert (place_for n xs) n xs h b

segments_below : (file : File) (l : FolderList) → number_of file < 10000000000000000 → Below l.segments → Below (with_file file l).segments
segments_below files.First l h b = b
segments_below files.Second l h b = b
segments_below (files.Segment k) l h b = below_with k l.segments h b
segments_below (files.Snapshot k) l h b = b

among_more : (n : Name) (fs : List File) (file : File) → Among n (named fs) → Among n (named (fs ++ file ∷ []))
among_more n [] file a = absurd a
among_more n (x ∷ fs) file (inl e) = inl e
among_more n (x ∷ fs) file (inr a) = inr (among_more n fs file a)

among_last : (fs : List File) (file : File) → Among (name_of file) (named (fs ++ file ∷ []))
among_last [] file = inl refl
among_last (x ∷ fs) file = inr (among_last fs file)

or_parts : (a b : Bool) → (a || b) ≡ true → (a ≡ true) ⊎ (b ≡ true)
or_parts true b e = inl refl
or_parts false b e = inr e

names_more : (ts : List Text) (t : Text) → AllNames ts → IsName t → AllNames (ts ++ t ∷ [])
names_more [] t a h = (h, tt)
names_more (x ∷ ts) t a h = (a.0, names_more ts t a.1 h)

-- a text is the name of a file exactly if that is the file
alike : (t : Text) (file : File) (n : Name) → t ≡ file_name (name_of file) → bytes_eq t (file_name n) ≡ same_name (name_of file) n
alike t file n e = same_test _ _
    (λ q. let same : name_of file ≡ n = no_two_alike (name_of file) n (sym e ∙ (bytes_eq-Decides t (file_name n)).0 q) in ap (same_name (name_of file)) (sym same) ∙ same_self (name_of file))
    (λ q. (bytes_eq-Decides t (file_name n)).1 (e ∙ ap file_name (same_is (name_of file) n q)))

is_named_more : (t : Text) (ts : List Text) (u : Text) → is_named t (ts ++ u ∷ []) ≡ (is_named t ts || bytes_eq u t)
is_named_more t ts u = list_any-append (λ (x : Text). bytes_eq x t) ts (u ∷ []) ∙ ap (λ (b : Bool). is_named t ts || b) (alone (bytes_eq u t))
  where
    alone : (b : Bool) → (b || false) ≡ b
    alone true = refl
    alone false = refl

pub sorted_none : SortedOut [] nothing_listed
sorted_none = record { there = λ n h. none n; among = λ n e. absurd (let z = sym (none n) ∙ e in which z); segments = tt; snapshots = tt; digits = tt; snapshot_digits = tt; count = refl; are_names = tt }
  where
    none : (n : Name) → lists nothing_listed n ≡ false
    none First = refl
    none Second = refl
    none (Segment k) = refl
    none (Snapshot k) = refl

    which : false ≡ true → ⊥
    which q = absurd cc

snapshots_below : (file : File) (l : FolderList) → number_of file < 10000000000000000 → Below l.snapshots → Below (with_file file l).snapshots
snapshots_below files.First l h b = b
snapshots_below files.Second l h b = b
snapshots_below (files.Segment k) l h b = b
snapshots_below (files.Snapshot k) l h b = below_with k l.snapshots h b

length_insert : (i n : ℕ) (xs : List ℕ) → length (insert xs i n) ≡ suc (length xs)
length_insert zero n xs = refl
length_insert (suc i) n [] = refl
length_insert (suc i) n (x ∷ xs) = ap suc (length_insert i n xs)

length_with : (n : ℕ) (xs : List ℕ) → is_listed n xs ≡ false → length (with_number n xs) ≡ suc (length xs)
unfolding with_number
length_with n xs none = ap length (cond-false _ xs (insert xs (place_for n xs) n) none) ∙ length_insert (place_for n xs) n xs

abbrev one_or_none : Bool → ℕ
one_or_none b = cond b 1 0

-- a file that isn't listed is one more
count_with : (file : File) (l : FolderList) → lists l (name_of file) ≡ false → length l.files ≡ files_listed l → length (with_file file l).files ≡ files_listed (with_file file l)
count_with file l none is = ap length (files_with file l) ∙ length-append l.files (file ∷ []) ∙ more file none
  where
    more : (f : File) → lists l (name_of f) ≡ false → length l.files + 1 ≡ files_listed (with_file f l)
    more files.First none =
        let z : one_or_none l.first ≡ 0 = ap one_or_none none in
        omega (arith, z, is)
    more files.Second none =
        let z : one_or_none l.second ≡ 0 = ap one_or_none none in
        omega (arith, z, is)
    more (files.Segment k) none =
        let z = length_with k l.segments none in
        omega (arith, z, is)
    more (files.Snapshot k) none =
        let z = length_with k l.snapshots none in
        omega (arith, z, is)

new_file : (ts : List Text) (l : FolderList) (t : Text) (file : File) → SortedOut ts l → IsName t → t ≡ file_name (name_of file) → number_of file < 10000000000000000 → lists l (name_of file) ≡ false → SortedOut (ts ++ t ∷ []) (with_file file l)
new_file ts l t file s name e small none = record {
  there = λ n h. lists_with file l n ∙ (λ i. s.there n h i || sym (alike t file n e) i) ∙ sym (is_named_more (file_name n) ts t);
  among = λ n q.
      subst (λ (fs : List File). Among n (named fs)) (sym (files_with file l)) (elim (or_parts (lists l n) (same_name (name_of file) n) (sym (lists_with file l n) ∙ q)) [
        | inl was ↦ among_more n l.files file (s.among n was)
        | inr new ↦ subst (λ (m : Name). Among m (named (l.files ++ file ∷ []))) (same_is (name_of file) n new) (among_last l.files file)
      ]);
  segments = segments_from file l s.segments;
  snapshots = snapshots_from file l s.snapshots;
  digits = segments_below file l small s.digits;
  snapshot_digits = snapshots_below file l small s.snapshot_digits;
  count = count_with file l none s.count;
  are_names = names_more ts t s.are_names name;
}

-- one that is listed stays
same_file : (ts : List Text) (l : FolderList) (t : Text) (file : File) → SortedOut ts l → IsName t → t ≡ file_name (name_of file) → lists l (name_of file) ≡ true → SortedOut (ts ++ t ∷ []) l
same_file ts l t file s name e listed = record {
  there = λ n h. absorbed n ∙ (λ i. s.there n h i || sym (alike t file n e) i) ∙ sym (is_named_more (file_name n) ts t);
  among = s.among;
  segments = s.segments;
  snapshots = s.snapshots;
  digits = s.digits;
  snapshot_digits = s.snapshot_digits;
  count = s.count;
  are_names = names_more ts t s.are_names name;
}
  where
    either : (b c : Bool) → (c ≡ true → b ≡ true) → b ≡ (b || c)
    either true c h = refl
    either false true h = h refl
    either false false h = refl

    absorbed : (n : Name) → lists l n ≡ (lists l n || same_name (name_of file) n)
    absorbed n = either (lists l n) (same_name (name_of file) n) (λ q. ap (lists l) (sym (same_is (name_of file) n q)) ∙ listed)

pub sorted_file : (ts : List Text) (l : FolderList) (t : Text) (file : File) → SortedOut ts l → IsName t → t ≡ file_name (name_of file) → number_of file < 10000000000000000 → SortedOut (ts ++ t ∷ []) (added file l)
sorted_file ts l t file s name e small = elim (cases_Bool (lists l (name_of file))) [
  | inl yes_it ↦ subst (SortedOut (ts ++ t ∷ [])) (sym (cond-true _ l (with_file file l) yes_it)) (same_file ts l t file s name e yes_it)
  | inr none ↦ subst (SortedOut (ts ++ t ∷ [])) (sym (cond-false _ l (with_file file l) none)) (new_file ts l t file s name e small none)
]

pub sorted_other : (ts : List Text) (l : FolderList) (t : Text) → SortedOut ts l → IsName t → IsFile t None → SortedOut (ts ++ t ∷ []) l
sorted_other ts l t s name none = record {
  there = λ n h.
      let other : bytes_eq t (file_name n) ≡ false = not_true _ (λ q. none n h ((bytes_eq-Decides t (file_name n)).0 q)) in
      s.there n h ∙ or_false (is_named (file_name n) ts) ∙ ap (λ (b : Bool). is_named (file_name n) ts || b) (sym other) ∙ sym (is_named_more (file_name n) ts t);
  among = s.among;
  segments = s.segments;
  snapshots = s.snapshots;
  digits = s.digits;
  snapshot_digits = s.snapshot_digits;
  count = s.count;
  are_names = names_more ts t s.are_names name;
}

-- ---- what the disk lists

named_among : (t : Text) (ts : List Text) → is_named t ts ≡ true → Among t ts
named_among t [] e = absurd cc
named_among t (u ∷ ts) e = elim (or_parts (bytes_eq u t) (is_named t ts) e) [
  | inl here ↦ inl (sym ((bytes_eq-Decides u t).0 here))
  | inr later ↦ inr (named_among t ts later)
]

among_named : (t : Text) (ts : List Text) → Among t ts → is_named t ts ≡ true
among_named t [] a = absurd a
among_named t (u ∷ ts) (inl e) = ap (λ (b : Bool). b || is_named t ts) ((bytes_eq-Decides u t).1 (sym e))
among_named t (u ∷ ts) (inr a) = ap (λ (b : Bool). bytes_eq u t || b) (among_named t ts a) ∙ sym (or_true (bytes_eq u t))

among_name : (t : Text) (ts : List Text) → AllNames ts → Among t ts → IsName t
among_name t [] a m = absurd m
among_name t (u ∷ ts) a (inl e) = subst IsName (sym e) a.0
among_name t (u ∷ ts) a (inr m) = among_name t ts a.1 m

-- the numbers from a first one on of which this is true
numbers_from : (ℕ → Bool) → ℕ → ℕ → List ℕ
numbers_from t a zero = []
numbers_from t a (suc n) = cond (t a) (a ∷ []) [] ++ numbers_from t (suc a) n

numbers_join : (t : ℕ → Bool) (below : ℕ → List ℕ) → ((n : ℕ) → below (suc n) ≡ below n ++ cond (t n) (n ∷ []) []) → (a n : ℕ) → below a ++ numbers_from t a n ≡ below (a + n)
unfolding numbers_from
numbers_join t below step a zero = append-nil (below a) ∙ ap below (sym (plus_zero a))
  where
    plus_zero : (n : ℕ) → n + 0 ≡ n
    plus_zero n = omega arith
numbers_join t below step a (suc n) =
    sym (append_assoc (below a) (cond (t a) (a ∷ []) []) (numbers_from t (suc a) n))
    ∙ ap (λ (l : List ℕ). l ++ numbers_from t (suc a) n) (sym (step a))
    ∙ numbers_join t below step (suc a) n ∙ ap below (plus_suc a n)
  where
    plus_suc : (a n : ℕ) → suc a + n ≡ a + suc n
    plus_suc a n = omega arith

none_listed : (a j : ℕ) (xs : List ℕ) → From a xs → j < a → is_listed j xs ≡ false
none_listed a j [] f h = refl
none_listed a j (x ∷ xs) (low, rest) h = (λ i. ne_eqb x j (λ q. absurd (omega (arith, q, low, h))) i || none_listed (suc x) j xs rest (omega (arith, low, h)) i)

-- ascending numbers of which this is true, and no others
numbers_are : (n a : ℕ) (t : ℕ → Bool) (xs : List ℕ) → From a xs → ((j : ℕ) → a ≤ j → j < a + n → t j ≡ is_listed j xs) → ((j : ℕ) → is_listed j xs ≡ true → j < a + n) → numbers_from t a n ≡ xs
unfolding numbers_from
numbers_are zero a t [] f same below = refl
numbers_are zero a t (x ∷ xs) f same below = let z : x < a + 0 = below x (ap (λ (b : Bool). b || is_listed x xs) (eq-eqb x x refl)) in absurd (omega (arith, z, f.0))
numbers_are (suc n) a t [] f same below =
    let none : t a ≡ false = same a (omega arith) (omega arith) in
    ap (λ (b : Bool). cond b (a ∷ []) [] ++ numbers_from t (suc a) n) none
    ∙ numbers_are n (suc a) t [] tt (λ j l h. same j (omega (arith, l)) (omega (arith, h))) (λ j e. absurd (which e))
  where
    which : false ≡ true → ⊥
    which q = absurd cc
numbers_are (suc n) a t (x ∷ xs) (low, rest) same below = elim (cases_eq x a) [
  | inl e ↦
      let here : t a ≡ true = same a (omega arith) (omega arith) ∙ ap (λ (b : Bool). b || is_listed a xs) (eq-eqb x a e) in
      ap (λ (b : Bool). cond b (a ∷ []) [] ++ numbers_from t (suc a) n) here
      ∙ (λ i. sym e i ∷ numbers_are n (suc a) t xs (subst (λ (k : ℕ). From (suc k) xs) e rest)
      (λ j l h. same j (omega (arith, l)) (omega (arith, h)) ∙ ap (λ (b : Bool). b || is_listed j xs) (ne_eqb x j (λ q. absurd (omega (arith, q, e, l)))))
      (λ j q. let z : j < a + suc n = below j (ap (λ (b : Bool). (x == j) || b) q ∙ sym (or_true (x == j))) in omega (arith, z)) i)
  | inr ne ↦
      let up : suc a ≤ x = omega (arith, ne, low) in
      let none : t a ≡ false = same a (omega arith) (omega arith) ∙ (λ i. ne_eqb x a ne i || none_listed (suc x) a xs rest (omega (arith, up)) i) in
      ap (λ (b : Bool). cond b (a ∷ []) [] ++ numbers_from t (suc a) n) none
      ∙ numbers_are n (suc a) t (x ∷ xs) (up, rest) (λ j l h. same j (omega (arith, l)) (omega (arith, h))) (λ j q. let z : j < a + suc n = below j q in omega (arith, z))
]

pub all_listed : (d : Disk Text) (names : List Text) (l : FolderList) → Lists d names → SortedOut names l → IsListed l (folder d)
unfolding segment_numbers snapshot_numbers
all_listed d names l ls s = record {
  there = there;
  above = above;
  among = λ n t. s.among n (sym (there n (above n t)) ∙ t);
  segments = sym (
      sym (numbers_join (λ j. ((folder d).read (Segment j)).there) (λ n. segment_numbers n (folder d).read) (λ n. refl) 0 10000000000000000)
      ∙ numbers_are 10000000000000000 0 (λ j. ((folder d).read (Segment j)).there) l.segments s.segments (λ j low h. there (Segment j) h) (λ j e. listed_below j l.segments s.digits e));
  snapshots = sym (
      sym (numbers_join (λ j. ((folder d).read (Snapshot j)).there) (λ n. snapshot_numbers n (folder d).read) (λ n. refl) 0 10000000000000000)
      ∙ numbers_are 10000000000000000 0 (λ j. ((folder d).read (Snapshot j)).there) l.snapshots s.snapshots (λ j low h. there (Snapshot j) h) (λ j e. listed_below j l.snapshots s.snapshot_digits e));
  count = s.count;
}
  where
    above : (n : Name) → ((folder d).read n).there ≡ true → numbered n < 10000000000000000
    above n t = elim (cases_lt (numbered n) 10000000000000000) [
      | inl h ↦ h
      | inr h ↦ absurd (beyond_digits n h (among_name (file_name n) names s.are_names (ls.all (file_name n) t)))
    ]

    there : (n : Name) → numbered n < 10000000000000000 → ((folder d).read n).there ≡ lists l n
    there n h =
        same_test ((folder d).read n).there (is_named (file_name n) names) (λ t. among_named (file_name n) names (ls.all (file_name n) t)) (λ t. ls.there (file_name n) (named_among (file_name n) names t))
        ∙ sym (s.there n h)

    listed_below : (j : ℕ) (xs : List ℕ) → Below xs → is_listed j xs ≡ true → j < 10000000000000000
    listed_below j [] b e = absurd cc
    listed_below j (x ∷ xs) b e = elim (or_parts (x == j) (is_listed j xs) e) [
      | inl here ↦ subst (λ (k : ℕ). k < 10000000000000000) (eqb-true x j here) b.0
      | inr later ↦ listed_below j xs b.1 later
    ]

-- ---- numbers of sixteen digits

pub below_take : (n : ℕ) (xs : List ℕ) → Below xs → Below (take n xs)
below_take zero xs b = tt
below_take (suc n) [] b = tt
below_take (suc n) (x ∷ xs) b = (b.0, below_take n xs b.1)

pub below_drop : (n : ℕ) (xs : List ℕ) → Below xs → Below (drop n xs)
below_drop zero xs b = b
below_drop (suc n) [] b = tt
below_drop (suc n) (x ∷ xs) b = below_drop n xs b.1

pub below_push : (n : ℕ) (xs : List ℕ) → n < 10000000000000000 → Below xs → Below (xs ++ n ∷ [])
below_push n [] h b = (h, tt)
below_push n (x ∷ xs) h b = (b.0, below_push n xs h b.1)

pub below_at : (i : ℕ) (xs : List ℕ) (d : ℕ) → Below xs → i < length xs → get_or xs i d < 10000000000000000
below_at i [] d b h = absurd (omega (arith, h))
below_at zero (x ∷ xs) d b h = b.0
below_at (suc i) (x ∷ xs) d b h = below_at i xs d b.1 (omega (arith, h))

pub files_push : (file : File) (fs : List File) → number_of file < 10000000000000000 → FilesBelow fs → FilesBelow (fs ++ file ∷ [])
files_push file [] h b = (h, tt)
files_push file (x ∷ fs) h b = (b.0, files_push file fs h b.1)

pub files_at : (i : ℕ) (fs : List File) (d : File) → FilesBelow fs → i < length fs → number_of (get_or fs i d) < 10000000000000000
files_at i [] d b h = absurd (omega (arith, h))
files_at zero (x ∷ fs) d b h = b.0
files_at (suc i) (x ∷ fs) d b h = files_at i fs d b.1 (omega (arith, h))

-- ---- one name more, as the code takes it

pub takes_file : {E : Type 0} (t : Text) (file : File) (o : Option File) (old new : FolderList) (r : Result (Unit {0}) E) → IsFile t o → o ≡ Some file → OnOk r (new ≡ added file old) → OnOk r (TakesName t old new)
takes_file t file o old new (Ok u) is e with_it = λ ts s name.
    let f = subst (IsFile t) e is in
    subst (SortedOut (ts ++ t ∷ [])) (sym with_it) (sorted_file ts old t file s name f.0 f.1)
takes_file t file o old new (Err x) is e with_it = tt

pub takes_other : (t : Text) (o : Option File) (old : FolderList) → IsFile t o → o ≡ None → TakesName t old old
takes_other t o old is e = λ ts s name. sorted_other ts old t s name (subst (IsFile t) e is)

pub names_more_by : (names : List Text) (i : ℕ) (d : Text) (t : Text) (old new : FolderList) → i < length names → t ≡ get_or names i d → IsName t → SortedOut (take i names) old → TakesName t old new → SortedOut (take (i + 1) names) new
names_more_by names i d t old new h is name s takes = subst (λ (l : List Text). SortedOut l new) (ap (λ (x : Text). take i names ++ x ∷ []) is ∙ sym (take_more names i d h)) (takes (take i names) s name)

pub names_all : (names : List Text) (i : ℕ) (l : FolderList) → length names ≤ i → SortedOut (take i names) l → SortedOut names l
names_all names i l h s = subst (λ (x : List Text). SortedOut x l) (take_all i names h) s
