-- The greatest number of a segment among names.
use Rattle.std.proofs.Common.{◌≡◌, ◌⊎◌, inl, inr, ℕ, ◌<◌, ◌≤◌, true, false, List, [], ◌∷◌, ◌++◌, length, take, get_or, ◌+◌, Option, Some, None, refl, sym, ap, ◌∙◌, subst, arith}
use Rattle.std.proofs.lemmas.Bool.{ltb-true, ltb-false}
use Rattle.std.proofs.lemmas.List.{take_more, take_all}
use Rattle.disk_model.specs.Disk.{Disk}
use Rattle.disk_model.specs.SyncAll.{Among}
use Rattle.disk_model.specs.Trait.{Text, Lists}
use Rattle.store_laws.specs.Names.{Segment}
use Rattle.segment_store.specs.FileNames.{file_name}
use Rattle.segment_store.proofs.NoTwoAlike.{no_two_alike}
use Rattle.segment_store.specs.Keeps.{folder}
use Rattle.folder_tail.specs.declared.folder.SegmentFile.{SegmentFile}
use Rattle.folder_tail.specs.Last.{IsNumberOf, is_after, IsNamed, IsGreatest, TakesName, IsLastFile}

among_front : (t : Text) (xs ys : List Text) → Among t xs → Among t (xs ++ ys)
among_front t [] ys a = absurd a
among_front t (x ∷ xs) ys (inl e) = inl e
among_front t (x ∷ xs) ys (inr a) = inr (among_front t xs ys a)

among_last : (t : Text) (xs : List Text) → Among t (xs ++ t ∷ [])
among_last t [] = inl refl
among_last t (x ∷ xs) = inr (among_last t xs)

among_either : (t u : Text) (xs : List Text) → Among t (xs ++ u ∷ []) → Among t xs ⊎ (t ≡ u)
among_either t u [] (inl e) = inr e
among_either t u [] (inr a) = absurd a
among_either t u (x ∷ xs) (inl e) = inl (inl e)
among_either t u (x ∷ xs) (inr a) = elim (among_either t u xs a) [
  | inl b ↦ inl (inr b)
  | inr e ↦ inr e
]

-- a name that is no segment's
takes_none : (name : Text) (best : Option SegmentFile) → IsNumberOf name None → TakesName name best best
takes_none name None other names greatest = λ n digits a. elim (among_either _ name names a) [
  | inl b ↦ greatest n digits b
  | inr e ↦ other n digits (sym e)
]
takes_none name (Some file) other names greatest = (
  greatest.0,
  (
    among_front _ names _ greatest.1.0,
    λ n digits a. elim (among_either _ name names a) [
      | inl b ↦ greatest.1.1 n digits b
      | inr e ↦ absurd (other n digits (sym e))
    ],
  ),
)

pub takes_other : (name text : Text) (number : Option ℕ) (best : Option SegmentFile) → text ≡ name → number ≡ None → IsNumberOf text number →
    TakesName name best best
takes_other name text number best same none is = takes_none name best (subst (λ (t : Text). IsNumberOf t None) same (subst (IsNumberOf text) none is))

pub number_named : (name text : Text) (number : Option ℕ) (n : ℕ) → text ≡ name → number ≡ Some n → IsNumberOf text number → IsNumberOf name (Some n)
number_named name text number n same some is = subst (λ (t : Text). IsNumberOf t (Some n)) same (subst (IsNumberOf text) some is)

number_is : (m n : ℕ) → file_name (Segment m) ≡ file_name (Segment n) → m ≡ n
number_is m n e = segment_is (no_two_alike (Segment m) (Segment n) e)
  where
    segment_is : Segment m ≡ Segment n → m ≡ n
    segment_is q = cc

-- the name of a segment whose number is greater
pub takes_greater : (name : Text) (n : ℕ) (best : Option SegmentFile) (now : SegmentFile) → IsNumberOf name (Some n) → now.number ≡ n → now.name ≡ name →
    is_after n best ≡ true → TakesName name best (Some now)
takes_greater name n best now is number same after names greatest =
    let small : now.number < 10000000000000000 = omega (arith, number, is.0) in
    let named : now.name ≡ file_name (Segment now.number) = same ∙ is.1 ∙ ap (λ (k : ℕ). file_name (Segment k)) (sym number) in (
      (small, named),
      (
        subst (λ (t : Text). Among t (names ++ name ∷ [])) (sym same ∙ named) (among_last name names),
        λ m digits a. elim (among_either _ name names a) [
          | inl b ↦ let low = less best m digits b after greatest in omega (arith, low, number)
          | inr e ↦ let z : m ≡ n = number_is m n (e ∙ is.1) in omega (arith, z, number)
        ],
      ),
    )
  where
    less : (best : Option SegmentFile) (m : ℕ) → m < 10000000000000000 → Among (file_name (Segment m)) names → is_after n best ≡ true →
        IsGreatest names best → m ≤ n
    less None m digits b after greatest = absurd (greatest m digits b)
    less (Some x) m digits b after greatest = let l = greatest.1.1 m digits b in let k : x.number < n = ltb-true _ _ after in omega (arith, l, k)

-- the name of a segment whose number isn't
pub takes_less : (name : Text) (n : ℕ) (best : Option SegmentFile) → IsNumberOf name (Some n) → is_after n best ≡ false → TakesName name best best
takes_less name n None is after names greatest = absurd cc
takes_less name n (Some x) is after names greatest = (
  greatest.0,
  (
    among_front _ names _ greatest.1.0,
    λ m digits a. elim (among_either _ name names a) [
      | inl b ↦ greatest.1.1 m digits b
      | inr e ↦
          let z : m ≡ n = number_is m n (e ∙ is.1) in
          let k : n ≤ x.number = ltb-false _ _ after in
          omega (arith, z, k)
    ],
  ),
)

-- ---- all names, one after the other

pub greatest_next : (names : List Text) (i : ℕ) (name : Text) (old new : Option SegmentFile) → i < length names → name ≡ get_or names i name →
    IsGreatest (take i names) old → TakesName name old new → IsGreatest (take (i + 1) names) new
greatest_next names i name old new lt is greatest takes =
    let one : take i names ++ name ∷ [] ≡ take (i + 1) names = ap (λ (x : Text). take i names ++ x ∷ []) is ∙ sym (take_more names i name lt) in
    subst (λ (xs : List Text). IsGreatest xs new) one (takes (take i names) greatest)

pub greatest_all : (names : List Text) (i : ℕ) (file : Option SegmentFile) → length names ≤ i → IsGreatest (take i names) file → IsGreatest names file
greatest_all names i file h greatest = subst (λ (xs : List Text). IsGreatest xs file) (take_all i names h) greatest

-- ---- a folder that lists these names

pub last_file : (d : Disk Text) (names : List Text) (file : Option SegmentFile) → Lists d names → IsGreatest names file → IsLastFile file (folder d).read
last_file d names None lists greatest = λ n digits there. greatest n digits (lists.all _ there)
last_file d names (Some x) lists greatest = record {
  there = lists.there _ greatest.1.0;
  last = λ m digits there. greatest.1.1 m digits (lists.all _ there);
}

pub is_named : (names : List Text) (file : Option SegmentFile) → IsGreatest names file → IsNamed file
is_named names None greatest = tt
is_named names (Some x) greatest = greatest.0
