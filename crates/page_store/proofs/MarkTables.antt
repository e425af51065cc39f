-- Tables of marks: a place that is free, the least mark, marks that are lowered.
use Rattle.std.proofs.Common.{◌≡◌, ℕ, zero, suc, ◌+◌, ◌<◌, ◌≤◌, ◌⊎◌, true, cond, min, List, [], ◌∷◌, ◌++◌, length, map, take, drop, get_or, set, Option, Some, None, refl, sym, ap, ◌∙◌, append-nil, zero-add, arith, inl, inr}
use Rattle.std.specs.Prelude.{count_by, is_some, is_none, MatchOption}
use Rattle.std.specs.List.{position, position_or_len}
use Rattle.std.proofs.lemmas.Bool.{cases_lt, cond-true, lt-ltb, false≢true}
use Rattle.std.proofs.lemmas.List.{get_or-set_same, take_more_set, drop_more, drop-set-lt, take_all, drop_all, append_assoc}
use Rattle.std.proofs.lemmas.List.Sums.{count_by-le-length, sum_by-cons}
use Rattle.std.proofs.lemmas.List.Quantifiers.{position-Some}
use Rattle.page_store.specs.Marks.{mark_at, Pinned, NoneLive, IsLeastMark, lesser, least_from, least_mark}

-- ---- a free place

is_missing : (mark : Option ℕ) → is_none mark ≡ true → mark ≡ None
is_missing None e = refl
is_missing (Some mark) e = absurd (false≢true e)

pub pinned_at : (table : List (Option ℕ)) (place mark : ℕ) → position is_none table ≡ Some place → Pinned table (set table place (Some mark)) place mark
pinned_at table place mark e =
    let p = position-Some is_none table place None e in
    record {
      was_free = is_missing (get_or table place None) p.1;
      is_live = get_or-set_same table place (Some mark) None p.0;
      table = refl;
    }

counted : (mark : ℕ) (table : List (Option ℕ)) → count_by is_some (Some mark ∷ table) ≡ 1 + count_by is_some table
counted mark table = sum_by-cons (λ (x : Option ℕ). cond (is_some x) 1 0) (Some mark) table

uncounted : (table : List (Option ℕ)) → count_by is_some (None ∷ table) ≡ count_by is_some table
uncounted table = sum_by-cons (λ (x : Option ℕ). cond (is_some x) 1 0) None table ∙ zero-add (count_by is_some table)

fewer_than_places : (table : List (Option ℕ)) (place : ℕ) → place < length table → get_or table place None ≡ None → count_by is_some table < length table
fewer_than_places [] place inside e = absurd (omega arith)
fewer_than_places (None ∷ table) zero inside e = omega (arith, uncounted table, count_by-le-length is_some table)
fewer_than_places (Some mark ∷ table) zero inside e = absurd cc
fewer_than_places (None ∷ table) (suc place) inside e = omega (arith, uncounted table, fewer_than_places table place (omega arith) e)
fewer_than_places (Some mark ∷ table) (suc place) inside e =
    omega (arith, counted mark table, fewer_than_places table place (omega arith) e)

pub room_at : (table : List (Option ℕ)) (place : ℕ) → position is_none table ≡ Some place → count_by is_some table < length table
room_at table place e =
    let p = position-Some is_none table place None e in
    fewer_than_places table place p.0 (is_missing (get_or table place None) p.1)

all_counted : (table : List (Option ℕ)) → length table ≤ position_or_len is_none table → count_by is_some table ≡ length table
all_counted [] h = refl
all_counted (None ∷ table) h = absurd (omega arith)
all_counted (Some mark ∷ table) h =
    let passed : position_or_len is_none (Some mark ∷ table) ≡ 1 + position_or_len is_none table = refl in
    omega (arith, counted mark table, all_counted table (omega (arith, passed)))

pub none_free : (table : List (Option ℕ)) → position is_none table ≡ None → count_by is_some table ≡ length table
none_free table e =
    elim (cases_lt (position_or_len is_none table) (length table)) [
      | inl lt ↦ let found : position is_none table ≡ Some (position_or_len is_none table) = cond-true _ _ _ (lt-ltb (position_or_len is_none table) (length table) lt) in absurd cc
      | inr le ↦ all_counted table le
    ]

-- ---- the least mark

number_of : Option ℕ → ℕ
number_of None = 0
number_of (Some mark) = mark

same_number : (a b : ℕ) → Some a ≡ Some b → a ≡ b
unfolding number_of
same_number a b e = ap number_of e

least_from-le : (mark : ℕ) (table : List (Option ℕ)) (least : ℕ) → least_from (Some mark) table ≡ Some least → least ≤ mark
least_from-le mark [] least e = let same : mark ≡ least = same_number mark least e in omega arith
least_from-le mark (None ∷ table) least e = least_from-le mark table least e
least_from-le mark (Some other ∷ table) least e = let h : least ≤ min mark other = least_from-le (min mark other) table least e in omega arith

none_below : (first : Option ℕ) (table : List (Option ℕ)) (least : ℕ) → least_from first table ≡ Some least → (id mark : ℕ) → mark_at table id ≡ Some mark → least ≤ mark
none_below first [] least e id mark h = absurd cc
none_below first (None ∷ table) least e zero mark h = absurd cc
none_below None (Some other ∷ table) least e zero mark h = let same : other ≡ mark = same_number other mark h in let le : least ≤ other = least_from-le other table least e in omega arith
none_below (Some first) (Some other ∷ table) least e zero mark h = let same : other ≡ mark = same_number other mark h in let le : least ≤ min first other = least_from-le (min first other) table least e in omega arith
none_below first (other ∷ table) least e (suc id) mark h = none_below (lesser first other) table least e id mark h

lesser_is : (first other : Option ℕ) (least : ℕ) → lesser first other ≡ Some least → (first ≡ Some least) ⊎ (other ≡ Some least)
lesser_is None other least e = inr e
lesser_is (Some first) None least e = inl e
lesser_is (Some first) (Some other) least e =
    let same : min first other ≡ least = same_number (min first other) least e in
    elim (cases_lt first other) [
      | inl lt ↦ let is : first ≡ least = omega arith in inl (ap (λ (n : ℕ). Some n) is)
      | inr le ↦ let is : other ≡ least = omega arith in inr (ap (λ (n : ℕ). Some n) is)
    ]

stands_somewhere : (first : Option ℕ) (table : List (Option ℕ)) (least : ℕ) → least_from first table ≡ Some least → (first ≡ Some least) ⊎ ((id : ℕ) × (mark_at table id ≡ Some least))
stands_somewhere first [] least e = inl e
stands_somewhere first (other ∷ table) least e =
    elim (stands_somewhere (lesser first other) table least e) [
      | inl h ↦ elim (lesser_is first other least h) [ inl k ↦ inl k | inr k ↦ inr (zero, k) ]
      | inr h ↦ inr (suc h.0, h.1)
    ]

lesser_none : (first other : Option ℕ) → lesser first other ≡ None → (first ≡ None) × (other ≡ None)
lesser_none None other e = (refl, e)
lesser_none (Some first) None e = absurd cc
lesser_none (Some first) (Some other) e = absurd cc

none_anywhere : (first : Option ℕ) (table : List (Option ℕ)) → least_from first table ≡ None → (first ≡ None) × NoneLive table
none_anywhere first [] e = (e, λ id. refl)
none_anywhere first (other ∷ table) e =
    let rest = none_anywhere (lesser first other) table e in
    let both = lesser_none first other rest.0 in
    (both.0, λ id. none_at other table both.1 rest.1 id)
  where
    none_at : (other : Option ℕ) (table : List (Option ℕ)) → other ≡ None → NoneLive table → NoneLive (other ∷ table)
    none_at other table here later zero = here
    none_at other table here later (suc id) = later id

pub least_mark-none : (table : List (Option ℕ)) → least_mark table ≡ None → NoneLive table
least_mark-none table e = (none_anywhere None table e).1

pub least_mark-some : (table : List (Option ℕ)) (least : ℕ) → least_mark table ≡ Some least → IsLeastMark table least
least_mark-some table least e =
    record {
      is_live = elim (stands_somewhere None table least e) [ inl h ↦ absurd cc | inr h ↦ h ];
      none_below = none_below None table least e;
    }

-- what `least` answers means what it says
pub least_means : (table : List (Option ℕ)) (least : Option ℕ) → least ≡ least_mark table → MatchOption least (NoneLive table) (λ mark. IsLeastMark table mark)
least_means table None e = least_mark-none table (sym e)
least_means table (Some least) e = least_mark-some table least (sym e)

-- ---- marks that are lowered, from the front on

pub lower_more : (f : Option ℕ → Option ℕ) (xs total : List (Option ℕ)) (i : ℕ) (x : Option ℕ) → i < length xs → x ≡ get_or xs i x → take i xs ++ map f (drop i xs) ≡ total
    → take (i + 1) (set xs i (f x)) ++ map f (drop (i + 1) (set xs i (f x))) ≡ total
lower_more f xs total i x lt is so_far =
    let after : i < i + 1 = omega arith in
    ap (λ (ys : List (Option ℕ)). ys ++ map f (drop (i + 1) (set xs i (f x)))) (take_more_set xs i (f x) lt)
    ∙ ap (λ (ys : List (Option ℕ)). (take i xs ++ f x ∷ []) ++ map f ys) (drop-set-lt (i + 1) xs i (f x) after)
    ∙ append_assoc (take i xs) (f x ∷ []) (map f (drop (i + 1) xs))
    ∙ ap (λ (y : Option ℕ). take i xs ++ (f y ∷ map f (drop (i + 1) xs))) is
    ∙ ap (λ (ys : List (Option ℕ)). take i xs ++ map f ys) (sym (drop_more xs i x lt))
    ∙ so_far

pub lower_all : (f : Option ℕ → Option ℕ) (xs total : List (Option ℕ)) (i : ℕ) → length xs ≤ i → take i xs ++ map f (drop i xs) ≡ total → xs ≡ total
lower_all f xs total i le so_far =
    sym (append-nil xs)
    ∙ ap (λ (ys : List (Option ℕ)). ys ++ []) (sym (take_all i xs le))
    ∙ ap (λ (ys : List (Option ℕ)). take i xs ++ map f ys) (sym (drop_all i xs le))
    ∙ so_far
