-- Writing names and rows one after the other.
use Rattle.std.proofs.Common.{◌≡◌, ◌+◌, ◌<◌, ℕ, zero, suc, List, [], ◌∷◌, ◌++◌, length, get_or, take, drop, sym, subst, append_assoc}
use Rattle.std.specs.List.{AllByRecursion}
use Rattle.std.proofs.lemmas.List.{drop_more}
use Rattle.wire_words.specs.declared.value.Value.{Value}
use Rattle.wire_words.specs.Items.{HasNoNul}
use Rattle.wire_words.specs.Values.{AreWritable}
use Rattle.wire_rows.specs.Cut.{Rows}
use Rattle.wire_rows.specs.Spelling.{HaveNoNul}

-- what holds of all that is left holds of the next item and of what is left after it
next_of : {X : Type 0} (P : X → Type 0) (xs : List X) (i : ℕ) (x : X) → i < length xs → AllByRecursion P (drop i xs) → P (get_or xs i x) × AllByRecursion P (drop (i + 1) xs)
next_of P xs i x lt all = subst (AllByRecursion P) (drop_more xs i x lt) all

pub next_name : (names : List (List ℕ)) (i : ℕ) (name : List ℕ) → i < length names → HaveNoNul (drop i names) → HasNoNul (get_or names i name) × HaveNoNul (drop (i + 1) names)
next_name names i name lt all = next_of HasNoNul names i name lt all

pub next_row : (rows : Rows) (i : ℕ) (values : List Value) → i < length rows → AllByRecursion AreWritable (drop i rows) → AreWritable (get_or rows i values) × AllByRecursion AreWritable (drop (i + 1) rows)
next_row rows i values lt all = next_of AreWritable rows i values lt all

pub all_take : {X : Type 0} (P : X → Type 0) (n : ℕ) (xs : List X) → AllByRecursion P xs → AllByRecursion P (take n xs)
all_take P zero xs all = tt
all_take P (suc n) [] all = tt
all_take P (suc n) (x ∷ xs) all = (all.0, all_take P n xs all.1)

pub all_drop : {X : Type 0} (P : X → Type 0) (n : ℕ) (xs : List X) → AllByRecursion P xs → AllByRecursion P (drop n xs)
all_drop P zero xs all = all
all_drop P (suc n) [] all = tt
all_drop P (suc n) (x ∷ xs) all = all_drop P n xs all.1

pub take_writable : (n : ℕ) (rows part : Rows) → part ≡ take n rows → AllByRecursion AreWritable rows → AllByRecursion AreWritable part
take_writable n rows part is all = subst (AllByRecursion AreWritable) (sym is) (all_take AreWritable n rows all)

pub drop_writable : (n : ℕ) (rows rest : Rows) → rest ≡ drop n rows → AllByRecursion AreWritable rows → AllByRecursion AreWritable rest
drop_writable n rows rest is all = subst (AllByRecursion AreWritable) (sym is) (all_drop AreWritable n rows all)

-- four pieces, each after the one before
pub in_turn : (a b c d : List ℕ) → ((a ++ b) ++ c) ++ d ≡ (a ++ b) ++ (c ++ d)
in_turn a b c d = append_assoc (a ++ b) c d
