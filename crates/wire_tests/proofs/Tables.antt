-- Lists of names and of rows that grow.
use Rattle.std.proofs.Common.{◌≡◌, ℕ, List, [], ◌∷◌, ◌++◌, length}
use Rattle.std.specs.List.{AllByRecursion}
use Rattle.wire_words.specs.declared.value.Value.{Value}
use Rattle.wire_words.specs.Items.{HasNoNul}
use Rattle.wire_rows.specs.Cut.{Rows}
use Rattle.wire_rows.specs.Spelling.{HaveNoNul, HaveWidth}

all_more : {X : Type 0} (P : X → Type 0) (xs : List X) (x : X) → AllByRecursion P xs → P x → AllByRecursion P (xs ++ x ∷ [])
all_more P [] x all one = (one, tt)
all_more P (y ∷ xs) x all one = (all.0, all_more P xs x all.1 one)

pub one_name_more : (names : List (List ℕ)) (name : List ℕ) → HaveNoNul names → HasNoNul name → HaveNoNul (names ++ name ∷ [])
one_name_more names name all one = all_more HasNoNul names name all one

pub one_row_more : (width : ℕ) (rows : Rows) (values : List Value) → HaveWidth width rows → length values ≡ width → HaveWidth width (rows ++ values ∷ [])
one_row_more width rows values all one = all_more (λ (vs : List Value). length vs ≡ width) rows values all one
