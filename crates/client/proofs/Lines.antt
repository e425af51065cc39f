-- Lines that are printed.
use Rattle.std.proofs.Common.{◌≡◌, ◌∷◌, ◌++◌, ℕ, List, [], length, sym, ap, ◌∙◌}
use Rattle.std.specs.List.{flat_map}
use Rattle.std.specs.Prelude.{Result, Ok, Err, OnOk}
use Rattle.std.specs.declared.alloc.AllocError.{AllocError}
use Rattle.wire_words.specs.declared.value.Value.{Value}
use Rattle.wire_rows.specs.declared.part.Part.{Part}
use Rattle.std.proofs.lemmas.List.{nil_from_length, append_assoc, append-nil}
use Rattle.client.specs.Printing.{escaped, value_text, tabbed, line_of, names_line, row_line, part_lines, rows_text}

module _ {X : Type 0} (text : X → List ℕ) where
  nothing : (items : List X) → length items ≡ 0 → line_of text items ≡ 10 ∷ []
  nothing items e = ap (line_of text) (nil_from_length items e)

  items_are : (old : List ℕ) (items : List X) (first : X) (rest : List X) → items ≡ first ∷ rest
      → ((old ++ text first) ++ flat_map (tabbed text) rest) ++ 10 ∷ [] ≡ old ++ line_of text items
  items_are old items first rest e =
      append_assoc (old ++ text first) (flat_map (tabbed text) rest) (10 ∷ [])
      ∙ append_assoc old (text first) (flat_map (tabbed text) rest ++ 10 ∷ [])
      ∙ ap (λ (xs : List X). old ++ line_of text xs) (sym e)

pub no_names : (names : List (List ℕ)) → length names ≡ 0 → names_line names ≡ 10 ∷ []
unfolding names_line
no_names names e = nothing escaped names e

pub names_are : (old : List ℕ) (names : List (List ℕ)) (first : List ℕ) (rest : List (List ℕ)) → names ≡ first ∷ rest
    → ((old ++ escaped first) ++ flat_map (tabbed escaped) rest) ++ 10 ∷ [] ≡ old ++ names_line names
unfolding names_line
names_are old names first rest e = items_are escaped old names first rest e

pub no_values : (values : List Value) → length values ≡ 0 → row_line values ≡ 10 ∷ []
unfolding row_line
no_values values e = nothing value_text values e

pub row_is : (old : List ℕ) (values : List Value) (first : Value) (rest : List Value) → values ≡ first ∷ rest
    → ((old ++ value_text first) ++ flat_map (tabbed value_text) rest) ++ 10 ∷ [] ≡ old ++ row_line values
unfolding row_line
row_is old values first rest e = items_are value_text old values first rest e

pub no_table : (old : List ℕ) (parts : List Part) → length parts ≡ 0 → old ≡ old ++ rows_text parts
unfolding rows_text
no_table old parts e = sym (append-nil old) ∙ ap (λ (xs : List Part). old ++ rows_text xs) (sym (nil_from_length parts e))

table_is : (old : List ℕ) (parts : List Part) (first : Part) (rest : List Part) → parts ≡ first ∷ rest
    → (old ++ names_line first.columns) ++ flat_map part_lines parts ≡ old ++ rows_text parts
unfolding rows_text
table_is old parts first rest e =
    append_assoc old (names_line first.columns) (flat_map part_lines parts)
    ∙ ap (λ (xs : List Part). old ++ (names_line first.columns ++ flat_map part_lines xs)) e
    ∙ ap (λ (xs : List Part). old ++ rows_text xs) (sym e)

pub table_put : (r : Result Unit AllocError) (old mid new : List ℕ) (columns : List (List ℕ)) (parts : List Part) (first : Part) (rest : List Part) → parts ≡ first ∷ rest
    → columns ≡ first.columns → mid ≡ old ++ names_line columns → OnOk r (new ≡ mid ++ flat_map part_lines parts) → OnOk r (new ≡ old ++ rows_text parts)
table_put (Err f) old mid new columns parts first rest e c m h = tt
table_put (Ok x) old mid new columns parts first rest e c m h =
    h ∙ ap (λ (xs : List ℕ). xs ++ flat_map part_lines parts) (m ∙ ap (λ (names : List (List ℕ)). old ++ names_line names) c) ∙ table_is old parts first rest e
