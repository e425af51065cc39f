-- What is printed of an end.
use Rattle.std.specs.Prelude.{◌==◌, ℕ, List, [], ◌∷◌, ◌++◌, codes, Result, if◌then◌else◌}
use Rattle.std.specs.List.{flat_map}
use Rattle.std.specs.Fmt.{decimal, signed_decimal}
use Rattle.hex.specs.Hex.{encode_lower}
use Rattle.wire_words.specs.declared.value.Value.{Value}
use Rattle.wire_words.specs.declared.value.Value.TheVariants as values
use Rattle.wire_rows.specs.declared.part.Part.{Part}
use Rattle.client.specs.declared.events.ClientEnd.{ClientEnd}
use Rattle.client.specs.declared.events.ClientEnd.TheVariants as client_ends

-- a byte of a text: a backslash, a tab, an LF and a CR are written as a backslash and a sign
abbrev pub escaped_byte : ℕ → List ℕ
escaped_byte byte =
    if byte == 92 then codes "\\\\" else if byte == 9 then codes "\\t" else if byte == 10 then codes "\\n" else if byte == 13 then codes "\\r" else byte ∷ []

unfoldable pub escaped : List ℕ → List ℕ
escaped text = flat_map escaped_byte text

abbrev pub blob_text : List ℕ → List ℕ
blob_text bytes = codes "x'" ++ (encode_lower bytes ++ codes "'")

-- a value: an integer in decimal, a text with its escapes, a blob in hexadecimal
unfoldable pub value_text : Value → List ℕ
value_text (values.Integer n) = signed_decimal n
value_text (values.Text text) = escaped text
value_text (values.Blob bytes) = blob_text bytes
value_text values.Null = codes "NULL"

-- an item of a line but the first
abbrev pub tabbed : {X : Type 0} → (X → List ℕ) → X → List ℕ
tabbed text item = 9 ∷ text item

-- a line of items, with a tab between them
abbrev pub line_of : {X : Type 0} → (X → List ℕ) → List X → List ℕ
line_of text [] = 10 ∷ []
line_of text (item ∷ items) = text item ++ (flat_map (tabbed text) items ++ 10 ∷ [])

-- the line of the names of columns
unfoldable pub names_line : List (List ℕ) → List ℕ
names_line names = line_of escaped names

-- the line of a row
unfoldable pub row_line : List Value → List ℕ
row_line row = line_of value_text row

-- the lines of the rows of a part
unfoldable pub part_lines : Part → List ℕ
part_lines part = flat_map row_line part.rows

-- the names of the columns once, and the rows of all parts
unfoldable pub rows_text : List Part → List ℕ
rows_text [] = []
rows_text (part ∷ parts) = names_line part.columns ++ flat_map part_lines (part ∷ parts)

-- what is printed of an end
abbrev pub end_text : ClientEnd → List ℕ
end_text (client_ends.Result changed) = codes "result " ++ (decimal changed ++ codes "\n")
end_text (client_ends.Rows parts) = rows_text parts
end_text (client_ends.Refused code text) = codes "failure " ++ (decimal code ++ (codes " " ++ (text ++ codes "\n")))
end_text (client_ends.NoLeader tries) = []
end_text client_ends.Unknown = []
