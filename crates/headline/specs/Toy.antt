-- The premises of these laws can be met: a language of three statements, with transactions.
use Rattle.std.specs.Prelude.{◌≡◌, ◌⊎◌, ℕ, Bool, true, false, not, List, [], ◌∷◌, codes, Err}
use Rattle.dq_base.specs.declared.images.Image.{Image}
use Rattle.wire_msgs.specs.declared.response.Response.{Response}
use Rattle.wire_msgs.specs.declared.response.Response.TheVariants as responses
use Rattle.wire_rows.specs.declared.part.More.TheVariants.{Last}
use Rattle.wire_rows.specs.Spelling.{body_bytes}
use Rattle.sql_scan.specs.declared.pieces.StatementSpan.{StatementSpan}
use Rattle.sql_scan.specs.declared.fault.ScanFault.TheVariants as faults
use Rattle.sql_scan.specs.declared.heading.WordKind.{WordKind}
use Rattle.sql_scan.specs.declared.heading.WordKind.TheVariants as words
use Rattle.sql_scan.specs.Statements.{scan_of}
use Rattle.sql_engine.specs.Replies.{Reply}
use Rattle.sql_engine.specs.Meanings.{Meaning}
use Rattle.headline.specs.Laws.{IsSole, MarksImages, MovesImages, KeepsUnmarked, NeverSends, AllowsReading}

-- INSERT puts a byte at the front of the main file, UPDATE at that of the other file; SELECT sends a column if the main file has a byte.
abbrev pub inserted : Image → Image
inserted image = record { main = 1 ∷ image.main; side = image.side }

abbrev pub updated : Image → Image
updated image = record { main = image.main; side = 1 ∷ image.side }

abbrev pub one_row : Reply
one_row = record { affected = 1; columns = []; rows = [] }

abbrev pub selected : List ℕ → Reply
selected [] = record { affected = 0; columns = []; rows = [] }
selected (x ∷ xs) = record { affected = 0; columns = codes "n" ∷ []; rows = [] }

abbrev pub toy : Meaning
toy = record {
  runs = λ before s after reply.
      ((s.text ≡ codes "INSERT") × (after ≡ inserted before) × (reply ≡ one_row))
      ⊎ (((s.text ≡ codes "UPDATE") × (after ≡ updated before) × (reply ≡ one_row))
      ⊎ ((s.text ≡ codes "SELECT") × (after ≡ before) × (reply ≡ selected before.main)));
  refuses = λ image s refusal. ⊥;
}

abbrev pub has_byte : List ℕ → Bool
has_byte [] = false
has_byte (x ∷ xs) = true

abbrev pub marked : Image → Bool
marked image = has_byte image.main

abbrev pub marked_aside : Image → Bool
marked_aside image = has_byte image.side

-- a statement that is a whole text of this length
abbrev pub span : ℕ → WordKind → StatementSpan
span length word = record { start = 0; end = length; word = word; params = 0; after = length }

abbrev pub rows_of : List (List ℕ) → List Response
rows_of columns = responses.Rows (body_bytes columns [] Last) ∷ []

abbrev pub PremisesAreMet : Type 0
PremisesAreMet =
    MarksImages toy marked (codes "INSERT") (span 6 words.Write) × MovesImages toy (codes "INSERT") (span 6 words.Write)
    × MarksImages toy marked_aside (codes "UPDATE") (span 6 words.Write) × MovesImages toy (codes "UPDATE") (span 6 words.Write) ×
    KeepsUnmarked toy marked (codes "UPDATE") (span 6 words.Write)
    × NeverSends toy marked (codes "SELECT") (span 6 words.Other) (rows_of []) ×
    NeverSends toy (λ image. not (marked image)) (codes "SELECT") (span 6 words.Other) (rows_of (codes "n" ∷ []))
    × KeepsUnmarked toy marked (codes "SELECT") (span 6 words.Other)
    × AllowsReading toy (codes "INSERT") (codes "SELECT") (span 6 words.Write) (span 6 words.Other) (record { main = 1 ∷ []; side = [] }) one_row
    (selected (1 ∷ [])) (rows_of (codes "n" ∷ []))
    × IsSole (codes "BEGIN") (span 5 (words.Begin false)) (words.Begin false) × IsSole (codes "COMMIT") (span 6 words.Commit) words.Commit ×
    IsSole (codes "ROLLBACK") (span 8 words.Rollback) words.Rollback
    × IsSole (codes "PRAGMA") (span 6 words.LeftOut) words.LeftOut
    × (scan_of (codes "'") ≡ Err (faults.OpenQuote 0))
