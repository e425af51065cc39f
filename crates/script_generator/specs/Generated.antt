-- The script of a load of writes at three nodes, as a function of a number and of how many writes it has.
use Rattle.std.specs.Prelude.{ℕ, zero, suc, ◌+◌, ◌*◌, ◌/◌, ◌%◌, ◌==◌, List, [], ◌∷◌, ◌++◌, codes, false, if◌then◌else◌}
use Rattle.std.specs.List.{flat_map}
use Rattle.std.specs.Fmt.{decimal}
use Rattle.hex.specs.Hex.{encode_lower}
use Rattle.wire_words.specs.Stream.{version_word}
use Rattle.wire_msgs.specs.declared.request.Request.{Request}
use Rattle.wire_msgs.specs.declared.request.Request.TheVariants.{Open, ExecSql}
use Rattle.wire_msgs.specs.Requests.{request_bytes}

-- ---- the number of each write

-- the number that follows a number
unfoldable pub number_after : ℕ → ℕ
number_after number = (number * 1103515245 + 12345) % 2147483648

-- the number of the write at a place, from 1, if the first one has the number that follows this one
unfoldable pub number_at : ℕ → ℕ → ℕ
number_at number zero = number
number_at number (suc before) = number_after (number_at number before)

-- the cell that the write of a number sets, 1 to 64, and the value that it sets it to, 0 to 999
abbrev pub cell_of : ℕ → ℕ
cell_of number = 1 + number / 65536 % 64

abbrev pub value_of : ℕ → ℕ
value_of number = number % 1000

-- ---- what the client sends

-- OPEN of the database `d`
abbrev pub open_request : Request
open_request = Open (codes "d") 0 (codes "volatile")

-- the statement of a write, as `SET 7 590`
unfoldable pub statement : ℕ → List ℕ
statement number = codes "SET " ++ (decimal (cell_of number) ++ (codes " " ++ decimal (value_of number)))

-- EXEC_SQL of that statement in schema 0, without parameters, in the database that is open
abbrev pub set_request : ℕ → Request
set_request number = ExecSql 0 (statement number) [] false

-- the word of the version and OPEN
unfoldable pub opening_bytes : List ℕ
opening_bytes = version_word ++ request_bytes open_request

unfoldable pub set_bytes : ℕ → List ℕ
set_bytes number = request_bytes (set_request number)

-- ---- the lines

-- the client of connection 1 sends bytes
abbrev pub bytes_line : List ℕ → List ℕ
bytes_line bytes = codes "bytes 1 " ++ encode_lower bytes

-- three nodes, of which node 1 is elected, and a client of it that opens the database
unfoldable pub opening_lines : List (List ℕ)
opening_lines =
    codes "nodes 3" ∷ codes "timeout 1" ∷ codes "settle 100" ∷ codes "connect 1 1" ∷ bytes_line opening_bytes ∷ codes "settle 100" ∷ []

-- after each hundredth write node 3 crashes and is started again
unfoldable pub restart_lines : ℕ → List (List ℕ)
restart_lines place = if place % 100 == 0 then codes "crash 3" ∷ codes "start 3" ∷ [] else []

-- the write of a number, at its place from 1
unfoldable pub write_lines : ℕ → ℕ → List (List ℕ)
write_lines number place = bytes_line (set_bytes number) ∷ codes "settle 100" ∷ restart_lines place

-- the script of this many writes: that of one write more has the lines of this write after it
unfoldable pub script_lines : ℕ → ℕ → List (List ℕ)
script_lines number zero = opening_lines
script_lines number (suc writes) = script_lines number writes ++ write_lines (number_at number (suc writes)) (suc writes)

-- lines as a text, with an LF after each
unfoldable pub text_of : List (List ℕ) → List ℕ
text_of lines = flat_map (λ line. line ++ codes "\n") lines

-- the whole script
abbrev pub script_text : ℕ → ℕ → List ℕ
script_text number writes = text_of (script_lines number writes)
