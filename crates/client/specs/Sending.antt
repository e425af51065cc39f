-- What a client sends.
use Rattle.std.specs.Prelude.{ℕ, Bool, true, false, List, [], ◌++◌, codes}
use Rattle.wire_words.specs.Stream.{version_word}
use Rattle.wire_msgs.specs.declared.request.Request.{Request}
use Rattle.wire_msgs.specs.declared.request.Request.TheVariants.{Leader, Open, ExecSql, QuerySql}
use Rattle.wire_msgs.specs.Requests.{request_bytes}

-- the word of the version, and which server leads
unfoldable pub leader_bytes : List ℕ
leader_bytes = version_word ++ request_bytes Leader

abbrev pub volatile_name : List ℕ
volatile_name = codes "volatile"

-- the database of a name is opened
unfoldable pub open_bytes : List ℕ → List ℕ
open_bytes name = request_bytes (Open name 0 volatile_name)

-- the same on a new connection, after the word of the version
unfoldable pub opening_bytes : List ℕ → List ℕ
opening_bytes name = version_word ++ open_bytes name

-- a statement in an open database, which answers rows or not
abbrev pub statement_request : Bool → ℕ → List ℕ → Request
statement_request true db sql = QuerySql db sql [] false
statement_request false db sql = ExecSql db sql [] false

unfoldable pub statement_bytes : Bool → ℕ → List ℕ → List ℕ
statement_bytes query db sql = request_bytes (statement_request query db sql)
