-- The table of responses.
use Rattle.std.specs.Prelude.{◌==◌, ℕ, Bool, true, false, List, [], ◌∷◌, length, ◌/◌, Option, Some, None}
use Rattle.std.specs.List.{flat_map, AllByRecursion}
use Rattle.wire_words.specs.declared.message.Message.{Message}
use Rattle.wire_words.specs.declared.value.Dialect.TheVariants as dialects
use Rattle.wire_msgs.specs.declared.response.NodeInfo.{NodeInfo}
use Rattle.wire_msgs.specs.declared.response.File.{File}
use Rattle.wire_msgs.specs.declared.response.Response.{Response}
use Rattle.wire_msgs.specs.declared.response.Response.TheVariants as responses
use Rattle.wire_msgs.specs.Fields.{Field, Line, line, line_in, Word, Pair, Text, Blob, Rest, Stands, WritesLine, HaveSpellings, body_bytes, line_bytes}

-- a number that may be there
abbrev pub optional : Option ℕ → List Field
optional None = []
optional (Some n) = Word n ∷ []

abbrev pub is_there : Option ℕ → Bool
is_there None = false
is_there (Some n) = true

-- a server in a list, with its role where the list has roles
abbrev pub server_fields : NodeInfo → List Field
server_fields server = Word server.id ∷ Text server.address ∷ optional server.role

abbrev pub file_fields : File → List Field
file_fields file = Text file.name ∷ Blob file.content ∷ []

abbrev pub response_line : Response → Line
response_line (responses.Failure code message) = line 0 (Word code ∷ Text message ∷ [])
response_line (responses.Server id address) = line 1 (Word id ∷ Text address ∷ [])
response_line (responses.Welcome timeout) = line 2 (Word timeout ∷ [])
response_line (responses.Servers servers) = line 3 (Word (length servers) ∷ flat_map server_fields servers)
response_line (responses.Db id) = line 4 (Pair id 0 ∷ [])
response_line (responses.Stmt db id params tail) = line_in (is_there tail) 5 (Pair db id ∷ Word params ∷ optional tail)
response_line (responses.Result last_insert_id rows_affected) = line 6 (Word last_insert_id ∷ Word rows_affected ∷ [])
response_line (responses.Rows body) = line 7 (Rest body ∷ [])
response_line responses.Empty = line 8 (Word 0 ∷ [])
response_line (responses.Files files) = line 9 (Word (length files) ∷ flat_map file_fields files)
response_line (responses.Metadata failure_domain weight) = line 10 (Word failure_domain ∷ Word weight ∷ [])

-- a server has a role exactly in a list that has roles
abbrev pub HasRole : Bool → Option ℕ → Type 0
HasRole false None = Unit {0}
HasRole true (Some role) = Unit {0}
HasRole _ _ = ⊥

-- a list of servers has roles exactly in format 1
abbrev pub IsInFormat : Bool → Response → Type 0
IsInFormat roles (responses.Servers servers) = AllByRecursion (λ (server : NodeInfo). HasRole roles server.role) servers
IsInFormat roles response = Unit {0}

-- The message represents the response, in this format of its list of servers.
pub record ReadsResponse (format : ℕ) (m : Message) (response : Response) : Type 0 where
  pub stands : Stands dialects.Exact (response_line response) m
  pub in_format : IsInFormat (format == 1) response

-- the one encoding of a response
abbrev pub response_bytes : Response → List ℕ
response_bytes response = line_bytes (response_line response)

-- The bytes are a message that represents the response.
abbrev pub Writes : Response → List ℕ → Type 0
Writes response bytes = WritesLine (response_line response) bytes

-- how many words its body has
abbrev pub response_words : Response → ℕ
response_words response = length (body_bytes (response_line response).fields) / 8

-- No text in it holds a NUL, and a body of rows is whole words.
abbrev pub IsWritable : Response → Type 0
IsWritable response = HaveSpellings (response_line response).fields
