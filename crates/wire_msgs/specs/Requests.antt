-- The table of requests.
use Rattle.std.specs.Prelude.{ℕ, List, [], ◌∷◌, length, ◌/◌}
use Rattle.wire_words.specs.declared.message.Message.{Message}
use Rattle.wire_words.specs.declared.value.Dialect.TheVariants as dialects
use Rattle.wire_msgs.specs.declared.request.Request.{Request}
use Rattle.wire_msgs.specs.declared.request.Request.TheVariants.{Leader, Client, Open, Prepare, Exec, Query, Finalize, ExecSql, QuerySql, Interrupt, Connect, Add, Assign, Remove, Dump, Cluster, Transfer, Describe, Weight}
use Rattle.wire_msgs.specs.Fields.{Line, line, line_in, Word, AnyWord, Pair, Text, Params, Stands, WritesLine, HaveSpellings, body_bytes, line_bytes}

abbrev pub request_line : Request → Line
request_line Leader = line 0 (AnyWord ∷ [])
request_line (Client id) = line 1 (Word id ∷ [])
request_line (Open name flags vfs) = line 3 (Text name ∷ Word flags ∷ Text vfs ∷ [])
request_line (Prepare db sql wide) = line_in wide 4 (Word db ∷ Text sql ∷ [])
request_line (Exec db statement params wide) = line_in wide 5 (Pair db statement ∷ Params wide params ∷ [])
request_line (Query db statement params wide) = line_in wide 6 (Pair db statement ∷ Params wide params ∷ [])
request_line (Finalize db statement) = line 7 (Pair db statement ∷ [])
request_line (ExecSql db sql params wide) = line_in wide 8 (Word db ∷ Text sql ∷ Params wide params ∷ [])
request_line (QuerySql db sql params wide) = line_in wide 9 (Word db ∷ Text sql ∷ Params wide params ∷ [])
request_line (Interrupt db) = line 10 (Word db ∷ [])
request_line (Connect id address) = line 11 (Word id ∷ Text address ∷ [])
request_line (Add id address) = line 12 (Word id ∷ Text address ∷ [])
request_line (Assign id role) = line 13 (Word id ∷ Word role ∷ [])
request_line (Remove id) = line 14 (Word id ∷ [])
request_line (Dump name) = line 15 (Text name ∷ [])
request_line (Cluster format) = line 16 (Word format ∷ [])
request_line (Transfer id) = line 17 (Word id ∷ [])
request_line (Describe format) = line 18 (Word format ∷ [])
request_line (Weight weight) = line 19 (Word weight ∷ [])

-- The message represents the request, as a client may send it.
abbrev pub Reads : Message → Request → Type 0
Reads m request = Stands dialects.Client (request_line request) m

-- the one encoding of a request
abbrev pub request_bytes : Request → List ℕ
request_bytes request = line_bytes (request_line request)

-- The bytes are a message that represents the request, exactly as it is written.
abbrev pub WritesRequest : Request → List ℕ → Type 0
WritesRequest request bytes = WritesLine (request_line request) bytes

-- how many words its body has
abbrev pub request_words : Request → ℕ
request_words request = length (body_bytes (request_line request).fields) / 8

-- No text in it holds a NUL, and it has no more parameters than its tuple can have.
abbrev pub IsWritableRequest : Request → Type 0
IsWritableRequest request = HaveSpellings (request_line request).fields
