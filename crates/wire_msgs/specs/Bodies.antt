-- Reading the fields of a body from left to right, by its type.
use Rattle.std.specs.Prelude.{◌==◌, ◌*◌, ◌/◌, ℕ, zero, suc, Bool, true, false, List, [], ◌∷◌, length, Option, Some, None, Result, Ok, Err, if◌then◌else◌}
use Rattle.wire_words.specs.declared.fault.WordFault.{WordFault}
use Rattle.wire_words.specs.declared.fault.WordFault.TheVariants.{Pad}
use Rattle.wire_words.specs.declared.value.Value.{Value}
use Rattle.wire_words.specs.declared.value.Dialect.TheVariants as dialects
use Rattle.wire_words.specs.Reading.{◌>>=◌, Unread, word_at, pair_at, raw_at, text_at, blob_at}
use Rattle.wire_words.specs.ReadingValues.{tuple_at}
use Rattle.wire_msgs.specs.declared.request.Request.{Request}
use Rattle.wire_msgs.specs.declared.request.Request.TheVariants.{Leader, Client, Open, Prepare, Exec, Query, Finalize, ExecSql, QuerySql, Interrupt, Connect, Add, Assign, Remove, Dump, Cluster, Transfer, Describe, Weight}
use Rattle.wire_msgs.specs.declared.request.RequestKind.{RequestKind}
use Rattle.wire_msgs.specs.declared.request.RequestKind.TheVariants as requests
use Rattle.wire_msgs.specs.declared.response.NodeInfo.{NodeInfo}
use Rattle.wire_msgs.specs.declared.response.File.{File}
use Rattle.wire_msgs.specs.declared.response.Response.{Response}
use Rattle.wire_msgs.specs.declared.response.Response.TheVariants as made_of
use Rattle.wire_msgs.specs.declared.response.ResponseKind.{ResponseKind}
use Rattle.wire_msgs.specs.declared.response.ResponseKind.TheVariants as responses
use Rattle.wire_msgs.specs.Fields.{width}

-- what a reader gives: a value and what is left, or the first fault
abbrev pub Reading : Type 0 → Type 0
Reading A = Result (A × Unread) WordFault

-- what was read, made into something else
abbrev pub made : {A B : Type 0} → (A → B) → Reading A → Reading B
made make reading = reading >>= λ x. Ok (make x.0, x.1)

-- one and then the other
abbrev pub both : {A B : Type 0} → (Unread → Reading A) → (Unread → Reading B) → Unread → Reading (A × B)
both first second left = do
  a ← first left
  b ← second a.1
  Ok ((a.0, b.0), b.1)

-- ---- what several types share

abbrev pub word_text : Unread → Reading (ℕ × List ℕ)
word_text = both word_at text_at

abbrev pub two_words : Unread → Reading (ℕ × ℕ)
two_words = both word_at word_at

-- parameters: a body that ends where their tuple would begin has none
abbrev pub params_at : Bool → Unread → Reading (List Value)
params_at wide left = if length left.bytes == 0 then Ok ([], left) else tuple_at (width wide) left

abbrev pub pair_params : Bool → Unread → Reading ((ℕ × ℕ) × List Value)
pair_params wide = both pair_at (params_at wide)

abbrev pub word_text_params : Bool → Unread → Reading ((ℕ × List ℕ) × List Value)
word_text_params wide = both word_text (params_at wide)

abbrev pub text_word_text : Unread → Reading ((List ℕ × ℕ) × List ℕ)
text_word_text = both (both text_at word_at) text_at

-- ---- requests

-- the fields of a request of this type, in schema 1 where it is wide
unfoldable pub request_at : RequestKind → Bool → Unread → Reading Request
request_at requests.Leader wide left = made (λ (any : ℕ). Leader) (word_at left)
request_at requests.Client wide left = made (λ (id : ℕ). Client id) (word_at left)
request_at requests.Open wide left = made (λ (x : (List ℕ × ℕ) × List ℕ). Open x.0.0 x.0.1 x.1) (text_word_text left)
request_at requests.Prepare wide left = made (λ (x : ℕ × List ℕ). Prepare x.0 x.1 wide) (word_text left)
request_at requests.Exec wide left = made (λ (x : (ℕ × ℕ) × List Value). Exec x.0.0 x.0.1 x.1 wide) (pair_params wide left)
request_at requests.Query wide left = made (λ (x : (ℕ × ℕ) × List Value). Query x.0.0 x.0.1 x.1 wide) (pair_params wide left)
request_at requests.Finalize wide left = made (λ (x : ℕ × ℕ). Finalize x.0 x.1) (pair_at left)
request_at requests.ExecSql wide left = made (λ (x : (ℕ × List ℕ) × List Value). ExecSql x.0.0 x.0.1 x.1 wide) (word_text_params wide left)
request_at requests.QuerySql wide left = made (λ (x : (ℕ × List ℕ) × List Value). QuerySql x.0.0 x.0.1 x.1 wide) (word_text_params wide left)
request_at requests.Interrupt wide left = made (λ (db : ℕ). Interrupt db) (word_at left)
request_at requests.Connect wide left = made (λ (x : ℕ × List ℕ). Connect x.0 x.1) (word_text left)
request_at requests.Add wide left = made (λ (x : ℕ × List ℕ). Add x.0 x.1) (word_text left)
request_at requests.Assign wide left = made (λ (x : ℕ × ℕ). Assign x.0 x.1) (two_words left)
request_at requests.Remove wide left = made (λ (id : ℕ). Remove id) (word_at left)
request_at requests.Dump wide left = made (λ (name : List ℕ). Dump name) (text_at left)
request_at requests.Cluster wide left = made (λ (format : ℕ). Cluster format) (word_at left)
request_at requests.Transfer wide left = made (λ (id : ℕ). Transfer id) (word_at left)
request_at requests.Describe wide left = made (λ (format : ℕ). Describe format) (word_at left)
request_at requests.Weight wide left = made (λ (weight : ℕ). Weight weight) (word_at left)

-- ---- responses

-- a number of 32 bits, and 32 bits that have to be zero
abbrev pub half_at : Unread → Reading ℕ
half_at left = do
  both ← pair_at left
  if both.0.1 == 0 then Ok (both.0.0, both.1) else Err (Pad left.at)

-- a word that has to be zero
abbrev pub zero_at : Unread → Reading ℕ
zero_at left = do
  word ← word_at left
  if word.0 == 0 then Ok word else Err (Pad left.at)

-- a number where it is to be there
abbrev pub optional_at : Bool → Unread → Reading (Option ℕ)
optional_at false left = Ok (None, left)
optional_at true left = made (λ (n : ℕ). Some n) (word_at left)

-- this many of them
unfoldable pub many_at : {A : Type 0} → (Unread → Reading A) → ℕ → Unread → Reading (List A)
many_at one zero left = Ok ([], left)
many_at one (suc count) left = do
  first ← one left
  others ← many_at one count first.1
  Ok (first.0 ∷ others.0, others.1)

-- their number in a word, and this many of them
abbrev pub counted_at : {A : Type 0} → (Unread → Reading A) → Unread → Reading (List A)
counted_at one left = do
  count ← word_at left
  many_at one count.0 count.1

-- a server, with its role where roles are listed
unfoldable pub server_at : Bool → Unread → Reading NodeInfo
server_at roles left =
    made (λ (x : (ℕ × List ℕ) × Option ℕ). record { id = x.0.0; address = x.0.1; role = x.1 }) (both word_text (optional_at roles) left)

unfoldable pub file_at : Unread → Reading File
file_at left = made (λ (x : List ℕ × List ℕ). record { name = x.0; content = x.1 }) (both text_at (blob_at dialects.Exact) left)

-- the rest, up to a part of a word
abbrev pub rest_at : Unread → Reading (List ℕ)
rest_at left = raw_at (length left.bytes / 8 * 8) left

-- the fields of a response of this type, with the roles of servers or not, in schema 1 where it is wide
unfoldable pub response_at : ResponseKind → Bool → Bool → Unread → Reading Response
response_at responses.Failure roles wide left = made (λ (x : ℕ × List ℕ). made_of.Failure x.0 x.1) (word_text left)
response_at responses.Server roles wide left = made (λ (x : ℕ × List ℕ). made_of.Server x.0 x.1) (word_text left)
response_at responses.Welcome roles wide left = made (λ (timeout : ℕ). made_of.Welcome timeout) (word_at left)
response_at responses.Servers roles wide left = made (λ (servers : List NodeInfo). made_of.Servers servers) (counted_at (server_at roles) left)
response_at responses.Db roles wide left = made (λ (id : ℕ). made_of.Db id) (half_at left)
response_at responses.Stmt roles wide left =
    made (λ (x : ((ℕ × ℕ) × ℕ) × Option ℕ). made_of.Stmt x.0.0.0 x.0.0.1 x.0.1 x.1) (both (both pair_at word_at) (optional_at wide) left)
response_at responses.Result roles wide left = made (λ (x : ℕ × ℕ). made_of.Result x.0 x.1) (two_words left)
response_at responses.Rows roles wide left = made (λ (body : List ℕ). made_of.Rows body) (rest_at left)
response_at responses.Empty roles wide left = made (λ (nothing : ℕ). made_of.Empty) (zero_at left)
response_at responses.Files roles wide left = made (λ (files : List File). made_of.Files files) (counted_at file_at left)
response_at responses.Metadata roles wide left = made (λ (x : ℕ × ℕ). made_of.Metadata x.0 x.1) (two_words left)
