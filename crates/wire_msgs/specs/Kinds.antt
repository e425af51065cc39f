-- The types of message by their numbers, in which schemas they come, and which of them have texts or bytes.
use Rattle.std.specs.Prelude.{◌==◌, ℕ, Bool, true, false, Option, Some, None, if◌then◌else◌}
use Rattle.wire_msgs.specs.declared.request.RequestKind.{RequestKind}
use Rattle.wire_msgs.specs.declared.request.RequestKind.TheVariants as requests
use Rattle.wire_msgs.specs.declared.response.ResponseKind.{ResponseKind}
use Rattle.wire_msgs.specs.declared.response.ResponseKind.TheVariants as responses

-- the types of request of the cluster and its servers
abbrev pub cluster_kind : ℕ → Option RequestKind
cluster_kind n =
    if n == 11 then Some requests.Connect else if n == 12 then Some requests.Add else if n == 13 then Some requests.Assign
    else if n == 14 then Some requests.Remove else if n == 15 then Some requests.Dump else if n == 16 then Some requests.Cluster
    else if n == 17 then Some requests.Transfer else if n == 18 then Some requests.Describe
    else if n == 19 then Some requests.Weight else None

-- the type of request that a number represents; 2 represents none
abbrev pub request_kind : ℕ → Option RequestKind
request_kind n =
    if n == 0 then Some requests.Leader else if n == 1 then Some requests.Client else if n == 3 then Some requests.Open
    else if n == 4 then Some requests.Prepare else if n == 5 then Some requests.Exec else if n == 6 then Some requests.Query
    else if n == 7 then Some requests.Finalize else if n == 8 then Some requests.ExecSql
    else if n == 9 then Some requests.QuerySql else if n == 10 then Some requests.Interrupt else cluster_kind n

-- the greatest schema of a request of this type
abbrev pub request_top_schema : RequestKind → ℕ
request_top_schema requests.Prepare = 1
request_top_schema requests.Exec = 1
request_top_schema requests.Query = 1
request_top_schema requests.ExecSql = 1
request_top_schema requests.QuerySql = 1
request_top_schema _ = 0

-- whether a request of this type has texts or bytes, which take memory
abbrev pub takes_memory : RequestKind → Bool
takes_memory requests.Open = true
takes_memory requests.Prepare = true
takes_memory requests.Exec = true
takes_memory requests.Query = true
takes_memory requests.ExecSql = true
takes_memory requests.QuerySql = true
takes_memory requests.Connect = true
takes_memory requests.Add = true
takes_memory requests.Dump = true
takes_memory _ = false

-- the type of response that a number represents
abbrev pub response_kind : ℕ → Option ResponseKind
response_kind n =
    if n == 0 then Some responses.Failure else if n == 1 then Some responses.Server else if n == 2 then Some responses.Welcome
    else if n == 3 then Some responses.Servers else if n == 4 then Some responses.Db else if n == 5 then Some responses.Stmt
    else if n == 6 then Some responses.Result else if n == 7 then Some responses.Rows else if n == 8 then Some responses.Empty
    else if n == 9 then Some responses.Files else if n == 10 then Some responses.Metadata else None

-- the greatest schema of a response of this type
abbrev pub response_top_schema : ResponseKind → ℕ
response_top_schema responses.Stmt = 1
response_top_schema _ = 0

-- whether a response of this type has texts, bytes or a list, which take memory
abbrev pub response_takes_memory : ResponseKind → Bool
response_takes_memory responses.Failure = true
response_takes_memory responses.Server = true
response_takes_memory responses.Servers = true
response_takes_memory responses.Rows = true
response_takes_memory responses.Files = true
response_takes_memory _ = false
