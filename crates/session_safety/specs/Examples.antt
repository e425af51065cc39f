-- Small lives that are computed: what the laws speak of happens.
use Rattle.std.specs.Prelude.{◌≡◌, ℕ, ◌+◌, true, false, List, [], ◌∷◌, ◌++◌, map, codes, None, Ok, Err}
use Rattle.dq_base.specs.declared.images.Image.{Image}
use Rattle.dq_base.specs.Images.{page_at}
use Rattle.dq_base.specs.Changes.{changed}
use Rattle.wire_msgs.specs.declared.request.Request.TheVariants.{Open, ExecSql, QuerySql}
use Rattle.sql_engine.specs.declared.answer.StatementResult.{StatementResult}
use Rattle.sql_engine.specs.declared.fault.EngineFault.TheVariants as engine_faults
use Rattle.sql_engine.specs.declared.kind.EngineKind.TheVariants.{Cells}
use Rattle.sql_engine.specs.Cells.{with_cell, cell_rows, cells}
use Rattle.database_state.specs.Files.{empty_image}
use Rattle.session_spec.specs.Causes.{NotLeader, LeadershipLost, Locked, OutOfDate, OutOfMemory}
use Rattle.session_spec.specs.Entries.{Other}
use Rattle.session_spec.specs.Machine.{image_at}
use Rattle.session_spec.specs.Sessions.{Reply, Refusal, Rows, result, db}
use Rattle.session_safety.specs.Nodes.{Said, Node, Standing, started}
use Rattle.session_safety.specs.Life.{Event, Connect, Hangup, Call, Resume, Done, Apply, Lose, Lead, Serve, Append, Follow, run_from, AllFit}

-- ---- the engine of cells, of which cell 1 is set and read

-- the image with this value in its first cell
abbrev pub with_value : Image → ℕ → Image
with_value image value = with_cell image 1 value

abbrev pub set_text : ℕ → List ℕ
set_text digit = codes "SET 1 " ++ (48 + digit) ∷ []

-- what the engine answers where the cell is set
abbrev pub set_on : Image → ℕ → StatementResult
set_on image value = record { after = record { tx = 0; pages = changed image (with_value image value) }; affected = 1; columns = []; rows = [] }

-- and if it is read
abbrev pub got_on : Image → StatementResult
got_on image = record { after = record { tx = 0; pages = [] }; affected = 0; columns = codes "v" ∷ []; rows = cell_rows (page_at image 2) }

-- ---- events

abbrev pub alone_here : Standing
alone_here = record { id = 1; leader = None; servers = []; links = false; readers = false; even = []; near = [] }

abbrev pub opens : ℕ → Event
opens conn = Call conn alone_here (Open (codes "d") 0 (codes "volatile")) []

-- a text that begins or ends a transaction
abbrev pub says_so : ℕ → List ℕ → Event
says_so conn sql = Call conn alone_here (ExecSql 0 sql [] false) []

-- the cell is set over this image, to a digit
abbrev pub sets : ℕ → Image → ℕ → Event
sets conn image digit = Call conn alone_here (ExecSql 0 (set_text digit) [] false) (Ok (set_on image digit) ∷ [])

-- the cell is read over this image
abbrev pub gets : ℕ → Image → Event
gets conn image = Call conn alone_here (QuerySql 0 (codes "GET 1") [] false) (Ok (got_on image) ∷ [])

-- A node leads term 1 and serves, and connections 1 and 2 have the database `d`.
unfoldable pub two_open : List Event
two_open = Lead 1 ∷ Append (Other ∷ []) ∷ Apply ∷ Serve ∷ Connect 1 ∷ Connect 2 ∷ opens 1 ∷ Apply ∷ opens 2 ∷ []

unfoldable pub after : List Event → Node
after es = run_from (started [] 0 0) (two_open ++ es)

-- what is said to whom after the two opens
abbrev pub replies : List Event → List (ℕ × Reply)
replies es = map (λ (x : Said). (x.conn, x.reply)) (after es).said

-- ---- what comes of them

abbrev pub opened : List (ℕ × Reply) → List (ℕ × Reply)
opened more = (1, db) ∷ (2, db) ∷ more

-- images with a digit in the cell: the first, and a second over it
abbrev pub one : ℕ → Image
one digit = with_value empty_image digit

abbrev pub two : ℕ → ℕ → Image
two first second = with_value (one first) second

-- A write is answered when its entry is applied, and not before; then all read it.
pub record WriteWaits : Type 0 where
  pub waits : replies (sets 1 empty_image 9 ∷ []) ≡ opened []
  pub done : replies (sets 1 empty_image 9 ∷ Apply ∷ gets 2 (one 9) ∷ []) ≡ opened ((1, result 1) ∷ (2, Rows (got_on (one 9))) ∷ [])
  pub image : image_at (after (sets 1 empty_image 9 ∷ [])).log 3 (codes "d") ≡ one 9

-- A transaction reads its own image while another session commits, and can't change it then; after its end it sees the
-- commit.
abbrev pub OldImages : Type 0
OldImages =
    replies (sets 2 empty_image 7 ∷ Apply ∷ says_so 1 (codes "BEGIN") ∷ gets 1 (one 7) ∷ sets 2 (one 7) 8 ∷ Apply ∷ gets 1 (one 7) ∷ sets 1 (one 7) 9 ∷ says_so 1 (codes "ROLLBACK") ∷ gets 1 (two 7 8) ∷ [])
    ≡ opened ((2, result 1) ∷ (1, result 0) ∷ (1, Rows (got_on (one 7))) ∷ (2, result 1) ∷ (1, Rows (got_on (one 7))) ∷ (1, Refusal OutOfDate) ∷ (1, result 0) ∷ (1, Rows (got_on (two 7 8))) ∷ [])

-- The write lock keeps others' writes out, and not their reads; a hang-up ends it.
abbrev pub TurnEnds : Type 0
TurnEnds =
    replies (says_so 1 (codes "BEGIN IMMEDIATE") ∷ sets 2 empty_image 1 ∷ gets 2 empty_image ∷ Hangup 1 ∷ sets 2 empty_image 1 ∷ Apply ∷ [])
    ≡ opened ((1, result 0) ∷ (2, Refusal Locked) ∷ (2, Rows (got_on empty_image)) ∷ (2, result 1) ∷ [])

-- A proposal outlives a hang-up with its turn, and is answered to nobody.
abbrev pub ProposalStays : Type 0
ProposalStays =
    replies (sets 1 empty_image 3 ∷ Hangup 1 ∷ sets 2 empty_image 1 ∷ Apply ∷ sets 2 (one 3) 1 ∷ Apply ∷ [])
    ≡ opened ((2, Refusal Locked) ∷ (2, result 1) ∷ [])

-- Leadership is lost before the entry is applied. Others cut it off, and the write stands nowhere.
pub record LeadershipGoes : Type 0 where
  pub told : replies (sets 1 empty_image 5 ∷ Lose 2 ∷ Follow (record { term = 2; content = Other } ∷ []) ∷ Apply ∷ sets 1 empty_image 5 ∷ []) ≡ opened ((1, Refusal LeadershipLost) ∷ (1, Refusal NotLeader) ∷ [])
  pub image : image_at (after (sets 1 empty_image 5 ∷ Lose 2 ∷ Follow (record { term = 2; content = Other } ∷ []) ∷ Apply ∷ [])).log 3 (codes "d") ≡ empty_image

-- a connection that opens the database with barrier reads
abbrev pub opens_fresh : ℕ → Event
opens_fresh conn = Call conn alone_here (Open (codes "d") 4294967296 (codes "volatile")) []

-- A query with barrier reads waits for its barrier, and reads what was proposed before it; or it is refused as leadership is
-- lost before.
pub record BarrierWaits : Type 0 where
  pub waits : replies (Connect 3 ∷ opens_fresh 3 ∷ sets 1 empty_image 9 ∷ gets 3 empty_image ∷ Apply ∷ []) ≡ opened ((3, db) ∷ (1, result 1) ∷ [])
  pub reads : replies (Connect 3 ∷ opens_fresh 3 ∷ sets 1 empty_image 9 ∷ gets 3 empty_image ∷ Apply ∷ Apply ∷ Resume 3 alone_here (Ok (got_on (one 9)) ∷ []) ∷ []) ≡ opened ((3, db) ∷ (1, result 1) ∷ (3, Rows (got_on (one 9))) ∷ [])
  pub lost : replies (Connect 3 ∷ opens_fresh 3 ∷ gets 3 empty_image ∷ Lose 2 ∷ []) ≡ opened ((3, db) ∷ (3, Refusal LeadershipLost) ∷ [])

-- the same node with readers that work for it
abbrev pub with_readers : Standing
with_readers = record alone_here { readers = true }

-- the cell is read, and the engine gives up as that takes too many steps
abbrev pub gets_long : ℕ → Event
gets_long conn = Call conn with_readers (QuerySql 0 (codes "GET 1") [] false) (Err engine_faults.Cut ∷ [])

-- A query that is interrupted is lent to a reader, who says what it read in the image of that moment: others write meanwhile, and the
-- connection handles nothing else. Without readers, and inside a transaction, it is refused.
pub record ReadersTell : Type 0 where
  pub lent : replies (gets_long 1 ∷ sets 2 empty_image 9 ∷ Apply ∷ says_so 1 (codes "BEGIN") ∷ Done 1 (Ok (got_on empty_image) ∷ []) ∷ gets 1 (one 9) ∷ []) ≡ opened ((2, result 1) ∷ (1, Rows (got_on empty_image)) ∷ (1, Rows (got_on (one 9))) ∷ [])
  pub given_back : replies (gets_long 1 ∷ sets 2 empty_image 9 ∷ Apply ∷ Resume 1 with_readers (Ok (got_on (one 9)) ∷ []) ∷ []) ≡ opened ((2, result 1) ∷ (1, Rows (got_on (one 9))) ∷ [])
  pub refused : replies (says_so 1 (codes "BEGIN") ∷ gets_long 1 ∷ Call 2 alone_here (QuerySql 0 (codes "GET 1") [] false) (Err engine_faults.Cut ∷ []) ∷ []) ≡ opened ((1, result 0) ∷ (1, Refusal OutOfMemory) ∷ (2, Refusal OutOfMemory) ∷ [])

-- The life of a transaction with a write and its commit, which all read then: each event fits, under the engine of cells.
unfoldable pub transaction : List Event
transaction = two_open ++ says_so 1 (codes "BEGIN") ∷ sets 1 empty_image 7 ∷ says_so 1 (codes "COMMIT") ∷ Apply ∷ gets 2 (one 7) ∷ []

abbrev pub TransactionFits : Type 0
TransactionFits = AllFit cells Cells (started [] 0 0) transaction
