-- When a reply is right by a list of entries.
use Rattle.std.specs.Prelude.{◌≡◌, ℕ, ◌-◌, ◌<◌, ◌≤◌, List, [], ◌∷◌, length, slice_get, Option, Some, None}
use Rattle.dq_base.specs.declared.images.Image.{Image}
use Rattle.dq_base.specs.Changes.{changed}
use Rattle.log_commands.specs.Splitting.{split}
use Rattle.log_commands.specs.declared.command.Command.TheVariants.{OpenDb}
use Rattle.raft_spec.specs.Node.{Server}
use Rattle.sql_engine.specs.declared.answer.StatementResult.{StatementResult}
use Rattle.sql_engine.specs.Replies.{Reply as StatementReply}
use Rattle.sql_engine.specs.Meanings.{Meaning, reply_of}
use Rattle.sql_engine.specs.Runs.{RanAll}
use Rattle.std.specs.Prelude.{map}
use Rattle.session_spec.specs.Entries.{Content, Does, Configures, Entry, entries_of, tx_of}
use Rattle.session_spec.specs.Machine.{image_at, part}
use Rattle.session_spec.specs.Sessions.{Reply, Refusal, Single, Rows, empty, db}
use Rattle.session_safety.specs.Nodes.{Query, Commit, Said}

-- The answer is what the query's statement may give over what the transaction's statements so far reached from an image of
-- these entries; and that image is no older than what the connection had seen.
pub record QueryOk (m : Meaning) (log : List Entry) (q : Query) : Type 0 where
  pub within : q.at ≤ length log
  pub newer : q.seen ≤ q.at
  pub over : Image
  pub replies : List StatementReply
  pub so_far : RanAll m (image_at log q.at q.name) q.before over replies
  pub left : Image
  pub ran : m.runs over q.statement left (reply_of q.answer)

-- the pages that lead from one image to another, as the entries of a transaction
abbrev pub change_entries : ℕ → ℕ → List ℕ → Image → Image → List Entry
change_entries term first name before after = entries_of term (map Does (split name (record { tx = tx_of term first; pages = changed before after })))

-- The commit's entries are in this list, and nothing between them: they are the change of pages from the image right before
-- the first of them to the image after the last. Between these two images its statements ran.
pub record CommitOk (m : Meaning) (log : List Entry) (c : Commit) : Type 0 where
  pub low : 0 < c.first
  pub order : c.first ≤ c.last
  pub within : c.last ≤ length log
  pub entries : part log c.first c.last ≡ change_entries c.term c.first c.name (image_at log (c.first - 1) c.name) (image_at log c.last c.name)
  pub replies : List StatementReply
  pub ran : RanAll m (image_at log (c.first - 1) c.name) c.statements (image_at log c.last c.name) replies

abbrev pub QueryIs : Meaning → List Entry → Option Query → Type 0
QueryIs m log None = Unit {0}
QueryIs m log (Some q) = QueryOk m log q

abbrev pub CommitIs : Meaning → List Entry → Option Commit → Type 0
CommitIs m log None = Unit {0}
CommitIs m log (Some c) = CommitOk m log c

-- the answer of the query, if any, is this one
abbrev pub Answers : Option Query → StatementResult → Type 0
Answers None answer = ⊥
Answers (Some q) answer = answer ≡ q.answer

-- rows are those of the query
abbrev pub RowsAre : Reply → Option Query → Type 0
RowsAre (Refusal cause) o = Unit {0}
RowsAre (Single response) o = Unit {0}
RowsAre (Rows answer) o = Answers o answer

-- a commit, if any, is that of the entry which its reply waited for
abbrev pub EndsAt : ℕ → ℕ → Option Commit → Type 0
EndsAt index term None = Unit {0}
EndsAt index term (Some c) = (c.last ≡ index) × (c.term ≡ term)

-- at the index, from 1, stands an entry of this term with this content
abbrev pub StandsAt : List Entry → ℕ → ℕ → Content → Type 0
StandsAt log index term content = slice_get log (index - 1) ≡ Some (record { term = term; content = content })

-- the content opens the database that is told
abbrev pub IsOpening : Option (List ℕ) → Content → Type 0
IsOpening None content = ⊥
IsOpening (Some name) content = content ≡ Does (OpenDb name)

-- The entry that a reply waited for is in this list, in the reply's term. If the reply is DB the entry opens the
-- reply's database, and if it is EMPTY the entry changes the servers.
pub record EntryOk (log : List Entry) (x : Said) : Type 0 where
  pub content : Content
  pub stands : StandsAt log x.index x.term content
  pub opens : x.reply ≡ db → IsOpening x.opened content
  pub changes : x.reply ≡ empty → (servers : List Server) × (content ≡ Configures servers)

-- A reply is right by these entries: rows are those of its query, and its query and its commit are as they should be. What it
-- waited for stands, and a commit is that of the entry which it waited for.
pub record SaidOk (m : Meaning) (log : List Entry) (x : Said) : Type 0 where
  pub rows : RowsAre x.reply x.query
  pub query : QueryIs m log x.query
  pub commit : CommitIs m log x.commit
  pub ends : EndsAt x.index x.term x.commit
  pub entry : 0 < x.index → EntryOk log x

abbrev pub AllSaid : Meaning → List Entry → List Said → Type 0
AllSaid m log [] = Unit {0}
AllSaid m log (x ∷ xs) = SaidOk m log x × AllSaid m log xs
