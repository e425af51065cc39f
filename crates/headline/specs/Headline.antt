-- The headline: what a client of a cluster may rely on, about what is seen of the cluster from outside.
use Rattle.std.specs.Prelude.{◌≡◌, ◌≢◌, ◌⊎◌, ℕ, suc, ◌<◌, ◌≤◌, Bool, true, false, ◌==◌, List, [], ◌∷◌, ◌++◌, length, map, take, drop, slice_get, bytes_eq, Option, Some, None, if◌then◌else◌}
use Rattle.std.specs.Option.{option_or}
use Rattle.std.specs.List.{AllByRecursion}
use Rattle.dq_base.specs.declared.images.Image.{Image}
use Rattle.wire_words.specs.declared.value.Value.{Value}
use Rattle.wire_msgs.specs.declared.request.Request.{Request}
use Rattle.wire_msgs.specs.declared.response.Response.{Response}
use Rattle.wire_msgs.specs.declared.response.Response.TheVariants as responses
use Rattle.wire_rows.specs.Cut.{cut, bodies}
use Rattle.sql_engine.specs.Replies.{Statement, Reply, plain_rows}
use Rattle.sql_engine.specs.Meanings.{Meaning}
use Rattle.sql_engine.specs.Runs.{RanAll}
use Rattle.database_state.specs.Files.{Content, empty_image}
use Rattle.session_spec.specs.Asking.{files_of}
use Rattle.headline.specs.Clients.{Client, new_client, Transaction, Idle, Begun, Lost, Purpose, Never, Opens, Begins, Commits, RollsBack, Runs, Prepares, Drops, Dumps, Empties, Other, purpose, refused, client_after, has_image, is_newest, is_led, waits_first}

-- ---- what is seen

-- What a node shows: its term, whether it leads, the index up to which it has applied its log, and its files.
pub record NodeView : Type 0 where
  pub term : ℕ
  pub leads : Bool
  pub applied : ℕ
  pub files : List Content

-- What is seen, in the order in which it happens. A message comes whole on a connection to a node: a request, or none if it does not read as one. A node
-- answers on a connection, by one response or, with rows, by one or more. A node shows its state after each of its events. A connection ends, and its number
-- is never used again. A node goes down. Of one event the messages come first, then the answers, the state of the node, and the connections that end.
pub data Observation : Type 0 where
  Asks : (node conn : ℕ) (request : Option Request) → Observation
  Answers : (node conn : ℕ) (answer : List Response) → Observation
  Shows : (node : ℕ) (view : NodeView) → Observation
  Closes : (conn : ℕ) → Observation
  GoesDown : (node : ℕ) → Observation

-- What is seen of all that happens. If a node goes down within an event, the answers that it had made in this event are never sent.
abbrev pub SeenOf : List Observation → List Observation → Type 0
SeenOf [] all = all ≡ []
SeenOf (GoesDown node ∷ h) all =
    (hidden : List (ℕ × List Response)) × (rest : List Observation)
    × (all ≡ map (λ (a : ℕ × List Response). Answers node a.0 a.1) hidden ++ GoesDown node ∷ rest) × SeenOf h rest
SeenOf (x ∷ h) all = (rest : List Observation) × (all ≡ x ∷ rest) × SeenOf h rest

-- Places count from 0.
abbrev pub IsAt : List Observation → ℕ → Observation → Type 0
IsAt h place x = slice_get h place ≡ Some x

-- the messages of a connection with their places, if the first of these observations has this place
abbrev pub asked_from : ℕ → ℕ → List Observation → List (ℕ × Option Request)
asked_from conn place [] = []
asked_from conn place (Asks node c request ∷ h) = (if c == conn then (place, request) ∷ [] else []) ++ asked_from conn (suc place) h
asked_from conn place (x ∷ h) = asked_from conn (suc place) h

-- the messages of a connection before a place
abbrev pub asked_before : ℕ → ℕ → List Observation → List (ℕ × Option Request)
asked_before conn place h = asked_from conn 0 (take place h)

-- the answers on a connection
abbrev pub answers_on : ℕ → List Observation → List (List Response)
answers_on conn [] = []
answers_on conn (Answers node c answer ∷ h) = (if c == conn then answer ∷ [] else []) ++ answers_on conn h
answers_on conn (x ∷ h) = answers_on conn h

-- The answer at one place is to the message at another one, because both have the same number on their connection.
pub record IsReply (h : List Observation) (node conn asked answered : ℕ) (request : Option Request) (answer : List Response) : Type 0 where
  pub home : ℕ
  pub asks : IsAt h asked (Asks home conn request)
  pub answers : IsAt h answered (Answers node conn answer)
  pub turn : length (asked_before conn asked h) ≡ length (answers_on conn (take answered h))

-- The node does not go down between two places.
abbrev pub StaysUp : List Observation → ℕ → ℕ → ℕ → Type 0
StaysUp h node p q = (fall : ℕ) → IsAt h fall (GoesDown node) → p < fall → fall < q → ⊥

-- After a place the node shows this next, and does not go down before.
pub record ShowsNext (h : List Observation) (node place shown : ℕ) (view : NodeView) : Type 0 where
  pub later : place < shown
  pub shows : IsAt h shown (Shows node view)
  pub first : (other : ℕ) (v : NodeView) → IsAt h other (Shows node v) → place < other → shown ≤ other
  pub up : StaysUp h node place shown

-- By the place `at` the message of the place `place` is finished: it was answered there, its connection ended there, or its node went down there. A message
-- that comes after that makes its change after this one.
pub data IsFinished (h : List Observation) (place at : ℕ) : Type 0 where
  answered : (node conn : ℕ) (request : Option Request) (answer : List Response) → IsReply h node conn place at request answer → IsFinished h place at
  closed : (node conn : ℕ) (request : Option Request) → IsAt h place (Asks node conn request) → IsAt h at (Closes conn) → IsFinished h place at
  down : (node conn : ℕ) (request : Option Request) → IsAt h place (Asks node conn request) → IsAt h at (GoesDown node) → place < at → IsFinished h place at

-- what the client of a connection knows when the message at a place is handled
abbrev pub client_at : List Observation → ℕ → ℕ → Client
client_at h conn place = client_after new_client (asked_before conn place h) (answers_on conn h)

-- what the message at a place asks for
abbrev pub purpose_at : List Observation → ℕ → ℕ → Option Request → Purpose
purpose_at h conn place request = purpose (client_at h conn place) request

-- An answer to it rests on what its node has applied by then.
abbrev pub is_newest_at : List Observation → ℕ → ℕ → Option Request → Bool
is_newest_at h conn place request = is_newest (client_at h conn place) (purpose_at h conn place request)

-- ---- changes

-- A change of a database: the place of the message that made it, and the image after it.
pub record Change : Type 0 where
  pub place : ℕ
  pub name : List ℕ
  pub after : Image

-- the image of a database after these changes, if it exists
abbrev pub image_in : List Change → List ℕ → Option Image
image_in [] name = None
image_in (c ∷ cs) name = option_or (image_in cs name) (if bytes_eq c.name name then Some c.after else None)

-- the image of a database in files
abbrev pub shown_image : List Content → List ℕ → Option Image
shown_image [] name = None
shown_image (f ∷ fs) name = if bytes_eq f.name name then Some f.image else shown_image fs name

-- The message at this place made no change.
abbrev pub NoneAt : List Change → ℕ → Type 0
NoneAt order place = (i : ℕ) (c : Change) → slice_get order i ≡ Some c → c.place ≢ place

-- No change among these is one of this database.
abbrev pub IsUntouched : List ℕ → List Change → Type 0
IsUntouched name cs = AllByRecursion (λ (c : Change). c.name ≢ name) cs

-- The messages of the first k changes came before this place.
abbrev pub AskedBefore : List Change → ℕ → ℕ → Type 0
AskedBefore order k place = (i : ℕ) (c : Change) → slice_get order i ≡ Some c → i < k → c.place < place

-- The first k changes have each change whose message was finished before this place.
abbrev pub HasPast : List Observation → List Change → ℕ → ℕ → Type 0
HasPast h order k place = (i at : ℕ) (c : Change) → slice_get order i ≡ Some c → IsFinished h c.place at → at < place → i < k

-- Statements lead from an image to another one, with these replies.
abbrev pub RanFrom : Meaning → Option Image → List Statement → Image → List Reply → Type 0
RanFrom m from ss after replies = (before : Image) × (from ≡ Some before) × RanAll m before ss after replies

-- A COMMIT brings the image to which its transaction led, and no other change of the database came since BEGIN.
abbrev pub MakesCommit : List Change → (ℕ → ℕ) → (ℕ → Image) → Transaction → Change → Type 0
MakesCommit earlier rests work Idle c = ⊥
MakesCommit earlier rests work (Begun begin last) c = (rests begin ≤ length earlier) × IsUntouched c.name (drop (rests begin) earlier) × (c.after ≡ work last)
MakesCommit earlier rests work Lost c = ⊥

-- What a message makes of the changes before: a new database; what statements outside a transaction lead to; or a commit. Nothing else makes a change.
abbrev pub MakesChange : Meaning → List Change → (ℕ → ℕ) → (ℕ → Image) → Client → Purpose → Change → Type 0
MakesChange m earlier rests work s (Opens name barriers) c = (c.name ≡ name) × (image_in earlier name ≡ None) × (c.after ≡ empty_image)
MakesChange m earlier rests work s (Runs rows ss) c = (c.name ≡ s.name) × (s.transaction ≡ Idle) ×
    ((replies : List Reply) × RanFrom m (image_in earlier s.name) ss c.after replies)
MakesChange m earlier rests work s Commits c = (c.name ≡ s.name) × MakesCommit earlier rests work s.transaction c
MakesChange m earlier rests work s _ c = ⊥

-- A change comes from a message, and is what this message makes of the changes before.
pub record ComesFromMessage (m : Meaning) (rests : ℕ → ℕ) (work : ℕ → Image) (h : List Observation) (earlier : List Change) (c : Change) : Type 0 where
  pub node : ℕ
  pub conn : ℕ
  pub request : Option Request
  pub asked : IsAt h c.place (Asks node conn request)
  pub makes : MakesChange m earlier rests work (client_at h conn c.place) (purpose_at h conn c.place request) c

-- ---- answers

-- The last reply is sent as this answer: its rows, or how many rows it changed.
abbrev pub IsSentAs : Bool → List Reply → List Response → Type 0
IsSentAs true [] answer = ⊥
IsSentAs false [] answer = answer ≡ responses.Result 0 0 ∷ []
IsSentAs true (r ∷ []) answer = (rows : List (List Value)) × (r.rows ≡ plain_rows rows) ×
    (answer ≡ map (λ (body : List ℕ). responses.Rows body) (bodies r.columns (cut r.columns rows)))
IsSentAs false (r ∷ []) answer = answer ≡ responses.Result 0 r.affected ∷ []
IsSentAs rows (r ∷ s ∷ rs) answer = IsSentAs rows (s ∷ rs) answer

-- The message at a place made the k-th change, counted from 1, which is one of this database.
pub record MadeChange (order : List Change) (place k : ℕ) (name : List ℕ) : Type 0 where
  pub number : ℕ
  pub change : Change
  pub count : k ≡ suc number
  pub found : slice_get order number ≡ Some change
  pub asked : change.place ≡ place
  pub database : change.name ≡ name

-- Outside a transaction the statements made the k-th change; or they made none, and left the image after k changes as it was.
abbrev pub RanOutside : Meaning → List Change → ℕ → ℕ → List ℕ → List Statement → List Reply → Type 0
RanOutside m order place k name ss replies =
    ((made : MadeChange order place k name) × RanFrom m (image_in (take made.number order) name) ss made.change.after replies)
    ⊎ (NoneAt order place × ((image : Image) × (image_in (take k order) name ≡ Some image) × RanAll m image ss image replies))

-- In a transaction they ran from the image after the message before, and rest on what BEGIN rests on.
abbrev pub RanInside : Meaning → List Change → (ℕ → ℕ) → (ℕ → Image) → Client → ℕ → List Statement → List Reply → Transaction → Type 0
RanInside m order rests work s place ss replies Idle = RanOutside m order place (rests place) s.name ss replies
RanInside m order rests work s place ss replies (Begun begin last) = (rests place ≡ rests begin) × NoneAt order place ×
    RanAll m (work last) ss (work place) replies
RanInside m order rests work s place ss replies Lost = ⊥

-- A COMMIT made the change of its transaction; or the transaction left the image of BEGIN as it was. No COMMIT of a lost transaction is answered by a result.
abbrev pub EndsTransaction : List Change → (ℕ → ℕ) → (ℕ → Image) → Client → ℕ → Transaction → Type 0
EndsTransaction order rests work s place Idle = ⊥
EndsTransaction order rests work s place (Begun begin last) = MadeChange order place (rests place) s.name ⊎
    (NoneAt order place × (rests place ≡ rests begin) × (work last ≡ work begin))
EndsTransaction order rests work s place Lost = ⊥

-- An answer that is no refusal is right for what was asked, and rests on the first `rests place` changes.
abbrev pub IsRightResult : Meaning → List Change → (ℕ → ℕ) → (ℕ → Image) → Client → ℕ → Purpose → List Response → Type 0
IsRightResult m order rests work s place Never answer = ⊥
IsRightResult m order rests work s place (Opens name barriers) answer = (answer ≡ responses.Db 0 ∷ []) ×
    ((image : Image) × (image_in (take (rests place) order) name ≡ Some image))
IsRightResult m order rests work s place Begins answer = (answer ≡ responses.Result 0 0 ∷ []) × (image_in (take (rests place) order) s.name ≡ Some (work place))
IsRightResult m order rests work s place Commits answer = (answer ≡ responses.Result 0 0 ∷ []) × EndsTransaction order rests work s place s.transaction
IsRightResult m order rests work s place RollsBack answer = answer ≡ responses.Result 0 0 ∷ []
IsRightResult m order rests work s place (Runs rows ss) answer = (replies : List Reply) × IsSentAs rows replies answer ×
    RanInside m order rests work s place ss replies s.transaction
IsRightResult m order rests work s place (Prepares p tail) answer = (id : ℕ) × (s.prepared id ≡ None) × (answer ≡ responses.Stmt 0 id p.params tail ∷ [])
IsRightResult m order rests work s place (Drops id) answer = answer ≡ responses.Empty ∷ []
IsRightResult m order rests work s place (Dumps name) answer = (image : Image) × (image_in (take (rests place) order) name ≡ Some image) ×
    (answer ≡ files_of name image ∷ [])
IsRightResult m order rests work s place Empties answer = answer ≡ responses.Empty ∷ []
IsRightResult m order rests work s place Other answer = Unit {0}

-- A message that is refused made no change, except if the code is 10506: its change may be made by another leader.
abbrev pub IsRightAnswer : Meaning → List Change → (ℕ → ℕ) → (ℕ → Image) → Client → ℕ → Purpose → List Response → Option ℕ → Type 0
IsRightAnswer m order rests work s place wanted answer (Some code) = code ≢ 10506 → NoneAt order place
IsRightAnswer m order rests work s place wanted answer None = IsRightResult m order rests work s place wanted answer

-- ---- the headline

-- What holds of all that happens.
pub record HoldsOfAll (m : Meaning) (h : List Observation) : Type 0 where
  -- There are: one list of changes; the number of them that are applied at an index of the log; the number of them on which the answer to the message at a
  -- place rests; and the image to which a transaction led with the message at a place.
  pub order : List Change
  pub index : ℕ → ℕ
  pub rests : ℕ → ℕ
  pub work : ℕ → Image
  -- A greater index has no fewer changes.
  pub grows : (a b : ℕ) → a ≤ b → index a ≤ index b
  -- Each change is what its message makes of the changes before it, and these have all whose messages were finished when its message came.
  pub comes : (i : ℕ) (c : Change) → slice_get order i ≡ Some c → ComesFromMessage m rests work h (take i order) c × HasPast h order i c.place
  -- A message makes one change at most, also if it was refused by 10506 or never answered.
  pub once : (i j : ℕ) (c d : Change) → slice_get order i ≡ Some c → slice_get order j ≡ Some d → c.place ≡ d.place → i ≡ j
  -- The changes of one connection are in the order of its messages, and each is after the changes on which an earlier answer of the connection rests.
  pub own : (i j node other conn : ℕ) (c d : Change) (r request : Option Request) → slice_get order i ≡ Some c → slice_get order j ≡ Some d →
      IsAt h c.place (Asks node conn r) → IsAt h d.place (Asks other conn request) → c.place < d.place → i < j
  pub later : (i node home conn place answered : ℕ) (c : Change) (r request : Option Request) (answer : List Response) → slice_get order i ≡ Some c →
      IsAt h c.place (Asks home conn r) →
      IsReply h node conn place answered request answer → place < c.place → refused answer ≡ None → rests place ≤ i
  -- The files of a node are those after the changes at its index, whose messages all came before. Nodes at one index have the same files. The index of a node
  -- grows until the node goes down.
  pub files : (place node : ℕ) (v : NodeView) → IsAt h place (Shows node v) →
      ((name : List ℕ) → shown_image v.files name ≡ image_in (take (index v.applied) order) name) × AskedBefore order (index v.applied) place
  pub alike : (p q n k : ℕ) (v w : NodeView) → IsAt h p (Shows n v) → IsAt h q (Shows k w) → v.applied ≡ w.applied → v.files ≡ w.files
  pub stays : (p q n : ℕ) (v w : NodeView) → IsAt h p (Shows n v) → IsAt h q (Shows n w) → p ≤ q → StaysUp h n p q → v.applied ≤ w.applied
  -- Each answer is to a message that came before. It comes from the node of the connection, before the connection ends and before the node goes down.
  pub answered : (place node conn : ℕ) (answer : List Response) → IsAt h place (Answers node conn answer) →
      length (answers_on conn (take place h)) < length (asked_before conn place h)
  pub home : (place node home conn q : ℕ) (request : Option Request) (answer : List Response) → IsReply h node conn place q request answer →
      IsAt h place (Asks home conn request) →
      (node ≡ home) × StaysUp h node place q × ((end : ℕ) → IsAt h end (Closes conn) → q < end)
  -- Each answer is right for its message, by changes whose messages all came before the answer.
  pub right : (node conn place q : ℕ) (request : Option Request) (answer : List Response) → IsReply h node conn place q request answer →
      IsRightAnswer m order rests work (client_at h conn place) place (purpose_at h conn place request) answer (refused answer) ×
      AskedBefore order (rests place) q
  -- An answer rests on no more than its node has applied when the node next shows its state. If it rests on what the node has applied, this is no less than
  -- the node showed before the message came.
  pub applied : (node conn place q p : ℕ) (v : NodeView) (request : Option Request) (answer : List Response) → IsReply h node conn place q request answer →
      refused answer ≡ None →
      has_image (purpose_at h conn place request) ≡ true → IsAt h p (Shows node v) → q < p → StaysUp h node q p → rests place ≤ index v.applied
  pub newest : (node conn place q p : ℕ) (v : NodeView) (request : Option Request) (answer : List Response) → IsReply h node conn place q request answer →
      refused answer ≡ None →
      is_newest_at h conn place request ≡ true → IsAt h p (Shows node v) → p < place → StaysUp h node p place → index v.applied ≤ rests place
  -- Nor does it rest on less than an earlier answer of its connection.
  pub seen : (node n conn p q place answered : ℕ) (r request : Option Request) (a answer : List Response) → IsReply h node conn p q r a →
      IsReply h n conn place answered request answer → p < place →
      refused a ≡ None → refused answer ≡ None → has_image (purpose_at h conn p r) ≡ true → is_newest_at h conn place request ≡ true → rests p ≤ rests place
  -- Its node leads when the message comes, and unless it is a DUMP the answer has all changes whose messages were finished, at any node, when its node began
  -- to lead.
  pub led : (node conn place q : ℕ) (request : Option Request) (answer : List Response) → IsReply h node conn place q request answer → refused answer ≡ None →
      is_newest_at h conn place request ≡ true → is_led (purpose_at h conn place request) ≡ true →
      (first last : ℕ) × (v w : NodeView) × IsAt h first (Shows node v) × IsAt h last (Shows node w) × (v.leads ≡ true) × (w.leads ≡ true) ×
      (v.term ≡ w.term) × (last < place)
      × ((p : ℕ) (u : NodeView) → IsAt h p (Shows node u) → p < place → p ≤ last) × HasPast h order (rests place) first
  -- A query that waits for a barrier has all changes whose messages were finished, at any node, when the query came.
  pub fresh : (node conn place q : ℕ) (request : Option Request) (answer : List Response) → IsReply h node conn place q request answer → refused answer ≡ None →
      waits_first (client_at h conn place) (purpose_at h conn place request) ≡ true → HasPast h order (rests place) place
  -- A node that refuses by 10506 does not lead when it next shows its state.
  pub ended : (node conn place q p : ℕ) (v : NodeView) (request : Option Request) (answer : List Response) → IsReply h node conn place q request answer →
      refused answer ≡ Some 10506 →
      ShowsNext h node q p v → v.leads ≡ false

-- The headline: what is seen is what is seen of a history of which this holds.
pub record HeadlineHolds (m : Meaning) (h : List Observation) : Type 0 where
  pub all : List Observation
  pub is_seen : SeenOf h all
  pub holds : HoldsOfAll m all
