-- What holds wherever a request asks for something: what the rules looked at before they let it pass.
use Rattle.std.specs.Prelude.{◌≡◌, ◌≢◌, ◌⊎◌, ℕ, ◌<◌, ◌≤◌, true, false, List, length}
use Rattle.wire_msgs.specs.declared.request.Request.{Request}
use Rattle.wire_msgs.specs.declared.response.Response.{Response}
use Rattle.wire_msgs.specs.declared.response.Response.TheVariants as responses
use Rattle.raft_spec.specs.Node.{Server, among, voters}
use Rattle.session_spec.specs.Causes.{Cause, failure, NotLeader, BadRequest, FloatParameter, LeadershipLost, ConstraintFailed, SqlError, NotADatabase, FloatColumn, NotUtf8, NulInText, DatabaseFull}
use Rattle.session_spec.specs.Machine.{Machine}
use Rattle.session_spec.specs.Sessions.{Session, Gateway, View, in_tx}
use Rattle.session_spec.specs.Servers.{has_server, has_address, is_spare, with_server, with_role, without_server}
use Rattle.session_spec.specs.Limits.{change_in_flight, log_full}
use Rattle.session_spec.specs.Asking.{Asked, Never, Tells, Sets, Opens, Creates, Prepares, Drops, Forgets, Begins, Commits, RollsBack, Changes, Runs, Reads, has_database, fits_one_voter, is_promotion, asked_by}

abbrev pub IsFailure : Response → Type 0
IsFailure (responses.Failure code message) = Unit {0}
IsFailure response = ⊥

-- a cause that is found before an engine runs, and while leadership isn't lost
abbrev pub IsEarlyCause : Cause → Type 0
IsEarlyCause BadRequest = ⊥
IsEarlyCause FloatParameter = ⊥
IsEarlyCause LeadershipLost = ⊥
IsEarlyCause ConstraintFailed = ⊥
IsEarlyCause SqlError = ⊥
IsEarlyCause NotADatabase = ⊥
IsEarlyCause FloatColumn = ⊥
IsEarlyCause NotUtf8 = ⊥
IsEarlyCause NulInText = ⊥
IsEarlyCause DatabaseFull = ⊥
IsEarlyCause cause = Unit {0}

-- the node serves as leader, and the session has opened a database
pub record IsServed (v : View) (s : Session) : Type 0 where
  pub serves : v.serving ≡ true
  pub opened : has_database s ≡ true

-- A node joined, as a spare: its id is 1 to 9 and its address has at most 255 bytes, no server had either, and there were
-- fewer than 9 servers.
pub record IsJoin (old new : List Server) : Type 0 where
  pub server : Server
  pub unknown : has_server old server.id ≡ false
  pub apart : has_address old server.address ≡ false
  pub spare : server.role ≡ 2
  pub named : server.id ≢ 0
  pub low : server.id ≤ 9
  pub short : length server.address ≤ 255
  pub room : length old < 9
  pub is : new ≡ with_server server old

-- Another server than this node has another role. If it becomes a voter, there were fewer than 7, and it has all of the log but the last
-- 16 entries at most.
pub record IsRole (v : View) (old new : List Server) : Type 0 where
  pub id : ℕ
  pub role : ℕ
  pub known : has_server old id ≡ true
  pub other : id ≢ v.id
  pub low : role ≤ 2
  pub room : is_promotion old id role ≡ true → length (voters old) < 7
  pub near : is_promotion old id role ≡ true → among v.near id ≡ true
  pub is : new ≡ with_role id role old

-- another server than this node has left
pub record IsLeave (v : View) (old new : List Server) : Type 0 where
  pub id : ℕ
  pub known : has_server old id ≡ true
  pub other : id ≢ v.id
  pub is : new ≡ without_server id old

-- the servers differ in one, which isn't this node where it was there before
abbrev pub IsOneChange : View → List Server → List Server → Type 0
IsOneChange v old new = IsJoin old new ⊎ (IsRole v old new ⊎ IsLeave v old new)

-- a spare becomes a standby, which falls short of a voter
pub record IsMadeStandby (old new : List Server) : Type 0 where
  pub id : ℕ
  pub spare : is_spare old id ≡ true
  pub is : new ≡ with_role id 1 old

-- COMMIT ends a lost transaction and is refused, ROLLBACK ends one and gets a RESULT.
pub record EndsLost (s : Session) (response : Response) : Type 0 where
  pub lost : s.lost ≡ true
  pub told : (response ≡ failure NotLeader) ⊎ (response ≡ responses.Result 0 0)

-- What a request may ask for, and when: whatever needs a leader of one that serves; a new database where the log has room; other
-- servers one change at a time; and what is done in the session's database where it has one, by the transaction that is open
-- or isn't.
abbrev pub IsAllowed : View → Gateway → Session → Request → Asked → Type 0
IsAllowed v g s request (Never cause) = IsEarlyCause cause
IsAllowed v g s request (Tells response) = IsFailure response → ⊥
IsAllowed v g s request (Sets effect) = Unit {0}
IsAllowed v g s request (Opens name barriers) = (v.serving ≡ true) × (barriers ≡ true → fits_one_voter request ≡ false)
IsAllowed v g s request (Creates name barriers) = (v.serving ≡ true) × (log_full v ≡ false) × (barriers ≡ true → fits_one_voter request ≡ false)
IsAllowed v g s request (Prepares prepared tail) = IsServed v s
IsAllowed v g s request (Drops id) = has_database s ≡ true
IsAllowed v g s request (Forgets response) = EndsLost s response
IsAllowed v g s request (Begins at_once) = IsServed v s × (in_tx s ≡ false)
IsAllowed v g s request Commits = IsServed v s × (in_tx s ≡ true)
IsAllowed v g s request RollsBack = IsServed v s × (in_tx s ≡ true)
IsAllowed v g s request (Changes servers short) = (v.serving ≡ true) × (change_in_flight g ≡ false) × (fits_one_voter request ≡ false) × IsOneChange v v.servers servers ×
    (short ≡ true → IsMadeStandby v.servers servers)
IsAllowed v g s request (Runs statements) = IsServed v s
IsAllowed v g s request (Reads statement) = IsServed v s

-- Whatever a request asks for, it may.
abbrev pub AllAreAllowed : Type 0
AllAreAllowed = (v : View) (m : Machine) (g : Gateway) (conn : ℕ) (s : Session) (request : Request) → IsAllowed v g s request (asked_by v m g conn s request)
