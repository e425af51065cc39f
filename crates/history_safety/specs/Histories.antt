-- What follows from the headline for a history of any length, with transactions.
use Rattle.std.specs.Prelude.{◌≡◌, ℕ, ◌<◌, Bool, true, nat_lt, List, length, take, Option, Some, None, slice_get}
use Rattle.dq_base.specs.declared.images.Image.{Image}
use Rattle.wire_msgs.specs.declared.request.Request.{Request}
use Rattle.wire_msgs.specs.declared.response.Response.{Response}
use Rattle.sql_engine.specs.Replies.{Statement, Reply}
use Rattle.sql_engine.specs.Meanings.{Meaning}
use Rattle.sql_engine.specs.Runs.{RanAll}
use Rattle.headline.specs.Clients.{refused, Transaction, Idle, Begun, Lost, Runs}
use Rattle.headline.specs.Headline.{NodeView, Observation, Shows, IsAt, IsReply, StaysUp, client_at, purpose_at, Change, image_in, shown_image, HoldsOfAll}
use Rattle.headline.specs.Laws.{StaysInImages, HasProperty, IsMarked}

-- Some statements lead from one image to another one.
pub record IsLedTo (m : Meaning) (before after : Image) : Type 0 where
  pub statements : List Statement
  pub replies : List Reply
  pub ran : RanAll m before statements after replies

-- An open transaction began on the newest image of its database, and statements lead from this image to the one that the transaction has reached.
pub record IsRunFromBegin (m : Meaning) (h : List Observation) (x : HoldsOfAll m h) (name : List ℕ) (begin last : ℕ) : Type 0 where
  pub opened : nat_lt 0 (length name) ≡ true
  pub begun : image_in (take (x.rests begin) x.order) name ≡ Some (x.work begin)
  pub led : IsLedTo m (x.work begin) (x.work last)

abbrev pub IsRunIfAny : (m : Meaning) (h : List Observation) (x : HoldsOfAll m h) → List ℕ → Transaction → Type 0
IsRunIfAny m h x name Idle = Unit {0}
IsRunIfAny m h x name (Begun begin last) = IsRunFromBegin m h x name begin last
IsRunIfAny m h x name Lost = Unit {0}

-- This holds of each client's transaction, at each place of a history.
abbrev pub TransactionsRun : Meaning → Type 0
TransactionsRun m = (h : List Observation) (x : HoldsOfAll m h) (conn place : ℕ) →
    IsRunIfAny m h x (client_at h conn place).name (client_at h conn place).transaction

-- Each change of a database that exists is what some statements make of the image right before it, also if it comes from a COMMIT.
abbrev pub ChangesAreRun : Meaning → Type 0
ChangesAreRun m = (h : List Observation) (x : HoldsOfAll m h) (i : ℕ) (c : Change) (before : Image) → slice_get x.order i ≡ Some c →
    image_in (take i x.order) c.name ≡ Some before → IsLedTo m before c.after

-- A mark that a change made, and that no statement takes away, is in each later image of its database.
abbrev pub ChangesStay : Meaning → Type 0
ChangesStay m = (h : List Observation) (x : HoldsOfAll m h) (marked : Image → Bool) (i k : ℕ) (c : Change) → StaysInImages m (IsMarked marked) →
    slice_get x.order i ≡ Some c → marked c.after ≡ true → i < k → HasProperty (IsMarked marked) (image_in (take k x.order) c.name)

-- These statements mark each image, and no statement takes the mark away.
pub record StatementsMark (m : Meaning) (marked : Image → Bool) (statements : List Statement) : Type 0 where
  pub makes : (before after : Image) (replies : List Reply) → RanAll m before statements after replies → marked after ≡ true
  pub stays : StaysInImages m (IsMarked marked)

-- Statements outside a transaction were answered, and not by a refusal.
pub record AreAnswered (h : List Observation) (node conn place answered : ℕ) (statements : List Statement) : Type 0 where
  pub request : Option Request
  pub answer : List Response
  pub rows : Bool
  pub reply : IsReply h node conn place answered request answer
  pub good : refused answer ≡ None
  pub runs : purpose_at h conn place request ≡ Runs rows statements
  pub outside : (client_at h conn place).transaction ≡ Idle

-- Then their node shows the database with the mark until it goes down, whatever else is in the history.
abbrev pub AnswersAreShown : Meaning → Type 0
AnswersAreShown m = (h : List Observation) (x : HoldsOfAll m h) (marked : Image → Bool) (statements : List Statement) (node conn place answered shown : ℕ)
    (v : NodeView) → StatementsMark m marked statements → AreAnswered h node conn place answered statements →
    IsAt h shown (Shows node v) → answered < shown → StaysUp h node answered shown →
    HasProperty (IsMarked marked) (shown_image v.files (client_at h conn place).name)
