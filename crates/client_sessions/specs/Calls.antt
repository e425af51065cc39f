-- What comes of a message, and what is told to connections, as code says it.
use Rattle.std.specs.Prelude.{◌≡◌, ◌<◌, ℕ, List, [], ◌∷◌, map, Option, Some, None, Result, Ok, Err}
use Rattle.wire_words.specs.declared.message.Message.{Message}
use Rattle.client_connection.specs.Connection.{Conn}
use Rattle.wire_msgs.specs.declared.request.Request.{Request}
use Rattle.wire_msgs.specs.declared.response.Response.{Response}
use Rattle.wire_msgs.specs.declared.response.Response.TheVariants.{Empty}
use Rattle.wire_msgs.specs.declared.fault.MsgFault.{MsgFault}
use Rattle.wire_msgs.specs.Responses.{response_bytes}
use Rattle.wire_msgs.specs.Reading.{request_of}
use Rattle.sql_engine.specs.Meanings.{Told}
use Rattle.session_spec.specs.Causes.{NotADatabase, unread_cause, failure}
use Rattle.session_spec.specs.Events.{on_applied, told_applied, on_lost, told_lost}
use Rattle.session_spec.specs.Machine.{Machine}
use Rattle.session_spec.specs.Sessions.{Gateway, View}
pub use Rattle.session_statements.specs.Calls.{EngineCall, call_of}
use Rattle.session_table.specs.Sweeping.{all_told}
pub use Rattle.session_outcomes.specs.Scenes.{Scene, scene}
use Rattle.session_gateway.specs.declared.act.Act.{Act as GatewayAct}
use Rattle.session_gateway.specs.declared.act.Act.TheVariants as gateway
use Rattle.session_gateway.specs.Calls.{TurnsByAnswers}
use Rattle.client_sessions.specs.declared.act.Act.{Act}
use Rattle.client_sessions.specs.declared.act.Act.TheVariants.{Reply, Propose, Lend, Transfer, Peer}
use Rattle.client_sessions.specs.Clients.{Clients, with_stream, Offer, offered, next_offer, taken, with_sessions, freed}

-- responses as they are sent, each a message
abbrev pub bytes_of : List Response → List (List ℕ)
bytes_of responses = map response_bytes responses

-- what a node is to do for a connection
abbrev pub act_on : ℕ → GatewayAct → Act
act_on conn (gateway.Reply responses) = Reply conn (bytes_of responses)
act_on conn (gateway.Propose entries) = Propose conn entries
act_on conn (gateway.Lend job) = Lend conn job
act_on conn (gateway.Transfer id) = Transfer conn id (response_bytes Empty)
act_on conn (gateway.Peer id) = Peer conn id (response_bytes Empty)

-- The first message was taken of a connection that is open and whose session isn't busy; or there is none.
abbrev pub TookFrom : Clients → Clients → ℕ → List ℕ → Option Message → Type 0
TookFrom old new conn turns None = (offered old conn turns ≡ None) × (new ≡ old)
TookFrom old new conn turns (Some m) = (stream : Conn)
    × (offered old conn turns ≡ Some (record { conn = conn; message = m; stream = stream; turns = conn ∷ turns }))
    × (new ≡ record { sessions = old.sessions; streams = with_stream old.streams conn (Some stream); turns = old.turns })

-- The message whose turn it was was taken, with its connection; or no message's turn was left.
abbrev pub TookNext : Clients → Clients → Option (ℕ × Message) → Type 0
TookNext old new None = (next_offer old ≡ None) × (new ≡ taken old None)
TookNext old new (Some took) = (offer : Offer) × (next_offer old ≡ Some offer) × (offer.conn ≡ took.0) × (offer.message ≡ took.1)
    × (new ≡ taken old (Some offer))

-- A request ended with this act and these sessions by answers that the engine may give and gave. It is refused as over no
-- database only if one more opening was refused.
pub record Asked (c : EngineCall) (at : Scene) (request : Request) (refused_before refused_now : ℕ) (now : Gateway) (act : Act) : Type 0 where
  pub gateway_act : GatewayAct
  pub turned : TurnsByAnswers c at request now gateway_act
  pub act_is : act ≡ act_on at.conn gateway_act
  pub unopened : gateway_act ≡ gateway.Reply (failure NotADatabase ∷ []) → refused_before < refused_now

-- A message that doesn't read as a request is refused; nothing else changes.
pub record Unread (g : Gateway) (conn : ℕ) (fault : MsgFault) (told_before told_now : Option Told) (now : Gateway) (act : Act) : Type 0 where
  pub sessions_stay : now ≡ g
  pub untold : told_now ≡ told_before
  pub act_is : act ≡ Reply conn (bytes_of (failure (unread_cause fault) ∷ []))

-- The outcome of a message, by what it reads as.
abbrev pub Comes : EngineCall → Scene → Result Request MsgFault → ℕ → ℕ → Gateway → Act → Type 0
Comes c at (Ok request) refused_before refused_now sessions act = Asked c at request refused_before refused_now sessions act
Comes c at (Err fault) refused_before refused_now sessions act = Unread at.sessions at.conn fault c.told_before c.told_now sessions act

-- The message whose turn it was was taken, and ended with this act; all other messages, streams and turns are as they were.
pub record TookOffer (c : EngineCall) (v : View) (machine : Machine) (old : Clients) (refused_before refused_now : ℕ) (new : Clients)
    (act : Act) : Type 0 where
  pub offer : Offer
  pub next : next_offer old ≡ Some offer
  pub came : Comes c (scene v machine old.sessions offer.conn) (request_of offer.message) refused_before refused_now new.sessions act
  pub rest : new ≡ with_sessions (taken old (Some offer)) new.sessions

-- no message's turn was left
pub record WasIdle (old : Clients) (told_before told_now : Option Told) (new : Clients) : Type 0 where
  pub none : next_offer old ≡ None
  pub untold : told_now ≡ told_before
  pub rest : new ≡ taken old None

abbrev pub TookTurn : EngineCall → View → Machine → Clients → ℕ → ℕ → Clients → Option Act → Type 0
TookTurn c v machine old refused_before refused_now new None = WasIdle old c.told_before c.told_now new
TookTurn c v machine old refused_before refused_now new (Some act) = TookOffer c v machine old refused_before refused_now new act

-- a response to a connection, as it is sent
abbrev pub sent_to : ℕ × Response → ℕ × List ℕ
sent_to told = (told.0, response_bytes told.1)

abbrev pub sent : List (ℕ × Response) → List (ℕ × List ℕ)
sent told = map sent_to told

-- the connections that are told something, in order: one of several responses as often
abbrev pub told_conns : List (ℕ × Response) → List ℕ
told_conns told = map (λ (t : ℕ × Response). t.0) told

-- ---- what happens to all clients at once

-- the clients after the entry of an index was applied, and what is reported
abbrev pub landed_at : ℕ → Clients → Clients
landed_at index k = freed k (on_applied index k.sessions) (told_conns (all_told (told_applied index k.sessions)))

abbrev pub told_at : ℕ → Clients → List (ℕ × List ℕ)
told_at index k = sent (all_told (told_applied index k.sessions))

-- the clients after leadership was lost, and what is reported
abbrev pub lost_all : Clients → Clients
lost_all k = freed k (on_lost k.sessions) (told_conns (all_told (told_lost k.sessions)))

abbrev pub told_all_lost : Clients → List (ℕ × List ℕ)
told_all_lost k = sent (all_told (told_lost k.sessions))
