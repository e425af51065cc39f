-- What a node makes of the bytes that the client sends.
use Rattle.std.specs.Prelude.{◌≡◌, ℕ, List, ◌++◌, Ok}
use Rattle.wire_words.specs.declared.message.Message.{Message}
use Rattle.wire_words.specs.Stream.{one_before, messages_in, client_limit}
use Rattle.wire_msgs.specs.declared.request.Request.{Request}
use Rattle.wire_msgs.specs.Reading.{request_of}

-- The bytes are one whole message of a client's stream, whatever follows them, and a node reads the request in it.
pub record Asks (request : Request) (bytes : List ℕ) : Type 0 where
  pub sent : Message
  pub whole : (rest : List ℕ) → messages_in client_limit (bytes ++ rest) ≡ one_before sent (messages_in client_limit rest)
  pub is_read : request_of sent ≡ Ok request
