-- Whose connection is shut where a node holds too much of what its clients have said.
use Rattle.std.specs.Prelude.{◌≡◌, ◌⊎◌, ℕ, Option, Some, None}
use Rattle.session_outcomes.specs.declared.job.Read.{Read}
use Rattle.serve_traits.specs.declared.event.Event.{Event}
use Rattle.serve_traits.specs.declared.event.Event.TheVariants as loops

-- the connection whose bytes an event brings
abbrev pub speaker_of : Event Read → Option ℕ
speaker_of loops.Timeout = None
speaker_of loops.Beat = None
speaker_of loops.Yield = None
speaker_of (loops.Connect conn) = None
speaker_of (loops.Bytes conn bytes) = Some conn
speaker_of (loops.Hangup conn) = None
speaker_of (loops.Peer message) = None
speaker_of (loops.ReadDone conn read) = None

-- after an event the socket of the connection whose bytes it brought is to be shut, or none
abbrev pub MayShut : Event Read → Option ℕ → Type 0
MayShut event shut = (shut ≡ None) ⊎ (shut ≡ speaker_of event)
