-- Who speaks on a connection, by its first bytes, and which peers are taken.
use Rattle.std.specs.Prelude.{◌≡◌, ◌≢◌, ◌+◌, ◌*◌, ℕ, Bool, true, false, List, drop, take, slice_index}
use Rattle.std.specs.List.{list_any}
use Rattle.peer_secret.specs.Same.{same_bytes}
use Rattle.serve_places.specs.Pieces.{words_in}
use Rattle.serve_places.specs.declared.gate.Speaker.{Speaker}
use Rattle.serve_places.specs.declared.gate.Speaker.TheVariants.{Unknown, Client, Peer, Stranger}

-- how many bytes the version and the first message have
abbrev pub greeting_size : List ℕ → ℕ
greeting_size front = 16 + 8 * words_in (drop 8 front)

-- whether these bytes are one of the greetings
abbrev pub has_greeting : List (List ℕ) → List ℕ → Bool
has_greeting greetings said = list_any (λ right. same_bytes right said) greetings

-- If only some CONNECTs are taken, who says another one is neither a client nor a peer.
abbrev pub SpeaksAsPeer : Bool → List (List ℕ) → List ℕ → Speaker → Type 0
SpeaksAsPeer false greetings said who = Unit {0}
SpeaksAsPeer true greetings said Unknown = Unit {0}
SpeaksAsPeer true greetings said Client = ⊥
SpeaksAsPeer true greetings said (Peer id) = has_greeting greetings said ≡ true
SpeaksAsPeer true greetings said Stranger = Unit {0}

-- If only some CONNECTs are taken, a client's first message is none, and a peer's is one of these.
abbrev pub MaySpeak : Bool → List (List ℕ) → List ℕ → Speaker → Type 0
MaySpeak false greetings front who = Unit {0}
MaySpeak true greetings front Unknown = Unit {0}
MaySpeak true greetings front Client = slice_index front 12 ≢ 11
MaySpeak true greetings front (Peer id) = has_greeting greetings (take (greeting_size front) front) ≡ true
MaySpeak true greetings front Stranger = Unit {0}
