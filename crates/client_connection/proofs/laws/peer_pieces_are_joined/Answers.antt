use Rattle.wire_words.specs.Stream.{peer_limit}
use Rattle.client_connection.proofs.Streams.{handed_taken, peer_received_more, taken_more}
use Rattle.client_connection.proofs.laws.peer_pieces_are_joined.Goals as goal

pub returns : goal.returns
returns c = record { handed = handed_taken; received = peer_received_more; taken = taken_more peer_limit }
