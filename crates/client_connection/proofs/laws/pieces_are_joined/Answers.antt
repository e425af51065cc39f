use Rattle.std.proofs.Common.{refl}
use Rattle.wire_words.specs.Stream.{stream, client_limit}
use Rattle.client_connection.proofs.Streams.{received_more, all_read, taken_more}
use Rattle.client_connection.proofs.laws.pieces_are_joined.Goals as goal

pub returns : goal.returns
unfolding stream
returns c = record { opened = record { messages = refl; end = refl }; received = received_more; whole = all_read; taken = taken_more client_limit }
