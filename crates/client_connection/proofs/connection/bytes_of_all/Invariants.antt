use Rattle.std.proofs.Common.{◌≡◌, take, sum_by}
use Rattle.client_connection.specs.Connection.{message_size}
use Rattle.client_connection.proofs.connection.bytes_of_all.Given as goal

abbrev pub invariant-loop-message : goal.invariant-loop-message
invariant-loop-message l = l.count ≡ sum_by message_size (take l.message-index l.messages)
