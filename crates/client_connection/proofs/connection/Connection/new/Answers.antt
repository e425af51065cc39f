use Rattle.client_connection.proofs.Counting.{counts_opened}
use Rattle.client_connection.proofs.connection.Connection.new.Goals as goal

pub invariant_of-result : goal.invariant_of-result
invariant_of-result c = counts_opened c.new.result c.new-2.result.items c.new-3.result.items c.new.ensures c.new-2.ensures.items c.new-3.ensures.items
