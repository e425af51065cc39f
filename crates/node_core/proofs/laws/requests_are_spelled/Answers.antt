use Rattle.node_core.proofs.HeardSo.{heard_begins, heard_on_holds}
use Rattle.node_core.proofs.laws.requests_are_spelled.Goals as goal

pub returns : goal.returns
returns c = record { begins = heard_begins; on = heard_on_holds }
