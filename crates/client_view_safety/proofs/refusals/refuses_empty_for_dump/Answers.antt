use Rattle.client_view_safety.proofs.Refused.{no_empty_for_dump}
use Rattle.client_view_safety.proofs.refusals.refuses_empty_for_dump.Goals as goal

pub returns : goal.returns
returns c = no_empty_for_dump
