use Rattle.client_view_safety.proofs.Refused.{no_lost_begin}
use Rattle.client_view_safety.proofs.refusals.refuses_a_lost_begin.Goals as goal

pub returns : goal.returns
returns c = no_lost_begin
