use Rattle.headline.proofs.Refused.{a_result_is_committed}
use Rattle.headline.proofs.a_result_is_committed.Goals as goal

pub returns : goal.returns
returns g c kind = a_result_is_committed _
