use Rattle.session_statements.proofs.Reaching.{came_through}
use Rattle.session_statements.proofs.running.lead.Goals as goal

pub returns-in_ok-reached-in-None-clause-ran : goal.returns-in_ok-reached-in-None-clause-ran
returns-in_ok-reached-in-None-clause-ran g c =
    came_through _ _ c.args.options.tx _ _ _ _ _ _ _ _ _ _ c.in-None.is c.in_ok-ending.ensures.ran c.in_ok-ending.ensures.touched (record { main = c.of.ensures.main_fits; side = c.of.ensures.side_fits }) c.as_slice.ensures.value c.in_ok-reached-in-None.ensures.value
