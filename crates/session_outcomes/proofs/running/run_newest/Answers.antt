use Rattle.sql_engine.proofs.Knowing.{all_contained}
use Rattle.session_outcomes.proofs.running.run_newest.Goals as goal

pub returns-in_err-image-clause-known : goal.returns-in_err-image-clause-known
returns-in_err-image-clause-known g c = all_contained (g.E.Engine.known c.args.engine.now)
