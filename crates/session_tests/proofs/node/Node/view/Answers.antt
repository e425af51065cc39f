use Rattle.std.proofs.Common.{◌∙◌}
use Rattle.session_tests.proofs.Configured.{configured}
use Rattle.session_tests.proofs.node.Node.view.Goals as goal

pub returns-clause-configured : goal.returns-clause-configured
returns-clause-configured c = configured c.new-2.result (c.new-2.ensures ∙ c.new.ensures.items)
