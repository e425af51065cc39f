use Rattle.std.proofs.Common.{◌∙◌}
use Rattle.std.proofs.lemmas.Bool.{cond-true}
use Rattle.session_spec.specs.Asking.{never_or}
use Rattle.session_requests.specs.Meant.{hinders_named}
use Rattle.session_requests.proofs.Hindered.{of_writes}
use Rattle.session_requests.proofs.write_hindrance.hindrance_of.Goals as goal

pub returns-then-writes : goal.returns-then-writes
returns-then-writes c = λ asked. cond-true c.args.writes (never_or (hinders_named c.args.hinders) asked) asked c.if-writes.true ∙ of_writes c.args.hinders asked
