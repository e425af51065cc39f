use Rattle.script_safety.proofs.Scripts.{loads_never_fail_hold, scripts_are_safe_hold}
use Rattle.script_safety.proofs.Worlds.{mail_is_sent_holds}
use Rattle.script_safety.proofs.scripts_are_safe.Goals as goal

pub returns-clause-mail : goal.returns-clause-mail
returns-clause-mail g c = mail_is_sent_holds

pub returns-clause-safe : goal.returns-clause-safe
returns-clause-safe g c = λ kind. scripts_are_safe_hold (g.E.Engine.meaning kind) kind

pub returns-clause-loads : goal.returns-clause-loads
returns-clause-loads g c = λ kind. loads_never_fail_hold (g.E.Engine.meaning kind) kind
