use Rattle.std.proofs.Common.{sym, ap, ◌∙◌}
use Rattle.std.specs.Option.{is_some}
use Rattle.database_state.specs.Databases.{named}
use Rattle.session_requests.proofs.Finding.{named_there, mapped_there}
use Rattle.session_requests.proofs.databases.is_there.Goals as goal

pub returns : goal.returns
returns c = c.is_some.ensures ∙ ap is_some c.newest.ensures ∙ mapped_there _ (named c.args.name.now c.args.machine.now) ∙ sym (named_there c.args.name.now c.args.machine.now)
