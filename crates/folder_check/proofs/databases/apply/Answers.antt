use Rattle.std.proofs.Common.{ap, ◌∙◌}
use Rattle.std.proofs.lemmas.Result.{on_ok_weaker}
use Rattle.database_state.specs.Databases.{contents_of}
use Rattle.folder_check.specs.Files.{after_content}
use Rattle.folder_check.proofs.databases.apply.Goals as goal

pub returns : goal.returns
returns c = on_ok_weaker c.perform.result (λ h. h ∙ ap (after_content (contents_of c.args.machine.now)) c.in_ok-content.ensures.means) c.perform.ensures
