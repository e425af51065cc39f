use Rattle.std.proofs.Common.{subst}
use Rattle.log_commands.proofs.InOtherWords.{fit_low}
use Rattle.session_spec.specs.Seen.{HasSpelling}
use Rattle.applied_state.specs.declared.content.Content.{Content}
use Rattle.applied_state.specs.Content.{meaning}
use Rattle.folder_check.proofs.databases.perform.Goals as goal

pub act-requires : goal.act-requires
act-requires c =
    let spelled = subst (λ (content : Content). HasSpelling (meaning content)) c.in-Does.is c.requires in
    fit_low c.in-Does.command spelled.fits
