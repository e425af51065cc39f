use Rattle.std.proofs.Common.{subst}
use Rattle.log_commands.specs.Spelling.{command_bytes}
use Rattle.session_spec.specs.Seen.{HasSpelling}
use Rattle.applied_state.specs.declared.content.Content.{Content}
use Rattle.applied_state.specs.Content.{meaning}
use Rattle.applied_state.proofs.Spellings.{low_again}
use Rattle.applied_state.proofs.applied.Applied.apply_content.Goals as goal

pub does-requires-clause-low : goal.does-requires-clause-low
does-requires-clause-low c =
    low_again c.in-Does.command (command_bytes c.in-Does.command) (subst (λ (content : Content). HasSpelling (meaning content)) c.in-Does.is c.requires.spelled)
