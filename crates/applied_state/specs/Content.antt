-- What an entry is for, and what a node that applies it says of it.
use Rattle.std.specs.Prelude.{true, false}
use Rattle.log_commands.specs.declared.command.Command.{Command}
use Rattle.log_commands.specs.declared.command.Command.TheVariants.{OpenDb, Frames, Undo, Checkpoint}
use Rattle.session_spec.specs.Entries as seen
use Rattle.applied_state.specs.declared.content.Content.{Content}
use Rattle.applied_state.specs.declared.content.Content.TheVariants as content
use Rattle.applied_state.specs.declared.effect.AppliedEffect.{AppliedEffect}
use Rattle.applied_state.specs.declared.effect.AppliedEffect.TheVariants as effect

-- the same as sessions see it
abbrev pub meaning : Content → seen.Content
meaning (content.Does command) = seen.Does command
meaning (content.Configures servers) = seen.Configures servers
meaning content.Other = seen.Other

-- a command commits pages, or does nothing that is told
abbrev pub effect_of_command : Command → AppliedEffect
effect_of_command (OpenDb name) = effect.Other
effect_of_command (Frames name tx truncate true pages) = effect.Committed name
effect_of_command (Frames name tx truncate false pages) = effect.Other
effect_of_command (Undo tx) = effect.Other
effect_of_command (Checkpoint name) = effect.Other

-- what is reported of an entry that was applied
abbrev pub effect_of : seen.Content → AppliedEffect
effect_of (seen.Does command) = effect_of_command command
effect_of (seen.Configures servers) = effect.Configured
effect_of seen.Other = effect.Other
