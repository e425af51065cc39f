use Rattle.std.proofs.Common.{◌≡◌, ℕ, List, drop}
use Rattle.log_commands.specs.declared.command.Command.TheVariants.{Checkpoint}
use Rattle.log_commands.specs.Spelling.{Writes}
use Rattle.session_spec.specs.Seen.{log_seen}
use Rattle.applied_state.specs.Office.{awaits_checkpoint}
use Rattle.applied_state.proofs.checkpoints.awaits.Given as goal

abbrev pub invariant-loop-entry : goal.invariant-loop-entry
invariant-loop-entry l = (name : List ℕ) → Writes (Checkpoint name) l.checkpoint → awaits_checkpoint name (log_seen l.waiting) ≡ awaits_checkpoint name (log_seen (drop l.entry-index l.waiting))
