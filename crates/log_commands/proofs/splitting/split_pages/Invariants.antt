use Rattle.std.proofs.Common.{◌≡◌, ◌++◌, length}
use Rattle.log_commands.specs.Splitting.{split_from, before_last}
use Rattle.log_commands.proofs.splitting.split_pages.Given as goal

abbrev pub invariant-loop-rest : goal.invariant-loop-rest
invariant-loop-rest l = l.commands.items ++ split_from (before_last l.rest) l.name l.tx l.rest ≡ split_from (before_last l.pages) l.name l.tx l.pages

abbrev pub decreases-loop-rest : goal.decreases-loop-rest
decreases-loop-rest l = length l.rest
