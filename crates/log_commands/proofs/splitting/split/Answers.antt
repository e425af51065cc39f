use Rattle.log_commands.proofs.SplitFits.{all_fit}
use Rattle.log_commands.proofs.splitting.split.Goals as goal

pub returns-clause-fit : goal.returns-clause-fit
returns-clause-fit c = all_fit (λ commands. commands.items) c.args.name.now c.args.set.now c.split_pages.result c.requires.pages (rw c.as_slice.ensures at c.split_pages.ensures)
