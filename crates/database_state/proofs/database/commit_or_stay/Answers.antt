use Rattle.database_state.proofs.Short.{commit_short}
use Rattle.database_state.proofs.database.commit_or_stay.Goals as goal

pub returns-in-Ok-clause-short : goal.returns-in-Ok-clause-short
returns-in-Ok-clause-short c = commit_short c.args.store.now c.commit_pages.new.self c.args.pages.now c.in-Ok.ensures.done c.in-Ok.ensures.sound c.in-Ok.ensures.sized
