use Rattle.segment_store.proofs.LoadLists.{below_push}
use Rattle.segment_store.proofs.loading.with_number.Goals as goal

pub returns-clause-digits : goal.returns-clause-digits
returns-clause-digits c = λ b. rw c.in_ok-push.ensures.items (below_push c.args.number c.args.numbers.items c.requires b)
