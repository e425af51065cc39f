use Rattle.segment_store.proofs.LoadLists.{below_take}
use Rattle.segment_store.proofs.loading.left_after.Goals as goal

pub returns-then-last-eq0-clause-digits : goal.returns-then-last-eq0-clause-digits
returns-then-last-eq0-clause-digits c = λ b. rw c.truncate.ensures.items (below_take _ c.args.segments.items b)
