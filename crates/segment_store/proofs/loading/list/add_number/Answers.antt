use Rattle.segment_store.proofs.LoadLists.{below_insert}
use Rattle.segment_store.proofs.loading.list.add_number.Goals as goal

pub returns-clause-below : goal.returns-clause-below
returns-clause-below c = λ h b. rw c.in_ok-insert.ensures.items (below_insert c.place_for-place.result c.args.number c.args.numbers.now.items h b)
