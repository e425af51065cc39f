use Rattle.std.proofs.Common.{ap, ◌∙◌, sym}
use Rattle.raft_spec.specs.Log.{Entry}
use Rattle.raft_log.proofs.Places.{nth_entry}
use Rattle.raft_log.proofs.queue.term_of.Goals as goal

pub returns : goal.returns
returns c = ap (λ (e : Entry). e.term) (c.entry.view_is ∙ c.index-queue-place.is) ∙ sym (nth_entry c.args.queue.now c.args.place c.index-queue-place.result c.requires)
