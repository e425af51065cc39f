use Rattle.std.proofs.Common.{ap, ◌∙◌, sym}
use Rattle.raft_spec.specs.Log.{Entry}
use Rattle.store_format.proofs.Terms.{nth_entry}
use Rattle.store_format.proofs.log.term_of.Goals as goal

pub returns : goal.returns
returns c = ap (λ (e : Entry). e.term) (c.entry.view_is ∙ c.index-entries-place.is) ∙ sym (nth_entry c.args.entries.now c.args.place c.index-entries-place.result c.requires)
