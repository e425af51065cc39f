use Rattle.std.proofs.Common.{sym, ◌∙◌}
use Rattle.segment_store.proofs.LoadNames.{not_front}
use Rattle.folder_tail.proofs.names.behind.Goals as goal

pub returns-else-eq : goal.returns-else-eq
returns-else-eq c = λ rest e. not_front c.args.text.now c.args.kind.now _ c.split_at.ensures.front (sym c.eq.ensures ∙ c.if-eq.false) rest e
