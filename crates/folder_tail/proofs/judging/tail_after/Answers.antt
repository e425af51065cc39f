use Rattle.std.proofs.Common.{sym, ◌∙◌}
use Rattle.folder_tail.proofs.Looking.{view_now, whole_tail, ends_before, tail_seen, unviewed, cause_end, cause_pass}
use Rattle.folder_tail.proofs.judging.tail_after.Goals as goal

pub returns-then-whole-clause-told : goal.returns-then-whole-clause-told
returns-then-whole-clause-told g c = view_now _ _ _ (λ d. whole_tail c.args.number c.args.bytes.now c.args.last d c.requires.digits c.requires.walked (sym c.reads_whole-whole.ensures ∙ c.if-whole.true))

pub judged-requires : goal.judged-requires
judged-requires g c = ends_before _ c.args.last c.requires.walked (sym c.reads_whole-whole.ensures ∙ c.if-whole.false)

pub returns-in-Ok-clause-told : goal.returns-in-Ok-clause-told
returns-in-Ok-clause-told g c = tail_seen _ _ c.args.number c.in-Ok.next c.args.bytes.now c.args.last c.judged.result c.requires.walked c.in-Ok.ensures.told c.judged.ensures.tail

pub returns-in-Ok-clause-cause : goal.returns-in-Ok-clause-cause
returns-in-Ok-clause-cause g c = cause_end _ _ c.in-Ok.next c.judged.result c.in-Ok.ensures.cause c.judged.ensures.memory

pub returns-in-Err-clause-told : goal.returns-in-Err-clause-told
returns-in-Err-clause-told g c = unviewed _ _ c.in-Err.fault _ _ _ c.in-Err.ensures.told

pub returns-in-Err-clause-cause : goal.returns-in-Err-clause-cause
returns-in-Err-clause-cause g c = cause_pass _ _ c.in-Err.fault c.in-Err.ensures.cause
