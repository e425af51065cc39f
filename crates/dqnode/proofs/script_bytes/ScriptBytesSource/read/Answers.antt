use Rattle.std.proofs.Common.{◌∙◌, drop, ap, arith}
use Rattle.std.proofs.lemmas.List.{take_all, length-drop}
use Rattle.dq_base.proofs.ContentLaws.{Moves-copied}
use Rattle.dqnode.proofs.script_bytes.ScriptBytesSource.read.Goals as goal

pub returns-clause-bytes : goal.returns-clause-bytes
returns-clause-bytes c =
    let at = c.self.inside.at in
    let rest = take_all _ (drop at c.deref.result.now) (omega (arith, length-drop at c.deref.result.now)) ∙ ap (drop at) c.deref.ensures.value in
    rw (← c.self.view_is) (Moves-copied c.self.inside.bytes.items _ c.args.into.now _ at c.min-count.result rest c.min-count.ensures c.copy_from_slice.ensures.after)
