use Rattle.std.proofs.Common.{◌≡◌, ◌++◌, ◌∷◌, [], List, ap, sym, subst, ◌∙◌}
use Rattle.log_commands.specs.declared.command.Command.{Command}
use Rattle.script_machines.specs.Kept.{IsKept}
use Rattle.script_machines.proofs.Kept.{kept_more}
use Rattle.script_machines.proofs.list.CommandList.try_push.Goals as goal

pub invariant_of-self-in-Continue-branch-3 : goal.invariant_of-self-in-Continue-branch-3
invariant_of-self-in-Continue-branch-3 c =
    let inside = c.self.inside in
    let table = c.try_note_command.new.table.items in
    let items : c.push.new.self.items ≡ inside.commands.items ++ c.args.command ∷ [] =
    c.in_ok-push.ensures.items ∙ ap (λ (commands : List Command). commands ++ c.args.command ∷ []) c.reserve.ensures.items in
    subst (λ (commands : List Command). IsKept commands table) (sym items)
    (kept_more inside.commands.items inside.table.items table c.args.command c.self.invariant c.requires (c.in_ok-joins.ensures.noted c.if-joins.true))
