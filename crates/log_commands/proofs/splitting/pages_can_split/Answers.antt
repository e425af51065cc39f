use Rattle.std.proofs.Common.{refl, sym, ◌∙◌}
use Rattle.log_commands.proofs.SplitFits.{can_split_of}
use Rattle.log_commands.proofs.splitting.pages_can_split.Goals as goal

pub returns-then-is_sizes : goal.returns-then-is_sizes
returns-then-is_sizes c =
    let is = can_split_of c.args.pages.now c.in-Some.front.now c.in-Some.last.now c.in-Some.ensures.cases.0 in
    c.ascend.ensures ∙ sym (is ∙ rw (sym c.is_sizes.ensures ∙ c.if-is_sizes.true) refl)

pub returns-else-is_sizes : goal.returns-else-is_sizes
returns-else-is_sizes c =
    let is = can_split_of c.args.pages.now c.in-Some.front.now c.in-Some.last.now c.in-Some.ensures.cases.0 in
    c.if-is_sizes.false ∙ sym (is ∙ rw (sym c.is_sizes.ensures ∙ c.if-is_sizes.false) refl)
