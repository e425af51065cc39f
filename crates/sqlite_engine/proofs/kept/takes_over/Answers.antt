use Rattle.std.proofs.Common.{sym, ◌∙◌}
use Rattle.std.proofs.lemmas.Bool.{eqb-true, eq-eqb, both_ways}
use Rattle.sqlite_engine.proofs.TakingOver.{nothing_taken, taken_over}
use Rattle.sqlite_engine.proofs.kept.takes_over.Goals as goal

pub returns-then-is_empty : goal.returns-then-is_empty
returns-then-is_empty c sure after short is = nothing_taken c.args.image.now after c.args.set.now.pages (eqb-true _ _ (sym c.is_empty.ensures ∙ c.if-is_empty.true)) is

pub returns-in-Ok : goal.returns-in-Ok
returns-in-Ok c sure after short is =
    taken_over c.args.image.now c.apply.new.image after c.args.set.now.pages (λ none. both_ways _ (sym c.is_empty.ensures ∙ c.if-is_empty.false) (eq-eqb _ _ none)) c.in-Ok.ensures.done short is
