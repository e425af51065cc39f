use Rattle.std.proofs.Common.{Option, IfSome, sym, subst, ◌∙◌}
use Rattle.std.proofs.lemmas.Bool.{eqb-true}
use Rattle.sqlite_engine.specs.declared.kept.Kept.{Kept}
use Rattle.sqlite_engine.specs.Led.{IsLedTo}
use Rattle.sqlite_engine.proofs.TakingOver.{nothing_taken}
use Rattle.sqlite_engine.proofs.connection_after.went_on.Goals as goal

pub returns-then-is_empty : goal.returns-then-is_empty
returns-then-is_empty c before h =
    let led = subst (λ (o : Option Kept). IfSome o (λ it. IsLedTo before c.args.set.now it.base)) c.in-Some.is h in
    sym (nothing_taken before c.in-Some.kept.base c.args.set.now.pages (eqb-true _ _ (sym c.is_empty.ensures ∙ c.if-is_empty.true)) led.0)
