use Rattle.std.proofs.Common.{length, sym, ◌∙◌, arith}
use Rattle.std.proofs.lemmas.Bool.{both_ways, eqb-true, eq-eqb}
use Rattle.database_state.proofs.WalTexts.{read_whole, read_other}
use Rattle.database_state.proofs.RestoringSteps.{took_fit}
use Rattle.database_state.proofs.log_reading.pages_of_log.Goals as goal

pub returns-then-not-is_written-clause-exact : goal.returns-then-not-is_written-clause-exact
returns-then-not-is_written-clause-exact c =
    read_other c.args.at c.args.log.now c.in_ok-reader.reader c.in_ok-pages.pages.items c.pages_left.new.reader (λ i. omega (arith, c.type_inv.log i)) c.in_ok-reader.ensures.opened c.in_ok-pages.ensures.took c.in_ok-pages.ensures.none
    (λ head ended. both_ways c.is_written.result c.if-not-is_written.true (c.is_written.ensures.complete (c.header-header.ensures ∙ head)))

pub returns-then-not-is_at_end-clause-exact : goal.returns-then-not-is_at_end-clause-exact
returns-then-not-is_at_end-clause-exact c =
    read_other c.args.at c.args.log.now c.in_ok-reader.reader c.in_ok-pages.pages.items c.pages_left.new.reader (λ i. omega (arith, c.type_inv.log i)) c.in_ok-reader.ensures.opened c.in_ok-pages.ensures.took c.in_ok-pages.ensures.none
    (λ head ended. both_ways c.is_at_end.result c.if-not-is_at_end.true (c.is_at_end.ensures ∙ eq-eqb (length c.pages_left.new.reader.rest) 0 ended))

pub returns-clause-exact : goal.returns-clause-exact
returns-clause-exact c =
    read_whole c.args.at c.args.log.now c.in_ok-reader.reader c.in_ok-pages.pages.items c.pages_left.new.reader c.in_ok-reader.ensures.opened c.in_ok-pages.ensures.took
    (sym c.header-header.ensures ∙ c.is_written.ensures.sound c.if-not-is_written.false) (eqb-true (length c.pages_left.new.reader.rest) 0 (sym c.is_at_end.ensures ∙ c.if-not-is_at_end.false))

pub returns-clause-low : goal.returns-clause-low
returns-clause-low c = (took_fit c.in_ok-reader.reader c.in_ok-pages.pages.items c.pages_left.new.reader c.in_ok-pages.ensures.took).0

pub returns-clause-sizes : goal.returns-clause-sizes
returns-clause-sizes c = (took_fit c.in_ok-reader.reader c.in_ok-pages.pages.items c.pages_left.new.reader c.in_ok-pages.ensures.took).1
