use Rattle.std.proofs.Common.{◌≡◌, ℕ, List, sym, ap, ◌∙◌}
use Rattle.database_state.specs.declared.database.Database.{Database}
use Rattle.database_state.specs.Databases.{named, tx_pending}
use Rattle.node_core.proofs.Duties.{calm_more, all_calm}
use Rattle.node_core.proofs.CoreEntries.{not_calm, calm_is}
use Rattle.node_core.proofs.leading.are_calm.Goals as goal

pub loop-database-preserved : goal.loop-database-preserved
loop-database-preserved c =
    let d = c.database-item.result in
    let tx : c.pending.result ≡ tx_pending (named d.name c.args.databases.now) =
    c.pending.ensures ∙ ap (λ (n : List ℕ). tx_pending (named n c.args.machine.now)) (c.as_str.ensures.value ∙ c.name.ensures)
    ∙ ap (λ (ds : List Database). tx_pending (named d.name ds)) (sym c.requires) in
    calm_more c.args.databases.now c.loop-database.database-index d _ c.pending.result c.loop-database-test.true c.database-item.is tx (sym c.is_some.ensures ∙ c.if-is_some.false) c.loop-database.invariant

pub returns-then-is_some-clause-is : goal.returns-then-is_some-clause-is
returns-then-is_some-clause-is c =
    let d = c.database-item.result in
    let tx : c.pending.result ≡ tx_pending (named d.name c.args.databases.now) =
    c.pending.ensures ∙ ap (λ (n : List ℕ). tx_pending (named n c.args.machine.now)) (c.as_str.ensures.value ∙ c.name.ensures)
    ∙ ap (λ (ds : List Database). tx_pending (named d.name ds)) (sym c.requires) in
    sym (not_calm c.args.databases.now c.loop-database.database-index d _ c.pending.result c.loop-database-test.true c.database-item.is tx (sym c.is_some.ensures ∙ c.if-is_some.true))

pub returns-clause-calm : goal.returns-clause-calm
returns-clause-calm c = λ e. all_calm c.args.databases.now c.loop-database.database-index c.loop-database-test.false c.loop-database.invariant

pub returns-clause-is : goal.returns-clause-is
returns-clause-is c = sym (calm_is c.args.databases.now (all_calm c.args.databases.now c.loop-database.database-index c.loop-database-test.false c.loop-database.invariant))
