use Rattle.std.proofs.Common.{◌≡◌, List, ℕ, ap, sym, subst, ◌∙◌}
use Rattle.std.specs.List.{AllByRecursion}
use Rattle.database_state.specs.declared.database.Database.{Database}
use Rattle.database_state.specs.Databases.{named, tx_pending}
use Rattle.session_spec.specs.Entries.{written}
use Rattle.session_spec.specs.Seen.{HasSpelling}
use Rattle.applied_state.proofs.EachUndo.{undo_pushed, undo_spelled, all_undos}
use Rattle.applied_state.proofs.undoing.undos_of.Goals as goal

pub loop-database-preserved : goal.loop-database-preserved
loop-database-preserved c =
    let d = c.database-item.result in
    let tx : c.pending-pending.result ≡ tx_pending (named d.name c.args.databases.now) =
    c.pending-pending.ensures ∙ ap (λ (n : List ℕ). tx_pending (named n c.args.machine.now)) (c.as_str.ensures.value ∙ c.name.ensures)
    ∙ ap (λ (ds : List Database). tx_pending (named d.name ds)) (sym c.requires) in
    record {
      so_far = undo_pushed c.args.term c.args.databases.now c.loop-database.database-index d _ c.pending-pending.result c.loop-database.entries.items c.push_undo.new.entries.items c.loop-database-test.true c.database-item.is tx c.in_ok-push_undo.ensures.pushed c.loop-database.invariant.so_far;
      spelled = undo_spelled c.args.databases.now c.loop-database.database-index d _ c.pending-pending.result c.loop-database-test.true c.database-item.is tx c.in_ok-push_undo.ensures.spelled c.loop-database.invariant.spelled;
    }

pub returns-clause-entries : goal.returns-clause-entries
returns-clause-entries c =
    c.new.ensures ∙ c.loop-database.invariant.so_far ∙ ap (written c.args.term) (all_undos c.args.databases.now c.loop-database.database-index c.loop-database-test.false)

pub returns-clause-spelled : goal.returns-clause-spelled
returns-clause-spelled c =
    subst (AllByRecursion HasSpelling) (all_undos c.args.databases.now c.loop-database.database-index c.loop-database-test.false) c.loop-database.invariant.spelled
