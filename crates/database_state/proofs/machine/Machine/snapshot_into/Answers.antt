use Rattle.std.proofs.Common.{List, subst}
use Rattle.std.specs.Prelude.{OnOk}
use Rattle.database_state.specs.declared.database.Database.{Database}
use Rattle.database_state.specs.Databases.{contents_of}
use Rattle.database_state.specs.Snapshot.{IsSnapshot, snapshot_text}
use Rattle.database_state.proofs.SnapshotLaws.{snapshot_appended}
use Rattle.database_state.proofs.machine.Machine.snapshot_into.Goals as goal

pub returns-clause-spelled : goal.returns-clause-spelled
returns-clause-spelled c =
    subst (λ (ds : List Database). OnOk c.put_snapshot.result (IsSnapshot (contents_of ds) (snapshot_text (contents_of ds)))) c.self.view_is
    (snapshot_appended c.put_snapshot.result c.self.inside.databases.items c.self.invariant.0 (rw c.as_slice.ensures.value at c.put_snapshot.ensures.kept) (rw c.as_slice.ensures.value at c.put_snapshot.ensures.count))
