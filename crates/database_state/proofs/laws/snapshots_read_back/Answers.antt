use Rattle.database_state.proofs.SnapshotLaws.{snapshot_passed, snapshot_stood, restored_shown}
use Rattle.database_state.proofs.laws.snapshots_read_back.Goals as goal

pub returns : goal.returns
returns c = record {
  spelled = λ contents bytes fits e. snapshot_passed bytes contents fits e;
  read = λ contents bytes s. snapshot_stood bytes contents s;
  shown = λ contents. restored_shown 0 contents;
}
