use Rattle.script_cluster.proofs.Rows.{candidates_said, stopped_said, failed_said, missing_said, no_nodes_said, put_said, put_prints, empty_said, asking_said}
use Rattle.script_cluster.proofs.laws.scripts_run.Goals as goal

pub returns : goal.returns
returns c = record {
  candidates = candidates_said;
  stopped = stopped_said;
  failed = failed_said;
  missing = missing_said;
  no_nodes = no_nodes_said;
  put = put_said;
  put_prints = put_prints;
  empty = empty_said;
  asking = asking_said;
}
