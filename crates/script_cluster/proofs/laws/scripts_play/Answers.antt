use Rattle.script_cluster.proofs.Examples.{candidates_say, candidates_stand, stopped_says, stopped_stands, stopped_notes, closing_says, closing_notes}
use Rattle.script_cluster.proofs.Examples.{closing_halts, closing_counts}
use Rattle.script_cluster.proofs.laws.scripts_play.Goals as goal

pub returns : goal.returns
returns c = record {
  candidates = candidates_say;
  candidates_stand = candidates_stand;
  stopped = stopped_says;
  stopped_stands = stopped_stands;
  stopped_notes = stopped_notes;
  closing = closing_says;
  closing_notes = closing_notes;
  closing_halts = closing_halts;
  closing_counts = closing_counts;
}
