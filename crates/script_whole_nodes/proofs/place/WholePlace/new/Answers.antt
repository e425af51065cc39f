use Rattle.std.proofs.Common.{subst}
use Rattle.sql_engine.specs.declared.kind.EngineKind.{EngineKind}
use Rattle.script_cluster.specs.Knowing.{IsNew}
use Rattle.script_whole_nodes.specs.Turns.{Knows}
use Rattle.script_whole_nodes.proofs.place.WholePlace.new.Goals as goal

pub returns-clause-new : goal.returns-clause-new
returns-clause-new g c = subst (λ (k : EngineKind). IsNew (Knows k) c.empty_seat.result) c.kind.ensures c.empty_seat.ensures.new
