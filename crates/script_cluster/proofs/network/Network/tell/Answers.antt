use Rattle.std.proofs.Common.{refl}
use Rattle.script_cluster.specs.Seen.{answers_in}
use Rattle.script_cluster.proofs.Telling.{start_told}
use Rattle.script_cluster.proofs.network.Network.tell.Goals as goal

pub returns-in_ok-start-in-Started : goal.returns-in_ok-start-in-Started
returns-in_ok-start-in-Started c =
    start_told c.args.node c.args.aim (answers_in c.args.came.answers) c.args.came.ended c.in-Started.loaded c.args.self.now c.start.new.self c.args.said.now.items c.args.said.now.items c.in-Started.is c.in_ok-start-in-Started.ensures
    refl
