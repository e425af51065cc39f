use Rattle.session_tests.proofs.Standing.{acted, agree_still}
use Rattle.session_tests.proofs.node.act.Goals as goal

pub returns-clause-stand : goal.returns-clause-stand
returns-clause-stand c = acted c.act.result c.args.machine.now c.act.new.self c.args.command.now c.args.clients.now c.act.ensures.done c.act.ensures.kept c.act.ensures.shown c.requires.stand

pub returns-in_err-act-clause-stand : goal.returns-in_err-act-clause-stand
returns-in_err-act-clause-stand c = acted c.act.result c.args.machine.now c.act.new.self c.args.command.now c.args.clients.now c.act.ensures.done c.act.ensures.kept c.act.ensures.shown c.requires.stand

pub returns-clause-agrees : goal.returns-clause-agrees
returns-clause-agrees c = agree_still c.args.machine.now c.act.new.self c.args.command.now c.args.clients.now c.databases-databases.ensures.stand c.databases-databases-2.ensures.stand c.in_ok-act.ensures.done c.requires.agrees
