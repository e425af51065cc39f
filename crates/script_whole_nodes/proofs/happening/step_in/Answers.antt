use Rattle.std.proofs.Common.{ap}
use Rattle.disk_model.specs.Stored.{OverMemory}
use Rattle.sqlite_engine.specs.Any.{any_known}
use Rattle.script_whole_nodes.proofs.Seating.{runs_well}
use Rattle.script_whole_nodes.proofs.Turning.{keeps_up}
use Rattle.script_whole_nodes.proofs.happening.step_in.Goals as goal

pub returns-in-Ok-clause-well : goal.returns-in-Ok-clause-well
returns-in-Ok-clause-well c =
    runs_well (any_known c.step.new.engine.engine) c.args.engine.now c.step.new.engine c.args.node.now c.step.new.self c.args.event c.in-Ok.outs c.in-Ok.ensures.up c.in-Ok.ensures.sound c.in-Ok.ensures.agrees c.in-Ok.ensures.acts
    c.requires.links

pub returns-in-Ok-clause-keeps : goal.returns-in-Ok-clause-keeps
returns-in-Ok-clause-keeps c =
    keeps_up c.args.disk.now.contents c.step.new.disk.contents c.arm.new.self.contents c.args.node.now c.step.new.self (ap (λ (d : OverMemory). d.contents) c.arm.ensures) c.in-Ok.ensures.stored c.in-Ok.ensures.applied

pub returns-in-Err-DiskFault-clause-leaves : goal.returns-in-Err-DiskFault-clause-leaves
returns-in-Err-DiskFault-clause-leaves c = λ opening kept. c.in-Err-DiskFault.ensures.stops opening c.requires.up kept

pub returns-in-Err-NoMemory-clause-leaves : goal.returns-in-Err-NoMemory-clause-leaves
returns-in-Err-NoMemory-clause-leaves c = λ opening kept. c.in-Err-NoMemory.ensures.stops opening c.requires.up kept

pub returns-in-Err-Unfit-clause-leaves : goal.returns-in-Err-Unfit-clause-leaves
returns-in-Err-Unfit-clause-leaves c = λ opening kept. c.in-Err-Unfit.ensures.stops opening c.requires.up kept
