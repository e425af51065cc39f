use Rattle.node_core.specs.Core.{core_of}
use Rattle.std.proofs.Common.{sym, subst}
use Rattle.raft_on_disk.specs.Replicas.{ReplicaValue, IsKept}
use Rattle.node_core.proofs.Posting.{offices_so, free_so}
use Rattle.raft_membership.specs.Members.{read_setup}
use Rattle.raft_core.specs.Events.{input_of}
use Rattle.node_core.specs.Finding.{StopsIn}
use Rattle.node_core.specs.Taking.{bytes_with}
use Rattle.node_core.proofs.Finding.{failed, kept_finds, made_left}
use Rattle.node_core.proofs.running.Running.keep_step.Goals as goal

pub returns-clause-offices : goal.returns-clause-offices
returns-clause-offices g c =
    offices_so c.args.self.now c.make_step.new.self c.note_loss.new.self c.requires.office c.requires.led c.holds_machine.ensures c.in_ok-batch.ensures.made.is c.note_loss.ensures.stays c.in_ok-note_loss.ensures.loses c.note_loss.ensures.leaves
    c.note_loss.ensures.replica

pub returns-clause-free : goal.returns-clause-free
returns-clause-free g c =
    free_so c.args.self.now c.make_step.new.self c.note_loss.new.self c.requires.led c.requires.idle c.in_ok-batch.ensures.made.is c.note_loss.ensures.stays c.in_ok-note_loss.ensures.loses c.note_loss.ensures.rest.due

pub returns-clause-stored : goal.returns-clause-stored
returns-clause-stored g c = λ has. subst (λ (r : ReplicaValue). IsKept g.D.Disk.tells (g.D.Disk.states c.make_step.new.disk) r) (sym c.note_loss.ensures.replica) (c.in_ok-batch.ensures.stored has)

pub returns-in_err-batch-clause-stops : goal.returns-in_err-batch-clause-stops
returns-in_err-batch-clause-stops g c = λ opening has. failed c.from_residual.result (c.in_err-batch.ensures.stops opening has)

pub returns-in_err-note_loss-clause-stops : goal.returns-in_err-note_loss-clause-stops
returns-in_err-note_loss-clause-stops g c = λ opening has.
    failed c.from_residual-in_err-note_loss.result
    (kept_finds g.D.Disk.tells (g.D.Disk.states c.make_step.new.disk) c.make_step.new.self.replica (StopsIn (read_setup opening) (bytes_with c.args.event) c.args.self.now (input_of c.args.event))
    (made_left (read_setup opening) c.args.self.now c.make_step.new.self.replica c.args.event c.requires.whole c.requires.intake c.in_ok-batch.ensures.made.node c.in_ok-batch.ensures.made.bytes) (c.in_ok-batch.ensures.stored has))

pub returns-clause-exact : goal.returns-clause-exact
returns-clause-exact g c = record { mid = core_of c.make_step.new.self; steps = c.in_ok-batch.ensures.exact; is = c.in_ok-note_loss.ensures.exact }
