use Rattle.node_core.proofs.RaftExactly.{own_exactly}
use Rattle.std.proofs.Common.{sym, ap, subst, ◌∙◌}
use Rattle.raft_on_disk.specs.Replicas.{ReplicaValue, IsKept}
use Rattle.node_core.specs.declared.running.Running.{Running}
use Rattle.node_core.proofs.Followed.{told_by, beside_own, own_may}
use Rattle.node_core.proofs.OwnTurns.{own_office_behind, own_led, owns_so}
use Rattle.raft_membership.specs.Members.{read_setup}
use Rattle.raft_core.specs.Events.{input_of}
use Rattle.node_core.specs.Finding.{StopsIn, StopsChanging, StopsOwn}
use Rattle.node_core.specs.Taking.{bytes_with}
use Rattle.node_core.proofs.Finding.{failed, more, kept_finds, made_left}
use Rattle.node_core.proofs.StopsOfTurns.{own_telling, own_making}
use Rattle.node_core.proofs.Going.{due_intake, own_is_due}
use Rattle.node_core.proofs.running.Running.step_own.Goals as goal

pub look-requires-clause-office : goal.look-requires-clause-office
look-requires-clause-office g c =
    own_office_behind c.args.self.now c.tell_change.new.self c.make_step.new.self c.follow_members.new.self c.args.event _ c.requires.own c.requires.going c.in_ok-tell_change.ensures.told (told_by c.args.self.now c.tell_change.new.self c.args.event c.in_ok-tell_change.ensures.tells)
    c.in_ok-batch.ensures.made c.in_ok-batch.ensures.posts c.follow_members.ensures.is

pub returns-clause-led : goal.returns-clause-led
returns-clause-led g c =
    own_led c.args.self.now c.tell_change.new.self c.make_step.new.self c.follow_members.new.self c.look.new.self c.args.event _ c.requires.own c.requires.led c.in_ok-tell_change.ensures.told (told_by c.args.self.now c.tell_change.new.self c.args.event c.in_ok-tell_change.ensures.tells)
    c.in_ok-batch.ensures.made c.in_ok-batch.ensures.posts c.follow_members.ensures.is c.look.ensures.rest c.look.ensures.serving

pub returns-clause-goes : goal.returns-clause-goes
returns-clause-goes g c = λ before was.
    owns_so before c.args.self.now c.tell_change.new.self c.make_step.new.self c.follow_members.new.self c.look.new.self c.args.event _ c.requires.own c.requires.takes was c.requires.going c.in_ok-tell_change.ensures.told
    (told_by c.args.self.now c.tell_change.new.self c.args.event c.in_ok-tell_change.ensures.tells) c.in_ok-batch.ensures.made c.in_ok-batch.ensures.posts c.follow_members.ensures.is c.look.ensures.rest c.look.ensures.serving c.holds_machine.ensures
    (beside_own c.twins_keep_alike.ensures.follow c.args.self.now c.tell_change.new.self c.make_step.new.self c.follow_members.new.self c.args.event _ c.requires.own c.requires.takes c.requires.going c.in_ok-tell_change.ensures.told c.in_ok-tell_change.ensures.tells
    c.in_ok-batch.ensures.made c.in_ok-batch.ensures.posts c.follow_members.ensures.is c.in_ok-follow_members.ensures.follows)

pub returns-clause-stored : goal.returns-clause-stored
returns-clause-stored g c = λ has.
    subst (λ (r : ReplicaValue). IsKept g.D.Disk.tells (g.D.Disk.states c.make_step.new.disk) r) (sym (ap (λ (n : Running). n.replica) c.look.ensures.rest ∙ ap (λ (n : Running). n.replica) c.follow_members.ensures.is))
    (c.in_ok-batch.ensures.stored (c.in_ok-tell_change.ensures.stored has))

pub returns-in_err-tell_change-clause-stops : goal.returns-in_err-tell_change-clause-stops
returns-in_err-tell_change-clause-stops g c = λ before opening came was has.
    failed c.from_residual.result
    (more g.D.Disk.tells (g.D.Disk.states c.tell_change.new.disk) (StopsChanging (read_setup opening) came c.args.self.now) (StopsOwn (read_setup opening) came before)
    (λ kept s. own_telling (read_setup opening) came before c.args.self.now c.args.event kept was s) (c.in_err-tell_change.ensures.stops opening came has))

pub returns-in_err-batch-clause-stops : goal.returns-in_err-batch-clause-stops
returns-in_err-batch-clause-stops g c = λ before opening came was has.
    failed c.from_residual-in_err-batch.result
    (more g.D.Disk.tells (g.D.Disk.states c.make_step.new.disk) (StopsIn (read_setup opening) (bytes_with c.args.event) c.tell_change.new.self (input_of c.args.event)) (StopsOwn (read_setup opening) came before)
    (λ kept s. own_making (read_setup opening) came before c.args.self.now c.tell_change.new.self c.args.event kept c.requires.own was c.in_ok-tell_change.ensures.told (told_by c.args.self.now c.tell_change.new.self c.args.event c.in_ok-tell_change.ensures.tells) (own_may opening came c.args.self.now c.tell_change.new.self c.args.event c.in_ok-tell_change.ensures.tells) s)
    (c.in_err-batch.ensures.stops opening (c.in_ok-tell_change.ensures.stored has)))

pub returns-in_err-follow_members-clause-stops : goal.returns-in_err-follow_members-clause-stops
returns-in_err-follow_members-clause-stops g c = λ before opening came was has.
    failed c.from_residual-in_err-follow_members.result
    (kept_finds g.D.Disk.tells (g.D.Disk.states c.make_step.new.disk) c.make_step.new.self.replica (StopsOwn (read_setup opening) came before)
    (own_making (read_setup opening) came before c.args.self.now c.tell_change.new.self c.args.event _ c.requires.own was c.in_ok-tell_change.ensures.told (told_by c.args.self.now c.tell_change.new.self c.args.event c.in_ok-tell_change.ensures.tells) (own_may opening came c.args.self.now c.tell_change.new.self c.args.event c.in_ok-tell_change.ensures.tells)
    (made_left (read_setup opening) c.tell_change.new.self c.make_step.new.self.replica c.args.event c.in_ok-tell_change.ensures.told.whole (due_intake c.args.event (own_is_due c.args.event c.requires.own)) c.in_ok-batch.ensures.made.node
    c.in_ok-batch.ensures.made.bytes)) (c.in_ok-batch.ensures.stored (c.in_ok-tell_change.ensures.stored has)))

pub returns-in_err-look-clause-stops : goal.returns-in_err-look-clause-stops
returns-in_err-look-clause-stops g c = λ before opening came was has.
    failed c.from_residual-in_err-look.result
    (kept_finds g.D.Disk.tells (g.D.Disk.states c.make_step.new.disk) c.make_step.new.self.replica (StopsOwn (read_setup opening) came before)
    (own_making (read_setup opening) came before c.args.self.now c.tell_change.new.self c.args.event _ c.requires.own was c.in_ok-tell_change.ensures.told (told_by c.args.self.now c.tell_change.new.self c.args.event c.in_ok-tell_change.ensures.tells) (own_may opening came c.args.self.now c.tell_change.new.self c.args.event c.in_ok-tell_change.ensures.tells)
    (made_left (read_setup opening) c.tell_change.new.self c.make_step.new.self.replica c.args.event c.in_ok-tell_change.ensures.told.whole (due_intake c.args.event (own_is_due c.args.event c.requires.own)) c.in_ok-batch.ensures.made.node
    c.in_ok-batch.ensures.made.bytes)) (c.in_ok-batch.ensures.stored (c.in_ok-tell_change.ensures.stored has)))

pub returns-clause-exact : goal.returns-clause-exact
returns-clause-exact g c =
    own_exactly c.args.event _ c.args.self.now c.tell_change.new.self c.make_step.new.self c.follow_members.new.self c.look.new.self c.in_ok-tell_change.ensures.exact c.in_ok-batch.ensures.exact c.in_ok-follow_members.ensures.exact c.in_ok-look.ensures.exact
