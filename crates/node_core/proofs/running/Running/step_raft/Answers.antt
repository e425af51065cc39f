use Rattle.node_core.proofs.RaftExactly.{follows_exactly}
use Rattle.std.proofs.Common.{sym, ap, subst, ◌∙◌}
use Rattle.raft_on_disk.specs.Replicas.{ReplicaValue, IsKept}
use Rattle.node_core.specs.declared.running.Running.{Running}
use Rattle.node_core.proofs.Followed.{told_or, beside_followed}
use Rattle.node_core.proofs.Stepped.{began_so, fresh_won, follows_step}
use Rattle.raft_membership.specs.Members.{read_setup}
use Rattle.raft_core.specs.Events.{input_of}
use Rattle.node_core.specs.Finding.{StopsIn, StopsBehind, StopsFollowing, in_step}
use Rattle.node_core.specs.Taking.{bytes_with}
use Rattle.node_core.proofs.Finding.{failed, kept_finds, more}
use Rattle.node_core.proofs.StopsOfTurns.{behind_telling, behind_following}
use Rattle.node_core.proofs.running.Running.step_raft.Goals as goal

pub returns-clause-began : goal.returns-clause-began
returns-clause-began g c =
    began_so c.args.self.now c.keep_step.new.self c.follow_log.new.self c.look.new.self c.args.event _ c.requires.going c.requires.comes c.requires.none c.requires.idle c.in_ok-batch.ensures.stepped c.in_ok-batch.ensures.posts
    c.in_ok-batch.ensures.offices (told_or c.keep_step.new.self c.follow_log.new.self c.in_ok-follow_log.ensures.tells)
    (beside_followed c.twins_keep_alike.ensures.follow c.args.self.now c.keep_step.new.self c.follow_log.new.self c.args.event _ c.requires.going c.requires.comes c.requires.none c.in_ok-batch.ensures.stepped c.in_ok-batch.ensures.posts
    c.in_ok-follow_log.ensures.followed c.in_ok-follow_log.ensures.follows c.in_ok-follow_log.ensures.tells) (fresh_won c.follow_log.new.self c.note_win.new.self c.look.new.self c.note_win.ensures.is c.look.ensures.rest c.look.ensures.serving)

pub returns-clause-stored : goal.returns-clause-stored
returns-clause-stored g c = λ has.
    subst (λ (r : ReplicaValue). IsKept g.D.Disk.tells (g.D.Disk.states c.follow_log.new.disk) r) (sym (ap (λ (n : Running). n.replica) c.look.ensures.rest ∙ ap (λ (n : Running). n.replica) c.note_win.ensures.is))
    (c.in_ok-follow_log.ensures.stored (c.in_ok-batch.ensures.stored has))

pub returns-in_err-batch-clause-stops : goal.returns-in_err-batch-clause-stops
returns-in_err-batch-clause-stops g c = λ opening has.
    failed c.from_residual.result
    (more g.D.Disk.tells (g.D.Disk.states c.keep_step.new.disk) (StopsIn (read_setup opening) (bytes_with c.args.event) c.args.self.now (input_of c.args.event)) (StopsFollowing (read_setup opening) c.args.self.now c.args.event)
    (λ kept s. in_step s) (c.in_err-batch.ensures.stops opening has))

pub returns-in_err-follow_log-clause-stops : goal.returns-in_err-follow_log-clause-stops
returns-in_err-follow_log-clause-stops g c = λ opening has.
    failed c.from_residual-in_err-follow_log.result
    (more g.D.Disk.tells (g.D.Disk.states c.follow_log.new.disk) (StopsBehind (read_setup opening) (bytes_with c.args.event) c.keep_step.new.self) (StopsFollowing (read_setup opening) c.args.self.now c.args.event)
    (λ kept s. behind_telling (read_setup opening) c.args.self.now c.keep_step.new.self c.args.event kept
    (follows_step c.args.self.now c.keep_step.new.self c.args.event _ c.requires.going c.requires.comes c.requires.none c.requires.idle c.in_ok-batch.ensures.stepped c.in_ok-batch.ensures.posts c.in_ok-batch.ensures.offices) s)
    (c.in_err-follow_log.ensures.stops opening (bytes_with c.args.event) (c.in_ok-batch.ensures.stored has)))

pub returns-in_err-look-clause-stops : goal.returns-in_err-look-clause-stops
returns-in_err-look-clause-stops g c = λ opening has.
    failed c.from_residual-in_err-look.result
    (kept_finds g.D.Disk.tells (g.D.Disk.states c.follow_log.new.disk) c.follow_log.new.self.replica (StopsFollowing (read_setup opening) c.args.self.now c.args.event)
    (behind_following (read_setup opening) c.args.self.now _ c.follow_log.new.self c.args.event
    (follows_step c.args.self.now c.keep_step.new.self c.args.event _ c.requires.going c.requires.comes c.requires.none c.requires.idle c.in_ok-batch.ensures.stepped c.in_ok-batch.ensures.posts c.in_ok-batch.ensures.offices
    c.follow_log.new.self.members) (told_or c.keep_step.new.self c.follow_log.new.self c.in_ok-follow_log.ensures.tells)) (c.in_ok-follow_log.ensures.stored (c.in_ok-batch.ensures.stored has)))

pub returns-clause-exact : goal.returns-clause-exact
returns-clause-exact g c =
    follows_exactly c.args.event _ c.args.self.now c.keep_step.new.self c.follow_log.new.self c.note_win.new.self c.look.new.self c.in_ok-batch.ensures.exact c.in_ok-follow_log.ensures.exact c.note_win.ensures.exact c.in_ok-look.ensures.exact
