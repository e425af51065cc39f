use Rattle.node_core.proofs.RaftExactly.{step_by}
use Rattle.node_core.proofs.Posting.{posts_so}
use Rattle.raft_membership.specs.Members.{read_setup}
use Rattle.raft_core.specs.Events.{input_of}
use Rattle.node_core.specs.Finding.{StopsIn}
use Rattle.node_core.specs.Taking.{bytes_with}
use Rattle.node_core.proofs.Finding.{failed, kept_finds, made_left, step_finds}
use Rattle.node_core.proofs.running.Running.make_step.Goals as goal

pub returns-clause-posts : goal.returns-clause-posts
returns-clause-posts g c =
    posts_so c.args.self.now _ c.args.event _ c.requires.whole c.in_ok-batch.ensures.raft c.in_ok-batch.ensures.whole c.in_ok-batch.ensures.tells c.in_ok-post_all.ensures c.step.ensures.id

pub returns-in_err-batch-clause-stops : goal.returns-in_err-batch-clause-stops
returns-in_err-batch-clause-stops g c = λ opening has.
    failed c.from_residual.result (step_finds (read_setup opening) c.args.self.now c.args.event g.D.Disk.tells (g.D.Disk.states c.step.new.disk) _ _ c.requires.whole c.requires.intake (c.in_err-batch.ensures.stopped has))

pub returns-in_err-post_all-clause-stops : goal.returns-in_err-post_all-clause-stops
returns-in_err-post_all-clause-stops g c = λ opening has.
    failed c.from_residual-in_err-post_all.result
    (kept_finds g.D.Disk.tells (g.D.Disk.states c.step.new.disk) c.step.new.self (StopsIn (read_setup opening) (bytes_with c.args.event) c.args.self.now (input_of c.args.event))
    (made_left (read_setup opening) c.args.self.now c.step.new.self c.args.event c.requires.whole c.requires.intake c.in_ok-batch.ensures.raft c.in_ok-batch.ensures.bytes) (c.in_ok-batch.ensures.kept has))

pub returns-clause-exact : goal.returns-clause-exact
returns-clause-exact g c =
    step_by c.args.self.now c.step.new.self c.post_all.new.self c.args.event _ _ _ c.requires.whole c.step.ensures.id c.in_ok-batch.ensures.raft c.in_ok-batch.ensures.snap c.in_ok-batch.ensures.tells
    c.in_ok-batch.ensures.moved c.in_ok-post_all.ensures
