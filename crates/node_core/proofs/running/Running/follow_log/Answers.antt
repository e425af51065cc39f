use Rattle.node_core.proofs.RaftExactly.{followed_untold, followed_told}
use Rattle.std.proofs.Common.{sym, ap, subst}
use Rattle.raft_on_disk.specs.Replicas.{ReplicaValue, IsKept}
use Rattle.node_core.specs.declared.running.Running.{Running}
use Rattle.raft_membership.specs.Members.{read_setup}
use Rattle.std.proofs.lemmas.Result.{on_ok_weaker, on_err_weaker}
use Rattle.node_core.specs.Posting.{same_members}
use Rattle.node_core.proofs.Followed.{ok_both, tells_behind, follows_behind}
use Rattle.node_core.specs.Finding.{StopsBehind, StopsTelling}
use Rattle.node_core.proofs.Finding.{failed, kept_finds, more}
use Rattle.node_core.proofs.StopsOfTurns.{telling_from, untold_behind}
use Rattle.node_core.proofs.running.Running.follow_log.Goals as goal

pub returns-then-not-branch-clause-stored : goal.returns-then-not-branch-clause-stored
returns-then-not-branch-clause-stored g c = λ has.
    subst (λ (r : ReplicaValue). IsKept g.D.Disk.tells (g.D.Disk.states c.args.disk.now) r) (sym (ap (λ (n : Running). n.replica) c.follow_members.ensures.is)) has

pub returns-clause-stored : goal.returns-clause-stored
returns-clause-stored g c = λ has.
    c.tell_servers.ensures.stored (subst (λ (r : ReplicaValue). IsKept g.D.Disk.tells (g.D.Disk.states c.args.disk.now) r) (sym (ap (λ (n : Running). n.replica) c.follow_members.ensures.is)) has)

pub returns-in_err-follow_members-clause-stops : goal.returns-in_err-follow_members-clause-stops
returns-in_err-follow_members-clause-stops g c = λ opening came has.
    failed c.from_residual.result (kept_finds g.D.Disk.tells (g.D.Disk.states c.args.disk.now) c.args.self.now.replica (StopsBehind (read_setup opening) came c.args.self.now) (untold_behind (read_setup opening) came c.args.self.now) has)

pub returns-clause-stops : goal.returns-clause-stops
returns-clause-stops g c = λ opening came has.
    on_err_weaker c.tell_servers.result
    (more g.D.Disk.tells (g.D.Disk.states c.tell_servers.new.disk) (StopsTelling (read_setup opening) came c.follow_members.new.self) (StopsBehind (read_setup opening) came c.args.self.now)
    (λ kept s. telling_from (read_setup opening) came c.args.self.now c.follow_members.new.self kept c.follow_members.ensures.is s))
    (c.tell_servers.ensures.stops opening came
    (subst (λ (r : ReplicaValue). IsKept g.D.Disk.tells (g.D.Disk.states c.args.disk.now) r) (sym (ap (λ (n : Running). n.replica) c.follow_members.ensures.is)) has))

pub returns-then-not-branch-clause-tells : goal.returns-then-not-branch-clause-tells
returns-then-not-branch-clause-tells g c = same_members (c.in_ok-follow_members.ensures.stays c.if-not-branch.true)

pub returns-clause-tells : goal.returns-clause-tells
returns-clause-tells g c = ok_both c.tell_servers.result (tells_behind c.args.self.now c.follow_members.new.self c.tell_servers.new.self c.follow_members.ensures.is) c.tell_servers.ensures.told c.tell_servers.ensures.tells

pub returns-clause-follows : goal.returns-clause-follows
returns-clause-follows g c =
    on_ok_weaker c.tell_servers.result (λ t. follows_behind c.args.self.now c.follow_members.new.self c.tell_servers.new.self c.args.batch t c.in_ok-follow_members.ensures.follows) c.tell_servers.ensures.told

pub returns-then-not-branch-clause-exact : goal.returns-then-not-branch-clause-exact
returns-then-not-branch-clause-exact g c =
    followed_untold c.args.self.now c.follow_members.new.self c.args.batch c.in_ok-follow_members.field-0 c.in_ok-follow_members.ensures.others c.if-not-branch.true c.in_ok-follow_members.ensures.exact

pub returns-clause-exact : goal.returns-clause-exact
returns-clause-exact g c =
    on_ok_weaker c.tell_servers.result
    (λ told. followed_told c.args.self.now c.follow_members.new.self c.tell_servers.new.self c.args.batch c.in_ok-follow_members.field-0 c.in_ok-follow_members.ensures.others c.if-not-branch.false c.in_ok-follow_members.ensures.exact told)
    c.tell_servers.ensures.exact
