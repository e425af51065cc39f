use Rattle.std.proofs.Common.{◌≡◌, sym, subst, rules}
use Rattle.raft_membership.specs.Members.{Configurations, settled, IsOf, AllStand}
use Rattle.raft_membership.proofs.Standing.{settled_stand}
use Rattle.raft_membership.proofs.WholeLogs.{is_settled}
use Rattle.raft_membership.proofs.members.Members.settle.Goals as goal

pub returns-clause-is : goal.returns-clause-is
returns-clause-is c setup log h within =
    let m : Configurations = record { at = c.args.applied; servers = c.self.inside.servers; later = c.self.inside.changes.items } in
    let is : m ≡ settled c.args.self.now c.args.applied = search rules in
    subst (IsOf setup log) (sym is) (is_settled setup log c.args.self.now c.args.applied c.requires h within)

pub returns-clause-stand : goal.returns-clause-stand
returns-clause-stand c h =
    let m : Configurations = record { at = c.args.applied; servers = c.self.inside.servers; later = c.self.inside.changes.items } in
    let is : m ≡ settled c.args.self.now c.args.applied = search rules in
    subst AllStand (sym is) (settled_stand c.args.self.now c.args.applied h)
