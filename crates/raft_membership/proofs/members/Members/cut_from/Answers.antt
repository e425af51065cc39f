use Rattle.std.proofs.Common.{◌≡◌, ◌<◌, ◌-◌, take, sym, subst, rules}
use Rattle.raft_membership.specs.Members.{Configurations, cut_at, last_index, IsOf, AllStand}
use Rattle.raft_membership.proofs.JoinedLogs.{cut_low}
use Rattle.raft_membership.proofs.Standing.{cut_stand}
use Rattle.raft_membership.proofs.WholeLogs.{is_cut}
use Rattle.raft_membership.proofs.members.Members.cut_from.Goals as goal

pub returns-clause-is : goal.returns-clause-is
returns-clause-is c setup log h =
    let m : Configurations = record { at = c.self.inside.at; servers = c.self.inside.servers; later = c.truncate.new.self.items } in
    let is : m ≡ cut_at c.args.self.now c.args.index = search rules in
    subst (IsOf setup (take (c.args.index - 1) log)) (sym is) (is_cut setup log c.args.self.now c.args.index c.requires h)

pub returns-clause-stand : goal.returns-clause-stand
returns-clause-stand c h =
    let m : Configurations = record { at = c.self.inside.at; servers = c.self.inside.servers; later = c.truncate.new.self.items } in
    let is : m ≡ cut_at c.args.self.now c.args.index = search rules in
    subst AllStand (sym is) (cut_stand c.args.self.now c.args.index h)

pub returns-clause-low : goal.returns-clause-low
returns-clause-low c =
    let m : Configurations = record { at = c.self.inside.at; servers = c.self.inside.servers; later = c.truncate.new.self.items } in
    let is : m ≡ cut_at c.args.self.now c.args.index = search rules in
    subst (λ (x : Configurations). last_index x < c.args.index) (sym is) (cut_low c.args.self.now c.args.index c.requires)
