use Rattle.std.proofs.Common.{◌≡◌, [], ◌∷◌, ◌++◌, sym, subst, rules}
use Rattle.raft_membership.specs.Members.{Configurations, with_change, IsOf, AllStand}
use Rattle.raft_membership.proofs.Standing.{pushed_stand}
use Rattle.raft_membership.proofs.WholeLogs.{is_pushed}
use Rattle.raft_membership.proofs.members.Members.push.Goals as goal

pub returns-clause-is : goal.returns-clause-is
returns-clause-is c setup log e h at reads read =
    let m : Configurations = record { at = c.self.inside.at; servers = c.self.inside.servers; later = c.push.new.self.items } in
    let is : m ≡ with_change c.args.self.now c.args.index c.args.servers = search rules in
    subst (IsOf setup (log ++ e ∷ [])) (sym is) (is_pushed setup log e c.args.self.now c.args.index c.args.servers h at reads read)

pub returns-clause-stand : goal.returns-clause-stand
returns-clause-stand c h stands =
    let m : Configurations = record { at = c.self.inside.at; servers = c.self.inside.servers; later = c.push.new.self.items } in
    let is : m ≡ with_change c.args.self.now c.args.index c.args.servers = search rules in
    subst AllStand (sym is) (pushed_stand c.args.self.now c.args.index c.args.servers h stands)
