use Rattle.std.proofs.Common.{◌≡◌, [], ◌∷◌, ◌++◌, sym, subst, rules}
use Rattle.raft_membership.specs.Members.{changed, read_setup, IsOf}
use Rattle.raft_membership.proofs.Readings.{is_taken}
use Rattle.raft_membership.proofs.members.Members.take_in.Goals as goal

pub returns-in_default-clause-is : goal.returns-in_default-clause-is
returns-in_default-clause-is c opening log h at =
    let is : c.args.self.now ≡ changed c.args.self.now c.args.index c.args.entry.now = search rules in
    subst (IsOf (read_setup opening) (log ++ c.args.entry.now ∷ [])) (sym is) (is_taken opening log c.args.entry.now c.args.self.now c.args.index h at)
