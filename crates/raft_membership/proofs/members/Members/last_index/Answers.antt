use Rattle.std.proofs.Common.{◌≡◌, ◌-◌, ◌<◌, length, sym, ap, ◌∙◌, arith, slice_index_or}
use Rattle.raft_membership.specs.Members.{last_from, last_index}
use Rattle.raft_membership.proofs.WholeLogs.{last_place}
use Rattle.raft_membership.proofs.members.Members.last_index.Goals as goal

pub returns-in-Some : goal.returns-in-Some
returns-in-Some c =
    let some : 0 < length c.deref.result.now = c.in-Some.ensures.item.3.0 in
    let is : c.in-Some.change.now ≡ slice_index_or c.deref.result.now (length c.deref.result.now - 1) c.in-Some.change.now = c.in-Some.ensures.item.1 in
    last_place c.self.inside.at c.deref.result.now (length c.deref.result.now - 1) c.in-Some.change.now (omega arith) (sym is)
    ∙ ap (last_from c.self.inside.at) c.deref.ensures.value
    ∙ ap last_index c.self.view_is
