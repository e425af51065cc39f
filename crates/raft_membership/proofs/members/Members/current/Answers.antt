use Rattle.std.proofs.Common.{◌≡◌, ◌-◌, ◌<◌, length, sym, ap, subst, ◌∙◌, arith, slice_index_or}
use Rattle.std.proofs.lemmas.Grind.{common_steps}
use Rattle.raft_messages.specs.Servers.{IsConfiguration}
use Rattle.raft_membership.specs.Members.{servers_from, last_servers}
use Rattle.raft_membership.proofs.Standing.{last_stands}
use Rattle.raft_membership.proofs.WholeLogs.{last_change, is_current, same_voters}
use Rattle.raft_membership.proofs.members.Members.current.Goals as goal

pub returns-in-Some-clause-value : goal.returns-in-Some-clause-value
returns-in-Some-clause-value c =
    let some : 0 < length c.deref.result.now = c.in-Some.ensures.item.3.0 in
    let is : c.in-Some.change.now ≡ slice_index_or c.deref.result.now (length c.deref.result.now - 1) c.in-Some.change.now = c.in-Some.ensures.item.1 in
    c.as_slice.ensures
    ∙ last_change c.self.inside.servers c.deref.result.now (length c.deref.result.now - 1) c.in-Some.change.now (omega arith) (sym is)
    ∙ ap (servers_from c.self.inside.servers) c.deref.ensures.value
    ∙ ap last_servers c.self.view_is

pub returns-in-Some-clause-is : goal.returns-in-Some-clause-is
returns-in-Some-clause-is c setup log h = returns-in-Some-clause-value c ∙ is_current setup log c.args.self.now h

pub returns-in-Some-clause-voters : goal.returns-in-Some-clause-voters
returns-in-Some-clause-voters c setup log h = same_voters setup log c.args.self.now c.as_slice.result.now (returns-in-Some-clause-value c) h

pub returns-in-None-clause-value : goal.returns-in-None-clause-value
returns-in-None-clause-value c = grind (arith, common_steps)

pub returns-in-None-clause-is : goal.returns-in-None-clause-is
returns-in-None-clause-is c setup log h = returns-in-None-clause-value c ∙ is_current setup log c.args.self.now h

pub returns-in-None-clause-voters : goal.returns-in-None-clause-voters
returns-in-None-clause-voters c setup log h = same_voters setup log c.args.self.now c.as_slice-in-None.result.now (returns-in-None-clause-value c) h

pub returns-in-Some-clause-stands : goal.returns-in-Some-clause-stands
returns-in-Some-clause-stands c h = subst IsConfiguration (sym (returns-in-Some-clause-value c)) (last_stands c.args.self.now.servers c.args.self.now.later h.0 h.1)

pub returns-in-None-clause-stands : goal.returns-in-None-clause-stands
returns-in-None-clause-stands c h = subst IsConfiguration (sym (returns-in-None-clause-value c)) (last_stands c.args.self.now.servers c.args.self.now.later h.0 h.1)
