use Rattle.std.proofs.Common.{◌≡◌, ◌≤◌, length, refl, sym, ap, subst}
use Rattle.std.specs.Prelude.{false, ◌&&◌, nat_lt, nat_le, max}
use Rattle.raft_spec.specs.Log.{LogEnd, first_replaced}
use Rattle.raft_spec.specs.NodeValues.{NodeValue, node_of}
use Rattle.raft_core.specs.contracts.node.RaftNode.{the_view}
use Rattle.raft_core.specs.Effects.{Takes, change_from}
use Rattle.raft_core.specs.Nodes.{IsLog}
use Rattle.raft_core.proofs.TakenLogs.{takes, taken_log, with_entries}
use Rattle.raft_core.proofs.node.RaftNode.take_in.Goals as goal

pub invariant_of-self-2 : goal.invariant_of-self-2
invariant_of-self-2 c =
    let v : NodeValue = the_view c.self.inside in
    let back = sym c.self.view_is in
    let low = subst (λ (h : NodeValue). h.snapshot.index ≤ c.args.place) back c.requires.low in
    let high = subst (λ (h : NodeValue). c.args.place ≤ length (node_of h).log) back c.requires.high in
    let keeps = subst (λ (h : NodeValue). (nat_lt 0 (first_replaced (node_of h).log c.args.place c.args.coming.items) && nat_le (first_replaced (node_of h).log c.args.place c.args.coming.items) h.commit) ≡ false) back c.requires.keeps in
    let taken = c.in_ok-from.ensures.ok in
    let log = taken_log c.self.inside.log c.take_after.new.self v c.args.place c.args.coming.items c.args.commit c.in_ok-from.from refl refl c.self.invariant.0 low high keeps c.requires.known c.in_ok-from.ensures.first taken in
    (subst (λ n. IsLog c.take_after.new.self n c.self.inside.snapshot) (sym c.max-self-inside.ensures) log, c.self.invariant.1, c.self.invariant.2)

pub returns : goal.returns
returns c =
    let v : NodeValue = the_view c.self.inside in
    let back = sym c.self.view_is in
    let low = subst (λ (h : NodeValue). h.snapshot.index ≤ c.args.place) back c.requires.low in
    let high = subst (λ (h : NodeValue). c.args.place ≤ length (node_of h).log) back c.requires.high in
    let keeps = subst (λ (h : NodeValue). (nat_lt 0 (first_replaced (node_of h).log c.args.place c.args.coming.items) && nat_le (first_replaced (node_of h).log c.args.place c.args.coming.items) h.commit) ≡ false) back c.requires.keeps in
    let taken = c.in_ok-from.ensures.ok in
    let does = takes c.self.inside.log.first v c.take_after.new.self c.args.place c.args.coming.items c.args.commit c.in_ok-from.from refl c.self.invariant.0 low high keeps taken in
    let start = ap (λ (e : LogEnd). e.index) c.in_ok-from.ensures.first in
    let max_is = c.max-self-inside.ensures in
    let now : with_entries v c.take_after.new.self.entries (max v.commit c.args.commit) ≡ record v { entries = c.take_after.new.self.entries; commit = c.max-self-inside.result; base = c.take_after.new.self.first.index } = λ k. record v { entries = c.take_after.new.self.entries; commit = (sym max_is) k; base = (sym start) k } in
    subst (λ (h : NodeValue). Takes h (record v { entries = c.take_after.new.self.entries; commit = c.max-self-inside.result; base = c.take_after.new.self.first.index }) c.args.place c.args.coming.items c.args.commit c.change_of.result) c.self.view_is
    (subst (λ x. Takes v (record v { entries = c.take_after.new.self.entries; commit = c.max-self-inside.result; base = c.take_after.new.self.first.index }) c.args.place c.args.coming.items c.args.commit x) (sym c.change_of.ensures)
    (subst (λ (n : NodeValue). Takes v n c.args.place c.args.coming.items c.args.commit (change_from c.in_ok-from.from)) now does))
