use Rattle.std.proofs.Common.{◌≤◌, ◌-◌, length, ap, arith, subst, sym, ◌∙◌}
use Rattle.raft_spec.specs.Compaction.{CutLog}
use Rattle.raft_log.specs.Agreeing.{TakesIn}
use Rattle.raft_log.proofs.Places.{whole_count}
use Rattle.raft_log.proofs.Taking.{taken_length}
use Rattle.raft_log.proofs.log.Log.take_after.Goals as goal

pub take_in-requires : goal.take_in-requires
take_in-requires c =
    let low = c.requires.low in
    let high = c.requires.high in
    let n = whole_count c.args.self.now in
    let cut = c.cut-cut.ensures in
    let all = ap (λ (l : CutLog). length l.entries) c.self.view_is in
    omega arith

pub invariant_of-self : goal.invariant_of-self
invariant_of-self c =
    let n = whole_count c.args.self.now in
    let low = c.requires.low in
    let high = c.requires.high in
    let cut = c.cut-cut.ensures in
    let first = ap (λ (l : CutLog). l.first.index) c.self.view_is in
    let all = ap (λ (l : CutLog). length l.entries) c.self.view_is in
    let small : c.args.after - c.cut-cut.result ≤ length c.self.inside.entries.items = omega arith in
    let long = taken_length c.take_in.result c.self.inside.entries.items c.take_in.new.queue.items c.args.entries.items (c.args.after - c.cut-cut.result) small c.take_in.ensures.ok c.take_in.ensures.err in
    let sum = c.in_ok-index_after.ensures.sum in
    let fits = c.in_ok-index_after.ensures.fits in
    let count = c.len.ensures in
    let held = c.self.invariant in
    omega arith

pub invariant_of-self-2 : goal.invariant_of-self-2
invariant_of-self-2 c =
    let n = whole_count c.args.self.now in
    let low = c.requires.low in
    let high = c.requires.high in
    let cut = c.cut-cut.ensures in
    let first = ap (λ (l : CutLog). l.first.index) c.self.view_is in
    let all = ap (λ (l : CutLog). length l.entries) c.self.view_is in
    let small : c.args.after - c.cut-cut.result ≤ length c.self.inside.entries.items = omega arith in
    let long = taken_length c.take_in.result c.self.inside.entries.items c.take_in.new.queue.items c.args.entries.items (c.args.after - c.cut-cut.result) small c.take_in.ensures.ok c.take_in.ensures.err in
    let sum = c.in_ok-index_after.ensures.sum in
    let fits = c.in_ok-index_after.ensures.fits in
    let count = c.len.ensures in
    let held = c.self.invariant in
    omega arith

pub returns-clause-ok : goal.returns-clause-ok
returns-clause-ok c =
    (c.in_ok-from.from, c.first_index.ensures, subst (λ (l : CutLog). TakesIn l.entries c.take_in.new.queue.items (c.args.after - l.first.index) c.args.entries.items c.in_ok-from.from) c.self.view_is (subst (λ n. TakesIn c.self.inside.entries.items c.take_in.new.queue.items (c.args.after - n) c.args.entries.items c.in_ok-from.from) (c.cut-cut.ensures ∙ sym (ap (λ (l : CutLog). l.first.index) c.self.view_is)) c.in_ok-from.ensures.ok))
