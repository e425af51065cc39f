use Rattle.std.proofs.Common.{◌≡◌, ◌+◌, ◌<◌, Bool, suc, List, length, take, sym, subst, arith}
use Rattle.std.specs.Prelude.{◌||◌}
use Rattle.std.proofs.lemmas.List.{length-take-le}
use Rattle.raft_spec.specs.Log.{Entry}
use Rattle.raft_membership.specs.Members.{Joined}
use Rattle.raft_membership.proofs.JoinedLogs.{one_joined, one_more_taken}
use Rattle.raft_membership.proofs.joining.join.Goals as goal

pub loop-entry-preserved : goal.loop-entry-preserved
loop-entry-preserved c =
    let i = c.loop-entry.entry-index in
    let all = c.args.entries.now in
    let j = c.loop-entry.invariant.0 in
    let lt : i < length all = c.loop-entry-test.true in
    let n : length (take i all) ≡ i = length-take-le i all (omega arith) in
    let at : c.loop-entry.index ≡ c.args.first + i = c.loop-entry.invariant.1 in
    let more = one_more_taken all i c.entry-item.result lt c.entry-item.is in
    let next : c.in_ok-index.index ≡ suc c.loop-entry.index = c.in_ok-index.ensures in (
      subst (λ (t : Bool). Joined c.args.members.now c.take_in.new.self c.args.first (take (i + 1) all) t) (sym c.either-told.ensures)
          (subst (λ (es : List Entry). Joined c.args.members.now c.take_in.new.self c.args.first es (c.in_ok-changes.changes || c.loop-entry.told)) (sym more)
          (one_joined c.args.members.now c.loop-entry.members c.take_in.new.self c.args.first c.loop-entry.index (take i all) c.entry-item.result c.loop-entry.told c.in_ok-changes.changes j (omega arith) c.in_ok-changes.ensures.told c.in_ok-changes.ensures.taken c.in_ok-changes.ensures.is c.in_ok-changes.ensures.stand)),
      omega arith,
    )
