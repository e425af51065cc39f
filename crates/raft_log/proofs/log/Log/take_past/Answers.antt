use Rattle.std.proofs.Common.{ap, arith, subst}
use Rattle.raft_spec.specs.Log.{LogEnd}
use Rattle.raft_log.specs.Agreeing.{TakesAfter}
use Rattle.raft_log.proofs.Places.{meets_parts}
use Rattle.raft_log.proofs.Taking.{answered}
use Rattle.raft_log.proofs.log.Log.take_past.Goals as goal

pub take_after-requires : goal.take_after-requires
take_after-requires c =
    let parts = meets_parts c.args.self.now c.args.prev c.requires in
    let at = ap (λ (e : LogEnd). e.index) c.prev.view_is in
    let low = parts.0 in
    let high = parts.1 in
    record { low = omega arith; high = omega arith }

pub returns-clause-answer : goal.returns-clause-answer
returns-clause-answer c =
    let at = ap (λ (e : LogEnd). e.index) c.prev.view_is in
    let sum = c.in_ok-index.ensures.sum in
    let count = c.len.ensures in
    answered c.args.self.now c.take_after.new.self c.args.entries.items c.args.prev c.in_ok-index.index c.in_ok-from.from c.take_after.ensures.first c.requires (omega arith) (subst (λ n. TakesAfter c.args.self.now c.take_after.new.self n c.args.entries.items c.in_ok-from.from) at c.in_ok-from.ensures.ok)
