use Rattle.store_format.specs.Batches.{batch_in}
use Rattle.store_format.proofs.BatchesLawful.{is_lawful}
use Rattle.std.proofs.Common.{arith, subst, Bool}
use Rattle.store_format.specs.BatchesTaken.{Steps}
use Rattle.store_format.proofs.Runs.{came_none, came_more, came_all}
use Rattle.store_format.proofs.segment.take_batches.Goals as goal

pub batches-init : goal.batches-init
batches-init c = came_none (batch_in c.args.format) c.args.bytes.now c.args.log.now c.requires

pub batches-smaller : goal.batches-smaller
batches-smaller c =
    let s = subst (λ (b : Bool). Steps (batch_in c.args.format) c.args.bytes.now c.batches.place c.take_batch.new.place c.batches.log c.take_batch.new.log b) c.if-branch.true c.in_ok-take_batch.ensures in
    let more = came_more (batch_in c.args.format) (is_lawful.batches c.args.format) c.args.bytes.now c.args.log.now c.batches.place c.take_batch.new.place c.batches.log c.take_batch.new.log c.batches.invariant s in
    omega (arith, s.0, s.1.0, more.within)

pub batches-preserved : goal.batches-preserved
batches-preserved c =
    let s = subst (λ (b : Bool). Steps (batch_in c.args.format) c.args.bytes.now c.batches.place c.take_batch.new.place c.batches.log c.take_batch.new.log b) c.if-branch.true c.in_ok-take_batch.ensures in
    came_more (batch_in c.args.format) (is_lawful.batches c.args.format) c.args.bytes.now c.args.log.now c.batches.place c.take_batch.new.place c.batches.log c.take_batch.new.log c.batches.invariant s

pub returns : goal.returns
returns c =
    let s = subst (λ (b : Bool). Steps (batch_in c.args.format) c.args.bytes.now c.batches.place c.take_batch.new.place c.batches.log c.take_batch.new.log b) c.if-branch.false c.in_ok-take_batch.ensures in
    came_all (batch_in c.args.format) (is_lawful.batches c.args.format) c.args.bytes.now c.args.log.now c.batches.place c.take_batch.new.place c.batches.log c.take_batch.new.log c.batches.invariant s
