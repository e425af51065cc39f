use Rattle.std.proofs.Common.{◌≤◌, ◌∙◌, sym, subst}
use Rattle.std.proofs.lemmas.Result.{err_from_is_err_and}
use Rattle.store_laws.specs.Store.{Log}
use Rattle.store_format.specs.Batches.{batch_bytes}
use Rattle.segment_store.specs.Open.{Open}
use Rattle.segment_store.proofs.Appending.{fits_of}
use Rattle.segment_store.proofs.Halves.{none_begun, if_begun}
use Rattle.segment_store.proofs.store.Store.begin_append.Goals as goal

pub returns-in_err-batch-clause-kept : goal.returns-in_err-batch-clause-kept
returns-in_err-batch-clause-kept g c =
    let b : Log = record { first = c.args.first; entries = c.args.entries.now } in
    let p = err_from_is_err_and c.from_residual.result c.from_residual.ensures.1 in
    rw p.1 (λ k can. none_begun g.D.Disk.tells (g.D.Disk.states c.args.disk.now) (g.D.Disk.states c.args.disk.now) c.args.self.now c.args.self.now k b
    p.0 (subst (λ (o : Open). o.next ≤ 10000000000000000) c.self.view_is c.self.invariant.0))

pub returns-in-Some-clause-begun : goal.returns-in-Some-clause-begun
returns-in-Some-clause-begun g c =
    let b : Log = record { first = c.args.first; entries = c.args.entries.now } in
    if_begun c.args.self.now c.args.self.now c.as_slice.result.now (batch_bytes b) c.begin_grow.result
    (c.as_slice.ensures.value ∙ c.in_ok-batch.ensures.bytes) (c.begin_grow.ensures.begun (sym c.room.ensures ∙ c.in-Some.is))

pub returns-clause-begun : goal.returns-clause-begun
returns-clause-begun g c =
    let b : Log = record { first = c.args.first; entries = c.args.entries.now } in
    if_begun c.args.self.now c.begin_whole.new.self c.as_slice-in-None.result.now (batch_bytes b) c.begin_whole.result
    (c.as_slice-in-None.ensures.value ∙ c.in_ok-batch.ensures.bytes) (c.begin_whole.ensures.begun (sym c.room.ensures ∙ c.in-None.is))

pub returns-in-Some-clause-kept : goal.returns-in-Some-clause-kept
returns-in-Some-clause-kept g c = λ k can.
    let b : Log = record { first = c.args.first; entries = c.args.entries.now } in
    let e = c.in_ok-batch.ensures in
    c.begin_grow.ensures.kept k b (c.as_slice.ensures.value ∙ e.bytes) (fits_of k b can c.ranges.first.fits e.count e.fit) can
    (sym c.room.ensures ∙ c.in-Some.is)

pub returns-clause-kept : goal.returns-clause-kept
returns-clause-kept g c = λ k can.
    let b : Log = record { first = c.args.first; entries = c.args.entries.now } in
    let e = c.in_ok-batch.ensures in
    c.begin_whole.ensures.kept k b (c.as_slice-in-None.ensures.value ∙ e.bytes) (fits_of k b can c.ranges.first.fits e.count e.fit) can
    (sym c.room.ensures ∙ c.in-None.is)
