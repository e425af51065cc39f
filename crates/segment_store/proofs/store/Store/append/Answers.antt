use Rattle.std.proofs.Common.{◌≤◌, subst}
use Rattle.segment_store.specs.Open.{Open}
use Rattle.std.proofs.Common.{Some, None, sym, ◌∙◌}
use Rattle.std.proofs.lemmas.Result.{err_from_is_err_and}
use Rattle.store_laws.specs.Store.{Log}
use Rattle.store_laws.specs.Append.{with_batch}
use Rattle.store_format.specs.Batches.{batch_bytes}
use Rattle.segment_store.specs.Grow.{room_in}
use Rattle.segment_store.specs.MadeCalls.{batch_calls_in}
use Rattle.segment_store.proofs.Appending.{none_appended, fits_of}
use Rattle.segment_store.proofs.CallsMade.{none_made, as_batch}
use Rattle.disk_model.proofs.Counting.{calls_refused}
use Rattle.segment_store.proofs.CountedCalls.{counts_as, batch_is}
use Rattle.segment_store.proofs.store.Store.append.Goals as goal

pub returns-in_err-batch-clause-kept : goal.returns-in_err-batch-clause-kept
returns-in_err-batch-clause-kept g c =
    let b : Log = record { first = c.args.first; entries = c.args.entries.now } in
    let p = err_from_is_err_and c.from_residual.result c.from_residual.ensures.1 in
    rw p.1 (λ k can. none_appended g.D.Disk.tells (g.D.Disk.states c.args.disk.now) c.args.self.now c.args.self.now k (with_batch b k) p.0 (subst (λ (o : Open). o.next ≤ 10000000000000000) c.self.view_is c.self.invariant.0))

pub returns-in-Some-clause-kept : goal.returns-in-Some-clause-kept
returns-in-Some-clause-kept g c = λ k can.
    let b : Log = record { first = c.args.first; entries = c.args.entries.now } in
    let e = c.in_ok-batch.ensures in
    c.grow.ensures.kept k b (c.as_slice.ensures.value ∙ e.bytes) (fits_of k b can c.ranges.first.fits e.count e.fit) can (sym c.room.ensures ∙ c.in-Some.is)

pub returns-clause-kept : goal.returns-clause-kept
returns-clause-kept g c = λ k can.
    let b : Log = record { first = c.args.first; entries = c.args.entries.now } in
    let e = c.in_ok-batch.ensures in
    c.begin.ensures.kept k b (c.as_slice-in-None.ensures.value ∙ e.bytes) (fits_of k b can c.ranges.first.fits e.count e.fit) can (sym c.room.ensures ∙ c.in-None.is)

pub returns-in_err-batch-clause-calls : goal.returns-in_err-batch-clause-calls
returns-in_err-batch-clause-calls g c =
    let b : Log = record { first = c.args.first; entries = c.args.entries.now } in
    let p = err_from_is_err_and c.from_residual.result c.from_residual.ensures.1 in
    rw p.1 (λ k. none_made g.D.Disk.tells (g.D.Disk.states c.args.disk.now) c.args.self.now k (batch_calls_in (room_in c.args.self.now.size) c.args.self.now (batch_bytes b)) p.0)

pub returns-in-Some-clause-calls : goal.returns-in-Some-clause-calls
returns-in-Some-clause-calls g c =
    let b : Log = record { first = c.args.first; entries = c.args.entries.now } in
    let room = sym c.room.ensures ∙ c.in-Some.is in
    λ k. as_batch g.D.Disk.tells (g.D.Disk.states c.args.disk.now) (g.D.Disk.states c.grow.new.disk) c.args.self.now k c.grow.result (Some c.in-Some.size) c.as_slice.result.now (batch_bytes b) room (c.as_slice.ensures.value ∙ c.in_ok-batch.ensures.bytes) (c.grow.ensures.calls k room)

pub returns-clause-calls : goal.returns-clause-calls
returns-clause-calls g c =
    let b : Log = record { first = c.args.first; entries = c.args.entries.now } in
    λ k. as_batch g.D.Disk.tells (g.D.Disk.states c.args.disk.now) (g.D.Disk.states c.begin.new.disk) c.args.self.now k c.begin.result None c.as_slice-in-None.result.now (batch_bytes b) (sym c.room.ensures ∙ c.in-None.is) (c.as_slice-in-None.ensures.value ∙ c.in_ok-batch.ensures.bytes) (c.begin.ensures.calls k)

pub returns-in_err-batch-clause-count : goal.returns-in_err-batch-clause-count
returns-in_err-batch-clause-count g c =
    let p = err_from_is_err_and c.from_residual.result c.from_residual.ensures.1 in
    rw p.1 (calls_refused _ _ p.0)

pub returns-in-Some-clause-count : goal.returns-in-Some-clause-count
returns-in-Some-clause-count g c = counts_as 2 _ _ _ c.grow.result (batch_is (room_in c.args.self.now.size) (Some c.in-Some.size) (sym c.room.ensures ∙ c.in-Some.is)) c.grow.ensures.count

pub returns-clause-count : goal.returns-clause-count
returns-clause-count g c = counts_as 5 _ _ _ c.begin.result (batch_is (room_in c.args.self.now.size) None (sym c.room.ensures ∙ c.in-None.is)) c.begin.ensures.count
