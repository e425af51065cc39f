use Rattle.std.proofs.Common.{ℕ, ◌<◌, ◌≤◌, subst}
use Rattle.segment_store.specs.Open.{Open}
use Rattle.std.proofs.Common.{None, Ok, Err}
use Rattle.std.proofs.lemmas.Result.{err_from_is_err_and}
use Rattle.store_laws.specs.Append.{with_batch}
use Rattle.segment_store.specs.MadeCalls.{batch_calls_in}
use Rattle.segment_store.specs.declared.fault.StoreFault.TheVariants.{NoMemory}
use Rattle.segment_store.proofs.Appending.{begun, none_appended}
use Rattle.segment_store.proofs.CallsMade.{none_made, err_made, begun_made}
use Rattle.disk_model.proofs.Counting.{calls_failed, calls_as, calls_refused}
use Rattle.segment_store.proofs.store.Store.begin.Goals as goal

pub returns-in_default-clause-kept : goal.returns-in_default-clause-kept
returns-in_default-clause-kept g c = λ k b is fits can room.
    none_appended g.D.Disk.tells (g.D.Disk.states c.args.disk.now) c.args.self.now c.args.self.now k (with_batch b k) NoMemory (subst (λ (o : Open). o.next ≤ 10000000000000000) c.self.view_is c.self.invariant.0)

pub returns-in_err-segments-clause-kept : goal.returns-in_err-segments-clause-kept
returns-in_err-segments-clause-kept g c =
    let p = err_from_is_err_and c.from_residual.result c.from_residual.ensures.1 in
    rw p.1 (λ k b is fits can room. none_appended g.D.Disk.tells (g.D.Disk.states c.args.disk.now) c.args.self.now c.args.self.now k (with_batch b k) p.0 (subst (λ (o : Open). o.next ≤ 10000000000000000) c.self.view_is c.self.invariant.0))

pub returns-in_err-begin_batch-clause-kept : goal.returns-in_err-begin_batch-clause-kept
returns-in_err-begin_batch-clause-kept g c =
    let p = err_from_is_err_and c.from_residual-in_err-begin_batch.result c.from_residual-in_err-begin_batch.ensures.1 in
    rw p.1 (λ k b is fits can room. begun g.D.Disk.tells (g.D.Disk.states c.args.disk.now) (g.D.Disk.states c.begin_batch.new.disk) c.args.self.now c.args.self.now k b c.args.batch.now is fits can (Err c.in_err-begin_batch.field-0.0) (subst (λ (n : ℕ). n < 10000000000000000) c.in-Some.ensures.0 c.in-Some.ensures.1) c.in-Some.number room c.in-Some.ensures.0 tt c.in_err-begin_batch.ensures.went)

pub returns-clause-kept : goal.returns-clause-kept
returns-clause-kept g c =
    λ k b is fits can room. begun g.D.Disk.tells (g.D.Disk.states c.args.disk.now) (g.D.Disk.states c.begin_batch.new.disk) c.args.self.now c.note_begun.new.self k b c.args.batch.now is fits can (Ok c.in_ok-begin_batch.field-0) (subst (λ (n : ℕ). n < 10000000000000000) c.in-Some.ensures.0 c.in-Some.ensures.1) c.in-Some.number room c.in-Some.ensures.0 c.note_begun.ensures c.in_ok-begin_batch.ensures.went

pub returns-in_default-clause-calls : goal.returns-in_default-clause-calls
returns-in_default-clause-calls g c = λ k. none_made g.D.Disk.tells (g.D.Disk.states c.args.disk.now) c.args.self.now k (batch_calls_in None c.args.self.now c.args.batch.now) NoMemory

pub returns-in_err-segments-clause-calls : goal.returns-in_err-segments-clause-calls
returns-in_err-segments-clause-calls g c =
    let p = err_from_is_err_and c.from_residual.result c.from_residual.ensures.1 in
    rw p.1 (λ k. none_made g.D.Disk.tells (g.D.Disk.states c.args.disk.now) c.args.self.now k (batch_calls_in None c.args.self.now c.args.batch.now) p.0)

pub returns-in_err-begin_batch-clause-calls : goal.returns-in_err-begin_batch-clause-calls
returns-in_err-begin_batch-clause-calls g c =
    let p = err_from_is_err_and c.from_residual-in_err-begin_batch.result c.from_residual-in_err-begin_batch.ensures.1 in
    rw p.1 (λ k. err_made g.D.Disk.tells (g.D.Disk.states c.args.disk.now) (g.D.Disk.states c.begin_batch.new.disk) c.args.self.now k (batch_calls_in None c.args.self.now c.args.batch.now) c.in_err-begin_batch.field-0.0 p.0
    (begun_made g.D.Disk.tells (g.D.Disk.states c.args.disk.now) (g.D.Disk.states c.begin_batch.new.disk) c.args.self.now k (Err c.in_err-begin_batch.field-0.0) c.in-Some.number c.args.batch.now c.in-Some.ensures.0 c.in_err-begin_batch.ensures.went))

pub returns-clause-calls : goal.returns-clause-calls
returns-clause-calls g c =
    λ k. begun_made g.D.Disk.tells (g.D.Disk.states c.args.disk.now) (g.D.Disk.states c.begin_batch.new.disk) c.args.self.now k (Ok c.in_ok-begin_batch.field-0) c.in-Some.number c.args.batch.now c.in-Some.ensures.0 c.in_ok-begin_batch.ensures.went

pub returns-in_default-clause-count : goal.returns-in_default-clause-count
returns-in_default-clause-count g c = calls_refused _ _ NoMemory

pub returns-in_err-segments-clause-count : goal.returns-in_err-segments-clause-count
returns-in_err-segments-clause-count g c =
    let p = err_from_is_err_and c.from_residual.result c.from_residual.ensures.1 in
    rw p.1 (calls_refused _ _ p.0)

pub returns-in_err-begin_batch-clause-count : goal.returns-in_err-begin_batch-clause-count
returns-in_err-begin_batch-clause-count g c =
    let p = err_from_is_err_and c.from_residual-in_err-begin_batch.result c.from_residual-in_err-begin_batch.ensures.1 in
    rw p.1 (calls_failed _ _ _ c.in_err-begin_batch.field-0.0 _ c.in_err-begin_batch.ensures.count)

pub returns-clause-count : goal.returns-clause-count
returns-clause-count g c = calls_as _ _ _ c.in_ok-begin_batch.field-0 tt c.in_ok-begin_batch.ensures.count
