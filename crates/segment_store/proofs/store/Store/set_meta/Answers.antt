use Rattle.std.proofs.Common.{◌≤◌, subst}
use Rattle.segment_store.specs.Open.{Open}
use Rattle.std.proofs.Common.{suc, Ok, Err}
use Rattle.std.proofs.lemmas.Result.{err_from_is_err_and}
use Rattle.store_laws.specs.Meta.{with_vote}
use Rattle.store_format.specs.declared.metadata.Metadata.{Metadata}
use Rattle.segment_store.specs.MadeCalls.{version_calls}
use Rattle.segment_store.specs.declared.fault.StoreFault.TheVariants.{NoMemory}
use Rattle.segment_store.proofs.Keeping.{none_keeps, set_meta_kept}
use Rattle.segment_store.proofs.CallsMade.{none_made, err_made, version_made}
use Rattle.std.proofs.Common.{ℕ, sym, ap, ◌∙◌}
use Rattle.disk_model.proofs.Counting.{calls_failed, calls_as, calls_refused}
use Rattle.segment_store.specs.Open.{size_for}
use Rattle.segment_store.specs.MadeCalls.{block_count}
use Rattle.segment_store.proofs.CountedCalls.{counts_as}
use Rattle.segment_store.proofs.store.Store.set_meta.Goals as goal

pub returns-in_default-clause-kept : goal.returns-in_default-clause-kept
returns-in_default-clause-kept g c = λ k.
    none_keeps g.D.Disk.tells (g.D.Disk.states c.args.disk.now) c.args.self.now c.args.self.now k (with_vote c.args.term c.args.vote k) NoMemory (subst (λ (o : Open). o.next ≤ 10000000000000000) c.self.view_is c.self.invariant.0)

pub returns-in_err-write_metadata-clause-kept : goal.returns-in_err-write_metadata-clause-kept
returns-in_err-write_metadata-clause-kept g c =
    let p = err_from_is_err_and c.from_residual.result c.from_residual.ensures.1 in
    let m : Metadata = record { version = c.in-Some.version; term = c.args.term; vote = c.args.vote } in
    let v = c.in-Some.ensures in
    rw p.1 (λ k. set_meta_kept g.D.Disk.tells (g.D.Disk.states c.args.disk.now) (g.D.Disk.states c.write_metadata.new.disk) c.args.self.now c.args.self.now k m c.size_for.result (Err c.in_err-write_metadata.field-0.0) (subst (λ (o : Open). o.next ≤ 10000000000000000) c.self.view_is c.self.invariant.0) v.0 v.1 c.ranges.term.fits c.ranges.vote.fits c.size_for.ensures tt c.in_err-write_metadata.ensures.went)

pub returns-clause-kept : goal.returns-clause-kept
returns-clause-kept g c =
    let m : Metadata = record { version = c.in-Some.version; term = c.args.term; vote = c.args.vote } in
    let v = c.in-Some.ensures in
    λ k. set_meta_kept g.D.Disk.tells (g.D.Disk.states c.args.disk.now) (g.D.Disk.states c.write_metadata.new.disk) c.args.self.now c.note_metadata.new.self k m c.size_for.result (Ok c.in_ok-write_metadata.field-0) (subst (λ (o : Open). o.next ≤ 10000000000000000) c.self.view_is c.self.invariant.0) v.0 v.1 c.ranges.term.fits c.ranges.vote.fits c.size_for.ensures c.note_metadata.ensures c.in_ok-write_metadata.ensures.went

pub returns-in_default-clause-calls : goal.returns-in_default-clause-calls
returns-in_default-clause-calls g c =
    λ k. none_made g.D.Disk.tells (g.D.Disk.states c.args.disk.now) c.args.self.now k (version_calls (suc c.args.self.now.version) c.args.self.now c.args.term c.args.vote) NoMemory

pub returns-in_err-write_metadata-clause-calls : goal.returns-in_err-write_metadata-clause-calls
returns-in_err-write_metadata-clause-calls g c =
    let p = err_from_is_err_and c.from_residual.result c.from_residual.ensures.1 in
    let m : Metadata = record { version = c.in-Some.version; term = c.args.term; vote = c.args.vote } in
    rw p.1 (λ k. err_made g.D.Disk.tells (g.D.Disk.states c.args.disk.now) (g.D.Disk.states c.write_metadata.new.disk) c.args.self.now k (version_calls (suc c.args.self.now.version) c.args.self.now c.args.term c.args.vote) c.in_err-write_metadata.field-0.0 p.0
    (version_made g.D.Disk.tells (g.D.Disk.states c.args.disk.now) (g.D.Disk.states c.write_metadata.new.disk) c.args.self.now k (Err c.in_err-write_metadata.field-0.0) m c.size_for.result c.in-Some.ensures.0 c.size_for.ensures c.in_err-write_metadata.ensures.went))

pub returns-clause-calls : goal.returns-clause-calls
returns-clause-calls g c =
    let m : Metadata = record { version = c.in-Some.version; term = c.args.term; vote = c.args.vote } in
    λ k. version_made g.D.Disk.tells (g.D.Disk.states c.args.disk.now) (g.D.Disk.states c.write_metadata.new.disk) c.args.self.now k (Ok c.in_ok-write_metadata.field-0) m c.size_for.result c.in-Some.ensures.0 c.size_for.ensures c.in_ok-write_metadata.ensures.went

pub returns-in_err-write_metadata-clause-count : goal.returns-in_err-write_metadata-clause-count
returns-in_err-write_metadata-clause-count g c =
    let p = err_from_is_err_and c.from_residual.result c.from_residual.ensures.1 in
    rw p.1 (calls_failed _ _ _ c.in_err-write_metadata.field-0.0 _ (counts_as _ (block_count (size_for (suc c.args.self.now.version) c.args.self.now)) _ _ _ (ap block_count (sym (c.size_for.ensures ∙ ap (λ (v : ℕ). size_for v c.args.self.now) c.in-Some.ensures.0))) c.in_err-write_metadata.ensures.count))

pub returns-clause-count : goal.returns-clause-count
returns-clause-count g c = calls_as _ _ _ c.in_ok-write_metadata.field-0 tt (counts_as _ (block_count (size_for (suc c.args.self.now.version) c.args.self.now)) _ _ _ (ap block_count (sym (c.size_for.ensures ∙ ap (λ (v : ℕ). size_for v c.args.self.now) c.in-Some.ensures.0))) c.in_ok-write_metadata.ensures.count)

pub returns-in_default-clause-count : goal.returns-in_default-clause-count
returns-in_default-clause-count g c = calls_refused _ _ NoMemory
