use Rattle.std.proofs.Common.{ℕ, ◌<◌, List, length, slice_index, sym, ◌∙◌, subst}
use Rattle.std.specs.Prelude.{nat_lt}
use Rattle.segment_store.specs.Keeping.{older_than}
use Rattle.segment_store.proofs.Listing.{below_at, below_passing}
use Rattle.segment_store.proofs.keep_plan.old_files.Goals as goal

pub segment_names-requires : goal.segment_names-requires
segment_names-requires c = record { digits = below_at 10000000000000000 c.args.segments.now c.requires.segments }

pub snapshot_names-requires : goal.snapshot_names-requires
snapshot_names-requires c = record {
  digits = subst (λ (ms : List ℕ). (i : ℕ) → i < length ms → slice_index ms i < 10000000000000000) (sym (c.as_slice.ensures.value ∙ c.in_ok-older.ensures))
      (below_at 10000000000000000 (older_than c.args.index c.args.snapshots.now) (below_passing 10000000000000000 (λ (j : ℕ). nat_lt j c.args.index) c.args.snapshots.now c.requires.snapshots));
}
