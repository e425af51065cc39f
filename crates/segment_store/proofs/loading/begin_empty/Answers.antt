use Rattle.std.proofs.Common.{ℕ, List, subst, ◌∙◌}
use Rattle.store_laws.specs.Names.{Segment}
use Rattle.store_format.specs.BatchesWritten.{segment_word}
use Rattle.segment_store.specs.FileNames.{file_name}
use Rattle.segment_store.specs.Grow.{begin_calls}
use Rattle.segment_store.specs.Keeps.{Went}
use Rattle.segment_store.proofs.loading.begin_empty.Goals as goal

pub returns-clause-went : goal.returns-clause-went
returns-clause-went g c = λ known.
    subst (λ (b : List ℕ). Went (begin_calls (file_name (Segment c.args.number)) segment_word b) (g.D.Disk.states c.args.disk.now) (g.D.Disk.states c.begin_batch.new.disk) c.begin_batch.result)
    (c.as_slice.ensures.value ∙ c.in_ok-batch.ensures.bytes) (c.begin_batch.ensures.went known)
