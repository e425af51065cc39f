-- From what a function ran to the calls that a call of the store makes.
use Rattle.std.proofs.Common.{◌≡◌, ℕ, suc, ◌-◌, ◌%◌, Bool, List, Option, Some, None, Result, Err, sym, subst}
use Rattle.std.specs.Prelude.{◌==◌}
use Rattle.disk_model.specs.Disk.{Disk}
use Rattle.disk_model.specs.Calls.{Call, MayWrite}
use Rattle.disk_model.specs.Trait.{Text, Known}
use Rattle.disk_model.proofs.Runs.{known_map}
use Rattle.store_laws.specs.Names.{Segment}
use Rattle.store_laws.specs.Store.{Kept}
use Rattle.store_laws.specs.Meta.{file_of}
use Rattle.store_format.specs.declared.metadata.Metadata.{Metadata}
use Rattle.store_format.specs.Metadata.{block_bytes}
use Rattle.store_format.specs.BatchesWritten.{segment_word}
use Rattle.segment_store.specs.FileNames.{file_name}
use Rattle.segment_store.specs.Open.{Open, IsOpen, size_for}
use Rattle.segment_store.specs.Keeps.{folder, Went, block_calls}
use Rattle.segment_store.specs.Grow.{grow_calls, begin_calls, IsFree, room_in}
use Rattle.segment_store.specs.MadeCalls.{Makes, version_calls, batch_calls_in}
use Rattle.segment_store.proofs.Keeping.{went_none, may_write_meta}
use Rattle.segment_store.proofs.Appending.{grow_may_write, is_free}

pub none_made : {E : Type 0} (tells : Bool) (states : Disk Text → Type 0) (s : Open) (k : Kept) (calls : List (Call Text)) (fault : E) → Makes tells states states s k calls (Err fault)
none_made tells states s k calls fault = λ known. went_none calls states fault

-- the same with another fault
pub err_made : {E : Type 0} (tells : Bool) (before after : Disk Text → Type 0) (s : Open) (k : Kept) (calls : List (Call Text)) (x y : E) → Makes tells before after s k calls (Err x) → Makes tells before after s k calls (Err y)
err_made tells before after s k calls x y made = λ known. record { each = (made known).each }

module _ {E : Type 0} (tells : Bool) (before after : Disk Text → Type 0) (s : Open) (k : Kept) (result : Result Unit E) where
  pub version_made : (m : Metadata) (size : Option ℕ) → m.version ≡ suc s.version → size ≡ size_for m.version s
      → (Known tells before (MayWrite (file_name (file_of (m.version % 2 == 1))) 0) → Went (block_calls (file_name (file_of (m.version % 2 == 1))) (block_bytes m) size) before after result)
      → Makes tells before after s k (version_calls (suc s.version) s m.term m.vote) result
  version_made m size version is_size went known =
      let may = known_map tells before (λ d. IsOpen s k (folder d)) (MayWrite (file_name (file_of (m.version % 2 == 1))) 0) known (λ d o. may_write_meta s k d (m.version % 2 == 1) o) in
      subst (λ (v : ℕ). Went (version_calls v s m.term m.vote) before after result) version
      (subst (λ (n : Option ℕ). Went (block_calls (file_name (file_of (m.version % 2 == 1))) (block_bytes m) n) before after result) is_size (went may))

  pub grown_made : (size number : ℕ) (batch : List ℕ) → room_in s.size ≡ Some size → number ≡ s.next - 1
      → (Known tells before (MayWrite (file_name (Segment number)) size) → Went (grow_calls (file_name (Segment number)) size batch) before after result)
      → Makes tells before after s k (batch_calls_in (Some size) s batch) result
  grown_made size number batch room is went known =
      let may = known_map tells before (λ d. IsOpen s k (folder d)) (MayWrite (file_name (Segment number)) size) known (grow_may_write s k size number room is) in
      subst (λ (n : ℕ). Went (grow_calls (file_name (Segment n)) size batch) before after result) is (went may)

  pub begun_made : (number : ℕ) (batch : List ℕ) → number ≡ s.next
      → (Known tells before (IsFree (file_name (Segment number))) → Went (begin_calls (file_name (Segment number)) segment_word batch) before after result)
      → Makes tells before after s k (batch_calls_in None s batch) result
  begun_made number batch is went known =
      let free = known_map tells before (λ d. IsOpen s k (folder d)) (IsFree (file_name (Segment s.next))) known (λ d o. is_free s k d o) in
      subst (λ (n : ℕ). Went (begin_calls (file_name (Segment n)) segment_word batch) before after result) is
      (went (subst (λ (n : ℕ). Known tells before (IsFree (file_name (Segment n)))) (sym is) free))

  pub as_batch : (room : Option ℕ) (batch wanted : List ℕ) → room_in s.size ≡ room → batch ≡ wanted → Makes tells before after s k (batch_calls_in room s batch) result → Makes tells before after s k (batch_calls_in (room_in s.size) s wanted) result
  as_batch room batch wanted is bytes made =
      subst (λ (r : Option ℕ). Makes tells before after s k (batch_calls_in r s wanted) result) (sym is)
      (subst (λ (x : List ℕ). Makes tells before after s k (batch_calls_in room s x) result) bytes made)
