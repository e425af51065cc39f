-- A start after calls and starts that were stopped or failed finds what the files represent.
use Rattle.std.proofs.Common.{◌≡◌, inl, inr, ◌⊎◌, ℕ, zero, suc, [], Result, Ok, Err, refl, sym, ap, ◌∙◌, subst}
use Rattle.disk_model.specs.Disk.{Disk, Leaves}
use Rattle.disk_model.specs.Rest.{AfterCrash}
use Rattle.disk_model.specs.Trait.{Text}
use Rattle.disk_model.proofs.Rests.{rest_only}
use Rattle.store_laws.specs.Names.{NodeFiles, NodeDisk}
use Rattle.store_laws.specs.Store.{Outcome, Snap, Log, Kept, Damaged, NoMeta, Gap}
use Rattle.store_laws.specs.Chance.{NoChance}
use Rattle.store_laws.specs.Laws.{OneOf}
use Rattle.store_laws.proofs.Seen.{seen_holds}
use Rattle.store_laws.specs.Snapshots.{BeforeOrLonger}
use Rattle.store_format.specs.NodeFormat.{node_format}
use Rattle.segment_store.specs.declared.load_fault.LoadFault.{LoadFault}
use Rattle.segment_store.specs.declared.load_fault.LoadFault.TheVariants as fault
use Rattle.segment_store.specs.Open.{Open}
use Rattle.segment_store.specs.FileNames.{file_name}
use Rattle.segment_store.specs.Keeps.{folder}
use Rattle.segment_store.specs.Loading.{kept_in, StaysSeen, LoadLeaves}
use Rattle.segment_store.specs.Restarts.{StandsFor, Begins, FailedStarts, Finds, OneState, OldOrWith, MayHave, OldOrNewStarts, OldOrKeptStarts, KeptStarts, LoadStarts}

-- a disk at rest leaves only what is read
pub only_read : (d e : Disk Text) → AfterCrash d e → (g : NodeFiles) → Leaves (folder e) g → g ≡ (folder e).read
only_read d e crashed g left = λ i. λ n. rest_only (e.held (file_name n)) (e.read (file_name n)) (g n) (crashed.rest (file_name n)) (left.each n) i

pub left_by : (d e : Disk Text) → AfterCrash d e → Leaves (folder d) (folder e).read
left_by d e crashed = record { each = λ n. crashed.left.each (file_name n) }

module _ (P : Outcome → Type 0) where
  -- what a start reads
  pub reads : (d e : Disk Text) → StandsFor P (folder d) → Begins d e → P (kept_in (folder e).read)
  reads d e stands begins = which begins.came
    where
      which : (e ≡ d) ⊎ AfterCrash d e → P (kept_in (folder e).read)
      which (inl same) =
          let fair = subst (λ (x : Disk Text). NoChance node_format (folder d) (folder x).read) same begins.fair in
          subst (λ (x : Disk Text). P (kept_in (folder x).read)) (sym same) (stands.crash (folder d).read stands.seen fair)
      which (inr crashed) = stands.crash (folder e).read (left_by d e crashed) begins.fair

  -- a load that failed
  pub stays : (d e : Disk Text) (f : NodeDisk) → StandsFor P (folder d) → Begins d e → StaysSeen (folder e) f → StandsFor P f
  stays d e f stands begins s = record { crash = λ g left fair. crash g left fair begins.came; seen = s.seen }
    where
      crash : (g : NodeFiles) → Leaves f g → NoChance node_format f g → (e ≡ d) ⊎ AfterCrash d e → P (kept_in g)
      crash g left fair (inl same) =
          let z = s.crash g left fair in
          let here = subst (λ (x : Disk Text). Leaves (folder x) z.0) same z.1.0 in
          let good = subst (λ (x : Disk Text). NoChance node_format (folder x) z.0) same (z.1.1.1 (subst (λ (x : Disk Text). NoChance node_format (folder x) (folder e).read) (sym same) begins.fair)) in
          subst P (sym z.1.1.0) (stands.crash z.0 here good)
      crash g left fair (inr crashed) =
          let z = s.crash g left fair in
          subst P (sym (z.1.1.0 ∙ ap kept_in (only_read d e crashed z.0 z.1.0))) (reads d e stands begins)

  after_starts : (n : ℕ) (d e : Disk Text) → StandsFor P (folder d) → FailedStarts n d e → StandsFor P (folder e)
  after_starts zero d e stands same = subst (λ (x : Disk Text). StandsFor P (folder x)) (sym same) stands
  after_starts (suc n) d e stands (m, (f, (begins, (s, rest)))) = after_starts n f e (stays d m (folder f) stands begins s) rest

  finds : (d e f : Disk Text) (answer : Result (Open × Kept) LoadFault) → StandsFor P (folder d) → Begins d e → LoadLeaves answer e f → Finds P answer f
  finds d e f (Ok x) stands begins leaves = (subst P leaves.reads (reads d e stands begins), leaves.has)
  finds d e f (Err fault.NoMeta) stands begins leaves = subst P leaves.1 (reads d e stands begins)
  finds d e f (Err (fault.Damaged segment at)) stands begins leaves = subst P leaves.0.1 (reads d e stands begins)
  finds d e f (Err (fault.Gap first last)) stands begins leaves = subst P leaves.1 (reads d e stands begins)
  finds d e f (Err fault.DiskFault) stands begins leaves = stays d e (folder f) stands begins leaves
  finds d e f (Err fault.NoMemory) stands begins leaves = stays d e (folder f) stands begins leaves

  starts : (d e m f : Disk Text) (n : ℕ) (answer : Result (Open × Kept) LoadFault) → StandsFor P (folder d) → FailedStarts n d e → Begins e m → LoadLeaves answer m f → Finds P answer f
  starts d e m f n answer stands failed begins leaves = finds e m f answer (after_starts n d e stands failed) begins leaves

one_state : (old new : Kept) (g : NodeFiles) → OneOf node_format 10000000000000000 old new g → OneState old new (kept_in g)
one_state old new g (inl q) = subst (OneState old new) (sym q) (inl refl)
one_state old new g (inr q) = subst (OneState old new) (sym q) (inr refl)

old_or_with : (old : Kept) (s : Snap) (new : Log) (g : NodeFiles) → BeforeOrLonger node_format 10000000000000000 old s new g → OldOrWith old s new (kept_in g)
old_or_with old s new g (inl q) = subst (OldOrWith old s new) (sym q) (inl refl)
old_or_with old s new g (inr q) = subst (OldOrWith old s new) (sym q.kept_is) (inr (record { log = q.log; is = refl; longer = q.longer; left = q.left }))

pub old_or_new_starts : OldOrNewStarts
old_or_new_starts old new d e m f n answer is failed begins leaves =
    starts (OneState old new) d e m f n answer (record { crash = λ g left fair. one_state old new g (is.crash g left fair); seen = is.seen }) failed begins leaves

pub old_or_kept_starts : OldOrKeptStarts
old_or_kept_starts old s new d e m f n answer is failed begins leaves =
    starts (OldOrWith old s new) d e m f n answer (record { crash = λ g left fair. old_or_with old s new g (is.crash g left fair); seen = is.seen }) failed begins leaves

pub kept_starts : KeptStarts
kept_starts s k d e m f n answer is failed begins leaves =
    starts (OneState k k) d e m f n answer (record { crash = λ g left fair. subst (OneState k k) (sym (is.crash g left)) (inl refl); seen = (seen_holds node_format s.next (folder d) is.is_open.settled).metadata [] (folder d) (inl refl) }) failed begins leaves

pub load_starts : LoadStarts
load_starts d e m f n answer seen failed begins leaves =
    starts (MayHave (folder d)) d e m f n answer (record { crash = λ g left fair. record { files = g; left = left; fair = fair; is = refl }; seen = seen }) failed begins leaves
