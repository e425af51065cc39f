-- From lists of calls to what is kept.
use Rattle.std.proofs.Common.{◌≡◌, inl, inr, ℕ, suc, ◌%◌, ◌^◌, ◌<◌, ◌≤◌, Bool, true, false, List, [], ◌∷◌, Option, Result, Ok, Err, refl, sym, ◌∙◌, subst, arith}
use Rattle.std.specs.Prelude.{◌⊎◌, ◌==◌, OnOk, OnErr}
use Rattle.dq_base.specs.Faults.{Rose}
use Rattle.disk_model.specs.Disk.{Disk}
use Rattle.disk_model.specs.Calls.{Call, Done, Until, MayWrite}
use Rattle.disk_model.specs.Trait.{Text, Known, told, untold, Ran, HasCause, HasWant}
use Rattle.disk_model.proofs.Runs.{known_map}
use Rattle.disk_model.specs.declared.faults.DiskFault.{DiskFault as DiskFaultOf}
use Rattle.disk_model.specs.declared.faults.DiskFault.TheVariants as disk
use Rattle.store_laws.specs.Store.{Kept}
use Rattle.store_laws.specs.Meta.{file_of, with_vote}
use Rattle.store_laws.proofs.Answers.{settled_images}
use Rattle.store_laws.proofs.Seen.{all_seen}
use Rattle.store_format.specs.declared.metadata.Metadata.{Metadata}
use Rattle.store_format.specs.Metadata.{block_bytes}
use Rattle.store_format.specs.NodeFormat.{node_format}
use Rattle.segment_store.specs.declared.fault.StoreFault.TheVariants.{NoMemory}
use Rattle.segment_store.specs.FileNames.{file_name}
use Rattle.segment_store.specs.Faults.{of_disk, DiskCause}
use Rattle.segment_store.specs.Open.{Open, IsOpen, with_version, size_for}
use Rattle.segment_store.specs.Keeps.{folder, OldOrNew, HasNew, Keeps, Went, block_calls}
use Rattle.segment_store.proofs.MetaKeeps.{meta_done, meta_until}
use Rattle.segment_store.proofs.Joints.{settled_none, kept_top}
use Rattle.segment_store.proofs.Segments.{not_gone}

-- ---- lists of calls under another fault

pub went_none : {E : Type 0} (calls : List (Call Text)) (states : Disk Text → Type 0) (fault : E) → Went calls states states (Err fault)
went_none [] states fault = record { each = λ d y. (d, (y, (tt, refl))) }
went_none (c ∷ cs) states fault = record { each = λ d y. (d, (y, (tt, inl refl))) }

pub went_err : {E : Type 0} (calls : List (Call Text)) (before after : Disk Text → Type 0) (x : DiskFaultOf) (y : E) → Ran {T = Unit {0}} calls before after (Err x) → Went calls before after (Err y)
went_err calls before after x y ran = record { each = λ d z. let r = ran.each d z in (r.0, (r.1.0, (tt, r.1.1.1))) }

pub went_ok : {E : Type 0} (calls : List (Call Text)) (before after : Disk Text → Type 0) (x y : Unit {0}) → Ran calls before after (Ok x) → Went {E = E} calls before after (Ok y)
went_ok calls before after x y ran = record { each = λ d z. let r = ran.each d z in (r.0, (r.1.0, (r.1.1.0, tt))) }

-- ---- causes

pub cause_none : {T : Type 0} (n : ℕ) → DiskCause {T = T} n n (Err NoMemory)
cause_none n = record { never_falls = omega arith; failed = λ q. absurd cc }

pub cause_disk : {S T : Type 0} (before now : ℕ) (x : DiskFaultOf) → HasCause {T = S} before now (Err x) → DiskCause {T = T} before now (Err (of_disk x))
cause_disk before now disk.Failed h = record { never_falls = h.never_falls; failed = λ q. h.failed refl }
cause_disk before now disk.NoMemory h = record { never_falls = h.never_falls; failed = λ q. absurd cc }

pub cause_ok : {S T : Type 0} (before now : ℕ) (x : S) (y : T) → HasCause before now (Ok x) → DiskCause before now (Ok y)
cause_ok before now x y h = record { never_falls = h.never_falls; failed = λ q. absurd cc }

-- a fault of the disk is counted, and the same holds for a want
pub counted : {T D : Type 0} (was now : D) (faults faults_after wants wants_after : ℕ) (x : DiskFaultOf) → HasCause {T = T} faults faults_after (Err x) → HasWant {T = T} wants wants_after (Err x)
    → (now ≡ was) ⊎ (Rose faults faults_after ⊎ Rose wants wants_after)
counted was now faults faults_after wants wants_after disk.Failed cause want = inr (inl (cause.failed refl))
counted was now faults faults_after wants wants_after disk.NoMemory cause want = inr (inr (want.wanted refl))

-- ---- an open store

-- if nothing was called the old state is there
pub nothing_called : (s : Open) (k new : Kept) → s.next ≤ 10000000000000000 → (d : Disk Text) → IsOpen s k (folder d) → OldOrNew k new (folder d)
nothing_called s k new small d o = record {
  crash = λ g left fair. inl (kept_top s.next (folder d) (settled_none s.next (folder d) o.settled) small g left ∙ settled_images node_format s.next (folder d) o.settled g left ∙ o.reads);
  seen = all_seen node_format s.next (folder d) o.settled;
}

pub may_write_meta : (s : Open) (k : Kept) (d : Disk Text) (b : Bool) → IsOpen s k (folder d) → MayWrite (file_name (file_of b)) 0 d
may_write_meta s k d true o = record { within = omega arith; no_removal = λ e. not_gone _ (sym o.settled.first.standing ∙ e) }
may_write_meta s k d false o = record { within = omega arith; no_removal = λ e. not_gone _ (sym o.settled.second.standing ∙ e) }

pub known_went : {E : Type 0} (calls : List (Call Text)) (before after : Disk Text → Type 0) (result : Result Unit E) (tells : Bool) (P Q R : Disk Text → Type 0) → Known tells before P → Went calls before after result
    → ((d e : Disk Text) → P d → Done calls d e → Q e) → ((d e : Disk Text) → P d → Until calls d e → R e)
    → OnOk result (Known tells after Q) × OnErr result (Known tells after R)
known_went calls before after (Ok x) tells P Q R (told d y p) went q r = let z = went.each d y in (told z.0 z.1.0 (q d z.0 p z.1.1.0), tt)
known_went calls before after (Err x) tells P Q R (told d y p) went q r = let z = went.each d y in (tt, told z.0 z.1.0 (r d z.0 p z.1.1.1))
known_went calls before after (Ok x) tells P Q R (untold e) went q r = (untold e, tt)
known_went calls before after (Err x) tells P Q R (untold e) went q r = (tt, untold e)

-- a term and a vote
pub meta_keeps : {E : Type 0} (tells : Bool) (before after : Disk Text → Type 0) (s : Open) (k : Kept) (m : Metadata) (result : Result Unit E)
    → s.next ≤ 10000000000000000 → m.version ≡ suc s.version → m.version < 2 ^ 64 → m.term < 2 ^ 64 → m.vote < 2 ^ 64
    → (Known tells before (MayWrite (file_name (file_of (m.version % 2 == 1))) 0) → Went (block_calls (file_name (file_of (m.version % 2 == 1))) (block_bytes m) (size_for m.version s)) before after result)
    → Keeps tells before after s (with_version m.version s) k (with_vote m.term m.vote k) result
meta_keeps tells before after s k m result small version fv ft fo went known =
    let may = known_map tells before (λ d. IsOpen s k (folder d)) (MayWrite (file_name (file_of (m.version % 2 == 1))) 0) known (λ d o. may_write_meta s k d (m.version % 2 == 1) o) in
    known_went _ before after result tells (λ d. IsOpen s k (folder d)) (λ e. HasNew (with_version m.version s) (with_vote m.term m.vote k) (folder e)) (λ e. OldOrNew k (with_vote m.term m.vote k) (folder e)) known (went may)
    (λ d e o u. meta_done s k m d o version fv ft fo small e u) (λ d e o u. meta_until s k m d o version fv ft fo small e u)

-- nothing was called
pub none_keeps : {E : Type 0} (tells : Bool) (states : Disk Text → Type 0) (s now : Open) (k new : Kept) (fault : E) → s.next ≤ 10000000000000000 → Keeps tells states states s now k new (Err fault)
none_keeps tells states s now k new fault small known = (tt, known_map tells states (λ d. IsOpen s k (folder d)) (λ d. OldOrNew k new (folder d)) known (λ d o. nothing_called s k new small d o))

-- the store that a call noted
pub as_noted : {E : Type 0} (tells : Bool) (before after : Disk Text → Type 0) (s now then : Open) (k new : Kept) (result : Result Unit E) → OnOk result (now ≡ then) → Keeps {E = E} tells before after s then k new result → Keeps {E = E} tells before after s now k new result
as_noted tells before after s now then k new (Err x) e keeps = keeps
as_noted tells before after s now then k new (Ok x) e keeps = λ known. let z = keeps known in (subst (λ (o : Open). Known tells after (λ d. HasNew o new (folder d))) (sym e) z.0, tt)

-- the same for a call that noted the write after it
pub set_meta_kept : {E : Type 0} (tells : Bool) (before after : Disk Text → Type 0) (s now : Open) (k : Kept) (m : Metadata) (size : Option ℕ) (result : Result Unit E)
    → s.next ≤ 10000000000000000 → m.version ≡ suc s.version → m.version < 2 ^ 64 → m.term < 2 ^ 64 → m.vote < 2 ^ 64 → size ≡ size_for m.version s → OnOk result (now ≡ with_version m.version s)
    → (Known tells before (MayWrite (file_name (file_of (m.version % 2 == 1))) 0) → Went (block_calls (file_name (file_of (m.version % 2 == 1))) (block_bytes m) size) before after result)
    → Keeps tells before after s now k (with_vote m.term m.vote k) result
set_meta_kept tells before after s now k m size result small version fv ft fo is_size noted went =
    let sized = λ (may : Known tells before (MayWrite (file_name (file_of (m.version % 2 == 1))) 0)). subst (λ (n : Option ℕ). Went (block_calls (file_name (file_of (m.version % 2 == 1))) (block_bytes m) n) before after result) is_size (went may) in
    as_noted tells before after s now (with_version m.version s) k (with_vote m.term m.vote k) result noted (meta_keeps tells before after s k m result small version fv ft fo sized)

-- ---- names and bytes as the code has them

module _ (n wanted : Text) (b block : List ℕ) (size : Option ℕ) (tells : Bool) (before after : Disk Text → Type 0) (is_name : n ≡ wanted) (is_block : b ≡ block) where
  as_wanted : (result : Result Unit DiskFaultOf) → (Known tells before (MayWrite n 0) → Ran (block_calls n b size) before after result) → Known tells before (MayWrite wanted 0) → Ran (block_calls wanted block size) before after result
  as_wanted result ran may =
      subst (λ (c : List ℕ). Ran (block_calls wanted c size) before after result) is_block
      (subst (λ (x : Text). Ran (block_calls x b size) before after result) is_name (ran (subst (λ (x : Text). Known tells before (MayWrite x 0)) (sym is_name) may)))

  pub block_err : {E : Type 0} (x : DiskFaultOf) (y : E) → (Known tells before (MayWrite n 0) → Ran {T = Unit {0}} (block_calls n b size) before after (Err x)) → Known tells before (MayWrite wanted 0) → Went (block_calls wanted block size) before after (Err y)
  block_err x y ran may = went_err _ before after x y (as_wanted (Err x) ran may)

  pub block_ok : {E : Type 0} (x y : Unit {0}) → (Known tells before (MayWrite n 0) → Ran (block_calls n b size) before after (Ok x)) → Known tells before (MayWrite wanted 0) → Went {E = E} (block_calls wanted block size) before after (Ok y)
  block_ok x y ran may = went_ok _ before after x y (as_wanted (Ok x) ran may)
