-- The two halves of a call that adds a batch.
use Rattle.std.proofs.Common.{◌≡◌, inl, inr, ℕ, ◌+◌, ◌-◌, ◌≤◌, Bool, false, List, [], ◌∷◌, length, Option, Some, None, Result, Ok, Err, refl, sym, ap, ◌∙◌, subst, arith}
use Rattle.std.specs.Prelude.{◌⊎◌, IfOk, OnOk, OnErr}
use Rattle.dq_base.specs.Faults.{Rose, one_more}
use Rattle.dq_base.proofs.FaultLaws.{Rose-earlier}
use Rattle.disk_model.specs.Disk.{Disk}
use Rattle.disk_model.specs.Calls.{Call, WriteAt, Sync, Does, Done, MayWrite}
use Rattle.disk_model.specs.Trait.{Text, Known, told, untold, Steps, HasCause, HasWant, MakesCalls}
use Rattle.disk_model.specs.declared.faults.DiskFault.{DiskFault as DiskFaultOf}
use Rattle.disk_model.specs.declared.faults.DiskFault.TheVariants as disk
use Rattle.disk_model.proofs.Counting.{calls_one}
use Rattle.disk_model.proofs.Runs.{known_map}
use Rattle.store_laws.specs.Names.{Segment}
use Rattle.store_laws.specs.Store.{Kept, Log}
use Rattle.store_laws.specs.Append.{with_batch, CanAppend}
use Rattle.store_format.specs.Batches.{batch_bytes}
use Rattle.store_format.specs.BatchesWritten.{Fits}
use Rattle.segment_store.specs.declared.unsynced.UnsyncedBatch.{UnsyncedBatch}
use Rattle.segment_store.specs.declared.fault.StoreFault.{StoreFault}
use Rattle.segment_store.specs.FileNames.{file_name}
use Rattle.segment_store.specs.Faults.{DiskCause}
use Rattle.segment_store.specs.Open.{Open, IsOpen}
use Rattle.segment_store.specs.Grow.{grow_calls, room_in, appended_to, grown_to}
use Rattle.segment_store.specs.Keeps.{folder, HasNew, OldOrNew, Keeps, Went}
use Rattle.segment_store.specs.Halves.{WentTo, HasBegun, HasFailed, IsWritten, BeginsAppend, EndsAppend}
use Rattle.segment_store.proofs.Keeping.{nothing_called}
use Rattle.segment_store.proofs.Segments.{done_both, until_both, until_front}
use Rattle.segment_store.proofs.Appending.{grow_kept, grow_may_write}

-- ---- calls with another fault, and one after another

pub to_none : {T E : Type 0} (call : Call Text) (states : Disk Text → Type 0) (fault : E) → WentTo {T = T} {E = E} (call ∷ []) states states (Err fault)
to_none call states fault = record { each = λ d y. (d, (y, (tt, inl refl))) }

pub to_err : {S T E : Type 0} (call : Call Text) (before after : Disk Text → Type 0) (x : DiskFaultOf) (y : E)
    → Steps {T = S} call before after (Err x) → WentTo {T = T} {E = E} (call ∷ []) before after (Err y)
to_err call before after x y steps = record { each = λ d z. let r = steps.each d z in (r.0, (r.1.0, (tt, inr (inl r.1.1.1)))) }

pub to_ok : {S T E : Type 0} (call : Call Text) (before after : Disk Text → Type 0) (x : S) (y : T) → Steps {T = S} call before after (Ok x)
    → WentTo {T = T} {E = E} (call ∷ []) before after (Ok y)
to_ok call before after x y steps = record { each = λ d z. let r = steps.each d z in (r.0, (r.1.0, ((r.0, (r.1.1.0, refl)), tt))) }

pub first_failed : {T E F : Type 0} (a b : Call Text) (old new : Disk Text → Type 0) (x : E) (y : F) → WentTo {T = T} {E = E} (a ∷ []) old new (Err x)
    → Went {E = F} (a ∷ b ∷ []) old new (Err y)
first_failed a b old new x y one = record { each = λ d z. let r = one.each d z in (r.0, (r.1.0, (tt, until_front (a ∷ []) (b ∷ []) d r.0 r.1.1.1))) }

pub both_went : {T E F : Type 0} (a b : Call Text) (old mid new : Disk Text → Type 0) (x : T) (result : Result Unit F)
    → WentTo {T = T} {E = E} (a ∷ []) old mid (Ok x) → WentTo {T = Unit {0}} {E = F} (b ∷ []) mid new result → Went {E = F} (a ∷ b ∷ []) old new result
both_went a b old mid new x (Ok y) first second = record {
  each = λ d z. let p = first.each d z in let q = second.each p.0 p.1.0
      in (q.0, (q.1.0, (done_both (a ∷ []) (b ∷ []) d p.0 q.0 p.1.1.0 q.1.1.0, tt)));
}
both_went a b old mid new x (Err y) first second = record {
  each = λ d z. let p = first.each d z in let q = second.each p.0 p.1.0
      in (q.0, (q.1.0, (tt, until_both (a ∷ []) (b ∷ []) d p.0 q.0 p.1.1.0 q.1.1.1)));
}

-- a call that failed, in a function that answers another value
pub steps_err : {S T : Type 0} (call : Call Text) (before after : Disk Text → Type 0) (x y : DiskFaultOf) → Steps {T = S} call before after (Err x)
    → Steps {T = T} call before after (Err y)
steps_err call before after x y steps = record { each = λ d z. let r = steps.each d z in (r.0, (r.1.0, (tt, r.1.1.1))) }

-- ---- a write, and then a hint

pub hinted_steps : {S T : Type 0} (call : Call Text) (before mid after : Disk Text → Type 0) (x : S) (y : T) → ((d : Disk Text) → mid d → after d)
    → Steps {T = S} call before mid (Ok x) → Steps {T = T} call before after (Ok y)
hinted_steps call before mid after x y may steps = record { each = λ d z. let r = steps.each d z in (r.0, (may r.0 r.1.0, (r.1.1.0, tt))) }

pub hinted_cause : {S T : Type 0} (before mid after : ℕ) (x : S) (y : T) → after ≡ mid → HasCause {T = S} before mid (Ok x) → HasCause {T = T} before after (Ok y)
hinted_cause before mid after x y same cause = record { never_falls = subst (λ (n : ℕ). before ≤ n) (sym same) cause.never_falls; failed = λ q. absurd cc }

pub hinted_want : {S T : Type 0} (before mid after : ℕ) (x : S) (y : T) → after ≡ mid → HasWant {T = S} before mid (Ok x) → HasWant {T = T} before after (Ok y)
hinted_want before mid after x y same want = record { never_falls = subst (λ (n : ℕ). before ≤ n) (sym same) want.never_falls; wanted = λ q. absurd cc }

pub hinted_count : {T E : Type 0} (before mid after : ℕ) (result : Result T E) → after ≡ mid → mid ≡ one_more before → MakesCalls {T = T} {E = E} 1 before after result
hinted_count before mid after result same one = calls_one before after result (same ∙ one)

-- ---- names as the code has them

module _ (n wanted : Text) (is_name : n ≡ wanted) (tells : Bool) (before after : Disk Text → Type 0) (size : ℕ) (batch : List ℕ) where
  pub named_write : {S : Type 0} (result : Result S DiskFaultOf)
      → (Known tells before (MayWrite n size) → Steps (WriteAt n size batch) before after result) → Known tells before (MayWrite wanted size)
      → Steps (WriteAt wanted size batch) before after result
  named_write result steps may = subst (λ (t : Text). Steps (WriteAt t size batch) before after result) is_name
      (steps (subst (λ (t : Text). Known tells before (MayWrite t size)) (sym is_name) may))

pub named_sync : {S : Type 0} (n wanted : Text) → n ≡ wanted → (before after : Disk Text → Type 0) (result : Result S DiskFaultOf)
    → Steps (Sync n) before after result → Steps (Sync wanted) before after result
named_sync n wanted is before after result steps = subst (λ (t : Text). Steps (Sync t) before after result) is steps

-- ---- causes of two calls

pub both_causes : {S T : Type 0} (old mid new : ℕ) (x : S) (result : Result T StoreFault) → DiskCause {T = S} old mid (Ok x) → DiskCause {T = T} mid new result
    → DiskCause {T = T} old new result
both_causes old mid new x result first second = record {
  never_falls = let a = first.never_falls in let b = second.never_falls in omega (arith, a, b);
  failed = λ q. Rose-earlier old mid new first.never_falls (second.failed q);
}

pub both_stay : {T E D : Type 0} (was now : D) (faults faults_mid faults_after wants wants_mid wants_after : ℕ) (result : Result T E)
    → faults ≤ faults_mid → wants ≤ wants_mid → HasFailed faults_mid faults_after wants_mid wants_after result
    → OnErr result ((now ≡ was) ⊎ (Rose faults faults_after ⊎ Rose wants wants_after))
both_stay was now f fm fa w wm wa (Ok x) lf lw failed = tt
both_stay was now f fm fa w wm wa (Err x) lf lw (inl rose) = inr (inl (Rose-earlier f fm fa lf rose))
both_stay was now f fm fa w wm wa (Err x) lf lw (inr rose) = inr (inr (Rose-earlier w wm wa lw rose))

pub surely_counted : {S E : Type 0} (T : Type 0) (faults faults_after wants wants_after : ℕ) (x : DiskFaultOf) (y : E)
    → HasCause {T = S} faults faults_after (Err x) → HasWant {T = S} wants wants_after (Err x)
    → HasFailed {T = T} {E = E} faults faults_after wants wants_after (Err y)
surely_counted T f fa w wa disk.Failed y cause want = inl (cause.failed refl)
surely_counted T f fa w wa disk.NoMemory y cause want = inr (want.wanted refl)

-- ---- the first half

module _ (tells : Bool) (before after : Disk Text → Type 0) (s now : Open) (k : Kept) (b : Log) where
  pub none_begun : {E : Type 0} (fault : E) → s.next ≤ 10000000000000000 → BeginsAppend {E = E} tells before before s now k b (Err fault)
  none_begun fault small known = (
    tt,
    known_map tells before (λ d. IsOpen s k (folder d)) (λ d. OldOrNew k (with_batch b k) (folder d)) known
        (λ d o. nothing_called s k (with_batch b k) small d o),
  )

  pub begun_new : (E F : Type 0) (x : Unit {0}) → Keeps {E = F} tells before after s now k (with_batch b k) (Ok x)
      → BeginsAppend {E = E} tells before after s now k b (Ok None)
  begun_new E F x keeps known = ((keeps known).0, tt)

  pub failed_new : {E F : Type 0} (x : F) (y : E) → Keeps {E = F} tells before after s now k (with_batch b k) (Err x)
      → BeginsAppend {E = E} tells before after s now k b (Err y)
  failed_new x y keeps known = (tt, (keeps known).1)

  module _ (fits : Fits b) (can : CanAppend k b) (at number : ℕ) (room : room_in s.size ≡ Some at) (is_number : number ≡ s.next - 1) (batch : List ℕ)
      (is : batch ≡ batch_bytes b) where
    pub failed_write : {T E F : Type 0} (x : F) (y : E) → s.next ≤ 10000000000000000
        → (Known tells before (MayWrite (file_name (Segment number)) at)
        → WentTo {T = T} {E = F} (WriteAt (file_name (Segment number)) at batch ∷ []) before after (Err x))
        → BeginsAppend {E = E} tells before after s now k b (Err y)
    failed_write {T} {E} {F} x y small went known = (
      tt,
      (grow_kept {E = E} tells before after s now k b fits can (Err y) small at number room is_number tt
          (λ may. subst (λ (bytes : List ℕ). Went {E = E} (grow_calls (file_name (Segment number)) at bytes) before after (Err y)) is
          (first_failed {T = T} {E = F} {F = E} (WriteAt (file_name (Segment number)) at batch) (Sync (file_name (Segment number))) before after x y
          (went may))) known).1,
    )

    written_at : (size : ℕ) → size ≡ at + length batch → (d e : Disk Text) → IsOpen s k (folder d)
        → Done (WriteAt (file_name (Segment number)) at batch ∷ []) d e → IsWritten s k b size e
    written_at size long d e o done = record {
      can = can;
      fits = fits;
      at = at;
      room = room;
      long = long ∙ ap (λ (bytes : List ℕ). at + length bytes) is;
      before = d;
      is_open = o;
      written = subst (λ (n : ℕ). Does (WriteAt (file_name (Segment n)) at (batch_bytes b)) d e) is_number
          (subst (λ (bytes : List ℕ). Does (WriteAt (file_name (Segment number)) at bytes) d e) is
          (subst (λ (x : Disk Text). Does (WriteAt (file_name (Segment number)) at batch) d x) (sym done.1.1) done.1.0));
    }

    known_written : {T F : Type 0} (x : T) (size : ℕ) → size ≡ at + length batch → Known tells before (λ d. IsOpen s k (folder d))
        → WentTo {T = T} {E = F} (WriteAt (file_name (Segment number)) at batch ∷ []) before after (Ok x) → Known tells after (IsWritten s k b size)
    known_written x size long (told d y o) went = let r = went.each d y in told r.0 r.1.0 (written_at size long d r.0 o r.1.1.0)
    known_written x size long (untold e) went = untold e

    pub begun_write : (E : Type 0) {T F : Type 0} (x : T) (u : UnsyncedBatch) → now ≡ s → u.size ≡ at + length batch
        → (Known tells before (MayWrite (file_name (Segment number)) at)
        → WentTo {T = T} {E = F} (WriteAt (file_name (Segment number)) at batch ∷ []) before after (Ok x))
        → BeginsAppend {E = E} tells before after s now k b (Ok (Some u))
    begun_write E {T} {F} x u same long went known =
        let may = known_map tells before (λ d. IsOpen s k (folder d)) (MayWrite (file_name (Segment number)) at) known
        (grow_may_write s k at number room is_number) in
        (subst (λ (o : Open). Known tells after (IsWritten o k b u.size)) (sym same) (known_written {T = T} {F = F} x u.size long known (went may)), tt)

-- what the store is to be then
pub noted_at : {T E : Type 0} (s now : Open) (at count size : ℕ) (r : Result T E) → OnOk r (now ≡ grown_to size s) → size ≡ at + count
    → OnOk r (now ≡ appended_to (Some at) count s)
noted_at s now at count size (Ok x) is long = is ∙ ap (λ (n : ℕ). grown_to n s) long
noted_at s now at count size (Err x) is long = tt

pub has_whole : (s now : Open) (batch : List ℕ) → room_in s.size ≡ None → now ≡ appended_to None (length batch) s → HasBegun s now batch None
has_whole s now batch room is = (room, is ∙ sym (ap (λ (o : Option ℕ). appended_to o (length batch) s) room))

pub begun_wanted : (s now : Open) (batch wanted : List ℕ) (left : Option UnsyncedBatch) → batch ≡ wanted → HasBegun s now batch left
    → HasBegun s now wanted left
begun_wanted s now batch wanted left is h = subst (λ (bytes : List ℕ). HasBegun s now bytes left) is h

pub if_begun : {E : Type 0} (s now : Open) (batch wanted : List ℕ) (r : Result (Option UnsyncedBatch) E) → batch ≡ wanted
    → IfOk r (HasBegun s now batch) → IfOk r (HasBegun s now wanted)
if_begun s now batch wanted (Ok left) is h = begun_wanted s now batch wanted left is h
if_begun s now batch wanted (Err x) is h = tt

pub has_begun : (s : Open) (batch : List ℕ) (at number : ℕ) (u : UnsyncedBatch) → room_in s.size ≡ Some at → number ≡ s.next - 1
    → u.name ≡ file_name (Segment number) → u.size ≡ at + length batch → HasBegun s s batch (Some u)
has_begun s batch at number u room is_number named long = (
  refl,
  named ∙ ap (λ (n : ℕ). file_name (Segment n)) is_number,
  ap (λ (o : Option ℕ). appended_to o (length batch) s) room ∙ ap
      (λ (n : ℕ). grown_to n s) (sym long),
)

-- ---- the whole call, by its halves

module _ {T E : Type 0} (before mid after : Disk Text → Type 0) (s : Open) (at number : ℕ) (batch : List ℕ) (is_number : number ≡ s.next - 1) where
  pub grow_failed : (x : E) (y : E) → WentTo {T = T} {E = E} (WriteAt (file_name (Segment number)) at batch ∷ []) before after (Err x)
      → Went {E = E} (grow_calls (file_name (Segment number)) at batch) before after (Err y)
  grow_failed x y went = first_failed {T = T} {E = E} {F = E} (WriteAt (file_name (Segment number)) at batch) (Sync (file_name (Segment number)))
      before after x y went

  pub grow_went : (x : T) (result : Result Unit E) → WentTo {T = T} {E = E} (WriteAt (file_name (Segment number)) at batch ∷ []) before mid (Ok x)
      → WentTo {T = Unit {0}} {E = E} (Sync (file_name (Segment (s.next - 1))) ∷ []) mid after result
      → Went {E = E} (grow_calls (file_name (Segment number)) at batch) before after result
  grow_went x result first second = both_went {T = T} {E = E} {F = E} (WriteAt (file_name (Segment number)) at batch)
      (Sync (file_name (Segment number))) before mid after x result first
      (subst (λ (n : ℕ). WentTo {T = Unit {0}} {E = E} (Sync (file_name (Segment n)) ∷ []) mid after result) (sym is_number) second)

-- ---- the second half

module _ {E : Type 0} (tells : Bool) (after : Disk Text → Type 0) (s now : Open) (k : Kept) (b : Log) (size : ℕ) (result : Result Unit E)
    (small : s.next ≤ 10000000000000000) (noted : OnOk result (now ≡ grown_to size s)) where
  pub end_from : (before : Disk Text → Type 0) → WentTo (Sync (file_name (Segment (s.next - 1))) ∷ []) before after result → (d : Disk Text)
      → before d → IsWritten s k b size d
      → OnOk result (Known tells after (λ e. HasNew now (with_batch b k) (folder e))) × OnErr result
      (Known tells after (λ e. OldOrNew k (with_batch b k) (folder e)))
  end_from before went d is w =
      grow_kept tells (λ x. x ≡ w.before) after s now k b w.fits w.can result small w.at (s.next - 1) w.room refl
      (noted_at s now w.at (length (batch_bytes b)) size result noted w.long)
      (λ may. both_went {T = Unit {0}} {E = E} (WriteAt (file_name (Segment (s.next - 1))) w.at (batch_bytes b))
      (Sync (file_name (Segment (s.next - 1)))) (λ x. x ≡ w.before) before after tt result
      (record {
        each = λ x q. (
          d,
          (
            is,
            (
              (
                d,
                (
                  subst (λ (y : Disk Text). Does (WriteAt (file_name (Segment (s.next - 1))) w.at (batch_bytes b)) y d)
                      (sym q) w.written,
                  refl,
                ),
              ),
              tt,
            ),
          ),
        );
      }) went)
      (told w.before refl w.is_open)

  pub end_kept : (before : Disk Text → Type 0) → WentTo (Sync (file_name (Segment (s.next - 1))) ∷ []) before after result
      → EndsAppend tells before after s now k b size result
  end_kept before went (told d is w) = end_from before went d is w
  end_kept before went (untold e) = either result e
    where
      either : (r : Result Unit E) → tells ≡ false → OnOk r (Known tells after (λ e. HasNew now (with_batch b k) (folder e))) × OnErr r
          (Known tells after (λ e. OldOrNew k (with_batch b k) (folder e)))
      either (Ok x) e = (untold e, tt)
      either (Err x) e = (tt, untold e)
