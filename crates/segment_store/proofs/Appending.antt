-- From the calls that write a batch to what is kept.
use Rattle.std.proofs.Common.{◌≡◌, ℕ, ◌+◌, ◌-◌, ◌^◌, ◌<◌, ◌≤◌, Bool, true, false, cond, List, length, Option, Some, None, Result, Ok, Err, sym, ◌∙◌, subst, arith}
use Rattle.std.specs.Prelude.{nat_lt, OnOk}
use Rattle.disk_model.specs.Disk.{Disk}
use Rattle.disk_model.specs.Calls.{Call, Done, Until, MayWrite}
use Rattle.disk_model.specs.Trait.{Text, Known, Ran}
use Rattle.disk_model.specs.declared.faults.DiskFault.{DiskFault as DiskFaultOf}
use Rattle.disk_model.proofs.Runs.{known_map}
use Rattle.store_laws.specs.Names.{Segment}
use Rattle.store_laws.specs.Store.{Log, Kept}
use Rattle.store_laws.specs.Append.{with_batch, CanAppend}
use Rattle.raft_messages.specs.Entries.{HaveHeads}
use Rattle.store_format.specs.Batches.{batch_bytes}
use Rattle.store_format.specs.BatchesWritten.{segment_word, Fits}
use Rattle.segment_store.specs.FileNames.{file_name}
use Rattle.segment_store.specs.Open.{Open, Grows, MayGrow, IsOpen}
use Rattle.segment_store.specs.Grow.{grow_calls, begin_calls, IsFree, room_in, appended_to}
use Rattle.segment_store.specs.Keeps.{folder, OldOrNew, HasNew, Keeps, Went}
use Rattle.segment_store.proofs.Segments.{not_gone}
use Rattle.segment_store.proofs.Keeping.{none_keeps, known_went, as_noted, went_err, went_ok}
use Rattle.segment_store.proofs.AppendKeeps.{grow_done, grow_until, begin_done, begin_until}

-- a segment with room is the one that is there
room_is : (size : Option ℕ) (l : ℕ) → room_in size ≡ Some l → size ≡ Some l
room_is None l e = absurd cc
room_is (Some n) l e = choose (nat_lt n 8388608) e
  where
    choose : (c : Bool) → cond c (Some n) None ≡ Some l → Some n ≡ Some l
    choose true q = q
    choose false q = absurd cc

may_grow : (s : Open) (k : Kept) (d : Disk Text) (l : ℕ) → room_in s.size ≡ Some l → IsOpen s k (folder d) → Grows s.next l (folder d)
may_grow s k d l room o = subst (λ (n : Option ℕ). MayGrow s.next n (folder d)) (room_is s.size l room) o.grows

last_is : (s : Open) (k : Kept) (d : Disk Text) (l number : ℕ) (g : Grows s.next l (folder d)) → number ≡ s.next - 1 → g.last ≡ number
last_is s k d l number g is = omega (arith, is, g.before)

pub grow_may_write : (s : Open) (k : Kept) (l number : ℕ) → room_in s.size ≡ Some l → number ≡ s.next - 1 → (d : Disk Text) → IsOpen s k (folder d) → MayWrite (file_name (Segment number)) l d
grow_may_write s k l number room is d o =
    let g = may_grow s k d l room o in
    subst (λ (n : ℕ). MayWrite (file_name (Segment n)) l d) (last_is s k d l number g is)
    (record { within = omega (arith, g.size.1); no_removal = λ q. not_gone _ (sym (o.settled.segment g.last).standing ∙ q) })

pub is_free : (s : Open) (k : Kept) (d : Disk Text) → IsOpen s k (folder d) → IsFree (file_name (Segment s.next)) d
is_free s k d o = record { not_there = o.settled.above s.next (omega arith); rest = o.settled.segment s.next }

module _ {E : Type 0} (tells : Bool) (before after : Disk Text → Type 0) (s now : Open) (k : Kept) (b : Log) (fits : Fits b) (can : CanAppend k b) (result : Result Unit E) where
  abbrev count : ℕ
  count = length (batch_bytes b)

  pub grow_kept : s.next ≤ 10000000000000000 → (l number : ℕ) → room_in s.size ≡ Some l → number ≡ s.next - 1 → OnOk result (now ≡ appended_to (Some l) count s)
      → (Known tells before (MayWrite (file_name (Segment number)) l) → Went (grow_calls (file_name (Segment number)) l (batch_bytes b)) before after result)
      → Keeps tells before after s now k (with_batch b k) result
  grow_kept small l number room is noted went known =
      let may = known_map tells before (λ d. IsOpen s k (folder d)) (MayWrite (file_name (Segment number)) l) known (grow_may_write s k l number room is) in
      as_noted tells before after s now (appended_to (Some l) count s) k (with_batch b k) result noted (λ y. known_went _ before after result tells (λ d. IsOpen s k (folder d)) (λ e. HasNew (appended_to (Some l) count s) (with_batch b k) (folder e)) (λ e. OldOrNew k (with_batch b k) (folder e)) y (went may) done until) known
    where
      done : (d e : Disk Text) → IsOpen s k (folder d) → Done (grow_calls (file_name (Segment number)) l (batch_bytes b)) d e → HasNew (appended_to (Some l) count s) (with_batch b k) (folder e)
      done d e o u =
          let g = may_grow s k d l room o in
          let n = last_is s k d l number g is in
          subst (λ (t : ℕ). HasNew (record { version = s.version; first = s.first; second = s.second; next = t; size = Some (l + count); segments = s.segments; snapshots = s.snapshots }) (with_batch b k) (folder e)) (sym g.before)
          (grow_done k b fits can s d o l g.last g.before g.size g.format (subst (λ (t : ℕ). t ≤ 10000000000000000) g.before small) e (subst (λ (t : ℕ). Done (grow_calls (file_name (Segment t)) l (batch_bytes b)) d e) (sym n) u))

      until : (d e : Disk Text) → IsOpen s k (folder d) → Until (grow_calls (file_name (Segment number)) l (batch_bytes b)) d e → OldOrNew k (with_batch b k) (folder e)
      until d e o u =
          let g = may_grow s k d l room o in
          let n = last_is s k d l number g is in
          grow_until k b fits can s d o l g.last g.before g.size g.format (subst (λ (t : ℕ). t ≤ 10000000000000000) g.before small) e (subst (λ (t : ℕ). Until (grow_calls (file_name (Segment t)) l (batch_bytes b)) d e) (sym n) u)

  pub begin_kept : s.next < 10000000000000000 → room_in s.size ≡ None → OnOk result (now ≡ appended_to None count s)
      → (Known tells before (IsFree (file_name (Segment s.next))) → Went (begin_calls (file_name (Segment s.next)) segment_word (batch_bytes b)) before after result)
      → Keeps tells before after s now k (with_batch b k) result
  begin_kept small room noted went known =
      let free = known_map tells before (λ d. IsOpen s k (folder d)) (IsFree (file_name (Segment s.next))) known (λ d o. is_free s k d o) in
      as_noted tells before after s now (appended_to None count s) k (with_batch b k) result noted (λ y. known_went _ before after result tells (λ d. IsOpen s k (folder d)) (λ e. HasNew (appended_to None count s) (with_batch b k) (folder e)) (λ e. OldOrNew k (with_batch b k) (folder e)) y (went free)
      (λ d e o u. begin_done k b fits can s d o (omega (arith, small)) e u)
      (λ d e o u. begin_until k b fits can s d o (omega (arith, small)) e u)) known

-- ---- names as the code has them

module _ (n wanted : Text) (tells : Bool) (before after : Disk Text → Type 0) (is_name : n ≡ wanted) (P : Text → Disk Text → Type 0) (calls : Text → List (Call Text)) where
  pub named_err : {E : Type 0} (x : DiskFaultOf) (y : E) → (Known tells before (P n) → Ran {T = Unit {0}} (calls n) before after (Err x)) → Known tells before (P wanted) → Went (calls wanted) before after (Err y)
  named_err x y ran known = went_err (calls wanted) before after x y (subst (λ (t : Text). Ran {T = Unit {0}} (calls t) before after (Err x)) is_name (ran (subst (λ (t : Text). Known tells before (P t)) (sym is_name) known)))

  pub named_ok : {E : Type 0} (x y : Unit {0}) → (Known tells before (P n) → Ran (calls n) before after (Ok x)) → Known tells before (P wanted) → Went {E = E} (calls wanted) before after (Ok y)
  named_ok x y ran known = went_ok (calls wanted) before after x y (subst (λ (t : Text). Ran {T = Unit {0}} (calls t) before after (Ok x)) is_name (ran (subst (λ (t : Text). Known tells before (P t)) (sym is_name) known)))

-- ---- of the code's calls

module _ {E : Type 0} (tells : Bool) (before after : Disk Text → Type 0) (s now : Open) (k : Kept) (b : Log) (batch : List ℕ) (is : batch ≡ batch_bytes b) (fits : Fits b) (can : CanAppend k b) (result : Result Unit E) where
  pub grown : s.next ≤ 10000000000000000 → (l number : ℕ) → room_in s.size ≡ Some l → number ≡ s.next - 1 → OnOk result (now ≡ appended_to (Some l) (length batch) s)
      → (Known tells before (MayWrite (file_name (Segment number)) l) → Went (grow_calls (file_name (Segment number)) l batch) before after result)
      → Keeps tells before after s now k (with_batch b k) result
  grown small l number room is_number noted went =
      grow_kept tells before after s now k b fits can result small l number room is_number (subst (λ (x : List ℕ). OnOk result (now ≡ appended_to (Some l) (length x) s)) is noted)
      (λ may. subst (λ (x : List ℕ). Went (grow_calls (file_name (Segment number)) l x) before after result) is (went may))

  pub begun : s.next < 10000000000000000 → (number : ℕ) → room_in s.size ≡ None → number ≡ s.next → OnOk result (now ≡ appended_to None (length batch) s)
      → (Known tells before (IsFree (file_name (Segment number))) → Went (begin_calls (file_name (Segment number)) segment_word batch) before after result)
      → Keeps tells before after s now k (with_batch b k) result
  begun small number room is_number noted went =
      begin_kept tells before after s now k b fits can result small room (subst (λ (x : List ℕ). OnOk result (now ≡ appended_to None (length x) s)) is noted)
      (subst (λ (n : ℕ). Known tells before (IsFree (file_name (Segment n))) → Went (begin_calls (file_name (Segment n)) segment_word (batch_bytes b)) before after result) is_number
      (λ free. subst (λ (x : List ℕ). Went (begin_calls (file_name (Segment number)) segment_word x) before after result) is (went free)))

-- if nothing was called the old state is there
pub none_appended : {E : Type 0} (tells : Bool) (states : Disk Text → Type 0) (s now : Open) (k new : Kept) (fault : E) → s.next ≤ 10000000000000000 → Keeps tells states states s now k new (Err fault)
none_appended tells states s now k new fault small = none_keeps tells states s now k new fault small

-- a batch that may be added and whose numbers fit
pub fits_of : (k : Kept) (b : Log) → CanAppend k b → b.first < 2 ^ 64 → length b.entries < 2 ^ 64 → HaveHeads b.entries → Fits b
fits_of k b can first count heads = record { some = omega (arith, can.past); first = first; count = count; heads = heads }
