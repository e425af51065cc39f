-- The newer snapshot.
use Rattle.std.proofs.Common.{◌≡◌, ℕ, ◌-◌, ◌≤◌, ◌<◌, Bool, List, length, take, drop, length-drop, Option, Some, None, sym, ap, ◌∙◌, subst, arith}
use Rattle.std.proofs.lemmas.Bool.{cond-true, cond-false, lt-ltb, le-ltb}
use Rattle.std.proofs.lemmas.List.{length-take-le}
use Rattle.raft_messages.specs.declared.message.Snapshot.{Snapshot}
use Rattle.store_laws.specs.Store.{Meta, Snap, Log, no_snap}
use Rattle.store_laws.specs.WholeLoad.{is_stale}
use Rattle.store_format.specs.Snapshots.{size_in, snap_of, snap_of_found, IsNewer}
use Rattle.store_format.proofs.Lawfully.{snap_yes, whole_parts, was_snapshot}
use Rattle.store_format.specs.declared.snapshot.SnapshotFile.{SnapshotFile}
use Rattle.store_format.specs.FilesRead.{FilesRead, newer_snap, snap_kept, with_snap}
use Rattle.store_format.specs.SegmentLog.{SegmentsRead}

pub newer : (s old : Snap) → old.index < s.index → newer_snap s old ≡ s
unfolding newer_snap
newer s old h = cond-true _ _ _ (lt-ltb _ _ h)

pub not_newer : (s old : Snap) → s.index ≤ old.index → newer_snap s old ≡ old
unfolding newer_snap
not_newer s old h = cond-false _ _ _ (le-ltb _ _ h)

-- ---- a file is looked at

pub none_newer : (number index : ℕ) (x : List ℕ) → no_snap ≡ snap_of number x → (snap_of number x).index ≤ index
none_newer number index x reads =
    let none : 0 ≡ (snap_of number x).index = ap (λ (s : Snap). s.index) reads in
    omega (arith, none)

pub found_older : (number index : ℕ) (x : List ℕ) (found : SnapshotFile) → snap_of_found (Some found) ≡ snap_of number x → found.index ≤ index → (snap_of number x).index ≤ index
found_older number index x found reads old =
    let same : found.index ≡ (snap_of number x).index = ap (λ (s : Snap). s.index) reads in
    omega (arith, same, old)

pub found_newer : (number index : ℕ) (x : List ℕ) (found : SnapshotFile) → snap_of_found (Some found) ≡ snap_of number x → index < found.index → IsNewer number index x (Some (found.term, length found.bytes.now))
found_newer number index x found reads past =
    let same : found.index ≡ (snap_of number x).index = ap (λ (s : Snap). s.index) reads in
    let whole = was_snapshot number x (λ q. absurd (omega (arith, same, past, q))) in
    let yes = snap_yes number x whole in
    let parts = whole_parts number x whole in
    let is = reads ∙ yes in
    let long = parts.0 in
    let rest = parts.1 in
    let size : length found.bytes.now ≡ size_in x = ap (λ (s : Snap). length s.bytes) is ∙ length-take-le (size_in x) (drop 40 x) (omega (arith, rest)) in
    let number_is : found.index ≡ number = ap (λ (s : Snap). s.index) is in
    let behind : length (drop 40 x) ≡ length x - 40 = length-drop 40 x in (
      yes ∙ (λ i. record { index = number; term = ap (λ (s : Snap). s.term) (sym is) i; bytes = take (sym size i) (drop 40 x) }),
      (omega (arith, number_is, past), omega (arith, size, rest, behind, long)),
    )

-- what is kept of it
pub kept_newer : (number : ℕ) (x bytes : List ℕ) (r : FilesRead) (term size : ℕ) → IsNewer number r.snap.index x (Some (term, size)) → bytes ≡ take size (drop 40 x) → newer_snap (snap_of number x) r.snap ≡ record { index = number; term = term; bytes = bytes }
kept_newer number x bytes r term size found is =
    let same : number ≡ (snap_of number x).index = sym (ap (λ (s : Snap). s.index) found.0) in
    let past = found.1.0 in
    newer (snap_of number x) r.snap (omega (arith, same, past)) ∙ found.0 ∙ (λ i. record { index = number; term = term; bytes = sym is i })

pub taken : (r : FilesRead) (m : Meta) (s : Snap) (l : SegmentsRead) (number index : ℕ) (x y bytes : List ℕ) (o : Option (ℕ × ℕ)) (p : ℕ × ℕ) → record { meta = m; snap = s; segments = l } ≡ r → IsNewer number index y o → o ≡ Some p → y ≡ x → index ≡ r.snap.index → bytes ≡ take p.1 (drop 40 x)
    → record { meta = m; snap = record { index = number; term = p.0; bytes = bytes }; segments = l } ≡ with_snap (snap_of number x) r
taken r m s l number index x y bytes o p view newer_it some file here is =
    let found : IsNewer number r.snap.index x (Some p) = subst (λ (k : ℕ). IsNewer number k x (Some p)) here (subst (λ (z : List ℕ). IsNewer number index z (Some p)) file (subst (IsNewer number index y) some newer_it)) in
    let kept = kept_newer number x bytes r p.0 p.1 found is in
    λ i. record { meta = (view i).meta; snap = sym kept i; segments = (view i).segments }

pub not_taken : (r : FilesRead) (number index : ℕ) (x y : List ℕ) (o : Option (ℕ × ℕ)) → IsNewer number index y o → o ≡ None → y ≡ x → index ≡ r.snap.index → r ≡ with_snap (snap_of number x) r
not_taken r number index x y o newer_it none file here =
    let old : (snap_of number x).index ≤ r.snap.index = subst (λ (k : ℕ). (snap_of number x).index ≤ k) here (subst (λ (z : List ℕ). (snap_of number z).index ≤ index) file (subst (IsNewer number index y) none newer_it)) in
    λ i. record { meta = r.meta; snap = sym (not_newer (snap_of number x) r.snap old) i; segments = r.segments }

-- whether the log is stale, by the fields
pub stale_is : (r : FilesRead) (m : Meta) (o : Option Snapshot) (s : SegmentsRead) (l : Log) (index term : ℕ) (b : Bool) → record { meta = m; snap = snap_kept o; segments = s } ≡ r → l ≡ s.log → index ≡ (snap_kept o).index → term ≡ (snap_kept o).term
    → ((bytes : List ℕ) → b ≡ is_stale (record { index = index; term = term; bytes = bytes }) l) → b ≡ is_stale r.snap r.segments.log
stale_is r m o s l index term b view log i t each =
    each (snap_kept o).bytes ∙ (λ k. is_stale (record { index = i k; term = t k; bytes = (snap_kept o).bytes }) (log k)) ∙ ap (λ (x : FilesRead). is_stale x.snap x.segments.log) view
