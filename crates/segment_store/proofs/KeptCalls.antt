-- The calls that keep a snapshot are those of the law, with their names encoded.
use Rattle.std.proofs.Common.{◌≡◌, ℕ, zero, suc, ◌+◌, Bool, true, false, cond, List, [], ◌∷◌, ◌++◌, refl, sym, ap, ◌∙◌, arith}
use Rattle.disk_model.specs.Calls.{Call, Remove, SyncNames}
use Rattle.disk_model.specs.Trait.{Text}
use Rattle.disk_model.specs.Spelled.{all_spelled}
use Rattle.store_laws.specs.Names.{Segment, Snapshot, NodeFiles, NodeCall}
use Rattle.store_laws.specs.Append.{append_calls}
use Rattle.store_laws.specs.Load.{remove_from}
use Rattle.store_laws.specs.Snapshots.{snapshot_calls, remove_snapshots, keep_calls}
use Rattle.store_format.specs.BatchesWritten.{segment_word}
use Rattle.segment_store.specs.FileNames.{file_name}
use Rattle.segment_store.specs.Open.{Open, segment_numbers, is_listed}
use Rattle.segment_store.specs.Grow.{begin_calls}
use Rattle.segment_store.specs.Keeping.{file_calls, removal_calls, loose_removal_calls, segment_names, snapshot_names, older_than, kept_calls}

-- ---- the segments that are there go

-- one segment, if it is there
abbrev one : NodeFiles → ℕ → List NodeCall
one r m = cond (r (Segment m)).there (Remove (Segment m) ∷ SyncNames ∷ []) []

abbrev each : List ℕ → List NodeCall
each [] = []
each (m ∷ ms) = Remove (Segment m) ∷ SyncNames ∷ each ms

behind : (b : Bool) (c d : NodeCall) (all front last : List NodeCall) → all ≡ front ++ last → cond b (c ∷ d ∷ all) all ≡ cond b (c ∷ d ∷ front) front ++ last
behind true c d all front last e = ap (λ (l : List NodeCall). c ∷ d ∷ l) e
behind false c d all front last e = e

-- the last one goes last
last_removed : (r : NodeFiles) (a n m : ℕ) → m ≡ a + n → remove_from r a (suc n) ≡ remove_from r a n ++ one r m
last_removed r a zero m e = let z : a ≡ m = omega (arith, e) in ap (one r) z
last_removed r a (suc n) m e = behind (r (Segment a)).there (Remove (Segment a)) SyncNames _ _ (one r m) (last_removed r (suc a) n m (omega (arith, e)))

each_last : (ms : List ℕ) (n : ℕ) (b : Bool) → each (ms ++ cond b (n ∷ []) []) ≡ each ms ++ cond b (Remove (Segment n) ∷ SyncNames ∷ []) []
each_last [] n true = refl
each_last [] n false = refl
each_last (m ∷ ms) n b = ap (λ (l : List NodeCall). Remove (Segment m) ∷ SyncNames ∷ l) (each_last ms n b)

all_removed : (r : NodeFiles) (n : ℕ) → remove_from r 0 n ≡ each (segment_numbers n r)
unfolding segment_numbers
all_removed r zero = refl
all_removed r (suc n) =
    last_removed r 0 n n (omega arith) ∙ ap (λ (l : List NodeCall). l ++ one r n) (all_removed r n) ∙ sym (each_last (segment_numbers n r) n (r (Segment n)).there)

-- ---- names encoded

spelled_both : (cs ds : List NodeCall) → all_spelled file_name (cs ++ ds) ≡ all_spelled file_name cs ++ all_spelled file_name ds
spelled_both [] ds = refl
spelled_both (c ∷ cs) ds = ap (λ (l : List (Call Text)). all_spelled file_name (c ∷ []) ++ l) (spelled_both cs ds)

each_spelled : (ms : List ℕ) → all_spelled file_name (each ms) ≡ removal_calls (segment_names ms)
each_spelled [] = refl
each_spelled (m ∷ ms) = ap (λ (l : List (Call Text)). Remove (file_name (Segment m)) ∷ SyncNames ∷ l) (each_spelled ms)

older_spelled : (js : List ℕ) → all_spelled file_name (remove_snapshots js) ≡ loose_removal_calls (snapshot_names js)
older_spelled [] = refl
older_spelled (j ∷ js) = ap (λ (l : List (Call Text)). Remove (file_name (Snapshot j)) ∷ l) (older_spelled js)

file_spelled : (index : ℕ) (b : Bool) (bytes : List ℕ) → all_spelled file_name (snapshot_calls (Snapshot index) b bytes) ≡ file_calls (file_name (Snapshot index)) b bytes
file_spelled index true bytes = refl
file_spelled index false bytes = refl

pub kept_spelled : (s : Open) (r : NodeFiles) (index : ℕ) (bytes batch : List ℕ) → s.segments ≡ segment_numbers s.next r → (r (Snapshot index)).there ≡ is_listed index s.snapshots
    → kept_calls s index bytes batch ≡ all_spelled file_name (keep_calls r s.next index bytes segment_word batch (older_than index s.snapshots))
kept_spelled s r index bytes batch listed there =
    let olds = older_than index s.snapshots in
    let file : all_spelled file_name (snapshot_calls (Snapshot index) (r (Snapshot index)).there bytes) ≡ file_calls (file_name (Snapshot index)) (is_listed index s.snapshots) bytes =
    file_spelled index (r (Snapshot index)).there bytes ∙ ap (λ (b : Bool). file_calls (file_name (Snapshot index)) b bytes) there in
    let segments : all_spelled file_name (remove_from r 0 s.next) ≡ removal_calls (segment_names s.segments) =
    ap (all_spelled file_name) (all_removed r s.next) ∙ each_spelled (segment_numbers s.next r) ∙ ap (λ (ms : List ℕ). removal_calls (segment_names ms)) (sym listed) in
    sym (
    spelled_both (snapshot_calls (Snapshot index) (r (Snapshot index)).there bytes) _
    ∙ (λ i. file i ++ spelled_both (append_calls s.next false 0 segment_word batch) (remove_from r 0 s.next ++ remove_snapshots olds) i)
    ∙ ap (λ (l : List (Call Text)). file_calls (file_name (Snapshot index)) (is_listed index s.snapshots) bytes ++ (begin_calls (file_name (Segment s.next)) segment_word batch ++ l))
    (spelled_both (remove_from r 0 s.next) (remove_snapshots olds) ∙ (λ i. segments i ++ older_spelled olds i))
    )
