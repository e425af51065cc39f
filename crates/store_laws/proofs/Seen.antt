-- What is read while a call continues is what a crash may leave.
use Rattle.std.proofs.Common.{◌≡◌, inl, inr, ℕ, zero, suc, ◌+◌, ◌≤◌, Bool, true, false, cond, List, [], ◌∷◌, ◌++◌, length, take, drop, refl, sym, ap, ◌∙◌, subst, arith, length-append}
use Rattle.std.proofs.lemmas.Bool.{cases_Bool, cond-true, cond-false}
use Rattle.disk_model.specs.Disk.{Found, found, missing, Held, LeavesFile, Leaves}
use Rattle.disk_model.specs.Calls.{WriteAt, CutTo, Sync, Remove, SyncNames, Turns, Breaks, Does, Done, put, after_write, after_cut, after_remove}
use Rattle.disk_model.specs.Rest.{Rest}
use Rattle.disk_model.specs.SyncAll.{sync_all}
use Rattle.disk_model.specs.Writing.{replace_calls}
use Rattle.disk_model.proofs.Rests.{rest_left, names_left}
use Rattle.disk_model.proofs.Elsewhere.{Elsewhere, else_same, else_on, else_names}
use Rattle.disk_model.proofs.Names.{same, apart}
use Rattle.disk_model.proofs.Syncs.{sync_left}
use Rattle.disk_model.proofs.Seen.{seen_write, seen_new, seen_cut, seen_remove}
use Rattle.store_laws.specs.Names.{Name, First, Second, Segment, Snapshot, NodeFiles, NodeDisk, NodeCall}
use Rattle.store_laws.specs.Store.{Format, snap_in, meta_of, opens, is_whole}
use Rattle.store_laws.specs.Settled.{Settled}
use Rattle.store_laws.specs.Meta.{file_of, goes_first, next_stamp, set_long_calls}
use Rattle.store_laws.specs.Append.{append_calls, batch_calls}
use Rattle.store_laws.specs.Laws.{meta_file, meta_calls}
use Rattle.store_laws.specs.Load.{repair_calls, remove_from}
use Rattle.store_laws.specs.Snapshots.{snapshot_calls, remove_snapshots, keep_calls}
use Rattle.store_laws.specs.Seen.{ReadsSeen, Seen}
use Rattle.store_laws.proofs.Tells.{tell}

abbrev pub AllSeen : NodeDisk → Type 0
AllSeen d = Leaves d d.read

-- one file was turned, and the others stayed
turned : (n : Name) (d e : NodeDisk) (h : Held) (f : Found) → AllSeen d → LeavesFile h f → Turns n d e h f → AllSeen e
turned n d e h f was here t = record {
  each = λ j. elim (tell j n) [
    | same q ↦ subst (λ (i : Name). LeavesFile (e.held i) (e.read i)) (sym q) (subst (λ (x : Found). LeavesFile (e.held n) x) (sym t.read) (subst (λ (y : Held). LeavesFile y f) (sym t.held) here))
    | apart a ↦ subst (λ (x : Found). LeavesFile (e.held j) x) (sym (t.others.read j a)) (subst (λ (y : Held). LeavesFile y (d.read j)) (sym (t.others.held j a)) (was.each j))
  ];
}

broken : (n : Name) (d e : NodeDisk) (h : Held) → AllSeen d → Breaks n d e h → AllSeen e
broken n d e h was b = turned n d e h (e.read n) was b.part (record { others = b.others; held = b.held; read = refl })

names : (d e : NodeDisk) → AllSeen d → Does SyncNames d e → AllSeen e
names d e was o = record {
  each = λ j. subst (λ (x : Found). LeavesFile (e.held j) x) (sym (o.read j)) (subst (λ (y : Held). LeavesFile y (d.read j)) (sym (o.held j)) (names_left _ _ (was.each j)));
}

-- a write begins inside a file that is there, or makes one that is at rest
pub record MayAdd (n : Name) (at : ℕ) (d : NodeDisk) : Type 0 where
  pub within : (d.read n).there ≡ true → at ≤ length (d.read n).bytes
  pub new : (d.read n).there ≡ false → (at ≡ 0) × Rest (d.held n) (d.read n)

write_seen : (n : Name) (at : ℕ) (bytes : List ℕ) (d : NodeDisk) → AllSeen d → MayAdd n at d → LeavesFile (after_write at bytes (d.held n)) (found (put at bytes (d.read n).bytes))
write_seen n at bytes d was may = elim (cases_Bool (d.read n).there) [
  | inl t ↦ seen_write (d.held n) (d.read n) at bytes t (may.within t) (was.each n)
  | inr z ↦
      let p = may.new z in
      subst (λ (k : ℕ). LeavesFile (after_write k bytes (d.held n)) (found (put k bytes (d.read n).bytes))) (sym p.0) (seen_new (d.held n) (d.read n) bytes z p.1)
]

cut_nothing : (k : ℕ) → take {A = ℕ} k [] ≡ []
cut_nothing zero = refl
cut_nothing (suc k) = refl

cut_seen : (n : Name) (k : ℕ) (d : NodeDisk) → AllSeen d → LeavesFile (cond (d.read n).there (after_cut k (d.held n)) (d.held n)) (record { there = (d.read n).there; bytes = take k (d.read n).bytes })
cut_seen n k d was = elim (cases_Bool (d.read n).there) [
  | inl t ↦ subst (λ (h : Held). LeavesFile h (record { there = (d.read n).there; bytes = take k (d.read n).bytes })) (sym (cond-true _ _ _ t)) (seen_cut (d.held n) (d.read n) k t (was.each n))
  | inr z ↦
      let none : (d.read n).bytes ≡ [] = (was.each n).empty z in
      let same : record { there = (d.read n).there; bytes = take k (d.read n).bytes } ≡ d.read n = (λ i. record { there = (d.read n).there; bytes = (ap (take k) none ∙ cut_nothing k ∙ sym none) i }) in
      subst (λ (h : Held). LeavesFile h (record { there = (d.read n).there; bytes = take k (d.read n).bytes })) (sym (cond-false _ _ _ z)) (subst (λ (x : Found). LeavesFile (d.held n) x) (sym same) (was.each n))
]

remove_seen : (n : Name) (d : NodeDisk) → AllSeen d → LeavesFile (cond (d.read n).there (after_remove (d.held n)) (d.held n)) missing
remove_seen n d was = elim (cases_Bool (d.read n).there) [
  | inl t ↦ subst (λ (h : Held). LeavesFile h missing) (sym (cond-true _ _ _ t)) (seen_remove (d.held n))
  | inr z ↦
      let none : (d.read n).bytes ≡ [] = (was.each n).empty z in
      let is : d.read n ≡ missing = (λ i. record { there = z i; bytes = none i }) in
      subst (λ (h : Held). LeavesFile h missing) (sym (cond-false _ _ _ z)) (subst (λ (x : Found). LeavesFile (d.held n) x) is (was.each n))
]

-- what a list of calls may do: each write is one that may be made
abbrev pub Allowed : List NodeCall → NodeDisk → Type 0
Allowed [] d = Unit {0}
Allowed (WriteAt n at bytes ∷ cs) d = MayAdd n at d × ((m : NodeDisk) → Does (WriteAt n at bytes) d m → Allowed cs m)
Allowed (CutTo n k ∷ cs) d = (m : NodeDisk) → Does (CutTo n k) d m → Allowed cs m
Allowed (Sync n ∷ cs) d = (m : NodeDisk) → Does (Sync n) d m → Allowed cs m
Allowed (Remove n ∷ cs) d = (m : NodeDisk) → Does (Remove n) d m → Allowed cs m
Allowed (SyncNames ∷ cs) d = (m : NodeDisk) → Does SyncNames d m → Allowed cs m

to : (d e : NodeDisk) → e ≡ d → AllSeen d → AllSeen e
to d e q was = subst AllSeen (sym q) was

pub seen : (cs : List NodeCall) (d : NodeDisk) → AllSeen d → Allowed cs d → ReadsSeen cs d
seen [] d was may e q = to d e q was
seen (WriteAt n at bytes ∷ cs) d was may e u = elim u [
  | inl q ↦ to d e q was
  | inr (inl broke) ↦ broken n d e _ was broke
  | inr (inr (m, (did, rest))) ↦ seen cs m (turned n d m _ _ was (write_seen n at bytes d was may.0) did) (may.1 m did) e rest
]
seen (CutTo n k ∷ cs) d was may e u = elim u [
  | inl q ↦ to d e q was
  | inr (inl broke) ↦ broken n d e _ was broke
  | inr (inr (m, (did, rest))) ↦ seen cs m (turned n d m _ _ was (cut_seen n k d was) did) (may m did) e rest
]
seen (Sync n ∷ cs) d was may e u = elim u [
  | inl q ↦ to d e q was
  | inr (inl q) ↦ to d e q was
  | inr (inr (m, (did, rest))) ↦ seen cs m (turned n d m _ _ was (sync_left _ _ (was.each n)) did) (may m did) e rest
]
seen (Remove n ∷ cs) d was may e u = elim u [
  | inl q ↦ to d e q was
  | inr (inl broke) ↦ broken n d e _ was broke
  | inr (inr (m, (did, rest))) ↦ seen cs m (turned n d m _ _ was (remove_seen n d was) did) (may m did) e rest
]
seen (SyncNames ∷ cs) d was may e u = elim u [
  | inl q ↦ to d e q was
  | inr (inl q) ↦ to d e q was
  | inr (inr (m, (did, rest))) ↦ seen cs m (names d m was did) (may m did) e rest
]

-- ---- lists of calls

-- one list and then another
pub allowed_then : (cs ds : List NodeCall) (d : NodeDisk) → Allowed cs d → ((m : NodeDisk) → Done cs d m → Allowed ds m) → Allowed (cs ++ ds) d
allowed_then [] ds d may then = then d refl
allowed_then (WriteAt n at bytes ∷ cs) ds d may then = (may.0, λ m did. allowed_then cs ds m (may.1 m did) (λ e done. then e (m, (did, done))))
allowed_then (CutTo n k ∷ cs) ds d may then = λ m did. allowed_then cs ds m (may m did) (λ e done. then e (m, (did, done)))
allowed_then (Sync n ∷ cs) ds d may then = λ m did. allowed_then cs ds m (may m did) (λ e done. then e (m, (did, done)))
allowed_then (Remove n ∷ cs) ds d may then = λ m did. allowed_then cs ds m (may m did) (λ e done. then e (m, (did, done)))
allowed_then (SyncNames ∷ cs) ds d may then = λ m did. allowed_then cs ds m (may m did) (λ e done. then e (m, (did, done)))

none_after : (n : Name) (d : NodeDisk) → (b : Bool) → (m : NodeDisk) → Allowed (cond b [] (SyncNames ∷ [])) m
none_after n d true m = tt
none_after n d false m = λ p did. tt

-- a file is written whole
replace_allowed : (n : Name) (enc : List ℕ) (b : Bool) (d : NodeDisk) → ((d.read n).there ≡ false → Rest (d.held n) (d.read n)) → Allowed (replace_calls n enc b) d
replace_allowed n enc b d rest =
    (record { within = λ t. omega arith; new = λ z. (refl, rest z) }, λ m did p syn. none_after n d b p)

long_allowed : (n : Name) (enc : List ℕ) (d : NodeDisk) → ((d.read n).there ≡ false → Rest (d.held n) (d.read n)) → Allowed (set_long_calls n enc) d
long_allowed n enc d rest =
    (record { within = λ t. omega arith; new = λ z. (refl, rest z) }, λ m did p syn q cut r last. tt)

-- a batch goes to the end of a file that is there, whose bytes are these many
batch_allowed : (k at : ℕ) (enc : List ℕ) (d : NodeDisk) → (d.read (Segment k)).there ≡ true → at ≤ length (d.read (Segment k)).bytes → Allowed (batch_calls k at enc) d
batch_allowed k at enc d t fits =
    (record { within = λ x. fits; new = λ z. let y : true ≡ false = sym t ∙ z in absurd cc }, λ m did p syn. tt)

put_long : (word old : List ℕ) → length word ≤ length (put 0 word old)
put_long word old = omega (arith, length-append word (drop (0 + length word) old))

pub append_allowed : (k : ℕ) (b : Bool) (at : ℕ) (word enc : List ℕ) (d : NodeDisk) → (d.read (Segment k)).there ≡ b → (b ≡ true → at ≤ length (d.read (Segment k)).bytes) → Rest (d.held (Segment k)) (d.read (Segment k)) → Allowed (append_calls k b at word enc) d
append_allowed k true at word enc d is fits rest = batch_allowed k at enc d is (fits refl)
append_allowed k false at word enc d is fits rest =
    allowed_then (replace_calls (Segment k) word false) (batch_calls k (length word) enc) d (replace_allowed (Segment k) word false d (λ z. rest))
    (λ e done. after e done)
  where
    after : (e : NodeDisk) → Done (replace_calls (Segment k) word false) d e → Allowed (batch_calls k (length word) enc) e
    after e (m, (did, (p, (syn, (q, (names, last)))))) =
        let read : e.read (Segment k) ≡ found (put 0 word (d.read (Segment k)).bytes) = ap (λ (x : NodeDisk). x.read (Segment k)) last ∙ names.read (Segment k) ∙ syn.read ∙ did.read in
        batch_allowed k (length word) enc e (ap (λ (x : Found). x.there) read)
        (subst (λ (x : Found). length word ≤ length x.bytes) (sym read) (put_long word (d.read (Segment k)).bytes))

-- removals are always allowed
either_allowed : (b : Bool) (n : Name) (cs : List NodeCall) (d : NodeDisk) → ((m : NodeDisk) → Allowed cs m) → Allowed (cond b (Remove n ∷ SyncNames ∷ cs) cs) d
either_allowed true n cs d may = λ m did p names. may p
either_allowed false n cs d may = may d

remove_allowed : (r : NodeFiles) (a n : ℕ) (d : NodeDisk) → Allowed (remove_from r a n) d
remove_allowed r a zero d = tt
remove_allowed r a (suc n) d = either_allowed (r (Segment a)).there (Segment a) (remove_from r (suc a) n) d (remove_allowed r (suc a) n)

older_allowed : (js : List ℕ) (d : NodeDisk) → Allowed (remove_snapshots js) d
older_allowed [] d = tt
older_allowed (j ∷ js) d = λ m did. older_allowed js m

pub repair_allowed : (f : Format) (k : ℕ) (x : Found) (d : NodeDisk) → Allowed (repair_calls f k x) d
unfolding repair_calls
repair_allowed f k x d = first x.there (opens f x.bytes) (is_whole f x.bytes) _
  where
    first : (a b c : Bool) (n : ℕ) → Allowed (cond a (cond b (cond c [] (CutTo (Segment k) n ∷ Sync (Segment k) ∷ [])) (Remove (Segment k) ∷ SyncNames ∷ [])) []) d
    first false b c n = tt
    first true false c n = λ m did p names. tt
    first true true true n = tt
    first true true false n = λ m did p syn. tt

pub sync_allowed : (ns : List Name) (d : NodeDisk) → Allowed (sync_all ns) d
sync_allowed [] d = λ m did. tt
sync_allowed (n ∷ ns) d = λ m did. sync_allowed ns m

-- ---- after a settled disk

pub all_seen : (f : Format) (top : ℕ) (d : NodeDisk) → Settled f top d → AllSeen d
all_seen f top d s = record { each = each }
  where
    each : (n : Name) → LeavesFile (d.held n) (d.read n)
    each First = rest_left _ _ s.first
    each Second = rest_left _ _ s.second
    each (Segment k) = rest_left _ _ (s.segment k)
    each (Snapshot j) = s.snap_read j

snapshot_allowed : (n : Name) (b : Bool) (enc : List ℕ) (d : NodeDisk) → (d.read n).there ≡ b → Rest (d.held n) (d.read n) → Allowed (snapshot_calls n b enc) d
snapshot_allowed n false enc d is rest = replace_allowed n enc false d (λ z. rest)
snapshot_allowed n true enc d is rest = λ m did. replace_allowed n enc false m (λ z. let y : true ≡ false = sym is ∙ sym (ap (λ (x : Found). x.there) did.read) ∙ z in absurd cc)

-- the other files, once the file of a snapshot was written
replaced_else : (n : Name) (enc : List ℕ) (d m e : NodeDisk) → Elsewhere n d m → Done (replace_calls n enc false) m e → Elsewhere n d e
replaced_else n enc d m e so (p, (did, (q, (syn, (r, (names, last)))))) =
    subst (Elsewhere n d) (sym last) (else_names n d q r (else_on n d p q (else_on n d m p so did.others) syn.others) names)

snapshot_else : (n : Name) (b : Bool) (enc : List ℕ) (d e : NodeDisk) → Done (snapshot_calls n b enc) d e → Elsewhere n d e
snapshot_else n false enc d e done = replaced_else n enc d d e (else_same n d) done
snapshot_else n true enc d e (m, (did, done)) = replaced_else n enc d m e (else_on n d d m (else_same n d) did.others) done

keep_allowed : (f : Format) (top : ℕ) (d : NodeDisk) → Settled f top d → (k index : ℕ) → (d.read (Segment k)).there ≡ false → (snap_in f d.read).index ≤ index → (enc word batch older : List ℕ) → Allowed (keep_calls d.read k index enc word batch older) d
keep_allowed f top d s k index none past enc word batch older =
    allowed_then (snapshot_calls (Snapshot index) (d.read (Snapshot index)).there enc) _ d (snapshot_allowed (Snapshot index) (d.read (Snapshot index)).there enc d refl (s.snap_rest index past)) (λ m done.
    let so = snapshot_else (Snapshot index) (d.read (Snapshot index)).there enc d m done in
    let gone : (m.read (Segment k)).there ≡ false = ap (λ (x : Found). x.there) (so.read (Segment k) (λ q. absurd cc)) ∙ none in
    allowed_then (append_calls k false 0 word batch) _ m (append_allowed k false 0 word batch m gone (λ y. absurd cc) (so.rest (Segment k) (λ q. absurd cc) (s.segment k))) (λ p more.
    allowed_then (remove_from d.read 0 k) (remove_snapshots older) p (remove_allowed d.read 0 k p) (λ e last. older_allowed older e)))

pub seen_holds : Seen
seen_holds f top d s =
    let was = all_seen f top d s in
    let side = goes_first (next_stamp (meta_of f d.read)) in
    record {
      metadata = λ enc. seen (meta_calls f d enc) d was (replace_allowed (meta_file f d) enc (d.read (meta_file f d)).there d (λ z. rest_of side));
      long_metadata = λ enc. seen (set_long_calls (meta_file f d) enc) d was (long_allowed (meta_file f d) enc d (λ z. rest_of side));
      batch = λ k word enc. seen (append_calls k (d.read (Segment k)).there (length (d.read (Segment k)).bytes) word enc) d was (append_allowed k (d.read (Segment k)).there (length (d.read (Segment k)).bytes) word enc d refl (λ t. omega arith) (s.segment k));
      snapshot = λ k index none past enc word batch older. seen (keep_calls d.read k index enc word batch older) d was (keep_allowed f top d s k index none past enc word batch older);
    }
  where
    rest_of : (side : Bool) → Rest (d.held (file_of side)) (d.read (file_of side))
    rest_of true = s.first
    rest_of false = s.second
