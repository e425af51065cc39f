-- A batch is kept or not, at each moment.
use Rattle.std.proofs.Common.{◌≡◌, ◌≢◌, inl, inr, ℕ, suc, ◌+◌, ◌≤◌, ◌<◌, Bool, true, false, List, [], ◌∷◌, ◌++◌, length, refl, sym, ap, ◌∙◌, subst, arith, cond}
use Rattle.std.proofs.lemmas.Bool.{cases_Bool, cases_eq, cases_lt}
use Rattle.store_laws.specs.Names.{First, Second, Segment, Snapshot, NodeDisk}
use Rattle.disk_model.specs.Disk.{Found, found, Change, Wrote, Held, LeavesBytes, LeavesFile, Sure}
use Rattle.store_laws.specs.Store.{reader, snap_in, newest_snap, Format, Log, Snap, Kept, Loaded, kept, segments, all_batches, batches_in, is_whole, log_of, empty_log, put_batch, meta_of, behind}
use Rattle.disk_model.specs.Calls.{Done, after_write}
use Rattle.store_laws.specs.Chance.{Lawful}
use Rattle.store_laws.specs.Settled.{Settled, Steady, file_log}
use Rattle.disk_model.specs.Rest.{Rest}
use Rattle.disk_model.specs.Writing.{replace_calls}
use Rattle.store_laws.specs.Append.{with_batch, batch_calls, append_calls, with_log, wanted, Takes, Writes, SameVersion}
use Rattle.store_laws.specs.Load.{Still}
use Rattle.store_laws.specs.Laws.{AnyMoment, Comes, Append, EmptyStale}
use Rattle.disk_model.proofs.Rests.{rest_only, same_found, synced_or_not}
use Rattle.disk_model.proofs.Elsewhere.{Elsewhere}
use Rattle.disk_model.proofs.Rewrites.{Stage, same, written, synced, moments, Ended, whole_call}
use Rattle.store_laws.proofs.Answers.{meta_same, segments_same, settled_images}
use Rattle.store_laws.proofs.Fronts.{IsPiece}
use Rattle.store_laws.proofs.Grown.{grown, grown_whole, one_batch}
use Rattle.store_laws.proofs.Tail.{TailReads, shorter, longer, tail_moments, tail_ended, tail_reads}
use Rattle.store_laws.proofs.Folders.{part, all_one, all_nil, short_none, has_stamp}
use Rattle.disk_model.proofs.Untils.{until_append, done_append, else_trans}
use Rattle.store_laws.proofs.Logs.{log_push, appended, emptied}
use Rattle.store_laws.proofs.Stills.{still_on}
use Rattle.store_laws.proofs.AppendImages.{Grows, before, after, image, folder_new, all_after, loaded_parts, loaded_stamp}

pub part_there : (f : Format) (x : Found) → x.there ≡ true → all_batches f (part x) ≡ batches_in f x.bytes
part_there f x t = ap (λ (b : Bool). all_batches f (cond b (x.bytes ∷ []) [])) t ∙ all_one f x.bytes

pub part_not : (f : Format) (x : Found) → x.there ≡ false → all_batches f (part x) ≡ []
part_not f x t = ap (λ (b : Bool). all_batches f (cond b (x.bytes ∷ []) [])) t ∙ all_nil f

with_batch_read : (f : Format) (law : Lawful f) (H enc : List ℕ) (b : Log) → is_whole f H ≡ true → IsPiece (reader f H) enc b → 0 < length enc → batches_in f (H ++ enc) ≡ batches_in f H ++ b ∷ []
with_batch_read f law H enc b whole piece pos = grown f law H whole enc ∙ ap (λ (l : List Log). batches_in f H ++ l) (one_batch (reader f H) (law.batches (f.version H)) enc b piece pos)

grows_of : (f : Format) (law : Lawful f) (H enc : List ℕ) (b : Log) (r x : Found) → is_whole f H ≡ true → IsPiece (reader f H) enc b → 0 < length enc → all_batches f (part r) ≡ batches_in f H → TailReads f H enc x → Grows f r b x
grows_of f law H enc b r x whole piece pos e (shorter t q) = before (part_there f x t ∙ q ∙ sym e)
grows_of f law H enc b r x whole piece pos e (longer q) =
    after (ap (λ (y : Found). all_batches f (part y)) q ∙ all_one f (H ++ enc) ∙ with_batch_read f law H enc b whole piece pos ∙ ap (λ (l : List Log). l ++ b ∷ []) (sym e))

-- a segment that isn't there yet holds nothing while its format word is written
none_yet : (f : Format) → Lawful f → (h k : Held) (r x : Found) → Rest h r → r.there ≡ false → (word : List ℕ) → length word ≡ 8 → Stage h word k → LeavesFile k x → all_batches f (part x) ≡ []
none_yet f law h k r x rest absent word len (same e) left =
    let q : x ≡ r = rest_only h r x rest (subst (λ (j : Held). LeavesFile j x) e left) in
    part_not f x (ap (λ (y : Found). y.there) q ∙ absent)
none_yet f law h k r x rest absent word len (synced q e) left = elim (synced_or_not k x q left) [
  | inl m ↦ part_not f x (ap (λ (y : Found). y.there) m)
  | inr m ↦ part_there f x (ap (λ (y : Found). y.there) m) ∙ short_none f law x.bytes (omega (arith, ap (λ (y : Found). length y.bytes) m, ap length e))
]
none_yet f law h k r x rest absent word len (written e) left = elim (cases_Bool x.there) [
  | inr t ↦ part_not f x t
  | inl t ↦
      let l : LeavesFile (after_write 0 word h) x = subst (λ (j : Held). LeavesFile j x) e left in
      let nil : h.bytes ≡ [] = rest.bytes ∙ rest.empty absent in
      let y : LeavesBytes [] (Wrote 0 word ∷ []) x.bytes = subst (λ (c : List ℕ). LeavesBytes c (Wrote 0 word ∷ []) x.bytes) nil
      (subst (λ (c : List Change). LeavesBytes h.bytes (Wrote 0 word ∷ c) x.bytes) rest.since (l.left t)) in
      part_there f x t ∙ short_none f law x.bytes (omega (arith, y.no_longer))
]

-- after a batch was added to segment k
pub record Grew (f : Format) (k : ℕ) (d e : NodeDisk) (b : Log) (new : Kept) : Type 0 where
  pub still : Still f k e
  pub whole : (e.read (Segment k)).there ≡ true → is_whole f (e.read (Segment k)).bytes ≡ true
  pub below : (j : ℕ) → j < k → e.read (Segment j) ≡ d.read (Segment j)
  pub batches : all_batches f (segments (suc k) e.read) ≡ all_batches f (segments (suc k) d.read) ++ b ∷ []
  pub snaps : snap_in f e.read ≡ snap_in f d.read
  pub metas : meta_of f e.read ≡ meta_of f d.read
  pub loaded : kept f (suc k) e.read ≡ Loaded new

module _ (f : Format) (law : Lawful f) (k : ℕ) (d : NodeDisk) (s : Still f k d) (whole_k : (d.read (Segment k)).there ≡ true → is_whole f (d.read (Segment k)).bytes ≡ true) (old : Kept) (is_old : kept f (suc k) d.read ≡ Loaded old) (b new : Log) (stamp : (meta_of f d.read).stamp ≢ 0) (takes : Takes (snap_in f d.read) (file_log f (suc k) d.read) b new) (word enc : List ℕ) (w : Writes f b word enc) where
  abbrev r : Found
  r = d.read (Segment k)

  -- the disk at the end
  ends : (H : List ℕ) (e : NodeDisk) → is_whole f H ≡ true → IsPiece (reader f H) enc b → all_batches f (part r) ≡ batches_in f H → Elsewhere (Segment k) d e → e.held (Segment k) ≡ record { standing = Sure; bytes = H ++ enc; since = [] } → e.read (Segment k) ≡ found (H ++ enc)
      → Grew f k d e b (with_log new old)
  ends H e whole piece eq so held read =
      let snaps : snap_in f e.read ≡ snap_in f d.read = (λ i. newest_snap f.snap f.numbers (λ j. so.read (Snapshot j) (λ q. absurd cc) i)) in
      let meta : meta_of f e.read ≡ meta_of f d.read = meta_same f e.read d.read (so.read First (λ q. absurd cc)) (so.read Second (λ q. absurd cc)) in
      let below : (j : ℕ) → j < k → e.read (Segment j) ≡ d.read (Segment j) = λ j h. so.read (Segment j) (λ q. let z : j ≡ k = cc in absurd (omega arith)) in
      let segs : segments k e.read ≡ segments k d.read = segments_same k e.read d.read below in
      let grew : all_batches f (part (e.read (Segment k))) ≡ all_batches f (part r) ++ b ∷ [] =
      ap (λ (y : Found). all_batches f (part y)) read ∙ all_one f (H ++ enc) ∙ with_batch_read f law H enc b whole piece w.some ∙ ap (λ (l : List Log). l ++ b ∷ []) (sym eq) in
      let here : Rest (e.held (Segment k)) (e.read (Segment k)) = subst (λ (x : Found). Rest (e.held (Segment k)) x) (sym read) (subst (λ (x : Held). Rest x (found (H ++ enc))) (sym held) (record { since = refl; bytes = refl; standing = refl; empty = λ z. absurd cc })) in
      record {
        still = still_on f k d s e so here;
        whole = λ t. ap (λ (x : Found). is_whole f x.bytes) read ∙ grown_whole f law H whole enc b piece w.some;
        below = below;
        batches = all_after f law k d s old is_old b new stamp takes e.read segs grew;
        snaps = snaps;
        metas = meta;
        loaded = folder_new f law k d s old is_old b new stamp takes e.read meta snaps segs grew;
      }

  module _ (there : r.there ≡ true) (same_word : f.version r.bytes ≡ f.version word) where
    piece_r : IsPiece (reader f r.bytes) enc b
    piece_r = ap (λ (v : ℕ). f.batch v enc) same_word ∙ w.batch

    is_found : r ≡ found r.bytes
    is_found = same_found r (found r.bytes) there refl

    rest_found : Rest (d.held (Segment k)) (found r.bytes)
    rest_found = subst (λ (x : Found). Rest (d.held (Segment k)) x) is_found (s.segment k)

    pub open_moment : AnyMoment f (suc k) (batch_calls k (length r.bytes) enc) d old (with_log new old)
    open_moment e u g left fair =
        let m = tail_moments k r.bytes enc d (s.segment k) is_found e u in
        let t = tail_reads f law r.bytes (whole_k there) enc b piece_r w.some (d.held (Segment k)) (e.held (Segment k)) (g (Segment k)) rest_found m.stage (left.each (Segment k)) (fair.segment k) in
        image f law k d s old is_old b new stamp takes e g m.elsewhere left (grows_of f law r.bytes enc b r (g (Segment k)) (whole_k there) piece_r w.some (part_there f r there) t)

    pub open_ok : (e : NodeDisk) → Done (batch_calls k (length r.bytes) enc) d e → Grew f k d e b (with_log new old)
    open_ok e u =
        let m = tail_ended k r.bytes enc d (s.segment k) is_found e u in
        ends r.bytes e (whole_k there) piece_r (part_there f r there) m.elsewhere m.held m.read

  module _ (no : r.there ≡ false) where
    short : length r.bytes ≤ length word
    short = omega (arith, ap length ((s.segment k).empty no))

    nothing : all_batches f (part r) ≡ batches_in f word
    nothing = part_not f r no ∙ sym (short_none f law word (omega (arith, w.word_size)))

    first_part : (m : NodeDisk) → Done (replace_calls (Segment k) word false) d m → Ended (Segment k) word d m
    first_part m v = whole_call (Segment k) word d short (s.segment k) m (subst (λ (t : Bool). Done (replace_calls (Segment k) word t) d m) (sym no) v)

    pub new_moment : AnyMoment f (suc k) (replace_calls (Segment k) word false ++ batch_calls k (length word) enc) d old (with_log new old)
    new_moment e u g left fair = elim (until_append (replace_calls (Segment k) word false) (batch_calls k (length word) enc) d e u) [
      | inl v ↦
          let m = moments (Segment k) word d short (s.segment k) false e v in
          image f law k d s old is_old b new stamp takes e g m.elsewhere left (before (none_yet f law _ _ r _ (s.segment k) no word w.word_size m.stage (left.each (Segment k)) ∙ sym (part_not f r no)))
      | inr (p, (v, z)) ↦
          let q = first_part p v in
          let m = tail_moments k word enc p q.rest q.read e z in
          let rest : Rest (p.held (Segment k)) (found word) = subst (λ (x : Found). Rest (p.held (Segment k)) x) q.read q.rest in
          let t = tail_reads f law word w.word_whole enc b w.batch w.some (p.held (Segment k)) (e.held (Segment k)) (g (Segment k)) rest m.stage (left.each (Segment k)) (fair.segment k) in
          image f law k d s old is_old b new stamp takes e g (else_trans (Segment k) d p e q.elsewhere m.elsewhere) left (grows_of f law word enc b r (g (Segment k)) w.word_whole w.batch w.some nothing t)
    ]

    pub new_ok : (e : NodeDisk) → Done (replace_calls (Segment k) word false ++ batch_calls k (length word) enc) d e → Grew f k d e b (with_log new old)
    new_ok e u =
        let z = done_append (replace_calls (Segment k) word false) (batch_calls k (length word) enc) d e u in
        let q = first_part z.0 z.1.0 in
        let m = tail_ended k word enc z.0 q.rest q.read e z.1.1 in
        ends word e w.word_whole w.batch nothing (else_trans (Segment k) d z.0 e q.elsewhere m.elsewhere) m.held m.read

  pub both : SameVersion f r word → (t : Bool) → r.there ≡ t → AnyMoment f (suc k) (append_calls k t (length r.bytes) word enc) d old (with_log new old) × ((e : NodeDisk) → Done (append_calls k t (length r.bytes) word enc) d e → Grew f k d e b (with_log new old))
  both sv true e = (open_moment e (sv e), open_ok e (sv e))
  both sv false e = (new_moment e, new_ok e)

-- at rest except for its last segment, and that one whole too
pub settled_of : (f : Format) (k : ℕ) (d : NodeDisk) → Still f k d → ((d.read (Segment k)).there ≡ true → is_whole f (d.read (Segment k)).bytes ≡ true) → Steady (snap_in f d.read) (file_log f (suc k) d.read) → Settled f (suc k) d
settled_of f k d s whole steady = record {
  first = s.first;
  second = s.second;
  segment = s.segment;
  above = λ j h. s.above j (omega arith);
  whole = λ j. elim (cases_eq j k) [
    | inl q ↦ subst (λ (i : ℕ). (d.read (Segment i)).there ≡ true → is_whole f (d.read (Segment i)).bytes ≡ true) (sym q) whole
    | inr ne ↦ elim (cases_lt j k) [
      | inl h ↦ s.below j h
      | inr h ↦ λ t. let lt : k < j = omega arith in let z : false ≡ true = sym (s.above j lt) ∙ t in absurd cc
    ]
  ];
  snap_read = s.snap_read;
  snap = s.snap;
  snap_rest = s.snap_rest;
  steady = steady;
}

pub comes_of : (f : Format) (k : ℕ) (d e : NodeDisk) (b : Log) (new : Kept) → Steady (snap_in f d.read) (put_batch (file_log f (suc k) d.read) b) → Grew f k d e b new → Comes f (suc k) e new
comes_of f k d e b new steady g =
    let log : file_log f (suc k) e.read ≡ put_batch (file_log f (suc k) d.read) b = ap (log_of empty_log) g.batches ∙ log_push empty_log _ b in
    let settled = settled_of f k e g.still g.whole (subst (λ (x : Snap). Steady x (file_log f (suc k) e.read)) (sym g.snaps) (subst (Steady (snap_in f d.read)) (sym log) steady)) in
    record { settled = settled; read = g.loaded; crash = λ x left. settled_images f (suc k) e settled x left ∙ g.loaded }

pub still_of : (f : Format) (k : ℕ) (d : NodeDisk) → Settled f (suc k) d → Still f k d
still_of f k d s = record { first = s.first; second = s.second; segment = s.segment; above = λ j h. s.above j (omega arith); below = λ j h. s.whole j; snap_read = s.snap_read; snap = s.snap; snap_rest = s.snap_rest }

pub append_holds : Append
append_holds f law k d s old is_old b can word enc w sv =
    let st = still_of f k d s in
    let p = loaded_parts f law k d st old is_old in
    let e : old.log ≡ behind _ _ = ap (λ (x : Kept). x.log) p.is in
    let i : old.snap ≡ _ = ap (λ (x : Kept). x.snap) p.is in
    let t = appended _ _ b s.steady p.no_gap (subst (λ (x : Snap). x.index < b.first) i can.past) (subst (λ (l : Log). b.first ≤ l.first + length l.entries) e can.upto) in
    let stamp = has_stamp f law d.read (λ z. can.has_term (ap (λ (x : Kept). x.term) p.is ∙ z)) in
    let z = both f law k d st (s.whole k) old is_old b (wanted old.log b) stamp (subst (λ (l : Log). Takes (snap_in f d.read) (file_log f (suc k) d.read) b (wanted l b)) (sym e) t.takes) word enc w sv (d.read (Segment k)).there refl in
    (z.0, λ x u. comes_of f k d x b (with_batch b old) t.steady (z.1 x u))

pub empty_stale_holds : EmptyStale
empty_stale_holds f law k d s absent old is_old pos low dropped word enc w =
    let p = loaded_parts f law k d s old is_old in
    let e : old.log ≡ behind _ _ = ap (λ (x : Kept). x.log) p.is in
    let t = emptied _ _ low dropped in
    let z = both f law k d s (λ y. let q : false ≡ true = sym absent ∙ y in absurd cc) old is_old (record { first = (file_log f (suc k) d.read).first; entries = [] }) old.log (loaded_stamp f k d s old is_old pos) (subst (λ (l : Log). Takes (snap_in f d.read) (file_log f (suc k) d.read) (record { first = (file_log f (suc k) d.read).first; entries = [] }) l) (sym e) t.takes) word enc w (λ y. let q : false ≡ true = sym absent ∙ y in absurd cc) false absent in
    (z.0, λ x u. comes_of f k d x (record { first = (file_log f (suc k) d.read).first; entries = [] }) old t.steady (z.1 x u))
