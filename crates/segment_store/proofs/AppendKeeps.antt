-- A batch is kept by an open store.
use Rattle.std.proofs.Common.{◌≡◌, ℕ, suc, ◌+◌, ◌≤◌, Bool, true, false, cond, List, [], ◌∷◌, ◌++◌, length, Option, Some, refl, sym, ap, ◌∙◌, subst, arith, length-append}
use Rattle.std.specs.Prelude.{nat_lt}
use Rattle.disk_model.specs.Disk.{Disk, Found}
use Rattle.disk_model.specs.Calls.{Call, Done, Until}
use Rattle.disk_model.specs.Trait.{Text}
use Rattle.disk_model.specs.Spelled.{all_spelled}
use Rattle.disk_model.proofs.Spelling.{done_under, until_under}
use Rattle.store_laws.specs.Names.{First, Second, Segment, Snapshot, NodeDisk, NodeCall}
use Rattle.store_laws.specs.Store.{Log, Kept, Loaded, kept, meta_of}
use Rattle.store_laws.specs.Meta.{next_stamp}
use Rattle.store_laws.specs.Append.{append_calls, with_batch, CanAppend, Writes}
use Rattle.store_laws.specs.Settled.{Settled}
use Rattle.store_laws.specs.Laws.{AnyMoment, AtOk}
use Rattle.store_laws.specs.Written.{Replaced}
use Rattle.store_laws.proofs.AppendLaw.{append_holds}
use Rattle.store_laws.proofs.Rooms.{more_room_holds}
use Rattle.store_laws.proofs.Seen.{seen_holds}
use Rattle.store_laws.proofs.Written.{batch_written}
use Rattle.store_laws.proofs.Answers.{meta_same}
use Rattle.store_format.specs.Words.{format_in}
use Rattle.store_format.specs.Batches.{batch_bytes}
use Rattle.store_format.specs.BatchesWritten.{segment_word, Fits}
use Rattle.store_format.specs.NodeFormat.{node_format}
use Rattle.store_format.proofs.BatchesLawful.{is_lawful}
use Rattle.store_format.proofs.BatchesWritten.{batches_read_back}
use Rattle.segment_store.specs.FileNames.{file_name}
use Rattle.segment_store.specs.Open.{Open, HasSize, IsOpen, segment_numbers, HasSnapshots}
use Rattle.segment_store.specs.Grow.{grow_calls, begin_calls}
use Rattle.segment_store.specs.Keeps.{folder, OldOrNew, HasNew}
use Rattle.segment_store.proofs.Joints.{settled_none, kept_top, one_up, until_none, under_append}
use Rattle.segment_store.proofs.NoTwoAlike.{no_two_alike}
use Rattle.segment_store.proofs.Listing.{numbers_more, numbers_written, snapshots_same}

pub word_format : format_in segment_word ≡ 3
unfolding format_in
word_format = refl

-- what follows bytes in format 3 leaves their format
pub format_stays : (x y : List ℕ) → format_in x ≡ 3 → format_in (x ++ y) ≡ 3
format_stays x y e =
    let long : 8 ≤ length x = is_lawful.opens_long x (ap (nat_lt 0) e) in
    is_lawful.version_front x y long ∙ e

module _ (k : Kept) (b : Log) (fits : Fits b) (can : CanAppend k b) where
  abbrev enc : List ℕ
  enc = batch_bytes b

  abbrev new : Kept
  new = with_batch b k

  w : Writes node_format b segment_word enc
  w = batches_read_back b fits

  -- a batch in segment n, over a settled disk with none above it
  module _ (n : ℕ) (D : NodeDisk) (s : Settled node_format (suc n) D) (is_k : kept node_format (suc n) D.read ≡ Loaded k) (same : (D.read (Segment n)).there ≡ true → format_in (D.read (Segment n)).bytes ≡ 3) where
    abbrev calls : List NodeCall
    calls = append_calls n (D.read (Segment n)).there (length (D.read (Segment n)).bytes) segment_word enc

    law : AnyMoment node_format (suc n) calls D k new × AtOk node_format (suc n) calls D new
    law = append_holds node_format is_lawful n D s k is_k b can segment_word enc w (λ t. same t ∙ sym word_format)

    abbrev bytes : List ℕ
    bytes = cond (D.read (Segment n)).there (D.read (Segment n)).bytes segment_word

    files : (e : NodeDisk) → Done calls D e → Replaced (Segment n) (bytes ++ enc) D e
    files e u = batch_written node_format (suc n) D s n segment_word enc e u

    pub moments : suc n ≤ 10000000000000000 → (e : NodeDisk) → Until calls D e → OldOrNew k new e
    moments small e u = record { crash = λ g left fair. one_up k new (suc n) g (kept_top (suc n) e (until_none (suc n) calls D e (under_append n (D.read (Segment n)).there _ segment_word enc) (settled_none (suc n) D s) u) small g left) (law.0 e u g left fair); seen = (seen_holds node_format (suc n) D s).batch n segment_word enc e u }

    -- the store then, with its other facts as they were
    pub opened : suc n ≤ 10000000000000000 → (e : NodeDisk) → Done calls D e → (version count : ℕ) (first second : Option ℕ) (snapshots : List ℕ)
        → next_stamp (meta_of node_format D.read) ≡ suc (suc version) → HasSize first (D.read First) → HasSize second (D.read Second) → length (bytes ++ enc) ≡ count → format_in bytes ≡ 3 → HasSnapshots snapshots D.read
        → HasNew (record { version = version; first = first; second = second; next = suc n; size = Some count; segments = segment_numbers n D.read ++ n ∷ []; snapshots = snapshots }) new e
    opened small e u version count first second snapshots stamp f1 f2 long format listed =
        let c = law.1 e u in
        let r = files e u in
        let one : e.read First ≡ D.read First = r.others First (λ q. absurd cc) in
        let two : e.read Second ≡ D.read Second = r.others Second (λ q. absurd cc) in
        record {
          is_open = record {
            settled = c.settled;
            reads = c.read;
            stamp = ap next_stamp (meta_same node_format e.read D.read one two) ∙ stamp;
            first = subst (HasSize first) (sym one) f1;
            second = subst (HasSize second) (sym two) f2;
            grows = record {
              last = n;
              before = refl;
              size = (ap (λ (x : Found). x.there) r.here, ap (λ (x : Found). length x.bytes) r.here ∙ long);
              format = ap (λ (x : Found). format_in x.bytes) r.here ∙ format_stays bytes enc format;
            };
            segments = numbers_written n (bytes ++ enc) D e r;
            snapshots = snapshots_same snapshots D.read e.read (λ j. r.others (Snapshot j) (λ q. absurd cc)) listed;
          };
          crash = λ g left. kept_top (suc n) e (settled_none (suc n) e c.settled) small g left ∙ c.crash g left;
        }

module _ (k : Kept) (b : Log) (fits : Fits b) (can : CanAppend k b) (s : Open) (d : Disk Text) (o : IsOpen s k (folder d)) where
  abbrev D : NodeDisk
  D = folder d

  count : ℕ
  count = length (batch_bytes b)

  -- in the segment that is there
  module _ (l n : ℕ) (before : s.next ≡ suc n) (size : HasSize (Some l) (D.read (Segment n))) (format : format_in (D.read (Segment n)).bytes ≡ 3) where
    settled : Settled node_format (suc n) D
    settled = subst (λ (t : ℕ). Settled node_format t D) before o.settled

    reads : kept node_format (suc n) D.read ≡ Loaded k
    reads = subst (λ (t : ℕ). kept node_format t D.read ≡ Loaded k) before o.reads

    there_calls : (c : Bool) (at : ℕ) → c ≡ true → at ≡ l → grow_calls (file_name (Segment n)) l (batch_bytes b) ≡ all_spelled file_name (append_calls n c at segment_word (batch_bytes b))
    there_calls c at t e = (λ i. all_spelled file_name (append_calls n (sym t i) (sym e i) segment_word (batch_bytes b)))

    spelled : grow_calls (file_name (Segment n)) l (batch_bytes b) ≡ all_spelled file_name (calls k b fits can n D settled reads (λ t. format))
    spelled = there_calls (D.read (Segment n)).there (length (D.read (Segment n)).bytes) size.0 size.1

    bytes_are : cond (D.read (Segment n)).there (D.read (Segment n)).bytes segment_word ≡ (D.read (Segment n)).bytes
    bytes_are = ap (λ (c : Bool). cond c (D.read (Segment n)).bytes segment_word) size.0

    listed : s.segments ≡ segment_numbers n D.read ++ n ∷ []
    listed = o.segments ∙ ap (λ (t : ℕ). segment_numbers t D.read) before ∙ numbers_more n D.read size.0

    pub grow_done : suc n ≤ 10000000000000000 → (e : Disk Text) → Done (grow_calls (file_name (Segment n)) l (batch_bytes b)) d e → HasNew (record { version = s.version; first = s.first; second = s.second; next = suc n; size = Some (l + length (batch_bytes b)); segments = s.segments; snapshots = s.snapshots }) (with_batch b k) (folder e)
    grow_done small e u =
        let v = done_under file_name no_two_alike (calls k b fits can n D settled reads (λ t. format)) d e (subst (λ (c : List (Call Text)). Done c d e) spelled u) in
        let long : length (cond (D.read (Segment n)).there (D.read (Segment n)).bytes segment_word ++ batch_bytes b) ≡ l + length (batch_bytes b) = ap (λ (x : List ℕ). length (x ++ batch_bytes b)) bytes_are ∙ length-append (D.read (Segment n)).bytes (batch_bytes b) ∙ ap (λ (x : ℕ). x + length (batch_bytes b)) size.1 in
        subst (λ (ms : List ℕ). HasNew (record { version = s.version; first = s.first; second = s.second; next = suc n; size = Some (l + length (batch_bytes b)); segments = ms; snapshots = s.snapshots }) (with_batch b k) (folder e)) (sym listed)
        (opened k b fits can n D settled reads (λ t. format) small (folder e) v s.version (l + length (batch_bytes b)) s.first s.second s.snapshots o.stamp o.first o.second long (ap format_in bytes_are ∙ format) o.snapshots)

    pub grow_until : suc n ≤ 10000000000000000 → (e : Disk Text) → Until (grow_calls (file_name (Segment n)) l (batch_bytes b)) d e → OldOrNew k (with_batch b k) (folder e)
    grow_until small e u = moments k b fits can n D settled reads (λ t. format) small (folder e) (until_under file_name no_two_alike (calls k b fits can n D settled reads (λ t. format)) d e (subst (λ (c : List (Call Text)). Until c d e) spelled u))

  -- in a new one
  none_there : (D.read (Segment s.next)).there ≡ false
  none_there = o.settled.above s.next (omega arith)

  no_format : (D.read (Segment s.next)).there ≡ true → format_in (D.read (Segment s.next)).bytes ≡ 3
  no_format t = let z : false ≡ true = sym none_there ∙ t in absurd cc

  room : Settled node_format (suc s.next) D × (kept node_format (suc s.next) D.read ≡ kept node_format s.next D.read)
  room = more_room_holds node_format s.next D o.settled

  new_calls : (c : Bool) (at : ℕ) → c ≡ false → begin_calls (file_name (Segment s.next)) segment_word (batch_bytes b) ≡ all_spelled file_name (append_calls s.next c at segment_word (batch_bytes b))
  new_calls c at t = (λ i. all_spelled file_name (append_calls s.next (sym t i) at segment_word (batch_bytes b)))

  begun : begin_calls (file_name (Segment s.next)) segment_word (batch_bytes b) ≡ all_spelled file_name (calls k b fits can s.next D room.0 (room.1 ∙ o.reads) no_format)
  begun = new_calls (D.read (Segment s.next)).there (length (D.read (Segment s.next)).bytes) none_there

  word_is : cond (D.read (Segment s.next)).there (D.read (Segment s.next)).bytes segment_word ≡ segment_word
  word_is = ap (λ (c : Bool). cond c (D.read (Segment s.next)).bytes segment_word) none_there

  pub begin_done : suc s.next ≤ 10000000000000000 → (e : Disk Text) → Done (begin_calls (file_name (Segment s.next)) segment_word (batch_bytes b)) d e → HasNew (record { version = s.version; first = s.first; second = s.second; next = suc s.next; size = Some (8 + length (batch_bytes b)); segments = s.segments ++ s.next ∷ []; snapshots = s.snapshots }) (with_batch b k) (folder e)
  begin_done small e u =
      let v = done_under file_name no_two_alike (calls k b fits can s.next D room.0 (room.1 ∙ o.reads) no_format) d e (subst (λ (c : List (Call Text)). Done c d e) begun u) in
      let long : length (cond (D.read (Segment s.next)).there (D.read (Segment s.next)).bytes segment_word ++ batch_bytes b) ≡ 8 + length (batch_bytes b) = ap (λ (x : List ℕ). length (x ++ batch_bytes b)) word_is ∙ length-append segment_word (batch_bytes b) in
      subst (λ (ms : List ℕ). HasNew (record { version = s.version; first = s.first; second = s.second; next = suc s.next; size = Some (8 + length (batch_bytes b)); segments = ms ++ s.next ∷ []; snapshots = s.snapshots }) (with_batch b k) (folder e)) (sym o.segments)
      (opened k b fits can s.next D room.0 (room.1 ∙ o.reads) no_format small (folder e) v s.version (8 + length (batch_bytes b)) s.first s.second s.snapshots o.stamp o.first o.second long (ap format_in word_is ∙ word_format) o.snapshots)

  pub begin_until : suc s.next ≤ 10000000000000000 → (e : Disk Text) → Until (begin_calls (file_name (Segment s.next)) segment_word (batch_bytes b)) d e → OldOrNew k (with_batch b k) (folder e)
  begin_until small e u = moments k b fits can s.next D room.0 (room.1 ∙ o.reads) no_format small (folder e) (until_under file_name no_two_alike (calls k b fits can s.next D room.0 (room.1 ∙ o.reads) no_format) d e (subst (λ (c : List (Call Text)). Until c d e) begun u))
