-- A term and a vote are kept or not, at each moment.
use Rattle.std.proofs.Common.{◌≡◌, ◌≢◌, ◌⊎◌, inl, inr, ⊎_elim, ℕ, suc, ◌%◌, ◌≤◌, Bool, true, false, List, length, refl, sym, ap, ◌∙◌, subst, arith, cond}
use Rattle.std.specs.Prelude.{◌==◌}
use Rattle.std.proofs.lemmas.Bool.{cases_Bool, eqb-true, eqb-false}
use Rattle.store_laws.specs.Names.{Name, First, Second, Segment, Snapshot, NodeFiles, NodeDisk}
use Rattle.disk_model.specs.Disk.{Found, Held, LeavesFile, Leaves}
use Rattle.store_laws.specs.Store.{snap_in, newest_snap, Format, Meta, Kept, Loaded, answer, kept, segments, meta_of, newest, sound, all_batches, is_whole, Snap, log_of, empty_log}
use Rattle.store_laws.specs.Chance.{Lawful, NoChance, MetaGenuine}
use Rattle.store_laws.specs.Settled.{Settled, Steady, file_log}
use Rattle.disk_model.specs.Rest.{Rest}
use Rattle.disk_model.specs.Writing.{replace_calls}
use Rattle.store_laws.specs.Meta.{next_stamp, goes_first, file_of, with_vote}
use Rattle.store_laws.specs.Laws.{OneOf, AnyMoment, AtOk, Comes, SetMeta}
use Rattle.disk_model.proofs.Rests.{rest_only, rest_left}
use Rattle.store_laws.proofs.Metas.{Three, at_rest, at_written, at_synced}
use Rattle.disk_model.proofs.Elsewhere.{Elsewhere}
use Rattle.disk_model.proofs.Rewrites.{Stage, same, written, synced, moments, Ended, whole_call}
use Rattle.store_laws.proofs.Answers.{segments_same, kept_same, settled_images, answer_meta}
use Rattle.store_laws.proofs.Newest.{Order, newest_left, newest_right, first_order, second_order, as_first, as_second}

stage_reads : (f : Format) (law : Lawful f) (side : Bool) (h : Held) (r : Found) → Rest h r → length r.bytes ≤ 40 → (enc : List ℕ) → length enc ≡ 40 → (k : Held) (x : Found) → Stage h enc k → LeavesFile k x → MetaGenuine f side k x.bytes → Three (f.meta side x.bytes) (f.meta side r.bytes) (f.meta side enc)
stage_reads f law side h r rest short enc long k x (same e) left fair = at_rest f law side h r rest short enc long x (subst (λ (j : Held). LeavesFile j x) e left)
stage_reads f law side h r rest short enc long k x (written e) left fair = at_written f law side h r rest short enc long x (subst (λ (j : Held). MetaGenuine f side j x.bytes) e fair)
stage_reads f law side h r rest short enc long k x (synced s b) left fair = at_synced f law side h r rest short enc long k x s b left

kept_new : (f : Format) (top : ℕ) (g r : NodeFiles) (k : Kept) (n : Meta) → meta_of f g ≡ n → n.stamp ≢ 0 → snap_in f g ≡ snap_in f r → segments top g ≡ segments top r → kept f top r ≡ Loaded k → kept f top g ≡ Loaded (with_vote n.term n.vote k)
unfolding kept
kept_new f top g r k n m ne s l e =
    (λ i. answer (m i) (s i) (sound f (l i)) (all_batches f (l i))) ∙ answer_meta (meta_of f r) n (snap_in f r) (sound f (segments top r)) (all_batches f (segments top r)) k ne e

next_positive : (m : Meta) → next_stamp m ≢ 0
next_positive m e = elim (cases_Bool (m.stamp == 0)) [
  | inl t ↦ let z = sym e ∙ ap (λ (b : Bool). cond b 2 (suc m.stamp)) t in absurd (omega arith)
  | inr t ↦ let z = sym e ∙ ap (λ (b : Bool). cond b 2 (suc m.stamp)) t in absurd (omega arith)
]

meta_is : (f : Format) (g : NodeFiles) → meta_of f g ≡ newest (f.meta true (g First).bytes) (f.meta false (g Second).bytes)
unfolding meta_of
meta_is f g = refl

module _ (f : Format) (law : Lawful f) (top : ℕ) (d : NodeDisk) (s : Settled f top d) (k : Kept) (is_k : kept f top d.read ≡ Loaded k) (term vote : ℕ) (enc : List ℕ) (long : length enc ≡ 40) where
  abbrev Reads : Bool → Type 0
  Reads side = f.meta side enc ≡ record { stamp = next_stamp (meta_of f d.read); term = term; vote = vote }

  -- what the whole folder represents, once it is known what its metadata is
  whole : (n : Name) (e : NodeDisk) (g : NodeFiles) → ((j : ℕ) → Segment j ≡ n → ⊥) → ((j : ℕ) → Snapshot j ≡ n → ⊥) → Elsewhere n d e → ((m : Name) → (m ≡ n → ⊥) → LeavesFile (e.held m) (g m))
      → (meta_of f g ≡ meta_of f d.read) ⊎ (meta_of f g ≡ record { stamp = next_stamp (meta_of f d.read); term = term; vote = vote }) → OneOf f top k (with_vote term vote k) g
  whole n e g no_seg no_snap so left two =
      let segs : segments top g ≡ segments top d.read = segments_same top g d.read (λ j h. rest_only _ _ _ (s.segment j) (so.left (Segment j) (no_seg j) (rest_left _ _ (s.segment j)) _ (left (Segment j) (no_seg j)))) in
      let snaps : snap_in f g ≡ snap_in f d.read = s.snap g (λ j. so.left (Snapshot j) (no_snap j) (s.snap_read j) _ (left (Snapshot j) (no_snap j))) in
      elim two [
        | inl m ↦ inl (kept_same f top g d.read m snaps segs ∙ is_k)
        | inr m ↦ inr (kept_new f top g d.read k _ m (next_positive (meta_of f d.read)) snaps segs is_k)
      ]

  first_ok : goes_first (next_stamp (meta_of f d.read)) ≡ true → Order (f.meta true (d.read First).bytes).stamp (f.meta false (d.read Second).bytes).stamp (next_stamp (meta_of f d.read))
  first_ok e =
      let m = meta_is f d.read in
      subst (λ (q : Meta). Order (f.meta true (d.read First).bytes).stamp (f.meta false (d.read Second).bytes).stamp (next_stamp q)) (sym m)
      (first_order _ _ (law.even _) (law.odd _) (subst (λ (q : Meta). next_stamp q % 2 ≡ 0) m (eqb-true _ _ e)))

  second_ok : goes_first (next_stamp (meta_of f d.read)) ≡ false → Order (f.meta false (d.read Second).bytes).stamp (f.meta true (d.read First).bytes).stamp (next_stamp (meta_of f d.read))
  second_ok e =
      let m = meta_is f d.read in
      subst (λ (q : Meta). Order (f.meta false (d.read Second).bytes).stamp (f.meta true (d.read First).bytes).stamp (next_stamp q)) (sym m)
      (second_order _ _ (law.even _) (law.odd _) (subst (λ (q : Meta). next_stamp q % 2 ≡ 0 → ⊥) m (eqb-false _ _ e)))

  reads_ord : (side : Bool) (a b : ℕ) → Reads side → Order a b (next_stamp (meta_of f d.read)) → Order a b (f.meta side enc).stamp
  reads_ord side a b r o = subst (Order a b) (ap (λ (m : Meta). m.stamp) (sym r)) o

  -- the write goes to the first file
  two_first : goes_first (next_stamp (meta_of f d.read)) ≡ true → Reads true → (g : NodeFiles) → g Second ≡ d.read Second → Three (f.meta true (g First).bytes) (f.meta true (d.read First).bytes) (f.meta true enc)
      → (meta_of f g ≡ meta_of f d.read) ⊎ (meta_of f g ≡ record { stamp = next_stamp (meta_of f d.read); term = term; vote = vote })
  two_first e r g o three =
      let is : meta_of f g ≡ newest (f.meta true (g First).bytes) (f.meta false (d.read Second).bytes) = meta_is f g ∙ ap (λ (x : Found). newest (f.meta true (g First).bytes) (f.meta false x.bytes)) o in
      ⊎_elim (λ p. inl (is ∙ p ∙ sym (meta_is f d.read))) (λ p. inr (is ∙ p ∙ r))
      (as_first _ _ _ _ (reads_ord true _ _ r (first_ok e)) (law.meta_none true _) (law.meta_none false _) three)

  two_second : goes_first (next_stamp (meta_of f d.read)) ≡ false → Reads false → (g : NodeFiles) → g First ≡ d.read First → Three (f.meta false (g Second).bytes) (f.meta false (d.read Second).bytes) (f.meta false enc)
      → (meta_of f g ≡ meta_of f d.read) ⊎ (meta_of f g ≡ record { stamp = next_stamp (meta_of f d.read); term = term; vote = vote })
  two_second e r g o three =
      let is : meta_of f g ≡ newest (f.meta true (d.read First).bytes) (f.meta false (g Second).bytes) = meta_is f g ∙ ap (λ (x : Found). newest (f.meta true x.bytes) (f.meta false (g Second).bytes)) o in
      ⊎_elim (λ p. inl (is ∙ p ∙ sym (meta_is f d.read))) (λ p. inr (is ∙ p ∙ r))
      (as_second _ _ _ _ (reads_ord false _ _ r (second_ok e)) three)

  pub rest_of : (side : Bool) → Rest (d.held (file_of side)) (d.read (file_of side))
  rest_of true = s.first
  rest_of false = s.second

  -- a crash image, once it is known what the file that is written reads as
  pub at_three : (side : Bool) → goes_first (next_stamp (meta_of f d.read)) ≡ side → Reads side → (e : NodeDisk) → Elsewhere (file_of side) d e → (g : NodeFiles) → Leaves e g
      → Three (f.meta side (g (file_of side)).bytes) (f.meta side (d.read (file_of side)).bytes) (f.meta side enc) → OneOf f top k (with_vote term vote k) g
  at_three true p r e so g left three =
      let other : g Second ≡ d.read Second = rest_only _ _ _ s.second (so.left Second (λ q. absurd cc) (rest_left _ _ s.second) _ (left.each Second)) in
      whole First e g (λ j q. absurd cc) (λ j q. absurd cc) so (λ j a. left.each j) (two_first p r g other three)
  at_three false p r e so g left three =
      let other : g First ≡ d.read First = rest_only _ _ _ s.first (so.left First (λ q. absurd cc) (rest_left _ _ s.first) _ (left.each First)) in
      whole Second e g (λ j q. absurd cc) (λ j q. absurd cc) so (λ j a. left.each j) (two_second p r g other three)

  pub any_moment : (side : Bool) → goes_first (next_stamp (meta_of f d.read)) ≡ side → Reads side → length (d.read (file_of side)).bytes ≤ 40
      → AnyMoment f top (replace_calls (file_of side) enc (d.read (file_of side)).there) d k (with_vote term vote k)
  any_moment side p r short e u g left fair =
      let fits : length (d.read (file_of side)).bytes ≤ length enc = omega arith in
      let m = moments (file_of side) enc d fits (rest_of side) _ e u in
      at_three side p r e m.elsewhere g left (stage_reads f law side _ _ (rest_of side) short enc long _ _ m.stage (left.each (file_of side)) (fair_of side e g fair))
    where
      fair_of : (side : Bool) (e : NodeDisk) (g : NodeFiles) → NoChance f e g → MetaGenuine f side (e.held (file_of side)) (g (file_of side)).bytes
      fair_of true e g fair = fair.first
      fair_of false e g fair = fair.second

  -- the disk at the end
  comes : (n : Name) (e : NodeDisk) → ((j : ℕ) → Segment j ≡ n → ⊥) → ((j : ℕ) → Snapshot j ≡ n → ⊥) → Elsewhere n d e → Rest (e.held First) (e.read First) → Rest (e.held Second) (e.read Second)
      → meta_of f e.read ≡ record { stamp = next_stamp (meta_of f d.read); term = term; vote = vote } → Comes f top e (with_vote term vote k)
  comes n e no_seg no_snap so r1 r2 m =
      let snaps : snap_in f e.read ≡ snap_in f d.read = (λ i. newest_snap f.snap f.numbers (λ j. so.read (Snapshot j) (no_snap j) i)) in
      let segs : segments top e.read ≡ segments top d.read = segments_same top e.read d.read (λ j h. so.read (Segment j) (no_seg j)) in
      let settled : Settled f top e = record {
        first = r1;
        second = r2;
        segment = λ j. so.rest (Segment j) (no_seg j) (s.segment j);
        above = λ j h. ap (λ (x : Found). x.there) (so.read (Segment j) (no_seg j)) ∙ s.above j h;
        whole = λ j. subst (λ (x : Found). x.there ≡ true → is_whole f x.bytes ≡ true) (sym (so.read (Segment j) (no_seg j))) (s.whole j);
        snap_read = λ j. so.seen (Snapshot j) (no_snap j) (s.snap_read j);
        snap_rest = λ j h. so.rest (Snapshot j) (no_snap j) (s.snap_rest j (subst (λ (x : Snap). x.index ≤ j) snaps h));
        snap = λ g left. s.snap g (λ j. so.left (Snapshot j) (no_snap j) (s.snap_read j) _ (left j)) ∙ sym snaps;
        steady = subst (λ (x : Snap). Steady x (file_log f top e.read)) (sym snaps) (subst (λ (l : List (List ℕ)). Steady (snap_in f d.read) (log_of empty_log (all_batches f l))) (sym segs) s.steady);
      } in
      let read : kept f top e.read ≡ Loaded (with_vote term vote k) = kept_new f top e.read d.read k _ m (next_positive (meta_of f d.read)) snaps segs is_k in
      record { settled = settled; read = read; crash = λ g left. settled_images f top e settled g left ∙ read }

  -- the newest metadata is then what was written
  pub newest_is : (side : Bool) → goes_first (next_stamp (meta_of f d.read)) ≡ side → Reads side → (e : NodeDisk) → Ended (file_of side) enc d e
      → meta_of f e.read ≡ record { stamp = next_stamp (meta_of f d.read); term = term; vote = vote }
  newest_is true p r e z =
      let o = z.elsewhere.read Second (λ q. absurd cc) in
      let ord = reads_ord true _ _ r (first_ok p) in
      meta_is f e.read ∙ (λ i. newest (f.meta true (z.read i).bytes) (f.meta false (o i).bytes)) ∙ newest_left _ _ (omega (arith, ord.newer)) ∙ r
  newest_is false p r e z =
      let o = z.elsewhere.read First (λ q. absurd cc) in
      let ord = reads_ord false _ _ r (second_ok p) in
      meta_is f e.read ∙ (λ i. newest (f.meta true (o i).bytes) (f.meta false (z.read i).bytes)) ∙ newest_right _ _ ord.newer ∙ r

  pub at_end : (side : Bool) → goes_first (next_stamp (meta_of f d.read)) ≡ side → Reads side → (e : NodeDisk) → Ended (file_of side) enc d e → Comes f top e (with_vote term vote k)
  at_end true p r e z =
      let so = z.elsewhere in
      comes First e (λ j q. absurd cc) (λ j q. absurd cc) so z.rest (so.rest Second (λ q. absurd cc) s.second) (newest_is true p r e z)
  at_end false p r e z =
      let so = z.elsewhere in
      comes Second e (λ j q. absurd cc) (λ j q. absurd cc) so (so.rest First (λ q. absurd cc) s.first) z.rest (newest_is false p r e z)

  pub at_ok : (side : Bool) → goes_first (next_stamp (meta_of f d.read)) ≡ side → Reads side → length (d.read (file_of side)).bytes ≤ 40
      → AtOk f top (replace_calls (file_of side) enc (d.read (file_of side)).there) d (with_vote term vote k)
  at_ok side p r short e u =
      let fits : length (d.read (file_of side)).bytes ≤ length enc = omega arith in
      at_end side p r e (whole_call (file_of side) enc d fits (rest_of side) e u)

pub set_meta_holds : SetMeta
set_meta_holds f law top d s k is_k term vote enc next short =
    let p = goes_first (next_stamp (meta_of f d.read)) in (
      any_moment f law top d s k is_k term vote enc next.long p refl next.reads short,
      at_ok f law top d s k is_k term vote enc next.long p refl next.reads short,
    )
