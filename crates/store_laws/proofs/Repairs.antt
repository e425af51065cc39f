-- A torn tail is truncated, a segment without its first word removed.
use Rattle.std.proofs.Common.{◌≡◌, ◌≢◌, inl, inr, ⊎_elim, ℕ, ◌≤◌, ◌<◌, true, false, List, [], ◌∷◌, ◌++◌, length, take, drop, refl, sym, ap, ◌∙◌, subst, arith, cond, length-append}
use Rattle.std.specs.Prelude.{nat_le, ◌||◌}
use Rattle.std.proofs.lemmas.List.{take_at, drop_at, take-append-drop, append-nil, length-take-le}
use Rattle.std.proofs.lemmas.Bool.{cases_Bool, cond-true, cases_eq, leb-true}
use Rattle.store_laws.specs.Names.{Segment, NodeDisk}
use Rattle.disk_model.specs.Disk.{Found, found, Change, Cut, Held, LeavesFile, Sure, Absent, loose}
use Rattle.store_laws.specs.Store.{Format, Reader, reader, Log, Read, all_batches, batches_in, is_whole}
use Rattle.disk_model.specs.Calls.{CutTo, Sync, Done, Until, Does, after_cut, after_sync}
use Rattle.disk_model.specs.Rest.{Rest}
use Rattle.store_laws.specs.Chance.{Lawful, BatchesGenuine}
use Rattle.disk_model.specs.Genuine.{Genuine}
use Rattle.store_laws.specs.Load.{Still, Repairs, CutTail}
use Rattle.disk_model.proofs.Bytes.{front_stands}
use Rattle.disk_model.proofs.Rests.{synced_or_not}
use Rattle.disk_model.proofs.Elsewhere.{Elsewhere, else_same, else_on}
use Rattle.store_laws.proofs.Fronts.{stop_batches}
use Rattle.store_laws.proofs.Grown.{grown, same_version}
use Rattle.store_laws.proofs.Folders.{part, all_one}
use Rattle.store_laws.proofs.AppendLaw.{part_there}
use Rattle.store_laws.proofs.Stills.{image_same, read_same, log_same, snaps_same, still_on}

abbrev rested : List ℕ → List Change → Held
rested bytes since = record { standing = Sure; bytes = bytes; since = since }

data CutStage (H tail : List ℕ) (k : Held) : Type 0 where
  whole : k ≡ rested (H ++ tail) [] → CutStage H tail k
  cut : k ≡ rested (H ++ tail) (Cut (length H) ∷ []) → CutStage H tail k
  synced : k ≡ rested H [] → CutStage H tail k

firm : (p i : ℕ) → i < p → loose (Cut p ∷ []) i ≡ false
firm p i h = elim (cases_Bool (nat_le p i)) [
  | inl t ↦ let l : p ≤ i = leb-true _ _ t in absurd (omega arith)
  | inr n ↦ λ j. n j || false
]

module _ (f : Format) (law : Lawful f) (k : ℕ) (d : NodeDisk) (s : Still f k d) (H tail : List ℕ) (is : d.read (Segment k) ≡ found (H ++ tail)) (is_w : is_whole f H ≡ true) (none : (reader f H tail).size ≡ 0) where
  held : d.held (Segment k) ≡ rested (H ++ tail) []
  held =
      let r = s.segment k in
      λ i. record { standing = (r.standing ∙ ap (λ (x : Found). cond x.there Sure Absent) is) i; bytes = (r.bytes ∙ ap (λ (x : Found). x.bytes) is) i; since = r.since i }

  there : (d.read (Segment k)).there ≡ true
  there = ap (λ (x : Found). x.there) is

  begun : (h : Held) → h ≡ cond (d.read (Segment k)).there (after_cut (length H) (d.held (Segment k))) (d.held (Segment k)) → h ≡ rested (H ++ tail) (Cut (length H) ∷ [])
  begun h e = e ∙ cond-true _ _ _ there ∙ ap (after_cut (length H)) held

  record CutMoment (e : NodeDisk) : Type 0 where
    elsewhere : Elsewhere (Segment k) d e
    stage : CutStage H tail (e.held (Segment k))

  record CutEnd (e : NodeDisk) : Type 0 where
    elsewhere : Elsewhere (Segment k) d e
    held : e.held (Segment k) ≡ rested H []
    read : e.read (Segment k) ≡ found H

  both : (m e : NodeDisk) → Does (CutTo (Segment k) (length H)) d m → Does (Sync (Segment k)) m e → CutEnd e
  both m e c y =
      let read : m.read (Segment k) ≡ found H = c.read ∙ (λ i. record { there = there i; bytes = take (length H) (is i).bytes }) ∙ ap found (take_at H tail (length H) refl) in
      record {
        elsewhere = else_on (Segment k) d m e (else_on (Segment k) d d m (else_same (Segment k) d) c.others) y.others;
        held = y.held ∙ (λ i. after_sync (read i) (begun (m.held (Segment k)) c.held i));
        read = y.read ∙ read;
      }

  to : (m e : NodeDisk) → e ≡ m → CutMoment m → CutMoment e
  to m e q at = subst CutMoment (sym q) at

  cutting : (m : NodeDisk) → Does (CutTo (Segment k) (length H)) d m → CutMoment m
  cutting m c = record { elsewhere = else_on (Segment k) d d m (else_same (Segment k) d) c.others; stage = cut (begun _ c.held) }

  moments : (e : NodeDisk) → Until (CutTo (Segment k) (length H) ∷ Sync (Segment k) ∷ []) d e → CutMoment e
  moments e u = elim u [
    | inl q ↦ to d e q (record { elsewhere = else_same (Segment k) d; stage = whole held })
    | inr (inl broke) ↦ record { elsewhere = else_on (Segment k) d d e (else_same (Segment k) d) broke.others; stage = cut (begun _ broke.held) }
    | inr (inr (m, (c, inl q))) ↦ to m e q (cutting m c)
    | inr (inr (m, (c, inr (inl q)))) ↦ to m e q (cutting m c)
    | inr (inr (m, (c, inr (inr (p, (y, q)))))) ↦ let z = both m p c y in to p e q (record { elsewhere = z.elsewhere; stage = synced z.held })
  ]

  -- what follows the whole batches doesn't read, whatever a crash left there
  as_before : (r : List ℕ) → (reader f H r).size ≡ 0 → batches_in f (H ++ r) ≡ batches_in f H
  as_before r z = grown f law H is_w r ∙ ap (λ (l : List Log). batches_in f H ++ l) (stop_batches (reader f H) (length r) r z) ∙ append-nil (batches_in f H)

  no_batch : (r : List ℕ) → ((reader f H r).size ≢ 0 → Genuine (rested (H ++ tail) (Cut (length H) ∷ [])) (length H) (take (reader f H r).size r)) → (reader f H r).size ≡ 0
  no_batch r fair = elim (cases_eq (reader f H r).size 0) [
    | inl z ↦ z
    | inr ne ↦
        let n = (reader f H r).size in
        let len : length (take n r) ≡ n = length-take-le n r ((law.batches (f.version H)).size_within r) in
        let stood = λ (q : take (length (take n r)) (drop (length H) (H ++ tail)) ≡ take n r).
        let t : take n tail ≡ take n r = ap (λ (l : List ℕ). take n l) (sym (drop_at H tail (length H) refl)) ∙ ap (λ (j : ℕ). take j (drop (length H) (H ++ tail))) (sym len) ∙ q in
        let e : tail ≡ take n r ++ drop n tail = sym (take-append-drop n tail) ∙ ap (λ (l : List ℕ). l ++ drop n tail) t in
        let b : reader f H tail ≡ reader f H r = ap (reader f H) e ∙ (law.batches (f.version H)).front_reads r (drop n tail) ne in
        ap (λ (x : Read). x.size) (sym b) ∙ none in
        ⊎_elim stood (λ w. absurd w) (fair ne).why
  ]

  reads : (e : NodeDisk) → CutMoment e → (x : Found) → LeavesFile (e.held (Segment k)) x → BatchesGenuine f (e.held (Segment k)) x.bytes → all_batches f (part x) ≡ batches_in f H
  reads e m x left fair = elim m.stage [
    | whole q ↦ done (H ++ tail) q (as_before tail none)
    | synced q ↦ done H q refl
    | cut q ↦
        let l : LeavesFile (rested (H ++ tail) (Cut (length H) ∷ [])) x = subst (λ (h : Held). LeavesFile h x) q left in
        let g : BatchesGenuine f (rested (H ++ tail) (Cut (length H) ∷ [])) x.bytes = subst (λ (h : Held). BatchesGenuine f h x.bytes) q fair in
        let t = l.sure refl in
        let fits : length H ≤ length (H ++ tail) = omega (arith, length-append H tail) in
        let st = front_stands (length H) (H ++ tail) x.bytes (Cut (length H) ∷ []) fits (firm (length H)) (l.left t) in
        let r = drop (length H) x.bytes in
        let c : x.bytes ≡ H ++ r = sym (take-append-drop (length H) x.bytes) ∙ ap (λ (y : List ℕ). y ++ r) (st.0 ∙ take_at H tail (length H) refl) in
        part_there f x t ∙ ap (batches_in f) c ∙ as_before r (no_batch r (subst (λ (rd : Reader). (rd r).size ≢ 0 → Genuine (rested (H ++ tail) (Cut (length H) ∷ [])) (length H) (take (rd r).size r)) (ap (reader f) c ∙ ap f.batch (same_version f law H is_w r)) (g.each H r c is_w)))
  ]
    where
      done : (bytes : List ℕ) → e.held (Segment k) ≡ rested bytes [] → batches_in f bytes ≡ batches_in f H → all_batches f (part x) ≡ batches_in f H
      done bytes q b =
          let l : LeavesFile (rested bytes []) x = subst (λ (h : Held). LeavesFile h x) q left in
          let t = l.sure refl in
          elim (synced_or_not (rested bytes []) x refl l) [
            | inl z ↦ let y : false ≡ true = sym (ap (λ (v : Found). v.there) z) ∙ t in absurd cc
            | inr z ↦ part_there f x t ∙ ap (λ (v : Found). batches_in f v.bytes) z ∙ b
          ]

  before_cut : all_batches f (part (d.read (Segment k))) ≡ batches_in f H
  before_cut = ap (λ (x : Found). all_batches f (part x)) is ∙ all_one f (H ++ tail) ∙ as_before tail none

  ended : (e : NodeDisk) → Done (CutTo (Segment k) (length H) ∷ Sync (Segment k) ∷ []) d e → CutEnd e
  ended e (m, (c, (p, (y, q)))) = subst CutEnd (sym q) (both m p c y)

  pub cut_repairs : Repairs f k d (CutTo (Segment k) (length H) ∷ Sync (Segment k) ∷ [])
  cut_repairs = record {
    any_moment = λ e u g left fair. let m = moments e u in image_same f k d s e g m.elsewhere left (reads e m (g (Segment k)) (left.each (Segment k)) (fair.segment k) ∙ sym before_cut);
    still = λ e u. let z = ended e u in still_on f k d s e z.elsewhere (subst (λ (x : Found). Rest (e.held (Segment k)) x) (sym z.read) (subst (λ (h : Held). Rest h (found H)) (sym z.held) (record { since = refl; bytes = refl; standing = refl; empty = λ y. absurd cc })));
    whole = λ e u t. ap (λ (x : Found). is_whole f x.bytes) (ended e u).read ∙ is_w;
    same = λ e u. let z = ended e u in read_same f k d s e z.elsewhere (ap (λ (x : Found). all_batches f (part x)) z.read ∙ all_one f H ∙ sym before_cut);
    log = λ e u. let z = ended e u in log_same f k d s e z.elsewhere (ap (λ (x : Found). all_batches f (part x)) z.read ∙ all_one f H ∙ sym before_cut);
    snap = λ e u. snaps_same f k d s e (ended e u).elsewhere;
  }

pub cut_tail_holds : CutTail
cut_tail_holds f law k d s H tail is is_w none = cut_repairs f law k d s H tail is is_w none
