-- The moments of a batch's write at the end of a segment.
use Rattle.std.proofs.Common.{◌≡◌, ◌≢◌, inl, inr, ⊎_elim, ℕ, zero, suc, ◌+◌, ◌-◌, ◌≤◌, ◌<◌, true, false, List, [], ◌∷◌, ◌++◌, length, take, drop, refl, sym, ap, ◌∙◌, subst, arith, cond, length-drop}
use Rattle.std.specs.Prelude.{nat_le, nat_lt, ◌&&◌, ◌||◌}
use Rattle.std.proofs.lemmas.List.{take_all, drop_all, take-append-drop, append-nil, length-take-le}
use Rattle.std.proofs.lemmas.Bool.{cases_Bool, leb-true}
use Rattle.store_laws.specs.Names.{Name, Segment, NodeDisk}
use Rattle.disk_model.specs.Disk.{Found, found, Wrote, Held, LeavesBytes, LeavesFile, Sure, Absent, loose}
use Rattle.disk_model.specs.Calls.{WriteAt, Sync, Done, Until, Does, after_write, after_sync, made, put}
use Rattle.store_laws.specs.Store.{Format, Reader, reader, Log, batches_in, is_whole}
use Rattle.disk_model.specs.Rest.{Rest}
use Rattle.store_laws.specs.Append.{batch_calls}
use Rattle.store_laws.specs.Chance.{Lawful, BatchesGenuine}
use Rattle.disk_model.specs.Genuine.{Genuine}
use Rattle.disk_model.proofs.Bytes.{front_stands, put_end, untouched}
use Rattle.disk_model.proofs.Rests.{rest_only, same_found}
use Rattle.disk_model.proofs.Elsewhere.{Elsewhere, else_same, else_on}
use Rattle.store_laws.proofs.Fronts.{IsPiece}
use Rattle.store_laws.proofs.Grown.{grown, torn_or_whole, same_version}

pub data TailStage (h : Held) (H enc : List ℕ) (k : Held) : Type 0 where
  same : k ≡ h → TailStage h H enc k
  written : k ≡ after_write (length H) enc h → TailStage h H enc k
  synced : k ≡ record { standing = Sure; bytes = H ++ enc; since = [] } → TailStage h H enc k

pub record TailMoment (n : Name) (H enc : List ℕ) (d e : NodeDisk) : Type 0 where
  pub elsewhere : Elsewhere n d e
  pub stage : TailStage (d.held n) H enc (e.held n)

pub record TailEnded (n : Name) (H enc : List ℕ) (d e : NodeDisk) : Type 0 where
  pub elsewhere : Elsewhere n d e
  pub held : e.held n ≡ record { standing = Sure; bytes = H ++ enc; since = [] }
  pub read : e.read n ≡ found (H ++ enc)

module _ (k : ℕ) (H enc : List ℕ) (d : NodeDisk) (rest : Rest (d.held (Segment k)) (d.read (Segment k))) (is : d.read (Segment k) ≡ found H) where
  sure : (d.held (Segment k)).standing ≡ Sure
  sure = rest.standing ∙ ap (λ (x : Found). cond x.there Sure Absent) is

  after_both : (m e : NodeDisk) → Does (WriteAt (Segment k) (length H) enc) d m → Does (Sync (Segment k)) m e → TailEnded (Segment k) H enc d e
  after_both m e w s =
      let read : m.read (Segment k) ≡ found (H ++ enc) = w.read ∙ ap (λ (x : Found). found (put (length H) enc x.bytes)) is ∙ ap found (put_end enc H) in
      record {
        elsewhere = else_on (Segment k) d m e (else_on (Segment k) d d m (else_same (Segment k) d) w.others) s.others;
        held = s.held ∙ (λ i. after_sync (read i) (w.held i)) ∙ (λ i. record { standing = made (sure i); bytes = H ++ enc; since = [] });
        read = s.read ∙ read;
      }

  pub tail_moments : (e : NodeDisk) → Until (batch_calls k (length H) enc) d e → TailMoment (Segment k) H enc d e
  tail_moments e u = elim u [
    | inl q ↦ to d e q (record { elsewhere = else_same (Segment k) d; stage = same refl })
    | inr (inl broke) ↦ record { elsewhere = else_on (Segment k) d d e (else_same (Segment k) d) broke.others; stage = written broke.held }
    | inr (inr (m, (w, inl q))) ↦ to m e q (record { elsewhere = else_on (Segment k) d d m (else_same (Segment k) d) w.others; stage = written w.held })
    | inr (inr (m, (w, inr (inl q)))) ↦ to m e q (record { elsewhere = else_on (Segment k) d d m (else_same (Segment k) d) w.others; stage = written w.held })
    | inr (inr (m, (w, inr (inr (p, (s, q)))))) ↦ let z = after_both m p w s in to p e q (record { elsewhere = z.elsewhere; stage = synced z.held })
  ]
    where
      to : (m e : NodeDisk) → e ≡ m → TailMoment (Segment k) H enc d m → TailMoment (Segment k) H enc d e
      to m e q at = subst (TailMoment (Segment k) H enc d) (sym q) at

  pub tail_ended : (e : NodeDisk) → Done (batch_calls k (length H) enc) d e → TailEnded (Segment k) H enc d e
  tail_ended e (m, (w, (p, (s, q)))) = subst (TailEnded (Segment k) H enc d) (sym q) (after_both m p w s)

-- a segment reads as before, or has the batch
pub data TailReads (f : Format) (H enc : List ℕ) (x : Found) : Type 0 where
  shorter : x.there ≡ true → batches_in f x.bytes ≡ batches_in f H → TailReads f H enc x
  longer : x ≡ found (H ++ enc) → TailReads f H enc x

firm : (at : ℕ) (enc : List ℕ) (i : ℕ) → i < at → loose (Wrote at enc ∷ []) i ≡ false
firm at enc i h = elim (cases_Bool (nat_le at i)) [
  | inl t ↦ let l : at ≤ i = leb-true _ _ t in absurd (omega arith)
  | inr n ↦ λ j. (n j && nat_lt i (at + length enc)) || false
]

module _ (f : Format) (law : Lawful f) (H : List ℕ) (whole : is_whole f H ≡ true) (enc : List ℕ) (b : Log) (piece : IsPiece (reader f H) enc b) (pos : 0 < length enc) where
  torn_reads : (h : Held) (x : Found) → h.bytes ≡ H → x.there ≡ true → LeavesBytes H (Wrote (length H) enc ∷ []) x.bytes
      → BatchesGenuine f (record { standing = h.standing; bytes = H; since = Wrote (length H) enc ∷ [] }) x.bytes
      → TailReads f H enc x
  torn_reads h x hb there left fair =
      let p = length H in
      let r = drop p x.bytes in
      let st = front_stands p H x.bytes (Wrote p enc ∷ []) (omega arith) (firm p enc) left in
      let c : x.bytes ≡ H ++ r = sym (take-append-drop p x.bytes) ∙ ap (λ (l : List ℕ). l ++ r) (st.0 ∙ take_all p H (omega arith)) in
      let short : length r ≤ length enc = omega (arith, left.no_longer, length-drop p x.bytes) in
      elim (torn_or_whole (reader f H) (law.batches (f.version H)) enc b piece pos r short (agrees r (subst (λ (rd : Reader). (rd r).size ≢ 0 → Genuine (record { standing = h.standing; bytes = H; since = Wrote p enc ∷ [] }) p (take (rd r).size r)) (same_reader r x.bytes c) (fair.each H r c whole)))) [
        | inl none ↦ shorter there (ap (batches_in f) c ∙ grown f law H whole r ∙ ap (λ (l : List Log). batches_in f H ++ l) none ∙ append-nil (batches_in f H))
        | inr e ↦ longer (same_found x (found (H ++ enc)) there (c ∙ ap (λ (l : List ℕ). H ++ l) e))
      ]
    where
      same_reader : (r c : List ℕ) → c ≡ H ++ r → reader f c ≡ reader f H
      same_reader r c e = ap (reader f) e ∙ ap f.batch (same_version f law H whole r)

      len_nil : (n : ℕ) → length {A = ℕ} (take n []) ≡ 0
      len_nil zero = refl
      len_nil (suc n) = refl

      agrees : (r : List ℕ) → ((reader f H r).size ≢ 0 → Genuine (record { standing = h.standing; bytes = H; since = Wrote (length H) enc ∷ [] }) (length H) (take (reader f H r).size r))
          → (reader f H r).size ≢ 0 → take (reader f H r).size enc ≡ take (reader f H r).size r
      agrees r fair ne =
          let s = (reader f H r).size in
          let len : length (take s r) ≡ s = length-take-le s r ((law.batches (f.version H)).size_within r) in
          let nil : drop (length H) H ≡ [] = drop_all (length H) H (omega arith) in
          let here : length H - length H ≡ 0 = omega arith in
          let stood = λ (q : take (length (take s r)) (drop (length H) H) ≡ take s r).
          let z : length (take s r) ≡ 0 = ap length (sym q ∙ ap (take (length (take s r))) nil) ∙ len_nil (length (take s r)) in
          absurd (ne (omega arith)) in
          ⊎_elim stood (λ w. ⊎_elim (λ v. ap (λ (j : ℕ). take j enc) (sym len) ∙ ap (λ (j : ℕ). take (length (take s r)) (drop j enc)) (sym here) ∙ v.1) (λ v. absurd v) w) (fair ne).why

  pub tail_reads : (h k : Held) (x : Found) → Rest h (found H) → TailStage h H enc k → LeavesFile k x → BatchesGenuine f k x.bytes → TailReads f H enc x
  tail_reads h k x rest (same e) left fair =
      let q = rest_only h (found H) x rest (subst (λ (j : Held). LeavesFile j x) e left) in
      shorter (ap (λ (y : Found). y.there) q) (ap (λ (y : Found). batches_in f y.bytes) q)
  tail_reads h k x rest (synced e) left fair =
      let l : LeavesFile (record { standing = Sure; bytes = H ++ enc; since = [] }) x = subst (λ (j : Held). LeavesFile j x) e left in
      let t = l.sure refl in
      longer (same_found x (found (H ++ enc)) t (untouched (H ++ enc) x.bytes (l.left t)))
  tail_reads h k x rest (written e) left fair =
      let m : k ≡ record { standing = Sure; bytes = H; since = Wrote (length H) enc ∷ [] } =
      e ∙ (λ i. record { standing = made (rest.standing i); bytes = rest.bytes i; since = Wrote (length H) enc ∷ rest.since i }) in
      let l : LeavesFile (record { standing = Sure; bytes = H; since = Wrote (length H) enc ∷ [] }) x = subst (λ (j : Held). LeavesFile j x) m left in
      let g : BatchesGenuine f (record { standing = Sure; bytes = H; since = Wrote (length H) enc ∷ [] }) x.bytes = subst (λ (j : Held). BatchesGenuine f j x.bytes) m fair in
      let t = l.sure refl in
      torn_reads (record { standing = Sure; bytes = H; since = Wrote (length H) enc ∷ [] }) x refl t (l.left t) g
