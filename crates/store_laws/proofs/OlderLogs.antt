-- What the folder represents while older segments go.
use Rattle.std.proofs.Common.{◌≡◌, inl, inr, ℕ, zero, suc, ◌≤◌, true, false, List, [], ◌∷◌, ◌++◌, refl, sym, ap, ◌∙◌, subst, arith, append_assoc}
use Rattle.std.proofs.lemmas.List.{append-nil}
use Rattle.std.proofs.lemmas.Bool.{cases_lt}
use Rattle.store_laws.specs.Names.{Segment, NodeFiles, NodeDisk}
use Rattle.disk_model.specs.Disk.{Found}
use Rattle.store_laws.specs.Store.{snap_in, Format, Log, meta_of, segments, sound, all_batches, is_whole, log_of, empty_log, behind, put_batch}
use Rattle.store_laws.specs.Settled.{Steady}
use Rattle.store_laws.specs.Load.{Still, tail_of}
use Rattle.store_laws.specs.Snapshots.{Longer, Stays, Left, OlderLog}
use Rattle.store_laws.proofs.Folders.{part, segments_suc, all_append, all_nil, sound_last, kept_by, answer_is}
use Rattle.store_laws.proofs.Answers.{meta_same}
use Rattle.store_laws.proofs.Logs.{log_push}
use Rattle.store_laws.proofs.SnapshotLogs.{put_longer}
use Rattle.store_laws.proofs.SnapshotLaw.{snapshot_log_holds}
use Rattle.store_laws.proofs.Olders.{low, high}

none_low : (r : NodeFiles) (m n : ℕ) → n ≤ m → segments n (tail_of r m) ≡ []
unfolding segments
none_low r m zero h = refl
none_low r m (suc n) h = λ i. none_low r m n (omega arith) i ++ part (low r m n (omega arith) i)

pub record Front (f : Format) (r : NodeFiles) (m n : ℕ) : Type 0 where
  pub gone : List Log
  pub is : all_batches f (segments n r) ≡ gone ++ all_batches f (segments n (tail_of r m))

pub front_of : (f : Format) (r : NodeFiles) (m n : ℕ) → Front f r m n
unfolding segments
front_of f r m zero = record { gone = []; is = ap (all_batches f) (zero_segments r ∙ sym (none_low r m zero (omega arith))) }
  where
    zero_segments : (r : NodeFiles) → segments zero r ≡ []
    zero_segments r = refl
front_of f r m (suc n) = elim (cases_lt n m) [
  | inl h ↦ record {
    gone = all_batches f (segments (suc n) r);
    is = sym (append-nil _) ∙ ap (λ (l : List Log). all_batches f (segments (suc n) r) ++ l) (sym (ap (all_batches f) (none_low r m (suc n) (omega arith)) ∙ all_nil f));
  }
  | inr h ↦
      let p = front_of f r m n in
      let q = all_batches f (part (r (Segment n))) in
      record {
        gone = p.gone;
        is = ap (all_batches f) (segments_suc n r) ∙ all_append f (segments n r) (part (r (Segment n))) ∙ ap (λ (l : List Log). l ++ q) p.is ∙ append_assoc p.gone (all_batches f (segments n (tail_of r m))) q
            ∙ ap (λ (l : List Log). p.gone ++ l) (ap (λ (x : Found). all_batches f (segments n (tail_of r m)) ++ all_batches f (part x)) (sym (high r m n h)) ∙ sym (ap (all_batches f) (segments_suc n (tail_of r m)) ∙ all_append f (segments n (tail_of r m)) (part (tail_of r m (Segment n)))));
      }
]

cancel : (xs ys zs : List Log) → xs ++ ys ≡ xs ++ zs → ys ≡ zs
cancel [] ys zs e = e
cancel (x ∷ xs) ys zs e = cancel xs ys zs (let q : xs ++ ys ≡ xs ++ zs = cc in q)

-- no batch is left below where all segments are gone
pub none_left : (f : Format) (r : NodeFiles) (k : ℕ) → all_batches f (segments k (tail_of r k)) ≡ []
none_left f r k = ap (all_batches f) (none_low r k k (omega arith)) ∙ all_nil f

-- the new batch is alone in segment k, and after what is left
pub tail_batches : (f : Format) (k : ℕ) (d : NodeDisk) (new : Log) → all_batches f (segments (suc k) d.read) ≡ all_batches f (segments k d.read) ++ new ∷ [] → (m : ℕ) → m ≤ k
    → all_batches f (segments (suc k) (tail_of d.read m)) ≡ all_batches f (segments k (tail_of d.read m)) ++ new ∷ []
tail_batches f k d new last m h =
    let left = all_batches f (segments k (tail_of d.read m)) in
    let own : all_batches f (part (d.read (Segment k))) ≡ new ∷ [] = cancel (all_batches f (segments k d.read)) _ _ (sym (ap (all_batches f) (segments_suc k d.read) ∙ all_append f (segments k d.read) (part (d.read (Segment k)))) ∙ last) in
    ap (all_batches f) (segments_suc k (tail_of d.read m)) ∙ all_append f (segments k (tail_of d.read m)) (part (tail_of d.read m (Segment k))) ∙ ap (λ (x : Found). left ++ all_batches f (part x)) (high d.read m k h) ∙ ap (λ (l : List Log). left ++ l) own

pub sound_tail : (f : Format) (k : ℕ) (d : NodeDisk) → Still f k d → (m : ℕ) → m ≤ k → sound f (segments (suc k) (tail_of d.read m)) ≡ true
sound_tail f k d s m h = ap (sound f) (segments_suc k (tail_of d.read m)) ∙ sound_last f k (tail_of d.read m) (λ j l. elim (cases_lt j m) [
  | inl q ↦ λ y. let z : false ≡ true = sym (ap (λ (x : Found). x.there) (low d.read m j q)) ∙ y in absurd cc
  | inr q ↦ subst (λ (x : Found). x.there ≡ true → is_whole f x.bytes ≡ true) (sym (high d.read m j q)) (s.below j l)
]) (tail_of d.read m (Segment k))

pub older_log_holds : OlderLog
older_log_holds f law k d s new last stamp t lt steady stays low_enough m h = record {
  log = behind (snap_in f d.read) M;
  kept_is = kept_by f (suc k) (tail_of d.read m) (meta_of f d.read) (snap_in f d.read) true (left ++ new ∷ []) (meta_same f (tail_of d.read m) d.read refl refl) refl sounds all
      ∙ answer_is (meta_of f d.read) (snap_in f d.read) (left ++ new ∷ []) gap stamp;
  longer = three.1;
  left = subst (λ (l : List Log). Left (snap_in f d.read) (behind t (log_of empty_log l)) new (behind (snap_in f d.read) M)) (sym p.is) three.3;
}
  where
    p : Front f d.read m k
    p = front_of f d.read m k

    left : List Log
    left = all_batches f (segments k (tail_of d.read m))

    M : Log
    M = log_of empty_log (left ++ new ∷ [])

    three : Longer (behind (snap_in f d.read) (log_of empty_log (p.gone ++ left))) new × Longer (behind (snap_in f d.read) M) new
        × Left (snap_in f d.read) (behind t (log_of empty_log (p.gone ++ left))) new (behind (snap_in f d.read) (log_of empty_log (p.gone ++ left))) × Left (snap_in f d.read) (behind t (log_of empty_log (p.gone ++ left))) new (behind (snap_in f d.read) M)
        × Longer (log_of empty_log (p.gone ++ left ++ new ∷ [])) M
    three = snapshot_log_holds t (snap_in f d.read) lt p.gone left new (subst (λ (l : List Log). Steady t (log_of empty_log l)) p.is steady) (subst (λ (l : List Log). Stays (snap_in f d.read) (behind t (log_of empty_log l)) new) p.is stays)

    all : all_batches f (segments (suc k) (tail_of d.read m)) ≡ left ++ new ∷ []
    all = tail_batches f k d new last m h

    sounds : sound f (segments (suc k) (tail_of d.read m)) ≡ true
    sounds = sound_tail f k d s m h

    push : M ≡ put_batch (log_of empty_log left) new
    push = log_push empty_log left new

    gap : M.first ≤ suc (snap_in f d.read).index
    gap = let o : Longer M new = subst (λ (x : Log). Longer x new) (sym push) (put_longer (log_of empty_log left) new) in omega (arith, o.first)
