-- Which segments are there after a load.
use Rattle.std.proofs.Common.{◌≡◌, ℕ, suc, ◌<◌, Bool, true, false, cond, List, [], ◌∷◌, ◌++◌, refl, sym, ap, ◌∙◌, subst, arith}
use Rattle.std.specs.Prelude.{◌&&◌}
use Rattle.disk_model.specs.Disk.{Found}
use Rattle.disk_model.specs.Calls.{CutTo, Sync, Remove, SyncNames, Done}
use Rattle.disk_model.specs.SyncAll.{sync_all}
use Rattle.disk_model.proofs.Untils.{done_append}
use Rattle.store_laws.specs.Names.{Name, Segment, NodeDisk, NodeFiles, NodeCall}
use Rattle.store_laws.specs.Store.{opens, is_whole}
use Rattle.store_laws.specs.Load.{repair_calls}
use Rattle.store_laws.specs.Append.{append_calls}
use Rattle.store_format.specs.NodeFormat.{node_format}
use Rattle.segment_store.specs.Open.{segment_numbers}
use Rattle.segment_store.proofs.Listing.{same_numbers}
use Rattle.segment_store.proofs.LoadHolds.{spared, spares_sync, spares_repair, spares_append}

abbrev pub one_more : ℕ → Bool → List ℕ
one_more k b = cond b (k ∷ []) []

pub numbers_next : (n : ℕ) (g : NodeFiles) → segment_numbers (suc n) g ≡ segment_numbers n g ++ one_more n (g (Segment n)).there
unfolding segment_numbers
numbers_next n g = refl

-- the last segment is there after its repair, if it was and has its first word
repaired : (k : ℕ) (p e : NodeDisk) → Done (repair_calls node_format k (p.read (Segment k))) p e → (e.read (Segment k)).there ≡ ((p.read (Segment k)).there && opens node_format (p.read (Segment k)).bytes)
unfolding repair_calls
repaired k p e u = which (p.read (Segment k)).there (opens node_format (p.read (Segment k)).bytes) (is_whole node_format (p.read (Segment k)).bytes) _ refl u
  where
    which : (b c w : Bool) (l : ℕ) → (p.read (Segment k)).there ≡ b → Done (cond b (cond c (cond w [] (CutTo (Segment k) l ∷ Sync (Segment k) ∷ [])) (Remove (Segment k) ∷ SyncNames ∷ [])) []) p e → (e.read (Segment k)).there ≡ (b && c)
    which false c w l t q = ap (λ (x : NodeDisk). (x.read (Segment k)).there) q ∙ t
    which true false w l t (m, (did, (n, (names, q)))) = ap (λ (x : NodeDisk). (x.read (Segment k)).there) q ∙ ap (λ (x : Found). x.there) (names.read (Segment k) ∙ did.read)
    which true true true l t q = ap (λ (x : NodeDisk). (x.read (Segment k)).there) q ∙ t
    which true true false l t (m, (did, (n, (synced, q)))) = ap (λ (x : NodeDisk). (x.read (Segment k)).there) q ∙ ap (λ (x : Found). x.there) (synced.read ∙ did.read) ∙ t

another : (j k : ℕ) → j < k → Segment j ≡ Segment k → ⊥
another j k h q = let z : j ≡ k = cc in absurd (omega (arith, z, h))

pub numbers_front : (ns : List Name) (k : ℕ) (D e : NodeDisk) → Done (sync_all ns ++ repair_calls node_format k (D.read (Segment k))) D e
    → segment_numbers (suc k) e.read ≡ segment_numbers k D.read ++ one_more k ((D.read (Segment k)).there && opens node_format (D.read (Segment k)).bytes)
numbers_front ns k D e u =
    let a = done_append (sync_all ns) (repair_calls node_format k (D.read (Segment k))) D e u in
    let p = a.0 in
    let synced : (n : Name) → p.read n ≡ D.read n = λ n. spared n (sync_all ns) D p (spares_sync n ns) a.1.0 in
    let last = repaired k p e (subst (λ (x : Found). Done (repair_calls node_format k x) p e) (sym (synced (Segment k))) a.1.1) in
    let here : (e.read (Segment k)).there ≡ ((D.read (Segment k)).there && opens node_format (D.read (Segment k)).bytes) = last ∙ ap (λ (x : Found). x.there && opens node_format x.bytes) (synced (Segment k)) in
    let before = same_numbers k e.read D.read (λ j h. ap (λ (x : Found). x.there) (spared (Segment j) (repair_calls node_format k (D.read (Segment k))) p e (spares_repair (Segment j) k (D.read (Segment k)) (another j k h)) a.1.1 ∙ synced (Segment j))) in
    numbers_next k e.read ∙ (λ i. before i ++ one_more k (here i))

begun : (k : ℕ) (word enc : List ℕ) (m e : NodeDisk) → Done (append_calls k false 0 word enc) m e → (e.read (Segment k)).there ≡ true
begun k word enc m e (a, (w, (b, (s, (c, (names, (d, (write, (f, (sync, q)))))))))) = ap (λ (x : NodeDisk). (x.read (Segment k)).there) q ∙ ap (λ (x : Found). x.there) (sync.read ∙ write.read)

pub numbers_all : (cs : List NodeCall) (k : ℕ) (word enc : List ℕ) (D e : NodeDisk) → Done (cs ++ append_calls (suc k) false 0 word enc) D e
    → (xs : List ℕ) → ((m : NodeDisk) → Done cs D m → segment_numbers (suc k) m.read ≡ xs) → segment_numbers (suc (suc k)) e.read ≡ xs ++ suc k ∷ []
numbers_all cs k word enc D e u xs before =
    let a = done_append cs (append_calls (suc k) false 0 word enc) D e u in
    let m = a.0 in
    let same = same_numbers (suc k) e.read m.read (λ j h. ap (λ (x : Found). x.there) (spared (Segment j) (append_calls (suc k) false 0 word enc) m e (spares_append (Segment j) (suc k) 0 word enc (another j (suc k) h)) a.1.1)) in
    numbers_next (suc k) e.read ∙ (λ i. same i ++ one_more (suc k) (begun (suc k) word enc m e a.1.1 i)) ∙ ap (λ (l : List ℕ). l ++ suc k ∷ []) (before m a.1.0)
