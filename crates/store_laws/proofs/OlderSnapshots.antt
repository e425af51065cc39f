-- Older snapshots go, and the files represent the same.
use Rattle.std.proofs.Common.{◌≡◌, inl, inr, ℕ, ◌≤◌, ◌<◌, true, List, [], ◌∷◌, refl, sym, ap, ◌∙◌, subst, cond, arith}
use Rattle.std.proofs.lemmas.Bool.{cases_Bool, cases_eq, cond-true, cond-false}
use Rattle.disk_model.specs.Disk.{Found, missing, Held, LeavesFile}
use Rattle.disk_model.specs.Calls.{Remove, Done, Until, Does, Others, after_remove}
use Rattle.disk_model.specs.Rest.{Rest}
use Rattle.store_laws.specs.Names.{First, Second, Segment, Snapshot, NodeDisk}
use Rattle.store_laws.specs.Store.{Format, Snap, Kept, Loaded, kept, snap_in, snap_files, segments, log_of, empty_log, all_batches, is_whole}
use Rattle.store_laws.specs.Settled.{Settled, Steady, file_log}
use Rattle.store_laws.specs.Chance.{Lawful}
use Rattle.store_laws.specs.Laws.{Comes}
use Rattle.store_laws.specs.Snapshots.{remove_snapshots, AllBelow}
use Rattle.disk_model.proofs.Rests.{same_found}
use Rattle.disk_model.proofs.Elsewhere.{Elsewhere, else_same, else_on}
use Rattle.disk_model.proofs.Seen.{seen_remove}
use Rattle.store_laws.proofs.Answers.{meta_same, segments_same, kept_same, settled_images}
use Rattle.store_laws.proofs.Snaps.{same_newest, snap_images}

module _ (f : Format) (law : Lawful f) (top : ℕ) (new : Kept) where
  -- at rest with the state, whose snapshot has this index
  record Holds (index : ℕ) (e : NodeDisk) : Type 0 where
    settled : Settled f top e
    loaded : kept f top e.read ≡ Loaded new
    index_is : (snap_in f e.read).index ≡ index

  step : (index i : ℕ) → i < index → (d e : NodeDisk) → Holds index d → Others (Snapshot i) d e → LeavesFile (e.held (Snapshot i)) (e.read (Snapshot i)) → Holds index e
  step index i low d e h o seen =
      let s = h.settled in
      let so : Elsewhere (Snapshot i) d e = else_on (Snapshot i) d d e (else_same (Snapshot i) d) o in
      let here = h.index_is in
      let apart = λ (j : ℕ) (l : (snap_in f d.read).index ≤ j) (q : Snapshot j ≡ Snapshot i). let z : j ≡ i = cc in absurd (omega arith) in
      let snaps : snap_in f e.read ≡ snap_in f d.read =
      same_newest f.snap law.snap_number f.numbers (snap_files d.read) (snap_files e.read) (λ n l k. ap (λ (x : Found). f.snap n x.bytes) (so.read (Snapshot n) (apart n l))) in
      let segs : segments top e.read ≡ segments top d.read = segments_same top e.read d.read (λ j l. so.read (Segment j) (λ q. absurd cc)) in
      let rest : (j : ℕ) → (snap_in f e.read).index ≤ j → Rest (e.held (Snapshot j)) (e.read (Snapshot j)) =
      λ j l. let m : (snap_in f d.read).index ≤ j = subst (λ (x : Snap). x.index ≤ j) snaps l in so.rest (Snapshot j) (apart j m) (s.snap_rest j m) in
      record {
        settled = record {
          first = so.rest First (λ q. absurd cc) s.first;
          second = so.rest Second (λ q. absurd cc) s.second;
          segment = λ j. so.rest (Segment j) (λ q. absurd cc) (s.segment j);
          above = λ j l. ap (λ (x : Found). x.there) (so.read (Segment j) (λ q. absurd cc)) ∙ s.above j l;
          whole = λ j. subst (λ (x : Found). x.there ≡ true → is_whole f x.bytes ≡ true) (sym (so.read (Segment j) (λ q. absurd cc))) (s.whole j);
          snap_read = λ j. elim (cases_eq j i) [
            | inl q ↦ subst (λ (k : ℕ). LeavesFile (e.held (Snapshot k)) (e.read (Snapshot k))) (sym q) seen
            | inr ne ↦ so.seen (Snapshot j) (λ q. let z : j ≡ i = cc in ne z) (s.snap_read j)
          ];
          snap = snap_images f law e rest;
          snap_rest = rest;
          steady = subst (λ (x : Snap). Steady x (file_log f top e.read)) (sym snaps) (subst (λ (l : List (List ℕ)). Steady (snap_in f d.read) (log_of empty_log (all_batches f l))) (sym segs) s.steady);
        };
        loaded = kept_same f top e.read d.read (meta_same f e.read d.read (so.read First (λ q. absurd cc)) (so.read Second (λ q. absurd cc))) snaps segs ∙ h.loaded;
        index_is = ap (λ (x : Snap). x.index) snaps ∙ here;
      }

  -- what is read after a removal is what a crash may leave
  gone_seen : (h k : Held) (x y : Found) → LeavesFile h x → k ≡ cond x.there (after_remove h) h → y ≡ missing → LeavesFile k y
  gone_seen h k x y was q m = elim (cases_Bool x.there) [
    | inl t ↦ subst (LeavesFile k) (sym m) (subst (λ (j : Held). LeavesFile j missing) (sym (q ∙ cond-true _ _ _ t)) (seen_remove h))
    | inr t ↦
        let e : x ≡ missing = same_found x missing t (was.empty t) in
        subst (LeavesFile k) (sym m) (subst (λ (j : Held). LeavesFile j missing) (sym (q ∙ cond-false _ _ _ t)) (subst (LeavesFile h) e was))
  ]

  did : (index i : ℕ) → i < index → (d e : NodeDisk) → Holds index d → Does (Remove (Snapshot i)) d e → Holds index e
  did index i low d e h c = step index i low d e h c.others (gone_seen _ _ _ _ (h.settled.snap_read i) c.held c.read)

  any : (index : ℕ) (js : List ℕ) → AllBelow index js → (d e : NodeDisk) → Holds index d → Until (remove_snapshots js) d e → Holds index e
  any index [] low d e h q = subst (Holds index) (sym q) h
  any index (j ∷ js) low d e h (inl q) = subst (Holds index) (sym q) h
  any index (j ∷ js) low d e h (inr (inl broke)) = step index j low.0 d e h broke.others (subst (λ (k : Held). LeavesFile k (e.read (Snapshot j))) (sym broke.held) broke.part)
  any index (j ∷ js) low d e h (inr (inr (m, (c, v)))) = any index js low.1 m e (did index j low.0 d m h c) v

  all : (index : ℕ) (js : List ℕ) → AllBelow index js → (d e : NodeDisk) → Holds index d → Done (remove_snapshots js) d e → Holds index e
  all index [] low d e h q = subst (Holds index) (sym q) h
  all index (j ∷ js) low d e h (m, (c, v)) = all index js low.1 m e (did index j low.0 d m h c) v

  comes : (index : ℕ) (e : NodeDisk) → Holds index e → Comes f top e new
  comes index e h = record { settled = h.settled; read = h.loaded; crash = λ g left. settled_images f top e h.settled g left ∙ h.loaded }

  pub older_moment : (js : List ℕ) (d e : NodeDisk) → Settled f top d → kept f top d.read ≡ Loaded new → AllBelow (snap_in f d.read).index js → Until (remove_snapshots js) d e → Comes f top e new
  older_moment js d e s l low u = comes _ e (any _ js low d e (record { settled = s; loaded = l; index_is = refl }) u)

  pub older_gone : (js : List ℕ) (d e : NodeDisk) → Settled f top d → kept f top d.read ≡ Loaded new → AllBelow (snap_in f d.read).index js → Done (remove_snapshots js) d e → Comes f top e new
  older_gone js d e s l low u = comes _ e (all _ js low d e (record { settled = s; loaded = l; index_is = refl }) u)
