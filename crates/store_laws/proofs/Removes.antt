-- A last segment without its first word goes.
use Rattle.std.proofs.Common.{◌≡◌, inl, inr, ℕ, true, false, List, [], ◌∷◌, refl, sym, ap, ◌∙◌, subst, cond}
use Rattle.std.proofs.lemmas.Bool.{cond-true, cond-false}
use Rattle.store_laws.specs.Names.{Segment, NodeDisk}
use Rattle.disk_model.specs.Disk.{Found, missing, Held, LeavesFile, Absent}
use Rattle.store_laws.specs.Store.{Format, opens, all_batches, batches_in}
use Rattle.disk_model.specs.Calls.{Remove, SyncNames, Done, Until, Does, NamesSynced, after_remove, after_names}
use Rattle.disk_model.specs.Rest.{Rest}
use Rattle.store_laws.specs.Load.{Still, Repairs, RemoveBad}
use Rattle.disk_model.proofs.Rests.{synced_or_not}
use Rattle.disk_model.proofs.Elsewhere.{Elsewhere, else_same, else_on, else_names}
use Rattle.store_laws.proofs.AppendLaw.{part_there, part_not}
use Rattle.store_laws.proofs.Folders.{part}
use Rattle.store_laws.proofs.Stills.{image_same, read_same, still_on, log_same, snaps_same}

data GoneStage (H : List ℕ) (k : Held) : Type 0 where
  held : k.since ≡ [] → k.bytes ≡ H → GoneStage H k
  absent : k ≡ record { standing = Absent; bytes = []; since = [] } → GoneStage H k

module _ (f : Format) (k : ℕ) (d : NodeDisk) (s : Still f k d) (there : (d.read (Segment k)).there ≡ true) (bad : opens f (d.read (Segment k)).bytes ≡ false) where
  abbrev H : List ℕ
  H = (d.read (Segment k)).bytes

  nothing : batches_in f H ≡ []
  unfolding batches_in
  nothing = cond-false _ _ _ bad

  record GoneMoment (e : NodeDisk) : Type 0 where
    elsewhere : Elsewhere (Segment k) d e
    stage : GoneStage H (e.held (Segment k))

  begun : (h : Held) → h ≡ cond (d.read (Segment k)).there (after_remove (d.held (Segment k))) (d.held (Segment k)) → GoneStage H h
  begun h e =
      let q = e ∙ cond-true _ _ _ there in
      held (ap (λ (x : Held). x.since) q ∙ (s.segment k).since) (ap (λ (x : Held). x.bytes) q ∙ (s.segment k).bytes)

  removed : (m : NodeDisk) → Does (Remove (Segment k)) d m → GoneMoment m
  removed m c = record { elsewhere = else_on (Segment k) d d m (else_same (Segment k) d) c.others; stage = begun _ c.held }

  at_end : (m e : NodeDisk) → Does (Remove (Segment k)) d m → NamesSynced m e → e.held (Segment k) ≡ record { standing = Absent; bytes = []; since = [] }
  at_end m e c o = o.held (Segment k) ∙ ap (λ (x : Found). after_names x (m.held (Segment k))) c.read

  to : (m e : NodeDisk) → e ≡ m → GoneMoment m → GoneMoment e
  to m e q at = subst GoneMoment (sym q) at

  moments : (e : NodeDisk) → Until (Remove (Segment k) ∷ SyncNames ∷ []) d e → GoneMoment e
  moments e u = elim u [
    | inl q ↦ to d e q (record { elsewhere = else_same (Segment k) d; stage = held (s.segment k).since (s.segment k).bytes })
    | inr (inl broke) ↦ record { elsewhere = else_on (Segment k) d d e (else_same (Segment k) d) broke.others; stage = begun _ broke.held }
    | inr (inr (m, (c, inl q))) ↦ to m e q (removed m c)
    | inr (inr (m, (c, inr (inl q)))) ↦ to m e q (removed m c)
    | inr (inr (m, (c, inr (inr (p, (o, q)))))) ↦ to p e q (record { elsewhere = else_names (Segment k) d m p (removed m c).elsewhere o; stage = absent (at_end m p c o) })
  ]

  reads : (e : NodeDisk) → GoneMoment e → (x : Found) → LeavesFile (e.held (Segment k)) x → all_batches f (part x) ≡ []
  reads e m x left = elim m.stage [
    | held z b ↦ elim (synced_or_not _ x z left) [
      | inl y ↦ part_not f x (ap (λ (v : Found). v.there) y)
      | inr y ↦ part_there f x (ap (λ (v : Found). v.there) y) ∙ ap (λ (v : Found). batches_in f v.bytes) y ∙ ap (batches_in f) b ∙ nothing
    ]
    | absent q ↦ part_not f x ((subst (λ (h : Held). LeavesFile h x) q left).absent refl)
  ]

  before_it : all_batches f (part (d.read (Segment k))) ≡ []
  before_it = part_there f _ there ∙ nothing

  record GoneEnd (e : NodeDisk) : Type 0 where
    elsewhere : Elsewhere (Segment k) d e
    held : e.held (Segment k) ≡ record { standing = Absent; bytes = []; since = [] }
    read : e.read (Segment k) ≡ missing

  ended : (e : NodeDisk) → Done (Remove (Segment k) ∷ SyncNames ∷ []) d e → GoneEnd e
  ended e (m, (c, (p, (o, q)))) = subst GoneEnd (sym q) (record { elsewhere = else_names (Segment k) d m p (removed m c).elsewhere o; held = at_end m p c o; read = o.read (Segment k) ∙ c.read })

  pub gone_repairs : Repairs f k d (Remove (Segment k) ∷ SyncNames ∷ [])
  gone_repairs = record {
    any_moment = λ e u g left fair. let m = moments e u in image_same f k d s e g m.elsewhere left (reads e m (g (Segment k)) (left.each (Segment k)) ∙ sym before_it);
    still = λ e u. let z = ended e u in still_on f k d s e z.elsewhere (subst (λ (x : Found). Rest (e.held (Segment k)) x) (sym z.read) (subst (λ (h : Held). Rest h missing) (sym z.held) (record { since = refl; bytes = refl; standing = refl; empty = λ y. refl })));
    whole = λ e u t. let y : false ≡ true = sym (ap (λ (x : Found). x.there) (ended e u).read) ∙ t in absurd cc;
    same = λ e u. let z = ended e u in read_same f k d s e z.elsewhere (part_not f _ (ap (λ (x : Found). x.there) z.read) ∙ sym before_it);
    log = λ e u. let z = ended e u in log_same f k d s e z.elsewhere (part_not f _ (ap (λ (x : Found). x.there) z.read) ∙ sym before_it);
    snap = λ e u. snaps_same f k d s e (ended e u).elsewhere;
  }

pub remove_bad_holds : RemoveBad
remove_bad_holds f law k d s there bad = gone_repairs f k d s there bad
