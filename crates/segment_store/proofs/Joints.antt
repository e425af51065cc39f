-- What a load finds, whatever bound there is on the numbers of segments.
use Rattle.std.proofs.Common.{◌≡◌, inl, inr, ℕ, zero, suc, ◌+◌, ◌<◌, ◌≤◌, Bool, true, false, cond, List, [], ◌∷◌, ◌++◌, sym, ap, ◌∙◌, subst, arith}
use Rattle.disk_model.specs.Disk.{Found, Leaves}
use Rattle.disk_model.specs.Calls.{WriteAt, CutTo, Sync, Remove, SyncNames, Others, NamesSynced, Until}
use Rattle.disk_model.specs.Rest.{Rest}
use Rattle.disk_model.proofs.Rests.{rest_only}
use Rattle.disk_model.proofs.Elsewhere.{else_same, else_on, else_names}
use Rattle.store_laws.specs.Names.{Name, First, Second, Segment, Snapshot, NodeFiles, NodeDisk, NodeCall}
use Rattle.store_laws.specs.Store.{Kept, Snap, Log, kept}
use Rattle.store_laws.specs.Settled.{Settled}
use Rattle.store_laws.specs.Append.{append_calls}
use Rattle.store_laws.specs.Load.{remove_from}
use Rattle.store_laws.specs.Laws.{OneOf}
use Rattle.store_laws.specs.Meta.{file_of, set_long_calls}
use Rattle.store_laws.specs.Snapshots.{snapshot_calls, remove_snapshots, keep_calls, BeforeOrLonger}
use Rattle.store_format.specs.NodeFormat.{node_format}
use Rattle.segment_store.proofs.LoadRooms.{segments_up, kept_of}

-- no segment from a number on is there, certainly
pub record NoneFrom (top : ℕ) (e : NodeDisk) : Type 0 where
  pub none : (j : ℕ) → top ≤ j → ((e.read (Segment j)).there ≡ false) × Rest (e.held (Segment j)) (e.read (Segment j))

pub settled_none : (top : ℕ) (e : NodeDisk) → Settled node_format top e → NoneFrom top e
settled_none top e s = record { none = λ j h. (s.above j h, s.segment j) }

none_left : (top : ℕ) (e : NodeDisk) → NoneFrom top e → (g : NodeFiles) → Leaves e g → (j : ℕ) → top ≤ j → (g (Segment j)).there ≡ false
none_left top e s g left j h = let z = s.none j h in ap (λ (x : Found). x.there) (rest_only _ _ _ z.1 (left.each (Segment j))) ∙ z.0

-- so the greatest bound says the same for each crash's files
pub kept_top : (top : ℕ) (e : NodeDisk) → NoneFrom top e → top ≤ 10000000000000000 → (g : NodeFiles) → Leaves e g → kept node_format 10000000000000000 g ≡ kept node_format top g
kept_top top e s small g left = kept_of node_format top 10000000000000000 g (segments_up top 10000000000000000 g (none_left top e s g left) small)

pub one_up : (old new : Kept) (top : ℕ) (g : NodeFiles) → kept node_format 10000000000000000 g ≡ kept node_format top g → OneOf node_format top old new g → OneOf node_format 10000000000000000 old new g
one_up old new top g same (inl q) = inl (same ∙ q)
one_up old new top g same (inr q) = inr (same ∙ q)

pub longer_up : (old : Kept) (s : Snap) (new : Log) (top : ℕ) (g : NodeFiles) → kept node_format 10000000000000000 g ≡ kept node_format top g → BeforeOrLonger node_format top old s new g → BeforeOrLonger node_format 10000000000000000 old s new g
longer_up old s new top g same (inl q) = inl (same ∙ q)
longer_up old s new top g same (inr q) = inr (record { log = q.log; kept_is = same ∙ q.kept_is; longer = q.longer; left = q.left })

-- ---- calls on files below a number

abbrev pub IsUnder : ℕ → Name → Type 0
IsUnder top First = Unit {0}
IsUnder top Second = Unit {0}
IsUnder top (Segment k) = k < top
IsUnder top (Snapshot j) = Unit {0}

abbrev pub Under : ℕ → List NodeCall → Type 0
Under top [] = Unit {0}
Under top (WriteAt j at bytes ∷ cs) = IsUnder top j × Under top cs
Under top (CutTo j k ∷ cs) = IsUnder top j × Under top cs
Under top (Sync j ∷ cs) = IsUnder top j × Under top cs
Under top (Remove j ∷ cs) = IsUnder top j × Under top cs
Under top (SyncNames ∷ cs) = Under top cs

apart_under : (top : ℕ) (n : Name) (j : ℕ) → IsUnder top n → top ≤ j → Segment j ≡ n → ⊥
apart_under top First j u h q = absurd cc
apart_under top Second j u h q = absurd cc
apart_under top (Segment k) j u h q = let z : j ≡ k = cc in absurd (omega (arith, z, u, h))
apart_under top (Snapshot k) j u h q = absurd cc

through : (top : ℕ) (n : Name) (d e : NodeDisk) → IsUnder top n → Others n d e → NoneFrom top d → NoneFrom top e
through top n d e u o s = record {
  none = λ j h.
      let z = s.none j h in
      let so = else_on n d d e (else_same n d) o in
      let a = apart_under top n j u h in
      (ap (λ (x : Found). x.there) (so.read (Segment j) a) ∙ z.0, so.rest (Segment j) a z.1);
}

through_names : (top : ℕ) (d e : NodeDisk) → NamesSynced d e → NoneFrom top d → NoneFrom top e
through_names top d e o s = record {
  none = λ j h.
      let z = s.none j h in
      let so = else_names First d d e (else_same First d) o in
      let a : Segment j ≡ First → ⊥ = λ q. absurd cc in
      (ap (λ (x : Found). x.there) (so.read (Segment j) a) ∙ z.0, so.rest (Segment j) a z.1);
}

same_none : (top : ℕ) (d e : NodeDisk) → e ≡ d → NoneFrom top d → NoneFrom top e
same_none top d e q s = subst (NoneFrom top) (sym q) s

pub until_none : (top : ℕ) (cs : List NodeCall) (d e : NodeDisk) → Under top cs → NoneFrom top d → Until cs d e → NoneFrom top e
until_none top [] d e u s q = same_none top d e q s
until_none top (WriteAt j at bytes ∷ cs) d e u s (inl q) = same_none top d e q s
until_none top (WriteAt j at bytes ∷ cs) d e u s (inr (inl broke)) = through top j d e u.0 broke.others s
until_none top (WriteAt j at bytes ∷ cs) d e u s (inr (inr (m, (did, rest)))) = until_none top cs m e u.1 (through top j d m u.0 did.others s) rest
until_none top (CutTo j k ∷ cs) d e u s (inl q) = same_none top d e q s
until_none top (CutTo j k ∷ cs) d e u s (inr (inl broke)) = through top j d e u.0 broke.others s
until_none top (CutTo j k ∷ cs) d e u s (inr (inr (m, (did, rest)))) = until_none top cs m e u.1 (through top j d m u.0 did.others s) rest
until_none top (Sync j ∷ cs) d e u s (inl q) = same_none top d e q s
until_none top (Sync j ∷ cs) d e u s (inr (inl q)) = same_none top d e q s
until_none top (Sync j ∷ cs) d e u s (inr (inr (m, (did, rest)))) = until_none top cs m e u.1 (through top j d m u.0 did.others s) rest
until_none top (Remove j ∷ cs) d e u s (inl q) = same_none top d e q s
until_none top (Remove j ∷ cs) d e u s (inr (inl broke)) = through top j d e u.0 broke.others s
until_none top (Remove j ∷ cs) d e u s (inr (inr (m, (did, rest)))) = until_none top cs m e u.1 (through top j d m u.0 did.others s) rest
until_none top (SyncNames ∷ cs) d e u s (inl q) = same_none top d e q s
until_none top (SyncNames ∷ cs) d e u s (inr (inl q)) = same_none top d e q s
until_none top (SyncNames ∷ cs) d e u s (inr (inr (m, (did, rest)))) = until_none top cs m e u (through_names top d m did s) rest

-- ---- the calls of the store

under_both : (top : ℕ) (cs ds : List NodeCall) → Under top cs → Under top ds → Under top (cs ++ ds)
under_both top [] ds u v = v
under_both top (WriteAt j at bytes ∷ cs) ds u v = (u.0, under_both top cs ds u.1 v)
under_both top (CutTo j k ∷ cs) ds u v = (u.0, under_both top cs ds u.1 v)
under_both top (Sync j ∷ cs) ds u v = (u.0, under_both top cs ds u.1 v)
under_both top (Remove j ∷ cs) ds u v = (u.0, under_both top cs ds u.1 v)
under_both top (SyncNames ∷ cs) ds u v = under_both top cs ds u v

under_meta : (top : ℕ) (b : Bool) → IsUnder top (file_of b)
under_meta top true = tt
under_meta top false = tt

pub under_short : (top : ℕ) (b there : Bool) (enc : List ℕ) → Under top (WriteAt (file_of b) 0 enc ∷ Sync (file_of b) ∷ cond there [] (SyncNames ∷ []))
under_short top b true enc = (under_meta top b, (under_meta top b, tt))
under_short top b false enc = (under_meta top b, (under_meta top b, tt))

pub under_long : (top : ℕ) (b : Bool) (enc : List ℕ) → Under top (set_long_calls (file_of b) enc)
under_long top b enc = (under_meta top b, (under_meta top b, (under_meta top b, (under_meta top b, tt))))

pub under_append : (k : ℕ) (there : Bool) (at : ℕ) (word enc : List ℕ) → Under (suc k) (append_calls k there at word enc)
under_append k true at word enc = let h : k < suc k = omega arith in (h, (h, tt))
under_append k false at word enc = let h : k < suc k = omega arith in (h, (h, (h, (h, tt))))

under_snapshot : (top index : ℕ) (there : Bool) (enc : List ℕ) → Under top (snapshot_calls (Snapshot index) there enc)
under_snapshot top index true enc = (tt, (tt, (tt, tt)))
under_snapshot top index false enc = (tt, (tt, tt))

under_one : (r : NodeFiles) (top a n : ℕ) → a < top → Under top (remove_from r (suc a) n) → (b : Bool) → Under top (cond b (Remove (Segment a) ∷ SyncNames ∷ remove_from r (suc a) n) (remove_from r (suc a) n))
under_one r top a n low rest true = (low, rest)
under_one r top a n low rest false = rest

under_removed : (r : NodeFiles) (top a n : ℕ) → a + n ≤ top → Under top (remove_from r a n)
under_removed r top a zero h = tt
under_removed r top a (suc n) h = under_one r top a n (omega (arith, h)) (under_removed r top (suc a) n (omega (arith, h))) (r (Segment a)).there

under_older : (top : ℕ) (js : List ℕ) → Under top (remove_snapshots js)
under_older top [] = tt
under_older top (j ∷ js) = (tt, under_older top js)

pub under_keep : (r : NodeFiles) (k index : ℕ) (enc word batch older : List ℕ) → Under (suc k) (keep_calls r k index enc word batch older)
under_keep r k index enc word batch older =
    let removed = remove_from r 0 k ++ remove_snapshots older in
    under_both (suc k) (snapshot_calls (Snapshot index) (r (Snapshot index)).there enc) (append_calls k false 0 word batch ++ removed) (under_snapshot (suc k) index (r (Snapshot index)).there enc)
    (under_both (suc k) (append_calls k false 0 word batch) removed (under_append k false 0 word batch)
    (under_both (suc k) (remove_from r 0 k) (remove_snapshots older) (under_removed r (suc k) 0 k (omega arith)) (under_older (suc k) older)))
