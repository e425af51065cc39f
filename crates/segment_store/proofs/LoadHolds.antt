-- A whole load of a folder whose files represent a state.
use Rattle.std.proofs.Common.{◌≡◌, inl, inr, ℕ, suc, ◌^◌, ◌<◌, ◌≤◌, Bool, true, false, cond, List, [], ◌∷◌, ◌++◌, sym, ap, ◌∙◌, subst, arith, append_assoc}
use Rattle.std.specs.Prelude.{nat_lt}
use Rattle.std.proofs.lemmas.List.{append-nil}
use Rattle.std.proofs.lemmas.Bool.{cases_Bool, cases_eq, cond-true, cond-false}
use Rattle.disk_model.specs.Disk.{Found}
use Rattle.disk_model.specs.Calls.{WriteAt, CutTo, Sync, Remove, SyncNames, Done, Until}
use Rattle.disk_model.specs.Rest.{Rest}
use Rattle.disk_model.specs.SyncAll.{sync_all, Names}
use Rattle.disk_model.proofs.Names.{Apart, same, apart}
use Rattle.store_laws.specs.Names.{Name, Segment, NodeDisk, NodeCall}
use Rattle.store_laws.specs.Store.{Kept, Loaded, Log, kept, snap_in, is_whole, segments}
use Rattle.store_laws.specs.Settled.{Settled, Steady, file_log}
use Rattle.store_laws.specs.Append.{append_calls, Writes}
use Rattle.store_laws.specs.Load.{Loadable, repair_calls}
use Rattle.store_laws.specs.Laws.{Comes}
use Rattle.store_laws.specs.WholeLoad.{is_stale, load_calls}
use Rattle.store_laws.proofs.Tells.{tell}
use Rattle.store_laws.proofs.Loads.{load_holds}
use Rattle.store_laws.proofs.WholeLoads.{whole_load_holds, whole_load_seen}
use Rattle.store_laws.proofs.Answers.{settled_images}
use Rattle.store_format.specs.Batches.{batch_bytes}
use Rattle.store_format.specs.BatchesWritten.{segment_word}
use Rattle.store_format.specs.NodeFormat.{node_format}
use Rattle.store_format.proofs.BatchesLawful.{is_lawful}
use Rattle.store_format.proofs.BatchesWritten.{batches_read_back}
use Rattle.store_format.proofs.Positive.{log_begins}
use Rattle.segment_store.specs.Loading.{kept_in, IsSeen, StaysSeen}
use Rattle.segment_store.proofs.LoadRooms.{segments_up, kept_of, log_up}

-- ---- calls

until_none : (ds : List NodeCall) (d e : NodeDisk) → e ≡ d → Until ds d e
until_none [] d e q = q
until_none (c ∷ ds) d e q = inl q

pub until_front : (cs ds : List NodeCall) (d e : NodeDisk) → Until cs d e → Until (cs ++ ds) d e
until_front [] ds d e q = until_none ds d e q
until_front (c ∷ cs) ds d e (inl q) = inl q
until_front (c ∷ cs) ds d e (inr (inl broke)) = inr (inl broke)
until_front (c ∷ cs) ds d e (inr (inr (m, (did, u)))) = inr (inr (m, (did, until_front cs ds m e u)))

-- calls that write, cut and remove no file of a name
abbrev pub Spares : Name → List NodeCall → Type 0
Spares n [] = Unit {0}
Spares n (WriteAt j at bytes ∷ cs) = (n ≡ j → ⊥) × Spares n cs
Spares n (CutTo j k ∷ cs) = (n ≡ j → ⊥) × Spares n cs
Spares n (Sync j ∷ cs) = Spares n cs
Spares n (Remove j ∷ cs) = (n ≡ j → ⊥) × Spares n cs
Spares n (SyncNames ∷ cs) = Spares n cs

pub spared : (n : Name) (cs : List NodeCall) (d e : NodeDisk) → Spares n cs → Done cs d e → e.read n ≡ d.read n
spared n [] d e s q = ap (λ (x : NodeDisk). x.read n) q
spared n (WriteAt j at bytes ∷ cs) d e s (m, (did, rest)) = spared n cs m e s.1 rest ∙ did.others.read n s.0
spared n (CutTo j k ∷ cs) d e s (m, (did, rest)) = spared n cs m e s.1 rest ∙ did.others.read n s.0
spared n (Sync j ∷ cs) d e s (m, (did, rest)) = spared n cs m e s rest ∙ synced (tell n j)
  where
    synced : Apart n j → m.read n ≡ d.read n
    synced (same q) = ap m.read q ∙ did.read ∙ ap d.read (sym q)
    synced (apart a) = did.others.read n a
spared n (Remove j ∷ cs) d e s (m, (did, rest)) = spared n cs m e s.1 rest ∙ did.others.read n s.0
spared n (SyncNames ∷ cs) d e s (m, (did, rest)) = spared n cs m e s rest ∙ did.read n

pub spares_both : (n : Name) (cs ds : List NodeCall) → Spares n cs → Spares n ds → Spares n (cs ++ ds)
spares_both n [] ds s t = t
spares_both n (WriteAt j at bytes ∷ cs) ds s t = (s.0, spares_both n cs ds s.1 t)
spares_both n (CutTo j k ∷ cs) ds s t = (s.0, spares_both n cs ds s.1 t)
spares_both n (Sync j ∷ cs) ds s t = spares_both n cs ds s t
spares_both n (Remove j ∷ cs) ds s t = (s.0, spares_both n cs ds s.1 t)
spares_both n (SyncNames ∷ cs) ds s t = spares_both n cs ds s t

pub spares_sync : (n : Name) (ns : List Name) → Spares n (sync_all ns)
spares_sync n [] = tt
spares_sync n (m ∷ ns) = spares_sync n ns

pub spares_repair : (n : Name) (k : ℕ) (x : Found) → (n ≡ Segment k → ⊥) → Spares n (repair_calls node_format k x)
unfolding repair_calls
spares_repair n k x a = which x.there (nat_lt 0 (node_format.version x.bytes)) (is_whole node_format x.bytes) _
  where
    which : (b c w : Bool) (l : ℕ) → Spares n (cond b (cond c (cond w [] (CutTo (Segment k) l ∷ Sync (Segment k) ∷ [])) (Remove (Segment k) ∷ SyncNames ∷ [])) [])
    which false c w l = tt
    which true false w l = (a, tt)
    which true true true l = tt
    which true true false l = (a, tt)

pub spares_append : (n : Name) (k at : ℕ) (word enc : List ℕ) → (n ≡ Segment k → ⊥) → Spares n (append_calls k false at word enc)
spares_append n k at word enc a = (a, (a, tt))

-- ---- the load

module _ (D : NodeDisk) (seen : IsSeen D) (ns : List Name) (listed : Names D ns) (k : ℕ) (digits : k < 10000000000000000)
    (above : (j : ℕ) → k < j → (D.read (Segment j)).there ≡ false)
    (below : (j : ℕ) → j < k → (D.read (Segment j)).there ≡ true → is_whole node_format (D.read (Segment j)).bytes ≡ true)
    (new : Kept) (is_new : kept_in D.read ≡ Loaded new)
    (fits : (file_log node_format 10000000000000000 D.read).first < 2 ^ 64) where
  loadable : Loadable node_format k D
  loadable = record { seen = seen; above = above; below = below }

  same_segments : segments 10000000000000000 D.read ≡ segments (suc k) D.read
  same_segments = segments_up (suc k) 10000000000000000 D.read (λ j h. above j (omega (arith, h))) (omega (arith, digits))

  reads : kept node_format (suc k) D.read ≡ Loaded new
  reads = sym (kept_of node_format (suc k) 10000000000000000 D.read same_segments) ∙ is_new

  log_is : file_log node_format 10000000000000000 D.read ≡ file_log node_format (suc k) D.read
  log_is = log_up node_format (suc k) 10000000000000000 D.read same_segments

  -- the batch that empties the log
  abbrev pub emptying : Log
  emptying = record { first = (file_log node_format 10000000000000000 D.read).first; entries = [] }

  abbrev pub enc : List ℕ
  enc = batch_bytes emptying

  writes : Writes node_format (record { first = (file_log node_format (suc k) D.read).first; entries = [] }) segment_word enc
  writes =
      subst (λ (l : Log). Writes node_format (record { first = l.first; entries = [] }) segment_word enc) log_is
      (batches_read_back emptying (record { some = log_begins 10000000000000000 D.read; first = fits; count = omega arith; heads = tt }))

  begins : 0 < (file_log node_format (suc k) D.read).first
  begins = log_begins (suc k) D.read

  abbrev pub front : List NodeCall
  front = sync_all ns ++ repair_calls node_format k (D.read (Segment k))

  abbrev pub all_calls : List NodeCall
  all_calls = front ++ append_calls (suc k) false 0 segment_word enc

  abbrev calls : List NodeCall
  calls = load_calls node_format k D.read ns segment_word enc

  abbrev pub stale : Bool
  stale = is_stale (snap_in node_format D.read) (file_log node_format 10000000000000000 D.read)

  stale_is : is_stale (snap_in node_format D.read) (file_log node_format (suc k) D.read) ≡ stale
  stale_is = ap (is_stale (snap_in node_format D.read)) (sym log_is)

  fresh_calls : stale ≡ false → calls ≡ front
  fresh_calls e =
      ap (λ (cs : List NodeCall). sync_all ns ++ (repair_calls node_format k (D.read (Segment k)) ++ cs)) (cond-false _ (append_calls (suc k) false 0 segment_word enc) [] (stale_is ∙ e))
      ∙ ap (λ (cs : List NodeCall). sync_all ns ++ cs) (append-nil (repair_calls node_format k (D.read (Segment k))))

  stale_calls : stale ≡ true → calls ≡ all_calls
  stale_calls e =
      ap (λ (cs : List NodeCall). sync_all ns ++ (repair_calls node_format k (D.read (Segment k)) ++ cs)) (cond-true _ (append_calls (suc k) false 0 segment_word enc) [] (stale_is ∙ e))
      ∙ sym (append_assoc (sync_all ns) (repair_calls node_format k (D.read (Segment k))) (append_calls (suc k) false 0 segment_word enc))

  whole : (e : NodeDisk) → Until calls D e → suc k < 10000000000000000 → StaysSeen D e
  whole e u room = record {
    crash = λ g left fair. (whole_load_holds node_format is_lawful k D loadable ns listed new reads begins segment_word enc writes).0 10000000000000000 (omega (arith, room)) e u g left fair;
    seen = whole_load_seen node_format k D loadable ns listed segment_word enc e u;
  }

  front_in : (e : NodeDisk) → Until front D e → Until calls D e
  front_in e u = elim (cases_Bool stale) [
    | inl t ↦ subst (λ (cs : List NodeCall). Until cs D e) (sym (stale_calls t)) (until_front front (append_calls (suc k) false 0 segment_word enc) D e u)
    | inr f ↦ subst (λ (cs : List NodeCall). Until cs D e) (sym (fresh_calls f)) u
  ]

  -- while all is synced and the last segment is repaired
  pub front_moments : (e : NodeDisk) → Until front D e → StaysSeen D e
  front_moments e u = elim (cases_eq (suc k) 10000000000000000) [
    | inr ne ↦ whole e (front_in e u) (omega (arith, ne, digits))
    | inl last ↦ record {
      crash = λ g left fair.
          let z = (load_holds node_format is_lawful k D loadable ns listed).0 e u g left fair in
          (z.0, (z.1.0, (ap (λ (t : ℕ). kept node_format t g) (sym last) ∙ z.1.1.0 ∙ ap (λ (t : ℕ). kept node_format t z.0) last, z.1.1.1)));
      seen = whole_load_seen node_format k D loadable ns listed segment_word enc e (front_in e u);
    }
  ]

  -- and while the log is emptied
  pub all_moments : (e : NodeDisk) → suc k < 10000000000000000 → stale ≡ true → Until all_calls D e → StaysSeen D e
  all_moments e room t u = whole e (subst (λ (cs : List NodeCall). Until cs D e) (sym (stale_calls t)) u) room

  -- ---- the end

  at_end : (e : NodeDisk) → Done calls D e → Comes node_format (suc (suc k)) e new
  at_end e u = (whole_load_holds node_format is_lawful k D loadable ns listed new reads begins segment_word enc writes).1 e u

  pub all_ends : (e : NodeDisk) → stale ≡ true → Done all_calls D e → Comes node_format (suc (suc k)) e new
  all_ends e t u = at_end e (subst (λ (cs : List NodeCall). Done cs D e) (sym (stale_calls t)) u)

  none_above : (e : NodeDisk) → Done front D e → (e.read (Segment (suc k))).there ≡ false
  none_above e u = ((load_holds node_format is_lawful k D loadable ns listed).1 e u).still.above (suc k) (omega arith)

  -- if no batch was written, the number of the last segment is enough
  pub front_ends : (e : NodeDisk) → stale ≡ false → Done front D e → Comes node_format (suc k) e new
  front_ends e f u =
      let c = at_end e (subst (λ (cs : List NodeCall). Done cs D e) (sym (fresh_calls f)) u) in
      let none = none_above e u in
      let up = segments_up (suc k) (suc (suc k)) e.read (λ j h. no_more e u j h) (omega arith) in
      let settled : Settled node_format (suc k) e = record {
        first = c.settled.first;
        second = c.settled.second;
        segment = c.settled.segment;
        above = λ j h. no_more e u j h;
        whole = c.settled.whole;
        snap_read = c.settled.snap_read;
        snap = c.settled.snap;
        snap_rest = c.settled.snap_rest;
        steady = subst (Steady (snap_in node_format e.read)) (log_up node_format (suc k) (suc (suc k)) e.read up) c.settled.steady;
      } in
      let read = sym (kept_of node_format (suc k) (suc (suc k)) e.read up) ∙ c.read in
      record { settled = settled; read = read; crash = λ g left. settled_images node_format (suc k) e settled g left ∙ read }
    where
      no_more : (e : NodeDisk) → Done front D e → (j : ℕ) → suc k ≤ j → (e.read (Segment j)).there ≡ false
      no_more e u j h = ((load_holds node_format is_lawful k D loadable ns listed).1 e u).still.above j (omega (arith, h))

  -- the other files are as they were
  pub front_others : (n : Name) → (n ≡ Segment k → ⊥) → (e : NodeDisk) → Done front D e → e.read n ≡ D.read n
  front_others n a e u = spared n front D e (spares_both n (sync_all ns) _ (spares_sync n ns) (spares_repair n k (D.read (Segment k)) a)) u

  pub all_others : (n : Name) → (n ≡ Segment k → ⊥) → (n ≡ Segment (suc k) → ⊥) → (e : NodeDisk) → Done all_calls D e → e.read n ≡ D.read n
  all_others n a b e u = spared n all_calls D e (spares_both n front _ (spares_both n (sync_all ns) _ (spares_sync n ns) (spares_repair n k (D.read (Segment k)) a)) (spares_append n (suc k) 0 segment_word enc b)) u

  -- no segment has the next number
  pub none_after : (e : NodeDisk) → Done front D e → ((e.read (Segment (suc k))).there ≡ false) × Rest (e.held (Segment (suc k))) (e.read (Segment (suc k)))
  none_after e u = let x = (load_holds node_format is_lawful k D loadable ns listed).1 e u in (x.still.above (suc k) (omega arith), x.still.segment (suc k))
