-- A snapshot is kept or not, at each moment of all its calls.
use Rattle.std.proofs.Common.{◌≡◌, ◌≢◌, ◌⊎◌, inl, inr, ℕ, zero, suc, ◌+◌, ◌≤◌, ◌<◌, Bool, true, false, List, [], ◌∷◌, ◌++◌, refl, sym, ap, ◌∙◌, subst, cond, arith}
use Rattle.std.proofs.lemmas.List.{append-nil}
use Rattle.disk_model.specs.Disk.{Found, Leaves}
use Rattle.disk_model.specs.Calls.{Remove, SyncNames, Done, Until}
use Rattle.store_laws.specs.Names.{Name, Segment, Snapshot, NodeFiles, NodeDisk, NodeCall}
use Rattle.store_laws.specs.Store.{Format, Meta, Snap, Log, Kept, Loaded, kept, meta_of, segments, all_batches, behind, log_of, empty_log, put_batch, snap_in, is_whole}
use Rattle.store_laws.specs.Settled.{Settled, Steady, fits, file_log}
use Rattle.store_laws.specs.Load.{Still, tail_of, remove_from}
use Rattle.store_laws.specs.Chance.{Lawful, NoChance}
use Rattle.store_laws.specs.Append.{append_calls, with_log, Takes, Writes}
use Rattle.store_laws.specs.Laws.{AnyMoment, Comes}
use Rattle.store_laws.specs.Snapshots.{Longer, Stays, part, nothing, Left, given, IsLonger, snapshot_calls, remove_snapshots, AllBelow, keep_calls, KeepSnapshot}
use Rattle.disk_model.proofs.Untils.{until_append, done_append}
use Rattle.store_laws.proofs.Folders.{segments_suc, kept_by, answer_is, has_stamp}
use Rattle.store_laws.proofs.AppendImages.{loaded_parts}
use Rattle.store_laws.proofs.AppendLaw.{Grew, both, still_of, settled_of}
use Rattle.store_laws.proofs.Logs.{log_one, behind_past}
use Rattle.store_laws.proofs.SnapshotLogs.{longer_refl, put_longer, put_empty}
use Rattle.store_laws.proofs.SnapshotLaw.{before_batch, left_before, with_batch_kept, with_batch_left}
use Rattle.store_laws.proofs.SnapshotFile.{SnapEnded, file_moments, file_ended}
use Rattle.store_laws.proofs.KeepLaw.{behind_it, with_new, file_image, file_snaps, file_metas, file_segment, file_segments, file_still}
use Rattle.store_laws.proofs.Olders.{high, remove_older_holds}
use Rattle.store_laws.proofs.OlderLogs.{older_log_holds, tail_batches, none_left, sound_tail}
use Rattle.store_laws.proofs.OlderSnapshots.{older_moment, older_gone}
use Rattle.store_laws.proofs.Answers.{segments_same, meta_same}
use Rattle.store_laws.proofs.Rooms.{more_room_holds}

-- segments that are there in the same numbers go by the same calls
pub same_removals : (r q : NodeFiles) (a n : ℕ) → ((j : ℕ) → j < a + n → r (Segment j) ≡ q (Segment j)) → remove_from r a n ≡ remove_from q a n
same_removals r q a zero same = refl
same_removals r q a (suc n) same =
    let rest = same_removals r q (suc a) n (λ j h. same j (omega arith)) in
    let here : r (Segment a) ≡ q (Segment a) = same a (omega arith) in
    λ i. cond (here i).there (Remove (Segment a) ∷ SyncNames ∷ rest i) (rest i)

-- the log that stays is kept after the new snapshot
stays_behind : (s : Snap) (old new : Log) → Stays s old new → behind s new ≡ new
stays_behind s old new (part e o keep) = keep
stays_behind s old new (nothing e n) = behind_past s new (omega (arith, ap (λ (l : Log). l.first) n))

module _ (f : Format) (law : Lawful f) (k : ℕ) (d : NodeDisk) (sd : Settled f (suc k) d) (absent : (d.read (Segment k)).there ≡ false) (gap : (file_log f (suc k) d.read).first ≤ suc (snap_in f d.read).index) (stamp : (meta_of f d.read).stamp ≢ 0)
    (old : Kept) (is_old : kept f (suc k) d.read ≡ Loaded old) (s : Snap) (enc : List ℕ) (past : (snap_in f d.read).index < s.index) (within : s.index < f.numbers) (reads : f.snap s.index enc ≡ s)
    (new : Log) (stays : Stays s (behind (snap_in f d.read) (file_log f (suc k) d.read)) new) (upto : new.first ≤ suc s.index) (word batch : List ℕ) (w : Writes f new word batch) where
  abbrev L : Log
  L = file_log f (suc k) d.read

  abbrev t : Snap
  t = snap_in f d.read

  abbrev term : ℕ
  term = (meta_of f d.read).term

  abbrev vote : ℕ
  vote = (meta_of f d.read).vote

  abbrev K1 : Kept
  K1 = behind_it f law k d sd gap stamp s enc past within reads

  abbrev newer : Log
  newer = behind s (put_batch L new)

  abbrev Ends : NodeFiles → Type 0
  Ends g = IsLonger f (suc k) g term vote s (behind t L) new

  no_gap : (put_batch L new).first ≤ suc s.index
  no_gap = omega (arith, (put_longer L new).first)

  with_batch : Longer newer new
  with_batch = with_batch_kept t s past L new sd.steady stays (put_batch L new) (put_longer L new) (longer_refl (put_batch L new))

  batch_left : Left s (behind t L) new newer
  batch_left = with_batch_left t s past L new sd.steady stays (put_batch L new) (put_longer L new) (longer_refl (put_batch L new))

  -- the new segment, after the file
  module _ (e1 : NodeDisk) (z : SnapEnded (Snapshot s.index) enc d e1) where
    still1 : Still f k e1
    still1 = file_still f law k d sd gap stamp s enc past within reads e1 z

    snaps1 : snap_in f e1.read ≡ s
    snaps1 = file_snaps f law k d sd gap stamp s enc past within reads e1 z

    metas1 : meta_of f e1.read ≡ meta_of f d.read
    metas1 = file_metas f law k d sd gap stamp s enc past within reads e1 z

    segs1 : segments (suc k) e1.read ≡ segments (suc k) d.read
    segs1 = file_segments f law k d sd gap stamp s enc past within reads e1 z

    segment1 : (j : ℕ) → e1.read (Segment j) ≡ d.read (Segment j)
    segment1 = file_segment f law k d sd gap stamp s enc past within reads e1 z

    absent1 : (e1.read (Segment k)).there ≡ false
    absent1 = ap (λ (x : Found). x.there) (segment1 k) ∙ absent

    takes1 : Takes (snap_in f e1.read) (file_log f (suc k) e1.read) new newer
    takes1 = record {
      log = λ i. behind (snaps1 i) (put_batch (log_of empty_log (all_batches f (segs1 i))) new);
      no_gap = subst (λ (x : Snap). (put_batch (file_log f (suc k) e1.read) new).first ≤ suc x.index) (sym snaps1) (subst (λ (l : List (List ℕ)). (put_batch (log_of empty_log (all_batches f l)) new).first ≤ suc s.index) (sym segs1) no_gap);
    }

    gone : (e1.read (Segment k)).there ≡ true → ⊥
    gone y = let q : false ≡ true = sym absent1 ∙ y in absurd cc

    batch1 : AnyMoment f (suc k) (append_calls k false 0 word batch) e1 K1 (with_log newer K1) × ((e : NodeDisk) → Done (append_calls k false 0 word batch) e1 e → Grew f k e1 e new (with_log newer K1))
    batch1 = both f law k e1 still1 (λ y. absurd (gone y)) K1 (with_new f law k d sd gap stamp s enc past within reads e1.read metas1 snaps1 segs1) new newer
        (λ y. stamp (sym (ap (λ (m : Meta). m.stamp) metas1) ∙ y)) takes1 word batch w (λ y. absurd (gone y)) false absent1

    batch_image : (e : NodeDisk) → Until (append_calls k false 0 word batch) e1 e → (g : NodeFiles) → Leaves e g → NoChance f e g → Ends g
    batch_image e u g left fair = elim (batch1.0 e u g left fair) [
      | inl q ↦ record { log = behind s L; kept_is = q; longer = before_batch t s past L new sd.steady stays; left = left_before t s past L new sd.steady stays }
      | inr q ↦ record { log = newer; kept_is = q; longer = with_batch; left = batch_left }
    ]

    -- older segments, after the batch
    module _ (e2 : NodeDisk) (grew : Grew f k e1 e2 new (with_log newer K1)) where
      snaps2 : snap_in f e2.read ≡ s
      snaps2 = grew.snaps ∙ snaps1

      metas2 : meta_of f e2.read ≡ meta_of f d.read
      metas2 = grew.metas ∙ metas1

      below2 : (j : ℕ) → j < k → e2.read (Segment j) ≡ d.read (Segment j)
      below2 j h = grew.below j h ∙ segment1 j

      segs2 : segments k e2.read ≡ segments k d.read
      segs2 = segments_same k e2.read d.read below2

      without : segments (suc k) d.read ≡ segments k d.read
      without = segments_suc k d.read ∙ ap (λ (b : Bool). segments k d.read ++ cond b ((d.read (Segment k)).bytes ∷ []) []) absent ∙ append-nil (segments k d.read)

      old_log : log_of empty_log (all_batches f (segments k e2.read)) ≡ L
      old_log = ap (λ (l : List (List ℕ)). log_of empty_log (all_batches f l)) (segs2 ∙ sym without)

      last2 : all_batches f (segments (suc k) e2.read) ≡ all_batches f (segments k e2.read) ++ new ∷ []
      last2 = grew.batches ∙ ap (λ (l : List (List ℕ)). all_batches f l ++ new ∷ []) (segs1 ∙ without ∙ sym segs2)

      stamp2 : (meta_of f e2.read).stamp ≢ 0
      stamp2 y = stamp (sym (ap (λ (m : Meta). m.stamp) metas2) ∙ y)

      tails : (m : ℕ) → m ≤ k → Ends (tail_of e2.read m)
      tails m h =
          let o = older_log_holds f law k e2 grew.still new last2 stamp2 t (subst (λ (x : Snap). t.index < x.index) (sym snaps2) past)
          (subst (Steady t) (sym old_log) sd.steady)
          (subst (λ (x : Snap). Stays x (behind t (log_of empty_log (all_batches f (segments k e2.read)))) new) (sym snaps2) (subst (λ (l : Log). Stays s (behind t l) new) (sym old_log) stays))
          (subst (λ (x : Snap). new.first ≤ suc x.index) (sym snaps2) upto) m h in
          record {
            log = o.log;
            kept_is = o.kept_is ∙ (λ i. Loaded (record { term = (metas2 i).term; vote = (metas2 i).vote; snap = snaps2 i; log = o.log }));
            longer = o.longer;
            left = subst (λ (x : Snap). Left x (behind t L) new o.log) snaps2 (subst (λ (l : Log). Left (snap_in f e2.read) (behind t l) new o.log) old_log o.left);
          }

      removals : remove_from d.read 0 k ≡ remove_from e2.read 0 k
      removals = same_removals d.read e2.read 0 k (λ j h. sym (below2 j (omega arith)))

      older : (((e : NodeDisk) → Until (remove_from e2.read 0 k) e2 e → (g : NodeFiles) → Leaves e g → (m : ℕ) × ((m ≤ k) × (kept f (suc k) g ≡ kept f (suc k) (tail_of e2.read m)))))
          × ((e : NodeDisk) → Done (remove_from e2.read 0 k) e2 e → Still f k e × ((n : Name) → e.read n ≡ tail_of e2.read k n))
      older = remove_older_holds f k e2 grew.still

      older_image : (e : NodeDisk) → Until (remove_from d.read 0 k) e2 e → (g : NodeFiles) → Leaves e g → Ends g
      older_image e u g left =
          let p = older.0 e (subst (λ (cs : List NodeCall). Until cs e2 e) removals u) g left in
          let o = tails p.0 p.1.0 in
          record { log = o.log; kept_is = p.1.1 ∙ o.kept_is; longer = o.longer; left = o.left }

      -- all older segments are gone
      module _ (e3 : NodeDisk) (u3 : Done (remove_from d.read 0 k) e2 e3) where
        done3 : Still f k e3 × ((n : Name) → e3.read n ≡ tail_of e2.read k n)
        done3 = older.1 e3 (subst (λ (cs : List NodeCall). Done cs e2 e3) removals u3)

        alone : all_batches f (segments (suc k) (tail_of e2.read k)) ≡ new ∷ []
        alone = tail_batches f k e2 new last2 k (omega arith) ∙ ap (λ (l : List Log). l ++ new ∷ []) (none_left f e2.read k)

        log3 : log_of empty_log (new ∷ []) ≡ new
        log3 = log_one empty_log new ∙ put_empty new

        reads3 : kept f (suc k) e3.read ≡ kept f (suc k) (tail_of e2.read k)
        reads3 = λ i. kept f (suc k) (λ n. done3.1 n i)

        loaded3 : kept f (suc k) e3.read ≡ Loaded (record { term = term; vote = vote; snap = s; log = new })
        loaded3 =
            reads3 ∙ kept_by f (suc k) (tail_of e2.read k) (meta_of f d.read) s true (new ∷ []) (meta_same f (tail_of e2.read k) e2.read refl refl ∙ metas2) snaps2 (sound_tail f k e2 grew.still k (omega arith)) alone
            ∙ answer_is (meta_of f d.read) s (new ∷ []) (subst (λ (l : Log). l.first ≤ suc s.index) (sym log3) upto) stamp
            ∙ (λ i. Loaded (record { term = term; vote = vote; snap = s; log = (ap (behind s) log3 ∙ stays_behind s _ new stays) i }))

        snaps3 : snap_in f e3.read ≡ s
        snaps3 = (λ i. snap_in f (λ n. done3.1 n i)) ∙ snaps2

        file_log3 : file_log f (suc k) e3.read ≡ new
        file_log3 = (λ i. file_log f (suc k) (λ n. done3.1 n i)) ∙ ap (log_of empty_log) alone ∙ log3

        whole3 : (e3.read (Segment k)).there ≡ true → is_whole f (e3.read (Segment k)).bytes ≡ true
        whole3 = subst (λ (x : Found). x.there ≡ true → is_whole f x.bytes ≡ true) (sym (done3.1 (Segment k) ∙ high e2.read k k (omega arith))) grew.whole

        settled3 : Settled f (suc k) e3
        settled3 = settled_of f k e3 done3.0 whole3 (subst (λ (x : Snap). Steady x (file_log f (suc k) e3.read)) (sym snaps3) (subst (Steady s) (sym file_log3) (fits (stays_behind s _ new stays))))

  module _ (gone : List ℕ) (low : AllBelow s.index gone) where
    abbrev last_calls : List NodeCall
    last_calls = remove_from d.read 0 k ++ remove_snapshots gone

    final : (e1 : NodeDisk) (z : SnapEnded (Snapshot s.index) enc d e1) (e2 : NodeDisk) (grew : Grew f k e1 e2 new (with_log newer K1)) (e3 : NodeDisk) (u3 : Done (remove_from d.read 0 k) e2 e3) → AllBelow (snap_in f e3.read).index gone
    final e1 z e2 grew e3 u3 = subst (λ (x : Snap). AllBelow x.index gone) (sym (snaps3 e1 z e2 grew e3 u3)) low

    pub all_moments : (e : NodeDisk) → Until (keep_calls d.read k s.index enc word batch gone) d e → (g : NodeFiles) → Leaves e g → NoChance f e g → (kept f (suc k) g ≡ Loaded old) ⊎ Ends g
    all_moments e u g left fair = elim (until_append (snapshot_calls (Snapshot s.index) (d.read (Snapshot s.index)).there enc) (append_calls k false 0 word batch ++ last_calls) d e u) [
      | inl v ↦ file_image f law k d sd gap stamp s enc past within reads new stays old is_old e g (file_moments (Snapshot s.index) enc d (sd.snap_rest s.index (omega arith)) e v) left fair
      | inr (e1, (v, u1)) ↦
          let z = file_ended (Snapshot s.index) enc d (sd.snap_rest s.index (omega arith)) e1 v in
          elim (until_append (append_calls k false 0 word batch) last_calls e1 e u1) [
            | inl v1 ↦ inr (batch_image e1 z e v1 g left fair)
            | inr (e2, (v1, u2)) ↦
                let grew = (batch1 e1 z).1 e2 v1 in
                elim (until_append (remove_from d.read 0 k) (remove_snapshots gone) e2 e u2) [
                  | inl v2 ↦ inr (older_image e1 z e2 grew e v2 g left)
                  | inr (e3, (v2, u3)) ↦
                      let c = older_moment f law (suc k) _ gone e3 e (settled3 e1 z e2 grew e3 v2) (loaded3 e1 z e2 grew e3 v2) (final e1 z e2 grew e3 v2) u3 in
                      inr (record { log = new; kept_is = c.crash g left; longer = longer_refl new; left = given refl })
                ]
          ]
    ]

    pub all_done : (e : NodeDisk) → Done (keep_calls d.read k s.index enc word batch gone) d e → Comes f (suc k) e (record { term = term; vote = vote; snap = s; log = new })
    all_done e u =
        let p1 = done_append (snapshot_calls (Snapshot s.index) (d.read (Snapshot s.index)).there enc) (append_calls k false 0 word batch ++ last_calls) d e u in
        let z = file_ended (Snapshot s.index) enc d (sd.snap_rest s.index (omega arith)) p1.0 p1.1.0 in
        let p2 = done_append (append_calls k false 0 word batch) last_calls p1.0 e p1.1.1 in
        let grew = (batch1 p1.0 z).1 p2.0 p2.1.0 in
        let p3 = done_append (remove_from d.read 0 k) (remove_snapshots gone) p2.0 e p2.1.1 in
        older_gone f law (suc k) _ gone p3.0 e (settled3 p1.0 z p2.0 grew p3.0 p3.1.0) (loaded3 p1.0 z p2.0 grew p3.0 p3.1.0) (final p1.0 z p2.0 grew p3.0 p3.1.0) p3.1.1

pub keep_snapshot_holds : KeepSnapshot
keep_snapshot_holds f law k d s0 old is_old s enc can new stays upto word batch w gone low =
    let room = more_room_holds f k d s0 in
    let sd = room.0 in
    let is : kept f (suc k) d.read ≡ Loaded old = room.1 ∙ is_old in
    let p = loaded_parts f law k d (still_of f k d sd) old is in
    let absent = s0.above k (omega arith) in
    let it = ap (λ (x : Kept). x.term) p.is in
    let stamp = has_stamp f law d.read (λ z. can.has_term (it ∙ z)) in
    let past = subst (λ (x : Snap). x.index < s.index) (ap (λ (x : Kept). x.snap) p.is) can.past in
    let st = subst (λ (l : Log). Stays s l new) (ap (λ (x : Kept). x.log) p.is) stays in
    let iv = ap (λ (x : Kept). x.vote) p.is in (
      λ e u g left fair. elim (all_moments f law k d sd absent p.no_gap stamp old is s enc past can.within can.reads new st upto word batch w gone low e u g left fair) [
        | inl q ↦ inl q
        | inr o ↦ inr (record { log = o.log; kept_is = o.kept_is ∙ (λ i. Loaded (record { term = sym it i; vote = sym iv i; snap = s; log = o.log })); longer = o.longer; left = subst (λ (l : Log). Left s l new o.log) (sym (ap (λ (x : Kept). x.log) p.is)) o.left })
      ],
      λ e u. subst (Comes f (suc k) e) (λ i. record { term = sym it i; vote = sym iv i; snap = s; log = new })
          (all_done f law k d sd absent p.no_gap stamp old is s enc past can.within can.reads new st upto word batch w gone low e u),
    )
