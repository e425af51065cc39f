-- Which store is open after a load, and what is left where it failed.
use Rattle.std.proofs.Common.{◌≡◌, inr, ℕ, suc, ◌^◌, ◌<◌, true, false, List, [], ◌∷◌, ◌++◌, Option, None, sym, ap, ◌∙◌, subst, arith}
use Rattle.std.specs.Prelude.{◌&&◌}
use Rattle.disk_model.specs.Disk.{Disk, Found}
use Rattle.disk_model.specs.Calls.{Call, Done, Until}
use Rattle.disk_model.specs.Trait.{Text}
use Rattle.disk_model.specs.Spelled.{all_spelled}
use Rattle.disk_model.specs.SyncAll.{sync_all}
use Rattle.disk_model.proofs.Spelling.{done_under, until_under}
use Rattle.store_laws.specs.Names.{Name, First, Second, Segment, Snapshot, NodeDisk, NodeCall}
use Rattle.store_laws.specs.Store.{Loaded, Log, opens, meta_of}
use Rattle.store_laws.specs.Meta.{next_stamp}
use Rattle.store_laws.specs.Append.{append_calls}
use Rattle.store_laws.specs.Laws.{Comes}
use Rattle.store_laws.specs.Settled.{file_log}
use Rattle.store_laws.specs.WholeLoad.{is_stale}
use Rattle.store_laws.proofs.Answers.{meta_same}
use Rattle.store_format.specs.Batches.{batch_bytes}
use Rattle.store_format.specs.BatchesWritten.{segment_word}
use Rattle.store_format.specs.NodeFormat.{node_format}
use Rattle.store_format.specs.FilesRead.{FilesRead, judged, kept_by}
use Rattle.segment_store.specs.FileNames.{file_name}
use Rattle.segment_store.specs.Grow.{IsFree}
use Rattle.segment_store.specs.Keeps.{folder, HasNew}
use Rattle.segment_store.proofs.Joints.{settled_none, kept_top}
use Rattle.segment_store.specs.Listed.{FolderList, named, IsListed}
use Rattle.segment_store.specs.Loading.{kept_in, IsSeen, StaysSeen}
use Rattle.segment_store.specs.Open.{HasSize, HasSnapshots, segment_numbers}
use Rattle.segment_store.specs.Reads.{ReadsAll}
use Rattle.segment_store.specs.Repairs.{last_number}
use Rattle.segment_store.specs.Settling.{front_calls, emptying_calls, left_after}
use Rattle.segment_store.proofs.NoTwoAlike.{no_two_alike}
use Rattle.segment_store.proofs.LoadHolds.{front, all_calls, stale, front_moments, all_moments, front_ends, all_ends, front_others, all_others, none_after}
use Rattle.segment_store.proofs.LoadJudged.{judged_is, Last, last_is}
use Rattle.segment_store.proofs.LoadNumbers.{one_more, numbers_front, numbers_all}

done_both : (cs ds : List NodeCall) (d m e : NodeDisk) → Done cs d m → Done ds m e → Done (cs ++ ds) d e
done_both [] ds d m e q done = subst (λ (x : NodeDisk). Done ds x e) q done
done_both (c ∷ cs) ds d m e (p, (did, rest)) done = (p, (did, done_both cs ds p m e rest done))

until_both : (cs ds : List NodeCall) (d m e : NodeDisk) → Done cs d m → Until ds m e → Until (cs ++ ds) d e
until_both [] ds d m e q u = subst (λ (x : NodeDisk). Until ds x e) q u
until_both (c ∷ cs) ds d m e (p, (did, rest)) u = inr (inr (p, (did, until_both cs ds p m e rest u)))

until_of : (cs : List NodeCall) (d e : NodeDisk) → Done cs d e → Until cs d e
until_of [] d e q = q
until_of (c ∷ cs) d e (m, (did, rest)) = inr (inr (m, (did, until_of cs m e rest)))

module _ (l : FolderList) (r : FilesRead) (first second : Option ℕ) (d : Disk Text) (seen : IsSeen (folder d)) (listed : IsListed l (folder d)) (all : ReadsAll (folder d) r first second) (ok : judged r ≡ Loaded (kept_by r)) (fits : r.segments.log.first < 2 ^ 64) where
  abbrev D : NodeDisk
  D = folder d

  abbrev k : ℕ
  k = last_number r.segments.last

  last : Last l r.segments.last D
  last = last_is l D r first second listed all ok

  reads : kept_in D.read ≡ Loaded (kept_by r)
  reads = judged_is D r first second all ∙ ok

  room : (file_log node_format 10000000000000000 D.read).first < 2 ^ 64
  room = subst (λ (x : Log). x.first < 2 ^ 64) all.segments.log fits

  abbrev its_front : List NodeCall
  its_front = front D seen (named l.files) listed.among k last.digits last.above last.below (kept_by r) reads room

  abbrev its_all : List NodeCall
  its_all = all_calls D seen (named l.files) listed.among k last.digits last.above last.below (kept_by r) reads room

  front_is : front_calls l r.segments.last ≡ its_front
  front_is = ap (λ (cs : List NodeCall). sync_all (named l.files) ++ cs) last.calls

  stale_is : is_stale r.snap r.segments.log ≡ stale D seen (named l.files) listed.among k last.digits last.above last.below (kept_by r) reads room
  stale_is = λ i. is_stale (all.snap i) (all.segments.log i)

  front_done : (e : Disk Text) → Done (all_spelled file_name (front_calls l r.segments.last)) d e → Done its_front D (folder e)
  front_done e u = subst (λ (cs : List NodeCall). Done cs D (folder e)) front_is (done_under file_name no_two_alike (front_calls l r.segments.last) d e u)

  -- a call failed while all was synced and repaired
  pub front_fails : (e : Disk Text) → Until (all_spelled file_name (front_calls l r.segments.last)) d e → StaysSeen D (folder e)
  front_fails e u =
      front_moments D seen (named l.files) listed.among k last.digits last.above last.below (kept_by r) reads room (folder e)
      (subst (λ (cs : List NodeCall). Until cs D (folder e)) front_is (until_under file_name no_two_alike (front_calls l r.segments.last) d e u))

  -- or after it
  pub front_stops : (e : Disk Text) → Done (all_spelled file_name (front_calls l r.segments.last)) d e → StaysSeen D (folder e)
  front_stops e u =
      front_moments D seen (named l.files) listed.among k last.digits last.above last.below (kept_by r) reads room (folder e)
      (until_of its_front D (folder e) (front_done e u))

  stamp : (version : ℕ) → next_stamp r.meta ≡ suc (suc version) → (e : NodeDisk) → e.read First ≡ D.read First → e.read Second ≡ D.read Second → next_stamp (meta_of node_format e.read) ≡ suc (suc version)
  stamp version q e a b = ap next_stamp (meta_same node_format e.read D.read a b ∙ sym all.meta) ∙ q

  snapshots : (e : NodeDisk) → ((j : ℕ) → e.read (Snapshot j) ≡ D.read (Snapshot j)) → HasSnapshots l.snapshots e.read
  snapshots e same j h = ap (λ (x : Found). x.there) (same j) ∙ listed.there (Snapshot j) h

  -- the store, if the log isn't emptied
  pub front_opens : (version : ℕ) → next_stamp r.meta ≡ suc (suc version) → is_stale r.snap r.segments.log ≡ false → (e : Disk Text) → Done (all_spelled file_name (front_calls l r.segments.last)) d e
      → HasNew (record { version = version; first = first; second = second; next = suc k; size = None; segments = left_after r.segments.last l.segments; snapshots = l.snapshots }) (kept_by r) (folder e)
  front_opens version v fresh e u =
      let E = folder e in
      let f = front_done e u in
      let c : Comes node_format (suc k) E (kept_by r) = front_ends D seen (named l.files) listed.among k last.digits last.above last.below (kept_by r) reads room E (sym stale_is ∙ fresh) f in
      let other : (n : Name) → (n ≡ Segment k → ⊥) → E.read n ≡ D.read n = λ n a. front_others D seen (named l.files) listed.among k last.digits last.above last.below (kept_by r) reads room n a E f in
      let one : E.read First ≡ D.read First = other First (λ q. absurd cc) in
      let two : E.read Second ≡ D.read Second = other Second (λ q. absurd cc) in
      record {
        is_open = record {
          settled = c.settled;
          reads = c.read;
          stamp = stamp version v E one two;
          first = subst (HasSize first) (sym one) all.first_size;
          second = subst (HasSize second) (sym two) all.second_size;
          grows = tt;
          segments = last.left ∙ sym (numbers_front (named l.files) k D E f);
          snapshots = snapshots E (λ j. other (Snapshot j) (λ q. absurd cc));
        };
        crash = λ g left. kept_top (suc k) E (settled_none (suc k) E c.settled) (omega (arith, last.digits)) g left ∙ c.crash g left;
      }

  -- ---- a log that is emptied

  abbrev number : ℕ
  number = suc k

  -- the batch is written for the log of the files
  emptying_is : all_spelled file_name (append_calls number false 0 segment_word (batch_bytes (record { first = (file_log node_format 10000000000000000 D.read).first; entries = [] }))) ≡ emptying_calls number r.segments.log.first
  emptying_is = ap (λ (x : Log). emptying_calls number x.first) (sym all.segments.log)

  -- no segment has the number
  pub number_free : (m : Disk Text) → Done (all_spelled file_name (front_calls l r.segments.last)) d m → IsFree (file_name (Segment number)) m
  number_free m u =
      let n = none_after D seen (named l.files) listed.among k last.digits last.above last.below (kept_by r) reads room (folder m) (front_done m u) in
      record { not_there = n.0; rest = n.1 }

  pub empty_fails : (m e : Disk Text) → number < 10000000000000000 → is_stale r.snap r.segments.log ≡ true → Done (all_spelled file_name (front_calls l r.segments.last)) d m → Until (emptying_calls number r.segments.log.first) m e → StaysSeen D (folder e)
  empty_fails m e small s u v =
      all_moments D seen (named l.files) listed.among k last.digits last.above last.below (kept_by r) reads room (folder e) small (sym stale_is ∙ s)
      (until_both its_front _ D (folder m) (folder e) (front_done m u) (until_under file_name no_two_alike (append_calls number false 0 segment_word _) m e (subst (λ (cs : List (Call Text)). Until cs m e) (sym emptying_is) v)))

  pub empty_opens : number < 10000000000000000 → (version : ℕ) → next_stamp r.meta ≡ suc (suc version) → (m e : Disk Text) → is_stale r.snap r.segments.log ≡ true → Done (all_spelled file_name (front_calls l r.segments.last)) d m → Done (emptying_calls number r.segments.log.first) m e
      → HasNew (record { version = version; first = first; second = second; next = suc number; size = None; segments = left_after r.segments.last l.segments ++ number ∷ []; snapshots = l.snapshots }) (kept_by r) (folder e)
  empty_opens small version v m e s u w =
      let E = folder e in
      let a : Done its_all D E = done_both its_front _ D (folder m) E (front_done m u) (done_under file_name no_two_alike (append_calls number false 0 segment_word _) m e (subst (λ (cs : List (Call Text)). Done cs m e) (sym emptying_is) w)) in
      let c : Comes node_format (suc number) E (kept_by r) = all_ends D seen (named l.files) listed.among k last.digits last.above last.below (kept_by r) reads room E (sym stale_is ∙ s) a in
      let other : (n : Name) → (n ≡ Segment k → ⊥) → (n ≡ Segment number → ⊥) → E.read n ≡ D.read n = λ n x y. all_others D seen (named l.files) listed.among k last.digits last.above last.below (kept_by r) reads room n x y E a in
      let one : E.read First ≡ D.read First = other First (λ q. absurd cc) (λ q. absurd cc) in
      let two : E.read Second ≡ D.read Second = other Second (λ q. absurd cc) (λ q. absurd cc) in
      record {
        is_open = record {
          settled = c.settled;
          reads = c.read;
          stamp = stamp version v E one two;
          first = subst (HasSize first) (sym one) all.first_size;
          second = subst (HasSize second) (sym two) all.second_size;
          grows = tt;
          segments = ap (λ (xs : List ℕ). xs ++ number ∷ []) last.left ∙ sym (numbers_all its_front k segment_word _ D E a (segment_numbers k D.read ++ one_more k ((D.read (Segment k)).there && opens node_format (D.read (Segment k)).bytes)) (λ n f. numbers_front (named l.files) k D n f));
          snapshots = snapshots E (λ j. other (Snapshot j) (λ q. absurd cc) (λ q. absurd cc));
        };
        crash = λ g left. kept_top (suc number) E (settled_none (suc number) E c.settled) (omega (arith, small)) g left ∙ c.crash g left;
      }
