-- What was read says what the files represent, and what the last segment wants.
use Rattle.std.proofs.Common.{◌≡◌, inl, inr, ℕ, zero, suc, ◌+◌, ◌-◌, ◌<◌, ◌≤◌, Bool, true, false, cond, not, List, [], ◌∷◌, ◌++◌, length, take, drop, Option, Some, None, refl, sym, ap, ◌∙◌, subst, arith, length-append, length-drop}
use Rattle.std.specs.Prelude.{◌&&◌, ◌==◌, nat_lt, is_some}
use Rattle.std.proofs.lemmas.List.{append-nil, take_at}
use Rattle.std.proofs.lemmas.Bool.{cases_Bool, cases_eq, cases_lt, cond-true, cond-false, eq-eqb, ne_eqb}
use Rattle.disk_model.specs.Disk.{Found}
use Rattle.disk_model.specs.Calls.{CutTo, Sync, Remove, SyncNames}
use Rattle.store_laws.specs.Names.{Segment, NodeDisk, NodeCall}
use Rattle.store_laws.specs.Store.{Reader, Meta, Snap, Log, Kept, meta_of, snap_in, has_any, all_batches, Outcome, Loaded, Damaged, NoMeta, Gap, answer, kept, opens, reader, torn, is_empty, is_whole, behind, segments, sound}
use Rattle.store_laws.specs.Settled.{file_log}
use Rattle.store_laws.specs.Damage.{good_end}
use Rattle.store_laws.specs.Load.{repair_calls}
use Rattle.store_laws.proofs.Fronts.{stop_torn, go_torn}
use Rattle.store_format.specs.NodeFormat.{node_format}
use Rattle.store_format.proofs.BatchesLawful.{is_lawful}
use Rattle.store_format.specs.declared.segment_log.Damage.{Damage}
use Rattle.store_format.specs.declared.segment_log.LastSegment.{LastSegment}
use Rattle.store_format.specs.FilesRead.{FilesRead, lacks, judged, kept_by}
use Rattle.segment_store.specs.Listed.{FolderList, IsListed}
use Rattle.segment_store.specs.Loading.{kept_in}
use Rattle.segment_store.specs.Open.{segment_numbers}
use Rattle.segment_store.specs.Reads.{ReadsAll}
use Rattle.segment_store.specs.Repairs.{repairs, repairs_of, last_number}
use Rattle.segment_store.specs.Settling.{left_after}
use Rattle.segment_store.proofs.LoadNumbers.{one_more, numbers_next}
use Rattle.segment_store.proofs.LoadRooms.{EndsWith, ends_with, numbers_up}

-- ---- what the files represent

turned : (a : Bool) (d : Option Damage) (b c : Outcome) → cond a NoMeta (cond (not (is_some d)) b c) ≡ cond a NoMeta (cond (is_some d) c b)
turned true d b c = refl
turned false None b c = refl
turned false (Some d) b c = refl

abbrev form : Meta → Snap → Bool → Log → Bool → Outcome
form m s any log snd =
    cond ((m.stamp == 0) && cond any true (nat_lt 0 s.index)) NoMeta
    (cond snd (cond (nat_lt (suc s.index) log.first) (Gap log.first s.index) (Loaded (record { term = m.term; vote = m.vote; snap = s; log = behind s log }))) Damaged)

pub judged_is : (D : NodeDisk) (r : FilesRead) (first second : Option ℕ) → ReadsAll D r first second → kept_in D.read ≡ judged r
unfolding kept answer judged
judged_is D r first second all =
    let path : form (meta_of node_format D.read) (snap_in node_format D.read) (has_any (all_batches node_format (segments 10000000000000000 D.read))) (file_log node_format 10000000000000000 D.read) (sound node_format (segments 10000000000000000 D.read))
    ≡ form r.meta r.snap r.segments.any r.segments.log (not (is_some r.segments.damage)) =
    (λ i. form (sym all.meta i) (sym all.snap i) (sym all.segments.any i) (sym all.segments.log i) (all.segments.sound i)) in
    path ∙ turned (lacks r) r.segments.damage _ _

-- if they represent a state, there is no damage
no_damage : (z : Bool) (d : Option Damage) (gap : Bool) (x y : ℕ) (k n : Kept) → cond z NoMeta (cond (is_some d) Damaged (cond gap (Gap x y) (Loaded k))) ≡ Loaded n → is_some d ≡ false
no_damage true d gap x y k n e = absurd cc
no_damage false None gap x y k n e = refl
no_damage false (Some d) gap x y k n e = absurd cc

pub sound_is : (D : NodeDisk) (r : FilesRead) (first second : Option ℕ) → ReadsAll D r first second → judged r ≡ Loaded (kept_by r) → sound node_format (segments 10000000000000000 D.read) ≡ true
unfolding judged
sound_is D r first second all ok = all.segments.sound ∙ ap not (no_damage (lacks r) r.segments.damage _ _ _ _ _ ok)

-- ---- the last segment

torn_short : (rd : Reader) → (n : ℕ) (ys : List ℕ) → length (torn rd n ys) ≤ length ys
unfolding torn
torn_short rd zero ys = omega arith
torn_short rd (suc n) ys = elim (cases_eq (rd ys).size 0) [
  | inl z ↦ let e : length (torn rd (suc n) ys) ≡ length ys = ap length (stop_torn rd (suc n) ys z) in omega (arith, e)
  | inr ne ↦
      let e : length (torn rd (suc n) ys) ≡ length (torn rd n (drop (rd ys).size ys)) = ap length (go_torn rd n ys ne) in
      let h : length (torn rd n (drop (rd ys).size ys)) ≤ length (drop (rd ys).size ys) = torn_short rd n (drop (rd ys).size ys) in
      let k : length (drop (rd ys).size ys) ≡ length ys - (rd ys).size = length-drop (rd ys).size ys in
      omega (arith, e, h, k)
]

pub repair_is : (k : ℕ) (x : Found) (last : LastSegment) → x.there ≡ true → last.number ≡ k → last.size ≡ length x.bytes → last.good ≡ good_end node_format x.bytes → repair_calls node_format k x ≡ repairs last
unfolding repair_calls good_end is_whole
repair_is k x last t number size good = cond-true _ _ _ t ∙ by_word (opens node_format x.bytes) refl
  where
    left : List ℕ
    left = torn (reader node_format x.bytes) (length x.bytes) (drop 8 x.bytes)

    removal : List NodeCall
    removal = Remove (Segment k) ∷ SyncNames ∷ []

    cut : List NodeCall
    cut = CutTo (Segment k) (length x.bytes - length left) ∷ Sync (Segment k) ∷ []

    named : (j : ℕ) → j ≡ k → (Remove (Segment j) ∷ SyncNames ∷ []) ≡ removal
    named j e = ap (λ (i : ℕ). Remove (Segment i) ∷ SyncNames ∷ []) e

    tail : (l : List ℕ) → length l ≤ length x.bytes - 8 → 8 ≤ length x.bytes → last.good ≡ length x.bytes - length l
        → cond (is_empty l) [] (CutTo (Segment k) (length x.bytes - length l) ∷ Sync (Segment k) ∷ []) ≡ cond (last.good == 0) (Remove (Segment last.number) ∷ SyncNames ∷ []) (cond (last.good == last.size) [] (CutTo (Segment last.number) last.good ∷ Sync (Segment last.number) ∷ []))
    tail [] short long g =
        sym (cond-false _ (Remove (Segment last.number) ∷ SyncNames ∷ []) _ (ne_eqb last.good 0 (λ q. absurd (omega (arith, q, g, long))))
        ∙ cond-true _ [] (CutTo (Segment last.number) last.good ∷ Sync (Segment last.number) ∷ []) (eq-eqb last.good last.size (omega (arith, g, size))))
    tail (y ∷ ys) short long g =
        sym (cond-false _ (Remove (Segment last.number) ∷ SyncNames ∷ []) _ (ne_eqb last.good 0 (λ q. absurd (omega (arith, q, g, short, long))))
        ∙ cond-false _ [] (CutTo (Segment last.number) last.good ∷ Sync (Segment last.number) ∷ []) (ne_eqb last.good last.size (λ q. absurd (omega (arith, q, g, size, short, long))))
        ∙ (λ i. CutTo (Segment (number i)) (g i) ∷ Sync (Segment (number i)) ∷ []))

    by_word : (o : Bool) → opens node_format x.bytes ≡ o → cond (opens node_format x.bytes) (cond (opens node_format x.bytes && is_empty left) [] cut) removal ≡ repairs last
    by_word false o =
        let none : last.good ≡ 0 = good ∙ cond-false (opens node_format x.bytes) (length x.bytes - length left) 0 o in
        cond-false _ _ removal o ∙ sym (cond-true _ (Remove (Segment last.number) ∷ SyncNames ∷ []) _ (eq-eqb last.good 0 none) ∙ named last.number number)
    by_word true o =
        let some : last.good ≡ length x.bytes - length left = good ∙ cond-true (opens node_format x.bytes) (length x.bytes - length left) 0 o in
        let long : 8 ≤ length x.bytes = is_lawful.opens_long x.bytes o in
        let short : length left ≤ length (drop 8 x.bytes) = torn_short (reader node_format x.bytes) (length x.bytes) (drop 8 x.bytes) in
        let k : length (drop 8 x.bytes) ≡ length x.bytes - 8 = length-drop 8 x.bytes in
        cond-true _ _ removal o ∙ ap (λ (b : Bool). cond (b && is_empty left) [] cut) o ∙ tail left (omega (arith, short, k)) long some

-- whether the last segment has its first word
opens_is : (x : Found) (last : LastSegment) → last.good ≡ good_end node_format x.bytes → opens node_format x.bytes ≡ not (last.good == 0)
unfolding good_end
opens_is x last good = by_word (opens node_format x.bytes) refl
  where
    left : List ℕ
    left = torn (reader node_format x.bytes) (length x.bytes) (drop 8 x.bytes)

    by_word : (o : Bool) → opens node_format x.bytes ≡ o → opens node_format x.bytes ≡ not (last.good == 0)
    by_word false o =
        let none : last.good ≡ 0 = good ∙ cond-false (opens node_format x.bytes) (length x.bytes - length left) 0 o in
        o ∙ ap not (sym (eq-eqb last.good 0 none))
    by_word true o =
        let some : last.good ≡ length x.bytes - length left = good ∙ cond-true (opens node_format x.bytes) (length x.bytes - length left) 0 o in
        let long : 8 ≤ length x.bytes = is_lawful.opens_long x.bytes o in
        let short : length left ≤ length (drop 8 x.bytes) = torn_short (reader node_format x.bytes) (length x.bytes) (drop 8 x.bytes) in
        let k : length (drop 8 x.bytes) ≡ length x.bytes - 8 = length-drop 8 x.bytes in
        o ∙ ap not (sym (ne_eqb last.good 0 (λ q. absurd (omega (arith, q, some, short, k, long)))))

-- ---- the last segment of a folder, with what a load does to it

pub record Last (l : FolderList) (last : Option LastSegment) (D : NodeDisk) : Type 0 where
  pub digits : last_number last < 10000000000000000
  pub above : (j : ℕ) → last_number last < j → (D.read (Segment j)).there ≡ false
  pub below : (j : ℕ) → j < last_number last → (D.read (Segment j)).there ≡ true → is_whole node_format (D.read (Segment j)).bytes ≡ true
  pub calls : repairs_of last ≡ repair_calls node_format (last_number last) (D.read (Segment (last_number last)))
  pub left : left_after last l.segments ≡ segment_numbers (last_number last) D.read ++ one_more (last_number last) ((D.read (Segment (last_number last))).there && opens node_format (D.read (Segment (last_number last))).bytes)

unlisted : (l : FolderList) (D : NodeDisk) → IsListed l D → (j : ℕ) → 10000000000000000 ≤ j → (D.read (Segment j)).there ≡ false
unlisted l D listed j h = elim (cases_Bool (D.read (Segment j)).there) [
  | inl t ↦ let z : j < 10000000000000000 = listed.above (Segment j) t in absurd (omega (arith, z, h))
  | inr f ↦ f
]

last_of : (l : FolderList) (D : NodeDisk) (last : Option LastSegment) → IsListed l D → EndsWith node_format 10000000000000000 D.read last → Last l last D
unfolding repair_calls segment_numbers
last_of l D None listed none = record {
  digits = omega arith;
  above = λ j h. absent j;
  below = λ j h. absurd (omega (arith, h));
  calls = sym (cond-false _ _ [] (absent 0));
  left = listed.segments ∙ numbers_up 0 10000000000000000 D.read (λ j h. absent j) (omega arith) ∙ sym (ap (λ (b : Bool). one_more 0 (b && opens node_format (D.read (Segment 0)).bytes)) (absent 0));
}
  where
    absent : (j : ℕ) → (D.read (Segment j)).there ≡ false
    absent j = elim (cases_lt j 10000000000000000) [ inl h ↦ none j h | inr h ↦ unlisted l D listed j h ]
last_of l D (Some x) listed e = record {
  digits = e.number;
  above = above;
  below = e.below;
  calls = sym (repair_is x.number (D.read (Segment x.number)) x e.there refl e.size e.good);
  left = by_good (x.good == 0) refl;
}
  where
    above : (j : ℕ) → x.number < j → (D.read (Segment j)).there ≡ false
    above j h = elim (cases_lt j 10000000000000000) [ inl k ↦ e.above j h k | inr k ↦ unlisted l D listed j k ]

    all : l.segments ≡ segment_numbers x.number D.read ++ x.number ∷ []
    all = listed.segments ∙ numbers_up (suc x.number) 10000000000000000 D.read (λ j h. above j (omega (arith, h))) (omega (arith, e.number)) ∙ numbers_next x.number D.read ∙ ap (λ (b : Bool). segment_numbers x.number D.read ++ one_more x.number b) e.there

    opened : opens node_format (D.read (Segment x.number)).bytes ≡ not (x.good == 0)
    opened = opens_is (D.read (Segment x.number)) x e.good

    front : (xs : List ℕ) (n : ℕ) → take (length (xs ++ n ∷ []) - 1) (xs ++ n ∷ []) ≡ xs
    front xs n =
        let long : length (xs ++ n ∷ []) ≡ length xs + 1 = length-append xs (n ∷ []) in
        let less : length (xs ++ n ∷ []) - 1 ≡ length xs = omega (arith, long) in
        ap (λ (k : ℕ). take k (xs ++ n ∷ [])) less ∙ take_at xs (n ∷ []) (length xs) refl

    by_good : (g : Bool) → (x.good == 0) ≡ g → cond (x.good == 0) (take (length l.segments - 1) l.segments) l.segments ≡ segment_numbers x.number D.read ++ one_more x.number ((D.read (Segment x.number)).there && opens node_format (D.read (Segment x.number)).bytes)
    by_good true q =
        cond-true _ _ l.segments q ∙ ap (λ (xs : List ℕ). take (length xs - 1) xs) all ∙ front (segment_numbers x.number D.read) x.number
        ∙ sym (append-nil (segment_numbers x.number D.read)) ∙ sym (λ i. segment_numbers x.number D.read ++ one_more x.number (e.there i && (opened ∙ ap not q) i))
    by_good false q =
        cond-false _ (take (length l.segments - 1) l.segments) _ q ∙ all
        ∙ sym (λ i. segment_numbers x.number D.read ++ one_more x.number (e.there i && (opened ∙ ap not q) i))

pub last_is : (l : FolderList) (D : NodeDisk) (r : FilesRead) (first second : Option ℕ) → IsListed l D → ReadsAll D r first second → judged r ≡ Loaded (kept_by r) → Last l r.segments.last D
last_is l D r first second listed all ok =
    last_of l D r.segments.last listed (subst (EndsWith node_format 10000000000000000 D.read) (sym all.segments.last) (ends_with node_format 10000000000000000 D.read (sound_is D r first second all ok)))
