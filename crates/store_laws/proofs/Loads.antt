-- A whole load.
use Rattle.std.proofs.Common.{◌≡◌, inl, inr, ℕ, zero, suc, ◌+◌, ◌-◌, ◌≤◌, true, false, List, [], ◌∷◌, ◌++◌, length, take, drop, refl, sym, ap, ◌∙◌, subst, arith, append_assoc, length-append, length-drop}
use Rattle.std.specs.Prelude.{◌&&◌, nat_lt}
use Rattle.std.proofs.lemmas.List.{drop_at, take-append-drop, length-take-le, append-nil}
use Rattle.std.proofs.lemmas.Bool.{cases_Bool, cond-true, cond-false, cases_eq}
use Rattle.store_laws.specs.Names.{Name, First, Second, Segment, Snapshot, NodeFiles, NodeDisk}
use Rattle.disk_model.specs.Disk.{Found, Leaves}
use Rattle.store_laws.specs.Store.{newest_snap, snap_in, Format, Reader, reader, opens, Log, kept, torn, is_empty, is_whole, all_batches}
use Rattle.disk_model.specs.Calls.{CutTo, Sync, Done, Until}
use Rattle.disk_model.specs.Rest.{Rest}
use Rattle.store_laws.specs.Chance.{Lawful, LawfulReader, NoChance}
use Rattle.disk_model.specs.SyncAll.{sync_all}
use Rattle.store_laws.specs.Settled.{file_log}
use Rattle.store_laws.specs.Load.{Still, Repairs, repair_calls, Loadable, LoadEnds, Load}
use Rattle.disk_model.proofs.Rests.{rest_only, rest_left, same_found}
use Rattle.disk_model.proofs.Elsewhere.{else_same}
use Rattle.store_laws.proofs.Fronts.{IsPiece, Whole, done, more, stop_torn, go_torn, size_nil, empty_is}
use Rattle.store_laws.proofs.Grown.{torn_whole}
use Rattle.store_laws.proofs.Folders.{part}
use Rattle.store_laws.proofs.Stills.{image_same}
use Rattle.store_laws.proofs.Repairs.{cut_tail_holds}
use Rattle.store_laws.proofs.Removes.{remove_bad_holds}
use Rattle.disk_model.proofs.Syncs.{sync_all_holds}
use Rattle.store_laws.proofs.Fair.{sync_fair}
use Rattle.store_laws.proofs.Tells.{tell}
use Rattle.disk_model.proofs.Untils.{until_append, done_append}

-- any bytes are whole batches, and a tail that doesn't read
record Front (rd : Reader) (n : ℕ) (ys : List ℕ) : Type 0 where
  xs : List ℕ
  bs : List Log
  whole : Whole rd xs bs
  is : ys ≡ xs ++ torn rd n ys
  none : (rd (torn rd n ys)).size ≡ 0

none_front : (rd : Reader) (n : ℕ) (ys : List ℕ) → torn rd n ys ≡ ys → (rd ys).size ≡ 0 → Front rd n ys
none_front rd n ys t z = record { xs = []; bs = []; whole = done; is = sym t; none = ap (λ (l : List ℕ). (rd l).size) t ∙ z }

front : (rd : Reader) → LawfulReader rd → (n : ℕ) (ys : List ℕ) → length ys ≤ n → Front rd n ys
front rd law zero ys h =
    let z : (rd ys).size ≡ 0 = ap (λ (l : List ℕ). (rd l).size) (empty_is ys h) ∙ size_nil rd law in
    none_front rd zero ys (stop_torn rd zero ys z) z
front rd law (suc n) ys h = elim (cases_eq (rd ys).size 0) [
  | inl z ↦ none_front rd (suc n) ys (stop_torn rd (suc n) ys z) z
  | inr ne ↦
      let s = (rd ys).size in
      let within : s ≤ length ys = law.size_within ys in
      let x = take s ys in
      let len : length x ≡ s = length-take-le s ys within in
      let reads : rd x ≡ rd ys = ap rd (sym (append-nil x)) ∙ law.front_reads ys [] ne in
      let piece : IsPiece rd x (rd ys).batch = reads ∙ (λ i. record { batch = (rd ys).batch; size = sym len i }) in
      let k : length (drop s ys) ≡ length ys - s = length-drop s ys in
      let r = front rd law n (drop s ys) (omega arith) in
      let g = go_torn rd n ys ne in
      record {
        xs = x ++ r.xs;
        bs = (rd ys).batch ∷ r.bs;
        whole = more x r.xs (rd ys).batch r.bs piece (omega arith) r.whole;
        is = sym (take-append-drop s ys) ∙ ap (λ (l : List ℕ). x ++ l) r.is ∙ sym (append_assoc x r.xs (torn rd n (drop s ys))) ∙ ap (λ (l : List ℕ). (x ++ r.xs) ++ l) (sym g);
        none = ap (λ (l : List ℕ). (rd l).size) g ∙ r.none;
      }
]

record Split (f : Format) (bytes : List ℕ) : Type 0 where
  H : List ℕ
  tail : List ℕ
  is : bytes ≡ H ++ tail
  whole : is_whole f H ≡ true
  none : (reader f H tail).size ≡ 0
  at : length bytes - length (torn (reader f bytes) (length bytes) (drop 8 bytes)) ≡ length H

split : (f : Format) → Lawful f → (bytes : List ℕ) → opens f bytes ≡ true → Split f bytes
unfolding is_whole
split f law bytes o =
    let long : 8 ≤ length bytes = law.opens_long bytes o in
    let rl = law.batches (f.version bytes) in
    let r = front (reader f bytes) rl (length bytes) (drop 8 bytes) (omega (arith, length-drop 8 bytes)) in
    let head = take 8 bytes in
    let eight : length head ≡ 8 = length-take-le 8 bytes long in
    let t = torn (reader f bytes) (length bytes) (drop 8 bytes) in
    let e : bytes ≡ (head ++ r.xs) ++ t = sym (take-append-drop 8 bytes) ∙ ap (λ (l : List ℕ). head ++ l) r.is ∙ sym (append_assoc head r.xs t) in
    let long_head : 8 ≤ length head = omega arith in
    let same : f.version (head ++ r.xs) ≡ f.version bytes = law.version_front head r.xs long_head ∙ sym (law.version_front head (drop 8 bytes) long_head) ∙ ap f.version (take-append-drop 8 bytes) in
    let opened : opens f (head ++ r.xs) ≡ true = ap (λ (v : ℕ). nat_lt 0 v) same ∙ o in
    let body : torn (reader f (head ++ r.xs)) (length (head ++ r.xs)) (drop 8 (head ++ r.xs)) ≡ [] = (λ i. torn (f.batch (same i)) (length (head ++ r.xs)) (drop_at head r.xs 8 eight i)) ∙ torn_whole (reader f bytes) rl r.xs r.bs r.whole (length (head ++ r.xs)) (omega (arith, length-append head r.xs)) in
    let total : length bytes ≡ length (head ++ r.xs) + length t = ap length e ∙ length-append (head ++ r.xs) t in
    record {
      H = head ++ r.xs;
      tail = t;
      is = e;
      whole = λ i. opened i && is_empty (body i);
      none = ap (λ (v : ℕ). (f.batch v t).size) same ∙ r.none;
      at = omega arith;
    }

module _ (f : Format) (law : Lawful f) (k : ℕ) (d : NodeDisk) (s : Still f k d) where
  x : Found
  x = d.read (Segment k)

  -- nothing to repair
  no_repair : ((d.read (Segment k)).there ≡ true → is_whole f (d.read (Segment k)).bytes ≡ true) → Repairs f k d []
  no_repair w = record {
    any_moment = λ e u g left fair.
        let l : Leaves d g = subst (λ (z : NodeDisk). Leaves z g) u left in
        image_same f k d s d g (else_same (Segment k) d) l (ap (λ (y : Found). all_batches f (part y)) (rest_only _ _ _ (s.segment k) (l.each (Segment k))));
    still = λ e u. subst (Still f k) (sym u) s;
    whole = λ e u. subst (λ (z : NodeDisk). (z.read (Segment k)).there ≡ true → is_whole f (z.read (Segment k)).bytes ≡ true) (sym u) w;
    same = λ e u. ap (λ (z : NodeDisk). kept f (suc k) z.read) u;
    log = λ e u. ap (λ (z : NodeDisk). file_log f (suc k) z.read) u;
    snap = λ e u. ap (λ (z : NodeDisk). snap_in f z.read) u;
  }

  pub repairs : Repairs f k d (repair_calls f k (d.read (Segment k)))
  unfolding repair_calls
  repairs = elim (cases_Bool (d.read (Segment k)).there) [
    | inr n ↦ subst (Repairs f k d) (sym (cond-false _ _ _ n)) (no_repair (λ t. let z : false ≡ true = sym n ∙ t in absurd cc))
    | inl t ↦ subst (Repairs f k d) (sym (cond-true _ _ _ t)) (elim (cases_Bool (opens f (d.read (Segment k)).bytes)) [
      | inr bad ↦ subst (Repairs f k d) (sym (cond-false _ _ _ bad)) (remove_bad_holds f law k d s t bad)
      | inl o ↦ subst (Repairs f k d) (sym (cond-true _ _ _ o)) (elim (cases_Bool (is_whole f (d.read (Segment k)).bytes)) [
        | inl w ↦ subst (Repairs f k d) (sym (cond-true _ _ _ w)) (no_repair (λ y. w))
        | inr w ↦
            let p = split f law (d.read (Segment k)).bytes o in
            subst (Repairs f k d) (sym (cond-false _ _ _ w)) (subst (λ (n : ℕ). Repairs f k d (CutTo (Segment k) n ∷ Sync (Segment k) ∷ [])) (sym p.at)
            (cut_tail_holds f law k d s p.H p.tail (same_found _ _ t p.is) p.whole p.none))
      ])
    ])
  ]

pub still_at_rest : (f : Format) (k : ℕ) (d p : NodeDisk) → Loadable f k d → ((n : Name) → p.read n ≡ d.read n) → ((n : Name) → Rest (p.held n) (p.read n)) → Still f k p
still_at_rest f k d p l same rest = record {
  first = rest First;
  second = rest Second;
  segment = λ j. rest (Segment j);
  above = λ j h. ap (λ (y : Found). y.there) (same (Segment j)) ∙ l.above j h;
  below = λ j h. subst (λ (y : Found). y.there ≡ true → is_whole f y.bytes ≡ true) (sym (same (Segment j))) (l.below j h);
  snap_read = λ j. rest_left _ _ (rest (Snapshot j));
  snap_rest = λ j h. rest (Snapshot j);
  snap = λ g left. (λ i. newest_snap f.snap f.numbers (λ j. rest_only _ _ _ (rest (Snapshot j)) (left j) i));
}

pub load_holds : Load
load_holds f law k d l ns named = (inside, ends)
  where
    synced : (p : NodeDisk) → Done (sync_all ns) d p → Repairs f k p (repair_calls f k (d.read (Segment k)))
    synced p v =
        let z = (sync_all_holds tell d l.seen ns named).1 p v in
        subst (λ (y : Found). Repairs f k p (repair_calls f k y)) (z.0 (Segment k)) (repairs f law k p (still_at_rest f k d p l z.0 z.1))

    files : (p : NodeDisk) → Done (sync_all ns) d p → p.read ≡ d.read
    files p v = let z = (sync_all_holds tell d l.seen ns named).1 p v in (λ i. λ n. z.0 n i)

    reads : (p : NodeDisk) → Done (sync_all ns) d p → kept f (suc k) p.read ≡ kept f (suc k) d.read
    reads p v = let z = (sync_all_holds tell d l.seen ns named).1 p v in (λ i. kept f (suc k) (λ n. z.0 n i))

    inside : (e : NodeDisk) → Until (sync_all ns ++ repair_calls f k (d.read (Segment k))) d e → (g : NodeFiles) → Leaves e g → NoChance f e g → (was : NodeFiles) × (Leaves d was × ((kept f (suc k) g ≡ kept f (suc k) was) × (NoChance f d d.read → NoChance f d was)))
    inside e u g left fair = elim (until_append (sync_all ns) (repair_calls f k (d.read (Segment k))) d e u) [
      | inl v ↦ (g, ((sync_all_holds tell d l.seen ns named).0 e v g left, (refl, λ was. sync_fair f law d ns e v g left fair was)))
      | inr (p, (v, w)) ↦ (d.read, (l.seen, ((synced p v).any_moment e w g left fair ∙ reads p v, λ was. was)))
    ]

    ends : (e : NodeDisk) → Done (sync_all ns ++ repair_calls f k (d.read (Segment k))) d e → LoadEnds f k d e
    ends e u =
        let z = done_append (sync_all ns) (repair_calls f k (d.read (Segment k))) d e u in
        let r = synced z.0 z.1.0 in
        let st = r.still e z.1.1 in
        let read = r.same e z.1.1 ∙ reads z.0 z.1.0 in
        record {
          still = st;
          whole = r.whole e z.1.1;
          read = read;
          crash = λ g left. image_same f k e st e g (else_same (Segment k) e) left (ap (λ (y : Found). all_batches f (part y)) (rest_only _ _ _ (st.segment k) (left.each (Segment k)))) ∙ read;
          log = r.log e z.1.1 ∙ ap (file_log f (suc k)) (files z.0 z.1.0);
          snap = r.snap e z.1.1 ∙ ap (snap_in f) (files z.0 z.1.0);
        }
