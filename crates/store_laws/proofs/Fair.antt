-- While all is synced no checksum comes to match by chance that didn't before.
use Rattle.std.proofs.Common.{◌≡◌, inl, inr, ℕ, ◌+◌, ◌-◌, ◌≤◌, Bool, true, false, List, [], ◌∷◌, ◌++◌, length, take, drop, refl, sym, ap, ◌∙◌, subst, arith, length-append}
use Rattle.std.proofs.lemmas.Bool.{cases_Bool, cond-true, cond-false}
use Rattle.disk_model.specs.Disk.{Found, Change, Held, LeavesBytes, LeavesFile, Leaves, Sure, Absent}
use Rattle.disk_model.specs.Calls.{Until, Turns, NamesSynced, after_sync, after_names}
use Rattle.disk_model.specs.SyncAll.{sync_all}
use Rattle.disk_model.specs.Genuine.{Genuine, WasWritten}
use Rattle.disk_model.proofs.Bytes.{untouched}
use Rattle.disk_model.proofs.Names.{same, apart}
use Rattle.store_laws.specs.Names.{Name, First, Second, Segment, Snapshot, NodeFiles, NodeDisk}
use Rattle.store_laws.specs.Store.{Format, reader}
use Rattle.store_laws.specs.Chance.{NoChance, Lawful, MetaGenuine, BatchesGenuine, SnapGenuine}
use Rattle.store_laws.proofs.Tells.{tell}

-- how the bytes of a crash's file stand to what was held before: its changes are those of before, or it is as it was read,
-- or empty
data Back (h k : Held) (x : Found) (c : List ℕ) : Type 0 where
  as_was : k.bytes ≡ h.bytes → k.since ≡ h.since → Back h k x c
  as_read : c ≡ x.bytes → Back h k x c
  empty : c ≡ [] → Back h k x c

genuine_back : (h k : Held) (p : ℕ) (y : List ℕ) → k.bytes ≡ h.bytes → k.since ≡ h.since → Genuine k p y → Genuine h p y
genuine_back h k p y b s g = record {
  why = elim g.why [
    | inl q ↦ inl (subst (λ (l : List ℕ). take (length y) (drop p l) ≡ y) b q)
    | inr w ↦ inr (subst (λ (l : List Change). WasWritten l p y) s w)
  ];
}

module _ (f : Format) (law : Lawful f) where
  meta_back : (side : Bool) (h k : Held) (x : Found) (c : List ℕ) → Back h k x c → MetaGenuine f side k c → MetaGenuine f side h x.bytes → MetaGenuine f side h c
  meta_back side h k x c (as_was b s) g r = record { whole = λ n. genuine_back h k 0 c b s (g.whole n) }
  meta_back side h k x c (as_read q) g r = subst (MetaGenuine f side h) (sym q) r
  meta_back side h k x c (empty q) g r = subst (MetaGenuine f side h) (sym q) (record { whole = λ n. absurd (n (law.meta_nil side)) })

  none_reads : (front rest : List ℕ) → [] ≡ front ++ rest → (reader f [] rest).size ≡ 0
  none_reads front rest e =
      let a : (reader f [] rest).size ≤ length rest = (law.batches (f.version [])).size_within rest in
      let b : 0 ≡ length front + length rest = ap length e ∙ length-append front rest in
      omega (arith, a, b)

  batches_back : (h k : Held) (x : Found) (c : List ℕ) → Back h k x c → BatchesGenuine f k c → BatchesGenuine f h x.bytes → BatchesGenuine f h c
  batches_back h k x c (as_was b s) g r = record { each = λ front rest e w n. genuine_back h k (length front) _ b s (g.each front rest e w n) }
  batches_back h k x c (as_read q) g r = subst (BatchesGenuine f h) (sym q) r
  batches_back h k x c (empty q) g r = subst (BatchesGenuine f h) (sym q) (record { each = λ front rest e w n. absurd (n (none_reads front rest e)) })

  snap_back : (j : ℕ) (h k : Held) (x : Found) (c : List ℕ) → Back h k x c → SnapGenuine f j k c → SnapGenuine f j h x.bytes → SnapGenuine f j h c
  snap_back j h k x c (as_was b s) g r = record {
    whole = λ n. elim (g.whole n) [
      | inl q ↦ inl (q ∙ b)
      | inr w ↦ inr (subst (λ (l : List Change). WasWritten l 0 c) s w)
    ];
  }
  snap_back j h k x c (as_read q) g r = subst (SnapGenuine f j h) (sym q) r
  snap_back j h k x c (empty q) g r = subst (SnapGenuine f j h) (sym q) (record { whole = λ n. absurd (n (law.snap_nil j)) })

  all_back : (d e : NodeDisk) (g : NodeFiles) → ((n : Name) → Back (d.held n) (e.held n) (d.read n) (g n).bytes) → NoChance f e g → NoChance f d d.read → NoChance f d g
  all_back d e g back fair was = record {
    first = meta_back true (d.held First) (e.held First) (d.read First) (g First).bytes (back First) fair.first was.first;
    second = meta_back false (d.held Second) (e.held Second) (d.read Second) (g Second).bytes (back Second) fair.second was.second;
    segment = λ k. batches_back (d.held (Segment k)) (e.held (Segment k)) (d.read (Segment k)) (g (Segment k)).bytes (back (Segment k)) (fair.segment k) (was.segment k);
    snapshot = λ j. snap_back j (d.held (Snapshot j)) (e.held (Snapshot j)) (d.read (Snapshot j)) (g (Snapshot j)).bytes (back (Snapshot j)) (fair.snapshot j) (was.snapshot j);
  }

-- a file on the way: not synced yet, or on the disk as it is read
data Kin (h k : Held) (x : Found) : Type 0 where
  unsynced : k.bytes ≡ h.bytes → k.since ≡ h.since → Kin h k x
  flushed : k.since ≡ [] → k.bytes ≡ x.bytes → Kin h k x

kin_back : (h k : Held) (x y : Found) → Kin h k x → LeavesFile k y → Back h k x y.bytes
kin_back h k x y (unsynced b s) left = as_was b s
kin_back h k x y (flushed s b) left = elim (cases_Bool y.there) [
  | inl t ↦ as_read (untouched k.bytes y.bytes (subst (λ (l : List Change). LeavesBytes k.bytes l y.bytes) s (left.left t)) ∙ b)
  | inr n ↦ empty (left.empty n)
]

kin_sync : (h k : Held) (x : Found) → Kin h k x → Kin h (after_sync x k) x
kin_sync h k x kin = elim (cases_Bool x.there) [
  | inl t ↦ subst (λ (l : Held). Kin h l x) (sym (cond-true x.there _ _ t)) (flushed refl refl)
  | inr n ↦ subst (λ (l : Held). Kin h l x) (sym (cond-false x.there _ _ n)) kin
]

kin_sure : (h k : Held) (x : Found) → Kin h k x → Kin h (record { standing = Sure; bytes = k.bytes; since = k.since }) x
kin_sure h k x (unsynced b s) = unsynced b s
kin_sure h k x (flushed s b) = flushed s b

names_back : (h k : Held) (x y : Found) → Kin h k x → LeavesFile (after_names x k) y → Back h (after_names x k) x y.bytes
names_back h k x y kin left = elim (cases_Bool x.there) [
  | inl t ↦
      let q : after_names x k ≡ record { standing = Sure; bytes = k.bytes; since = k.since } = cond-true x.there _ _ t in
      subst (λ (l : Held). Back h l x y.bytes) (sym q) (kin_back h _ x y (kin_sure h k x kin) (subst (λ (l : Held). LeavesFile l y) q left))
  | inr n ↦
      let q : after_names x k ≡ record { standing = Absent; bytes = []; since = [] } = cond-false x.there _ _ n in
      empty (left.empty (left.absent (ap (λ (l : Held). l.standing) q)))
]

record Way (d e : NodeDisk) : Type 0 where
  read : (n : Name) → e.read n ≡ d.read n
  kin : (n : Name) → Kin (d.held n) (e.held n) (d.read n)

way_sync : (d : NodeDisk) (n : Name) (m e : NodeDisk) → Way d m → Turns n m e (after_sync (m.read n) (m.held n)) (m.read n) → Way d e
way_sync d n m e w t = record { read = read; kin = kin }
  where
    read : (j : Name) → e.read j ≡ d.read j
    read j = elim (tell j n) [
      | same q ↦ subst (λ (i : Name). e.read i ≡ d.read i) (sym q) (t.read ∙ w.read n)
      | apart a ↦ t.others.read j a ∙ w.read j
    ]

    here : Kin (d.held n) (e.held n) (d.read n)
    here = subst (λ (l : Held). Kin (d.held n) l (d.read n)) (sym t.held) (subst (λ (x : Found). Kin (d.held n) (after_sync x (m.held n)) (d.read n)) (sym (w.read n)) (kin_sync (d.held n) (m.held n) (d.read n) (w.kin n)))

    kin : (j : Name) → Kin (d.held j) (e.held j) (d.read j)
    kin j = elim (tell j n) [
      | same q ↦ subst (λ (i : Name). Kin (d.held i) (e.held i) (d.read i)) (sym q) here
      | apart a ↦ subst (λ (l : Held). Kin (d.held j) l (d.read j)) (sym (t.others.held j a)) (w.kin j)
    ]

way_back : (d e : NodeDisk) (g : NodeFiles) → Way d e → Leaves e g → (n : Name) → Back (d.held n) (e.held n) (d.read n) (g n).bytes
way_back d e g w left n = kin_back (d.held n) (e.held n) (d.read n) (g n) (w.kin n) (left.each n)

named_back : (d m e : NodeDisk) (g : NodeFiles) → Way d m → NamesSynced m e → Leaves e g → (n : Name) → Back (d.held n) (e.held n) (d.read n) (g n).bytes
named_back d m e g w o left n =
    let q : e.held n ≡ after_names (d.read n) (m.held n) = o.held n ∙ ap (λ (x : Found). after_names x (m.held n)) (w.read n) in
    subst (λ (l : Held). Back (d.held n) l (d.read n) (g n).bytes) (sym q) (names_back (d.held n) (m.held n) (d.read n) (g n) (w.kin n) (subst (λ (l : Held). LeavesFile l (g n)) q (left.each n)))

moves : (d : NodeDisk) (ns : List Name) (m e : NodeDisk) → Way d m → Until (sync_all ns) m e → (g : NodeFiles) → Leaves e g → (n : Name) → Back (d.held n) (e.held n) (d.read n) (g n).bytes
moves d [] m e w (inl q) g left = way_back d e g (subst (Way d) (sym q) w) left
moves d [] m e w (inr (inl q)) g left = way_back d e g (subst (Way d) (sym q) w) left
moves d [] m e w (inr (inr (p, (o, q)))) g left = named_back d m e g w (subst (NamesSynced m) (sym q) o) left
moves d (n ∷ ns) m e w (inl q) g left = way_back d e g (subst (Way d) (sym q) w) left
moves d (n ∷ ns) m e w (inr (inl q)) g left = way_back d e g (subst (Way d) (sym q) w) left
moves d (n ∷ ns) m e w (inr (inr (p, (t, v)))) g left = moves d ns p e (way_sync d n m p w t) v g left

pub sync_fair : (f : Format) → Lawful f → (d : NodeDisk) (ns : List Name) (e : NodeDisk) → Until (sync_all ns) d e → (g : NodeFiles) → Leaves e g → NoChance f e g → NoChance f d d.read → NoChance f d g
sync_fair f law d ns e u g left fair was = all_back f law d e g (moves d ns d e (record { read = λ n. refl; kin = λ n. unsynced refl refl }) u g left) fair was
