-- The newest of the snapshots that are there.
use Rattle.std.proofs.Common.{◌≡◌, ◌≢◌, ◌⊎◌, inl, inr, ℕ, zero, suc, ◌<◌, ◌≤◌, Bool, true, false, List, [], ◌∷◌, None, refl, sym, ap, ◌∙◌, subst, arith}
use Rattle.std.specs.Prelude.{◌||◌, ◌==◌}
use Rattle.std.proofs.lemmas.Bool.{cases_Bool, cases_eq, cases_lt, cond-true, cond-false, eqb-true, eq-eqb}
use Rattle.store_laws.specs.Names.{First, Second, Snapshot, NodeDisk}
use Rattle.store_laws.specs.Store.{Meta, Snap, no_meta, no_snap, newest, newest_snap, snap_in, meta_of}
use Rattle.store_laws.proofs.Newest.{newest_left, newest_right}
use Rattle.store_format.specs.Metadata.{meta_in}
use Rattle.store_format.specs.Snapshots.{snap_of}
use Rattle.store_format.specs.NodeFormat.{node_format}
use Rattle.store_format.proofs.BatchesLawful.{is_lawful}
use Rattle.store_laws.specs.Meta.{file_of}
use Rattle.store_format.specs.FilesRead.{FilesRead, newer_snap, with_snap}
use Rattle.store_format.proofs.Newer.{newer, not_newer}
use Rattle.segment_store.specs.Open.{is_listed, HasSnapshots}
use Rattle.segment_store.specs.Loading.{IsPlain}
use Rattle.segment_store.specs.Reads.{snap_at, IsNewest, ReadsMeta}

-- the snapshot of the greatest index is the newest one
best : (D : NodeDisk) (n : ℕ) → ((j : ℕ) → j < n → (snap_at D j).index ≤ (newest_snap snap_of n (λ k. D.read (Snapshot k))).index)
    × ((newest_snap snap_of n (λ k. D.read (Snapshot k)) ≡ no_snap) ⊎ ((j : ℕ) × ((j < n) × (newest_snap snap_of n (λ k. D.read (Snapshot k)) ≡ snap_at D j))))
unfolding newest_snap
best D zero = (λ j h. absurd (omega (arith, h)), inl refl)
best D (suc n) = elim (cases_Bool ((snap_at D n).index == 0)) [
  | inl t ↦
      let is : newest_snap snap_of (suc n) (λ k. D.read (Snapshot k)) ≡ newest_snap snap_of n (λ k. D.read (Snapshot k)) = cond-true _ _ _ t in
      let b = best D n in
      let none : (snap_at D n).index ≡ 0 = eqb-true _ _ t in (
        λ j h. subst (λ (s : Snap). (snap_at D j).index ≤ s.index) (sym is) (elim (cases_eq j n) [
          | inl e ↦ let z : (snap_at D j).index ≡ 0 = ap (λ (i : ℕ). (snap_at D i).index) e ∙ none in omega (arith, z)
          | inr ne ↦ b.0 j (omega (arith, h, ne))
        ]),
        elim b.1 [
          | inl z ↦ inl (is ∙ z)
          | inr (j, (h, e)) ↦ inr (j, (omega (arith, h), is ∙ e))
        ],
      )
  | inr f ↦
      let is : newest_snap snap_of (suc n) (λ k. D.read (Snapshot k)) ≡ snap_at D n = cond-false _ _ _ f in
      let some : (snap_at D n).index ≢ 0 = λ z. let q : true ≡ false = sym (eq-eqb _ _ z) ∙ f in absurd cc in
      let own : (snap_at D n).index ≡ n = is_lawful.snap_number n (D.read (Snapshot n)).bytes some in (
        λ j h. subst (λ (s : Snap). (snap_at D j).index ≤ s.index) (sym is) (elim (cases_eq (snap_at D j).index 0) [
          | inl z ↦ omega (arith, z)
          | inr ne ↦ let k : (snap_at D j).index ≡ j = is_lawful.snap_number j (D.read (Snapshot j)).bytes ne in omega (arith, k, own, h)
        ]),
        inr (n, (omega arith, is)),
      )
]

same_index : (D : NodeDisk) (s t : Snap) → ((s ≡ no_snap) ⊎ ((j : ℕ) × (s ≡ snap_at D j))) → ((t ≡ no_snap) ⊎ ((j : ℕ) × (t ≡ snap_at D j))) → s.index ≡ t.index → s ≡ t
same_index D s t a b e = elim (cases_eq s.index 0) [
  | inl z ↦ none s a z ∙ sym (none t b (sym e ∙ z))
  | inr ne ↦ some a b ne
]
  where
    none : (x : Snap) → ((x ≡ no_snap) ⊎ ((j : ℕ) × (x ≡ snap_at D j))) → x.index ≡ 0 → x ≡ no_snap
    none x (inl q) z = q
    none x (inr (j, q)) z = q ∙ is_lawful.snap_none j (D.read (Snapshot j)).bytes (ap (λ (y : Snap). y.index) (sym q) ∙ z)

    some : ((s ≡ no_snap) ⊎ ((j : ℕ) × (s ≡ snap_at D j))) → ((t ≡ no_snap) ⊎ ((j : ℕ) × (t ≡ snap_at D j))) → s.index ≢ 0 → s ≡ t
    some (inl q) c ne = absurd (ne (ap (λ (y : Snap). y.index) q))
    some (inr x) (inl q) ne = absurd (ne (e ∙ ap (λ (y : Snap). y.index) q))
    some (inr (j, p)) (inr (k, q)) ne =
        let pj : s.index ≡ (snap_at D j).index = ap (λ (y : Snap). y.index) p in
        let qk : t.index ≡ (snap_at D k).index = ap (λ (y : Snap). y.index) q in
        let own : (snap_at D j).index ≡ j = is_lawful.snap_number j (D.read (Snapshot j)).bytes (λ z. ne (pj ∙ z)) in
        let other : (snap_at D k).index ≡ k = is_lawful.snap_number k (D.read (Snapshot k)).bytes (λ z. ne (e ∙ qk ∙ z)) in
        p ∙ ap (snap_at D) (sym own ∙ sym pj ∙ e ∙ qk ∙ other) ∙ sym q

pub newest_is : (D : NodeDisk) (ms : List ℕ) (s : Snap) → IsPlain D → HasSnapshots ms D.read → IsNewest D ms s → s ≡ snap_in node_format D.read
newest_is D ms s plain has n =
    let b = best D 10000000000000000 in
    let w : Snap = newest_snap snap_of 10000000000000000 (λ k. D.read (Snapshot k)) in
    let upper : w.index ≤ s.index = elim b.1 [
      | inl z ↦ let q : w.index ≡ 0 = ap (λ (y : Snap). y.index) z in omega (arith, q)
      | inr (j, (h, e)) ↦ let q : w.index ≡ (snap_at D j).index = ap (λ (y : Snap). y.index) e in let l : (snap_at D j).index ≤ s.index = each j h in omega (arith, q, l)
    ] in
    let lower : s.index ≤ w.index = elim n.from [
      | inl z ↦ let q : s.index ≡ 0 = ap (λ (y : Snap). y.index) z in omega (arith, q)
      | inr (j, (h, e)) ↦ let q : s.index ≡ (snap_at D j).index = ap (λ (y : Snap). y.index) e in let l : (snap_at D j).index ≤ w.index = b.0 j h in omega (arith, q, l)
    ] in
    same_index D s w (elim n.from [ inl z ↦ inl z | inr (j, (h, e)) ↦ inr (j, e) ]) (elim b.1 [ inl z ↦ inl z | inr (j, (h, e)) ↦ inr (j, e) ]) (omega (arith, upper, lower))
  where
    each : (j : ℕ) → j < 10000000000000000 → (snap_at D j).index ≤ s.index
    each j h = elim (cases_Bool (is_listed j ms)) [
      | inl t ↦ n.least j t
      | inr f ↦
          let none : (D.read (Snapshot j)).bytes ≡ [] = plain (Snapshot j) (has j h ∙ f) in
          let z : (snap_at D j).index ≡ 0 = ap (λ (x : List ℕ). (snap_of j x).index) none ∙ is_lawful.snap_nil j in
          omega (arith, z)
    ]

-- ---- one snapshot more

pub newest_none : (D : NodeDisk) (s : Snap) → s ≡ no_snap → IsNewest D [] s
newest_none D s e = record { least = λ j q. absurd (let z : false ≡ true = q in absurd cc); from = inl e }

pub newest_more : (D : NodeDisk) (j : ℕ) (ms : List ℕ) (old new : Snap) → j < 10000000000000000 → IsNewest D ms old → new ≡ newer_snap (snap_at D j) old → IsNewest D (j ∷ ms) new
newest_more D j ms old new digits n e = elim (cases_lt old.index (snap_at D j).index) [
  | inl l ↦
      let is : new ≡ snap_at D j = e ∙ newer (snap_at D j) old l in
      record {
        least = λ i q. subst (λ (s : Snap). (snap_at D i).index ≤ s.index) (sym is) (elim (or_parts (j == i) (is_listed i ms) q) [
          | inl here ↦ let z : (snap_at D i).index ≡ (snap_at D j).index = ap (λ (k : ℕ). (snap_at D k).index) (sym (eqb-true j i here)) in omega (arith, z)
          | inr later ↦ let z : (snap_at D i).index ≤ old.index = n.least i later in omega (arith, z, l)
        ]);
        from = inr (j, (digits, is));
      }
  | inr l ↦
      let is : new ≡ old = e ∙ not_newer (snap_at D j) old l in
      record {
        least = λ i q. subst (λ (s : Snap). (snap_at D i).index ≤ s.index) (sym is) (elim (or_parts (j == i) (is_listed i ms) q) [
          | inl here ↦ let z : (snap_at D i).index ≡ (snap_at D j).index = ap (λ (k : ℕ). (snap_at D k).index) (sym (eqb-true j i here)) in omega (arith, z, l)
          | inr later ↦ n.least i later
        ]);
        from = elim n.from [ inl z ↦ inl (is ∙ z) | inr (i, (h, q)) ↦ inr (i, (h, is ∙ q)) ];
      }
]
  where
    or_parts : (a b : Bool) → (a || b) ≡ true → (a ≡ true) ⊎ (b ≡ true)
    or_parts true b q = inl refl
    or_parts false b q = inr q

-- a file whose number is below the newest index changes nothing
pub passed_over : (D : NodeDisk) (j : ℕ) (old : Snap) → j < old.index → old ≡ newer_snap (snap_at D j) old
passed_over D j old h = sym (not_newer (snap_at D j) old (elim (cases_eq (snap_at D j).index 0) [
  | inl z ↦ omega (arith, z)
  | inr ne ↦ let k : (snap_at D j).index ≡ j = is_lawful.snap_number j (D.read (Snapshot j)).bytes ne in omega (arith, k, h)
]))

-- ---- metadata

pub no_file : (first : Bool) (m : Meta) (bytes : List ℕ) → bytes ≡ [] → m ≡ newest m (meta_in first bytes)
no_file first m bytes e =
    let z : (meta_in first bytes).stamp ≡ 0 = ap (λ (x : List ℕ). (meta_in first x).stamp) e ∙ is_lawful.meta_nil first in
    sym (newest_left m (meta_in first bytes) (omega (arith, z)))

pub first_meta : (first : Bool) (bytes : List ℕ) → newest no_meta (meta_in first bytes) ≡ meta_in first bytes
first_meta first bytes = elim (cases_eq (meta_in first bytes).stamp 0) [
  | inl z ↦ newest_left no_meta (meta_in first bytes) (omega (arith, z)) ∙ sym (is_lawful.meta_none first bytes z)
  | inr ne ↦ newest_right no_meta (meta_in first bytes) (omega (arith, ne))
]

pub metas_are : (D : NodeDisk) (m : Meta) → m ≡ newest (newest no_meta (meta_in true (D.read First).bytes)) (meta_in false (D.read Second).bytes) → m ≡ meta_of node_format D.read
unfolding meta_of
metas_are D m e = e ∙ ap (λ (x : Meta). newest x (meta_in false (D.read Second).bytes)) (first_meta true (D.read First).bytes)

-- a file of metadata that isn't there
pub no_metadata : (first there : Bool) (D : NodeDisk) (r : FilesRead) → there ≡ false → ReadsMeta first there D r r None
no_metadata first there D r none is plain =
    let absent : (D.read (file_of first)).there ≡ false = is ∙ none in
    let m = no_file first r.meta (D.read (file_of first)).bytes (plain absent) in
    ((λ i. record { meta = m i; snap = r.snap; segments = r.segments }), absent)

-- a snapshot that is passed over
pub same_read : (D : NodeDisk) (j : ℕ) (r : FilesRead) → j < r.snap.index → r ≡ with_snap (snap_at D j) r
same_read D j r h = let s = passed_over D j r.snap h in (λ i. record { meta = r.meta; snap = s i; segments = r.segments })
