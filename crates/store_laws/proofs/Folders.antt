-- The list of segments, of which the last may be torn.
use Rattle.std.proofs.Common.{◌≡◌, ◌≢◌, inl, inr, ℕ, zero, suc, ◌≤◌, ◌<◌, Bool, true, false, List, [], ◌∷◌, ◌++◌, length, refl, sym, ap, ◌∙◌, arith, cond, append_assoc}
use Rattle.std.specs.Prelude.{◌==◌, ◌&&◌, nat_lt}
use Rattle.std.proofs.lemmas.List.{append-nil, drop_all}
use Rattle.std.proofs.lemmas.Bool.{cases_Bool, cond-true, cond-false, eqb-true, eqb-false, ltb-true, ltb-false}
use Rattle.store_laws.specs.Names.{First, Second, Segment, NodeFiles}
use Rattle.disk_model.specs.Disk.{Found}
use Rattle.store_laws.specs.Store.{snap_in, opens, reader, lacks_meta, Format, Meta, Snap, Log, Kept, Loaded, Damaged, NoMeta, Gap, answer, newest, kept, meta_of, segments, sound, all_batches, batches, batches_in, is_whole, behind, log_of, empty_log, has_any}
use Rattle.store_laws.specs.Chance.{Lawful}
use Rattle.store_laws.proofs.Fronts.{stop_batches, size_nil}

abbrev pub part : Found → List (List ℕ)
part x = cond x.there (x.bytes ∷ []) []

pub segments_suc : (k : ℕ) (g : NodeFiles) → segments (suc k) g ≡ segments k g ++ part (g (Segment k))
unfolding segments
segments_suc k g = refl

pub all_append : (f : Format) (xs ys : List (List ℕ)) → all_batches f (xs ++ ys) ≡ all_batches f xs ++ all_batches f ys
unfolding all_batches
all_append f [] ys = refl
all_append f (x ∷ xs) ys = ap (λ (l : List Log). batches_in f x ++ l) (all_append f xs ys) ∙ sym (append_assoc (batches_in f x) (all_batches f xs) (all_batches f ys))

pub all_one : (f : Format) (x : List ℕ) → all_batches f (x ∷ []) ≡ batches_in f x
unfolding all_batches
all_one f x = append-nil (batches_in f x)

pub all_nil : (f : Format) → all_batches f [] ≡ []
unfolding all_batches
all_nil f = refl

sound_cons : (f : Format) (x : List ℕ) (zs : List (List ℕ)) → is_whole f x ≡ true → sound f zs ≡ true → sound f (x ∷ zs) ≡ true
unfolding sound
sound_cons f x [] w s = refl
sound_cons f x (z ∷ zs) w s = λ i. w i && s i

sound_part : (f : Format) (x : Found) (zs : List (List ℕ)) → (x.there ≡ true → is_whole f x.bytes ≡ true) → sound f zs ≡ true → sound f (part x ++ zs) ≡ true
sound_part f x zs w s = elim (cases_Bool x.there) [
  | inl t ↦ ap (λ (b : Bool). sound f (cond b (x.bytes ∷ []) [] ++ zs)) t ∙ sound_cons f x.bytes zs (w t) s
  | inr t ↦ ap (λ (b : Bool). sound f (cond b (x.bytes ∷ []) [] ++ zs)) t ∙ s
]

-- whole segments, and then sound ones
pub sound_segments : (f : Format) (n : ℕ) (g : NodeFiles) → ((j : ℕ) → j < n → (g (Segment j)).there ≡ true → is_whole f (g (Segment j)).bytes ≡ true) → (zs : List (List ℕ)) → sound f zs ≡ true → sound f (segments n g ++ zs) ≡ true
unfolding segments
sound_segments f zero g w zs s = s
sound_segments f (suc n) g w zs s =
    ap (sound f) (append_assoc (segments n g) (part (g (Segment n))) zs) ∙ sound_segments f n g (λ j h. w j (omega arith)) (part (g (Segment n)) ++ zs) (sound_part f (g (Segment n)) zs (w n (omega arith)) s)

-- one more that may be torn
pub sound_last : (f : Format) (n : ℕ) (g : NodeFiles) → ((j : ℕ) → j < n → (g (Segment j)).there ≡ true → is_whole f (g (Segment j)).bytes ≡ true) → (x : Found) → sound f (segments n g ++ part x) ≡ true
unfolding sound
sound_last f n g w x = sound_segments f n g w (part x) (last x.there)
  where
    last : (b : Bool) → sound f (cond b (x.bytes ∷ []) []) ≡ true
    last true = refl
    last false = refl

-- eight bytes hold no batch
pub short_none : (f : Format) → Lawful f → (c : List ℕ) → length c ≤ 8 → batches_in f c ≡ []
unfolding batches_in
short_none f law c h = elim (cases_Bool (opens f c)) [
  | inl t ↦ cond-true _ _ _ t ∙ ap (batches (reader f c) (length c)) (drop_all 8 c h) ∙ stop_batches (reader f c) (length c) [] (size_nil (reader f c) (law.batches (f.version c)))
  | inr n ↦ cond-false _ _ _ n
]

pub kept_by : (f : Format) (top : ℕ) (g : NodeFiles) (m : Meta) (s : Snap) (b : Bool) (bs : List Log) → meta_of f g ≡ m → snap_in f g ≡ s → sound f (segments top g) ≡ b → all_batches f (segments top g) ≡ bs → kept f top g ≡ answer m s b bs
unfolding kept
kept_by f top g m s b bs em es eb el = λ i. answer (em i) (es i) (eb i) (el i)

-- what a loaded answer says
pub record Parts (m : Meta) (s : Snap) (bs : List Log) (k : Kept) : Type 0 where
  pub no_gap : (log_of empty_log bs).first ≤ suc s.index
  pub is : k ≡ record { term = m.term; vote = m.vote; snap = s; log = behind s (log_of empty_log bs) }

parts_of : (z b gap : Bool) (x y : ℕ) (K k : Kept) → cond z NoMeta (cond b (cond gap (Gap x y) (Loaded K)) Damaged) ≡ Loaded k → (gap ≡ false) × (k ≡ K)
parts_of true b gap x y K k e = absurd cc
parts_of false false gap x y K k e = absurd cc
parts_of false true true x y K k e = absurd cc
parts_of false true false x y K k e = (refl, cc)

pub answer_parts : (m : Meta) (s : Snap) (b : Bool) (bs : List Log) (k : Kept) → answer m s b bs ≡ Loaded k → Parts m s bs k
unfolding answer
answer_parts m s b bs k e =
    let p = parts_of (lacks_meta m s bs) b _ _ _ _ k e in
    record { no_gap = ltb-false _ _ p.0; is = p.1 }

pub answer_is : (m : Meta) (s : Snap) (bs : List Log) → (log_of empty_log bs).first ≤ suc s.index → m.stamp ≢ 0 → answer m s true bs ≡ Loaded (record { term = m.term; vote = m.vote; snap = s; log = behind s (log_of empty_log bs) })
unfolding answer
answer_is m s bs h ne =
    let K : Kept = record { term = m.term; vote = m.vote; snap = s; log = behind s (log_of empty_log bs) } in
    let g : nat_lt (suc s.index) (log_of empty_log bs).first ≡ false = elim (cases_Bool (nat_lt (suc s.index) (log_of empty_log bs).first)) [ inl t ↦ let l : suc s.index < (log_of empty_log bs).first = ltb-true _ _ t in absurd (omega arith) | inr t ↦ t ] in
    let z : (m.stamp == 0) ≡ false = elim (cases_Bool (m.stamp == 0)) [ inl t ↦ absurd (ne (eqb-true _ _ t)) | inr t ↦ t ] in
    λ i. cond (z i && cond (has_any bs) true (nat_lt 0 s.index)) NoMeta (cond (g i) (Gap (log_of empty_log bs).first s.index) (Loaded K))

-- metadata with a term was read from a file
pub has_stamp : (f : Format) → Lawful f → (g : NodeFiles) → (meta_of f g).term ≢ 0 → (meta_of f g).stamp ≢ 0
unfolding meta_of newest
has_stamp f law g ne z = elim (cases_Bool (nat_lt (f.meta true (g First).bytes).stamp (f.meta false (g Second).bytes).stamp)) [
  | inl t ↦
      let e = cond-true _ (f.meta false (g Second).bytes) (f.meta true (g First).bytes) t in
      let w = law.meta_none false _ (ap (λ (m : Meta). m.stamp) (sym e) ∙ z) in
      ne (ap (λ (m : Meta). m.term) (e ∙ w))
  | inr t ↦
      let e = cond-false _ (f.meta false (g Second).bytes) (f.meta true (g First).bytes) t in
      let w = law.meta_none true _ (ap (λ (m : Meta). m.stamp) (sym e) ∙ z) in
      ne (ap (λ (m : Meta). m.term) (e ∙ w))
]

stamp_of : (z w b gap : Bool) (x y : ℕ) (K k : Kept) → w ≡ true → cond (z && w) NoMeta (cond b (cond gap (Gap x y) (Loaded K)) Damaged) ≡ Loaded k → z ≡ false
stamp_of true true b gap x y K k t e = absurd cc
stamp_of true false b gap x y K k t e = absurd cc
stamp_of false w b gap x y K k t e = refl

-- a loaded folder with a snapshot has metadata
pub answer_stamp : (m : Meta) (s : Snap) (b : Bool) (bs : List Log) (k : Kept) → 0 < s.index → answer m s b bs ≡ Loaded k → m.stamp ≢ 0
unfolding answer
answer_stamp m s b bs k pos e =
    let w : cond (has_any bs) true (nat_lt 0 s.index) ≡ true = elim (cases_Bool (nat_lt 0 s.index)) [
      | inl t ↦ either (has_any bs) _ t
      | inr t ↦ let l : s.index ≤ 0 = ltb-false _ _ t in absurd (omega arith)
    ] in
    eqb-false _ _ (stamp_of (m.stamp == 0) _ b _ _ _ _ k w e)
  where
    either : (c x : Bool) → x ≡ true → cond c true x ≡ true
    either true x t = refl
    either false x t = t
