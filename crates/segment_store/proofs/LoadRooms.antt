-- Bounds on the numbers of segments, and what the last one is.
use Rattle.std.proofs.Common.{◌≡◌, inl, inr, ℕ, zero, suc, ◌<◌, ◌≤◌, Bool, true, false, cond, List, [], ◌∷◌, ◌++◌, length, Option, Some, None, refl, sym, ap, ◌∙◌, subst, arith}
use Rattle.std.specs.Prelude.{map}
use Rattle.std.proofs.lemmas.List.{append-nil}
use Rattle.std.proofs.lemmas.Bool.{cases_Bool, cases_eq, and_parts}
use Rattle.store_laws.specs.Names.{Segment, NodeFiles}
use Rattle.store_laws.specs.Store.{Format, kept, answer, meta_of, snap_in, segments, sound, all_batches, is_whole, log_of, empty_log}
use Rattle.store_laws.specs.Settled.{file_log}
use Rattle.store_laws.specs.Damage.{Numbered, numbered, good_end}
use Rattle.store_laws.proofs.Folders.{segments_suc}
use Rattle.store_format.specs.declared.segment_log.LastSegment.{LastSegment}
use Rattle.store_format.specs.SegmentLog.{last_of, last_in}
use Rattle.segment_store.specs.Open.{segment_numbers}
use Rattle.segment_store.specs.Reads.{at}
use Rattle.segment_store.proofs.Listing.{numbers_same}

-- ---- a greater bound

room_at : (n : ℕ) (g : NodeFiles) → (g (Segment n)).there ≡ false → segments (suc n) g ≡ segments n g
room_at n g none = segments_suc n g ∙ ap (λ (b : Bool). segments n g ++ cond b ((g (Segment n)).bytes ∷ []) []) none ∙ append-nil (segments n g)

pub segments_up : (n top : ℕ) (g : NodeFiles) → ((j : ℕ) → n ≤ j → (g (Segment j)).there ≡ false) → n ≤ top → segments top g ≡ segments n g
segments_up n zero g none h = ap (λ (t : ℕ). segments t g) (omega (arith, h))
segments_up n (suc top) g none h = elim (cases_eq n (suc top)) [
  | inl e ↦ ap (λ (t : ℕ). segments t g) (sym e)
  | inr ne ↦ let low : n ≤ top = omega (arith, h, ne) in room_at top g (none top low) ∙ segments_up n top g none low
]

pub numbers_up : (n top : ℕ) (g : NodeFiles) → ((j : ℕ) → n ≤ j → (g (Segment j)).there ≡ false) → n ≤ top → segment_numbers top g ≡ segment_numbers n g
numbers_up n zero g none h = ap (λ (t : ℕ). segment_numbers t g) (omega (arith, h))
numbers_up n (suc top) g none h = elim (cases_eq n (suc top)) [
  | inl e ↦ ap (λ (t : ℕ). segment_numbers t g) (sym e)
  | inr ne ↦ let low : n ≤ top = omega (arith, h, ne) in numbers_same top g (none top low) ∙ numbers_up n top g none low
]

pub kept_of : (f : Format) (n top : ℕ) (g : NodeFiles) → segments top g ≡ segments n g → kept f top g ≡ kept f n g
unfolding kept
kept_of f n top g e = λ i. answer (meta_of f g) (snap_in f g) (sound f (e i)) (all_batches f (e i))

pub log_up : (f : Format) (n top : ℕ) (g : NodeFiles) → segments top g ≡ segments n g → file_log f top g ≡ file_log f n g
log_up f n top g e = ap (λ (l : List (List ℕ)). log_of empty_log (all_batches f l)) e

-- ---- each segment with its number

map_push : (g : NodeFiles) (xs : List ℕ) (b : Bool) (n : ℕ) → map (at g) (xs ++ cond b (n ∷ []) []) ≡ map (at g) xs ++ cond b (at g n ∷ []) []
map_push g [] true n = refl
map_push g [] false n = refl
map_push g (x ∷ xs) b n = ap (λ (l : List Numbered). at g x ∷ l) (map_push g xs b n)

pub numbered_at : (top : ℕ) (g : NodeFiles) → numbered top g ≡ map (at g) (segment_numbers top g)
unfolding numbered segment_numbers
numbered_at zero g = refl
numbered_at (suc n) g = ap (λ (l : List Numbered). l ++ cond (g (Segment n)).there (at g n ∷ []) []) (numbered_at n g) ∙ sym (map_push g (segment_numbers n g) (g (Segment n)).there n)

-- ---- the last segment

sound_front : (f : Format) (x : List ℕ) (xs : List (List ℕ)) (y : List ℕ) → sound f ((x ∷ xs) ++ y ∷ []) ≡ true → (is_whole f x ≡ true) × (sound f (xs ++ y ∷ []) ≡ true)
unfolding sound
sound_front f x [] y e = ((and_parts (is_whole f x) true e).0, refl)
sound_front f x (z ∷ xs) y e = and_parts (is_whole f x) (sound f ((z ∷ xs) ++ y ∷ [])) e

-- each of these is whole
abbrev AllWhole : Format → List (List ℕ) → Type 0
AllWhole f [] = Unit {0}
AllWhole f (x ∷ xs) = (is_whole f x ≡ true) × AllWhole f xs

all_front : (f : Format) (xs : List (List ℕ)) (y : List ℕ) → sound f (xs ++ y ∷ []) ≡ true → AllWhole f xs
all_front f [] y e = tt
all_front f (x ∷ xs) y e = let s = sound_front f x xs y e in (s.0, all_front f xs y s.1)

all_parts : (f : Format) (xs ys : List (List ℕ)) → AllWhole f (xs ++ ys) → AllWhole f xs × AllWhole f ys
all_parts f [] ys a = (tt, a)
all_parts f (x ∷ xs) ys a = let r = all_parts f xs ys a.1 in ((a.0, r.0), r.1)

whole_below : (f : Format) (n : ℕ) (g : NodeFiles) → AllWhole f (segments n g) → (j : ℕ) → j < n → (g (Segment j)).there ≡ true → is_whole f (g (Segment j)).bytes ≡ true
unfolding segments
whole_below f zero g a j h t = absurd (omega (arith, h))
whole_below f (suc n) g a j h t =
    let p = all_parts f (segments n g) (cond (g (Segment n)).there ((g (Segment n)).bytes ∷ []) []) a in
    elim (cases_eq j n) [
      | inl e ↦ subst (λ (i : ℕ). is_whole f (g (Segment i)).bytes ≡ true) (sym e) (subst (λ (b : Bool). AllWhole f (cond b ((g (Segment n)).bytes ∷ []) [])) (subst (λ (i : ℕ). (g (Segment i)).there ≡ true) e t) p.1).0
      | inr ne ↦ whole_below f n g p.0 j (omega (arith, h, ne)) t
    ]

-- the last segment below a number is this one, and the ones before it are whole
pub record IsLast (f : Format) (top : ℕ) (g : NodeFiles) (x : LastSegment) : Type 0 where
  pub number : x.number < top
  pub there : (g (Segment x.number)).there ≡ true
  pub size : x.size ≡ length (g (Segment x.number)).bytes
  pub good : x.good ≡ good_end f (g (Segment x.number)).bytes
  pub above : (j : ℕ) → x.number < j → j < top → (g (Segment j)).there ≡ false
  pub below : (j : ℕ) → j < x.number → (g (Segment j)).there ≡ true → is_whole f (g (Segment j)).bytes ≡ true

abbrev pub EndsWith : Format → ℕ → NodeFiles → Option LastSegment → Type 0
EndsWith f top g None = (j : ℕ) → j < top → (g (Segment j)).there ≡ false
EndsWith f top g (Some x) = IsLast f top g x

last_push : (f : Format) (xs : List Numbered) (x : Numbered) → last_in f (xs ++ x ∷ []) ≡ Some (last_of f x)
last_push f [] x = refl
last_push f (y ∷ []) x = refl
last_push f (y ∷ z ∷ xs) x = last_push f (z ∷ xs) x

further : (f : Format) (n : ℕ) (g : NodeFiles) (o : Option LastSegment) → (g (Segment n)).there ≡ false → EndsWith f n g o → EndsWith f (suc n) g o
further f n g None none e = λ j h. elim (cases_eq j n) [
  | inl q ↦ subst (λ (i : ℕ). (g (Segment i)).there ≡ false) (sym q) none
  | inr ne ↦ e j (omega (arith, h, ne))
]
further f n g (Some x) none e = record {
  number = omega (arith, e.number);
  there = e.there;
  size = e.size;
  good = e.good;
  above = λ j l h. elim (cases_eq j n) [
    | inl q ↦ subst (λ (i : ℕ). (g (Segment i)).there ≡ false) (sym q) none
    | inr ne ↦ e.above j l (omega (arith, h, ne))
  ];
  below = e.below;
}

pub ends_with : (f : Format) (top : ℕ) (g : NodeFiles) → sound f (segments top g) ≡ true → EndsWith f top g (last_in f (numbered top g))
unfolding segments numbered
ends_with f zero g s = λ j h. absurd (omega (arith, h))
ends_with f (suc n) g s = elim (cases_Bool (g (Segment n)).there) [
  | inl t ↦
      let last : last_in f (numbered n g ++ cond (g (Segment n)).there (at g n ∷ []) []) ≡ Some (last_of f (at g n)) = ap (λ (b : Bool). last_in f (numbered n g ++ cond b (at g n ∷ []) [])) t ∙ last_push f (numbered n g) (at g n) in
      let whole : AllWhole f (segments n g) = all_front f (segments n g) (g (Segment n)).bytes (ap (λ (b : Bool). sound f (segments n g ++ cond b ((g (Segment n)).bytes ∷ []) [])) (sym t) ∙ s) in
      subst (EndsWith f (suc n) g) (sym last) (record {
        number = omega arith;
        there = t;
        size = refl;
        good = refl;
        above = λ j l h. absurd (omega (arith, l, h));
        below = λ j h q. whole_below f n g whole j h q;
      })
  | inr none ↦
      let last : last_in f (numbered n g ++ cond (g (Segment n)).there (at g n ∷ []) []) ≡ last_in f (numbered n g) = ap (λ (b : Bool). last_in f (numbered n g ++ cond b (at g n ∷ []) [])) none ∙ ap (last_in f) (append-nil (numbered n g)) in
      let before : sound f (segments n g) ≡ true = ap (sound f) (sym (append-nil (segments n g)) ∙ ap (λ (b : Bool). segments n g ++ cond b ((g (Segment n)).bytes ∷ []) []) (sym none)) ∙ s in
      subst (EndsWith f (suc n) g) (sym last) (further f n g (last_in f (numbered n g)) none (ends_with f n g before))
]
