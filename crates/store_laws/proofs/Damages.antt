-- Damage has a place.
use Rattle.std.proofs.Common.{◌≡◌, ℕ, zero, suc, cond, Bool, true, false, not, List, [], ◌∷◌, ◌++◌, Option, Some, None, refl, sym, ap, ◌∙◌}
use Rattle.std.specs.Prelude.{◌&&◌, map, is_some}
use Rattle.std.proofs.lemmas.List.{map-append}
use Rattle.store_laws.specs.Names.{Segment, NodeFiles}
use Rattle.store_laws.specs.Store.{Format, Meta, Snap, Log, Kept, Loaded, Damaged, NoMeta, Gap, answer, lacks_meta, kept, meta_of, snap_in, segments, sound, all_batches, is_whole}
use Rattle.store_laws.specs.Damage.{Numbered, numbered, first_damage, good_end, damage, DamagePlaces}

abbrev pub bytes_of : Numbered → List ℕ
bytes_of x = x.bytes

one : (b : Bool) (n : ℕ) (bytes : List ℕ) → cond b (bytes ∷ []) [] ≡ map bytes_of (cond b (record { number = n; bytes = bytes } ∷ []) [])
one true n bytes = refl
one false n bytes = refl

pub same_segments : (top : ℕ) (g : NodeFiles) → segments top g ≡ map bytes_of (numbered top g)
unfolding segments numbered
same_segments zero g = refl
same_segments (suc n) g =
    let x = g (Segment n) in
    (λ i. same_segments n g i ++ one x.there n x.bytes i) ∙ sym (map-append bytes_of (numbered n g) (cond x.there (record { number = n; bytes = x.bytes } ∷ []) []))

step : (b s : Bool) (rest : Option (ℕ × ℕ)) (here : ℕ × ℕ) → s ≡ not (is_some rest) → (b && s) ≡ not (is_some (cond b rest (Some here)))
step true s rest here e = e
step false s rest here e = refl

sound_where : (f : Format) (xs : List Numbered) → sound f (map bytes_of xs) ≡ not (is_some (first_damage f xs))
unfolding sound first_damage
sound_where f [] = refl
sound_where f (x ∷ []) = refl
sound_where f (x ∷ y ∷ rest) = step (is_whole f x.bytes) (sound f (map bytes_of (y ∷ rest))) (first_damage f (y ∷ rest)) (x.number, good_end f x.bytes) (sound_where f (y ∷ rest))

sound_is : (f : Format) (top : ℕ) (g : NodeFiles) → sound f (segments top g) ≡ not (is_some (damage f top g))
sound_is f top g = ap (sound f) (same_segments top g) ∙ sound_where f (numbered top g)

unsound : (z b gap : Bool) (x y : ℕ) (k : Kept) → cond z NoMeta (cond b (cond gap (Gap x y) (Loaded k)) Damaged) ≡ Damaged → b ≡ false
unsound true b gap x y k e = absurd cc
unsound false false gap x y k e = refl
unsound false true true x y k e = absurd cc
unsound false true false x y k e = absurd cc

damaged_unsound : (m : Meta) (s : Snap) (b : Bool) (bs : List Log) → answer m s b bs ≡ Damaged → b ≡ false
unfolding answer
damaged_unsound m s b bs e = unsound (lacks_meta m s bs) b _ _ _ _ e

some_of : (o : Option (ℕ × ℕ)) → not (is_some o) ≡ false → is_some o ≡ true
some_of None e = absurd cc
some_of (Some x) e = refl

pub damage_places : DamagePlaces
unfolding kept
damage_places f top g = record {
  sound = sound_is f top g;
  damaged = λ e. some_of (damage f top g) (sym (sound_is f top g) ∙ damaged_unsound (meta_of f g) (snap_in f g) (sound f (segments top g)) (all_batches f (segments top g)) e);
}
